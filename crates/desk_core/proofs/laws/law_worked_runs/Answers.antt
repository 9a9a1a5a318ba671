use Rattle.desk_core.proofs.Worked.{half_written_run, full_journal_run, own_requests_run}
use Rattle.desk_core.proofs.laws.law_worked_runs.Goals as goal

pub returns : goal.returns
returns c = record { half_written = half_written_run; full_journal = full_journal_run; own_requests = own_requests_run }
