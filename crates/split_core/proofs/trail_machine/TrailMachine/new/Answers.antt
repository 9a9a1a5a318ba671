use Rattle.std.proofs.Common.{Err, ap, sym}
use Rattle.split_core.specs.declared.ids.IdError.TheVariants.{NoMemory}
use Rattle.split_core.proofs.trail_machine.TrailMachine.new.Goals as goal

pub returns-in_err-check_ids-clause-memory : goal.returns-in_err-check_ids-clause-memory
returns-in_err-check_ids-clause-memory g c q =
    let same = rw q at c.from_residual.ensures.1 in
    absurd ((c.in_err-check_ids.ensures.refused NoMemory).0 (ap Err (sym same)))
