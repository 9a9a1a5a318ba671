use Rattle.split_core.proofs.TrailReads.{moment, ways_found}
use Rattle.split_core.proofs.TrailBeside.{finds_closed}
use Rattle.split_core.proofs.laws.law_trail_reads.Goals as goal

pub returns-clause-moments : goal.returns-clause-moments
returns-clause-moments c n words some = moment n words some

pub returns-clause-ways : goal.returns-clause-ways
returns-clause-ways c n = ways_found n

pub returns-clause-closed : goal.returns-clause-closed
returns-clause-closed c ids d = finds_closed ids d
