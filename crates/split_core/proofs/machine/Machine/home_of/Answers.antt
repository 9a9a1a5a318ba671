use Rattle.std.proofs.Common.{sym}
use Rattle.std.proofs.lemmas.Bool.{both_ways}
use Rattle.std.proofs.lemmas.Option.{slice_get_within}
use Rattle.split_core.specs.Grid.{run, opening}
use Rattle.split_core.proofs.Positions.{home_unknown, home_at, home_moving}
use Rattle.split_core.proofs.machine.Machine.home_of.Goals as goal

pub returns-in_default-clause-run : goal.returns-in_default-clause-run
returns-in_default-clause-run g c ids events end =
    sym (home_unknown c.args.self.now.walkers.items (run events (opening ids)) end.agrees.comers c.args.id c.in_default.ensures)

pub returns-then-is_stopped-clause-run : goal.returns-then-is_stopped-clause-run
returns-then-is_stopped-clause-run g c ids events end =
    sym (home_at c.args.self.now.walkers.items (run events (opening ids)) end.agrees.comers c.args.id c.in-Some.who c.in-Some.known c.in-Some.ensures (c.is_stopped.ensures.0 c.if-is_stopped.true))

pub returns-then-is_stopped-clause-within : goal.returns-then-is_stopped-clause-within
returns-then-is_stopped-clause-within g c = slice_get_within c.args.self.now.walkers.items c.in-Some.who c.in-Some.known c.in-Some.ensures.there

pub returns-else-is_stopped-clause-run : goal.returns-else-is_stopped-clause-run
returns-else-is_stopped-clause-run g c ids events end =
    sym (home_moving c.args.self.now.walkers.items (run events (opening ids)) end.agrees.comers c.args.id c.in-Some.who c.in-Some.known c.in-Some.ensures (λ q. both_ways _ c.if-is_stopped.false (c.is_stopped.ensures.1 q)))
