use Rattle.std.proofs.Common.{arith}
use Rattle.split_core.proofs.Trackers.{place_is, few_places}
use Rattle.split_core.proofs.tracker.Tracker.place_in.Goals as goal

pub overflow_add-result : goal.overflow_add-result
overflow_add-result c =
    let t = c.args.self in
    let law = c.requires.lawful in
    omega (arith, law.first, few_places c.args.comers t.diagonal law.few law.inside, c.requires.within, law.few, law.inside)

pub returns : goal.returns
returns c = place_is c.args.self.diagonal c.args.self.first c.args.row c.requires.lawful.first c.requires.within
