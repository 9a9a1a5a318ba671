use Rattle.std.proofs.Common.{arith}
use Rattle.std.proofs.lemmas.Option.{slice_get_within}
use Rattle.queue_load.proofs.threads.all_work.Goals as goal

pub all_do-requires-clause-may : goal.all_do-requires-clause-may
all_do-requires-clause-may g c κs within i s at =
    let few = slice_get_within c.args.states.items i s at in
    (c.requires.states i s at, omega (arith, few, c.requires.few_workers), c.requires.until, c.requires.few)
