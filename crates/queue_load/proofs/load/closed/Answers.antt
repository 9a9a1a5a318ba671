use Rattle.std.proofs.Common.{◌≡◌, false, List, sym, subst}
use Rattle.std.specs.List.{All}
use Rattle.flat_queue.specs.Closing.{ClosesAll}
use Rattle.flat_queue.specs.Members.{Joined}
use Rattle.queue_load.proofs.Leaving.{all_of_queue, all_lead_not}
use Rattle.queue_load.proofs.load.closed.Goals as goal

pub close_all-requires-clause-members : goal.close_all-requires-clause-members
close_all-requires-clause-members g c =
    subst (All (λ (m : Joined). m.queue ≡ c.args.queue)) (sym c.in-Ok.ensures) (all_of_queue c.args.queue c.args.plan c.args.worked.items c.requires.made)

pub close_all-requires-clause-led_not : goal.close_all-requires-clause-led_not
close_all-requires-clause-led_not g c =
    subst (All (λ (m : Joined). m.pen.leading ≡ false)) (sym c.in-Ok.ensures) (all_lead_not c.args.queue c.args.plan c.args.worked.items c.requires.made)

pub returns-in-Ok-clause-ok : goal.returns-in-Ok-clause-ok
returns-in-Ok-clause-ok g c = subst (λ (ms : List Joined). ClosesAll c.args.queue ms c.close_all.result) c.in-Ok.ensures c.close_all.ensures
