use Rattle.std.proofs.Common.{subst, sym, lit<}
use Rattle.wait_list.specs.declared.waiter.Waiter.{Waiter}
use Rattle.std.proofs.Common.{List}
use Rattle.wait_list.specs.Waiters.{asleep, has_number}
use Rattle.std.proofs.Common.{◌≡◌, false}
use Rattle.wait_list.proofs.Numbers.{are_waiters_push, room_for_one}
use Rattle.wait_list.proofs.list.WaitList.wait.Goals as goal

pub push-requires : goal.push-requires
push-requires c = (
  lit< tt,
  room_for_one c.self.inside.entries.items c.args.number c.self.invariant c.requires.below
      (subst (λ (ws : List Waiter). has_number c.args.number ws ≡ false) (sym c.self.view_is) c.requires.apart),
)

pub invariant_of-self : goal.invariant_of-self
invariant_of-self c =
    rw c.push.ensures.items (are_waiters_push c.self.inside.entries.items (asleep c.args.number c.args.wants) c.self.invariant c.requires.below
    (subst (λ (ws : List Waiter). has_number c.args.number ws ≡ false) (sym c.self.view_is) c.requires.apart))
