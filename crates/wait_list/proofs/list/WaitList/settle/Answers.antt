use Rattle.std.proofs.Common.{◌≡◌, ◌↔◌, true, List, length, sym, ◌∙◌, ap, subst}
use Rattle.std.specs.List.{refill}
use Rattle.std.specs.Int.{bit_at}
use Rattle.wait_list.specs.declared.waiter.Waiter.{Waiter}
use Rattle.wait_list.specs.Waiters.{AreWaiters, is_woken_at}
use Rattle.wait_list.specs.Settled.{IsSettled, settled}
use Rattle.wait_list.proofs.Numbers.{are_waiters_along}
use Rattle.wait_list.proofs.Masks.{newly_awake}
use Rattle.wait_list.proofs.OnlyWakings.{same_numbers, only_settled}
use Rattle.wait_list.proofs.Settling.{is_settled, refilled_settled}
use Rattle.wait_list.proofs.list.WaitList.settle.Goals as goal
use Rattle.wait_list.proofs.list.WaitList.settle.Goals.{After-as_slice-2}

-- the list once it is settled
after : (c : After-as_slice-2) → refill (length c.self.inside.entries.items) c.self.inside.entries.items c.settle_all.new.waiters ≡ settled c.args.stock c.self.inside.entries.items
after c =
    refilled_settled c.args.stock c.self.inside.entries.items c.settle_all.new.waiters
    (c.settle_all.ensures ∙ ap (settled c.args.stock) c.as_mut_slice.ensures.value)

-- its waiters have numbers of their own
are_still : (c : After-as_slice-2) → AreWaiters (refill (length c.self.inside.entries.items) c.self.inside.entries.items c.settle_all.new.waiters)
are_still c =
    let ws = c.self.inside.entries.items in
    subst AreWaiters (sym (after c)) (are_waiters_along ws (settled c.args.stock ws) (same_numbers ws (settled c.args.stock ws) (only_settled c.args.stock ws)) c.self.invariant)

pub woken_among-requires : goal.woken_among-requires
woken_among-requires c = subst AreWaiters (sym c.as_slice-2.ensures.value) (are_still c)

pub invariant_of-self : goal.invariant_of-self
invariant_of-self c = are_still (goal.at.invariant_of-self c).After-as_slice-2

pub returns-clause-settled : goal.returns-clause-settled
returns-clause-settled c =
    subst (IsSettled c.args.stock) (sym (after (goal.at.returns-clause-settled c).After-as_slice-2)) (is_settled c.args.stock c.self.inside.entries.items)

pub returns-clause-wakes : goal.returns-clause-wakes
returns-clause-wakes c number =
    newly_awake c.woken_among.result c.woken_among-before.result number _ _ c.woken_among.type_inv c.woken_among-before.type_inv
    (subst (λ (ws : List Waiter). (bit_at c.woken_among-before.result number ≡ 1) ↔ (is_woken_at number ws ≡ true)) (c.as_slice.ensures.value ∙ c.self.view_is) (c.woken_among-before.ensures number))
    (subst (λ (ws : List Waiter). (bit_at c.woken_among.result number ≡ 1) ↔ (is_woken_at number ws ≡ true)) c.as_slice-2.ensures.value (c.woken_among.ensures number))
