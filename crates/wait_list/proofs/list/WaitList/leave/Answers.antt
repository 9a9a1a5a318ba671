use Rattle.std.proofs.Common.{subst, sym, ◌∙◌, ap, ◌<◌, length, get_or}
use Rattle.std.proofs.Common.{◌≡◌, false, List}
use Rattle.wait_list.specs.declared.waiter.Waiter.{Waiter}
use Rattle.wait_list.specs.Waiters.{AreWaiters, without, has_number, is_woken_at}
use Rattle.wait_list.proofs.Numbers.{left_at, was_woken_at, are_waiters_without, without_none, not_woken_none, has_not_without}
use Rattle.wait_list.proofs.list.WaitList.leave.Goals as goal
use Rattle.wait_list.proofs.list.WaitList.leave.Goals.{After-remove, In-None}

-- what the search found, of the list itself
place : (c : After-remove) → (c.in-Some.place < length c.self.inside.entries.items) × ((get_or c.self.inside.entries.items c.in-Some.place c.remove.result).number ≡ c.args.number)
place c = subst (λ (ws : List Waiter). (c.in-Some.place < length ws) × ((get_or ws c.in-Some.place c.remove.result).number ≡ c.args.number)) c.as_slice.ensures.value (c.in-Some.ensures.some.0, c.in-Some.ensures.some.1 c.remove.result)

rest : (c : After-remove) → c.remove.new.self.items ≡ without c.args.number c.self.inside.entries.items
rest c = c.remove.ensures.items ∙ sym (left_at c.args.number c.self.inside.entries.items c.in-Some.place c.remove.result c.self.invariant (place c).0 (place c).1)

pub invariant_of-self : goal.invariant_of-self
invariant_of-self c = subst AreWaiters (sym (rest c)) (are_waiters_without c.args.number c.self.inside.entries.items c.self.invariant)

pub returns-in-Some-clause-was_woken : goal.returns-in-Some-clause-was_woken
returns-in-Some-clause-was_woken c =
    ap (λ (w : Waiter). w.is_woken) c.remove.ensures.value
    ∙ (was_woken_at c.args.number c.self.inside.entries.items c.in-Some.place c.remove.result c.self.invariant (place c).0 (place c).1
    ∙ ap (is_woken_at c.args.number) c.self.view_is)

pub returns-in-Some-clause-list : goal.returns-in-Some-clause-list
returns-in-Some-clause-list c = rest c ∙ ap (without c.args.number) c.self.view_is

pub returns-in-Some-clause-gone : goal.returns-in-Some-clause-gone
returns-in-Some-clause-gone c = ap (has_number c.args.number) (rest c) ∙ has_not_without c.args.number c.self.inside.entries.items c.self.invariant.apart

-- it is not there
none : (c : In-None) → has_number c.args.number c.args.self.now ≡ false
none c = sym (ap (has_number c.args.number) (c.as_slice.ensures.value ∙ c.self.view_is)) ∙ sym c.in-None.ensures.found

pub returns-in-None-clause-was_woken : goal.returns-in-None-clause-was_woken
returns-in-None-clause-was_woken c = sym (not_woken_none c.args.number c.args.self.now (none c))

pub returns-in-None-clause-list : goal.returns-in-None-clause-list
returns-in-None-clause-list c = sym (without_none c.args.number c.args.self.now (none c))
