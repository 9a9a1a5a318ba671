use Rattle.std.proofs.Common.{◌≡◌, ◌↔◌, ℕ, take, true}
use Rattle.std.specs.Int.{bit_at}
use Rattle.wait_list.specs.Waiters.{is_woken_at}
use Rattle.wait_list.proofs.list.woken_among.Given as goal

abbrev pub invariant-loop-waiter : goal.invariant-loop-waiter
invariant-loop-waiter l = (number : ℕ) → (bit_at l.mask number ≡ 1) ↔ (is_woken_at number (take l.waiter-index l.waiters) ≡ true)
