use Rattle.std.proofs.Common.{◌≡◌, ◌==◌, ◌<◌, List, length, get_or, true, sym, ◌∙◌, subst, arith}
use Rattle.std.specs.Int.{bit_at}
use Rattle.wait_list.specs.declared.waiter.Waiter.{Waiter}
use Rattle.wait_list.proofs.Numbers.{below_at}
use Rattle.wait_list.proofs.Leaving.{MaskLoop, one_goes}
use Rattle.wait_list.proofs.list.WaitList.leave_all.Goals as goal

pub is_in_mask-requires : goal.is_in_mask-requires
is_in_mask-requires c =
    let ws = c.loop-place.self-inside.entries.items in
    let inside : c.loop-place.place < length ws = omega (arith, c.loop-place-test.true, c.len.ensures.value) in
    subst (λ (vs : List Waiter). (get_or vs c.loop-place.place _).number < 64) (sym c.as_slice.ensures.value)
    (below_at ws c.loop-place.place _ c.loop-place.invariant.waiters.below inside)

pub loop-place-preserved-then-is_in_mask : goal.loop-place-preserved-then-is_in_mask
loop-place-preserved-then-is_in_mask c =
    let ws = c.loop-place.self-inside.entries.items in
    let inside : c.loop-place.place < length ws = omega (arith, c.loop-place-test.true, c.len.ensures.value) in
    subst (λ (vs : List Waiter). MaskLoop c.args.mask c.loop-place.place vs c.self.inside.entries.items) (sym c.remove.ensures.items)
    (one_goes c.args.mask c.loop-place.place ws c.self.inside.entries.items _ c.loop-place.invariant inside
    (subst (λ (vs : List Waiter). (bit_at c.args.mask (get_or vs c.loop-place.place _).number == 1) ≡ true) c.as_slice.ensures.value
    (sym c.is_in_mask.ensures ∙ c.if-is_in_mask.true)))
