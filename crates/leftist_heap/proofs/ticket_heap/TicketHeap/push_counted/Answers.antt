use Rattle.std.proofs.Common.{◌∷◌, sym, subst, ◌∙◌, ap, length, arith}
use Rattle.std.proofs.lemmas.List.Sorted.{length_permutation}
use Rattle.leftist_heap.specs.Order.{with_item_by, not_above_by, IsRankedAmong}
use Rattle.leftist_heap.specs.Holding.{Holding}
use Rattle.leftist_heap.specs.Places.{HasNone, IsPlaced}
use Rattle.leftist_heap.proofs.Orders.{exact_order}
use Rattle.leftist_heap.proofs.ByRank.{ranked_with, ranked_permuted, all_of_content}
use Rattle.leftist_heap.proofs.Arrays.{content-pushed, length-content}
use Rattle.leftist_heap.specs.Depth.{depth_at}
use Rattle.leftist_heap.proofs.Depths.{shallow}
use Rattle.leftist_heap.proofs.Placings.{placed_still}
use Rattle.leftist_heap.proofs.ticket_heap.TicketHeap.push_counted.Goals as goal

pub put_in-requires-clause-few : goal.put_in-requires-clause-few
put_in-requires-clause-few g c =
    let size = sym (length-content (not_above_by g.T.Ord.cmp) c.self.inside.heap.items) ∙ ap (λ (s : Holding _). length s.items) c.self.view_is in
    let few = c.requires.room in
    omega arith

pub returns-in-Ok-clause-ok : goal.returns-in-Ok-clause-ok
returns-in-Ok-clause-ok g c =
    let before = not_above_by g.T.Ord.cmp in
    let o = exact_order g.T.Ord.cmp g.met.T.Ord.total g.met.T.Exact.equal_is_same in
    let xs = c.self.inside.heap.items in
    let x = c.args.item in
    content-pushed before o x xs c.put_in.new.heap.items c.in-Ok.ensures.permutation ∙ ap (λ (s : Holding _). with_item_by before x s.items) c.self.view_is

pub returns-in-Err-clause-full : goal.returns-in-Err-clause-full
returns-in-Err-clause-full g c =
    let size = sym (length-content (not_above_by g.T.Ord.cmp) c.self.inside.heap.items) ∙ ap (λ (s : Holding _). length s.items) c.self.view_is in
    let room = ap (λ (s : Holding _). s.room) c.self.view_is in
    let refused = c.in-Err.ensures.full in
    omega arith

pub invariant_of-self-in-Ok : goal.invariant_of-self-in-Ok
invariant_of-self-in-Ok g c =
    let xs = c.self.inside.heap.items in
    let put = c.in-Ok.ensures in
    let counted = length_permutation _ _ put.permutation in
    let size = sym (length-content (not_above_by g.T.Ord.cmp) xs) ∙ ap (λ (s : Holding _). length s.items) c.self.view_is in
    let few = c.requires.room in
    let opened = c.opens-is_kept.ensures in
    let its = c.ticket.ensures in
    let cmp = g.T.Ord.cmp in
    let o = exact_order cmp g.met.T.Ord.total g.met.T.Exact.equal_is_same in
    let rank_of = g.T.Exact.rank_of in
    let x = c.args.item in
    let new = all_of_content (not_above_by cmp) _ xs (subst (λ (s : Holding _). IsRankedAmong cmp rank_of x s.items) (sym c.self.view_is) c.requires.ranked) in
    record {
      heap = put.heap;
      ranked = ranked_permuted rank_of cmp (x ∷ xs) c.put_in.new.heap.items put.permutation (ranked_with rank_of cmp o x xs c.self.invariant.ranked new);
      few = omega arith;
      placed = λ e.
          put.placed (ap (g.P.Places.table c.opens-is_kept.new.places).keeps (sym its) ∙ opened.kept e)
          (subst (HasNone g.T.HasTicket.ticket_of xs (length xs)) its
          (subst (λ l. HasNone g.T.HasTicket.ticket_of l (length l) c.ticket.result) c.deref.ensures.value (opened.free e)))
          (placed_still g.T.HasTicket.ticket_of xs _ _ opened.others
          (subst (IsPlaced g.T.HasTicket.ticket_of (g.P.Places.table c.self.inside.places)) c.deref.ensures.value (opened.placed e)));
    }

pub returns-in-Ok-clause-counted : goal.returns-in-Ok-clause-counted
returns-in-Ok-clause-counted g c =
    let size = sym (length-content (not_above_by g.T.Ord.cmp) c.self.inside.heap.items) ∙ ap (λ (s : Holding _). length s.items) c.self.view_is in
    let put = c.in-Ok.ensures.counted in
    omega (arith, ap depth_at size)

pub returns-in-Ok-clause-few : goal.returns-in-Ok-clause-few
returns-in-Ok-clause-few g c =
    let few = c.self.invariant.few in
    let put = c.in-Ok.ensures.counted in
    omega (arith, shallow (length c.self.inside.heap.items) (omega arith))
