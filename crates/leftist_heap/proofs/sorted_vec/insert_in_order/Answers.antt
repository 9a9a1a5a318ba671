-- The items after the insert, read from behind, are the old ones with the item in its place.
use Rattle.std.proofs.Common.{rules, ◌≡◌, ◌∙◌, ap, sym, subst, reverse, take, drop, ◌∷◌, ◌++◌, List}
use Rattle.leftist_heap.specs.Order.{IsAscendingBy, with_item_by}
use Rattle.leftist_heap.specs.Order.{not_above_by}
use Rattle.leftist_heap.proofs.Orders.{exact_order}
use Rattle.leftist_heap.proofs.Descending.{pushed, pushed_ascends}
use Rattle.leftist_heap.proofs.sorted_vec.insert_in_order.Goals as goal

pub returns-in-Ok-clause-ok : goal.returns-in-Ok-clause-ok
returns-in-Ok-clause-ok g c =
    let before = not_above_by g.T.Ord.cmp in
    let o = exact_order g.T.Ord.cmp g.met.T.Ord.total g.met.T.Exact.equal_is_same in
    let xs = c.deref.result.now in
    let n = c.count_above-place.result in
    let seen : xs ≡ c.args.descending.now.items = search rules in
    let items : c.insert.new.self.items ≡ take n xs ++ c.args.item ∷ drop n xs = search rules in
    ap reverse items ∙ pushed before o xs n c.args.item c.count_above-place.ensures.above c.count_above-place.ensures.not_above
    ∙ ap (λ (ys : List _). with_item_by before c.args.item (reverse ys)) seen

pub returns-in-Ok-clause-ascending : goal.returns-in-Ok-clause-ascending
returns-in-Ok-clause-ascending g c =
    let before = not_above_by g.T.Ord.cmp in
    let o = exact_order g.T.Ord.cmp g.met.T.Ord.total g.met.T.Exact.equal_is_same in
    subst (IsAscendingBy before) (sym (returns-in-Ok-clause-ok g c))
    (pushed_ascends before o c.args.item (reverse c.args.descending.now.items) c.requires)
