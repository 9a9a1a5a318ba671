-- Why the merge of two lawful heaps is a lawful heap with the items of both.
use Rattle.std.proofs.Common.{◌≡◌, ℕ, ◌+◌, ◌≤◌, ◌<◌, ◌^◌, Bool, true, false, nat_lt, if◌then◌else◌, List, [], ◌∷◌, length, refl, sym, ◌∙◌, ap}
use Rattle.std.proofs.Common.{subst, arith, inl, inr}
use Rattle.std.specs.List.{AllByRecursion}
use Rattle.std.proofs.lemmas.Bool.{ltb-true, ltb-false}
use Rattle.leftist_heap.specs.Order.{with_item_by}
use Rattle.leftist_heap.specs.Order.{with_items_by}
use Rattle.leftist_heap.specs.Tree.{Tree, nothing, node, items_of, rank_of, content_of, IsUnder, IsHeapOrdered, IsLawful}
use Rattle.leftist_heap.specs.Merge.{joined, IsMerge, AreTheTwo}
use Rattle.leftist_heap.proofs.Ascending.{all-append}
use Rattle.leftist_heap.proofs.Orders.{IsExactOrder}
use Rattle.std.proofs.lemmas.List.{length-append}
use Rattle.leftist_heap.proofs.Ranks.{low_rank}
use Rattle.leftist_heap.proofs.Contents.{with_items-append, with_items-comm, length-with_items, put-first, all-with_items}

module _ {X : Type 0} (goes_before : X → X → Bool) where
  joined_either : (P : Tree X → Type 0) (x : X) (a b : Tree X) → (nat_lt (rank_of a) (rank_of b) ≡ true → P (node x (1 + rank_of a) b a))
      → (nat_lt (rank_of a) (rank_of b) ≡ false → P (node x (1 + rank_of b) a b)) → P (joined x a b)
  joined_either P x a b yes' no' = at_choice (nat_lt (rank_of a) (rank_of b)) yes' no' where
    at_choice : (c : Bool) → (c ≡ true → P (node x (1 + rank_of a) b a)) → (c ≡ false → P (node x (1 + rank_of b) a b))
        → P (if c then node x (1 + rank_of a) b a else node x (1 + rank_of b) a b)
    at_choice true p q = p refl
    at_choice false p q = q refl

  joined-lawful : (x : X) (a b : Tree X) → IsLawful goes_before a → IsLawful goes_before b → IsUnder goes_before x a
      → IsUnder goes_before x b → IsLawful goes_before (joined x a b)
  joined-lawful x a b p q u v = joined_either (IsLawful goes_before) x a b
      (λ e. let lower = ltb-true (rank_of a) (rank_of b) e in
      record { ordered = (v, u, q.ordered, p.ordered); leftist = (refl, omega (arith, lower), q.leftist, p.leftist) })
      (λ e. let lower = ltb-false (rank_of a) (rank_of b) e in
      record { ordered = (u, v, p.ordered, q.ordered); leftist = (refl, omega (arith, lower), p.leftist, q.leftist) })

  joined-under : (y x : X) (a b : Tree X) → goes_before y x ≡ true → IsUnder goes_before y (joined x a b)
  joined-under y x a b h = joined_either (IsUnder goes_before y) x a b (λ e. h) (λ e. h)

  module _ (o : IsExactOrder goes_before) where
    -- which of two heaps is called the first makes no difference
    pub merge-swapped : (a b m : Tree X) → IsMerge goes_before a b m → IsMerge goes_before b a m
    merge-swapped a b m h = record {
      lawful = h.lawful;
      content = h.content ∙ with_items-comm goes_before o (items_of a) (items_of b) [];
      under = λ x p q. h.under x q p;
    }

    joined-content : (x : X) (a b : Tree X)
        → content_of goes_before (joined x a b) ≡ with_item_by goes_before x (with_items_by goes_before (items_of a) (content_of goes_before b))
    joined-content x a b =
        joined_either (λ t. content_of goes_before t
        ≡ with_item_by goes_before x (with_items_by goes_before (items_of a) (content_of goes_before b))) x a b
        (λ e. ap (with_item_by goes_before x)
        (with_items-append goes_before (items_of b) (items_of a) [] ∙ with_items-comm goes_before o (items_of b) (items_of a) []))
        (λ e. ap (with_item_by goes_before x) (with_items-append goes_before (items_of a) (items_of b) []))

    -- A heap b whose root isn't above the root of a is merged into the right child of a, and the
    -- children are put in order.
    pub merge-below : (x : X) (kept : ℕ) (l r b m : Tree X) → IsLawful goes_before (node x kept l r) → IsUnder goes_before x b
        → IsMerge goes_before r b m → IsMerge goes_before (node x kept l r) b (joined x l m)
    merge-below x kept l r b m h u merged = record {
      lawful = joined-lawful x l m (record { ordered = h.ordered.2; leftist = h.leftist.2 }) merged.lawful h.ordered.0 (merged.under x h.ordered.1 u);
      content =
          joined-content x l m
          ∙ ap (λ (zs : List X). with_item_by goes_before x (with_items_by goes_before (items_of l) zs)) merged.content
          ∙ ap (with_item_by goes_before x) (sym (with_items-append goes_before (items_of l) (items_of r) (content_of goes_before b)));
      under = λ y p q. joined-under y x l m p;
    }

    under-all : (x : X) (t : Tree X) → IsHeapOrdered goes_before t → IsUnder goes_before x t
        → AllByRecursion (λ y. goes_before x y ≡ true) (items_of t)
    under-all x nothing h u = tt
    under-all x (node y kept l r) h u = (
      u,
      all-append (λ z. goes_before x z ≡ true) (items_of l) (items_of r) (under-all x l h.2 (further x y l u h.0))
          (under-all x r h.3 (further x y r u h.1)),
    )
      where
        further : (x y : X) (t : Tree X) → goes_before x y ≡ true → IsUnder goes_before y t → IsUnder goes_before x t
        further x y nothing p q = tt
        further x y (node z kept l r) p q = o.trans x y z p q

    -- the first item of a heap is the root's
    pub content-root : (x : X) (kept : ℕ) (l r : Tree X) → IsHeapOrdered goes_before (node x kept l r)
        → content_of goes_before (node x kept l r) ≡ x ∷ with_items_by goes_before (items_of l) (content_of goes_before r)
    content-root x kept l r h =
        let P : X → Type 0 = λ y. goes_before x y ≡ true in
        ap (with_item_by goes_before x) (with_items-append goes_before (items_of l) (items_of r) [])
        ∙ put-first goes_before o x (with_items_by goes_before (items_of l) (content_of goes_before r))
        (all-with_items goes_before P (items_of l) (content_of goes_before r) (under-all x l h.2 h.0)
        (all-with_items goes_before P (items_of r) [] (under-all x r h.3 h.1) tt))

  -- a merge has as many items as both
  pub length-merge : (a b m : Tree X) → IsMerge goes_before a b m → length (items_of m) ≡ length (items_of a) + length (items_of b)
  length-merge a b m h =
      let left = length-with_items goes_before (items_of m) [] in
      let right = length-with_items goes_before (items_of a) (content_of goes_before b) in
      let inner = length-with_items goes_before (items_of b) [] in
      omega (arith, ap length h.content)

  -- what holds of both of two trees, in whichever order
  pub both-of_two : (P : Tree X → Type 0) (a b c d : Tree X) → AreTheTwo a b c d → P a → P b → P c × P d
  both-of_two P a b c d (inl e) p q = (subst P (sym e.0) p, subst P (sym e.1) q)
  both-of_two P a b c d (inr e) p q = (subst P (sym e.0) q, subst P (sym e.1) p)

  pub sum-of_two : (f : Tree X → ℕ) (a b c d : Tree X) → AreTheTwo a b c d → f c + f d ≡ f a + f b
  sum-of_two f a b c d (inl e) = let p = ap f e.0 in let q = ap f e.1 in omega arith
  sum-of_two f a b c d (inr e) = let p = ap f e.0 in let q = ap f e.1 in omega arith

  pub merge-of_two : IsExactOrder goes_before → (a b c d m : Tree X) → AreTheTwo a b c d → IsMerge goes_before c d m → IsMerge goes_before a b m
  merge-of_two o a b c d m (inl e) h = subst (λ x. IsMerge goes_before x b m) e.0 (subst (λ y. IsMerge goes_before c y m) e.1 h)
  merge-of_two o a b c d m (inr e) h =
      merge-swapped o b a m (subst (λ x. IsMerge goes_before x a m) e.0 (subst (λ y. IsMerge goes_before c y m) e.1 h))

-- the trees in two boxes are those of the boxes, in whichever order
pub map-of_two : {B X : Type 0} (f : B → X) (a b c d : B) → AreTheTwo a b c d → AreTheTwo (f a) (f b) (f c) (f d)
map-of_two f a b c d (inl e) = inl (ap f e.0, ap f e.1)
map-of_two f a b c d (inr e) = inr (ap f e.0, ap f e.1)

-- What is known of two heaps a and b where the root of the one with the lower root is item, over
-- left and right, and other is the other heap.
pub record IsDescent {X : Type 0} (goes_before : X → X → Bool) (a b : Tree X) (item : X) (kept : ℕ) (left right other : Tree X) : Type 0 where
  pub top : IsLawful goes_before (node item kept left right)
  pub below : IsLawful goes_before right
  pub beside : IsLawful goes_before other
  pub fewer : length (items_of right) + length (items_of other) < length (items_of a) + length (items_of b)
  pub ranks : 1 + (rank_of right + rank_of other) ≡ rank_of a + rank_of b
  pub low : rank_of left ≤ 32

pub descent : {X : Type 0} (goes_before : X → X → Bool) (a b t other : Tree X) (item : X) (kept : ℕ) (left right : Tree X)
    → AreTheTwo a b t other → t ≡ node item kept left right → IsLawful goes_before a → IsLawful goes_before b
    → length (items_of a) + length (items_of b) < 2 ^ 32 → IsDescent goes_before a b item kept left right other
descent {X} goes_before a b t other item kept left right two is p q few =
    let both = both-of_two goes_before (IsLawful goes_before) a b t other two p q in
    let top : IsLawful goes_before (node item kept left right) = subst (IsLawful goes_before) is both.0 in
    let sizes = sum-of_two goes_before (λ u. length (items_of u)) a b t other two in
    let size : length (items_of t) ≡ length (items_of (node item kept left right)) = ap (λ (u : Tree X). length (items_of u)) is in
    let parts = length-append (items_of left) (items_of right) in
    let ranks = sum-of_two goes_before rank_of a b t other two in
    let rank : rank_of t ≡ 1 + rank_of right = ap rank_of is in
    record {
      top = top;
      below = record { ordered = top.ordered.3; leftist = top.leftist.3 };
      beside = both.1;
      fewer = omega arith;
      ranks = omega arith;
      low = low_rank left top.leftist.2 (omega arith);
    }
