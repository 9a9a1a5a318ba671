-- What a removal by ticket takes of the content.
use Rattle.std.proofs.Common.{◌≡◌, ◌==◌, ◌+◌, ⊎_elim, ℕ, Option, Bool, true, false, List, [], ◌∷◌, length, get_or, if◌then◌else◌, remove, Some, None, refl, sym, ◌∙◌, ap, subst, arith}
use borrow.Author.Tests.{eqb-true, eq-eqb, ne_eqb}
use Rattle.core.proofs.slice.Lists.{any-default}
use Rattle.std.specs.List.{AllByRecursion}
use Rattle.std.specs.List.Sorted.{IsPermutation}
use Rattle.std.proofs.lemmas.List.Sorted.{length_permutation, IsPermutation-remove}
use Rattle.leftist_heap.specs.Order.{IsAscendingBy, with_item_by, with_items_by, by_rank}
use Rattle.leftist_heap.specs.Tickets.{item_with, without_ticket}
use Rattle.leftist_heap.specs.Sifting.{IsHeapBy}
use Rattle.leftist_heap.specs.Places.{Table, Finds, IsFirstWith, HasNone, IsLowerThanFound, IsPlaced, IsTicketHeap}
use Rattle.leftist_heap.proofs.Orders.{IsOrder, IsExactOrder, as_order, by_bool, itself}
use Rattle.leftist_heap.proofs.Contents.{put-first, put-behind, put-front, all-with_items, with_items-ascending}
use Rattle.leftist_heap.proofs.Shuffles.{content-permuted}
use Rattle.leftist_heap.proofs.Sifts.{by, by_place, all_from, first_before}
use Rattle.leftist_heap.proofs.ByRank.{ranked_permuted, ranked_without}
use Rattle.std.specs.declared.cmp.Ordering.{Ordering}

module _ {X : Type 0} (goes_before : X → X → Bool) where
  -- what holds of all items with x holds of all without it
  all_but : (P : X → Type 0) (x : X) (xs : List X) → AllByRecursion P (with_item_by goes_before x xs) → AllByRecursion P xs
  all_but P x [] h = tt
  all_but P x (y ∷ ys) h = at_choice (all_but P x ys) (goes_before y x) h where
    at_choice : (AllByRecursion P (with_item_by goes_before x ys) → AllByRecursion P ys) → (b : Bool)
        → AllByRecursion P (if b then y ∷ with_item_by goes_before x ys else x ∷ y ∷ ys) → AllByRecursion P (y ∷ ys)
    at_choice rest true h = (h.0, rest h.1)
    at_choice rest false h = h.1

module _ {X : Type 0} (ticket_of : X → ℕ) (ticket : ℕ) where
  item_here : (x : X) (xs : List X) (b : Bool) → (ticket_of x == ticket) ≡ b → item_with ticket_of ticket (x ∷ xs) ≡ (if b then Some x else item_with ticket_of ticket xs)
  item_here x xs b e = ap (λ (c : Bool). if c then Some x else item_with ticket_of ticket xs) e

  rest_here : (x : X) (xs : List X) (b : Bool) → (ticket_of x == ticket) ≡ b
      → without_ticket ticket_of ticket (x ∷ xs) ≡ (if b then xs else x ∷ without_ticket ticket_of ticket xs)
  rest_here x xs b e = ap (λ (c : Bool). if c then xs else x ∷ without_ticket ticket_of ticket xs) e

  -- no item has the ticket
  no_item : (xs : List X) → AllByRecursion (λ y. (ticket_of y == ticket) ≡ false) xs → item_with ticket_of ticket xs ≡ None
  no_item [] h = refl
  no_item (x ∷ xs) h = item_here x xs false h.0 ∙ no_item xs h.1

  no_rest : (xs : List X) → AllByRecursion (λ y. (ticket_of y == ticket) ≡ false) xs → without_ticket ticket_of ticket xs ≡ xs
  no_rest [] h = refl
  no_rest (x ∷ xs) h = rest_here x xs false h.0 ∙ ap (λ l. x ∷ l) (no_rest xs h.1)

  module _ (goes_before : X → X → Bool) (o : IsExactOrder goes_before) where
    -- x has the ticket, and may stand before all others that have it
    abbrev Takes : X → List X → Type 0
    Takes x ys = (item_with ticket_of ticket (with_item_by goes_before x ys) ≡ Some x)
        × (without_ticket ticket_of ticket (with_item_by goes_before x ys) ≡ ys)

    takes : (x : X) (ys : List X) → (ticket_of x == ticket) ≡ true → IsAscendingBy goes_before ys
        → AllByRecursion (λ y. (ticket_of y == ticket) ≡ true → goes_before x y ≡ true) ys → Takes x ys
    takes x [] its a low = (item_here x [] true its, rest_here x [] true its)
    takes x (y ∷ ys) its a low = cases (takes x ys its a.1 low.1) where
      cases : Takes x ys → Takes x (y ∷ ys)
      cases rest = by_bool (goes_before y x)
          (λ e. by_bool (ticket_of y == ticket)
          (λ f.
          let alike : x ≡ y = o.same x y (low.0 f) e in
          let put : with_item_by goes_before x (y ∷ ys) ≡ y ∷ with_item_by goes_before x ys = put-behind goes_before x y ys e in
          let first : with_item_by goes_before x ys ≡ x ∷ ys =
          put-first goes_before o x ys (subst (λ z. AllByRecursion (λ w. goes_before z w ≡ true) ys) (sym alike) a.0) in (
            ap (item_with ticket_of ticket) put ∙ item_here y (with_item_by goes_before x ys) true f ∙ ap Some (sym alike),
            ap (without_ticket ticket_of ticket) put ∙ rest_here y (with_item_by goes_before x ys) true f ∙ first ∙ ap (λ z. z ∷ ys) alike,
          ))
          (λ f.
          let put : with_item_by goes_before x (y ∷ ys) ≡ y ∷ with_item_by goes_before x ys = put-behind goes_before x y ys e in (
            ap (item_with ticket_of ticket) put ∙ item_here y (with_item_by goes_before x ys) false f ∙ rest.0,
            ap (without_ticket ticket_of ticket) put ∙ rest_here y (with_item_by goes_before x ys) false f ∙ ap (λ l. y ∷ l) rest.1,
          )))
          (λ e.
          let put : with_item_by goes_before x (y ∷ ys) ≡ x ∷ y ∷ ys = put-front goes_before x y ys e in (
            ap (item_with ticket_of ticket) put ∙ item_here x (y ∷ ys) true its,
            ap (without_ticket ticket_of ticket) put ∙ rest_here x (y ∷ ys) true its,
          ))

-- of one item more it is the first with the ticket, if it may stand before the one that was found
pub found_here : {X : Type 0} (ticket_of : X → ℕ) (goes_before : X → X → Bool) → IsOrder goes_before → (xs : List X) (n ticket : ℕ) (found : Option ℕ)
    → Finds ticket_of goes_before xs n ticket found → IsLowerThanFound goes_before xs n found true
    → ((d : X) → ticket_of (get_or xs n d) ≡ ticket) → IsFirstWith ticket_of goes_before xs (n + 1) ticket n
found_here ticket_of goes_before o xs n ticket None h low has = record {
  within = omega arith;
  has = has;
  first = λ k d l e. by_place k n
      (λ here. by goes_before _ _ _ _ refl (ap (λ m. get_or xs m d) here) (itself goes_before o (get_or xs n d)))
      (λ other. absurd (h k d (omega arith) e));
}
found_here ticket_of goes_before o xs n ticket (Some j) h low has = record {
  within = omega arith;
  has = has;
  first = λ k d l e. by_place k n
      (λ here. by goes_before _ _ _ _ refl (ap (λ m. get_or xs m d) here) (itself goes_before o (get_or xs n d)))
      (λ other. ⊎_elim (λ u. o.trans _ _ _ (u.1 d) (h.first k d (omega arith) e)) (λ u. let f = u.0 in cc) low);
}

-- what is left of a ticket heap is one
pub still_ticket_heap : {X : Type 0} (cmp : X → X → Ordering) (rank_of ticket_of : X → ℕ) (xs zs : List X) (x : X) → IsPermutation xs (x ∷ zs)
    → (before after : Table) (is_placed : Bool) → IsTicketHeap ticket_of cmp rank_of before xs is_placed → IsHeapBy (by_rank rank_of) zs
    → (IsPlaced ticket_of before xs → IsPlaced ticket_of after zs) → IsTicketHeap ticket_of cmp rank_of after zs is_placed
still_ticket_heap cmp rank_of ticket_of xs zs x p before after is_placed h heap keeps =
    let size : length (x ∷ zs) ≡ length xs = length_permutation xs (x ∷ zs) p in
    let few = h.few in
    record {
      heap = heap;
      ranked = ranked_without rank_of cmp x zs (ranked_permuted rank_of cmp xs (x ∷ zs) p h.ranked);
      few = omega arith;
      placed = λ e. keeps (h.placed e);
    }

-- An array from which x was taken, whatever the order of what is left.
module _ {X : Type 0} (goes_before : X → X → Bool) (o : IsExactOrder goes_before) (xs zs : List X) (x : X) (p : IsPermutation xs (x ∷ zs)) where
  parted : with_items_by goes_before xs [] ≡ with_item_by goes_before x (with_items_by goes_before zs [])
  parted = sym (content-permuted goes_before o xs (x ∷ zs) p)

  others : (P : X → Type 0) → AllByRecursion P xs → AllByRecursion P (with_items_by goes_before zs [])
  others P h =
      all_but goes_before P x (with_items_by goes_before zs [])
      (subst (AllByRecursion P) parted (all-with_items goes_before P xs [] h tt))

  -- it is the first of all
  pub content_taken : AllByRecursion (λ y. goes_before x y ≡ true) xs → with_items_by goes_before xs [] ≡ x ∷ with_items_by goes_before zs []
  content_taken low = parted ∙ put-first goes_before o x (with_items_by goes_before zs []) (others (λ y. goes_before x y ≡ true) low)

  -- it is the first of a heap
  pub content_first : x ≡ get_or xs 0 x → IsHeapBy goes_before xs → with_items_by goes_before xs [] ≡ x ∷ with_items_by goes_before zs []
  content_first at h =
      let size : length (x ∷ zs) ≡ length xs = length_permutation xs (x ∷ zs) p in
      content_taken (all_from (λ y. goes_before x y ≡ true) xs
      (λ k d l. by goes_before _ _ _ _ (at ∙ any-default xs 0 x d (omega arith)) refl (first_before goes_before (as_order o) xs h k l d)))

  -- it is the first with its ticket
  module _ (ticket_of : X → ℕ) (ticket j : ℕ) (at : x ≡ get_or xs j x) (h : IsFirstWith ticket_of goes_before xs (length xs) ticket j) where
    removes : Takes ticket_of ticket goes_before o x (with_items_by goes_before zs [])
    removes =
        takes ticket_of ticket goes_before o x (with_items_by goes_before zs [])
        (ap (λ y. ticket_of y == ticket) at ∙ eq-eqb _ _ (h.has x))
        (with_items-ascending goes_before o zs [] tt)
        (others (λ y. (ticket_of y == ticket) ≡ true → goes_before x y ≡ true)
        (all_from (λ y. (ticket_of y == ticket) ≡ true → goes_before x y ≡ true) xs
        (λ k d l e. by goes_before _ _ _ _ (at ∙ any-default xs j x d h.within) refl (h.first k d l (eqb-true _ _ e)))))

    pub content_item : item_with ticket_of ticket (with_items_by goes_before xs []) ≡ Some x
    content_item = ap (item_with ticket_of ticket) parted ∙ removes.0

    pub content_rest : without_ticket ticket_of ticket (with_items_by goes_before xs []) ≡ with_items_by goes_before zs []
    content_rest = ap (without_ticket ticket_of ticket) parted ∙ removes.1

-- an array of which no item has the ticket
module _ {X : Type 0} (goes_before : X → X → Bool) (xs : List X) (ticket_of : X → ℕ) (ticket : ℕ) (h : HasNone ticket_of xs (length xs) ticket) where
  absent : AllByRecursion (λ y. (ticket_of y == ticket) ≡ false) (with_items_by goes_before xs [])
  absent =
      all-with_items goes_before (λ y. (ticket_of y == ticket) ≡ false) xs []
      (all_from (λ y. (ticket_of y == ticket) ≡ false) xs (λ k d l. ne_eqb _ _ (h k d l))) tt

  pub content_none : item_with ticket_of ticket (with_items_by goes_before xs []) ≡ None
  content_none = no_item ticket_of ticket _ absent

  pub content_same : without_ticket ticket_of ticket (with_items_by goes_before xs []) ≡ with_items_by goes_before xs []
  content_same = no_rest ticket_of ticket _ absent

-- an item that is there
pub item_there : {X : Type 0} (goes_before : X → X → Bool) → IsExactOrder goes_before → (xs : List X) (x : X) (ticket_of : X → ℕ) (ticket j : ℕ)
    → x ≡ get_or xs j x → IsFirstWith ticket_of goes_before xs (length xs) ticket j
    → item_with ticket_of ticket (with_items_by goes_before xs []) ≡ Some x
item_there goes_before o xs x ticket_of ticket j at h =
    content_item goes_before o xs (remove xs j) x (IsPermutation-remove xs j x h.within at) ticket_of ticket j at h
