-- How the places of tickets are kept while items move.
use Rattle.std.proofs.Common.{◌≡◌, ◌+◌, ◌<◌, ◌≢◌, ℕ, true, List, [], ◌∷◌, ◌++◌, length, get_or, sym, ◌∙◌, ap, ◌-◌, arith}
use Rattle.std.specs.List.{SwappedAt}
use Rattle.std.proofs.Math.ListN.{length-append, get_or-append}
use Rattle.std.proofs.Math.Seq.{get_or-append_seam}
use Rattle.leftist_heap.specs.Places.{Table, IsMarked, StillKeeps, StillKeepsBut, IsPlaced, IsPlacedBut, HasNone}
use Rattle.leftist_heap.proofs.Sifts.{by_place}

module _ {X : Type 0} (ticket_of : X → ℕ) where
  -- the item at b goes to the hole a, and its ticket is marked with that
  module _ (xs ys : List X) (a b : ℕ) (before after : Table) (ticket : ℕ) (s : SwappedAt xs ys a b) (size : length ys ≡ length xs)
      (from : a < length xs) (to : b < length xs) (other : b ≢ a) (m : IsMarked before after ticket a)
      (its : (d : X) → ticket ≡ ticket_of (get_or xs b d)) where
    pub hole_moved : IsPlacedBut ticket_of before xs a → IsPlacedBut ticket_of after ys b
    hole_moved h = record {
      kept = λ k d last. by_place k a
          (λ e. m.kept _ ∙ ap (λ j. before.keeps (ticket_of (get_or ys j d))) e ∙ ap (λ x. before.keeps (ticket_of x)) (s.0 d) ∙ h.kept b d to)
          (λ n. by_place k b
          (λ e. m.kept _ ∙ ap (λ j. before.keeps (ticket_of (get_or ys j d))) e ∙ ap (λ x. before.keeps (ticket_of x)) (s.1 d) ∙ h.kept a d from)
          (λ l. m.kept _ ∙ ap (λ x. before.keeps (ticket_of x)) (s.2 k d n l) ∙ h.kept k d (omega arith)));
      there = λ k d last apart. by_place k a
          (λ e. ap (λ j. after.place_of (ticket_of (get_or ys j d))) e ∙ ap (λ x. after.place_of (ticket_of x)) (s.0 d) ∙ ap after.place_of (sym (its d))
          ∙ m.marked (ap before.keeps (its d) ∙ h.kept b d to) ∙ sym e)
          (λ n. ap (λ x. after.place_of (ticket_of x)) (s.2 k d n apart) ∙ m.others _ (λ e. apart (same k d (omega arith) n e)) ∙ h.there k d (omega arith) n);
      apart = λ k d last n e. by_place k a
          (λ f. h.apart b d to other (ap ticket_of (sym (s.0 d)) ∙ ap (λ j. ticket_of (get_or ys j d)) (sym f) ∙ e ∙ ap ticket_of (s.1 d)))
          (λ l. h.apart k d (omega arith) l (ap ticket_of (sym (s.2 k d l n)) ∙ e ∙ ap ticket_of (s.1 d)));
    } where
      same : (k : ℕ) (d : X) → k < length xs → k ≢ a → ticket_of (get_or xs k d) ≡ ticket → k ≡ b
      same k d last n e = sym (h.there k d last n) ∙ ap before.place_of (e ∙ its d) ∙ h.there b d to other

  -- the ticket of the item in the hole is marked with its place
  pub hole_filled : (xs : List X) (j : ℕ) (before after : Table) (ticket : ℕ) → IsMarked before after ticket j
      → ((d : X) → ticket ≡ ticket_of (get_or xs j d)) → IsPlacedBut ticket_of before xs j → IsPlaced ticket_of after xs
  hole_filled xs j before after ticket m its h = record {
    kept = λ k d last. m.kept _ ∙ h.kept k d last;
    there = λ k d last. by_place k j
        (λ e. ap (λ i. after.place_of (ticket_of (get_or xs i d))) e ∙ ap after.place_of (sym (its d))
        ∙ m.marked (ap before.keeps (its d) ∙ ap (λ i. before.keeps (ticket_of (get_or xs i d))) (sym e) ∙ h.kept k d last) ∙ sym e)
        (λ n. m.others _ (λ e. h.apart k d last n (e ∙ its d)) ∙ h.there k d last n);
  }

  -- items with one ticket are at one place
  one_place : (xs : List X) (table : Table) (i k : ℕ) (d : X) → IsPlaced ticket_of table xs → i < length xs → k < length xs
      → ticket_of (get_or xs i d) ≡ ticket_of (get_or xs k d) → i ≡ k
  one_place xs table i k d h p q e = sym (h.there i d p) ∙ ap table.place_of e ∙ h.there k d q

  -- An item is taken out from place j, and its ticket is closed.
  module _ (xs ys : List X) (j n : ℕ) (before after : Table) (ticket : ℕ) (count : n ≡ length xs) (size : length ys + 1 ≡ n) (within : j < n)
      (same : (k : ℕ) (d : X) → k ≢ j → k + 1 < n → get_or ys k d ≡ get_or xs k d)
      (closed : StillKeepsBut before after ticket) (its : (d : X) → ticket ≡ ticket_of (get_or xs j d)) where
    apart_from : (k : ℕ) (d : X) → IsPlaced ticket_of before xs → k < n → k ≢ j → ticket_of (get_or xs k d) ≢ ticket
    apart_from k d h last l e = l (one_place xs before k j d h (omega arith) (omega arith) (e ∙ its d))

    still : (k : ℕ) (d : X) → IsPlaced ticket_of before xs → k < n → k ≢ j
        → (after.keeps (ticket_of (get_or xs k d)) ≡ true) × (after.place_of (ticket_of (get_or xs k d)) ≡ k)
    still k d h last l =
        let kept = closed (ticket_of (get_or xs k d)) (apart_from k d h last l) (h.kept k d (omega arith)) in
        (kept.0, kept.1 ∙ h.there k d (omega arith))

    -- what took its place may have to be marked
    pub placed_without : j + 1 < n → ((d : X) → j + 1 < n → get_or ys j d ≡ get_or xs (n - 1) d)
        → IsPlaced ticket_of before xs → IsPlacedBut ticket_of after ys j
    placed_without inside end h = record {
      kept = λ k d last. by_place k j
          (λ e. ap (λ i. after.keeps (ticket_of (get_or ys i d))) e ∙ ap (λ x. after.keeps (ticket_of x)) (end d inside)
          ∙ (still (n - 1) d h (omega arith) (omega arith)).0)
          (λ l. ap (λ x. after.keeps (ticket_of x)) (same k d l (omega arith)) ∙ (still k d h (omega arith) l).0);
      there = λ k d last l. ap (λ x. after.place_of (ticket_of x)) (same k d l (omega arith)) ∙ (still k d h (omega arith) l).1;
      apart = λ k d last l e.
          let one : k ≡ n - 1 = one_place xs before k (n - 1) d h (omega arith) (omega arith)
          (ap ticket_of (sym (same k d l (omega arith))) ∙ e ∙ ap ticket_of (end d inside)) in
          absurd (omega arith);
    }

    -- it was the last
    pub placed_shorter : j + 1 ≡ n → IsPlaced ticket_of before xs → IsPlaced ticket_of after ys
    placed_shorter last h = record {
      kept = λ k d l. ap (λ x. after.keeps (ticket_of x)) (same k d (omega arith) (omega arith)) ∙ (still k d h (omega arith) (omega arith)).0;
      there = λ k d l. ap (λ x. after.place_of (ticket_of x)) (same k d (omega arith) (omega arith)) ∙ (still k d h (omega arith) (omega arith)).1;
    }

  -- an item whose ticket no other has is put in at the end, and has to be marked
  pub placed_with : (xs ys : List X) (x : X) (j : ℕ) (table : Table) → ys ≡ xs ++ x ∷ [] → j ≡ length xs → table.keeps (ticket_of x) ≡ true
      → HasNone ticket_of xs (length xs) (ticket_of x) → IsPlaced ticket_of table xs → IsPlacedBut ticket_of table ys j
  placed_with xs ys x j table is at keeps none h =
      let size : length ys ≡ length xs + 1 = ap length is ∙ length-append xs (x ∷ []) in
      let old = λ (k : ℕ) (d : X) (l : k < length xs). ap (λ l. get_or l k d) is ∙ get_or-append xs (x ∷ []) d k l in
      let new = λ (d : X). ap (λ k. get_or ys k d) at ∙ ap (λ l. get_or l (length xs) d) is ∙ get_or-append_seam xs x [] d in
      record {
        kept = λ k d last. by_place k j
            (λ e. ap (λ i. table.keeps (ticket_of (get_or ys i d))) e ∙ ap (λ x. table.keeps (ticket_of x)) (new d) ∙ keeps)
            (λ l. ap (λ x. table.keeps (ticket_of x)) (old k d (omega arith)) ∙ h.kept k d (omega arith));
        there = λ k d last l. ap (λ x. table.place_of (ticket_of x)) (old k d (omega arith)) ∙ h.there k d (omega arith);
        apart = λ k d last l e. none k d (omega arith) (ap ticket_of (sym (old k d (omega arith))) ∙ e ∙ ap ticket_of (new d));
      }

  -- what still keeps all keeps each place
  pub placed_still : (xs : List X) (before after : Table) → StillKeeps before after → IsPlaced ticket_of before xs → IsPlaced ticket_of after xs
  placed_still xs before after s h = record {
    kept = λ k d last. (s _ (h.kept k d last)).0;
    there = λ k d last. (s _ (h.kept k d last)).1 ∙ h.there k d last;
  }
