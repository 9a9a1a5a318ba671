-- How a heap is kept while one item rises or sinks.
use Rattle.std.proofs.Common.{◌≡◌, ◌+◌, ◌<◌, ◌≤◌, ◌≢◌, ◌⊎◌, inl, inr, ⊎_elim, eqb, ltb, ℕ, zero, suc, Bool, true, false, List, [], ◌∷◌, ◌++◌, length, get_or, refl, sym, ◌∙◌, ap, subst, arith}
use borrow.Author.Tests.{eqb-true, eqb-false, ltb-true, ltb-false}
use Rattle.std.specs.List.{SwappedAt, AllByRecursion}
use Rattle.std.proofs.Math.ListN.{length-append, get_or-append}
use Rattle.leftist_heap.specs.Sifting.{place_above, StandsBefore, IsHeapBy, IsRising, IsSinking, IsLowest}
use Rattle.leftist_heap.proofs.Orders.{IsOrder, itself}

-- the same place or another
pub by_place : {G : Type 0} (k j : ℕ) → (k ≡ j → G) → (k ≢ j → G) → G
by_place {G} k j same other = by_test (eqb k j) refl where
  by_test : (b : Bool) → eqb k j ≡ b → G
  by_test true e = same (eqb-true k j e)
  by_test false e = other (eqb-false k j e)

before : (i b : ℕ) → (i < b) ⊎ (b ≤ i)
before i b = by_test (ltb i b) refl where
  by_test : (t : Bool) → ltb i b ≡ t → (i < b) ⊎ (b ≤ i)
  by_test true e = inl (ltb-true i b e)
  by_test false e = inr (ltb-false i b e)

module _ {X : Type 0} (goes_before : X → X → Bool) where
  pub by : (a b x y : X) → a ≡ x → b ≡ y → goes_before x y ≡ true → goes_before a b ≡ true
  by a b x y p q h = (λ i. goes_before (p i) (q i)) ∙ h

  -- the item at c, the lowest below j, changes places with that at j, which sinks
  module _ (xs ys : List X) (j c : ℕ) (s : SwappedAt xs ys j c) (size : length ys ≡ length xs) (below : 0 < c) (within : c < length xs)
      (up : place_above c ≡ j)
      (low : (k : ℕ) → 0 < k → k < length xs → place_above k ≡ j → StandsBefore goes_before xs c k) where
    pub sinks : IsSinking goes_before xs j → IsSinking goes_before ys c
    sinks h = record {
      others = λ k first last apart over d.
          by_place k j
          (λ e. subst (λ m. goes_before (get_or ys (place_above m) d) (get_or ys m d) ≡ true) (sym e)
          (by _ _ _ _ (s.2 (place_above j) d (omega arith) (omega arith)) (s.0 d) (h.spanned c (omega arith) below within up d)))
          (λ n. by_place (place_above k) j
          (λ e. by _ _ _ _ (ap (λ m. get_or ys m d) e ∙ s.0 d) (s.2 k d n apart) (low k first (omega arith) e d))
          (λ m. by _ _ _ _ (s.2 (place_above k) d m over) (s.2 k d n apart) (h.others k first (omega arith) n m d)));
      spanned = λ k deep first last e d.
          by _ _ _ _ (ap (λ m. get_or ys m d) up ∙ s.0 d ∙ ap (λ m. get_or xs m d) (sym e)) (s.2 k d (omega arith) (omega arith))
          (h.others k first (omega arith) (omega arith) (omega arith) d);
    }

  -- what has nothing below it can only rise
  pub sunk : (xs : List X) (j : ℕ) → ((k : ℕ) → 0 < k → k < length xs → place_above k ≢ j) → IsSinking goes_before xs j → IsRising goes_before xs j
  sunk xs j none h = record {
    others = λ k first last apart. h.others k first last apart (none k first last);
    spanned = h.spanned;
  }

  module _ (o : IsOrder goes_before) where
    -- the item at j, which may stand before that at p above it, changes places with it
    module _ (xs ys : List X) (p j : ℕ) (s : SwappedAt xs ys p j) (size : length ys ≡ length xs) (below : 0 < j) (within : j < length xs)
        (up : p ≡ place_above j) (low : StandsBefore goes_before xs j p) where
      pub rises : IsRising goes_before xs j → IsRising goes_before ys p
      rises h = record {
        others = λ k first last apart d.
            by_place k j
            (λ e. subst (λ m. goes_before (get_or ys (place_above m) d) (get_or ys m d) ≡ true) (sym e)
            (by _ _ _ _ (ap (λ m. get_or ys m d) (sym up) ∙ s.0 d) (s.1 d) (low d)))
            (λ n. by_place (place_above k) p
            (λ e. by _ _ _ _ (ap (λ m. get_or ys m d) e ∙ s.0 d) (s.2 k d apart n)
            (o.trans _ _ _ (low d) (by _ _ _ _ (ap (λ m. get_or xs m d) (sym e)) refl (h.others k first (omega arith) n d))))
            (λ m. by_place (place_above k) j
            (λ e. by _ _ _ _ (ap (λ m. get_or ys m d) e ∙ s.1 d ∙ ap (λ m. get_or xs m d) up) (s.2 k d apart n)
            (h.spanned k below first (omega arith) e d))
            (λ l. by _ _ _ _ (s.2 (place_above k) d m l) (s.2 k d apart n) (h.others k first (omega arith) n d))));
        spanned = λ k deep first last e d.
            let over : goes_before (get_or xs (place_above p) d) (get_or xs p d) ≡ true = h.others p deep (omega arith) (omega arith) d in
            by_place k j
            (λ f. by _ _ _ _ (s.2 (place_above p) d (omega arith) (omega arith)) (ap (λ m. get_or ys m d) f ∙ s.1 d) over)
            (λ n. by _ _ _ _ (s.2 (place_above p) d (omega arith) (omega arith)) (s.2 k d (omega arith) n)
            (o.trans _ _ _ over (by _ _ _ _ (ap (λ m. get_or xs m d) (sym e)) refl (h.others k first (omega arith) n d))));
      }

    -- what took the place of the item at j sinks
    pub replaced : (xs ys : List X) (j : ℕ) → IsHeapBy goes_before xs → length ys + 1 ≡ length xs
        → ((k : ℕ) (d : X) → k ≢ j → k + 1 < length xs → get_or ys k d ≡ get_or xs k d) → IsSinking goes_before ys j
    replaced xs ys j h size same = record {
      others = λ k first last apart over d.
          by _ _ _ _ (same (place_above k) d over (omega arith)) (same k d apart (omega arith)) (h k first (omega arith) d);
      spanned = λ k deep first last e d.
          by _ _ _ _ (same (place_above j) d (omega arith) (omega arith)) (same k d (omega arith) (omega arith))
          (o.trans _ _ _ (h j deep (omega arith) d) (by _ _ _ _ (ap (λ m. get_or xs m d) (sym e)) refl (h k first (omega arith) d)));
    }

    -- the first may stand before all
    top : (xs : List X) → IsHeapBy goes_before xs → (d : X) (fuel k : ℕ) → k ≤ fuel → k < length xs → goes_before (get_or xs 0 d) (get_or xs k d) ≡ true
    top xs h d zero k a b = by _ _ _ _ refl (ap (λ m. get_or xs m d) (let z : k ≡ 0 = omega arith in z)) (itself goes_before o (get_or xs 0 d))
    top xs h d (suc fuel) k a b =
        by_place k 0
        (λ e. by _ _ _ _ refl (ap (λ m. get_or xs m d) e) (itself goes_before o (get_or xs 0 d)))
        (λ n. o.trans _ _ _ (top xs h d fuel (place_above k) (omega arith) (omega arith)) (h k (omega arith) b d))

    pub first_before : (xs : List X) → IsHeapBy goes_before xs → (k : ℕ) → k < length xs → StandsBefore goes_before xs 0 k
    first_before xs h k lt d = top xs h d k k (omega arith) lt

    -- the second is the only one below the first
    pub only_below : (xs : List X) (k : ℕ) → 0 < k → k < length xs → place_above k ≡ 0 → StandsBefore goes_before xs 1 k
    only_below xs k first last e d =
        by _ _ _ _ refl (ap (λ m. get_or xs m d) (let z : k ≡ 1 = omega arith in z)) (itself goes_before o (get_or xs 1 d))

    -- one item is the lowest of itself, and the lower one of the lowest of two neighbouring runs is the lowest of both
    pub single : (xs : List X) (k m : ℕ) → m ≡ k + 1 → IsLowest goes_before xs k m k
    single xs k m e = record {
      within = (omega arith, omega arith);
      lowest = λ i a b d. by _ _ _ _ refl (ap (λ n. get_or xs n d) (let z : i ≡ k = omega arith in z)) (itself goes_before o (get_or xs k d));
    }

    pub joined : (xs : List X) (a b c r s t : ℕ) → IsLowest goes_before xs a b r → IsLowest goes_before xs b c s
        → ((t ≡ r) × StandsBefore goes_before xs r s) ⊎ ((t ≡ s) × StandsBefore goes_before xs s r) → IsLowest goes_before xs a c t
    joined xs a b c r s t p q h = ⊎_elim
        (λ u. record {
          within = (omega arith, omega arith);
          lowest = λ i x y d. ⊎_elim
              (λ z. by _ _ _ _ (ap (λ n. get_or xs n d) u.0) refl (p.lowest i x z d))
              (λ z. by _ _ _ _ (ap (λ n. get_or xs n d) u.0) refl (o.trans _ _ _ (u.1 d) (q.lowest i z y d)))
              (before i b);
        })
        (λ u. record {
          within = (omega arith, omega arith);
          lowest = λ i x y d. ⊎_elim
              (λ z. by _ _ _ _ (ap (λ n. get_or xs n d) u.0) refl (o.trans _ _ _ (u.1 d) (p.lowest i x z d)))
              (λ z. by _ _ _ _ (ap (λ n. get_or xs n d) u.0) refl (q.lowest i z y d))
              (before i b);
        })
        h

  -- a rise ends below an item that may stand before it, or at the first place
  pub rests : (xs : List X) (j p : ℕ) → p ≡ place_above j → StandsBefore goes_before xs p j → IsRising goes_before xs j → IsHeapBy goes_before xs
  rests xs j p up over h = λ k first last d.
      by_place k j
      (λ e. subst (λ m. goes_before (get_or xs (place_above m) d) (get_or xs m d) ≡ true) (sym e)
      (by _ _ _ _ (ap (λ m. get_or xs m d) (sym up)) refl (over d)))
      (λ n. h.others k first last n d)

  pub tops : (xs : List X) (j : ℕ) → j ≡ 0 → IsRising goes_before xs j → IsHeapBy goes_before xs
  tops xs j e h = λ k first last. h.others k first last (omega arith)

  -- an item at the end rises
  pub pushed : (xs ys : List X) (x : X) (j : ℕ) → IsHeapBy goes_before xs → ys ≡ xs ++ x ∷ [] → j ≡ length xs → IsRising goes_before ys j
  pushed xs ys x j h is at =
      let size : length ys ≡ length xs + 1 = ap length is ∙ length-append xs (x ∷ []) in
      let old = λ (k : ℕ) (d : X) (l : k < length xs). ap (λ l. get_or l k d) is ∙ get_or-append xs (x ∷ []) d k l in
      record {
        others = λ k first last apart d. by _ _ _ _ (old (place_above k) d (omega arith)) (old k d (omega arith)) (h k first (omega arith) d);
        spanned = λ k deep first last e d. absurd (omega arith);
      }

  -- a heap without its last item
  pub shorter : (xs ys : List X) (j : ℕ) → IsHeapBy goes_before xs → length ys + 1 ≡ length xs → j + 1 ≡ length xs
      → ((k : ℕ) (d : X) → k ≢ j → k + 1 < length xs → get_or ys k d ≡ get_or xs k d) → IsHeapBy goes_before ys
  shorter xs ys j h size last same k first within d =
      by _ _ _ _ (same (place_above k) d (omega arith) (omega arith)) (same k d (omega arith) (omega arith)) (h k first (omega arith) d)

pub all_from : {X : Type 0} (P : X → Type 0) (xs : List X) → ((k : ℕ) (d : X) → k < length xs → P (get_or xs k d)) → AllByRecursion P xs
all_from P [] h = tt
all_from P (x ∷ xs) h = (h 0 x (omega arith), all_from P xs (λ k d l. h (suc k) d (omega arith)))

-- the first of a heap may stand before all behind it
pub low_first : {X : Type 0} (goes_before : X → X → Bool) → IsOrder goes_before → (x : X) (xs : List X) → IsHeapBy goes_before (x ∷ xs)
    → AllByRecursion (λ y. goes_before x y ≡ true) xs
low_first goes_before o x xs h =
    all_from (λ y. goes_before x y ≡ true) xs (λ k d l. first_before goes_before o (x ∷ xs) h (suc k) (omega arith) d)
