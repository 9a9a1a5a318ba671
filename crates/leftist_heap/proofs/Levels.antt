-- Tables of places that are made of cells, and of other tables.
use Rattle.std.proofs.Common.{◌≡◌, ◌+◌, ◌*◌, ◌/◌, ◌%◌, ◌<◌, ◌≤◌, ◌≢◌, ◌++◌, ℕ, zero, suc, Bool, true, false, List, [], ◌∷◌, length, get_or, set, map, take, replicate, if◌then◌else◌, refl, sym, subst, ◌∙◌, ap, arith}
use lib.Seq.{get_or-set_same, get_or-set_other}
use Rattle.std.proofs.lemmas.Nat.{div-add-mod'}
use Rattle.std.proofs.lemmas.List.{take_all, get_or-map, length-map, map-set}
use Rattle.leftist_heap.specs.Places.{Table, StillKeeps, StillKeepsBut, IsMarked, bare_table, branch_table}
use Rattle.leftist_heap.proofs.Sifts.{by_place}

lengthened : (xs : List ℕ) (n k : ℕ) → get_or (xs ++ replicate n 0) k 0 ≡ get_or xs k 0
lengthened [] zero k = refl
lengthened [] (suc n) zero = refl
lengthened [] (suc n) (suc k) = lengthened [] n k
lengthened (x ∷ xs) n zero = refl
lengthened (x ∷ xs) n (suc k) = lengthened xs n k

-- cells that are lengthened by zeros, or not
pub resized : (xs ys : List ℕ) (n m : ℕ) (b : Bool) → length xs ≤ n → ys ≡ (if b then take n xs ++ replicate m 0 else xs)
    → (k : ℕ) → get_or ys k 0 ≡ get_or xs k 0
resized xs ys n m true few is k = ap (λ l. get_or l k 0) is ∙ lengthened (take n xs) m k ∙ ap (λ l. get_or l k 0) (take_all n xs few)
resized xs ys n m false few is k = ap (λ l. get_or l k 0) is

module _ (span : ℕ) where
  one_ticket : (u t : ℕ) → u / span ≡ t / span → u % span ≡ t % span → u ≡ t
  one_ticket u t e f = sym (div-add-mod' u span) ∙ (λ i. e i * span + f i) ∙ div-add-mod' t span

  -- of these tables the one at i becomes another
  module _ (tables : List Table) (i : ℕ) (child new : Table) (within : i < length tables) (is : child ≡ get_or tables i bare_table) where
    old : (u : ℕ) → u / span ≡ i → get_or tables (u / span) bare_table ≡ child
    old u e = ap (λ k. get_or tables k bare_table) e ∙ sym is

    here : (u : ℕ) → u / span ≡ i → get_or (set tables i new) (u / span) bare_table ≡ new
    here u e = ap (λ k. get_or (set tables i new) k bare_table) e ∙ get_or-set_same tables i new bare_table within

    other : (u : ℕ) → u / span ≢ i → get_or (set tables i new) (u / span) bare_table ≡ get_or tables (u / span) bare_table
    other u n = get_or-set_other tables i (u / span) new bare_table n

    pub set_marked : (t place : ℕ) → i ≡ t / span → IsMarked child new (t % span) place
        → IsMarked (branch_table span tables) (branch_table span (set tables i new)) t place
    set_marked t place at h = record {
      marked = λ kept. ap (λ m. m.place_of (t % span)) (here t (sym at)) ∙ h.marked (ap (λ m. m.keeps (t % span)) (sym (old t (sym at))) ∙ kept);
      others = λ u n. by_place (u / span) i
          (λ e. ap (λ m. m.place_of (u % span)) (here u e) ∙ h.others (u % span) (λ f. n (one_ticket u t (e ∙ at) f))
          ∙ ap (λ m. m.place_of (u % span)) (sym (old u e)))
          (λ l. ap (λ m. m.place_of (u % span)) (other u l));
      kept = λ u. by_place (u / span) i
          (λ e. ap (λ m. m.keeps (u % span)) (here u e) ∙ h.kept (u % span) ∙ ap (λ m. m.keeps (u % span)) (sym (old u e)))
          (λ l. ap (λ m. m.keeps (u % span)) (other u l));
    }

    pub set_still : StillKeeps child new → StillKeeps (branch_table span tables) (branch_table span (set tables i new))
    set_still h u kept = by_place (u / span) i
        (λ e.
        let now = h (u % span) (ap (λ m. m.keeps (u % span)) (sym (old u e)) ∙ kept) in (
          ap (λ m. m.keeps (u % span)) (here u e) ∙ now.0,
          ap (λ m. m.place_of (u % span)) (here u e) ∙ now.1 ∙ ap (λ m. m.place_of (u % span)) (sym (old u e)),
        ))
        (λ l. (ap (λ m. m.keeps (u % span)) (other u l) ∙ kept, ap (λ m. m.place_of (u % span)) (other u l)))

    pub set_closed : (t : ℕ) → i ≡ t / span → StillKeepsBut child new (t % span)
        → StillKeepsBut (branch_table span tables) (branch_table span (set tables i new)) t
    set_closed t at h u n kept = by_place (u / span) i
        (λ e.
        let now = h (u % span) (λ f. n (one_ticket u t (e ∙ at) f)) (ap (λ m. m.keeps (u % span)) (sym (old u e)) ∙ kept) in (
          ap (λ m. m.keeps (u % span)) (here u e) ∙ now.0,
          ap (λ m. m.place_of (u % span)) (here u e) ∙ now.1 ∙ ap (λ m. m.place_of (u % span)) (sym (old u e)),
        ))
        (λ l. (ap (λ m. m.keeps (u % span)) (other u l) ∙ kept, ap (λ m. m.place_of (u % span)) (other u l)))

    pub set_kept : (t : ℕ) → i ≡ t / span → new.keeps (t % span) ≡ true → (branch_table span (set tables i new)).keeps t ≡ true
    set_kept t at h = ap (λ m. m.keeps (t % span)) (here t (sym at)) ∙ h

  -- one after the other
  pub still_on : (a b c : List Table) → StillKeeps (branch_table span a) (branch_table span b) → StillKeeps (branch_table span b) (branch_table span c)
      → StillKeeps (branch_table span a) (branch_table span c)
  still_on a b c h k u kept = let first = h u kept in let next = k u first.0 in (next.0, next.1 ∙ first.1)

-- the table of one of these values
pub table_there : {X : Type 0} (table_of : X → Table) (xs : List X) (i : ℕ) (x : X) → i < length xs → x ≡ get_or xs i x
    → table_of x ≡ get_or (map table_of xs) i bare_table
table_there table_of xs i x within is = ap table_of is ∙ sym (get_or-map table_of xs i x bare_table within)

module _ {X : Type 0} (table_of : X → Table) (span : ℕ) (xs : List X) (i : ℕ) (x y : X) (within : i < length xs) (is : x ≡ get_or xs i x) where
  -- the value at i becomes another
  pub tables_closed : (t r : ℕ) → i ≡ t / span → r ≡ t % span → StillKeepsBut (table_of x) (table_of y) r
      → StillKeepsBut (branch_table span (map table_of xs)) (branch_table span (map table_of (set xs i y))) t
  tables_closed t r at rest h =
      let long : length (map table_of xs) ≡ length xs = length-map xs table_of in
      subst (λ l. StillKeepsBut (branch_table span (map table_of xs)) (branch_table span l) t) (sym (map-set table_of xs i y))
      (set_closed span (map table_of xs) i (table_of x) (table_of y) (omega arith) (table_there table_of xs i x within is) t at
      (subst (λ q. StillKeepsBut (table_of x) (table_of y) q) rest h))

  pub tables_still : StillKeeps (table_of x) (table_of y)
      → StillKeeps (branch_table span (map table_of xs)) (branch_table span (map table_of (set xs i y)))
  tables_still h =
      let long : length (map table_of xs) ≡ length xs = length-map xs table_of in
      subst (λ l. StillKeeps (branch_table span (map table_of xs)) (branch_table span l)) (sym (map-set table_of xs i y))
      (set_still span (map table_of xs) i (table_of x) (table_of y) (omega arith) (table_there table_of xs i x within is) h)
