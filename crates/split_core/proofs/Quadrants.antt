-- How many comers visit which part of the grid: the quadrant count, by induction on r + c.
use Rattle.std.proofs.Common.{◌↔◌, ap, ◌≡◌, ℕ, zero, suc, ◌+◌, ◌-◌, ◌<◌, ◌≤◌, inl, inr, List, [], ◌∷◌, slice_get, Some, refl, ap}
use Rattle.std.proofs.Common.{arith, true, false, nat_le}
use Rattle.std.proofs.lemmas.Bool.{and_parts, and_from, cases_lt, leb-true, le-leb, lt-leb, and_left, and_right}
use Rattle.split_core.specs.Grid.{Grid, Has, started}
use Rattle.split_core.specs.Places.{row, column, place}
use Rattle.split_core.specs.Splitter.{Turned, Visits, NotAllTurned}
use Rattle.split_core.specs.Comer.{has_started}
use Rattle.split_core.specs.Quadrants.{is_in, VisitsQuadrant, visitors, Quadrants, Diagonals}
use Rattle.split_core.specs.declared.model.Comer.{Comer}
use Rattle.split_core.specs.declared.model.Turn.TheVariants.{Right, Down}
use Rattle.split_core.proofs.Lists.{count_less, count_fewer, count_some, count_none}
use Rattle.split_core.proofs.Ways.{turned_left, left_turned, same_place, left_within, after_down, after_right, entry}

-- a bound on the rows and columns of all comers
abbrev total : (Comer → ℕ) → List Comer → ℕ
total f [] = 0
total f (x ∷ xs) = f x + total f xs

within_total : (f : Comer → ℕ) (xs : List Comer) (a : ℕ) (x : Comer) → slice_get xs a ≡ Some x → f x ≤ total f xs
within_total f [] a x h = cc
within_total f (y ∷ xs) zero x h = let e : y ≡ x = cc in omega (arith, ap f e)
within_total f (y ∷ xs) (suc a) x h = omega (arith, within_total f xs a x h)

visits_within : (r c : ℕ) (x : Comer) → Visits (place r c) x → (r ≤ row x.turns) × (c ≤ column x.turns)
visits_within r c x (st, inl e) = let q = same_place (row x.turns) (column x.turns) r c e in (omega arith, omega arith)
visits_within r c x (st, inr l) = left_within r c x.turns l

-- where the way of one goes through column c, one stands in that column, no higher up
stays_in_column : (s : Grid) → NotAllTurned Right s → (f r c a : ℕ) (x : Comer) → total (λ (y : Comer). row y.turns) s.comers < r + f
    → Has s a x → Visits (place r c) x
    → (b : ℕ) × (y : Comer) × Has s b y × (has_started y ≡ true) × (column y.turns ≡ c) × (r ≤ row y.turns)
stays_in_column s n zero r c a x bound hx v = absurd (omega (arith, within_total (λ (y : Comer). row y.turns) s.comers a x hx, visits_within r c x v))
stays_in_column s n (suc f) r c a x bound hx v =
    let w = n (place r c) a x hx v in
    elim w.3.1 [
      | inl e ↦ (let q = same_place (row w.1.turns) (column w.1.turns) r c e in (w.0, w.1, w.2, w.3.0, q.1, omega arith))
      | inr l ↦ elim (left_turned (place r c) w.1.turns l) [
        | inl t ↦ absurd (w.4 t)
        | inr t ↦ (let z = stays_in_column s n f (r + 1) c w.0 w.1 (omega arith) w.2 (w.3.0, after_down r c w.1.turns t) in
            (z.0, z.1, z.2, z.3, z.4, omega arith))
      ]
    ]

stays_in_row : (s : Grid) → NotAllTurned Down s → (f r c a : ℕ) (x : Comer) → total (λ (y : Comer). column y.turns) s.comers < c + f
    → Has s a x → Visits (place r c) x
    → (b : ℕ) × (y : Comer) × Has s b y × (has_started y ≡ true) × (row y.turns ≡ r) × (c ≤ column y.turns)
stays_in_row s n zero r c a x bound hx v = absurd (omega (arith, within_total (λ (y : Comer). column y.turns) s.comers a x hx, visits_within r c x v))
stays_in_row s n (suc f) r c a x bound hx v =
    let w = n (place r c) a x hx v in
    elim w.3.1 [
      | inl e ↦ (let q = same_place (row w.1.turns) (column w.1.turns) r c e in (w.0, w.1, w.2, w.3.0, q.0, omega arith))
      | inr l ↦ elim (left_turned (place r c) w.1.turns l) [
        | inl t ↦ (let z = stays_in_row s n f r (c + 1) w.0 w.1 (omega arith) w.2 (w.3.0, after_right r c w.1.turns t) in
            (z.0, z.1, z.2, z.3, z.4, omega arith))
        | inr t ↦ absurd (w.4 t)
      ]
    ]

in_parts : (r c : ℕ) (x : Comer) → is_in r c x ≡ true → (has_started x ≡ true) × (r ≤ row x.turns) × (c ≤ column x.turns)
in_parts r c x h = let p = and_parts _ _ h in let q = and_parts _ _ p.1 in (p.0, leb-true r (row x.turns) q.0, leb-true c (column x.turns) q.1)

in_from : (r c : ℕ) (x : Comer) → has_started x ≡ true → r ≤ row x.turns → c ≤ column x.turns → is_in r c x ≡ true
in_from r c x st h k = and_from _ _ st (and_from _ _ (le-leb r (row x.turns) h) (le-leb c (column x.turns) k))

-- who stands in the quadrant by row and column visits one of its places, and the other way round
pub in_is_visit : (r c : ℕ) (x : Comer) → (is_in r c x ≡ true) ↔ VisitsQuadrant r c x
in_is_visit r c x = (
  λ h. let p = in_parts r c x h in (row x.turns, column x.turns, p.1, p.2, (p.0, inl refl)),
  λ v. let w = visits_within v.0 v.1 x v.4 in in_from r c x v.4.0 (omega (arith, v.2)) (omega (arith, v.3)),
)

not_in_row : (r c : ℕ) (x : Comer) → row x.turns < r → is_in r c x ≡ false
not_in_row r c x h = and_right (has_started x) _ (and_left _ (nat_le c (column x.turns)) (lt-leb r (row x.turns) h))

not_in_column : (r c : ℕ) (x : Comer) → column x.turns < c → is_in r c x ≡ false
not_in_column r c x h = and_right (has_started x) _ (and_right (nat_le r (row x.turns)) _ (lt-leb c (column x.turns) h))

module _ (s : Grid) (nr : NotAllTurned Right s) (nd : NotAllTurned Down s) where
  -- a turn out of a column leaves a comer behind in it
  fewer_columns : (r c i a : ℕ) (x : Comer) → r ≤ i → Has s a x → has_started x ≡ true → Turned Right (place i c) x.turns
      → visitors r (c + 1) s < visitors r c s
  fewer_columns r c i a x h hx st t =
      let w = stays_in_column s nr (total (λ (y : Comer). row y.turns) s.comers + 1) i c a x (omega arith) hx
      (st, inr (turned_left Right (place i c) x.turns t)) in
      count_fewer (is_in r (c + 1)) (is_in r c) s.comers w.0 w.1
      (λ y q. let p = in_parts r (c + 1) y q in in_from r c y p.0 p.1 (omega arith))
      w.2 (not_in_column r (c + 1) w.1 (omega arith)) (in_from r c w.1 w.3 (omega arith) (omega arith))

  fewer_rows : (r c j a : ℕ) (x : Comer) → c ≤ j → Has s a x → has_started x ≡ true → Turned Down (place r j) x.turns
      → visitors (r + 1) c s < visitors r c s
  fewer_rows r c j a x h hx st t =
      let w = stays_in_row s nd (total (λ (y : Comer). column y.turns) s.comers + 1) r j a x (omega arith) hx
      (st, inr (turned_left Down (place r j) x.turns t)) in
      count_fewer (is_in (r + 1) c) (is_in r c) s.comers w.0 w.1
      (λ y q. let p = in_parts (r + 1) c y q in in_from r c y p.0 (omega arith) p.2)
      w.2 (not_in_row (r + 1) c w.1 (omega arith)) (in_from r c w.1 w.3 (omega arith) (omega arith))

  bounded : (n r c : ℕ) → r + c ≡ n → visitors r c s ≤ started s - n
  bounded zero r c e = let q : visitors r c s ≤ started s = count_less (is_in r c) has_started s.comers (λ y h. (in_parts r c y h).0) in omega arith
  bounded (suc n) r c e =
      elim (cases_lt 0 (visitors r c s)) [
        | inr o ↦ omega arith
        | inl o ↦
            let w = count_some (is_in r c) s.comers o in
            let p = in_parts r c w.1 w.3 in
            elim (entry r c w.1.turns (omega arith) p.1 p.2) [
              | inl t ↦ (let ih = bounded n r t.1 (omega arith) in
                  let l : visitors r (t.1 + 1) s < visitors r t.1 s = fewer_columns r t.1 t.0 w.0 w.1 t.3 w.2 p.0 t.4 in
                  omega (arith, ap (λ (c' : ℕ). visitors r c' s) t.2))
              | inr t ↦ (let ih = bounded n t.0 c (omega arith) in
                  let l : visitors (t.0 + 1) c s < visitors t.0 c s = fewer_rows t.0 c t.1 w.0 w.1 t.3 w.2 p.0 t.4 in
                  omega (arith, ap (λ (r' : ℕ). visitors r' c s) t.2))
            ]
      ]

  pub quadrants : Quadrants s
  quadrants r c = bounded (r + c) r c refl

  pub diagonals : Diagonals s
  diagonals a x hx st =
      let p : 0 < visitors (row x.turns) (column x.turns) s = count_none (is_in (row x.turns) (column x.turns)) s.comers a x hx
      (in_from (row x.turns) (column x.turns) x st (omega arith) (omega arith)) in
      omega (arith, quadrants (row x.turns) (column x.turns))
