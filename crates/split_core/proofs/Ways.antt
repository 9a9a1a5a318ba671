-- Places, and the way that turns lead.
use Rattle.std.proofs.Common.{◌≡◌, ℕ, zero, suc, ◌+◌, ◌*◌, ◌/◌, ◌<◌, ◌≤◌, List, [], ◌∷◌, refl, ap, sym, ◌⊎◌, inl, inr, arith, le_of_eq, add-one}
use Rattle.std.proofs.lemmas.Bool.{cases_lt, cases_order}
use Rattle.split_core.specs.Places.{place, row, column, at}
use Rattle.split_core.specs.Splitter.{Left, Turned}
use Rattle.split_core.specs.declared.model.Turn.{Turn}
use Rattle.split_core.specs.declared.model.Turn.TheVariants.{Right, Down}

pub place_right : (r c : ℕ) → place r (c + 1) ≡ place r c + (r + c) + 1
unfolding place
place_right r c = omega arith

pub place_down : (r c : ℕ) → place (r + 1) c ≡ place r c + (r + c) + 2
unfolding place
place_down r c = omega arith

-- the places of diagonal s stand from place 0 s on
pub place_split : (r c : ℕ) → place r c ≡ place 0 (r + c) + r
unfolding place
place_split r c = omega arith

pub first_next : (s : ℕ) → place 0 (s + 1) ≡ place 0 s + s + 1
first_next s = omega (arith, place_right 0 s)

pub at_more : (t : Turn) (ts : List Turn) → at ts < at (t ∷ ts)
at_more Right ts = omega (arith, place_right (row ts) (column ts))
at_more Down ts = omega (arith, place_down (row ts) (column ts))

pub left_below : (p : ℕ) (ts : List Turn) → Left p ts → p < at ts
left_below p [] h = absurd h
left_below p (t ∷ ts) (inl e) = omega (arith, at_more t ts)
left_below p (t ∷ ts) (inr h) = let k = left_below p ts h in omega (arith, at_more t ts)

pub turned_left : (u : Turn) (p : ℕ) (ts : List Turn) → Turned u p ts → Left p ts
turned_left u p [] h = absurd h
turned_left u p (t ∷ ts) (inl h) = inl h.1
turned_left u p (t ∷ ts) (inr h) = inr (turned_left u p ts h)

pub left_turned : (p : ℕ) (ts : List Turn) → Left p ts → Turned Right p ts ⊎ Turned Down p ts
left_turned p [] h = absurd h
left_turned p (Right ∷ ts) (inl e) = inl (inl (refl, e))
left_turned p (Down ∷ ts) (inl e) = inr (inl (refl, e))
left_turned p (t ∷ ts) (inr h) = elim (left_turned p ts h) [ inl k ↦ inl (inr k) | inr k ↦ inr (inr k) ]

-- a place is not left while a comer stands there
pub not_left : (u : Turn) (p : ℕ) (ts : List Turn) → at ts ≡ p → ¬ Turned u p ts
not_left u p ts e h = let k = left_below p ts (turned_left u p ts h) in omega arith

pub first_grows : (s t : ℕ) → s ≤ t → place 0 s ≤ place 0 t
first_grows s zero h = let q : s ≡ 0 = omega arith in le_of_eq (ap (place 0) q)
first_grows s (suc t) h =
    elim (cases_lt t s) [
      | inl l ↦ (let q : s ≡ suc t = omega arith in le_of_eq (ap (place 0) q))
      | inr l ↦ (let k = first_grows s t l in let n : place 0 (suc t) ≡ place 0 t + t + 1 = rw (← add-one t) (first_next t) in omega arith)
    ]

same_on : (r c i j : ℕ) → r + c ≡ i + j → place r c ≡ place i j → (r ≡ i) × (c ≡ j)
same_on r c i j q e =
    let k : r ≡ i = omega (arith, place_split r c, place_split i j, ap (place 0) q) in (k, omega arith)

pub before : (r c i j : ℕ) → r + c < i + j → place r c ≡ place i j → ⊥
before r c i j l e = omega (arith, place_split r c, place_split i j, first_next (r + c), first_grows (r + c + 1) (i + j) (omega arith))

-- each place has one row and one column
pub same_place : (r c i j : ℕ) → place r c ≡ place i j → (r ≡ i) × (c ≡ j)
same_place r c i j e =
    elim (cases_order (r + c) (i + j)) [
      | inl q ↦ same_on r c i j q e
      | inr o ↦ elim o [ inl l ↦ absurd (before r c i j l e) | inr l ↦ absurd (before i j r c l (sym e)) ]
    ]

pub row_grows : (t : Turn) (ts : List Turn) → row ts ≤ row (t ∷ ts)
row_grows Right ts = omega arith
row_grows Down ts = omega arith

pub column_grows : (t : Turn) (ts : List Turn) → column ts ≤ column (t ∷ ts)
column_grows Right ts = omega arith
column_grows Down ts = omega arith

-- rows and columns grow along a way
pub left_within : (r c : ℕ) (ts : List Turn) → Left (place r c) ts → (r ≤ row ts) × (c ≤ column ts)
left_within r c [] h = absurd h
left_within r c (t ∷ ts) (inl e) = let q = same_place (row ts) (column ts) r c e in (omega (arith, row_grows t ts), omega (arith, column_grows t ts))
left_within r c (t ∷ ts) (inr h) = let q = left_within r c ts h in (omega (arith, row_grows t ts), omega (arith, column_grows t ts))

-- a turn leads to the next place
pub after_down : (r c : ℕ) (ts : List Turn) → Turned Down (place r c) ts → (at ts ≡ place (r + 1) c) ⊎ Left (place (r + 1) c) ts
after_down r c [] h = absurd h
after_down r c (Down ∷ ts) (inl e) = let q = same_place (row ts) (column ts) r c e.1 in inl (cc)
after_down r c (Right ∷ ts) (inl e) = absurd (let z : Right ≡ Down = e.0 in cc)
after_down r c (t ∷ ts) (inr h) = elim (after_down r c ts h) [ inl e ↦ inr (inl e) | inr k ↦ inr (inr k) ]

pub after_right : (r c : ℕ) (ts : List Turn) → Turned Right (place r c) ts → (at ts ≡ place r (c + 1)) ⊎ Left (place r (c + 1)) ts
after_right r c [] h = absurd h
after_right r c (Right ∷ ts) (inl e) = let q = same_place (row ts) (column ts) r c e.1 in inl (cc)
after_right r c (Down ∷ ts) (inl e) = absurd (let z : Down ≡ Right = e.0 in cc)
after_right r c (t ∷ ts) (inr h) = elim (after_right r c ts h) [ inl e ↦ inr (inl e) | inr k ↦ inr (inr k) ]

-- a way into the quadrant at r and c enters it from the left or from above
pub entry : (r c : ℕ) (ts : List Turn) → 0 < r + c → r ≤ row ts → c ≤ column ts
    → ((i j : ℕ) × (c ≡ j + 1) × (r ≤ i) × Turned Right (place i j) ts) ⊎ ((i j : ℕ) × (r ≡ i + 1) × (c ≤ j) × Turned Down (place i j) ts)
entry r c [] o h k = absurd (omega arith)
entry r c (Right ∷ ts) o h k =
    elim (cases_lt (column ts) c) [
      | inl l ↦ inl (row ts, column ts, omega arith, h, inl (refl, refl))
      | inr l ↦ elim (entry r c ts o h l) [ inl q ↦ inl (q.0, q.1, q.2, q.3, inr q.4) | inr q ↦ inr (q.0, q.1, q.2, q.3, inr q.4) ]
    ]
entry r c (Down ∷ ts) o h k =
    elim (cases_lt (row ts) r) [
      | inl l ↦ inr (row ts, column ts, omega arith, k, inl (refl, refl))
      | inr l ↦ elim (entry r c ts o l k) [ inl q ↦ inl (q.0, q.1, q.2, q.3, inr q.4) | inr q ↦ inr (q.0, q.1, q.2, q.3, inr q.4) ]
    ]

pub first_zero : place 0 0 ≡ 0
unfolding place
first_zero = refl

-- the diagonal of a place that stands behind the first one of diagonal d
pub diagonal_from : (d : ℕ) (ts : List Turn) → place 0 d ≤ at ts → d ≤ row ts + column ts
diagonal_from d ts h =
    elim (cases_lt (row ts + column ts) d) [
      | inl l ↦ absurd (omega (
        arith,
        place_split (row ts) (column ts),
        first_next (row ts + column ts),
        first_grows (row ts + column ts + 1) d (omega arith),
      ))
      | inr l ↦ l
    ]

longer : (t : Turn) (ts : List Turn) → row (t ∷ ts) + column (t ∷ ts) ≡ row ts + column ts + 1
longer Right ts = omega arith
longer Down ts = omega arith

-- a way that leads past a diagonal leaves a place of it
pub crosses : (d : ℕ) (ts : List Turn) → d < row ts + column ts → (q : ℕ) × Left q ts × (place 0 d ≤ q) × (q < place 0 (d + 1))
crosses d [] h = absurd (omega arith)
crosses d (t ∷ ts) h =
    elim (cases_lt d (row ts + column ts)) [
      | inl l ↦ (let k = crosses d ts l in (k.0, inr k.1, k.2, k.3))
      | inr l ↦ (let e : row ts + column ts ≡ d = omega (arith, longer t ts) in (
        at ts,
        inl refl,
        omega (arith, place_split (row ts) (column ts), ap (place 0) e),
        omega (arith, place_split (row ts) (column ts), ap (place 0) e, first_next d),
      ))
    ]

-- the number of the places on the diagonals below k + 1
pub first_after : (k : ℕ) → place 0 (k + 1) ≡ (k + 1) * (k + 2) / 2
unfolding place
first_after k = omega arith
