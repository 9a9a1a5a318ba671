-- What a trail scan knows after each of its doors.
use Rattle.std.proofs.Common.{◌≡◌, ◌<◌, ℕ, ◌+◌, ◌⊎◌, inl, inr, List, [], ◌∷◌, ◌++◌, Contains, refl, ap, ap₂, sym, ◌∙◌, subst, arith, Bool, true}
use Rattle.std.proofs.Common.{false, not, ◌&&◌, ◌==◌, nat_lt, eqb-true}
use Rattle.std.proofs.lemmas.Bool.{and_parts, or_right, or_left, or_cases, cond_both, eqb-false, eq-eqb, and_cases, not-false, lt-ltb, both_ways}
use Rattle.split_core.specs.Places.{place, row, column, at}
use Rattle.split_core.specs.Splitter.{Left}
use Rattle.split_core.specs.Trail.{Spot, spot, Trail, trail_start, lists, joined, led_to, follows}
use Rattle.split_core.specs.declared.model.Turn.{Turn}
use Rattle.split_core.specs.declared.model.Turn.TheVariants.{Right, Down}
use Rattle.split_core.proofs.Ways.{same_place}
use Rattle.split_core.proofs.ScanFacts.{found_before, found_now, found_from, nowhere}

-- the places ahead: what stays and what joins
lists_push : (r c : ℕ) (ps : List Spot) (q : Spot) → lists r c ps ≡ true → lists r c (ps ++ q ∷ []) ≡ true
lists_push r c [] q h = cc
lists_push r c (p ∷ ps) q h =
    elim (or_cases ((p.row == r) && (p.column == c)) (lists r c ps) h) [
      | inl t ↦ or_left ((p.row == r) && (p.column == c)) (lists r c (ps ++ q ∷ [])) t
      | inr t ↦ or_right ((p.row == r) && (p.column == c)) (lists r c (ps ++ q ∷ [])) (lists_push r c ps q t)
    ]

pub same_spot : (p : Spot) (r c : ℕ) → p.row ≡ r → p.column ≡ c → ((p.row == r) && (p.column == c)) ≡ true
same_spot p r c e f = ap₂ (λ (a b : Bool). a && b) (eq-eqb p.row r e) (eq-eqb p.column c f)

lists_last : (r c : ℕ) (ps : List Spot) → lists r c (ps ++ spot r c ∷ []) ≡ true
lists_last r c [] = or_left ((r == r) && (c == c)) false (same_spot (spot r c) r c refl refl)
lists_last r c (p ∷ ps) = or_right ((p.row == r) && (p.column == c)) (lists r c (ps ++ spot r c ∷ [])) (lists_last r c ps)

module _ (n i j : ℕ) (ps : List Spot) where
  joined_keeps : (r c : ℕ) → lists r c ps ≡ true → lists r c (joined n i j ps) ≡ true
  joined_keeps r c h =
      cond_both (nat_lt (i + j) n && not (lists i j ps)) _ _ (λ (qs : List Spot). lists r c qs ≡ true) (λ _. lists_push r c ps (spot i j) h) (λ _. h)

  joined_new : i + j < n → lists i j (joined n i j ps) ≡ true
  joined_new l =
      cond_both (nat_lt (i + j) n && not (lists i j ps)) _ _ (λ (qs : List Spot). lists i j qs ≡ true)
      (λ _. lists_last i j ps)
      (λ f. elim (and_cases (nat_lt (i + j) n) (not (lists i j ps)) f) [
        | inl u ↦ absurd (both_ways _ u (lt-ltb (i + j) n l))
        | inr u ↦ not-false (lists i j ps) u
      ])

module _ (n : ℕ) (p : Spot) (w : ℕ) (rest : List Spot) where
  pub led_keeps : (r c : ℕ) → lists r c rest ≡ true → lists r c (led_to n p w rest) ≡ true
  led_keeps r c h =
      cond_both (w == 1) _ _ (λ (qs : List Spot). lists r c qs ≡ true)
      (λ _. joined_keeps n (p.row + 1) p.column _ r c (joined_keeps n p.row (p.column + 1) rest r c h)) (λ _. h)

  pub led_right : w ≡ 1 → p.row + (p.column + 1) < n → lists p.row (p.column + 1) (led_to n p w rest) ≡ true
  led_right e l =
      cond_both (w == 1) _ _ (λ (qs : List Spot). lists p.row (p.column + 1) qs ≡ true)
      (λ _. joined_keeps n (p.row + 1) p.column _ p.row (p.column + 1) (joined_new n p.row (p.column + 1) rest l)) (λ f. absurd (eqb-false w 1 f e))

  pub led_below : w ≡ 1 → (p.row + 1) + p.column < n → lists (p.row + 1) p.column (led_to n p w rest) ≡ true
  led_below e l =
      cond_both (w == 1) _ _ (λ (qs : List Spot). lists (p.row + 1) p.column qs ≡ true)
      (λ _. joined_new n (p.row + 1) p.column _ l) (λ f. absurd (eqb-false w 1 f e))

-- The place is still ahead of the trail z, or z has found it if it is one of the places `shut`, whose
-- doors were closed when the trail began.
abbrev pub Reaches : (ℕ → Type 0) → Trail → ℕ → ℕ → Type 0
Reaches shut z r c = (lists r c z.ahead ≡ true) ⊎ (shut (place r c) → Contains z.found (place r c))

-- what a trail in a grid of n comers knows, where the doors of the places `shut` were closed as it
-- began
pub record Leads (n : ℕ) (shut : ℕ → Type 0) (z : Trail) : Type 0 where
  pub first : Reaches shut z 0 0
  pub right : (r c : ℕ) → Contains z.found (place r c) → r + (c + 1) < n → Reaches shut z r (c + 1)
  pub below : (r c : ℕ) → Contains z.found (place r c) → (r + 1) + c < n → Reaches shut z (r + 1) c

pub leads_start : (n : ℕ) (shut : ℕ → Type 0) → Leads n shut trail_start
leads_start n shut = record {
  first = inl refl;
  right = λ r c h l. absurd (nowhere (place r c) h);
  below = λ r c h l. absurd (nowhere (place r c) h);
}

-- its next door is read as the word w, which is 1 where the place is one of those
module _ (n : ℕ) (shut : ℕ → Type 0) (w : ℕ) (z : Trail) (p : Spot) (rest : List Spot) (e : z.ahead ≡ p ∷ rest)
    (heeds : shut (place p.row p.column) → w ≡ 1) where
  abbrev here : ℕ
  here = place p.row p.column

  abbrev after : Trail
  after = follows n (λ _. w) (p ∷ rest) z

  keep : (r c : ℕ) → Reaches shut z r c → Reaches shut after r c
  keep r c (inr f) = inr (λ d. found_before w here (place r c) z.found (f d))
  keep r c (inl t) =
      elim (or_cases ((p.row == r) && (p.column == c)) (lists r c rest) (subst (λ (ps : List Spot). lists r c ps ≡ true) e t)) [
        | inl u ↦
            let k = and_parts (p.row == r) (p.column == c) u in
            let q : here ≡ place r c = ap₂ place (eqb-true p.row r k.0) (eqb-true p.column c k.1) in
            inr (λ d. subst (λ (j : ℕ). Contains after.found j) q (found_now w here z.found (heeds (subst shut (sym q) d))))
        | inr u ↦ inl (led_keeps n p w rest r c u)
      ]

  pub leads_read : Leads n shut z → Leads n shut after
  leads_read k = record {
    first = keep 0 0 k.first;
    right = λ r c h l. elim (found_from w here (place r c) z.found h) [
      | inl o ↦ keep r (c + 1) (k.right r c o l)
      | inr o ↦
          let s = same_place p.row p.column r c o.1 in
          inl (subst (λ (i : ℕ). lists i (c + 1) after.ahead ≡ true) s.0
          (subst (λ (j : ℕ). lists p.row (j + 1) after.ahead ≡ true) s.1 (led_right n p w rest o.0 (omega arith))))
    ];
    below = λ r c h l. elim (found_from w here (place r c) z.found h) [
      | inl o ↦ keep (r + 1) c (k.below r c o l)
      | inr o ↦
          let s = same_place p.row p.column r c o.1 in
          inl (subst (λ (i : ℕ). lists (i + 1) c after.ahead ≡ true) s.0
          (subst (λ (j : ℕ). lists (p.row + 1) j after.ahead ≡ true) s.1 (led_below n p w rest o.0 (omega arith))))
    ];
  }

pub leads_follows : (n : ℕ) (shut : ℕ → Type 0) (door : ℕ → ℕ) → ((p : ℕ) → shut p → door p ≡ 1) → (z : Trail) (ps : List Spot)
    → z.ahead ≡ ps → Leads n shut z → Leads n shut (follows n door ps z)
leads_follows n shut door mono z [] e k = k
leads_follows n shut door mono z (p ∷ rest) e k = leads_read n shut (door (place p.row p.column)) z p rest e (mono (place p.row p.column)) k

-- a trail that is over has found each place on a way of such doors
module _ (n : ℕ) (shut : ℕ → Type 0) (z : Trail) (k : Leads n shut z) (over : z.ahead ≡ []) where
  closed_found : (r c : ℕ) → Reaches shut z r c → shut (place r c) → Contains z.found (place r c)
  closed_found r c (inr f) d = f d
  closed_found r c (inl t) d = let u : false ≡ true = sym (ap (lists r c) over) ∙ t in cc

  pub way_found : (ts : List Turn) → ((q : ℕ) → Left q ts → shut q) → row ts + column ts < n
      → (shut (at ts) → Contains z.found (at ts)) × ((q : ℕ) → Left q ts → Contains z.found q)
  way_found [] h l = (closed_found 0 0 k.first, λ q v. absurd v)
  way_found (Right ∷ ts) h l =
      let ih = way_found ts (λ q v. h q (inr v)) (omega arith) in
      let f : Contains z.found (at ts) = ih.0 (h (at ts) (inl refl)) in (
        closed_found (row ts) (column ts + 1) (k.right (row ts) (column ts) f (omega arith)),
        λ q v. elim v [ inl e ↦ subst (λ (j : ℕ). Contains z.found j) e f | inr v' ↦ ih.1 q v' ],
      )
  way_found (Down ∷ ts) h l =
      let ih = way_found ts (λ q v. h q (inr v)) (omega arith) in
      let f : Contains z.found (at ts) = ih.0 (h (at ts) (inl refl)) in (
        closed_found (row ts + 1) (column ts) (k.below (row ts) (column ts) f (omega arith)),
        λ q v. elim v [ inl e ↦ subst (λ (j : ℕ). Contains z.found j) e f | inr v' ↦ ih.1 q v' ],
      )
