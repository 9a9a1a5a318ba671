-- What a scan knows, in every grid run.
use Rattle.std.proofs.Common.{◌<◌, ◌≡◌, ℕ, zero, suc, ◌+◌, ◌-◌, ◌≤◌, ◌≢◌, ◌⊎◌, inl, inr, List, [], ◌∷◌, Contains, refl, ap, ap₂, sym, ◌∙◌, arith}
use Rattle.std.proofs.Common.{Bool, true, false, not, ◌==◌, nat_le, cond, eqb-true, le-leb, leb-true}
use Rattle.std.proofs.lemmas.Bool.{and_parts, or_right, or_left, or_cases, or_parts, cases_eq, cases_Bool, and_left, cond_both, cond-true, cond-false}
use Rattle.std.proofs.lemmas.Bool.{eqb-false, eq-eqb, ne_eqb, not-true, and_cases, not-false}
use Rattle.std.proofs.lemmas.List.Elements.{Contains-push, Contains-push_cases, Contains-append_left}
use Rattle.split_core.specs.Places.{place}
use Rattle.split_core.specs.Scan.{fresh, with_found, reaches, scanned}
use Rattle.split_core.specs.declared.model.Scan.{Scan}
use Rattle.split_core.proofs.Ways.{place_split, first_next}

-- what is added, and what stays
pub found_before : (w q p : ℕ) (places : List ℕ) → Contains places p → Contains (with_found w q places) p
found_before w q p places h = cond_both (w == 1) _ _ (λ (xs : List ℕ). Contains xs p) (λ _. Contains-append_left places (q ∷ []) p h) (λ _. h)

pub found_now : (w q : ℕ) (places : List ℕ) → w ≡ 1 → Contains (with_found w q places) q
found_now w q places h = cond_both (w == 1) _ _ (λ (xs : List ℕ). Contains xs q) (λ _. Contains-push places q) (λ f. absurd (eqb-false w 1 f h))

pub found_from : (w q p : ℕ) (places : List ℕ) → Contains (with_found w q places) p → Contains places p ⊎ ((w ≡ 1) × (q ≡ p))
found_from w q p places =
    cond_both (w == 1) _ _ (λ (xs : List ℕ). Contains xs p → Contains places p ⊎ ((w ≡ 1) × (q ≡ p)))
    (λ t h. elim (Contains-push_cases places q p h) [ inl k ↦ inl k | inr k ↦ inr (eqb-true w 1 t, k) ])
    (λ _ h. inl h)

pub reached : (d : ℕ) (places : List ℕ) → reaches d places ≡ true → (p : ℕ) × Contains places p × (place 0 d ≤ p)
reached d [] h = cc
reached d (x ∷ xs) h =
    elim (or_cases (nat_le (place 0 d) x) (reaches d xs) h) [
      | inl t ↦ (x, (0, omega arith, refl), leb-true (place 0 d) x t)
      | inr t ↦ (let k = reached d xs t in (k.0, (suc k.1.0, omega (arith, k.1.1), k.1.2), k.2))
    ]

pub reaching : (d p : ℕ) (places : List ℕ) → Contains places p → place 0 d ≤ p → reaches d places ≡ true
reaching d p [] h l = absurd (omega (arith, h.1))
reaching d p (x ∷ xs) (zero, h, e) l = or_left (nat_le (place 0 d) x) (reaches d xs) (le-leb (place 0 d) x (omega (arith, e)))
reaching d p (x ∷ xs) (suc k, h, e) l = or_right (nat_le (place 0 d) x) (reaches d xs) (reaching d p xs (k, omega arith, e) l)

-- the order of the doors
abbrev pub next_row : Scan → ℕ
next_row z = cond (z.column == 0) 0 (z.row + 1)

abbrev pub next_column : Scan → ℕ
next_column z = cond (z.column == 0) (z.row + 1) (z.column - 1)

pub at_end : (z : Scan) → z.column ≡ 0 → (next_row z ≡ 0) × (next_column z ≡ z.row + 1)
at_end z e = let t = eq-eqb z.column 0 e in (cond-true (z.column == 0) 0 (z.row + 1) t, cond-true (z.column == 0) (z.row + 1) (z.column - 1) t)

pub inside : (z : Scan) → z.column ≢ 0 → (next_row z ≡ z.row + 1) × (next_column z ≡ z.column - 1)
inside z ne = let f = ne_eqb z.column 0 ne in (cond-false (z.column == 0) 0 (z.row + 1) f, cond-false (z.column == 0) (z.row + 1) (z.column - 1) f)

pub next_place : (z : Scan) → place (next_row z) (next_column z) ≡ place z.row z.column + 1
next_place z =
    elim (cases_eq z.column 0) [
      | inl e ↦ (let q = at_end z e in let s : z.row + z.column ≡ z.row = omega arith in
          omega (arith, ap₂ place q.0 q.1, place_split z.row z.column, first_next z.row, ap (place 0) s))
      | inr ne ↦ (let q = inside z ne in let s : (z.row + 1) + (z.column - 1) ≡ z.row + z.column = omega arith in
          omega (arith, ap₂ place q.0 q.1, place_split z.row z.column, place_split (z.row + 1) (z.column - 1), ap (place 0) s))
    ]

abbrev pub one_if : Bool → ℕ
one_if b = cond b 1 0

-- what a scan is at any moment, over a grid of n comers with these doors
pub record ScanOk (n : ℕ) (door : ℕ → ℕ) (z : Scan) (seen : List ℕ) : Type 0 where
  pub count : z.doors ≡ place z.row z.column
  pub closed : (p : ℕ) → Contains z.found p → door p ≡ 1
  pub known : (p : ℕ) → Contains seen p → door p ≡ 1
  pub hit : (d : ℕ) → d + (1 + one_if z.over) ≡ z.row + z.column → (p : ℕ) × Contains z.found p × (place 0 d ≤ p)
  pub inner : z.over ≡ false → z.row + z.column < n
  pub below : (p : ℕ) → Contains z.found p → p < place z.row z.column
  pub ended : z.over ≡ true → (d : ℕ) × (z.row ≡ 0) × (z.column ≡ d + 1) × ((reaches d z.found ≡ false) ⊎ (d + 1 ≡ n))

pub nowhere : (p : ℕ) → ¬ Contains [] p
nowhere p h = omega (arith, h.1)

pub ok_fresh : (n : ℕ) (door : ℕ → ℕ) (seen : List ℕ) → 0 < n → ((p : ℕ) → Contains seen p → door p ≡ 1) → ScanOk n door fresh seen
unfolding place
ok_fresh n door seen o h = record {
  count = refl;
  closed = λ p c. absurd (nowhere p c);
  known = h;
  hit = λ d e. absurd (omega arith);
  inner = λ _. omega arith;
  below = λ p c. absurd (nowhere p c);
  ended = λ h. cc;
}

pub ok_stays : (n : ℕ) (door door' : ℕ → ℕ) (z : Scan) (seen : List ℕ) → ((p : ℕ) → door p ≡ 1 → door' p ≡ 1) → ScanOk n door z seen
    → ScanOk n door' z seen
ok_stays n door door' z seen h o = record {
  count = o.count;
  closed = λ p c. h p (o.closed p c);
  known = λ p c. h p (o.known p c);
  hit = o.hit;
  inner = o.inner;
  below = o.below;
  ended = o.ended;
}

module _ (n : ℕ) (door : ℕ → ℕ) (z : Scan) (seen : List ℕ) where
  abbrev here : ℕ
  here = place z.row z.column

  abbrev now : List ℕ
  now = with_found (door here) here z.found

  abbrev after : Scan
  after = scanned n z (door here)

  found_shut : (places : List ℕ) → ((p : ℕ) → Contains places p → door p ≡ 1) → (p : ℕ) → Contains (with_found (door here) here places) p → door p ≡ 1
  found_shut places h p c =
      elim (found_from (door here) here p places c) [ inl k ↦ h p k | inr k ↦ ap door (sym k.1) ∙ k.0 ]

  old_hit : z.over ≡ false → ScanOk n door z seen → (d : ℕ) → d + 1 ≡ z.row + z.column → (p : ℕ) × Contains now p × (place 0 d ≤ p)
  old_hit f o d e =
      let c : one_if z.over ≡ 0 = cond-false z.over 1 0 f in
      let k = o.hit d (omega arith) in
      (k.0, found_before (door here) here k.0 z.found k.1, k.2)

  new_hit : z.over ≡ false → ScanOk n door z seen → (d : ℕ) → d + (1 + one_if after.over) ≡ after.row + after.column → (p : ℕ)
      × Contains now p × (place 0 d ≤ p)
  new_hit f o d e =
      elim (cases_eq z.column 0) [
        | inr ne ↦ (let q = inside z ne in
            let c : one_if after.over ≡ 0 = cond-false after.over 1 0 (and_left (z.column == 0) _ (ne_eqb z.column 0 ne)) in
            old_hit f o d (omega arith))
        | inl e0 ↦ (let q = at_end z e0 in
            elim (cases_Bool after.over) [
              | inl t ↦ (let c : one_if after.over ≡ 1 = cond-true after.over 1 0 t in old_hit f o d (omega arith))
              | inr g ↦ (let c : one_if after.over ≡ 0 = cond-false after.over 1 0 g in
                  let r : reaches z.row now ≡ true = going z.row e0 g in
                  let k = reached z.row now r in
                  let s : d ≡ z.row = omega arith in
                  (k.0, k.1, omega (arith, ap (place 0) s, k.2)))
            ])
      ]
    where
      going : (r : ℕ) → z.column ≡ 0 → after.over ≡ false → reaches z.row now ≡ true
      going r e0 g =
          elim (and_cases (z.column == 0) _ g) [
            | inl u ↦ absurd (eqb-false z.column 0 u e0)
            | inr u ↦ not-false (reaches z.row now) (or_parts (not (reaches z.row now)) ((z.row + 1) == n) u).0
          ]

  pub ok_scanned : z.over ≡ false → ScanOk n door z seen → ScanOk n door after (with_found (door here) here seen)
  ok_scanned f o = record {
    count = omega (arith, o.count, next_place z);
    closed = found_shut z.found o.closed;
    known = found_shut seen o.known;
    hit = new_hit f o;
    inner = λ g. elim (cases_eq z.column 0) [
      | inr ne ↦ let q = inside z ne in omega (arith, o.inner f)
      | inl e0 ↦
          let q = at_end z e0 in
          elim (and_cases (z.column == 0) _ g) [
            | inl u ↦ absurd (eqb-false z.column 0 u e0)
            | inr u ↦ let ne : z.row + 1 ≢ n = eqb-false (z.row + 1) n (or_parts (not (reaches z.row now)) ((z.row + 1) == n) u).1 in
                omega (arith, o.inner f)
          ]
    ];
    below = λ p c. elim (found_from (door here) here p z.found c) [
      | inl k ↦ omega (arith, next_place z, o.below p k)
      | inr k ↦ omega (arith, next_place z, k.1)
    ];
    ended = λ h. let p = and_parts (z.column == 0) _ h in let q = at_end z (eqb-true z.column 0 p.0) in (
      z.row,
      q.0,
      q.1,
      elim (or_cases (not (reaches z.row now)) ((z.row + 1) == n) p.1) [
        | inl u ↦ inl (not-true (reaches z.row now) u)
        | inr u ↦ inr (eqb-true (z.row + 1) n u)
      ],
    );
  }
