-- The stored trail goes on as the trail does: by the rows of one diagonal.
use Rattle.std.proofs.Common.{◌≡◌, ◌<◌, ◌≤◌, ◌≢◌, ℕ, ◌+◌, ◌-◌, ◌⊎◌, inl, inr, List, [], ◌∷◌, ◌++◌, refl, ap, ap₂, sym, subst, arith, true, false, not}
use Rattle.std.proofs.Common.{◌&&◌, ◌==◌, nat_lt, eqb-true}
use Rattle.std.proofs.lemmas.Bool.{and_parts, or_right, or_left, or_cases, cond_both, ltb-true}
use Rattle.split_core.specs.Places.{place}
use Rattle.split_core.specs.Trail.{Spot, spot, Trail, lists, joined, led_to}
use Rattle.split_core.specs.TrailRows.{LedFrom, AreRows, Are, RowsFollow}
use Rattle.split_core.proofs.Ways.{place_split, first_next}
use Rattle.split_core.proofs.TrailFacts.{same_spot, led_keeps, led_right, led_below}
use Rattle.split_core.proofs.TrailCounts.{Ascends}

-- what is listed after a place joined
pub listed_here : (p : Spot) (r c : ℕ) → ((p.row == r) && (p.column == c)) ≡ true → (p.row ≡ r) × (p.column ≡ c)
listed_here p r c t = let k = and_parts (p.row == r) (p.column == c) t in (eqb-true p.row r k.0, eqb-true p.column c k.1)

lists_head : (p : Spot) (rest : List Spot) → lists p.row p.column (p ∷ rest) ≡ true
lists_head p rest = or_left ((p.row == p.row) && (p.column == p.column)) (lists p.row p.column rest) (same_spot p p.row p.column refl refl)

lists_push_from : (r c : ℕ) (ps : List Spot) (q : Spot) → lists r c (ps ++ q ∷ []) ≡ true → (lists r c ps ≡ true) ⊎ ((q.row ≡ r) × (q.column ≡ c))
lists_push_from r c [] q h = elim (or_cases ((q.row == r) && (q.column == c)) false h) [ inl t ↦ inr (listed_here q r c t) | inr t ↦ inl t ]
lists_push_from r c (p ∷ ps) q h =
    elim (or_cases ((p.row == r) && (p.column == c)) (lists r c (ps ++ q ∷ [])) h) [
      | inl t ↦ inl (or_left ((p.row == r) && (p.column == c)) (lists r c ps) t)
      | inr t ↦ elim (lists_push_from r c ps q t) [ inl k ↦ inl (or_right ((p.row == r) && (p.column == c)) (lists r c ps) k) | inr k ↦ inr k ]
    ]

joined_from : (n i j : ℕ) (ps : List Spot) (r c : ℕ) → lists r c (joined n i j ps) ≡ true → (lists r c ps ≡ true) ⊎ ((i + j < n) × (i ≡ r) × (j ≡ c))
joined_from n i j ps r c =
    cond_both (nat_lt (i + j) n && not (lists i j ps)) _ _
    (λ (qs : List Spot). lists r c qs ≡ true → (lists r c ps ≡ true) ⊎ ((i + j < n) × (i ≡ r) × (j ≡ c)))
    (λ t h. elim (lists_push_from r c ps (spot i j) h) [
      | inl k ↦ inl k
      | inr k ↦ inr (ltb-true (i + j) n (and_parts (nat_lt (i + j) n) (not (lists i j ps)) t).0, k.0, k.1)
    ])
    (λ _ h. inl h)

abbrev LedBy : ℕ → Spot → ℕ → ℕ → ℕ → Type 0
LedBy n p w r c = (w ≡ 1) × (r + c < n) × (((p.row ≡ r) × (p.column + 1 ≡ c)) ⊎ ((p.row + 1 ≡ r) × (p.column ≡ c)))

pub led_from : (n : ℕ) (p : Spot) (w : ℕ) (rest : List Spot) (r c : ℕ) → lists r c (led_to n p w rest) ≡ true → (lists r c rest ≡ true)
    ⊎ LedBy n p w r c
led_from n p w rest r c =
    cond_both (w == 1) _ _ (λ (qs : List Spot). lists r c qs ≡ true → (lists r c rest ≡ true) ⊎ LedBy n p w r c)
    (λ t h. elim (joined_from n (p.row + 1) p.column _ r c h) [
      | inr k ↦ inr (eqb-true w 1 t, omega (arith, k.0, k.1, k.2), inr (k.1, k.2))
      | inl k ↦ elim (joined_from n p.row (p.column + 1) rest r c k) [
        | inl k' ↦ inl k'
        | inr k' ↦ inr (eqb-true w 1 t, omega (arith, k'.0, k'.1, k'.2), inl (k'.1, k'.2))
      ]
    ])
    (λ _ h. inl h)

-- the places ahead ascend: the first is the least
pub listed_from : (low r c : ℕ) (ps : List Spot) → Ascends low ps → lists r c ps ≡ true → low ≤ place r c
listed_from low r c [] a h = cc
listed_from low r c (p ∷ ps) a h =
    elim (or_cases ((p.row == r) && (p.column == c)) (lists r c ps) h) [
      | inl t ↦ let k = listed_here p r c t in omega (arith, a.0, ap₂ place k.0 k.1)
      | inr t ↦ omega (arith, a.0, listed_from (place p.row p.column + 1) r c ps a.1 t)
    ]

module _ (n d low : ℕ) (unread shut : ℕ → Type 0) (p : Spot) (rest : List Spot) (a : Ascends low (p ∷ rest))
    (k : AreRows n d unread shut (p ∷ rest)) where
  -- where a row of the diagonal is unread, the next place is in the least unread row
  pub first_row : (q : ℕ) → q ≤ d → unread q → (p.row + p.column ≡ d) × unread p.row × ((r : ℕ) → r ≤ d → unread r → p.row ≤ r)
  first_row q l u =
      elim ((k p.row p.column).0 (lists_head p rest)) [
        | inl h ↦ (h.0, h.1, λ r m v. omega (arith, least r m v, h.0, place_split p.row p.column, ap (place 0) h.0))
        | inr h ↦ absurd (omega (arith, least q l u, place_split p.row p.column, ap (place 0) h.0, first_next d))
      ]
    where
      least : (r : ℕ) → r ≤ d → unread r → place p.row p.column ≤ place 0 d + r
      least r m v =
          let c : ℕ = d - r in
          let e : r + c ≡ d = omega arith in
          omega (
            arith,
            listed_from (place p.row p.column) r c (p ∷ rest) (omega arith, a.1) ((k r c).1 (inl (e, v))),
            place_split r c,
            ap (place 0) e,
          )

  abbrev unread_after : ℕ → Type 0
  unread_after r = unread r × (r ≢ p.row)

  abbrev shut_after : ℕ → ℕ → Type 0
  shut_after w r = shut r ⊎ ((w ≡ 1) × (r ≡ p.row))

  -- the door of the next place is read
  module _ (w : ℕ) (here : p.row + p.column ≡ d) where
    not_again : (c : ℕ) → p.row + c ≡ d → ¬ (lists p.row c rest ≡ true)
    not_again c e h =
        let q : p.column ≡ c = omega arith in
        omega (arith, listed_from (place p.row p.column + 1) p.row c rest a.1 h, ap (place p.row) q)

    in_rest : (r c : ℕ) → lists r c (p ∷ rest) ≡ true → ((p.row ≡ r) × (p.column ≡ c)) ⊎ (lists r c rest ≡ true)
    in_rest r c h = elim (or_cases ((p.row == r) && (p.column == c)) (lists r c rest) h) [ inl t ↦ inl (listed_here p r c t) | inr t ↦ inr t ]

    into : (r c : ℕ) → lists r c (led_to n p w rest) ≡ true → ((r + c ≡ d) × unread_after r)
        ⊎ ((r + c ≡ d + 1) × (d + 1 < n) × LedFrom (shut_after w) r)
    into r c h =
        elim (led_from n p w rest r c h) [
          | inl o ↦ elim ((k r c).0 (or_right ((p.row == r) && (p.column == c)) (lists r c rest) o)) [
            | inl u ↦ inl (u.0, (u.1, λ e. not_again c (omega (arith, u.0, e)) (subst (λ (i : ℕ). lists i c rest ≡ true) e o)))
            | inr u ↦ inr (u.0, u.1, elim u.2 [ inl s ↦ inl (inl s) | inr s ↦ inr (s.0, s.1, inl s.2) ])
          ]
          | inr o ↦ elim o.2 [
            | inl s ↦ inr (omega (arith, s.0, s.1), omega (arith, o.1, s.0, s.1), inl (inr (o.0, sym s.0)))
            | inr s ↦ inr (omega (arith, s.0, s.1), omega (arith, o.1, s.0, s.1), inr (p.row, s.0, inr (o.0, refl)))
          ]
        ]

    old : (r c : ℕ) → ((r + c ≡ d) × unread_after r) ⊎ ((r + c ≡ d + 1) × (d + 1 < n) × LedFrom shut r) → lists r c (led_to n p w rest) ≡ true
    old r c (inl u) =
        elim (in_rest r c ((k r c).1 (inl (u.0, u.1.0)))) [ inl e ↦ absurd (u.1.1 (sym e.0)) | inr t ↦ led_keeps n p w rest r c t ]
    old r c (inr u) =
        elim (in_rest r c ((k r c).1 (inr u))) [ inl e ↦ absurd (omega (arith, e.0, e.1, u.0)) | inr t ↦ led_keeps n p w rest r c t ]

    to_right : (r c : ℕ) → w ≡ 1 → r ≡ p.row → r + c ≡ d + 1 → d + 1 < n → lists r c (led_to n p w rest) ≡ true
    to_right r c e q s l =
        let g : p.column + 1 ≡ c = omega arith in
        subst (λ (i : ℕ). lists i c (led_to n p w rest) ≡ true) (sym q)
        (subst (λ (j : ℕ). lists p.row j (led_to n p w rest) ≡ true) g (led_right n p w rest e (omega arith)))

    to_below : (r c : ℕ) → w ≡ 1 → p.row + 1 ≡ r → r + c ≡ d + 1 → d + 1 < n → lists r c (led_to n p w rest) ≡ true
    to_below r c e q s l =
        let g : p.column ≡ c = omega arith in
        subst (λ (i : ℕ). lists i c (led_to n p w rest) ≡ true) q
        (subst (λ (j : ℕ). lists (p.row + 1) j (led_to n p w rest) ≡ true) g (led_below n p w rest e (omega arith)))

    pub rows_read : AreRows n d unread_after (shut_after w) (led_to n p w rest)
    rows_read r c = (
      into r c,
      λ h. elim h [
        | inl u ↦ old r c (inl u)
        | inr u ↦ elim u.2 [
          | inl s ↦ elim s [ inl o ↦ old r c (inr (u.0, u.1, inl o)) | inr o ↦ to_right r c o.0 o.1 u.0 u.1 ]
          | inr s ↦ elim s.2 [
            | inl o ↦ old r c (inr (u.0, u.1, inr (s.0, s.1, o)))
            | inr o ↦ to_below r c o.0 (omega (arith, o.1, s.1)) u.0 u.1
          ]
        ]
      ],
    )

-- the rows of the first diagonal
pub rows_start : (n : ℕ) → AreRows n 0 (λ r. r ≡ 0) (λ _. ⊥) (spot 0 0 ∷ [])
rows_start n r c = (
  λ h. elim (or_cases ((0 == r) && (0 == c)) false h) [
    | inl t ↦ (let e = listed_here (spot 0 0) r c t in
        inl (omega (arith, e.0, e.1), sym e.0))
    | inr t ↦ cc
  ],
  λ h. elim h [
    | inl u ↦ or_left ((0 == r) && (0 == c)) false (same_spot (spot 0 0) r c (omega (arith, u.1)) (omega (arith, u.0)))
    | inr u ↦ elim u.2 [ inl s ↦ absurd s | inr s ↦ absurd s.2 ]
  ],
)

-- where no row is unread the stored trail goes to the next diagonal, unless that lies outside the grid
pub rows_next : (n d : ℕ) (unread shut : ℕ → Type 0) (places : List Spot) → ((r : ℕ) → r ≤ d → ¬ unread r) → d + 1 < n
    → AreRows n d unread shut places → AreRows n (d + 1) (LedFrom shut) (λ _. ⊥) places
rows_next n d unread shut places none l k r c = (
  λ h. elim ((k r c).0 h) [ inl u ↦ absurd (none r (omega (arith, u.0)) u.1) | inr u ↦ inl (u.0, u.2) ],
  λ h. elim h [ inl u ↦ (k r c).1 (inr (u.0, l, u.1)) | inr u ↦ elim u.2 [ inl s ↦ absurd s | inr s ↦ absurd s.2 ] ],
)

-- the trail is over where no row is unread, and no closed door leads on or the next diagonal lies
-- outside the grid
pub rows_over : (n d : ℕ) (unread shut : ℕ → Type 0) (places : List Spot) → ((r : ℕ) → r ≤ d → ¬ unread r)
    → ((r : ℕ) → r ≤ d + 1 → d + 1 < n → ¬ LedFrom shut r) → AreRows n d unread shut places → places ≡ []
rows_over n d unread shut [] none end k = refl
rows_over n d unread shut (p ∷ rest) none end k =
    absurd (elim ((k p.row p.column).0 (lists_head p rest)) [
      | inl u ↦ none p.row (omega (arith, u.0)) u.1
      | inr u ↦ end p.row (omega (arith, u.0)) u.1 u.2
    ])

pub rows_follow : (n low : ℕ) (z : Trail) → Ascends low z.ahead → RowsFollow n z
rows_follow n low z a = record {
  first =
      λ d unread shut p rest q k e l u. first_row n d low (Are unread) (Are shut) p rest (up p rest e)
      (rows d (Are unread) (Are shut) p rest e k) q l u;
  read =
      λ d unread shut p rest word k e here. rows_read n d low (Are unread) (Are shut) p rest (up p rest e)
      (rows d (Are unread) (Are shut) p rest e k) word here;
  next = λ d unread shut k none l. rows_next n d (Are unread) (Are shut) z.ahead none l k;
  over = λ d unread shut k none end. rows_over n d (Are unread) (Are shut) z.ahead none end k;
}
  where
    up : (p : Spot) (rest : List Spot) → z.ahead ≡ p ∷ rest → Ascends low (p ∷ rest)
    up p rest e = subst (λ (ps : List Spot). Ascends low ps) e a

    rows : (d : ℕ) (unread shut : ℕ → Type 0) (p : Spot) (rest : List Spot) → z.ahead ≡ p ∷ rest → AreRows n d unread shut z.ahead
        → AreRows n d unread shut (p ∷ rest)
    rows d unread shut p rest e k = subst (λ (ps : List Spot). AreRows n d unread shut ps) e k
