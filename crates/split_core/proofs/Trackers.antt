-- What running code keeps of a trail scan goes on as the scan does.
use Rattle.std.proofs.Common.{◌≡◌, ◌≢◌, ◌<◌, ◌≤◌, ℕ, ◌+◌, ◌-◌, ◌⊎◌, ◌↔◌, inl, inr, List, [], ◌∷◌, ◌++◌, refl, ap, sym, ◌∙◌, subst, arith, Bool, true, false, ◌==◌, eqb-true, eq-eqb}
use Rattle.std.proofs.lemmas.Bool.{cases_lt}
use Rattle.std.proofs.lemmas.Nat.Bits.{bit_at-zero, bit_at_above}
use Rattle.std.specs.Int.{bit_at}
use Rattle.split_core.specs.Places.{place}
use Rattle.split_core.specs.Trail.{Spot, spot, Trail, trail_start, lists, led_to, follows}
use Rattle.split_core.specs.TrailRows.{LedFrom, AreRows, Are, RowsFollow}
use Rattle.split_core.specs.TrailReads.{reads_word, trail_by, TrailMoment}
use Rattle.split_core.specs.TrailCalls.{is_done}
use Rattle.split_core.specs.Tracker.{has_row, no_tracker, IsTracker, Stores, IsNextRow}
use Rattle.split_core.specs.declared.places.TheConstants.{MAX_COMERS}
use Rattle.split_core.specs.declared.tracker.Tracker.{Tracker}
use Rattle.split_core.proofs.Ways.{place_split, first_next, first_grows}
use Rattle.split_core.proofs.TrailRows.{rows_start}
use Rattle.split_core.proofs.TrailReads.{reads_last}

abbrev pub tracker : ℕ → ℕ → ℕ → ℕ → ℕ → Tracker
tracker d f u s doors = record { diagonal = d; first = f; unread = u; shut = s; doors = doors }

none_before : 0 ≡ place 0 0
unfolding place
none_before = refl

-- bit r of the mask is set
abbrev pub In : ℕ → ℕ → Type 0
In mask r = bit_at mask r ≡ 1

is_in : (mask r : ℕ) → Are (has_row mask) r → In mask r
is_in mask r h = eqb-true (bit_at mask r) 1 h

is_row : (mask r : ℕ) → In mask r → Are (has_row mask) r
is_row mask r h = eq-eqb (bit_at mask r) 1 h

rows_same : (n d : ℕ) (u u' s s' : ℕ → Type 0) (ps : List Spot) → ((r : ℕ) → u r ↔ u' r) → ((r : ℕ) → s r ↔ s' r) → AreRows n d u s ps → AreRows n d u' s' ps
rows_same n d u u' s s' ps hu hs k r c = (
  λ h. elim ((k r c).0 h) [
    | inl x ↦ inl (x.0, (hu r).0 x.1)
    | inr x ↦ inr (x.0, x.1, elim x.2 [ inl y ↦ inl ((hs r).0 y) | inr y ↦ inr (y.0, y.1, (hs y.0).0 y.2) ])
  ],
  λ h. (k r c).1 (elim h [
    | inl x ↦ inl (x.0, (hu r).1 x.1)
    | inr x ↦ inr (x.0, x.1, elim x.2 [ inl y ↦ inl ((hs r).1 y) | inr y ↦ inr (y.0, y.1, (hs y.0).1 y.2) ])
  ]),
)

in_one : (r : ℕ) → In 1 r → r ≡ 0
in_one r b = elim (cases_lt 0 r) [ inl l ↦ absurd (omega (arith, b, bit_at_above 1 1 r (omega arith) (omega arith))) | inr l ↦ omega arith ]

in_none : (r : ℕ) → ¬ In 0 r
in_none r b = omega (arith, b, bit_at-zero r)

-- before the first door
pub starts_lawful : (n : ℕ) → 0 < n → n ≤ MAX_COMERS → IsTracker n (tracker 0 0 1 0 0)
starts_lawful n some few = record {
  few = few;
  inside = some;
  first = none_before;
  unread = λ r b. omega (arith, in_one r b);
  shut = λ r b. absurd (in_none r b);
  counted = λ r b. omega arith;
  room = omega arith;
}

pub stores_start : (n : ℕ) → Stores n (tracker 0 0 1 0 0) trail_start
stores_start n = record {
  rows = rows_same n 0 (λ r. r ≡ 0) (Are (has_row 1)) (λ _. ⊥) (Are (has_row 0)) trail_start.ahead
      (λ r. (λ e. subst (λ (j : ℕ). Are (has_row 1) j) (sym e) (is_row 1 0 refl), λ h. in_one r (is_in 1 r h)))
      (λ r. (λ e. absurd e, λ h. in_none r (is_in 0 r h)))
      (rows_start n);
  doors = refl;
  over = λ e. cc;
}

-- before the first trail scan
pub none_lawful : (n : ℕ) → 0 < n → n ≤ MAX_COMERS → IsTracker n no_tracker
none_lawful n some few = record {
  few = few;
  inside = some;
  first = none_before;
  unread = λ r b. absurd (in_none r b);
  shut = λ r b. absurd (in_none r b);
  counted = λ r b. omega arith;
  room = omega arith;
}

abbrev pub no_trail : Trail
no_trail = record { ahead = []; found = []; doors = 0 }

pub stores_none : (n : ℕ) → Stores n no_tracker no_trail
stores_none n = record {
  rows = λ r c. (
    λ h. absurd (let f : false ≡ true = h in cc),
    λ h. elim h [
      | inl x ↦ absurd (in_none r (is_in 0 r x.1))
      | inr x ↦ absurd (elim x.2 [ inl y ↦ in_none r (is_in 0 r y) | inr y ↦ in_none y.0 (is_in 0 y.0 y.2) ])
    ],
  );
  doors = refl;
  over = λ e. refl;
}

-- whether it is over
pub over_is : (n : ℕ) (t : Tracker) (z : Trail) → Stores n t z → t.unread ≡ 0 → true ≡ is_done z.ahead
over_is n t z st e = sym (ap is_done (st.over e))

listed_on : (r c : ℕ) (ps : List Spot) → lists r c ps ≡ true → false ≡ is_done ps
listed_on r c [] h = absurd (cc)
listed_on r c (p ∷ ps) h = refl

pub on_is : (n k : ℕ) (t : Tracker) (z : Trail) → Stores n t z → bit_at t.unread k ≡ 1 → k ≤ t.diagonal → false ≡ is_done z.ahead
on_is n k t z st b l = listed_on k (t.diagonal - k) z.ahead ((st.rows k (t.diagonal - k)).1 (inl (omega (arith, l), is_row t.unread k b)))

-- the next row is the least that is unread
pub record IsLeast (mask k : ℕ) : Type 0 where
  pub set : In mask k
  pub least : (r : ℕ) → r < k → bit_at mask r ≡ 0

not_before : (mask k r : ℕ) → IsLeast mask k → In mask r → k ≤ r
not_before mask k r h b = elim (cases_lt r k) [ inl l ↦ absurd (omega (arith, b, h.least r l)) | inr l ↦ l ]

module _ (n d u s : ℕ) (z : Trail) (follow : RowsFollow n z) (rows : AreRows n d (Are (has_row u)) (Are (has_row s)) z.ahead) (k : ℕ) (least : IsLeast u k) (l : k ≤ d) where
  listed : lists k (d - k) z.ahead ≡ true
  listed = (rows k (d - k)).1 (inl (omega arith, is_row u k least.set))

  first_is : (ps : List Spot) → z.ahead ≡ ps → IsNextRow d k ps
  first_is [] e = absurd (let f : false ≡ true = subst (λ (ps : List Spot). lists k (d - k) ps ≡ true) e listed in cc)
  first_is (p ∷ rest) e =
      let f = follow.first d (has_row u) (has_row s) p rest k rows e l (is_row u k least.set) in
      let same : p.row ≡ k = omega (arith, f.2 k l (is_row u k least.set), not_before u k p.row least (is_in u p.row f.1)) in
      let here : spot k p.column ≡ p = ap (λ (r : ℕ). spot r p.column) (sym same) in
      record {
        column = p.column;
        on = omega (arith, f.0, same);
        rest = rest;
        next = ap (λ (q : Spot). q ∷ rest) (sym here);
      }

  pub next_row_is : IsNextRow d k z.ahead
  next_row_is = first_is z.ahead refl

  -- its door is read as this word
  module _ (word u' s' : ℕ) (hu : (r : ℕ) → In u' r ↔ (In u r × (r ≢ k))) (hs : (r : ℕ) → In s' r ↔ (In s r ⊎ ((word ≡ 1) × (r ≡ k)))) where
    read_by : (ps : List Spot) → z.ahead ≡ ps → AreRows n d (Are (has_row u')) (Are (has_row s')) (follows n (λ _. word) ps z).ahead × ((follows n (λ _. word) ps z).doors ≡ z.doors + 1)
    read_by [] e = absurd (let f : false ≡ true = subst (λ (ps : List Spot). lists k (d - k) ps ≡ true) e listed in cc)
    read_by (p ∷ rest) e =
        let f = follow.first d (has_row u) (has_row s) p rest k rows e l (is_row u k least.set) in
        let same : p.row ≡ k = omega (arith, f.2 k l (is_row u k least.set), not_before u k p.row least (is_in u p.row f.1)) in (
          rows_same n d (λ r. Are (has_row u) r × (r ≢ p.row)) (Are (has_row u')) (λ r. Are (has_row s) r ⊎ ((word ≡ 1) × (r ≡ p.row))) (Are (has_row s')) (led_to n p word rest)
              (λ r. (
                λ h. is_row u' r ((hu r).1 (is_in u r h.0, λ q. h.1 (q ∙ sym same))),
                λ h. (let g = (hu r).0 (is_in u' r h) in (is_row u r g.0, λ q. g.1 (q ∙ same))),
              ))
              (λ r. (
                λ h. is_row s' r ((hs r).1 (elim h [ inl x ↦ inl (is_in s r x) | inr x ↦ inr (x.0, x.1 ∙ same) ])),
                λ h. elim ((hs r).0 (is_in s' r h)) [ inl x ↦ inl (is_row s r x) | inr x ↦ inr (x.0, x.1 ∙ sym same) ],
              ))
              (follow.read d (has_row u) (has_row s) p rest word rows e f.0),
          refl,
        )

    pub rows_read_are : AreRows n d (Are (has_row u')) (Are (has_row s')) (reads_word n z word).ahead × ((reads_word n z word).doors ≡ z.doors + 1)
    rows_read_are = read_by z.ahead refl

-- where no row is left the scan goes to the next diagonal, unless that lies outside the grid
module _ (n d u s : ℕ) (z : Trail) (follow : RowsFollow n z) (rows : AreRows n d (Are (has_row u)) (Are (has_row s)) z.ahead) (none : u ≡ 0) where
  no_row : (r : ℕ) → r ≤ d → ¬ Are (has_row u) r
  no_row r l h = in_none r (subst (λ (m : ℕ). In m r) none (is_in u r h))

  pub goes_down : (led : ℕ) → ((r : ℕ) → In led r ↔ LedFrom (In s) r) → d + 1 < n → (AreRows n (d + 1) (Are (has_row led)) (Are (has_row 0)) z.ahead) × (led ≡ 0 → z.ahead ≡ [])
  goes_down led h l =
      let to_row : (r : ℕ) → LedFrom (Are (has_row s)) r ↔ Are (has_row led) r = λ r. (
        λ x. is_row led r ((h r).1 (elim x [ inl y ↦ inl (is_in s r y) | inr y ↦ inr (y.0, y.1, is_in s y.0 y.2) ])),
        λ x. elim ((h r).0 (is_in led r x)) [ inl y ↦ inl (is_row s r y) | inr y ↦ inr (y.0, y.1, is_row s y.0 y.2) ],
      ) in (
        rows_same n (d + 1) (LedFrom (Are (has_row s))) (Are (has_row led)) (λ _. ⊥) (Are (has_row 0)) z.ahead to_row
            (λ r. (λ e. absurd e, λ x. in_none r (is_in 0 r x))) (follow.next d (has_row u) (has_row s) rows no_row l),
        λ e. follow.over d (has_row u) (has_row s) rows no_row (λ r _ _ x. in_none r (subst (λ (m : ℕ). In m r) e (is_in led r ((to_row r).0 x)))),
      )

  pub is_over : n ≤ d + 1 → z.ahead ≡ []
  is_over l = follow.over d (has_row u) (has_row s) rows no_row (λ r _ m x. omega (arith, l, m))

most : place 0 64 ≡ 2080
unfolding place
most = refl

-- the number of a place, by that of the first one of its diagonal
pub place_is : (d f row : ℕ) → f ≡ place 0 d → row ≤ d → f + row ≡ place row (d - row)
place_is d f row e l =
    let on : row + (d - row) ≡ d = omega (arith, l) in
    omega (arith, e, place_split row (d - row), ap (place 0) on)

pub few_places : (n d : ℕ) → n ≤ MAX_COMERS → d < n → place 0 d ≤ 2080
few_places n d few inside = omega (arith, most, first_grows d 64 (omega (arith, few, inside)))

-- the numbers of the stored form
module _ (n d f u s doors : ℕ) (t : IsTracker n (tracker d f u s doors)) (k : ℕ) (least : IsLeast u k) where
  pub row_within : k ≤ d
  row_within = t.unread k least.set

  room_for_one : doors + 1 ≤ place 0 (d + 1)
  room_for_one = omega (arith, t.counted k least.set, row_within, first_next d)

  pub room_in_grid : doors + 1 ≤ place 0 n
  room_in_grid = omega (arith, room_for_one, first_grows (d + 1) n (omega (arith, t.inside)))

  pub few_doors : doors + 1 ≤ 2080
  few_doors = omega (arith, room_in_grid, first_grows n 64 t.few, most)

  module _ (u' s' : ℕ) (hu : (r : ℕ) → In u' r ↔ (In u r × (r ≢ k))) (hs : (r : ℕ) → In s' r → In s r ⊎ (r ≡ k)) where
    pub shut_within : (r : ℕ) → In s' r → r ≤ d
    shut_within r b = elim (hs r b) [ inl x ↦ t.shut r x | inr e ↦ omega (arith, row_within) ]

    pub stays_lawful : IsTracker n (tracker d f u' s' (doors + 1))
    stays_lawful = record {
      few = t.few;
      inside = t.inside;
      first = t.first;
      unread = λ r b. t.unread r ((hu r).0 b).0;
      shut = shut_within;
      counted = λ r b. let x = (hu r).0 b in omega (arith, t.counted k least.set, not_before u k r least x.0, x.1);
      room = room_in_grid;
    }

    pub next_lawful : (led : ℕ) → ((r : ℕ) → In led r ↔ LedFrom (In s') r) → d + 1 < n → IsTracker n (tracker (d + 1) (f + d + 1) led 0 (doors + 1))
    next_lawful led h l = record {
      few = t.few;
      inside = l;
      first = omega (arith, t.first, first_next d);
      unread = λ r b. elim ((h r).0 b) [ inl x ↦ omega (arith, shut_within r x) | inr x ↦ omega (arith, shut_within x.0 x.2, x.1) ];
      shut = λ r b. absurd (in_none r b);
      counted = λ r b. omega (arith, room_for_one);
      room = room_in_grid;
    }

-- the stored form after one door
module _ (n d f u s doors : ℕ) (t : IsTracker n (tracker d f u s doors)) (k : ℕ) (least : IsLeast u k) (moments : (words : List ℕ) → TrailMoment n (trail_by n words))
    (closed : Bool) (u' s' : ℕ) (hu : (r : ℕ) → In u' r ↔ (In u r × (r ≢ k))) (hs : (r : ℕ) → In s' r ↔ (In s r ⊎ ((closed ≡ true) × (r ≡ k))))
    (words : List ℕ) (word : ℕ) (told : closed ≡ (word == 1)) (st : Stores n (tracker d f u s doors) (trail_by n words)) where
  abbrev z : Trail
  z = trail_by n words

  abbrev z' : Trail
  z' = trail_by n (words ++ word ∷ [])

  by_word : (r : ℕ) → In s' r ↔ (In s r ⊎ ((word ≡ 1) × (r ≡ k)))
  by_word r = (
    λ b. elim ((hs r).0 b) [ inl x ↦ inl x | inr x ↦ inr (eqb-true word 1 (sym told ∙ x.0), x.1) ],
    λ h. (hs r).1 (elim h [ inl x ↦ inl x | inr x ↦ inr (told ∙ eq-eqb word 1 x.0, x.1) ]),
  )

  one_more : reads_word n z word ≡ z'
  one_more = sym (reads_last n trail_start words word)

  read_now : AreRows n d (Are (has_row u')) (Are (has_row s')) z'.ahead × (doors + 1 ≡ z'.doors)
  read_now =
      let k' = rows_read_are n d u s z (moments words).rows st.rows k least (t.unread k least.set) word u' s' hu by_word in (
        subst (λ (y : Trail). AreRows n d (Are (has_row u')) (Are (has_row s')) y.ahead) one_more k'.0,
        ap (λ q. q + 1) st.doors ∙ (sym k'.1 ∙ ap (λ (y : Trail). y.doors) one_more),
      )

  pub stores_on : (u' ≡ 0 → n ≤ d + 1) → Stores n (tracker d f u' s' (doors + 1)) z'
  stores_on end = record {
    rows = read_now.0;
    doors = read_now.1;
    over = λ e. is_over n d u' s' z' (moments (words ++ word ∷ [])).rows read_now.0 e (end e);
  }

  pub stores_next : (led : ℕ) → ((r : ℕ) → In led r ↔ LedFrom (In s') r) → u' ≡ 0 → d + 1 < n → Stores n (tracker (d + 1) (f + d + 1) led 0 (doors + 1)) z'
  stores_next led h none l =
      let down = goes_down n d u' s' z' (moments (words ++ word ∷ [])).rows read_now.0 none led h l in
      record { rows = down.0; doors = read_now.1; over = down.1 }
