-- A ring of lines, as it turns.
use Rattle.std.proofs.Common.{◌≡◌, ℕ, zero, suc, ◌+◌, ◌-◌, ◌<◌, ◌≤◌, ◌⊎◌, inl, inr, List, [], ◌∷◌, ◌++◌, length, take, drop, set, get_or, refl, sym, ◌∙◌, ap, arith, append-nil}
use Rattle.std.specs.Prelude.{min}
use Rattle.std.proofs.lemmas.Bool.{cases_lt}
use Rattle.std.proofs.lemmas.List.{append_assoc, set_split, drop-set-lt, drop-append-le, take_more_set}
use Rattle.std.proofs.Math.ListN.{drop_of_length-le}
use Rattle.std.proofs.Math.Seq.{drop-append-add}
use Rattle.pq_types.specs.Asked.{Line}
use Rattle.pq_book.specs.Pages.{turned}

at_index : (xs : List Line) (at : ℕ) (d : Line) → at < length xs → drop at xs ≡ get_or xs at d ∷ drop (suc at) xs
at_index [] at d h = absurd (omega (arith, h))
at_index (x ∷ xs) zero d h = refl
at_index (x ∷ xs) (suc at) d h = at_index xs at d (omega (arith, h))

-- the lines from an index on begin with the one that stands there
from_here : (xs : List Line) (at : ℕ) (d : Line) → at < length xs → drop at xs ≡ get_or xs at d ∷ drop (at + 1) xs
from_here xs at d h = let next : suc at ≡ at + 1 = omega arith in at_index xs at d h ∙ ap (λ n. get_or xs at d ∷ drop n xs) next

-- the ring before its oldest line is put aside and another added
before_turn : (xs : List Line) (at : ℕ) (l d : Line) → at < length xs → turned at xs ++ l ∷ [] ≡ get_or xs at d ∷ (drop (at + 1) xs ++ (take at xs ++ l ∷ []))
before_turn xs at l d h = append_assoc (drop at xs) (take at xs) (l ∷ []) ∙ ap (λ ys. ys ++ (take at xs ++ l ∷ [])) (from_here xs at d h)

-- the next line is put in the place of the oldest, and the one behind it is the oldest
pub turns_on : (xs : List Line) (at : ℕ) (l d : Line) → at + 1 < length xs → turned at xs ++ l ∷ [] ≡ get_or xs at d ∷ turned (at + 1) (set xs at l)
turns_on xs at l d h =
    before_turn xs at l d (omega (arith, h))
    ∙ ap (λ ys. get_or xs at d ∷ (ys ++ (take at xs ++ l ∷ []))) (sym (drop-set-lt (at + 1) xs at l (omega arith)))
    ∙ ap (λ ys. get_or xs at d ∷ (drop (at + 1) (set xs at l) ++ ys)) (sym (take_more_set xs at l (omega (arith, h))))

-- the last place is taken, and the first has the oldest line
pub turns_over : (xs : List Line) (at : ℕ) (l d : Line) → at < length xs → length xs ≤ at + 1 → turned at xs ++ l ∷ [] ≡ get_or xs at d ∷ turned 0 (set xs at l)
turns_over xs at l d h last =
    let next : suc at ≡ at + 1 = omega arith in
    let none : drop (at + 1) xs ≡ [] = drop_of_length-le xs (omega (arith, last)) in
    before_turn xs at l d h
    ∙ ap (λ ys. get_or xs at d ∷ (ys ++ (take at xs ++ l ∷ []))) none
    ∙ ap (λ ys. get_or xs at d ∷ (take at xs ++ l ∷ ys)) (sym none)
    ∙ ap (λ n. get_or xs at d ∷ (take at xs ++ l ∷ drop n xs)) (sym next)
    ∙ ap (λ ys. get_or xs at d ∷ ys) (sym (set_split xs at l h))
    ∙ ap (λ ys. get_or xs at d ∷ ys) (sym (append-nil (set xs at l)))

-- a ring of which no line is forgotten begins at its first place
pub begins_first : (oldest : ℕ) (forgotten : List Line) → (0 < oldest → 0 < length forgotten) → forgotten ≡ [] → oldest ≡ 0
begins_first zero forgotten turns none = refl
begins_first (suc n) forgotten turns none = absurd (omega (arith, turns (omega arith), ap (λ (ls : List Line). length ls) none))

-- and has its lines in their order
pub straight_ring : (xs : List Line) (oldest : ℕ) → oldest ≡ 0 → drop oldest xs ≡ turned oldest xs
straight_ring xs zero first = sym (append-nil xs)
straight_ring xs (suc n) first = absurd (omega (arith, first))

-- the lines behind so many are those of the older behind them, and those of the newer behind what is left of these
pub behind_both : (older newer : List Line) (skipped passed : ℕ) → passed ≡ min skipped (length older) → drop passed older ++ drop (skipped - passed) newer ≡ drop skipped (older ++ newer)
behind_both older newer skipped passed is = by_end (cases_lt skipped (length older)) where
  by_end : (skipped < length older) ⊎ (length older ≤ skipped) → drop passed older ++ drop (skipped - passed) newer ≡ drop skipped (older ++ newer)
  by_end (inl less) =
      let all : passed ≡ skipped = omega (arith, is, less) in
      let none : skipped - passed ≡ 0 = omega (arith, is, less) in
      ap (λ n. drop passed older ++ drop n newer) none ∙ ap (λ n. drop n older ++ newer) all ∙ sym (drop-append-le skipped older newer (omega (arith, less)))
  by_end (inr more) =
      let end : length older ≤ passed = omega (arith, is, more) in
      let rest : length older + (skipped - passed) ≡ skipped = omega (arith, is, more) in
      ap (λ ys. ys ++ drop (skipped - passed) newer) (drop_of_length-le older end) ∙ sym (drop-append-add older newer (skipped - passed)) ∙ ap (λ n. drop n (older ++ newer)) rest
