-- Comers stand and scans read within the grid, at the end of every run.
use Rattle.std.proofs.Common.{◌≡◌, ℕ, ◌+◌, ◌*◌, ◌/◌, ◌<◌, List, length, inl, inr, refl, ◌∙◌, arith}
use Rattle.std.proofs.lemmas.Bool.{cases_lt}
use Rattle.std.proofs.lemmas.List.{length-map}
use Rattle.split_core.specs.Places.{place, row, column, Numbered}
use Rattle.split_core.specs.Comer.{comer_of}
use Rattle.split_core.specs.Grid.{Event, run, opening, Different}
use Rattle.split_core.specs.Inside.{Inside}
use Rattle.split_core.proofs.Ways.{place_split, place_right, place_down, first_grows, same_place}
use Rattle.split_core.proofs.Collects.{all_ok, length_run}
use Rattle.split_core.proofs.Machines.{place_below, within_grid}

inside_of : (r c n : ℕ) → place r c < place 0 n → r + c < n
inside_of r c n h =
    elim (cases_lt (r + c) n) [
      | inl l ↦ l
      | inr l ↦ absurd (omega (arith, place_split r c, first_grows n (r + c) l))
    ]

number_is : (r c : ℕ) → place r c ≡ (r + c) * (r + c + 1) / 2 + r
unfolding place
number_is r c = refl

pub law_numbered : (r c : ℕ) → Numbered r c
law_numbered r c = record {
  number = number_is r c;
  right = place_right r c;
  below = place_down r c;
  alone = same_place r c;
  within = place_below r c;
  inside = inside_of r c;
}

pub law_inside : (ids : List ℕ) → Different ids → (es : List Event) → Inside (length ids) (run es (opening ids))
law_inside ids d es =
    let many : length (run es (opening ids)).comers ≡ length ids = length_run es (opening ids) ∙ length-map ids comer_of in
    record {
      comers = many;
      diagonals = λ a x h. omega (arith, within_grid ids es d a x h);
      places = λ a x h. place_below (row x.turns) (column x.turns) (length ids) (omega (arith, within_grid ids es d a x h));
      doors = λ a x h f. place_below x.scan.row x.scan.column (length ids) (omega (arith, (all_ok ids es a x h).inner f));
      counted = λ a x h. (all_ok ids es a x h).count;
    }
