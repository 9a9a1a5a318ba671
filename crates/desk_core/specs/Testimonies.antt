-- Testimonies, by which the pens of a desk can be seen side by side: a pen gives testimony of what it is, and testimonies
-- are put together. So what several pens keep is told of one history, and no pen changes. A pen that retires gives its last
-- testimony: what it is then, it stays. A pen that falls asleep gives a licence, by which a sleeping pen is woken.
use Rattle.std.specs.Prelude.{◌≡◌, ◌≢◌, ℕ, ◌+◌, false, List, [], ◌∷◌, ◌++◌, slice_get, slice_set, Some}
use mathlib.Core.Option.{some}
use lib.ListN.{get_elem?}
use Rattle.desk_core.specs.Desk.{Desk, Has}
use Rattle.desk_core.specs.declared.model.Duty.TheVariants.{Active, Asleep, Retired}
use Rattle.desk_core.specs.declared.model.PenState.{PenState}
use Rattle.desk_core.specs.declared.model.View.{View}
use Rattle.desk_core.specs.declared.model.View.TheVariants.{Holder, Testimony}

-- a pen gives testimony, which gets a seat behind all others, and stays as it is
abbrev pub StepsTestify : Desk → ℕ → Desk → Type 0
StepsTestify d seat d' =
    (p : PenState) × Has d.views seat p
    × (d' ≡ record d { views = slice_set d.views seat (Holder p) ++ Testimony (p ∷ []) 0 ∷ [] })

-- what a pen is once it has retired
abbrev pub after_retiring : PenState → PenState
after_retiring p = record p { duty = Retired }

-- what a pen is while it sleeps
abbrev pub after_sleeping : PenState → PenState
after_sleeping p = record p { duty = Asleep }

-- what a pen is once it has been woken
abbrev pub after_waking : PenState → PenState
after_waking p = record p { duty = Active }

-- a pen that does not lead retires, and gives testimony of what it is then, which gets a seat behind all others
abbrev pub StepsRetire : Desk → ℕ → Desk → Type 0
StepsRetire d seat d' =
    (p : PenState) × Has d.views seat p × (p.leading ≡ false)
    × (d' ≡ record d {
      views = slice_set d.views seat (Holder (after_retiring p)) ++ Testimony (after_retiring p ∷ []) 0 ∷ [];
    })

-- a pen that does not lead falls asleep, and a testimony of no pen, with one licence, gets a seat behind all others
abbrev pub StepsSleep : Desk → ℕ → Desk → Type 0
StepsSleep d seat d' =
    (p : PenState) × Has d.views seat p × (p.leading ≡ false)
    × (d' ≡ record d { views = slice_set d.views seat (Holder (after_sleeping p)) ++ Testimony [] 1 ∷ [] })

-- a pen is woken by the testimony of no pen at another seat, which has no licence left
abbrev pub StepsWake : Desk → ℕ → ℕ → Desk → Type 0
StepsWake d seat other d' =
    (p : PenState) × (licences : ℕ)
    × Has d.views seat p × (get_elem? d.views other ≡ some (Testimony [] licences)) × (other ≢ seat)
    × (d' ≡ record d { views = slice_set (slice_set d.views seat (Holder (after_waking p))) other (Testimony [] 0) })

-- two testimonies are put together at the seat of the one, and the other has no pen and no licence left
abbrev pub StepsGather : Desk → ℕ → ℕ → Desk → Type 0
StepsGather d seat other d' =
    (pens : List PenState) × (more : List PenState) × (licences : ℕ) × (licences_more : ℕ)
    × (get_elem? d.views seat ≡ some (Testimony pens licences))
    × (get_elem? d.views other ≡ some (Testimony more licences_more)) × (other ≢ seat)
    × (d' ≡ record d {
      views = slice_set (slice_set d.views seat (Testimony (pens ++ more) (licences + licences_more))) other (Testimony [] 0);
    })

-- Each retired pen of a testimony stands at some seat just as it was when it gave it, and does not lead: so it is where no
-- retired pen takes a step.
abbrev pub RetiredStay : List View → Type 0
RetiredStay views =
    (i : ℕ) (pens : List PenState) (licences k : ℕ) (p : PenState) → get_elem? views i ≡ some (Testimony pens licences)
    → slice_get pens k ≡ Some p → p.duty ≡ Retired
    → ((seat : ℕ) × Has views seat p) × (p.leading ≡ false)
