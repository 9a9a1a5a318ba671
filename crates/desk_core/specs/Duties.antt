-- Which pens act. A sleeping pen is as new, and only a licence wakes it; a retired pen stands in a testimony, and stays as it is.
-- Each pen that acts, each licence and each retired pen of a testimony weighs 1. At the opening all weigh as many as there are
-- places, and nothing makes them more. So where a testimony weighs as many, no pen acts.
use Rattle.std.specs.Prelude.{◌≡◌, ℕ, ◌+◌, ◌-◌, ◌≤◌, ◌==◌, if◌then◌else◌, List, slice_get, Some}
use Rattle.std.specs.List.{sum_by}
use mathlib.Core.Option.{some}
use lib.ListN.{get_elem?}
use Rattle.desk_core.specs.Desk.{Has}
use Rattle.desk_core.specs.Pen.{new_pen}
use Rattle.desk_core.specs.Testimonies.{RetiredStay, after_sleeping}
use Rattle.desk_core.specs.declared.model.Duty.{Duty}
use Rattle.desk_core.specs.declared.model.Duty.TheVariants.{Active, Asleep, Retired}
use Rattle.desk_core.specs.declared.model.PenState.{PenState}
use Rattle.desk_core.specs.declared.model.View.{View}
use Rattle.desk_core.specs.declared.model.View.TheVariants.{Dealer, Holder, Note, Testimony}

-- the pen stands in the pens of some testimony
abbrev pub HasTestified : List View → PenState → Type 0
HasTestified views p =
    (i : ℕ) × (pens : List PenState) × (licences : ℕ)
    × (get_elem? views i ≡ some (Testimony pens licences)) × ((k : ℕ) × (slice_get pens k ≡ Some p))

-- each pen at a seat that has retired stands in the pens of some testimony
abbrev pub RetiredAreKept : List View → Type 0
RetiredAreKept views = (seat : ℕ) (p : PenState) → Has views seat p → p.duty ≡ Retired → HasTestified views p

-- each sleeping pen at a seat is as new
abbrev pub SleepersAreNew : List View → Type 0
SleepersAreNew views =
    (seat : ℕ) (p : PenState) → Has views seat p → p.duty ≡ Asleep → p ≡ after_sleeping (new_pen p.room p.place)

-- 1 for a pen that acts
abbrev pub one_if_active : Duty → ℕ
one_if_active Active = 1
one_if_active Asleep = 0
one_if_active Retired = 0

-- 1 for a pen that has retired
abbrev pub one_if_retired : Duty → ℕ
one_if_retired Active = 0
one_if_retired Asleep = 0
one_if_retired Retired = 1

-- how many of these pens have retired
abbrev pub retired_among : List PenState → ℕ
retired_among pens = sum_by (λ (p : PenState). one_if_retired p.duty) pens

-- how many of these pens have retired at this place
abbrev pub retired_at : ℕ → List PenState → ℕ
retired_at place pens = sum_by (λ (p : PenState). if p.place == place then one_if_retired p.duty else 0) pens

-- the same of the pens of a testimony at a seat
abbrev pub testified_at : ℕ → View → ℕ
testified_at place (Dealer next room) = 0
testified_at place (Holder p) = 0
testified_at place (Note told) = 0
testified_at place (Testimony pens licences) = retired_at place pens

-- of each place at most one retired pen stands in all testimonies
abbrev pub RetiredStandApart : List View → Type 0
RetiredStandApart views = (place : ℕ) → sum_by (testified_at place) views ≤ 1

-- how many pens a view stands for: a dealer for those that are still to come, a pen that acts for itself, and a testimony for its
-- retired pens and one for each licence
abbrev pub weight : ℕ → View → ℕ
weight places (Dealer next room) = places - next
weight places (Holder p) = one_if_active p.duty
weight places (Note told) = 0
weight places (Testimony pens licences) = licences + retired_among pens

-- how many pens all seats stand for
abbrev pub weight_of : ℕ → List View → ℕ
weight_of places views = sum_by (weight places) views

-- retired pens stand in testimonies, each once, and stay as they are; and sleeping pens are as new
pub record DutiesAreKept (views : List View) : Type 0 where
  pub stay : RetiredStay views
  pub kept : RetiredAreKept views
  pub new : SleepersAreNew views
  pub apart : RetiredStandApart views
