-- Testimonies of the pens of a desk, by which they are seen side by side.
use Rattle.std.specs.Prelude.{◌≡◌, ℕ, ◌+◌, Bool, false, List, [], ◌∷◌, ◌++◌}
use mathlib.Core.Option.{none}
use Rattle.atomic_table.specs.Seated.{TableId}
use Rattle.atomic_table.specs.Table.{Step, step}
use Rattle.announce_board.specs.declared.terms.Terms.{Terms}
use Rattle.announce_board.specs.Slots.{Slotted}
use Rattle.desk_core.specs.Dealing.{Testifies, Retires, Gathers}
use Rattle.desk_core.specs.Layout.{lock_at}
use Rattle.desk_core.specs.Testimonies.{after_retiring}
use Rattle.desk_core.specs.Witnessed.{AreLinearized}
use Rattle.desk_core.specs.declared.model.PenState.{PenState}
use Rattle.desk_core.specs.declared.model.View.{View}
use Rattle.desk_core.specs.declared.model.View.TheVariants.{Dealer, Holder, Note, Testimony}
use Rattle.announce_board.specs.Allowed.{Form, Plainly, CutForm, CutPlainly, JoinForm, JoinPlainly, AtEachPen}
use Rattle.announce_board.specs.Rule.{Seated, pen_of}
use Rattle.announce_board.specs.Steps.{pen_at}

-- a testimony: the table of its desk, the pens that gave it, as they were then, and how many sleeping pens may be woken by it
pub record Testified : Type 0 where
  pub table : TableId
  pub pens : List PenState
  pub licences : ℕ

-- the pens of the testimony at a seat
abbrev pub pens_of : View → List PenState
pens_of (Dealer place room) = []
pens_of (Holder p) = []
pens_of (Note told) = []
pens_of (Testimony pens licences) = pens

-- those of a badge that has one view
abbrev pub pens_in : List View → List PenState
pens_in [] = []
pens_in (v ∷ vs) = pens_of v

-- the licences of the testimony at a seat
abbrev pub licences_of : View → ℕ
licences_of (Dealer place room) = 0
licences_of (Holder p) = 0
licences_of (Note told) = 0
licences_of (Testimony pens licences) = licences

-- those of a badge that has one view
abbrev pub licences_in : List View → ℕ
licences_in [] = 0
licences_in (v ∷ vs) = licences_of v

-- the testimony at a seat
abbrev pub testimony_at : View → View
testimony_at v = Testimony (pens_of v) (licences_of v)

-- a badge is that of a testimony
abbrev pub IsTestimony : List View → Type 0
IsTestimony views = views ≡ Testimony (pens_in views) (licences_in views) ∷ []

-- the testimony that a pen gives
abbrev pub testimony_of : View → View
testimony_of v = Testimony (pen_of v ∷ []) 0

-- a pen once it has retired, and the testimony that it gives
abbrev pub retiree : View → View
retiree v = Holder (after_retiring (pen_of v))

abbrev pub last_testimony : View → View
last_testimony v = Testimony (after_retiring (pen_of v) ∷ []) 0

-- that of two which are put together
abbrev pub both_testify : View → View → View
both_testify v w = Testimony (pens_of v ++ pens_of w) (licences_of v + licences_of w)

-- one load has told that the pens of the testimony fit one history, and one journal that linearizes it
abbrev pub Compared : Step Slotted → Seated → ℕ → Seated → Type 0
Compared st before word after = (◌≡◌ {A = Seated} after before) × ((room : ℕ) × AreLinearized room (pens_of before.0))

-- each pen may give testimony
abbrev pub TestifyAllowedBy : CutForm → Bool → (ℕ → Type 0) → Type 0
TestifyAllowedBy A wide roomy = AtEachPen (λ room terms places slots id m.
    A (Testifies id) wide roomy room terms places id m.0 m.0 (testimony_of m.0))

-- and each that does not lead may retire
abbrev pub RetireAllowedBy : CutForm → Bool → (ℕ → Type 0) → Type 0
RetireAllowedBy A wide roomy = AtEachPen (λ room terms places slots id m. (pen_at m).leading ≡ false
    → A (Retires id) wide roomy room terms places id m.0 (retiree m.0) (last_testimony m.0))

-- any two testimonies may be put together
abbrev pub GatherAllowedBy : JoinForm → Bool → (ℕ → Type 0) → Type 0
GatherAllowedBy A wide roomy = (room : ℕ) (terms : Terms) (places id : ℕ) (v : View) (other : ℕ) (w : View)
    → v ≡ testimony_at v → w ≡ testimony_at w
    → A (Gathers id other) wide roomy room terms places id v other w (both_testify v w) (Testimony [] 0)

-- and the pens of each may be compared
abbrev pub CompareAllowedBy : Form → Bool → (ℕ → Type 0) → Type 0
CompareAllowedBy A wide roomy = (room : ℕ) (terms : Terms) (places slots id : ℕ) (m : Seated) → m.0 ≡ testimony_at m.0
    → A wide roomy room terms places slots id m lock_at (λ n. n) (Compared (step slots lock_at 0 0 none) m)

-- each of them, as the table asks
abbrev pub TestifyAllowed : Bool → (ℕ → Type 0) → Type 0
TestifyAllowed = TestifyAllowedBy CutPlainly

abbrev pub RetireAllowed : Bool → (ℕ → Type 0) → Type 0
RetireAllowed = RetireAllowedBy CutPlainly

abbrev pub GatherAllowed : Bool → (ℕ → Type 0) → Type 0
GatherAllowed = GatherAllowedBy JoinPlainly

abbrev pub CompareAllowed : Bool → (ℕ → Type 0) → Type 0
CompareAllowed = CompareAllowedBy Plainly
