-- Pens that sleep, and the licences that wake them.
use Rattle.std.specs.Prelude.{◌≡◌, ℕ, ◌+◌, ◌<◌, Bool, List, [], ◌∷◌}
use Rattle.atomic_table.specs.Seated.{TableId}
use Rattle.desk_core.specs.Dealing.{Sleeps, Wakes}
use Rattle.desk_core.specs.Layout.{item_at}
use Rattle.desk_core.specs.Pen.{new_pen}
use Rattle.desk_core.specs.Testimonies.{after_sleeping, after_waking}
use Rattle.desk_core.specs.declared.model.PenState.{PenState}
use Rattle.desk_core.specs.declared.model.View.{View}
use Rattle.desk_core.specs.declared.model.View.TheVariants.{Holder, Testimony}
use Rattle.announce_board.specs.declared.terms.Terms.{Terms}
use Rattle.announce_board.specs.Allowed.{CutForm, CutPlainly, JoinForm, JoinPlainly, AtEachPen}
use Rattle.announce_board.specs.Rule.{pen_of}
use Rattle.announce_board.specs.Steps.{pen_at}
use Rattle.announce_board.specs.Tokens.{pen_in}

-- the pen has taken no step
abbrev pub IsNew : PenState → Type 0
IsNew p = p ≡ new_pen p.room p.place

-- a badge is that of a sleeping pen at this place, whose record has words in the table
pub record IsSleeper (table : TableId) (views : List View) (place : ℕ) : Type 0 where
  pub one : views ≡ Holder (after_sleeping (pen_in views)) ∷ []
  pub new : IsNew (pen_in views)
  pub here : place ≡ (pen_in views).place
  pub inside : item_at place + 1 < table.words

-- a pen once it sleeps
abbrev pub sleeping : View → View
sleeping v = Holder (after_sleeping (pen_of v))

-- the licence that it gives
abbrev pub licence_of : View → View
licence_of v = Testimony [] 1

-- a pen once a licence has woken it
abbrev pub woken : View → View → View
woken v licence = Holder (after_waking (pen_of v))

-- each new pen may fall asleep
abbrev pub SleepAllowedBy : CutForm → Bool → (ℕ → Type 0) → Type 0
SleepAllowedBy A wide roomy = AtEachPen (λ room terms places slots id m. IsNew (pen_at m)
    → A (Sleeps id) wide roomy room terms places id m.0 (sleeping m.0) (licence_of m.0))

-- and be woken by a testimony of no pen that has a licence
abbrev pub WakeAllowedBy : JoinForm → Bool → (ℕ → Type 0) → Type 0
WakeAllowedBy A wide roomy = (room : ℕ) (terms : Terms) (places id : ℕ) (v : View) (other : ℕ) (w : View) (licences : ℕ)
    → v ≡ sleeping v → w ≡ Testimony [] licences → 0 < licences
    → A (Wakes id other) wide roomy room terms places id v other w (woken v w) (Testimony [] 0)

-- each of them, as the table asks
abbrev pub SleepAllowed : Bool → (ℕ → Type 0) → Type 0
SleepAllowed = SleepAllowedBy CutPlainly

abbrev pub WakeAllowed : Bool → (ℕ → Type 0) → Type 0
WakeAllowed = WakeAllowedBy JoinPlainly
