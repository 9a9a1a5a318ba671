-- Whom and what a step of the desk concerns: the pen that takes it and no other, and one cell at
-- most.
use Rattle.std.specs.Prelude.{◌≡◌, ◌≢◌, ◌↔◌, ℕ, ◌+◌, ◌≤◌}
use Rattle.desk_core.specs.Desk.{Desk, Has}
use Rattle.desk_core.specs.Steps.{Event, actor, Step}
use Rattle.desk_core.specs.declared.model.PenState.{PenState}

-- the lock is as it was, and so is the Book where it is at home
abbrev pub SameLock : Desk → Desk → Type 0
SameLock d d' = (d'.held ≡ d.held) × (d'.home ≡ d.home)

-- the controls, or the item cells, are as they were
abbrev pub SameControls : Desk → Desk → Type 0
SameControls d d' = (k : ℕ) → d'.control k ≡ d.control k

abbrev pub SameItems : Desk → Desk → Type 0
SameItems d d' = (k : ℕ) → d'.item k ≡ d.item k

-- one cell at most has changed: the lock, with which the Book goes out or home; or the control of
-- one place; or the item cell of one place
pub data OneStore (d d' : Desk) : Type 0 where
  in_lock : SameControls d d' → SameItems d d' → OneStore d d'
  in_control : (place : ℕ) → SameLock d d' → ((k : ℕ) → k ≢ place → d'.control k ≡ d.control k) → SameItems d d' → OneStore d d'
  in_item : (place : ℕ) → SameLock d d' → SameControls d d' → ((k : ℕ) → k ≢ place → d'.item k ≡ d.item k) → OneStore d d'

-- The pen at this seat has acted: it is at the same place, with no fewer posts and one step more,
-- and every other pen is as it was. One cell at most has changed; the journal's room and the number
-- of places are the same.
pub record OneActs (d d' : Desk) (seat : ℕ) : Type 0 where
  pub before : PenState
  pub after : PenState
  pub was : Has d.views seat before
  pub is : Has d'.views seat after
  pub place : after.place ≡ before.place
  pub posts : before.posts ≤ after.posts
  pub steps : after.steps ≡ before.steps + 1
  pub others : (j : ℕ) (q : PenState) → j ≢ seat → Has d'.views j q ↔ Has d.views j q
  pub store : OneStore d d'
  pub room : d'.room ≡ d.room
  pub places : d'.places ≡ d.places

-- each step is that of one pen alone
abbrev pub EachStepIsOnePens : Type 0
EachStepIsOnePens = (d d' : Desk) (e : Event) → Step d e d' → OneActs d d' (actor e)
