-- The state of the desk: its lock, its publication records, the Book where it is at home, and what
-- each seat stands for (flat combining: Hendler, Incze, Shavit and Tzafrir 2010).
use Rattle.std.specs.Prelude.{◌≡◌, ℕ, zero, suc, ◌+◌, ◌==◌, if◌then◌else◌, Bool, true}
use Rattle.std.specs.Prelude.{false, List, [], ◌∷◌, length, slice_set, Option, Some, None}
use mathlib.Core.Option.{some}
use lib.ListN.{get_elem?}
use Rattle.pq_types.specs.Item.{Item}
use Rattle.pq_types.specs.declared.control.Control.{Control}
use Rattle.pq_types.specs.declared.control.Control.TheVariants.{Nothing}
use Rattle.pq_types.specs.Asked.{Line}
use Rattle.pq_types.specs.Item.{item}
use Rattle.pq_types.specs.History.{Limits}
use Rattle.pq_book.specs.Book.{Volume, limits}
use Rattle.pq_book.specs.Stock.{settled_book}
use Rattle.desk_core.specs.Pen.{new_pen}
use Rattle.desk_core.specs.declared.model.PenState.{PenState}
use Rattle.desk_core.specs.declared.model.View.{View}
use Rattle.desk_core.specs.declared.model.View.TheVariants.{Dealer, Holder, Note, Testimony}

-- how many lines the journal has room for, the number of places, whether the lock is held, the
-- control and the item cell of each place, the Book where it is at home, and what each seat stands
-- for
pub record Desk : Type 0 where
  pub room : ℕ
  pub places : ℕ
  pub held : Bool
  pub control : ℕ → Control
  pub item : ℕ → Item
  pub home : Option Volume
  pub views : List View

-- of how many acts a seat keeps the positions
abbrev pub acts_in : View → ℕ
acts_in (Dealer place room) = 0
acts_in (Holder p) = length p.begins + length p.ends
acts_in (Note told) = 0
acts_in (Testimony pens licences) = 0

-- of how many acts all seats keep them
abbrev pub acts_number : List View → ℕ
acts_number [] = 0
acts_number (v ∷ vs) = acts_in v + acts_number vs

-- the position of the next act: as many as there have been
abbrev pub time : Desk → ℕ
time d = acts_number d.views

-- the seat is that of this pen
abbrev pub Has : List View → ℕ → PenState → Type 0
Has views seat p = get_elem? views seat ≡ some (Holder p)

-- the Book with these limits and this journal, at which nobody waits
abbrev pub volume : Limits → List Line → Volume
volume l journal = record { room = l.room; bound = l.bound; allowed = l.allowed; journal = journal; waiters = [] }

-- the limits of a queue without a bound that forgets
abbrev pub plain : ℕ → Limits
plain room = limits room (room + 1) room

-- a Book with this room and this journal is at home
pub record AtHome (home : Option Volume) (room : ℕ) (now : List Line) : Type 0 where
  pub book : Volume
  pub is : home ≡ Some book
  pub room_is : book.room ≡ room
  pub journal_is : book.journal ≡ now

-- the cells after this was stored at this place
abbrev pub put : {X : Type 0} → (ℕ → X) → ℕ → X → ℕ → X
put cells place x other = if other == place then x else cells other

-- the desk after a store of this control at this place
abbrev pub with_control : Desk → ℕ → Control → Desk
with_control d place control = record d { control = put d.control place control }

-- the desk after a store of this item in the cell of this place
abbrev pub with_cell : Desk → ℕ → Item → Desk
with_cell d place x = record d { item = put d.item place x }

-- the desk with the lock held, and the Book out
abbrev pub locked : Desk → Desk
locked d = record d { held = true; home = None }

-- the desk with the lock free, and this Book at home, once it has woken whom it is to wake
abbrev pub freed : Desk → Volume → Desk
freed d book = record d { held = false; home = Some (settled_book book) }

-- the desk with this pen at the seat: no other view changes
abbrev pub with_pen : Desk → ℕ → PenState → Desk
with_pen d seat p = record d { views = slice_set d.views seat (Holder p) }

-- a desk before all steps: the lock is free, nothing was ever posted, all cells have the item of
-- the word 0, and a Book with these limits and an empty journal is at home
abbrev pub fresh_desk : ℕ → Limits → List View → Desk
fresh_desk places l views =
    record {
      room = l.room;
      places = places;
      held = false;
      control = λ _. Nothing;
      item = λ _. item 0 0;
      home = Some (volume l []);
      views = views;
    }

-- the pens of so many places from this one on
abbrev pub pens_from : ℕ → ℕ → ℕ → List View
pens_from room zero place = []
pens_from room (suc n) place = Holder (new_pen room place) ∷ pens_from room n (place + 1)

-- the opening with the pen of each place at the seat of the same number
abbrev pub opening : ℕ → Limits → Desk
opening places l = fresh_desk places l (pens_from l.room places 0)

-- the opening with a dealer alone, who has all pens still to give out
abbrev pub dealer_opening : ℕ → Limits → Desk
dealer_opening places l = fresh_desk places l (Dealer 0 l.room ∷ [])
