-- The rule of a desk's table, which holds between any two atomic steps.
use Rattle.std.specs.Prelude.{◌≡◌, ◌≢◌, ℕ, ◌+◌, ◌≤◌, Bool, true, false, List, [], ◌∷◌, length, Option, Some, None}
use mathlib.Core.Option as home
use mathlib.Core.Option.{some, none}
use lib.ListN.{get_elem?}
use Rattle.atomic_table.specs.Table.{State, Me}
use Rattle.pq_types.specs.Item.{Item}
use Rattle.pq_types.specs.declared.answer.Answer.TheVariants.{NoMemory}
use Rattle.pq_types.specs.declared.control.Control.{Control}
use Rattle.pq_types.specs.Control.{answered}
use Rattle.pq_book.specs.Book.{Volume}
use Rattle.desk_core.specs.Pen.{new_pen}
use Rattle.desk_core.specs.Dealing.{IsReached}
use Rattle.desk_core.specs.Desk.{Desk}
use Rattle.desk_core.specs.Layout.{AreWords}
use Rattle.desk_core.specs.Rule.{MeetsRule}
use Rattle.desk_core.specs.Duties.{DutiesAreKept, weight_of}
use Rattle.desk_core.specs.declared.model.Duty.TheVariants.{Active}
use Rattle.desk_core.specs.declared.model.PenState.{PenState}
use Rattle.desk_core.specs.declared.model.View.{View}
use Rattle.desk_core.specs.declared.model.View.TheVariants.{Dealer, Holder, Note, Testimony}
use Rattle.announce_board.specs.declared.terms.Terms.{Terms}
use Rattle.announce_board.specs.Slots.{Slotted, with_book, says, out, first_limits}

-- the Book in a slot, where it is at home
abbrev pub book_in : home.Option (home.Option Slotted) → Option Volume
book_in none = None
book_in (some none) = None
book_in (some (some (with_book book))) = Some book
book_in (some (some (says terms))) = None

-- and of that in the slot of the table
abbrev pub book_at_home : List (home.Option Slotted) → Option Volume
book_at_home homes = book_in (get_elem? homes 0)

-- the desk with this room and these places, lock, controls, item cells, slot and views
abbrev pub desk_of : ℕ → ℕ → Bool → (ℕ → Control) → (ℕ → Item) → List (home.Option Slotted) → List View → Desk
desk_of room places held control cells homes views =
    record {
      room = room;
      places = places;
      held = held;
      control = control;
      item = cells;
      home = book_at_home homes;
      views = views;
    }

-- no record has the answer that memory was refused
abbrev pub NoneIsRefused : (ℕ → Control) → Type 0
NoneIsRefused control = (place : ℕ) → control place ≢ answered NoMemory

-- The words of the table show some lock, controls and item cells; there is one slot; and the desk
-- of these, with the Book of the slot and the views of the seats, is at the end of some run of the
-- machine from its opening with a dealer and a Book of the desk's terms, and so meets the rule of desks. Retired pens stand in
-- testimonies, and stay as they were; sleeping pens are as new. The pens that act, the retired ones and the licences are no
-- more than the places. `roomy n` says that every store of the desk's kind has room for n items: where that is so of the
-- journal's lines, no record says NoMemory. The items of the desk are wide or narrow.
pub record Keeps (wide : Bool) (roomy : ℕ → Type 0) (room : ℕ) (terms : Terms) (places : ℕ) (s : State Slotted View) : Type 0 where
  pub held : Bool
  pub control : ℕ → Control
  pub cells : ℕ → Item
  pub words : AreWords wide places s.words held control cells
  pub slots : length s.homes ≡ 1
  pub reached : IsReached places (first_limits room terms) (desk_of room places held control cells s.homes s.views)
  pub meets : MeetsRule (desk_of room places held control cells s.homes s.views)
  pub duties : DutiesAreKept s.views
  pub weight : weight_of places s.views ≤ places
  pub memory : roomy room → NoneIsRefused control

-- the pen for which a seat stands
abbrev pub holder_of : View → PenState
holder_of (Dealer place room) = new_pen room place
holder_of (Holder p) = p
holder_of (Note told) = new_pen 0 0
holder_of (Testimony pens licences) = new_pen 0 0

-- The pen of a seat, as one that acts: so a view is the `Holder` of its pen only where that pen does.
abbrev pub pen_of : View → PenState
pen_of v = record (holder_of v) { duty = Active }

-- what a seat knows, and the slots that it holds
abbrev pub Seated : Type 0
Seated = Me Slotted View

-- a pen that leads holds the slot, from which the Book is out
abbrev pub held_slots : Bool → List (ℕ × Slotted)
held_slots true = (0, out) ∷ []
held_slots false = []

-- the dealer after it has given out the pen of its next place, and that pen
abbrev pub dealt_one : View → View
dealt_one (Dealer place room) = Dealer (place + 1) room
dealt_one (Holder p) = Holder p
dealt_one (Note told) = Note told
dealt_one (Testimony pens licences) = Testimony pens licences

abbrev pub pen_dealt : View → View
pen_dealt (Dealer place room) = Holder (new_pen room place)
pen_dealt (Holder p) = Holder p
pen_dealt (Note told) = Note told
pen_dealt (Testimony pens licences) = Testimony pens licences
