-- What a contract sees of a desk, a pen and a lead; and what their fields keep.
use Rattle.std.specs.Prelude.{◌≡◌, ℕ, ◌+◌, ◌<◌, Bool, true, false, List, [], ◌∷◌}
use Rattle.atomic_table.specs.Seated.{TableId}
use Rattle.pq_book.specs.Book.{Volume}
use Rattle.desk_core.specs.Knows.{NoneAbove}
use Rattle.desk_core.specs.Pen.{new_pen, book_in_hand}
use Rattle.desk_core.specs.Layout.{item_at, word_count}
use Rattle.desk_core.specs.declared.model.Standing.{Standing}
use Rattle.desk_core.specs.declared.model.Standing.TheVariants.{Idle, Waiting}
use Rattle.desk_core.specs.declared.model.PenState.{PenState}
use Rattle.desk_core.specs.declared.model.View.{View}
use Rattle.desk_core.specs.declared.model.View.TheVariants.{Holder}
use Rattle.announce_board.specs.Rule.{Seated, held_slots, pen_of}
use Rattle.announce_board.specs.declared.terms.Terms.{Terms}
use Rattle.announce_board.specs.Steps.{pen_at}
use Rattle.announce_board.specs.Waking.{IsMaskOf}

-- a desk: its table, the number of its places, for how many lines its journal has room, and its terms
pub record Running : Type 0 where
  pub table : TableId
  pub places : ℕ
  pub room : ℕ
  pub terms : Terms

-- a pen: the table of its desk, and what it has done and seen
pub record AtDesk : Type 0 where
  pub table : TableId
  pub state : PenState

-- a lead: the table of its desk, the place of its pen, and its Book
pub record Leading : Type 0 where
  pub table : TableId
  pub place : ℕ
  pub book : Volume

-- the lead is that of this pen, which leads, and its Book is the one that the pen has in its hand; no line
-- of its place there has a serial above its last
pub record IsLeadOf (pen : AtDesk) (lead : Leading) : Type 0 where
  pub table : lead.table ≡ pen.table
  pub place : lead.place ≡ pen.state.place
  pub leads : pen.state.leading ≡ true
  pub book : lead.book ≡ book_in_hand pen.state
  pub used : NoneAbove pen.state.place pen.state.posts pen.state.hand

-- whether a pen waits for no answer
abbrev pub is_idle : Standing → Bool
is_idle (Idle draft) = true
is_idle (Waiting request) = false

-- the table is that of a desk with these places, this room and these terms
pub record IsDesk (table : TableId) (key_places key_room : ℕ) (key_terms : Terms) (places room : ℕ) (terms : Terms) : Type 0 where
  pub words : table.words ≡ word_count places
  pub slots : table.slots ≡ 1
  pub places_are : places ≡ key_places
  pub room_is : room ≡ key_room
  pub terms_are : terms ≡ key_terms

-- the seat is that of a pen at this place, whose record has words in the table
pub record IsAt (table : TableId) (m : Seated) (place : ℕ) : Type 0 where
  pub is : m.0 ≡ Holder (pen_at m)
  pub here : place ≡ (pen_at m).place
  pub inside : item_at place + 1 < table.words

-- the seat is still that of a pen at the same place, and holds what it held
pub record StaysSeated (before after : Seated) : Type 0 where
  pub is : after.0 ≡ Holder (pen_at after)
  pub slots : after.1 ≡ before.1
  pub place : (pen_at after).place ≡ (pen_at before).place
  pub leading : (pen_at after).leading ≡ (pen_at before).leading
  pub owed : (pen_at after).owed ≡ (pen_at before).owed

-- so is that of a pen, which holds the slot exactly where it leads, and keeps the mask of those whom it is to hand out
pub record IsPen (table : TableId) (m : Seated) (place posts : ℕ) (idle : Bool) (wakes : ℕ) : Type 0 where
  pub at : IsAt table m place
  pub slots : m.1 ≡ held_slots (pen_at m).leading
  pub counted : posts ≡ (pen_at m).posts
  pub waits_not : idle ≡ is_idle (pen_at m).standing
  pub owes : IsMaskOf wakes (pen_at m).owed

-- the pen of a badge that has one view
abbrev pub pen_in : List View → PenState
pen_in [] = new_pen 0 0
pen_in (v ∷ vs) = pen_of v
