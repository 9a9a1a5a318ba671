-- What the loads of a call have found, told of the seat before and after them.
use Rattle.std.specs.Prelude.{◌≡◌, ℕ, Bool, true, false, ◌∷◌, Option, Some}
use Rattle.pq_types.specs.Item.{Item}
use Rattle.pq_types.specs.Asked.{Request}
use Rattle.pq_types.specs.declared.control.Notice.{Notice}
use Rattle.pq_types.specs.declared.control.Kind.{Kind}
use Rattle.pq_book.specs.Book.{Volume}
use Rattle.pq_book.specs.Stock.{IsSettledBook}
use Rattle.desk_core.specs.Knows.{Knows}
use Rattle.desk_core.specs.Desk.{Desk}
use Rattle.desk_core.specs.Pen.{after_lead, after_miss}
use Rattle.desk_core.specs.declared.model.Due.{Due}
use Rattle.desk_core.specs.declared.model.View.TheVariants.{Holder}
use Rattle.desk_core.specs.declared.model.Standing.TheVariants.{Waiting}
use Rattle.announce_board.specs.Rule.{Seated}
use Rattle.announce_board.specs.declared.terms.Terms.{Terms}
use Rattle.announce_board.specs.Slots.{MeetsTerms, out}
use Rattle.announce_board.specs.Steps.{pen_at, StandsAt, Becomes, LockWon, ControlRead, Looked}
use Rattle.announce_board.specs.ItemWords.{read_by, taken_by}
use Rattle.announce_board.specs.Asking.{notice_in, post_in}

-- the pen, which waited for some request, looked at the control of its own place, and this is the
-- notice that stood there
pub record LoadsOwn (before : Seated) (result : Option Notice) (after : Seated) : Type 0 where
  pub request : Request
  pub waited : (pen_at before).standing ≡ Waiting request
  pub word : ℕ
  pub looked : Looked request before word after
  pub notice : result ≡ notice_in (looked.desk.control (pen_at before).place)

-- the pen, which waited for some request, took the item that stood in its own cell
pub record TakesOwn (words : ℕ) (notice : Notice) (before : Seated) (result : Item) (after : Seated) : Type 0 where
  pub request : Request
  pub waited : (pen_at before).standing ≡ Waiting request
  pub desk : Desk
  pub stands : StandsAt desk (pen_at before)
  pub item : result ≡ desk.item (pen_at before).place
  pub now : ℕ
  pub next : Becomes before (taken_by words (pen_at before) request notice result now) after

-- the pen has tried the lock: it has the slot with the Book, of these terms, or found the lock held
abbrev pub TriesLock : Terms → Bool → Seated → Seated → Type 0
TriesLock terms true before after = LockWon terms before after
TriesLock terms false before after = Becomes before (after_miss (pen_at before)) after

-- the pen has won the lock, and the Book, of these terms, has left its slot; it had woken whom it was to wake
pub record WinsBook (terms : Terms) (before : Seated) (book : Volume) (after : Seated) : Type 0 where
  pub bounded : MeetsTerms terms book
  pub settled : IsSettledBook book
  pub room : book.room ≡ (pen_at before).room
  pub led_not : (pen_at before).leading ≡ false
  pub knows : Knows (pen_at before).room (pen_at before) book.journal
  pub next : ◌≡◌ {A = Seated} after (Holder (after_lead (pen_at before) book), (0, out) ∷ before.1)

-- the leader read the control of this place, and this is the post that stood there
pub record LoadsMail (place : ℕ) (before : Seated) (result : Option (ℕ × Kind)) (after : Seated) : Type 0 where
  pub word : ℕ
  pub read : ControlRead place before word after
  pub post : result ≡ post_in (read.desk.control place)

-- the leader read the item of what is due
pub record LoadsCell (words : ℕ) (before : Seated) (result : Item) (after : Seated) : Type 0 where
  pub due : Due
  pub is_due : (pen_at before).due ≡ Some due
  pub desk : Desk
  pub stands : StandsAt desk (pen_at before)
  pub item : result ≡ desk.item due.place
  pub next : Becomes before (read_by words (pen_at before) due result) after
