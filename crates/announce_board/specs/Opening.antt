-- How a desk is opened and closed.
use Rattle.std.specs.Prelude.{◌≡◌, ◌≢◌, ℕ, ◌+◌, ◌<◌, ◌≤◌, Bool, true, false, List, [], ◌∷◌}
use Rattle.std.specs.Prelude.{length, replicate, slice_get, slice_index, Some}
use mathlib.Core.Option.{some}
use lib.ListN.{get_elem?}
use Rattle.std.specs.List.{All}
use Rattle.atomic_table.specs.Table.{State, opening}
use Rattle.atomic_table.specs.Seated.{TableId}
use Rattle.pq_types.specs.declared.journal.TheConstants.{GREATEST_NUMBER}
use Rattle.pq_types.specs.Asked.{Line}
use Rattle.pq_book.specs.Book.{Volume}
use Rattle.desk_core.specs.Pen.{new_pen}
use Rattle.desk_core.specs.Dealing.{IsReached, Deals}
use Rattle.desk_core.specs.Desk.{Desk, Has, dealer_opening}
use Rattle.desk_core.specs.Knows.{Knows}
use Rattle.desk_core.specs.Layout.{lock_at, word_count}
use Rattle.desk_core.specs.Rule.{MeetsRule}
use Rattle.desk_core.specs.declared.model.Duty.TheVariants.{Retired}
use Rattle.desk_core.specs.declared.model.PenState.{PenState}
use Rattle.desk_core.specs.declared.model.View.{View}
use Rattle.desk_core.specs.declared.model.View.TheVariants.{Dealer, Holder, Testimony}
use Rattle.announce_board.specs.declared.error.DeskError.{DeskError}
use Rattle.announce_board.specs.declared.error.DeskError.TheVariants.{LinesOutOfRange, NoMemory}
use Rattle.announce_board.specs.Allowed.{CutForm, CutPlainly, desk_in}
use Rattle.announce_board.specs.Rule.{Keeps, Seated, dealt_one, pen_dealt}
use Rattle.announce_board.specs.declared.terms.Terms.{Terms}
use Rattle.announce_board.specs.Slots.{MeetsTerms, Slotted, with_book, terms_of, first_limits}
use Rattle.announce_board.specs.Steps.{pen_at}
use Rattle.announce_board.specs.Tokens.{Running, AtDesk}

-- the pen of this place at a desk of this table, before its first step
abbrev pub pen_of_place : TableId → ℕ → ℕ → AtDesk
pen_of_place table room place = record { table = table; state = new_pen room place }

-- pen i is that of place i, before its first step
abbrev pub ArePens : TableId → ℕ → List AtDesk → Type 0
ArePens table room pens = (i : ℕ) (pen : AtDesk) → slice_get pens i ≡ Some pen → pen ≡ pen_of_place table room i

-- the desk has these places and this room, and there is a new pen for each place, in their order,
-- which may post there
pub record Opens (places room : ℕ) (desk : Running) (pens : List AtDesk) : Type 0 where
  pub places_are : desk.places ≡ places
  pub room_is : desk.room ≡ room
  pub counted : length pens ≡ places
  pub dealt : ArePens desk.table room pens
  pub here : All (λ p. p.table ≡ desk.table) pens

-- the number of each refusal
abbrev pub desk_code : DeskError → ℕ
desk_code LinesOutOfRange = 5
desk_code NoMemory = 6

-- the Book is the one at home at some desk that is at the end of a run of the machine from a Book with this room and these
-- terms, and meets the rule
pub record IsHomeBook (room : ℕ) (terms : Terms) (book : Volume) : Type 0 where
  pub desk : Desk
  pub reached : IsReached desk.places (first_limits room terms) desk
  pub meets : MeetsRule desk
  pub at_home : desk.home ≡ Some book
  pub room_is : book.room ≡ room

-- the lock is held at some such desk
pub record IsHeld (room : ℕ) (terms : Terms) : Type 0 where
  pub desk : Desk
  pub reached : IsReached desk.places (first_limits room terms) desk
  pub meets : MeetsRule desk
  pub held : desk.held ≡ true
  pub room_is : desk.room ≡ room

-- The same of a desk at which this pen has its seat: so what the pen last saw or stored in its own
-- record still stands there.
pub record IsHomeWith (room : ℕ) (terms : Terms) (pen : PenState) (book : Volume) : Type 0 where
  pub desk : Desk
  pub reached : IsReached desk.places (first_limits room terms) desk
  pub meets : MeetsRule desk
  pub at_home : desk.home ≡ Some book
  pub room_is : book.room ≡ room
  pub seat : ℕ
  pub has : Has desk.views seat pen

-- the lock is held at such a desk, at which this pen has its seat
pub record IsHeldWith (room : ℕ) (terms : Terms) (pen : PenState) : Type 0 where
  pub desk : Desk
  pub reached : IsReached desk.places (first_limits room terms) desk
  pub meets : MeetsRule desk
  pub held : desk.held ≡ true
  pub room_is : desk.room ≡ room
  pub seat : ℕ
  pub has : Has desk.views seat pen

-- what follows holds of each of these pens
abbrev pub OfEachOf : List PenState → (PenState → Type 0) → Type 0
OfEachOf pens F = (k : ℕ) (p : PenState) → slice_get pens k ≡ Some p → F p

-- Each pen of a testimony has retired, and its pens and its licences together are as many as the places. So no other pen acts: it
-- is still to come, or sleeps.
pub record HasAll (places : ℕ) (pens : List PenState) (licences : ℕ) : Type 0 where
  pub retired : OfEachOf pens (λ p. p.duty ≡ Retired)
  pub counted : length pens + licences ≡ places

-- the Book is the one at home at some such desk, at which each of these pens has its seat
pub record IsHomeWithAll (room : ℕ) (terms : Terms) (pens : List PenState) (book : Volume) : Type 0 where
  pub desk : Desk
  pub reached : IsReached desk.places (first_limits room terms) desk
  pub meets : MeetsRule desk
  pub at_home : desk.home ≡ Some book
  pub room_is : book.room ≡ room
  pub seated : OfEachOf pens (λ p. (seat : ℕ) × Has desk.views seat p)

-- each of these pens knows the journal of this Book
abbrev pub AllKnow : List PenState → Volume → Type 0
AllKnow pens book = OfEachOf pens (λ p. Knows p.room p book.journal)

-- each line of this journal is of the place of one of these pens
abbrev pub LinesAreOfThese : List PenState → List Line → Type 0
LinesAreOfThese pens journal = (i : ℕ) (l : Line) → slice_get journal i ≡ Some l
    → (k : ℕ) × (p : PenState) × (slice_get pens k ≡ Some p) × (p.place ≡ l.place)

-- each of these pens has a place of its own among so many
pub record HavePlaces (places : ℕ) (pens : List PenState) : Type 0 where
  pub inside : OfEachOf pens (λ p. p.place < places)
  pub apart :
      (j k : ℕ) (p q : PenState) → slice_get pens j ≡ Some p → slice_get pens k ≡ Some q → p.place ≡ q.place → j ≡ k

-- what is so of the Book of a desk with this room, these terms and so many places where a testimony of these pens has all
pub record ClosedByAll (room : ℕ) (terms : Terms) (places : ℕ) (pens : List PenState) (book : Volume) : Type 0 where
  pub home : IsHomeWithAll room terms pens book
  pub knows : AllKnow pens book
  pub only : LinesAreOfThese pens book.journal
  pub placed : HavePlaces places pens
  pub bounded : MeetsTerms terms book

-- the table of a desk before all steps, with a Book of its terms that has no lines, and at which nobody waits, keeps the rule
abbrev pub OpeningKept : Bool → (ℕ → Type 0) → Type 0
OpeningKept wide roomy =
    (room : ℕ) (terms : Terms) (places : ℕ) (book : Volume) → room ≤ GREATEST_NUMBER → book.room ≡ room → book.journal ≡ []
    → book.waiters ≡ []
    → terms ≡ terms_of book
    → Keeps wide roomy room terms places (opening (replicate (word_count places) 0) (with_book book ∷ []) (Dealer 0 room))

-- the same, and it stands as the desk of the machine's opening with a dealer
abbrev pub OpeningIsTheDealers : Bool → (ℕ → Type 0) → Type 0
OpeningIsTheDealers wide roomy =
    (room : ℕ) (terms : Terms) (places : ℕ) (book : Volume) → room ≤ GREATEST_NUMBER → book.room ≡ room → book.journal ≡ []
    → book.waiters ≡ []
    → terms ≡ terms_of book
    → (k : Keeps wide roomy room terms places (opening (replicate (word_count places) 0) (with_book book ∷ []) (Dealer 0 room)))
    × (desk_in k ≡ dealer_opening places (first_limits room terms))

-- the dealer may give out the pen of its next place
abbrev pub DealingAllowedBy : CutForm → Bool → (ℕ → Type 0) → Type 0
DealingAllowedBy A wide roomy = (room : ℕ) (terms : Terms) (places id place known : ℕ) → place < places
    → A (Deals id) wide roomy room terms places id (Dealer place known) (dealt_one (Dealer place known))
    (pen_dealt (Dealer place known))

-- as the table asks
abbrev pub DealingAllowed : Bool → (ℕ → Type 0) → Type 0
DealingAllowed = DealingAllowedBy CutPlainly

-- What the words and the slot of a table say at its end. A lock word 0: the Book is in its slot,
-- lawful, and meets the desk's terms; and each pen knows its journal and does not lead. Any other: the lock is held, and where
-- there is one place alone its pen leads. Where a testimony has all pens, the Book is in its slot.
pub record Ends (room : ℕ) (terms : Terms) (places : ℕ) (s : State Slotted View) : Type 0 where
  pub free : slice_index s.words lock_at ≡ 0 → (book : Volume) × (get_elem? s.homes 0 ≡ some (some (with_book book)))
      × (home : IsHomeBook room terms book) × (home.desk.views ≡ s.views)
      × ((id : ℕ) (m : Seated) → m.0 ≡ Holder (pen_at m) → get_elem? s.views id ≡ some m.0
      → Knows (pen_at m).room (pen_at m) book.journal × ((pen_at m).leading ≡ false))
      × MeetsTerms terms book
  pub held : slice_index s.words lock_at ≢ 0
      → (slice_index s.words lock_at ≡ 1) × (held : IsHeld room terms) × (held.desk.views ≡ s.views)
  pub alone : slice_index s.words lock_at ≢ 0 → places ≡ 1 → (id : ℕ) (m : Seated) → m.0 ≡ Holder (pen_at m)
      → get_elem? s.views id ≡ some m.0 → (pen_at m).leading ≡ true
  pub all : (id : ℕ) (pens : List PenState) (licences : ℕ) → get_elem? s.views id ≡ some (Testimony pens licences)
      → HasAll places pens licences
      → (book : Volume) × (get_elem? s.homes 0 ≡ some (some (with_book book))) × ClosedByAll room terms places pens book

abbrev pub EndsAreTold : Bool → (ℕ → Type 0) → Type 0
EndsAreTold wide roomy = (room : ℕ) (terms : Terms) (places : ℕ) (s : State Slotted View) → Keeps wide roomy room terms places s → Ends room terms places s
