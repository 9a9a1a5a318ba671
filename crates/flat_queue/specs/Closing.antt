-- What a queue that is closed with all its members leaves.
use Rattle.std.specs.Prelude.{◌≡◌, ℕ, true, List, length, map, slice_get, Some}
use Rattle.pq_types.specs.Asked.{Line}
use Rattle.pq_book.specs.Book.{Volume}
use Rattle.desk_core.specs.Calls.{calls_of}
use Rattle.desk_core.specs.Knows.{Knows}
use Rattle.desk_core.specs.Linearizable.{Act, Linearizes}
use Rattle.desk_core.specs.Testimonies.{after_retiring}
use Rattle.desk_core.specs.Times.{IsTimed, IsWhole}
use Rattle.desk_core.specs.Witnessed.{IsWitnessed}
use Rattle.desk_core.specs.declared.model.PenState.{PenState}
use Rattle.announce_board.specs.declared.terms.Terms.{Terms}
use Rattle.announce_board.specs.Opening.{IsHomeWithAll}
use Rattle.announce_board.specs.Tokens.{is_idle}
use Rattle.flat_queue.specs.Members.{QueueName, Joined}

-- the pen of a member, once it has retired
abbrev pub retired_pen : Joined → PenState
retired_pen m = after_retiring m.pen

-- what follows holds of each of these members
abbrev pub OfEachMember : List Joined → (Joined → Type 0) → Type 0
OfEachMember members F = (i : ℕ) (m : Joined) → slice_get members i ≡ Some m → F m

-- each line of this journal is of the place of one of these members
abbrev pub LinesAreTheirs : List Joined → List Line → Type 0
LinesAreTheirs members journal = (i : ℕ) (l : Line) → slice_get journal i ≡ Some l
    → (k : ℕ) × (m : Joined) × (slice_get members k ≡ Some m) × (m.pen.place ≡ l.place)

-- no two of these members have one place
abbrev pub HavePlacesApart : List Joined → Type 0
HavePlacesApart members = (i j : ℕ) (m n : Joined) → slice_get members i ≡ Some m → slice_get members j ≡ Some n
    → m.pen.place ≡ n.pen.place → i ≡ j

-- This journal, which has room for so many lines, linearizes one history. That has the acts of each of these members at the positions
-- that the member keeps, and no others of its place. Each idle one is witnessed: it has read each of its calls that ended entered.
pub record LinearizesMembers (room : ℕ) (members : List Joined) (journal : List Line) : Type 0 where
  pub history : List Act
  pub linearizes : Linearizes room history journal
  pub timed : OfEachMember members (λ m. IsTimed history m.pen)
  pub whole : OfEachMember members (λ m. IsWhole history (length history) m.pen)
  pub witnessed : OfEachMember members (λ m. is_idle m.pen.standing ≡ true → IsWitnessed room history journal m.pen)

-- The Book is the one at home at some desk of the queue's room and terms that is at the end of a run, at which the pen of each member has its
-- seat, retired. Each member knows its journal: it begins with what the member knew of it. At the place of an idle member it has
-- exactly that member's calls. No two members have one place, and each line is of the place of one of them. This journal linearizes
-- one history of them all.
pub record ClosesAll (queue : QueueName) (members : List Joined) (book : Volume) : Type 0 where
  pub home : IsHomeWithAll queue.room queue.terms (map retired_pen members) book
  pub knows : OfEachMember members (λ m. Knows queue.room m.pen book.journal)
  pub idle : OfEachMember members (λ m. is_idle m.pen.standing ≡ true → calls_of m.pen.place book.journal ≡ m.pen.mine)
  pub apart : HavePlacesApart members
  pub only : LinesAreTheirs members book.journal
  pub linearized : LinearizesMembers queue.room members book.journal

-- So it is of each Book at home with the pens of such members, which know its journal.
abbrev pub ClosedAreLinearized : Type 0
ClosedAreLinearized =
    (room : ℕ) (terms : Terms) (members : List Joined) (book : Volume) → IsHomeWithAll room terms (map retired_pen members) book
    → OfEachMember members (λ m. m.pen.room ≡ room) → OfEachMember members (λ m. Knows room m.pen book.journal)
    → LinearizesMembers room members book.journal
