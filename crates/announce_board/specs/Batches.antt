-- Several requests of its own that a leader applies, one after another.
use Rattle.std.specs.Prelude.{◌≡◌, ℕ, ◌+◌, ◌<◌, nat_le, Bool, true, false, List, [], ◌∷◌, length, map, slice_get, Option, Some, None}
use Rattle.atomic_table.specs.Seated.{TableId}
use Rattle.pq_types.specs.Item.{Item}
use Rattle.pq_types.specs.Asked.{Request, Reply, Answer}
use Rattle.pq_types.specs.declared.request.Request.TheVariants.{Push, Pop}
use Rattle.pq_types.specs.declared.answer.Reply.TheVariants.{Pushed, Got}
use Rattle.pq_types.specs.declared.answer.Answer.TheVariants.{Entered, BookFull, NoMemory, Refused}
use Rattle.pq_types.specs.History.{Limits, MayAnswer}
use Rattle.desk_core.specs.Knows.{NoneAbove}
use Rattle.desk_core.specs.Layout.{lock_at}
use Rattle.desk_core.specs.Pen.{IsIdle, after_apply, book_in_hand}
use Rattle.desk_core.specs.declared.model.Call.{Call}
use Rattle.desk_core.specs.declared.model.PenState.{PenState}
use Rattle.desk_core.specs.declared.model.View.TheVariants.{Holder}
use Rattle.announce_board.specs.Asking.{IsAnswerTo, IsAboveAll}
use Rattle.announce_board.specs.Rule.{Seated}
use Rattle.announce_board.specs.Slots.{with_book}
use Rattle.announce_board.specs.Steps.{pen_at}

-- a request that was entered, and its reply
abbrev pub Told : Type 0
Told = Request × Reply

-- pushes of these items; and pops that took these out
abbrev pub pushes_of : List Item → List Told
pushes_of xs = map (λ x. (Push x, Pushed)) xs

abbrev pub pops_of : List Item → List Told
pops_of xs = map (λ x. (Pop, Got x)) xs

-- The leader applied these requests of its own, one after another, and each was entered on the next line with this reply,
-- which the one-thread queue gives there, as a Book with these limits may.
abbrev pub AppliesEach : Limits → PenState → List Told → PenState → Type 0
AppliesEach limits p [] q = q ≡ p
AppliesEach limits p (t ∷ ts) q =
    (now : ℕ) × MayAnswer limits p.hand t.0 (Entered (length p.hand + 1) t.1)
    × AppliesEach limits (after_apply p t.0 (Entered (length p.hand + 1) t.1) now) ts q

-- the request is the push of the item at this index
abbrev pub IsPushAt : List Item → ℕ → Request → Type 0
IsPushAt items index request = (x : Item) × (slice_get items index ≡ Some x) × (request ≡ Push x)

-- the request is a pop
abbrev pub IsPop : Request → Type 0
IsPop request = request ≡ Pop

-- the first item's priority is at most this one, and there is one
abbrev pub is_first_due : ℕ → Option Item → Bool
is_first_due bound None = false
is_first_due bound (Some x) = nat_le x.priority bound

-- the next request, of which this holds, was so answered, and has no line
abbrev pub IsRefusedAs : Limits → (is_next : Request → Type 0) → PenState → Answer → PenState → Type 0
IsRefusedAs limits is_next p answer q =
    (request : Request) × is_next request × (now : ℕ) × MayAnswer limits p.hand request answer × (q ≡ after_apply p request answer now)

-- none was refused, or the next one was
abbrev pub EndsEach : Limits → (is_next : Request → Type 0) → PenState → Option Answer → PenState → Type 0
EndsEach limits is_next p None q = q ≡ p
EndsEach limits is_next p (Some (Entered number reply)) q = ⊥
EndsEach limits is_next p (Some BookFull) q = IsRefusedAs limits is_next p BookFull q
EndsEach limits is_next p (Some NoMemory) q = IsRefusedAs limits is_next p NoMemory q
EndsEach limits is_next p (Some (Refused why)) q = IsRefusedAs limits is_next p (Refused why) q

-- it applied these, and no more
abbrev pub AppliesUntil : Limits → (is_next : Request → Type 0) → PenState → List Told → Option Answer → PenState → Type 0
AppliesUntil limits is_next p told refused q =
    (m : PenState) × AppliesEach limits p told m × EndsEach limits is_next m refused q

-- These requests have answers to them, at a journal with room for so many lines: the first is entered on the line behind so many.
abbrev pub AreAnswersTo : (room lines : ℕ) → List Told → Type 0
AreAnswersTo room lines [] = Unit {0}
AreAnswersTo room lines (t ∷ ts) = IsAnswerTo room t.0 (Entered (lines + 1) t.1) × AreAnswersTo room (lines + 1) ts

-- what refused the next request, of which this holds, is an answer to it
abbrev pub IsAnswerToNext : (room : ℕ) → (is_next : Request → Type 0) → Option Answer → Type 0
IsAnswerToNext room is_next None = Unit {0}
IsAnswerToNext room is_next (Some answer) = (request : Request) × is_next request × IsAnswerTo room request answer

-- each of so many lines that follow so many is behind those of all these calls
abbrev pub AreAboveAll : (lines count : ℕ) → List Call → Type 0
AreAboveAll lines count calls = (i : ℕ) → i < count → IsAboveAll (lines + 1 + i) calls

-- The seat is that of an idle pen which leads, at this place and with so many posts, and the Book that it has in its hand lies in
-- the slot.
pub record IsLent (table : TableId) (place posts : ℕ) (m : Seated) : Type 0 where
  pub is : m.0 ≡ Holder (pen_at m)
  pub slot : m.1 ≡ (0, with_book (book_in_hand (pen_at m))) ∷ []
  pub lock : lock_at < table.words
  pub leads : (pen_at m).leading ≡ true
  pub idle : IsIdle (pen_at m).standing
  pub here : place ≡ (pen_at m).place
  pub counted : posts ≡ (pen_at m).posts
  pub used : NoneAbove (pen_at m).place (pen_at m).posts (pen_at m).hand
