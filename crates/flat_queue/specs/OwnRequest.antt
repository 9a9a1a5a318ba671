-- What a member does that carries its own request out.
use Rattle.std.specs.Prelude.{◌≡◌, ℕ, ◌<◌, ◌⊎◌, Bool, true, false, Some, Result}
use Rattle.pq_types.specs.Asked.{Request, Operation}
use Rattle.pq_types.specs.Operation.{Asked}
use Rattle.pq_types.specs.Asked.{Reply}
use Rattle.pq_types.specs.Asked.{Answer}
use Rattle.pq_types.specs.declared.answer.Answer.TheVariants.{Entered, BookFull}
use Rattle.pq_types.specs.History.{MayDo}
use Rattle.pq_book.specs.Book.{Volume}
use Rattle.desk_core.specs.Pen.{after_release_by, book_in_hand, limits_in_hand}
use Rattle.announce_board.specs.Asking.{IsAboveAll, IsFullFor}
use Rattle.announce_board.specs.Serving.{Wins}
use Rattle.announce_board.specs.Slots.{MeetsTerms}
use Rattle.flat_queue.specs.Members.{Joined, StaysAtPlace}
use Rattle.flat_queue.specs.TrailSweeping.{IsTrailSweptBy}
use Rattle.flat_queue.specs.Turns.{FindsLockHeld, Misses}
use Rattle.flat_queue.specs.Calling.{ended, PostsAndWaitsBy}
use Rattle.flat_queue.specs.declared.error.CallError.{CallError}

-- The leader has read the hint that somebody has posted: where that was set, it made one whole sweep by a trail scan, and
-- else nothing. Here, and in all that follows, items have so many words.
abbrev pub SweepsWhereBy : ℕ → Bool → Joined → Joined → Type 0
SweepsWhereBy words true before after = (answers doors : ℕ) × IsTrailSweptBy words before answers doors after
SweepsWhereBy words false before after = after ≡ before

-- The leader released the lock with this operation of its own, a request or the use of a ticket, which was so answered as
-- the Book in its hand may, which meets the queue's terms: on a line behind those of all its calls before, and BookFull
-- where that journal was full. It posted nothing.
pub record ReleasesOperation (before : Joined) (operation : Operation) (answer : Answer) (after : Joined) : Type 0 where
  pub terms : MeetsTerms before.queue.terms (book_in_hand before.pen)
  pub may : MayDo (limits_in_hand before.pen) before.pen.hand operation answer
  pub behind : (number : ℕ) (reply : Reply) → answer ≡ Entered number reply → IsAboveAll number before.pen.mine
  pub full : answer ≡ BookFull → IsFullFor after.pen
  pub now : ℕ
  pub after_is : after ≡ record before { pen = after_release_by before.pen operation answer now }

-- the same with a request
abbrev pub ReleasesWith : (before : Joined) (request : Request) (answer : Answer) (after : Joined) → Type 0
ReleasesWith before request answer after = ReleasesOperation before (Asked request) answer after

-- The member won the lock, served the others where it read that somebody had posted, and released with this operation
-- of its own, which was so answered.
pub record CarriesOutOperationBy (words : ℕ) (before : Joined) (operation : Operation) (answer : Answer) (after : Joined) : Type 0 where
  pub book : Volume
  pub led : Joined
  pub ready : Joined
  pub won : Wins before.pen book led.pen
  pub stays : StaysAtPlace before led
  pub hinted : Bool
  pub sweeps : SweepsWhereBy words hinted led ready
  pub released : ReleasesOperation ready operation answer after

-- the same with a request
abbrev pub CarriesOutBy : (words : ℕ) (before : Joined) (request : Request) (answer : Answer) (after : Joined) → Type 0
CarriesOutBy words before request answer after = CarriesOutOperationBy words before (Asked request) answer after

-- the call found the lock free, and tells the answer with which the member carried its own request out
abbrev pub EntersAtOnceBy : ℕ → Joined → Request → Result (ℕ × Reply) CallError → Joined → Type 0
EntersAtOnceBy words before request result after =
    (answer : Answer) × (result ≡ ended (Some answer)) × CarriesOutBy words before request answer after

-- The member tried the lock again, and found it held so often. Then it found it free and entered, while its rest had tries left; or it
-- had made them all, and posted and waited.
pub record TriesOrWaitsBy (words : ℕ) (before : Joined) (request : Request) (result : Result (ℕ × Reply) CallError) (after : Joined) : Type 0 where
  pub tries : ℕ
  pub missed : Joined
  pub misses : Misses tries before missed
  pub ends : ((tries < before.rest.tries) × EntersAtOnceBy words missed request result after)
      ⊎ ((tries ≡ before.rest.tries) × PostsAndWaitsBy words missed request result after)

-- it found the lock free, and entered at once; or it found the lock held, and tried again, or waited
abbrev pub EntersOrWaitsBy : ℕ → Joined → Request → Result (ℕ × Reply) CallError → Joined → Type 0
EntersOrWaitsBy words before request result after =
    EntersAtOnceBy words before request result after
    ⊎ ((missed : Joined) × FindsLockHeld before missed × TriesOrWaitsBy words missed request result after)

-- The same of narrow items, which have one word.
abbrev pub CarriesOut : (before : Joined) (request : Request) (answer : Answer) (after : Joined) → Type 0
CarriesOut = CarriesOutBy 1

abbrev pub EntersAtOnce : Joined → Request → Result (ℕ × Reply) CallError → Joined → Type 0
EntersAtOnce = EntersAtOnceBy 1

abbrev pub EntersOrWaits : Joined → Request → Result (ℕ × Reply) CallError → Joined → Type 0
EntersOrWaits = EntersOrWaitsBy 1
