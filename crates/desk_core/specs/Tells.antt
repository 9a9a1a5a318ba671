-- What each kind of step tells and leaves, in plain words: none of it is said by the rule.
use Rattle.std.specs.Prelude.{◌≡◌, ◌≢◌, ◌↔◌, ℕ, ◌+◌, ◌<◌, max, min, true, false, [], ◌∷◌, ◌++◌, length, Some, None}
use Rattle.std.specs.List.{AllByRecursion}
use Rattle.pq_types.specs.Item.{Item}
use Rattle.pq_types.specs.Asked.{Request, Operation}
use Rattle.pq_types.specs.declared.request.Request.TheVariants.{Push}
use Rattle.pq_types.specs.Asked.{Reply}
use Rattle.pq_types.specs.Asked.{Answer}
use Rattle.pq_types.specs.declared.answer.Answer.TheVariants.{Entered, BookFull, Refused}
use Rattle.pq_types.specs.declared.answer.Refusal.TheVariants.{Shut}
use Rattle.pq_types.specs.Operation.{Asked}
use Rattle.pq_types.specs.declared.control.Kind.{Kind}
use Rattle.pq_types.specs.declared.control.Control.TheVariants.{Posted}
use Rattle.pq_types.specs.Control.{answer_item, reply_item, posted, answered, is_posted, is_answer, has_item}
use Rattle.pq_types.specs.History.{journal_by, journal_after, EndsAtShut, is_shut, MayDo, MayAnswer}
use Rattle.desk_core.specs.Calls.{call, gained, gained_by}
use Rattle.wait_list.specs.Waiters.{Change, changed}
use Rattle.pq_book.specs.Stock.{with_waiters, settled_book}
use Rattle.pq_book.specs.Pages.{page_of}
use Rattle.desk_core.specs.Pen.{due_to, newly_woken, book_with, book_in_hand, limits_in_hand}
use Rattle.desk_core.specs.Desk.{Desk, Has}
use Rattle.desk_core.specs.Steps.{Drafts, Posts, Tries, Reads, ReadsItem, LaysItem, Answers, Applies}
use Rattle.desk_core.specs.Steps.{Archives, Changes, HandsOut, Releases, ReleasesBy, Looks, SeesItem, TakesItem, Step}
use Rattle.desk_core.specs.Rule.{MeetsRule}
use Rattle.desk_core.specs.declared.model.Standing.TheVariants.{Idle, Waiting}
use Rattle.desk_core.specs.declared.model.Due.{Due}
use Rattle.desk_core.specs.declared.model.Word.TheVariants as word
use Rattle.desk_core.specs.declared.model.PenState.{PenState}

-- the pen as one who asks is as it was: its posts, whether it waits, and the answered calls that it
-- has read
pub record SameAsker (p p' : PenState) : Type 0 where
  pub posts : p'.posts ≡ p.posts
  pub standing : p'.standing ≡ p.standing
  pub mine : p'.mine ≡ p.mine

-- the pen as one who leads is as it was
pub record SameLead (p p' : PenState) : Type 0 where
  pub leading : p'.leading ≡ p.leading
  pub hand : p'.hand ≡ p.hand
  pub dealt : p'.dealt ≡ p.dealt
  pub due : p'.due ≡ p.due
  pub known : p'.known ≡ p.known

-- the lead goes on: nothing is noted or released
pub record SameRound (p p' : PenState) : Type 0 where
  pub leading : p'.leading ≡ p.leading
  pub hand : p'.hand ≡ p.hand
  pub dealt : p'.dealt ≡ p.dealt
  pub known : p'.known ≡ p.known

-- a draft stands in the cell, and the pen keeps it
pub record AfterDraft (d d' : Desk) (x : Item) (p p' : PenState) : Type 0 where
  pub standing : p'.standing ≡ Idle (Some x)
  pub cell : d'.item p.place ≡ x
  pub posts : p'.posts ≡ p.posts
  pub mine : p'.mine ≡ p.mine
  pub own : p'.own ≡ p.own
  pub lead : SameLead p p'

-- a post stands in the control under the next serial, which is what the pen last stored there
pub record AfterPost (d d' : Desk) (request : Request) (p p' : PenState) : Type 0 where
  pub standing : p'.standing ≡ Waiting request
  pub posts : p'.posts ≡ p.posts + 1
  pub stands : d'.control p.place ≡ posted p'.posts request
  pub own : p'.own ≡ posted p'.posts request
  pub mine : p'.mine ≡ p.mine
  pub lead : SameLead p p'

-- Where the lock was free, the pen leads with the Book that was at home in its hand, and has noted
-- nothing. Where it was held, the pen is as it was. It has read which of the two.
pub record AfterTry (d d' : Desk) (p p' : PenState) : Type 0 where
  pub won : d.held ≡ false → (p'.leading ≡ true) × (d.home ≡ Some (book_in_hand p')) × (p'.dealt ≡ []) × (p'.due ≡ None)
      × (p'.known ≡ p.known)
  pub missed : d.held ≡ true → SameLead p p'
  pub held : d'.held ≡ true
  pub read : p'.read ≡ Some (word.Lock d.held)
  pub own : p'.own ≡ p.own
  pub asker : SameAsker p p'

-- The mail read is noted. What it found is due, where that is a post, and nothing is otherwise; at
-- the leader's own place it is what the pen last saw there.
pub record AfterRead (d d' : Desk) (place : ℕ) (p p' : PenState) : Type 0 where
  pub dealt : p'.dealt ≡ p.dealt ++ place ∷ []
  pub read : p'.read ≡ Some (word.Control (d.control place))
  pub due : (serial : ℕ) (k : Kind) → d.control place ≡ Posted serial k → p'.due ≡ Some (due_to place serial k None)
  pub none : is_posted (d.control place) ≡ false → p'.due ≡ None
  pub own_here : place ≡ p.place → p'.own ≡ d.control place
  pub own_else : place ≢ p.place → p'.own ≡ p.own
  pub leading : p'.leading ≡ p.leading
  pub hand : p'.hand ≡ p.hand
  pub known : p'.known ≡ p.known
  pub asker : SameAsker p p'

-- The item that is read is that of the push which waits there, never that of a half-written record;
-- the leader knows it.
pub record AfterReadItem (d d' : Desk) (p p' : PenState) : Type 0 where
  pub due : Due
  pub item : Item
  pub was : p.due ≡ Some due
  pub waits : (i : ℕ) × (q : PenState) × Has d.views i q × (q.place ≡ due.place) × (q.posts ≡ due.serial)
      × (q.standing ≡ Waiting (Push item))
  pub now : p'.due ≡ Some (due_to due.place due.serial due.kind (Some item))
  pub read : p'.read ≡ Some (word.Item item)
  pub own : p'.own ≡ p.own
  pub round : SameRound p p'
  pub asker : SameAsker p p'

-- the item laid stands in the cell of the place that is due, and the leader knows it
pub record AfterLay (d d' : Desk) (x : Item) (p p' : PenState) : Type 0 where
  pub due : Due
  pub was : p.due ≡ Some due
  pub now : p'.due ≡ Some (due_to due.place due.serial due.kind (Some x))
  pub cell : d'.item due.place ≡ x
  pub own : p'.own ≡ p.own
  pub round : SameRound p p'
  pub asker : SameAsker p p'

-- The answer is one that the Book in hand may give: BookFull exactly where its journal is full, else Shut exactly
-- where a shut refuses it. It stands at the place that was due: to the request which waits there. The journal gains its line, if
-- it is entered; nothing is due, and the place and its answer are what the leader last saw at its own
-- place, if it is that.
pub record AfterAnswer (d d' : Desk) (answer : Answer) (p p' : PenState) : Type 0 where
  pub due : Due
  pub request : Request
  pub was : p.due ≡ Some due
  pub waits : (i : ℕ) × (q : PenState) × Has d.views i q × (q.place ≡ due.place) × (q.posts ≡ due.serial)
      × (q.standing ≡ Waiting request)
  pub may : MayAnswer (limits_in_hand p) p.hand request answer
  pub full : (answer ≡ BookFull) ↔ (length p.hand ≡ d.room)
  pub shut : (answer ≡ Refused Shut) ↔ ((length p.hand < d.room) × EndsAtShut (Asked request) × (is_shut p.hand ≡ true))
  pub stands : d'.control due.place ≡ answered answer
  pub hand : p'.hand ≡ journal_after p.hand due.place due.serial request answer
  pub done : p'.due ≡ None
  pub own_here : due.place ≡ p.place → p'.own ≡ answered answer
  pub own_else : due.place ≢ p.place → p'.own ≡ p.own
  pub leading : p'.leading ≡ p.leading
  pub dealt : p'.dealt ≡ p.dealt
  pub known : p'.known ≡ p.known
  pub asker : SameAsker p p'

-- The pen leads on. The journal in its hand has the line of its own request, under its next serial, if
-- it is entered; it is BookFull exactly where that journal was full, else Shut exactly where a shut
-- refuses it. The serial is used, and an entered answer joins its calls, whose serials were below it;
-- no word of its record has changed, and it is idle without a draft. The lock is as it was, and so is
-- what the pen knew before it led.
pub record AfterApply (d d' : Desk) (request : Request) (answer : Answer) (p p' : PenState) : Type 0 where
  pub leading : p'.leading ≡ true
  pub hand : p'.hand ≡ journal_after p.hand p.place p'.posts request answer
  pub may : MayAnswer (limits_in_hand p) p.hand request answer
  pub full : (answer ≡ BookFull) ↔ (length p.hand ≡ d.room)
  pub shut : (answer ≡ Refused Shut) ↔ ((length p.hand < d.room) × EndsAtShut (Asked request) × (is_shut p.hand ≡ true))
  pub posts : p'.posts ≡ p.posts + 1
  pub mine : p'.mine ≡ p.mine ++ gained p'.posts request answer
  pub below : AllByRecursion (λ c. c.serial < p'.posts) p.mine
  pub standing : p'.standing ≡ Idle None
  pub dealt : p'.dealt ≡ p.dealt
  pub due : p'.due ≡ p.due
  pub known : p'.known ≡ p.known
  pub own : p'.own ≡ p.own
  pub held : d'.held ≡ d.held
  pub home : d'.home ≡ d.home
  pub control : d'.control p.place ≡ d.control p.place
  pub cell : d'.item p.place ≡ d.item p.place

-- The Book in hand has the same room, bound and journal, and allows as many lines as it did, or as many as
-- memory keeps behind those that are archived, where these are more. All else is as it was.
pub record AfterArchive (d d' : Desk) (lines : ℕ) (p p' : PenState) : Type 0 where
  pub book : book_in_hand p'
      ≡ record (book_in_hand p) { allowed = max p.allowed (min lines (length p.hand) + page_of p.room) }
  pub lead : SameLead p p'
  pub asker : SameAsker p p'
  pub own : p'.own ≡ p.own
  pub held : d'.held ≡ d.held
  pub home : d'.home ≡ d.home

-- The list of the Book in hand is changed so, and all else is as it was.
pub record AfterChange (d d' : Desk) (change : Change) (p p' : PenState) : Type 0 where
  pub book : book_in_hand p' ≡ with_waiters (book_in_hand p) (changed change p.waiters)
  pub lead : SameLead p p'
  pub asker : SameAsker p p'
  pub own : p'.own ≡ p.own
  pub held : d'.held ≡ d.held
  pub home : d'.home ≡ d.home

-- The pen owes no wake, and all else is as it was.
pub record AfterHandOut (d d' : Desk) (p p' : PenState) : Type 0 where
  pub owed : p'.owed ≡ []
  pub book : book_in_hand p' ≡ book_in_hand p
  pub lead : SameLead p p'
  pub asker : SameAsker p p'
  pub own : p'.own ≡ p.own
  pub held : d'.held ≡ d.held
  pub home : d'.home ≡ d.home

-- the lock is free, and the Book that was in hand is at home, once it has woken whom it is to wake; its journal is what the
-- pen knows
pub record AfterRelease (d d' : Desk) (p p' : PenState) : Type 0 where
  pub leading : p'.leading ≡ false
  pub held : d'.held ≡ false
  pub known : p'.known ≡ p.hand
  pub home : d'.home ≡ Some (settled_book (book_in_hand p))
  pub owed : p'.owed ≡ p.owed ++ newly_woken (book_in_hand p)
  pub dealt : p'.dealt ≡ p.dealt
  pub due : p'.due ≡ None
  pub own : p'.own ≡ p.own
  pub asker : SameAsker p p'

-- The lock is free, and the Book that was in hand at home, with the line of the pen's own operation, under
-- its next serial, if it is entered; it is BookFull exactly where that journal was full, else Shut exactly
-- where a shut refuses it. The pen keeps that journal as what it knows, the
-- serial is used, and an entered answer joins its calls, whose serials were below it; no word of its
-- record has changed, and it is idle without a draft.
pub record AfterReleaseBy (d d' : Desk) (operation : Operation) (answer : Answer) (p p' : PenState) : Type 0 where
  pub leading : p'.leading ≡ false
  pub held : d'.held ≡ false
  pub known : p'.known ≡ journal_by p.hand p.place p'.posts operation answer
  pub home : d'.home ≡ Some (settled_book (book_with p p'.known))
  pub owed : p'.owed ≡ p.owed ++ newly_woken (book_with p p'.known)
  pub may : MayDo (limits_in_hand p) p.hand operation answer
  pub full : (answer ≡ BookFull) ↔ (length p.hand ≡ d.room)
  pub shut : (answer ≡ Refused Shut) ↔ ((length p.hand < d.room) × EndsAtShut operation × (is_shut p.hand ≡ true))
  pub posts : p'.posts ≡ p.posts + 1
  pub mine : p'.mine ≡ p.mine ++ gained_by p'.posts operation answer
  pub below : AllByRecursion (λ c. c.serial < p'.posts) p.mine
  pub standing : p'.standing ≡ Idle None
  pub dealt : p'.dealt ≡ p.dealt
  pub due : p'.due ≡ None
  pub own : p'.own ≡ p.own
  pub control : d'.control p.place ≡ d.control p.place
  pub cell : d'.item p.place ≡ d.item p.place

-- The pen has seen the control of its own place. Where that is no answer, or one whose item is
-- still to be taken, it goes on waiting; any other answer makes it idle, and an entered one joins
-- its calls. The serials of its calls were below that of its post.
pub record AfterLook (d d' : Desk) (p p' : PenState) : Type 0 where
  pub request : Request
  pub waited : p.standing ≡ Waiting request
  pub own : p'.own ≡ d.control p.place
  pub read : p'.read ≡ Some (word.Control p'.own)
  pub not_yet : is_answer p'.own ≡ false → SameAsker p p'
  pub item_left : has_item p'.own ≡ true → SameAsker p p'
  pub told : (answer : Answer) → p'.own ≡ answered answer → answer_item answer ≡ None
      → (p'.standing ≡ Idle None) × (p'.mine ≡ p.mine ++ gained p.posts request answer)
  pub below : AllByRecursion (λ c. c.serial < p.posts) p.mine
  pub posts : p'.posts ≡ p.posts
  pub lead : SameLead p p'

-- The answer that stood in the control has the item of the cell, which the pen knows now; it goes on
-- waiting.
pub record AfterSee (d d' : Desk) (p p' : PenState) : Type 0 where
  pub request : Request
  pub number : ℕ
  pub reply : Reply
  pub waited : p.standing ≡ Waiting request
  pub stands : d.control p.place ≡ answered (Entered number reply)
  pub item : reply_item reply ≡ Some (d.item p.place)
  pub now : p'.seen ≡ Some (d.item p.place)
  pub read : p'.read ≡ Some (word.Item (d.item p.place))
  pub own : p'.own ≡ p.own
  pub asker : SameAsker p p'
  pub lead : SameLead p p'

-- The answer that stood in the control, with the item of the cell, is entered: the pen is idle, and
-- it joins its calls.
pub record AfterTake (d d' : Desk) (p p' : PenState) : Type 0 where
  pub request : Request
  pub number : ℕ
  pub reply : Reply
  pub waited : p.standing ≡ Waiting request
  pub stands : d.control p.place ≡ answered (Entered number reply)
  pub item : reply_item reply ≡ Some (d.item p.place)
  pub known : (x : Item) → p.seen ≡ Some x → d.item p.place ≡ x
  pub standing : p'.standing ≡ Idle None
  pub mine : p'.mine ≡ p.mine ++ call number p.posts request reply ∷ []
  pub read : p'.read ≡ Some (word.Item (d.item p.place))
  pub posts : p'.posts ≡ p.posts
  pub own : p'.own ≡ p.own
  pub lead : SameLead p p'

-- this holds of the pen at the seat before and after
abbrev pub Acted : Desk → Desk → ℕ → (PenState → PenState → Type 0) → Type 0
Acted d d' seat F = (p : PenState) × (p' : PenState) × Has d.views seat p × Has d'.views seat p' × F p p'

-- what each kind of step tells and leaves, at any desk that meets the rule
abbrev pub DraftTells : Type 0
DraftTells = (d d' : Desk) (seat : ℕ) (x : Item) → MeetsRule d → Step d (Drafts seat x) d' → Acted d d' seat (AfterDraft d d' x)

abbrev pub PostTells : Type 0
PostTells = (d d' : Desk) (seat : ℕ) (request : Request) → MeetsRule d → Step d (Posts seat request) d'
    → Acted d d' seat (AfterPost d d' request)

abbrev pub TryTells : Type 0
TryTells = (d d' : Desk) (seat : ℕ) → MeetsRule d → Step d (Tries seat) d' → Acted d d' seat (AfterTry d d')

abbrev pub ReadTells : Type 0
ReadTells = (d d' : Desk) (seat : ℕ) (place : ℕ) → MeetsRule d → Step d (Reads seat place) d'
    → Acted d d' seat (AfterRead d d' place)

abbrev pub ReadItemTells : Type 0
ReadItemTells = (d d' : Desk) (seat : ℕ) → MeetsRule d → Step d (ReadsItem seat) d' → Acted d d' seat (AfterReadItem d d')

abbrev pub LayItemTells : Type 0
LayItemTells = (d d' : Desk) (seat : ℕ) (x : Item) → MeetsRule d → Step d (LaysItem seat x) d' → Acted d d' seat (AfterLay d d' x)

abbrev pub AnswerTells : Type 0
AnswerTells = (d d' : Desk) (seat : ℕ) (answer : Answer) → MeetsRule d → Step d (Answers seat answer) d'
    → Acted d d' seat (AfterAnswer d d' answer)

abbrev pub ApplyTells : Type 0
ApplyTells =
    (d d' : Desk) (seat : ℕ) (request : Request) (answer : Answer) → MeetsRule d → Step d (Applies seat request answer) d'
    → Acted d d' seat (AfterApply d d' request answer)

abbrev pub ArchiveTells : Type 0
ArchiveTells = (d d' : Desk) (seat lines : ℕ) → MeetsRule d → Step d (Archives seat lines) d'
    → Acted d d' seat (AfterArchive d d' lines)

abbrev pub ChangeTells : Type 0
ChangeTells = (d d' : Desk) (seat : ℕ) (change : Change) → MeetsRule d → Step d (Changes seat change) d'
    → Acted d d' seat (AfterChange d d' change)

abbrev pub HandOutTells : Type 0
HandOutTells = (d d' : Desk) (seat : ℕ) → MeetsRule d → Step d (HandsOut seat) d' → Acted d d' seat (AfterHandOut d d')

abbrev pub ReleaseTells : Type 0
ReleaseTells = (d d' : Desk) (seat : ℕ) → MeetsRule d → Step d (Releases seat) d' → Acted d d' seat (AfterRelease d d')

abbrev pub ReleaseByTells : Type 0
ReleaseByTells =
    (d d' : Desk) (seat : ℕ) (operation : Operation) (answer : Answer) → MeetsRule d → Step d (ReleasesBy seat operation answer) d'
    → Acted d d' seat (AfterReleaseBy d d' operation answer)

abbrev pub LookTells : Type 0
LookTells = (d d' : Desk) (seat : ℕ) → MeetsRule d → Step d (Looks seat) d' → Acted d d' seat (AfterLook d d')

abbrev pub SeeItemTells : Type 0
SeeItemTells = (d d' : Desk) (seat : ℕ) → MeetsRule d → Step d (SeesItem seat) d' → Acted d d' seat (AfterSee d d')

abbrev pub TakeItemTells : Type 0
TakeItemTells = (d d' : Desk) (seat : ℕ) → MeetsRule d → Step d (TakesItem seat) d' → Acted d d' seat (AfterTake d d')
