-- A pen, and what it is after each of its steps, by what it stored or found.
use Rattle.std.specs.Prelude.{◌≡◌, ℕ, ◌+◌, ◌==◌, max, min, if◌then◌else◌, ◌&&◌, not, Bool, true, false, List, [], ◌∷◌, ◌++◌, length, Option}
use Rattle.std.specs.Prelude.{Some, None}
use Rattle.pq_types.specs.Item.{Item}
use Rattle.pq_types.specs.Asked.{Request, Operation}
use Rattle.pq_types.specs.Operation.{Ticketed, Asked, ByTicket}
use Rattle.pq_types.specs.Asked.{Answer}
use Rattle.pq_types.specs.declared.answer.Answer.TheVariants.{Entered, BookFull, NoMemory, Refused}
use Rattle.pq_types.specs.declared.answer.Reply.TheVariants.{Pushed, Empty}
use Rattle.pq_types.specs.declared.control.Kind.{Kind}
use Rattle.pq_types.specs.declared.control.Outcome.TheVariants as outcome
use Rattle.pq_types.specs.declared.control.Notice.{Notice}
use Rattle.pq_types.specs.declared.control.Notice.TheVariants as notice
use Rattle.pq_types.specs.declared.control.Control.{Control}
use Rattle.pq_types.specs.declared.control.Control.TheVariants.{Nothing, Posted, Answered}
use Rattle.pq_types.specs.Asked.{Line}
use Rattle.pq_types.specs.Control.{answer_with, posted, answered}
use Rattle.pq_types.specs.History.{journal_by, journal_after, Limits}
use Rattle.wait_list.specs.declared.waiter.Waiter.{Waiter}
use Rattle.wait_list.specs.Waiters.{Change, changed, is_woken_at}
use Rattle.pq_book.specs.Book.{Volume, limits}
use Rattle.pq_book.specs.Stock.{settled_book}
use Rattle.pq_book.specs.Pages.{page_of}
use Rattle.desk_core.specs.Calls.{gained, gained_by}
use Rattle.desk_core.specs.declared.model.Call.{Call}
use Rattle.desk_core.specs.declared.model.Standing.{Standing}
use Rattle.desk_core.specs.declared.model.Standing.TheVariants.{Idle, Waiting}
use Rattle.desk_core.specs.declared.model.Due.{Due}
use Rattle.desk_core.specs.declared.model.Duty.TheVariants.{Active}
use Rattle.desk_core.specs.declared.model.Word.TheVariants as word
use Rattle.desk_core.specs.declared.model.PenState.{PenState}

-- the pen of this place before its first step: idle, not leading, with no posts
abbrev pub new_pen : ℕ → ℕ → PenState
new_pen room place =
    record {
      place = place;
      room = room;
      posts = 0;
      standing = Idle None;
      mine = [];
      told_full = false;
      leading = false;
      hand = [];
      bound = 0;
      allowed = 0;
      waiters = [];
      owed = [];
      dealt = [];
      known = [];
      due = None;
      own = Nothing;
      seen = None;
      read = None;
      begins = [];
      ends = [];
      steps = 0;
      duty = Active;
    }

-- it waits for no answer
abbrev pub IsIdle : Standing → Type 0
IsIdle standing = (draft : Option Item) × (standing ≡ Idle draft)

-- the item that is wanted, if there is one, is the one that was drafted, read or laid
abbrev pub IsKept : Option Item → Option Item → Type 0
IsKept None kept = Unit {0}
IsKept (Some x) kept = kept ≡ Some x

-- it has drafted: while idle it has stored this item in its cell
abbrev pub after_draft : PenState → Item → PenState
after_draft p x = record p { standing = Idle (Some x); steps = p.steps + 1 }

-- it has posted this request as the act at this position: the serial is one more, and it waits
abbrev pub after_post : PenState → Request → ℕ → PenState
after_post p request now =
    record p {
      posts = p.posts + 1;
      standing = Waiting request;
      own = posted (p.posts + 1) request;
      begins = p.begins ++ (p.posts + 1, now) ∷ [];
      steps = p.steps + 1;
    }

-- the Book that a pen has in its hand, or had last, once its journal is this one
abbrev pub book_with : PenState → List Line → Volume
book_with p journal = record { room = p.room; bound = p.bound; allowed = p.allowed; journal = journal; waiters = p.waiters }

-- the Book in its hand
abbrev pub book_in_hand : PenState → Volume
book_in_hand p = book_with p p.hand

-- and the limits of that Book
abbrev pub limits_in_hand : PenState → Limits
limits_in_hand p = limits p.room p.bound p.allowed

-- it has found the lock free and taken it: it leads, with this Book in its hand
abbrev pub after_lead : PenState → Volume → PenState
after_lead p book =
    record p {
      leading = true;
      hand = book.journal;
      bound = book.bound;
      allowed = book.allowed;
      waiters = book.waiters;
      dealt = [];
      due = None;
      read = Some (word.Lock false);
      steps = p.steps + 1;
    }

-- it has found the lock held, and does not lead
abbrev pub after_miss : PenState → PenState
after_miss p = record p { read = Some (word.Lock true); steps = p.steps + 1 }

-- the answer that is due to the post of this serial and kind at this place, with the item that the
-- leader knows of the record
abbrev pub due_to : ℕ → ℕ → Kind → Option Item → Due
due_to place serial kind item = record { place = place; serial = serial; kind = kind; item = item }

-- what is due after this control was read at this place: an answer, where a request stands posted
abbrev pub due_at : ℕ → Control → Option Due
due_at place Nothing = None
due_at place (Posted serial kind) = Some (due_to place serial kind None)
due_at place (Answered notice) = None

-- what it last saw or stored at its own place, after it read or stored this control at this one
abbrev pub own_after : PenState → ℕ → Control → Control
own_after p place control = if place == p.place then control else p.own

-- as the leader it has read this control at this place
abbrev pub after_read : PenState → ℕ → Control → PenState
after_read p place control =
    record p {
      dealt = p.dealt ++ place ∷ [];
      due = due_at place control;
      own = own_after p place control;
      read = Some (word.Control control);
      steps = p.steps + 1;
    }

-- what is due, now that this is the item of the record
abbrev pub with_known : Due → Item → Due
with_known due x = due_to due.place due.serial due.kind (Some x)

-- as the leader it has read the item of the posted push that is due, which is this one
abbrev pub after_read_item : PenState → Due → Item → PenState
after_read_item p due x = record p { due = Some (with_known due x); read = Some (word.Item x); steps = p.steps + 1 }

-- as the leader it has laid this item, that of the answer, at the record that is due
abbrev pub after_lay : PenState → Due → Item → PenState
after_lay p due x = record p { due = Some (with_known due x); steps = p.steps + 1 }

-- as the leader it has answered the request that was due
abbrev pub after_answer : PenState → Due → Request → Answer → PenState
after_answer p due request answer =
    record p {
      hand = journal_after p.hand due.place due.serial request answer;
      due = None;
      own = own_after p due.place (answered answer);
      steps = p.steps + 1;
    }

-- the numbers of those in the second list who are woken, and were not in the first
abbrev pub newly : List Waiter → List Waiter → List ℕ
newly before [] = []
newly before (w ∷ ws) = if w.is_woken && not (is_woken_at w.number before) then w.number ∷ newly before ws else newly before ws

-- and of those whom a Book wakes as it goes home
abbrev pub newly_woken : Volume → List ℕ
newly_woken book = newly book.waiters (settled_book book).waiters

-- it has put the Book home and freed the lock: it owes a wake to each whom the Book woke
abbrev pub after_release : PenState → PenState
after_release p =
    record p { leading = false; owed = p.owed ++ newly_woken (book_in_hand p); known = p.hand; due = None; steps = p.steps + 1 }

-- whether a pen was told that the journal is full, after it was told this answer
abbrev pub told_full_by : Bool → Answer → Bool
told_full_by before (Entered number reply) = before
told_full_by before BookFull = true
told_full_by before NoMemory = before
told_full_by before (Refused why) = before

-- when the calls of a pen began whose next one is an own request, carried out at this position: it began there, and ended at the next
abbrev pub own_begins : PenState → ℕ → List (ℕ × ℕ)
own_begins p now = p.begins ++ (p.posts + 1, now) ∷ []

-- and when they ended
abbrev pub own_ends : PenState → ℕ → List (ℕ × ℕ)
own_ends p now = p.ends ++ (p.posts + 1, now + 1) ∷ []

-- it has put the Book home and freed the lock with an operation of its own, which was answered so under
-- the next serial: no word of its record has changed, and it counts on no draft there. The call began at this position, and
-- ended at the next
abbrev pub after_release_by : PenState → Operation → Answer → ℕ → PenState
after_release_by p operation answer now =
    record p {
      posts = p.posts + 1;
      standing = Idle None;
      mine = p.mine ++ gained_by (p.posts + 1) operation answer;
      told_full = told_full_by p.told_full answer;
      leading = false;
      owed = p.owed ++ newly_woken (book_with p (journal_by p.hand p.place (p.posts + 1) operation answer));
      known = journal_by p.hand p.place (p.posts + 1) operation answer;
      begins = own_begins p now;
      ends = own_ends p now;
      steps = p.steps + 1;
    }

-- the same with a request
abbrev pub after_release_with : PenState → Request → Answer → ℕ → PenState
after_release_with p request answer now = after_release_by p (Asked request) answer now

-- the same with this use of a ticket, a removal or a move
abbrev pub after_release_by_ticket : PenState → Ticketed → Answer → ℕ → PenState
after_release_by_ticket p ticketed answer now = after_release_by p (ByTicket ticketed) answer now

-- as the leader it has carried a request of its own out, which was answered so under the next serial,
-- and goes on leading: the journal in its hand has the line, if it is entered. No word of its record has
-- changed, and it counts on no draft there.
abbrev pub after_apply : PenState → Request → Answer → ℕ → PenState
after_apply p request answer now =
    record p {
      posts = p.posts + 1;
      standing = Idle None;
      mine = p.mine ++ gained (p.posts + 1) request answer;
      told_full = told_full_by p.told_full answer;
      hand = journal_after p.hand p.place (p.posts + 1) request answer;
      begins = own_begins p now;
      ends = own_ends p now;
      steps = p.steps + 1;
    }

-- how many lines a journal with this room may have once so many are archived, where so many were allowed before
abbrev pub allowed_by : ℕ → ℕ → ℕ → ℕ
allowed_by room allowed archived = max allowed (archived + page_of room)

-- as the leader it has heard that the first so many lines of the journal in its hand are archived, or all where it has fewer:
-- the Book in its hand allows as many more as memory keeps
abbrev pub after_archive : PenState → ℕ → PenState
after_archive p lines =
    record p { allowed = allowed_by p.room p.allowed (min lines (length p.hand)); steps = p.steps + 1 }

-- as the leader it has changed the list of those who wait at the Book in its hand
abbrev pub after_change : PenState → Change → PenState
after_change p change = record p { waiters = changed change p.waiters; steps = p.steps + 1 }

-- it has handed out the numbers that its releases have woken
abbrev pub after_hand_out : PenState → PenState
after_hand_out p = record p { owed = []; steps = p.steps + 1 }

-- the answer that this control tells by itself: none where it is no answer, or one whose item is
-- still to be read
abbrev pub told_by : Control → Option Answer
told_by Nothing = None
told_by (Posted serial kind) = None
told_by (Answered (notice.Entered number outcome.Pushed)) = Some (Entered number Pushed)
told_by (Answered (notice.Entered number outcome.Got)) = None
told_by (Answered (notice.Entered number outcome.Least)) = None
told_by (Answered (notice.Entered number outcome.Empty)) = Some (Entered number Empty)
told_by (Answered notice.BookFull) = Some BookFull
told_by (Answered notice.NoMemory) = Some NoMemory
told_by (Answered (notice.Refused why)) = Some (Refused why)

-- the standing of a pen that waited for this request, the answered calls that it has, and whether it was told that the journal is
-- full, after it was told this answer or none
abbrev pub standing_told : Request → Option Answer → Standing
standing_told request None = Waiting request
standing_told request (Some answer) = Idle None

abbrev pub mine_told : List Call → ℕ → Request → Option Answer → List Call
mine_told mine serial request None = mine
mine_told mine serial request (Some answer) = mine ++ gained serial request answer

abbrev pub full_told : Bool → Option Answer → Bool
full_told before None = before
full_told before (Some answer) = told_full_by before answer

-- the ends that it keeps, with that of the call of this serial where it is told an answer now
abbrev pub ends_told : List (ℕ × ℕ) → ℕ → ℕ → Option Answer → List (ℕ × ℕ)
ends_told ends serial now None = ends
ends_told ends serial now (Some answer) = ends ++ (serial, now) ∷ []

-- it has looked, while it waited for this request, and found this control at its place: an answer
-- that is told whole makes it idle, and is the act at this position
abbrev pub after_look : PenState → Request → Control → ℕ → PenState
after_look p request control now =
    record p {
      standing = standing_told request (told_by control);
      mine = mine_told p.mine p.posts request (told_by control);
      told_full = full_told p.told_full (told_by control);
      own = control;
      seen = None;
      read = Some (word.Control control);
      ends = ends_told p.ends p.posts now (told_by control);
      steps = p.steps + 1;
    }

-- it has read a word of the item of the answer that it has seen, which is this one: it goes on waiting
abbrev pub after_see : PenState → Item → PenState
after_see p x = record p { seen = Some x; read = Some (word.Item x); steps = p.steps + 1 }

-- it has taken this item, that of the answer which its control tells without it, as the act at this position: it is idle
abbrev pub after_take : PenState → Request → Notice → Item → ℕ → PenState
after_take p request notice x now =
    record p {
      standing = Idle None;
      mine = p.mine
          ++ gained p.posts request (answer_with notice x);
      seen = None;
      read = Some (word.Item x);
      ends = p.ends ++ (p.posts, now) ∷ [];
      steps = p.steps + 1;
    }
