-- Why each guard of a step stands: with the step that lacks it, a short run leads to a desk of which a clause of the rule is
-- false.
use Rattle.std.specs.Prelude.{◌≡◌, ℕ, true, List, [], ◌∷◌}
use Rattle.pq_types.specs.Asked.{Line}
use Rattle.pq_types.specs.declared.request.Request.TheVariants.{Push, Pop, Least}
use Rattle.pq_types.specs.declared.answer.Reply.TheVariants.{Pushed, Got, Empty}
use Rattle.pq_types.specs.declared.answer.Answer.TheVariants.{Entered, NoMemory}
use Rattle.pq_types.specs.Item.{item}
use Rattle.pq_types.specs.Control.{is_answer}
use Rattle.desk_core.specs.Clauses.{LockClause, JournalClause, ControlClause, CallsClause, DueClause, ItemsClause}
use Rattle.desk_core.specs.Desk.{Desk, Has, opening, plain}
use Rattle.desk_core.specs.Leads.{HasAnswer, KnowsAnswer}
use Rattle.desk_core.specs.Steps.{Event, Drafts, Posts, Tries, Reads, ReadsItem, LaysItem, Answers, Releases, Looks, Run}
use Rattle.desk_core.specs.Words.{mixed}
use Rattle.desk_core.specs.WrongSteps.{DraftsWhileWaiting, PostsWhileWaiting, PostsUndrafted, PostsKeepingTheOld, ReadsUnnoted}
use Rattle.desk_core.specs.WrongSteps.{LaysUnread, LaysAtAPush, AnswersUnread, AnswersUnlaid, AnswersAnything, AnswersAndOwes}
use Rattle.desk_core.specs.WrongSteps.{AnswersAgain, ReleasesWithoutBook, ReleasesAnEmptyBook, SeesUnseen, TakesUnseen}
use Rattle.desk_core.specs.declared.model.PenState.{PenState}

-- no journal is at home while the lock is free, or in a leader's hand
abbrev pub BreaksLock : Desk → Type 0
BreaksLock d = (journal : List Line) → LockClause d journal → ⊥

-- the journal that is at home or in hand is no legal one whose serials rise, or has no room
abbrev pub BreaksJournal : Desk → Type 0
BreaksJournal d = (journal : List Line) → LockClause d journal → JournalClause d.room journal → ⊥

-- with the journal that is at home or in hand, some pen's control is not what the clause of controls says
abbrev pub BreaksControls : Desk → Type 0
BreaksControls d = (journal : List Line) → LockClause d journal
    → ((i : ℕ) (p : PenState) → Has d.views i p → ControlClause d.room journal (d.control p.place) p) → ⊥

-- the same of the calls that pens have read, and of the item cells
abbrev pub BreaksCalls : Desk → Type 0
BreaksCalls d = (journal : List Line) → LockClause d journal
    → ((i : ℕ) (p : PenState) → Has d.views i p → CallsClause journal (d.control p.place) p) → ⊥

abbrev pub BreaksItems : Desk → Type 0
BreaksItems d = (journal : List Line) → LockClause d journal
    → ((i : ℕ) (p : PenState) → Has d.views i p → ItemsClause d journal p) → ⊥

-- something is due that does not stand posted
abbrev pub BreaksDue : Desk → Type 0
BreaksDue d = ((i : ℕ) (p : PenState) → Has d.views i p → DueClause d p) → ⊥

-- an answer that a pen last saw at its own place does not stand there
abbrev pub BreaksOwn : Desk → Type 0
BreaksOwn d = ((i : ℕ) (p : PenState) → Has d.views i p → is_answer p.own ≡ true → d.control p.place ≡ p.own) → ⊥

-- the pen at 0 pushes (5, 7), or pops, and leads and reads that; the pen at 1 leads and answers it
abbrev pub pushes : List Event
pushes = Drafts 0 (item 5 7) ∷ Posts 0 (Push (item 5 7)) ∷ []

abbrev pub push_is_read : List Event
push_is_read = Drafts 0 (item 5 7) ∷ Posts 0 (Push (item 5 7)) ∷ Tries 0 ∷ Reads 0 0 ∷ []

abbrev pub pop_is_read : List Event
pop_is_read = Posts 0 Pop ∷ Tries 0 ∷ Reads 0 0 ∷ []

abbrev pub pop_is_answered : List Event
pop_is_answered = Posts 0 Pop ∷ Tries 0 ∷ Reads 0 0 ∷ Answers 0 (Entered 1 Empty) ∷ []

abbrev pub pop_is_over : List Event
pop_is_over = Posts 0 Pop ∷ Tries 0 ∷ Reads 0 0 ∷ Answers 0 (Entered 1 Empty) ∷ Releases 0 ∷ Looks 0 ∷ []

abbrev pub other_answers : List Event
other_answers = Posts 0 Pop ∷ Tries 1 ∷ Reads 1 0 ∷ Answers 1 (Entered 1 Empty) ∷ []

abbrev pub other_has_answered : List Event
other_has_answered = Posts 0 Pop ∷ Tries 1 ∷ Reads 1 0 ∷ Answers 1 (Entered 1 Empty) ∷ Releases 1 ∷ Tries 0 ∷ []

-- the pen at 0 leads while the pen at 1 waits with its push; it answers that, and reads its own pop
abbrev pub other_pushes : List Event
other_pushes = Drafts 1 (item 5 7) ∷ Posts 1 (Push (item 5 7)) ∷ Tries 0 ∷ []

abbrev pub pop_is_read_after_a_push : List Event
pop_is_read_after_a_push =
    Drafts 1 (item 5 7) ∷ Posts 1 (Push (item 5 7)) ∷ Posts 0 Pop ∷ Tries 0 ∷ Reads 0 1 ∷ ReadsItem 0
    ∷ Answers 0 (Entered 1 Pushed) ∷ Reads 0 0 ∷ []

-- the pen at 0 drafts the first of the two words of (5, 7)
abbrev pub half_is_drafted : List Event
half_is_drafted = Drafts 0 (mixed true 0 (item 5 7) (item 0 0)) ∷ []

-- the pen at 1 leads, reads a pop at 0, and lays (5, 7) there
abbrev pub other_lays : List Event
other_lays = Tries 1 ∷ Reads 1 0 ∷ LaysItem 1 (item 5 7) ∷ []

-- Of those who ask. A draft while a push waits overwrites its item. A post while another waits loses the answer of that. A push
-- that is posted before its draft, or between the two words of it, shows another item. A post keeps no answer in mind that it
-- overwrites. An item that is taken before the answer was seen makes a call that the journal lacks, and one of which a word was
-- read before then is not the answer's.
pub record AskingNeedsGuards : Type 0 where
  pub pushed : Desk
  pub overwritten : Desk
  pub push : Run (opening 2 (plain 4)) pushes pushed
  pub draft : DraftsWhileWaiting pushed 0 (item 9 9) overwritten
  pub item_lost : BreaksItems overwritten
  pub answered : Desk
  pub posted_twice : Desk
  pub answer : Run (opening 2 (plain 4)) other_answers answered
  pub post : PostsWhileWaiting answered 0 Least posted_twice
  pub answer_lost : BreaksCalls posted_twice
  pub undrafted : Desk
  pub post_first : PostsUndrafted (opening 2 (plain 4)) 0 (Push (item 5 7)) undrafted
  pub item_missing : BreaksItems undrafted
  pub half : Desk
  pub post_half : Desk
  pub draft_half : Run (opening 2 (plain 4)) half_is_drafted half
  pub post_between : PostsUndrafted half 0 (Push (item 5 7)) post_half
  pub word_missing : BreaksItems post_half
  pub over : Desk
  pub kept : Desk
  pub pop : Run (opening 2 (plain 4)) pop_is_over over
  pub keep : PostsKeepingTheOld over 0 Pop kept
  pub answer_stale : BreaksOwn kept
  pub popped : Desk
  pub taken : Desk
  pub ask : Run (opening 2 (plain 4)) (Posts 0 Pop ∷ []) popped
  pub take : TakesUnseen popped 0 taken
  pub call_made_up : BreaksCalls taken
  pub seen : Desk
  pub changed : Desk
  pub see : SeesUnseen popped 0 seen
  pub lay : Run seen other_lays changed
  pub other_seen : BreaksItems changed

-- Of those who lead. An item that is laid unread, or at a push, overwrites that of the push. A push that is answered before its
-- item was read may be entered with another. An answer with an item that was not laid shows another. No memory is no answer to a
-- pop. What was answered is not due, and a request whose record stands answered is not carried out again: it would stand in the
-- journal twice under one serial, and its pen would miss a call. A read of its own place that is not noted leaves the leader
-- without its answer. A release brings the Book home, with the journal in hand.
pub record LeadingNeedsGuards : Type 0 where
  pub pushed : Desk
  pub laid : Desk
  pub push : Run (opening 2 (plain 4)) other_pushes pushed
  pub lay : LaysUnread pushed 0 (item 9 9) laid
  pub item_lost : BreaksItems laid
  pub read : Desk
  pub laid_at_push : Desk
  pub read_push : Run (opening 2 (plain 4)) push_is_read read
  pub lay_at_push : LaysAtAPush read 0 (item 9 9) laid_at_push
  pub pushed_item_lost : BreaksItems laid_at_push
  pub entered : Desk
  pub answer_unread : AnswersUnread read 0 (Entered 1 Pushed) entered
  pub other_entered : BreaksControls entered
  pub asked : Desk
  pub unlaid : Desk
  pub read_pop : Run (opening 2 (plain 4)) pop_is_read_after_a_push asked
  pub answer_unlaid : AnswersUnlaid asked 0 (Entered 2 (Got (item 5 7))) unlaid
  pub other_shown : BreaksItems unlaid
  pub popped : Desk
  pub refused : Desk
  pub owed : Desk
  pub read_own : Run (opening 2 (plain 4)) pop_is_read popped
  pub refuse : AnswersAnything popped 0 NoMemory refused
  pub pop_refused : BreaksControls refused
  pub answer_and_owe : AnswersAndOwes popped 0 (Entered 1 Empty) owed
  pub due_twice : BreaksDue owed
  pub answered : Desk
  pub entered_again : Desk
  pub answer_other : Run (opening 2 (plain 4)) other_answers answered
  pub answer_again : AnswersAgain answered 1 (Entered 2 Empty) entered_again
  pub call_missed : BreaksCalls entered_again
  pub serial_repeated : BreaksJournal entered_again
  pub led : Desk
  pub unnoted : Desk
  pub lead : Run (opening 2 (plain 4)) other_has_answered led
  pub reads : ReadsUnnoted led 0 0 unnoted
  pub has_answer : HasAnswer unnoted 0 1
  pub knows_nothing : KnowsAnswer unnoted 0 1 → ⊥
  pub leads : Desk
  pub bookless : Desk
  pub try : Run (opening 2 (plain 4)) (Tries 0 ∷ []) leads
  pub leave_out : ReleasesWithoutBook leads 0 bookless
  pub book_gone : BreaksLock bookless
  pub done : Desk
  pub emptied : Desk
  pub answers : Run (opening 2 (plain 4)) pop_is_answered done
  pub empty : ReleasesAnEmptyBook done 0 emptied
  pub line_gone : BreaksControls emptied
