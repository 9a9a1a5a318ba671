-- What the calls of a member come to that may have a request out, or none.
use Rattle.std.specs.Prelude.{◌≡◌, ◌≢◌, ℕ, ◌<◌, ◌≤◌, true, false, List, length, take, None, Some, Result, Ok, Err}
use Rattle.std.specs.List.{All}
use Rattle.pq_types.specs.Item.{Item}
use Rattle.pq_types.specs.Asked.{Request, Answer}
use Rattle.pq_types.specs.Operation.{Ticketed, Remove, Move}
use Rattle.pq_types.specs.Control.{is_answer}
use Rattle.announce_board.specs.Tokens.{is_idle}
use Rattle.announce_board.specs.Asking.{asked_by, LooksBy, IsAnswerTo}
use Rattle.flat_queue.specs.Limits.{most_posts}
use Rattle.flat_queue.specs.Members.{Joined, StaysAtPlace}
use Rattle.flat_queue.specs.Turns.{FindsLockHeld}
use Rattle.flat_queue.specs.OwnRequest.{CarriesOutBy}
use Rattle.flat_queue.specs.Tickets.{CarriesOutByTicket, TellsFound}
use Rattle.flat_queue.specs.Shutting.{CarriesOutShut, TellsShut}
use Rattle.flat_queue.specs.Looking.{Looked, LooksFirstBy, FindsNext}
use Rattle.flat_queue.specs.declared.looking.Wanted.{Wanted}
use Rattle.flat_queue.specs.Counting.{CountsBy}
use Rattle.flat_queue.specs.Peeking.{PeeksBy}
use Rattle.pq_types.specs.History.{left}
use Rattle.leftist_heap.specs.Store.{first_of}
use Rattle.flat_queue.specs.Batches.{IsPushAt, IsPop, pushes_of, pops_of, in_one_batch, is_first_due, CarriesOutBatchBy, EntersTogether}
use Rattle.flat_queue.specs.declared.counting.Counts.{Counts}
use Rattle.flat_queue.specs.declared.peeking.Peeked.{Peeked}
use Rattle.flat_queue.specs.declared.batches.Batch.{Batch}
use Rattle.flat_queue.specs.declared.batches.Popped.{Popped}
use Rattle.queue_pool.specs.declared.shared.Undone.{Undone}
use Rattle.queue_pool.specs.declared.shared.Undone.TheVariants.{Idle, Waits, Spent, LockHeld}

-- the idle member has a serial left
abbrev pub MayCall : Joined → Type 0
MayCall m = (is_idle m.pen.standing ≡ true) × (m.pen.posts < most_posts m.queue.room)

-- The last request is not answered yet, or no serial is left, and nothing was done; or the member found the lock held.
abbrev pub UndoneBy : Undone → Joined → Joined → Type 0
UndoneBy Waits before after = (is_idle before.pen.standing ≡ false) × (after ≡ before)
UndoneBy Spent before after =
    (is_idle before.pen.standing ≡ true) × (most_posts before.queue.room ≤ before.pen.posts) × (after ≡ before)
UndoneBy LockHeld before after = MayCall before × FindsLockHeld before after
UndoneBy why before after = ⊥

-- the same of a call that needs no serial
abbrev pub UndoneFreeBy : Undone → Joined → Joined → Type 0
UndoneFreeBy Waits before after = (is_idle before.pen.standing ≡ false) × (after ≡ before)
UndoneFreeBy LockHeld before after = (is_idle before.pen.standing ≡ true) × FindsLockHeld before after
UndoneFreeBy why before after = ⊥

-- A call was made, and this is true of what it came to; or it is undone.
abbrev pub TriesBy : {X : Type 0} → (X → Type 0) → Joined → Result X Undone → Joined → Type 0
TriesBy done before (Ok told) after = MayCall before × done told
TriesBy done before (Err why) after = UndoneBy why before after

-- the same of a call that needs no serial
abbrev pub TriesFreeBy : {X : Type 0} → (X → Type 0) → Joined → Result X Undone → Joined → Type 0
TriesFreeBy done before (Ok told) after = (is_idle before.pen.standing ≡ true) × done told
TriesFreeBy done before (Err why) after = UndoneFreeBy why before after

-- The member has posted this request; or it waits for an answer, or no serial is left, and nothing was done. No lock is tried.
abbrev pub PostsBy : ℕ → Joined → Request → Result (Unit {0}) Undone → Joined → Type 0
PostsBy words before request (Ok done) after =
    MayCall before × (now : ℕ) × (after ≡ record before { pen = asked_by words before.pen request now })
PostsBy words before request (Err why) after = UndoneBy why before after × (why ≢ LockHeld)

-- No request is out; or the member has looked at its record, and it still waits, or has this answer.
-- One that knows that it has an answer, as after a round of its own, gets it. Its pen has the room of
-- the journal, so that the number of a line that it is told is not above that. Items have so many words.
abbrev pub SeesBy : ℕ → Joined → Result Answer Undone → Joined → Type 0
SeesBy words before (Ok answer) after =
    (before.pen.room ≡ before.queue.room) × StaysAtPlace before after × LooksBy words before.pen (Some answer) after.pen
SeesBy words before (Err Idle) after = (is_idle before.pen.standing ≡ true) × (after ≡ before)
SeesBy words before (Err Waits) after =
    (is_answer before.pen.own ≡ false) × StaysAtPlace before after × LooksBy words before.pen None after.pen
SeesBy words before (Err why) after = ⊥

-- It carried this request out itself, and this is the answer.
abbrev pub TriesCallBy : ℕ → Joined → Request → Result Answer Undone → Joined → Type 0
TriesCallBy words before request tried after =
    TriesBy (λ answer. CarriesOutBy words before request answer after × IsAnswerTo before.queue.room request answer) before tried after

-- It carried this use of a ticket out itself, and this is the answer. A queue that is shut lets it through.
abbrev pub TriesTicketBy : ℕ → Ticketed → Joined → Result Answer Undone → Joined → Type 0
TriesTicketBy words ticketed before tried after =
    TriesBy (λ answer. CarriesOutByTicket words ticketed before answer after × TellsFound ticketed answer) before tried after

-- the same of a removal by this ticket
abbrev pub TriesRemovalBy : (words ticket : ℕ) → Joined → Result Answer Undone → Joined → Type 0
TriesRemovalBy words ticket before tried after = TriesTicketBy words (Remove ticket) before tried after

-- and of a move of the item with this ticket to this priority
abbrev pub TriesMoveBy : (words ticket priority : ℕ) → Joined → Result Answer Undone → Joined → Type 0
TriesMoveBy words ticket priority before tried after = TriesTicketBy words (Move ticket priority) before tried after

-- It shut the queue itself, or was refused that, and this is the answer.
abbrev pub TriesShutBy : ℕ → Joined → Result Answer Undone → Joined → Type 0
TriesShutBy words before tried after =
    TriesBy (λ answer. CarriesOutShut words before answer after × TellsShut answer after.pen.known) before tried after

-- It looked at the first item, and took it out where it wanted it.
abbrev pub TriesFirstBy : ℕ → Wanted → Joined → Result Looked Undone → Joined → Type 0
TriesFirstBy words wants before tried after = TriesBy (λ told. LooksFirstBy words wants before told after) before tried after

-- It counted so many items, now and at the peak.
abbrev pub TriesCountBy : ℕ → Joined → Result Counts Undone → Joined → Type 0
TriesCountBy words before tried after = TriesFreeBy (λ counts. CountsBy words before counts after) before tried after

-- It looked at the first item, and left it there.
abbrev pub TriesPeekBy : ℕ → Joined → Result (Peeked Item) Undone → Joined → Type 0
TriesPeekBy words before tried after = TriesFreeBy (λ seen. PeeksBy words before seen after) before tried after

-- The member carried so many of these pushes out, the first ones.
abbrev pub PushesBy : ℕ → Joined → List Item → Batch → Joined → Type 0
PushesBy words before items batch after =
    (batch.done ≤ length items)
    × (batch.refused ≡ None → batch.done ≡ in_one_batch (length items))
    × (batch.refused ≢ None → batch.done < in_one_batch (length items))
    × CarriesOutBatchBy words before (pushes_of (take batch.done items)) (IsPushAt items batch.done) batch after
    × EntersTogether before (pushes_of (take batch.done items)) batch after

-- The same of pops up to a bound, which took these items out: as many as there were such, unless it tells what refused the next,
-- or no more fit. It tells what a look finds then.
abbrev pub PopsBy : ℕ → ℕ → Joined → List Item → Popped Item → Joined → Type 0
PopsBy words bound before items popped after =
    (popped.batch.done ≤ length items)
    × All (λ x. x.priority ≤ bound) (take popped.batch.done items)
    × (popped.batch.refused ≡ None → popped.batch.done < in_one_batch (length items)
    → is_first_due bound (first_of (left after.pen.known)) ≡ false)
    × (popped.batch.refused ≢ None → popped.batch.done < in_one_batch (length items))
    × FindsNext before.queue.room after.pen.known popped.next
    × CarriesOutBatchBy words before (pops_of (take popped.batch.done items)) IsPop popped.batch after
    × EntersTogether before (pops_of (take popped.batch.done items)) popped.batch after

-- so it has, or the call is undone
abbrev pub TriesPushesBy : ℕ → Joined → List Item → Result Batch Undone → Joined → Type 0
TriesPushesBy words before items tried after = TriesFreeBy (λ batch. PushesBy words before items batch after) before tried after

-- and the same of pops
abbrev pub TriesPopsBy : ℕ → ℕ → Joined → List Item → Result (Popped Item) Undone → Joined → Type 0
TriesPopsBy words bound before items tried after = TriesFreeBy (λ popped. PopsBy words bound before items popped after) before tried after
