-- What the calls for C make of what their handles hold.
use Rattle.std.specs.Prelude.{◌≡◌, ℕ, ◌+◌, ◌<◌, ◌≤◌, ◌↔◌, ◌⊎◌, true, List, [], ◌∷◌}
use Rattle.std.specs.Prelude.{length, slice_get, Option, Some, None, Result, Ok, Err}
use Rattle.std.specs.Option.{MatchOption}
use Rattle.pq_types.specs.Asked.{Request}
use Rattle.pq_types.specs.Asked.{Answer}
use Rattle.pq_types.specs.Asked.{Line}
use Rattle.flat_queue.specs.declared.length.Length.{Length}
use Rattle.flat_queue.specs.declared.error.ArchiveError.{ArchiveError}
use Rattle.flat_queue.specs.declared.error.ArchiveError.TheVariants.{Forgotten, NoMemory, Ahead}
use Rattle.split_core.specs.Ids.{OpenGrid}
use Rattle.desk_core.specs.Pen.{after_miss}
use Rattle.desk_core.specs.Words.{word_number}
use Rattle.announce_board.specs.Tokens.{is_idle}
use Rattle.announce_board.specs.Waking.{owes_any}
use Rattle.announce_board.specs.Asking.{asked_by, LooksBy}
use Rattle.flat_queue.specs.Limits.{most_posts}
use Rattle.flat_queue.specs.OwnRequest.{CarriesOutBy}
use Rattle.flat_queue.specs.Members.{Joined, StaysAtPlace}
use Rattle.queue_pool.specs.Pool.{Pooled, TakesOutBy, StaysPool, NoneComesBy, inside, lists_of, with_member}
use Rattle.flat_queue.specs.Settling.{Archives, SettlesBy}
use Rattle.leftist_heap.specs.Store.{first_of, rest_of}
use Rattle.queue_c.specs.Values.{Told, IsOpened, IsClosed}
use Rattle.queue_c.specs.Plain.{told_item, told_answer, told_line}
use Rattle.queue_c.specs.declared.plain.PlainItem.{PlainItem}
use Rattle.queue_c.specs.declared.plain.PlainAnswer.{PlainAnswer}
use Rattle.queue_c.specs.declared.plain.PlainLine.{PlainLine}

-- how many words an item has
abbrev pub words_of_item : ℕ
words_of_item = word_number true

-- the code is one of these
abbrev pub IsOneOf : ℕ → List ℕ → Type 0
IsOneOf code [] = ⊥
IsOneOf code (c ∷ cs) = (code ≡ c) ⊎ IsOneOf code cs

-- the queue was opened for the comers of these ids, with a journal of this length and this bound, if it has one, and all of them
-- wait
abbrev pub Opening : List ℕ → Length → Option ℕ → Pooled → Type 0
Opening ids length bound opened = OpenGrid ids × IsOpened ids length bound opened

-- an idle member has come out of the queue's pool: one that was given back, before a comer that joins
abbrev pub Joining : Option Pooled → Option Pooled → Option Joined → Type 0
Joining (Some before) (Some after) (Some member) =
    TakesOutBy words_of_item before member after × (inside after + 1 ≡ inside before)
Joining before after member = ⊥

-- none came out: none is idle, no comer is left, and those that wait have looked in vain
abbrev pub AllOut : Option Pooled → Option Pooled → Type 0
AllOut (Some before) (Some after) =
    StaysPool before after × NoneComesBy words_of_item (lists_of before) (lists_of after)
AllOut before after = ⊥

-- the member is in the queue's pool, with the others
abbrev pub Returning : Option Pooled → Option Joined → Option Pooled → Type 0
Returning (Some before) (Some member) (Some after) =
    (after ≡ with_member before member) × (inside before < before.most)
Returning before member after = ⊥

-- the idle member has posted this request
abbrev pub Posting : Option Joined → Option Request → Option Joined → Type 0
Posting (Some before) (Some request) (Some after) =
    (is_idle before.pen.standing ≡ true) × (before.pen.posts < most_posts before.queue.room)
    × ((now : ℕ) × (after ≡ record before { pen = asked_by words_of_item before.pen request now }))
Posting before request after = ⊥

-- the idle member has found the lock free, and carried this request out itself, with an answer of which this is true
abbrev pub CarryingOut : Option Joined → Request → (Answer → Type 0) → Option Joined → Type 0
CarryingOut (Some before) request tells (Some after) =
    (is_idle before.pen.standing ≡ true) × (before.pen.posts < most_posts before.queue.room)
    × ((answer : Answer) × CarriesOutBy words_of_item before request answer after × tells answer)
CarryingOut before request tells after = ⊥

-- this word, 1 or 0, says whether the member owes a wake
abbrev pub SaysOwed : ℕ → Option Joined → Type 0
SaysOwed wake None = ⊥
SaysOwed wake (Some member) = (wake ≤ 1) × ((wake ≡ 1) ↔ (owes_any member.pen.owed ≡ true))

-- the waiting member has looked at its record, and found the answer that is told; by that it owes no wake
abbrev pub Looking : Option Joined → PlainAnswer → Option Joined → Type 0
Looking (Some before) told (Some after) =
    StaysAtPlace before after
    × ((answer : Answer) × LooksBy words_of_item before.pen (Some answer) after.pen × (told ≡ told_answer 0 answer))
Looking before told after = ⊥

-- the member found the lock held
abbrev pub Missing : Option Joined → Option Joined → Type 0
Missing (Some before) (Some after) = after ≡ record before { pen = after_miss before.pen }
Missing before after = ⊥

-- The member has led and released, and this is what becomes of an empty archive that is brought up to
-- date from so many lines on, and of how many lines the journal may have then.
abbrev pub Archiving : Option Joined → ℕ → List Line → Result ℕ ArchiveError → Option Joined → Type 0
Archiving (Some before) archived lines result (Some after) =
    (after.queue ≡ before.queue) × SettlesBy archived before result after
    × Archives before.queue.room archived after.pen.known [] lines result
Archiving before archived lines result after = ⊥

-- so it has, and told all lines of the journal behind so many
abbrev pub Copying : Option Joined → ℕ → Option Told → Option Joined → Type 0
Copying before archived None after = ⊥
Copying before archived (Some told) after =
    (told.before ≡ archived) × (told.items ≡ []) × ((count : ℕ) × Archiving before archived told.lines (Ok count) after)

-- so it has, and the first line behind so many is forgotten
abbrev pub Forgetting : Option Joined → ℕ → Option Joined → Type 0
Forgetting before archived after = Archiving before archived [] (Err Forgotten) after

-- so it has, and the journal has fewer lines than so many
abbrev pub Exceeding : Option Joined → ℕ → Option Joined → Type 0
Exceeding before archived after = Archiving before archived [] (Err Ahead) after

-- nothing was done; or so it has, and the lines behind so many are all kept
abbrev pub Lacking : Option Joined → ℕ → Option Joined → Type 0
Lacking before archived after = (after ≡ before) ⊎ Archiving before archived [] (Err NoMemory) after

-- members of the queue are out: fewer are in its pool than it was opened with ids
abbrev pub HasOut : Option Pooled → Type 0
HasOut None = ⊥
HasOut (Some opened) = inside opened < opened.most

-- no member of the queue is out
abbrev pub HasAllIn : Option Pooled → Type 0
HasAllIn None = ⊥
HasAllIn (Some opened) = inside opened ≡ opened.most

-- the queue was closed, and this is what is left of it
abbrev pub Closing : Option Pooled → Option Told → Type 0
Closing (Some before) (Some closed) = IsClosed before closed.before closed.lines closed.items
Closing before closed = ⊥

-- the line of this index is told, where there is one
abbrev pub Reading : List Line → ℕ → ℕ → PlainLine → Type 0
Reading lines index code told = MatchOption (slice_get lines index) (code ≡ 46) (λ l. (code ≡ 0) × (told ≡ told_line l))

-- the first item is told and has left the closed queue, where there is one, and the lines stay
abbrev pub Taking : Told → ℕ → PlainItem → Option Told → Type 0
Taking before code told after =
    MatchOption (first_of before.items) (code ≡ 47)
    (λ x. (code ≡ 0) × (told ≡ told_item x) × (after ≡ Some (record before { items = rest_of before.items })))
