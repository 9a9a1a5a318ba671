-- What a lead without a sweep makes of its member, and what it hands out of the journal.
use Rattle.std.specs.Prelude.{◌≡◌, ℕ, ◌+◌, ◌<◌, ◌≤◌, List, ◌++◌, length, drop, max, Result, Ok, Err}
use Rattle.pq_types.specs.Asked.{Line}
use Rattle.pq_book.specs.Book.{Volume}
use Rattle.pq_book.specs.Pages.{page_of}
use Rattle.desk_core.specs.Pen.{after_archive, after_release}
use Rattle.announce_board.specs.Serving.{Wins}
use Rattle.flat_queue.specs.Members.{Joined, StaysAtPlace}
use Rattle.flat_queue.specs.declared.error.ArchiveError.{ArchiveError}
use Rattle.flat_queue.specs.declared.error.ArchiveError.TheVariants.{Forgotten, NoMemory, Ahead}

-- The member won the lock and released it, and did nothing else. It knows the journal that it had
-- in its hand, which has so many lines.
pub record Settles (before : Joined) (lines : ℕ) (after : Joined) : Type 0 where
  pub book : Volume
  pub led : Joined
  pub won : Wins before.pen book led.pen
  pub stays : StaysAtPlace before led
  pub release : after ≡ record led { pen = after_release led.pen }
  pub count : lines ≡ length after.pen.known

-- The same of a member that was told, while it led, that so many lines are archived, of a journal that has as many or more. The
-- Book that it brought home allows as many lines beyond them as memory keeps, or as many as it did, where that is more.
pub record SettlesArchive (before : Joined) (archived : ℕ) (after : Joined) : Type 0 where
  pub book : Volume
  pub led : Joined
  pub won : Wins before.pen book led.pen
  pub stays : StaysAtPlace before led
  pub release : after ≡ record led { pen = after_release (after_archive led.pen archived) }
  pub has : archived ≤ length after.pen.known
  pub allowed : after.pen.allowed ≡ max book.allowed (archived + page_of before.pen.room)

-- so a member does that was told so, where the call ends so: a journal with fewer lines was told nothing
abbrev pub SettlesBy : ℕ → Joined → Result ℕ ArchiveError → Joined → Type 0
SettlesBy archived before (Ok count) after = SettlesArchive before archived after
SettlesBy archived before (Err Forgotten) after = SettlesArchive before archived after
SettlesBy archived before (Err NoMemory) after = SettlesArchive before archived after
SettlesBy archived before (Err Ahead) after = Settles before (length after.pen.known) after

-- What becomes of an archive that has so many lines of a journal with this room: it has all of them,
-- each once, and this is how many; or the first that it lacks is forgotten; or memory was refused for
-- lines that are all kept; or the journal has fewer lines than it is said to have. It is as it was then.
abbrev pub Archives : (room archived : ℕ) → (journal archive after : List Line) → Result ℕ ArchiveError → Type 0
Archives room archived journal archive after (Ok count) =
    (archived ≤ length journal) × (count ≡ length journal) × (after ≡ archive ++ drop archived journal)
Archives room archived journal archive after (Err Forgotten) = (archived + page_of room < length journal) × (after ≡ archive)
Archives room archived journal archive after (Err NoMemory) =
    (archived ≤ length journal) × (length journal ≤ archived + page_of room) × (after ≡ archive)
Archives room archived journal archive after (Err Ahead) = (length journal < archived) × (after ≡ archive)
