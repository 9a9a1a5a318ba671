-- What a load in slices comes to, of wide items or of narrow ones, which writes its journal down while it runs.
use Rattle.std.specs.Prelude.{◌≡◌, ℕ, ◌+◌, ◌*◌, ◌/◌, ◌<◌, ◌⊎◌, max, Bool}
use Rattle.std.specs.Prelude.{List, [], length, slice_get, Option, Some, None, Result, Ok, Err, Vec}
use Rattle.pq_types.specs.Asked.{Line}
use Rattle.pq_book.specs.Book.{Volume}
use Rattle.desk_core.specs.Rule.{StartsWith}
use Rattle.program_words.specs.Lines.{each_of}
use Rattle.queue_load.specs.Lines.{book_kept}
use Rattle.flat_queue.specs.Members.{QueueName}
use Rattle.queue_load.specs.Load.{HaveCome, FailsOpenLoad, IsFirstRefusal, ReportsLoad}
use Rattle.queue_load.specs.JournalWriter.{WritesAll}
use Rattle.queue_load.specs.Worker.{HasWorked}
use Rattle.queue_load.specs.declared.load_faults.LoadError.{LoadError}
use Rattle.queue_load.specs.declared.load_faults.LoadError.TheVariants.{NoMemory, NoThread, Worker}
use Rattle.program_words.specs.declared.plan.Plan.{Plan}
use Rattle.queue_load.specs.declared.report.Report.{Report}
use Rattle.queue_load.specs.declared.worker.EndedWorker.{EndedWorker}

-- the members of these workers are of this queue
pub record AreOf {S P : Type 0} (queue : QueueName) (worked : List (EndedWorker S P)) : Type 0 where
  pub each : (i : ℕ) (w : EndedWorker S P) → slice_get worked i ≡ Some w → w.member.queue ≡ queue

-- what workers had come to, they still have come to
pub record StillCome {S P : Type 0} (wide : Bool) (queue : QueueName) (before after : List (EndedWorker S P)) : Type 0 where
  pub come : (plan : Plan) (until : ℕ) → HaveCome wide queue plan until before → HaveCome wide queue plan until after

-- how many requests each worker of this load makes in a slice
abbrev pub share_of : Plan → ℕ
share_of plan = max (65536 / plan.workers) 1

-- so many requests are all of a worker, or those of some whole slices
abbrev pub IsSliceEnd : Plan → (slice until : ℕ) → Type 0
IsSliceEnd plan slice until = (until ≡ each_of plan) ⊎ ((n : ℕ) × (until ≡ (n + 1) * slice) × (until < each_of plan))

-- At some queue all workers of the load have ended, each as it may in a slice that ends behind so many requests of each, and the
-- error names the first that was refused.
pub record AreRefused {S P : Type 0} (wide : Bool) (may_give_up : ℕ → Type 0) (has_room : Type 0) (plan : Plan) (until : ℕ)
    (worked : List (EndedWorker S P)) (error : LoadError) : Type 0 where
  pub queue : QueueName
  pub all : length worked ≡ plan.workers
  pub each : (i : ℕ) (w : EndedWorker S P) → slice_get worked i ≡ Some w
      → HasWorked wide (may_give_up (i + 1)) has_room queue (i + 1) plan until [] w
  pub first : IsFirstRefusal worked error

-- How a load may fail in one of its slices, in which each worker makes so many requests, and whom it hands back then: where a
-- worker was refused all workers, of whom the error names the first that was; else nobody.
abbrev pub FailsSlices : {S P Z : Type 0} → Bool → (may_give_up : ℕ → Type 0) → (has_room : Type 0) → Plan → (slice : ℕ)
    → LoadError → Option (Vec (EndedWorker S P) Z) → Type 0
FailsSlices wide may_give_up has_room plan slice NoMemory handed = handed ≡ None
FailsSlices wide may_give_up has_room plan slice NoThread handed = handed ≡ None
FailsSlices {S} {P} {Z} wide may_give_up has_room plan slice (Worker id reason) handed =
    (until : ℕ) × IsSliceEnd plan slice until
    × (worked : Vec (EndedWorker S P) Z) × (handed ≡ Some worked)
    × AreRefused wide may_give_up has_room plan until worked.items (Worker id reason)

-- The load has this report and hands back this Book, as `HasReport` says; its Book's journal begins with this one, and has so
-- many lines.
abbrev pub EndsWith : Bool → Plan → List Line → Report → Option Volume → ℕ → Type 0
EndsWith wide plan known r left lines =
    (book : Volume) × ReportsLoad wide plan r book × (left ≡ book_kept plan book) × StartsWith book.journal known
    × (lines ≡ length book.journal)

-- How a load in slices may fail: before them, or behind them, for want of memory, or as in one of them.
abbrev pub FailsWatched : {S P Z : Type 0} → Bool → (may_give_up : ℕ → Type 0) → (has_room : Type 0) → Plan → (slice : ℕ)
    → LoadError → Option (Vec (EndedWorker S P) Z) → Type 0
FailsWatched wide may_give_up has_room plan slice NoMemory handed = handed ≡ None
FailsWatched wide may_give_up has_room plan slice NoThread handed = handed ≡ None
FailsWatched wide may_give_up has_room plan slice (Worker id reason) handed =
    FailsSlices wide may_give_up has_room plan slice (Worker id reason) handed

-- There is a Book of which the report speaks, which is handed back where the queue was a short one; and of its journal the writer
-- has the whole text more than before, where that is told, and else a beginning of it.
abbrev pub EndsArchived : Bool → Plan → (old new : Option (List ℕ)) → Report × Option Volume × Bool → Type 0
EndsArchived wide plan old new made =
    (book : Volume) × ReportsLoad wide plan made.0 book × (made.1 ≡ book_kept plan book) × WritesAll made.2 old new book.journal

-- how a load whose workers never give up may end
abbrev pub EndsWatched : Bool → Plan → (old new : Option (List ℕ)) → Result (Report × Option Volume × Bool) LoadError → Type 0
EndsWatched wide plan old new (Ok made) = EndsArchived wide plan old new made
EndsWatched wide plan old new (Err e) = FailsOpenLoad plan e
