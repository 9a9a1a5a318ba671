-- How a load fails, in one slice or in several.
use Rattle.std.proofs.Common.{◌≡◌, ℕ, ◌+◌, Bool, ◌<◌, ◌≤◌, ◌⊎◌, inl, inr, List, length, Option, Some, Vec, refl, sym, ◌∙◌, ap, subst, arith}
use Rattle.std.proofs.lemmas.Option.{slice_get_within}
use Rattle.pq_book.specs.Book.{AllHaveRoom}
use Rattle.flat_queue.specs.Members.{QueueName, HasRoomForAll}
use Rattle.program_words.specs.Lines.{each_of}
use Rattle.queue_load.specs.Load.{AreWorked, IsFirstRefusal, FailsLoad, FailsOpenLoad}
use Rattle.queue_load.specs.Watched.{AreRefused, FailsSlices, FailsWatched, IsSliceEnd}
use Rattle.queue_load.specs.Worker.{IsReason}
use Rattle.queue_load.specs.declared.load_faults.LoadError.{LoadError}
use Rattle.queue_load.specs.declared.load_faults.LoadError.TheVariants.{NoMemory, NoThread, Worker}
use Rattle.queue_load.specs.declared.load_faults.WorkerError.{WorkerError}
use Rattle.program_words.specs.declared.plan.Plan.{Plan}
use Rattle.queue_load.specs.declared.worker.EndedWorker.{EndedWorker}
use Rattle.queue_load.specs.declared.worker.WorkerState.{WorkerState}
use Rattle.queue_load.proofs.Widths.{once_more}

-- how a load fails in a slice whose first refusal this is
pub fails_slice : {wide : Bool} → {S P Z : Type 0} (may_give_up : ℕ → Type 0) (has_room : Type 0) (queue : QueueName) (plan : Plan) (slice until : ℕ) (states : List (WorkerState S P)) (worked : Vec (EndedWorker S P) Z) (told : List (EndedWorker S P)) (error : LoadError) → told ≡ worked.items → length told ≡ plan.workers → IsSliceEnd plan slice until → AreWorked wide may_give_up has_room queue plan until states worked.items → IsFirstRefusal told error → FailsSlices wide may_give_up has_room plan slice error (Some worked)
fails_slice {wide = wide} may_give_up has_room queue plan slice until states worked told error same len end are (i, w, reason, at, some, e, none) =
    subst (λ x. FailsSlices wide may_give_up has_room plan slice x (Some worked)) (sym e) (
      until,
      end,
      worked,
      refl,
      record {
        queue = queue;
        all = ap length (sym same) ∙ len;
        each = λ k v there. let h = (are k v there).2 in record { done = h.done; posts = h.posts; starts = λ _. (v.member.pen.known, refl); refused = h.refused };
        first = subst (λ xs. IsFirstRefusal xs (Worker (i + 1) reason)) same (i, w, reason, at, some, refl, none);
      },
    )

-- what it says of the worker that is named
of_named : {wide : Bool} → {S P : Type 0} (may_give_up : ℕ → Type 0) (has_room : Type 0) (plan : Plan) (until id : ℕ) (reason : WorkerError) (worked : List (EndedWorker S P)) → AreRefused wide may_give_up has_room plan until worked (Worker id reason)
    → (1 ≤ id) × (id ≤ plan.workers) × IsReason (may_give_up id) has_room reason
of_named {wide = wide} may_give_up has_room plan until id reason worked h =
    let (i, w, why, at, some, e, none) = h.first in
    let named : id ≡ i + 1 = cc in
    let said : why ≡ reason = cc in
    let within = slice_get_within worked i w at in (
      omega (arith, named),
      (let all = h.all in omega (arith, named, within, all)),
      subst (λ r. IsReason (may_give_up id) has_room r) said (subst (λ n. IsReason (may_give_up n) has_room why) (sym named) ((h.each i w at).refused why some)),
    )

-- the first slice ends behind so many requests
pub first_end : (plan : Plan) (slice until : ℕ) → (until ≡ each_of plan) ⊎ ((until ≡ 0 + slice) × (until < each_of plan)) → IsSliceEnd plan slice until
first_end plan slice until (inl all) = inl all
first_end plan slice until (inr (e, less)) = inr (0, omega (arith, e), less)

-- and each one behind so many more
pub next_end : (plan : Plan) (slice made until : ℕ) → IsSliceEnd plan slice made → made < each_of plan → (until ≡ each_of plan) ⊎ ((until ≡ made + slice) × (until < each_of plan)) → IsSliceEnd plan slice until
next_end plan slice made until end more (inl all) = inl all
next_end plan slice made until (inl all) more (inr (e, less)) = absurd (omega (arith, all, more))
next_end plan slice made until (inr (n, is, under)) more (inr (e, less)) = inr (n + 1, omega (arith, is, e, once_more (n + 1) slice), less)

-- behind the last slice all are made
pub all_made_then : (plan : Plan) (slice made : ℕ) → IsSliceEnd plan slice made → each_of plan ≤ made → made ≡ each_of plan
all_made_then plan slice made (inl all) enough = all
all_made_then plan slice made (inr (n, is, under)) enough = absurd (omega (arith, under, enough))

-- a load in slices whose queue was opened for so many lines
pub fails_watched : {S P Z X : Type 0} (wide : Bool) (may_give_up : ℕ → Type 0) (room : X → ℕ) (queue : QueueName) (plan : Plan) (slice lines : ℕ) (error : LoadError) (handed : Option (Vec (EndedWorker S P) Z)) → queue.room ≡ lines → FailsSlices wide may_give_up (HasRoomForAll room queue) plan slice error handed → FailsWatched wide may_give_up (AllHaveRoom room lines) plan slice error handed
fails_watched wide may_give_up room queue plan slice lines NoMemory handed is h = h
fails_watched wide may_give_up room queue plan slice lines NoThread handed is h = h
fails_watched wide may_give_up room queue plan slice lines (Worker id reason) handed is h = subst (λ n. FailsSlices wide may_give_up (AllHaveRoom room n) plan slice (Worker id reason) handed) is h

-- and a load in one slice
pub fails_whole : {S P Z : Type 0} (wide : Bool) (may_give_up : ℕ → Type 0) (has_room : Type 0) (plan : Plan) (slice : ℕ) (error : LoadError) (handed : Option (Vec (EndedWorker S P) Z)) → FailsWatched wide may_give_up has_room plan slice error handed → FailsLoad may_give_up has_room plan error
fails_whole wide may_give_up has_room plan slice NoMemory handed h = tt
fails_whole wide may_give_up has_room plan slice NoThread handed h = tt
fails_whole wide may_give_up has_room plan slice (Worker id reason) handed (until, end, worked, is, refused) =
    of_named may_give_up has_room plan until id reason worked.items refused

-- and one whose workers never give up
pub fails_open : {S P Z : Type 0} (wide : Bool) (may_give_up : ℕ → Type 0) (has_room : Type 0) (plan : Plan) (slice : ℕ) (error : LoadError) (handed : Option (Vec (EndedWorker S P) Z)) → ((id : ℕ) → may_give_up id → ⊥) → FailsWatched wide may_give_up has_room plan slice error handed → FailsOpenLoad plan error
fails_open wide may_give_up has_room plan slice NoMemory handed never h = tt
fails_open wide may_give_up has_room plan slice NoThread handed never h = tt
fails_open wide may_give_up has_room plan slice (Worker id reason) handed never (until, end, worked, is, refused) =
    let (some, most, why) = of_named may_give_up has_room plan until id reason worked.items refused in
    (some, most, λ gave. never id (subst (λ r. IsReason (may_give_up id) has_room r) gave why))
