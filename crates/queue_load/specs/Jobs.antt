-- Workers that do a job in threads, each from a state of its own on, numbered from 1 in the order of the states.
use Rattle.std.specs.Prelude.{◌≡◌, ℕ, ◌+◌, List, slice_get, Some}
use Rattle.std.specs.declared.thread.PromisedHandle.{PromisedHandle}
use Rattle.queue_load.specs.declared.threads.Task.{Task}

-- each worker may do it from its state on
abbrev pub MayAllDo : {T : Type 0} → (may_do : ℕ → T → Type 0) → List T → Type 0
MayAllDo {T} may_do states = (i : ℕ) (s : T) → slice_get states i ≡ Some s → may_do (i + 1) s

-- the thread of the worker at this index, which is to do this job from its state on
pub record IsTask {J T : Type 0} (job : J) (i : ℕ) (states : List T) (task : Task J T) : Type 0 where
  pub job_is : task.job.now ≡ job
  pub worker_is : task.worker ≡ i + 1
  pub state_is : slice_get states i ≡ Some task.state.value

-- the threads of the first workers, each of which is to do this job
abbrev pub HaveTasks : {J T W : Type 0} → J → List T → List (PromisedHandle W (Task J T)) → Type 0
HaveTasks {J} {T} {W} job states started =
    (i : ℕ) (h : PromisedHandle W (Task J T)) → slice_get started i ≡ Some h → IsTask job i states h.promise

-- what each worker has come to
abbrev pub HaveDone : {T W : Type 0} → (has_done : ℕ → T → W → Type 0) → List T → List W → Type 0
HaveDone {T} {W} has_done states worked =
    (i : ℕ) (w : W) → slice_get worked i ≡ Some w → (s : T) × (slice_get states i ≡ Some s) × has_done (i + 1) s w
