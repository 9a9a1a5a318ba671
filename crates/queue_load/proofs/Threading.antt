-- Threads that were started one after another, and what they have done once they are joined.
use Rattle.std.proofs.Common.{◌≡◌, ℕ, zero, suc, ◌+◌, ◌⊎◌, inl, inr, List, [], ◌∷◌, ◌++◌, length, slice_get, Some, drop, refl, sym, ap, subst, add-one}
use Rattle.std.specs.declared.thread.PromisedHandle.{PromisedHandle}
use Rattle.queue_load.specs.Jobs.{HaveTasks, IsTask}
use Rattle.queue_load.specs.declared.threads.Task.{Task}

-- an element of a list with one more is one of the list, or the new one
pub pushed_cases : {X : Type 0} (xs : List X) (x : X) (i : ℕ) (y : X) → slice_get (xs ++ x ∷ []) i ≡ Some y → (slice_get xs i ≡ Some y) ⊎ ((i ≡ length xs) × (x ≡ y))
pushed_cases [] x zero y h = inr (refl, cc)
pushed_cases [] x (suc i) y h = inl h
pushed_cases (z ∷ zs) x zero y h = inl h
pushed_cases (z ∷ zs) x (suc i) y h = later (pushed_cases zs x i y h)
  where
    later : (slice_get zs i ≡ Some y) ⊎ ((i ≡ length zs) × (x ≡ y)) → (slice_get zs i ≡ Some y) ⊎ ((suc i ≡ length (z ∷ zs)) × (x ≡ y))
    later (inl there) = inl there
    later (inr new) = inr (ap suc new.0, new.1)

-- the threads with one more
pub tasks_more : {J T W : Type 0} (job : J) (states : List T) (xs ys : List (PromisedHandle W (Task J T))) (h : PromisedHandle W (Task J T)) → ys ≡ xs ++ h ∷ [] → HaveTasks job states xs → IsTask job (length xs) states h.promise → HaveTasks job states ys
tasks_more {J = J} {T = T} {W = W} job states xs ys h e were task i one at = told (pushed_cases xs h i one (subst (λ zs. slice_get zs i ≡ Some one) e at))
  where
    told : (slice_get xs i ≡ Some one) ⊎ ((i ≡ length xs) × (h ≡ one)) → IsTask job i states one.promise
    told (inl there) = were i one there
    told (inr (last, same)) =
        subst (λ (x : PromisedHandle W (Task J T)). IsTask job i states x.promise) same
        (subst (λ n. IsTask job n states h.promise) (sym last) task)

-- what its task has come to is what the worker at this index has
pub done_as : {J T W : Type 0} (has_done : J → ℕ → T → W → Type 0) (job : J) (i : ℕ) (states : List T) (task : Task J T) (w : W) → IsTask job i states task → has_done task.job.now task.worker task.state.value w → has_done job (i + 1) task.state.value w
done_as has_done job i states task w is h =
    subst (λ j. has_done j (i + 1) task.state.value w) is.job_is (subst (λ n. has_done task.job.now n task.state.value w) is.worker_is h)

-- the first of those behind so many is the one at that index
pub drop_first : {X : Type 0} (xs rest : List X) (n : ℕ) (x : X) → drop n xs ≡ x ∷ rest → (slice_get xs n ≡ Some x) × (drop (n + 1) xs ≡ rest)
drop_first xs rest n x e = let h = here xs n e in (h.0, rw add-one h.1)
  where
    here : (ys : List _) (n : ℕ) → drop n ys ≡ x ∷ rest → (slice_get ys n ≡ Some x) × (drop (suc n) ys ≡ rest)
    here [] zero h = absurd (cc)
    here [] (suc n) h = absurd (cc)
    here (y ∷ ys) zero h = (cc, cc)
    here (y ∷ ys) (suc n) h = here ys n h
