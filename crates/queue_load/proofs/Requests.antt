-- The requests of workers are pushes and pops alone.
use Rattle.std.proofs.Common.{ℕ, zero, suc, Bool, List, [], ◌∷◌, map}
use Rattle.std.specs.List.{AllByRecursion, range_with_len}
use Rattle.pq_types.specs.Asked.{Operation}
use Rattle.leftist_heap.proofs.Ascending.{all-append}
use Rattle.pq_types.specs.declared.request.Request.TheVariants.{Push, Pop}
use Rattle.pq_types.specs.Operation.{Asked}
use Rattle.program_words.specs.Plan.{load_item, requests_of, all_requests}
use Rattle.queue_load.proofs.Balances.{IsPushOrPop}

-- what holds of each image holds of the images
all_images : {X Y : Type 0} (P : Y → Type 0) (f : X → Y) (xs : List X) → ((x : X) → P (f x)) → AllByRecursion P (map f xs)
all_images P f [] h = tt
all_images P f (x ∷ xs) h = (h x, all_images P f xs h)

-- a worker pushes and pops, and does nothing else
pub are_pushes_and_pops : (wide : Bool) (worker pushes pops rounds : ℕ) → AllByRecursion IsPushOrPop (all_requests wide worker pushes pops rounds)
are_pushes_and_pops wide worker pushes pops zero = tt
are_pushes_and_pops wide worker pushes pops (suc rounds) =
    let f : ℕ → Operation = λ index. Asked (Push (load_item wide worker index)) in
    let g : ℕ → Operation = λ index. Asked Pop in
    all-append IsPushOrPop (all_requests wide worker pushes pops rounds) (requests_of wide worker pushes pops) (are_pushes_and_pops wide worker pushes pops rounds)
    (all-append IsPushOrPop (map f (range_with_len 0 pushes)) (map g (range_with_len 0 pops)) (all_images IsPushOrPop f (range_with_len 0 pushes) (λ x. tt))
    (all_images IsPushOrPop g (range_with_len 0 pops) (λ x. tt)))
