-- The queue of a load is opened for workers 1 and so on, who are told by index.
use Rattle.std.proofs.Common.{◌≡◌, ℕ, Bool, zero, suc, ◌+◌, ◌<◌, List, [], ◌∷◌, ◌++◌, length, map, get_or, slice_get, Option, Some, None, refl, sym, ◌∙◌, ap, subst, arith}
use Rattle.std.specs.List.{range_with_len}
use Rattle.std.proofs.lemmas.List.FromFn.{length-range_with_len, length-map-range_with_len, get_or-map-range_with_len, map-range_with_len_more}
use Rattle.std.proofs.lemmas.List.{length-map}
use Rattle.std.proofs.lemmas.Option.{get_or_from_slice_get, slice_get_within}
use Rattle.desk_core.specs.Rule.{StartsWith}
use Rattle.flat_queue.specs.Members.{QueueName, Coming}
use Rattle.flat_queue.specs.Opening.{newcomer_of}
use Rattle.program_words.specs.Lines.{each_of}
use Rattle.queue_load.specs.Lines.{load_room}
use Rattle.queue_load.specs.Load.{AreWorked, AreDone, BeginsLoad, HaveCome, HasRefused, known_before, known_then}
use Rattle.program_words.specs.Plan.{IsLoad}
use Rattle.queue_load.specs.Worker.{StandsAt, known_of}
use Rattle.queue_load.specs.declared.load_faults.WorkerError.{WorkerError}
use Rattle.program_words.specs.declared.plan.Plan.{Plan}
use Rattle.queue_load.specs.declared.worker.EndedWorker.{EndedWorker}
use Rattle.queue_load.specs.declared.worker.WorkerState.{WorkerState}
use Rattle.queue_load.specs.declared.worker.WorkerState.TheVariants as state
use Rattle.queue_load.proofs.Coming.{all_made}
use Rattle.queue_load.proofs.Plans.{may_post_all}

map_same : (xs : List ℕ) → map (λ x. x) xs ≡ xs
map_same [] = refl
map_same (x ∷ xs) = ap (λ ys. x ∷ ys) (map_same xs)

-- the ids with one more
pub ids_more : (ids new : List ℕ) (n x : ℕ) → new ≡ ids ++ x ∷ [] → ids ≡ range_with_len 1 n → x ≡ n + 1 → new ≡ range_with_len 1 (n + 1)
ids_more ids new n x e was next =
    e ∙ ap (λ xs. xs ++ x ∷ []) (was ∙ sym (map_same (range_with_len 1 n)))
    ∙ sym (map-range_with_len_more (λ x. x) 1 n x (omega arith)) ∙ map_same (range_with_len 1 (n + 1))

-- the newcomers of these ids
are_newcomers : (queue : QueueName) (workers : ℕ) (newcomers : List Coming) → newcomers ≡ map (newcomer_of queue) (range_with_len 1 workers) → (i : ℕ) (n : Coming) → slice_get newcomers i ≡ Some n → (n.queue ≡ queue) × (n.comer.id ≡ i + 1)
are_newcomers queue workers newcomers e i n at =
    let there : slice_get (map (newcomer_of queue) (range_with_len 1 workers)) i ≡ Some n = subst (λ xs. slice_get xs i ≡ Some n) e at in
    let within : i < workers = omega (arith, slice_get_within (map (newcomer_of queue) (range_with_len 1 workers)) i n there, length-map-range_with_len (newcomer_of queue) 1 workers) in
    let is : n ≡ newcomer_of queue (i + 1) =
    sym (get_or_from_slice_get (map (newcomer_of queue) (range_with_len 1 workers)) i n n there) ∙ get_or-map-range_with_len (newcomer_of queue) 1 workers i (i + 1) n within (omega arith) in
    (ap (λ (c : Coming). c.queue) is, ap (λ (c : Coming). c.comer.id) is)

-- a worker that has no refusal was not refused
pub not_refused : {S P : Type 0} (worked : List (EndedWorker S P)) (i : ℕ) (d : EndedWorker S P) → (get_or worked i d).refusal ≡ None → HasRefused worked i → ⊥
not_refused {S = S} {P = P} worked i d none (w, reason, at, some) =
    let same = ap (λ (x : EndedWorker S P). x.refusal) (get_or_from_slice_get worked i w d at) in absurd (cc)

-- a worker at whose index none was refused has no refusal
pub unrefused : {S P : Type 0} (worked : List (EndedWorker S P)) (i : ℕ) (w : EndedWorker S P) (r : Option WorkerError) → slice_get worked i ≡ Some w → w.refusal ≡ r → (HasRefused worked i → ⊥) → r ≡ None
unrefused worked i w None at e none = refl
unrefused worked i w (Some reason) at e none = absurd (none (w, reason, at, e))

-- so each worker has come so far
pub have_come : {wide : Bool} → {S P : Type 0} (may_give_up : ℕ → Type 0) (has_room : Type 0) (queue : QueueName) (plan : Plan) (until : ℕ) (states : List (WorkerState S P)) (worked told : List (EndedWorker S P)) → told ≡ worked → AreWorked wide may_give_up has_room queue plan until states worked → ((i : ℕ) → HasRefused told i → ⊥) → HaveCome wide queue plan until worked
have_come {wide = wide} may_give_up has_room queue plan until states worked told e are none i w at =
    let unrefused_here = unrefused told i w w.refusal (subst (λ xs. slice_get xs i ≡ Some w) (sym e) at) refl (none i) in
    let h = (are i w at).2 in
    (h.done unrefused_here, h.posts unrefused_here)

-- and has made all its requests
pub all_done : {wide : Bool} → {S P : Type 0} (queue : QueueName) (plan : Plan) (worked : List (EndedWorker S P)) → HaveCome wide queue plan (each_of plan) worked → AreDone wide queue plan worked
all_done {wide = wide} queue plan worked come i w at = let h = come i w at in all_made queue (i + 1) plan w.point w.member w.tally h.0 h.1

-- the first worker knows more of the journal then
pub knows_more : {wide : Bool} → {S P : Type 0} (may_give_up : ℕ → Type 0) (has_room : Type 0) (queue : QueueName) (plan : Plan) (until : ℕ) (states : List (WorkerState S P)) (worked told : List (EndedWorker S P)) → told ≡ worked → length worked ≡ length states → AreWorked wide may_give_up has_room queue plan until states worked → ((i : ℕ) → HasRefused told i → ⊥) → StartsWith (known_then worked) (known_before states)
knows_more {wide = wide} may_give_up has_room queue plan until [] [] told e count are none = ([], refl)
knows_more {wide = wide} may_give_up has_room queue plan until (s ∷ ss) [] told e count are none = absurd (omega (arith, count))
knows_more {wide = wide} may_give_up has_room queue plan until [] (w ∷ ws) told e count are none = absurd (omega (arith, count))
knows_more {wide = wide} may_give_up has_room queue plan until (s ∷ ss) (w ∷ ws) told e count are none =
    let (first, at, h) = are 0 w refl in
    let same : first ≡ s = cc in
    subst (λ x. StartsWith w.member.pen.known (known_of x)) same (h.starts (unrefused told 0 w w.refusal (subst (λ xs. slice_get xs 0 ≡ Some w) (sym e) refl) refl (none 0)))

-- there is a newcomer for each worker
count_of_newcomers : (queue : QueueName) (workers : ℕ) (newcomers : List Coming) → newcomers ≡ map (newcomer_of queue) (range_with_len 1 workers) → length newcomers ≡ workers
count_of_newcomers queue workers newcomers e = ap length e ∙ length-map-range_with_len (newcomer_of queue) 1 workers

-- what stands in a list of images
pub image_at : {X Y : Type 0} (f : X → Y) (xs : List X) (i : ℕ) (y : Y) → slice_get (map f xs) i ≡ Some y → (x : X) × (slice_get xs i ≡ Some x) × (f x ≡ y)
image_at f [] zero y h = absurd (cc)
image_at f [] (suc i) y h = absurd (cc)
image_at f (x ∷ xs) zero y h = (x, refl, cc)
image_at f (x ∷ xs) (suc i) y h = image_at f xs i y h

-- whoever is still to join knows nothing
nothing_known : (S P : Type 0) (newcomers : List Coming) → known_before {S = S} {P = P} (map state.Coming newcomers) ≡ []
nothing_known S P [] = refl
nothing_known S P (n ∷ ns) = refl

-- a load begins with its newcomers
pub begins_load : {wide : Bool} → {S P : Type 0} (queue : QueueName) (plan : Plan) (newcomers : List Coming) (states : List (WorkerState S P)) → queue.room ≡ load_room plan → IsLoad plan.workers plan.pushes plan.pops plan.rounds → queue.comers ≡ length (range_with_len 1 plan.workers) → newcomers ≡ map (newcomer_of queue) (range_with_len 1 plan.workers) → states ≡ map state.Coming newcomers → BeginsLoad wide plan queue states
begins_load {wide = wide} {S = S} {P = P} queue plan newcomers states room fits counted dealt e =
    record {
      room_is = room;
      stand = λ until i s at.
          let (n, there, is) = image_at {Y = WorkerState S P} state.Coming newcomers i s (subst (λ xs. slice_get xs i ≡ Some s) e at) in
          subst (λ x. StandsAt wide queue (i + 1) plan until x) is (are_newcomers queue plan.workers newcomers dealt i n there);
      count = ap length e ∙ length-map newcomers state.Coming ∙ count_of_newcomers queue plan.workers newcomers dealt;
      few = may_post_all queue plan room fits;
      known = ap known_before e ∙ nothing_known S P newcomers;
      comers = counted ∙ length-range_with_len 1 plan.workers;
    }
