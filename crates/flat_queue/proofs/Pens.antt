-- The pens that sleep fit the places of the grid, and its newcomers are those of the queue.
use Rattle.std.proofs.Common.{◌≡◌, ◌∙◌, ℕ, ◌+◌, ◌-◌, ◌*◌, ◌<◌, ◌≤◌, sym, ap, subst, refl, length, map, replicate, take, arith, [], ◌∷◌, Some, None, List}
use Rattle.std.specs.Prelude.{Option, slice_get}
use Rattle.std.specs.Option.{option_map}
use Rattle.std.specs.List.{All}
use Rattle.std.proofs.lemmas.Option.{slice_get-map}
use Rattle.std.proofs.lemmas.Nat.{le-div, mul-le}
use Rattle.std.proofs.lemmas.List.{length-replicate, length-take-le}
use Rattle.std.proofs.lemmas.List.Elements.{All-map, All-replicate}
use Rattle.atomic_table.specs.Seated.{TableId}
use Rattle.split_grid.specs.Tokens.{Running as RunningGrid, Walking}
use Rattle.split_grid.specs.Opening.{newcomer_of as walker_of, places_of}
use Rattle.announce_board.specs.Tokens.{AtDesk}
use Rattle.announce_board.specs.Opening.{ArePens, pen_of_place}
use Rattle.announce_board.specs.Sleeping.{IsNew}
use Rattle.announce_board.specs.Testimonies.{Testified}
use Rattle.flat_queue.specs.Gathered.{licences_at}
use Rattle.flat_queue.specs.declared.waiting.Waiting.{Waiting}
use Rattle.flat_queue.specs.declared.waiting.DeskTag.{DeskTag}
use Rattle.flat_queue.specs.Members.{QueueName, Coming}
use Rattle.flat_queue.specs.Opening.{waiting_of, AreAsleep, is_coming, newcomer_of}

pull : (o : Option AtDesk) (x : Waiting) → option_map waiting_of o ≡ Some x → o ≡ Some x.sleeper
pull None x h = cc
pull (Some q) x h = ap (option_map (λ (w : Waiting). w.sleeper)) h

pub are_asleep : (table : TableId) (room : ℕ) (pens : List AtDesk) (items : List Waiting) → ArePens table room pens → items ≡ map waiting_of pens → AreAsleep table room items
are_asleep table room pens items are h i x there = are i x.sleeper (pull (slice_get pens i) x (sym (slice_get-map waiting_of pens i) ∙ (ap (λ l. slice_get l i) (sym h) ∙ there)))

-- a pen of its place is new
pub still_new : (table : TableId) (room place : ℕ) (pen : AtDesk) → pen ≡ pen_of_place table room place → IsNew pen.state
still_new table room place pen is = subst (λ (p : AtDesk). IsNew p.state) (sym is) refl

-- one thing for each is that thing so often
pub same_for_each : {X Y : Type 0} (y : Y) (xs : List X) → map (λ _. y) xs ≡ replicate (length xs) y
same_for_each y [] = refl
same_for_each y (x ∷ xs) = ap (λ ys. y ∷ ys) (same_for_each y xs)

-- so each walker may have any of these licences
pub walkers_licensed : (grid : RunningGrid DeskTag) (ids : List ℕ) (table : TableId) (n : ℕ) → grid.tag.sample.value.table ≡ table
    → All (λ (w : Walking DeskTag). All (λ (t : Testified). t ≡ licences_at w.tag.sample.value.table 1) (replicate n (licences_at table 1))) (map (walker_of grid) ids)
walkers_licensed grid ids table n is =
    All-map (λ (w : Walking DeskTag). All (λ (t : Testified). t ≡ licences_at w.tag.sample.value.table 1) (replicate n (licences_at table 1))) (walker_of grid) ids
    (λ _ _ _. All-replicate (λ (t : Testified). t ≡ licences_at grid.tag.sample.value.table 1) n (licences_at table 1) (ap (λ k. licences_at k 1) (sym is)))

-- and so many are left over
pub left_over : {X : Type 0} (places comers : ℕ) (x : X) (xs left : List X) → xs ≡ replicate places x → left ≡ take (length xs - comers) xs → length left ≡ places - comers
left_over places comers x xs left are is =
    let long : length xs ≡ places = ap length are ∙ length-replicate places x in
    ap length is ∙ length-take-le (length xs - comers) xs (omega arith) ∙ ap (λ n. n - comers) long

-- a grid has at least a place for each comer
pub place_for_each : (n : ℕ) → 0 < n → n ≤ places_of n
place_for_each n some = le-div n (n * (n + 1)) 2 (omega arith) (mul-le n 2 n (n + 1) (omega arith) (omega arith))

pub coming_all : (grid : RunningGrid DeskTag) (ids : List ℕ) → map is_coming (map (walker_of grid) ids) ≡ map (newcomer_of (is_coming (walker_of grid 0)).queue) ids
coming_all grid [] = refl
coming_all grid (d ∷ ds) = ap (λ l. newcomer_of (is_coming (walker_of grid 0)).queue d ∷ l) (coming_all grid ds)

-- each newcomer that is dealt may join the queue
pub coming_here : (queue : QueueName) (ids : List ℕ) → All (λ (n : Coming). n.queue ≡ queue) (map (newcomer_of queue) ids)
coming_here queue ids = All-map (λ (n : Coming). n.queue ≡ queue) (newcomer_of queue) ids (λ _ _ _. refl)
