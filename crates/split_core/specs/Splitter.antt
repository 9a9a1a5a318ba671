-- The laws of one splitter, for each place of the grid: who visits it, and how many stop, turn
-- right and turn down (Moir and Anderson 1995).
use Rattle.std.specs.Prelude.{◌≡◌, ℕ, true, ◌==◌, if◌then◌else◌, ◌⊎◌, List, [], ◌∷◌}
use Rattle.split_core.specs.Places.{at}
use Rattle.split_core.specs.Comer.{has_started}
use Rattle.split_core.specs.Grid.{Grid, Event, Has, run}
use Rattle.split_core.specs.declared.model.Comer.{Comer}
use Rattle.split_core.specs.declared.model.Next.{Next}
use Rattle.split_core.specs.declared.model.Next.TheVariants.{WriteLast, ReadDoor, CloseDoor, ReadLast, Stopped}
use Rattle.split_core.specs.declared.model.Turn.{Turn}
use Rattle.split_core.specs.declared.model.Turn.TheVariants.{Right, Down}

-- the turns lead through this place and on from it
abbrev pub Left : ℕ → List Turn → Type 0
Left p [] = ⊥
Left p (turn ∷ turns) = (at turns ≡ p) ⊎ Left p turns

-- the same, by a turn of this kind
abbrev pub Turned : Turn → ℕ → List Turn → Type 0
Turned kind p [] = ⊥
Turned kind p (turn ∷ turns) = ((turn ≡ kind) × (at turns ≡ p)) ⊎ Turned kind p turns

-- a closed door stays closed, whatever happens
abbrev pub StaysClosed : Grid → List Event → Type 0
StaysClosed s more = (p : ℕ) → s.door p ≡ 1 → (run more s).door p ≡ 1

-- a comer that has stopped stays where it is, whatever happens
abbrev pub StaysStopped : Grid → List Event → Type 0
StaysStopped s more =
    (who : ℕ) (c : Comer) → Has s who c → c.next ≡ Stopped
    → (c' : Comer) × Has (run more s) who c' × (c'.next ≡ Stopped) × (c'.turns ≡ c.turns)

-- a visitor of a place: a started comer whose turns lead to it or through it
abbrev pub Visits : ℕ → Comer → Type 0
Visits p c = (has_started c ≡ true) × ((at c.turns ≡ p) ⊎ Left p c.turns)

-- at each place at most one comer is stopped
abbrev pub OneStops : Grid → Type 0
OneStops s = (a b : ℕ) (x y : Comer) → Has s a x → Has s b y → x.next ≡ Stopped → y.next ≡ Stopped
    → at x.turns ≡ at y.turns → a ≡ b

-- where a place has visitors, not all of them have turned this way there
abbrev pub NotAllTurned : Turn → Grid → Type 0
NotAllTurned turn s = (p a : ℕ) (x : Comer) → Has s a x → Visits p x
    → (b : ℕ) × (y : Comer) × Has s b y × Visits p y × ¬ Turned turn p y.turns

-- how many of its steps a comer has taken at the place where it stands
abbrev pub steps_here : Next → ℕ
steps_here WriteLast = 0
steps_here ReadDoor = 1
steps_here CloseDoor = 2
steps_here ReadLast = 3
steps_here Stopped = 4

-- how many it took at a place that it left: it turns right after two, and down after four
abbrev pub steps_to : Turn → ℕ
steps_to Right = 2
steps_to Down = 4

abbrev pub steps_left_at : ℕ → List Turn → ℕ
steps_left_at p [] = 0
steps_left_at p (turn ∷ turns) = if at turns == p then steps_to turn else steps_left_at p turns

-- how many steps a comer has taken at this place
abbrev pub steps_at : ℕ → Comer → ℕ
steps_at p c = if at c.turns == p then steps_here c.next else steps_left_at p c.turns

-- nobody visits the place but the comer at position a
abbrev pub VisitsAlone : Grid → ℕ → ℕ → Comer → Type 0
VisitsAlone s p a x = Has s a x × Visits p x × ((b : ℕ) (y : Comer) → Has s b y → Visits p y → b ≡ a)

-- the only visitor of a place does not leave it, and has stopped there once it has taken its four
-- steps
pub record LoneStops (s : Grid) : Type 0 where
  pub stays : (p a : ℕ) (x : Comer) → VisitsAlone s p a x → at x.turns ≡ p
  pub stops : (p a : ℕ) (x : Comer) → VisitsAlone s p a x → steps_at p x ≡ 4 → x.next ≡ Stopped

-- each door on a comer's way is closed: of the places that it has left, and of the one where it has
-- stopped
abbrev pub WaysClosed : Grid → Type 0
WaysClosed s = (a : ℕ) (x : Comer) → Has s a x → (p : ℕ) → Left p x.turns ⊎ ((at x.turns ≡ p) × (x.next ≡ Stopped)) → s.door p ≡ 1
