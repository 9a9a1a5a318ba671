-- The text of `flatpq walk`: what the input's steps and scans do on the grid, in their order. Its
-- scans are all of one kind.
use Rattle.std.specs.Prelude.{◌≡◌, ℕ, ◌<◌, ◌≤◌, ◌⊎◌, Bool, true, false, List, []}
use Rattle.std.specs.Prelude.{◌∷◌, ◌++◌, length, Option, Some, Result, Ok, Err}
use Rattle.split_core.specs.Trails.{Trailed, Act, trail_opening, does_all}
use Rattle.split_core.specs.TrailCalls.{act_seen, step_act, scan_act, trail_act}
use Rattle.split_core.specs.Ids.{OpenGrid, IsFault}
use Rattle.split_core.specs.declared.ids.IdError.{IdError}
use Rattle.split_core.specs.declared.ids.IdError.TheVariants.{TooManyComers}
use Rattle.split_core.specs.declared.seen.Seen.{Seen}
use Rattle.split_core.specs.declared.seen.StepError.{StepError}
use Rattle.line_script.specs.declared.lines.TheConstants.{LONGEST_LINE}
use Rattle.line_script.specs.declared.error.RunError.{RunError}
use Rattle.line_script.specs.Script.{Kind, Writes}
use Rattle.queue_texts.specs.declared.faults.Refusal.{Refusal}
use Rattle.queue_texts.specs.declared.faults.Refusal.TheVariants.{Order as NoOrder, Step as NoMove, LateComer, Comers}
use Rattle.split_core.specs.declared.places.TheConstants.{MAX_COMERS}
use Rattle.queue_texts.specs.declared.orders.Order.{Order}
use Rattle.queue_texts.specs.declared.orders.ScanKind.{ScanKind}
use Rattle.queue_texts.specs.declared.orders.ScanKind.TheVariants.{Diagonals, Trails}
use Rattle.queue_texts.specs.declared.orders.Move.{Move}
use Rattle.queue_texts.specs.declared.orders.Move.TheVariants.{Step, Scan}
use Rattle.queue_texts.specs.declared.orders.Verb.{Verb}
use Rattle.queue_texts.specs.declared.orders.Verb.TheVariants.{Comer, Make}
use Rattle.queue_texts.specs.declared.orders.OrderError.{OrderError}
use Rattle.queue_texts.specs.Orders.{SpellsOrder, IsNoOrderFor}
use Rattle.queue_texts.specs.EventText.{event_text}

-- A walk so far: the comers that were named, what they did, and whether the grid is open, which it is
-- from the first step or scan on.
pub record Schedule : Type 0 where
  pub ids : List ℕ
  pub acts : List Act
  pub open_now : Bool

-- no comer is named
abbrev pub blank : Schedule
blank = record { ids = []; acts = []; open_now = false }

-- the grid and its trail scans after all that
abbrev pub stand_of : Schedule → Trailed
stand_of p = does_all p.acts (trail_opening p.ids)

-- what this move of the comer with this id does, or why it does nothing; a scan is of this kind
abbrev pub move_act : ScanKind → Move → Trailed → ℕ → Result Act StepError
move_act kind Step = step_act
move_act Diagonals Scan = scan_act
move_act Trails Scan = trail_act

-- the comer did what the call does, and its line is written
abbrev pub PlaysCall : Schedule → Result Act StepError → ℕ → List ℕ → Schedule → Type 0
PlaysCall p call id text q = (act : Act) × (seen : Seen) × (call ≡ Ok act) × (act_seen (stand_of p) act ≡ Some seen)
    × (text ≡ event_text id seen) × (q ≡ record { ids = p.ids; acts = p.acts ++ act ∷ []; open_now = true })

-- a comer is named before the grid opens, and writes nothing; a move is made in a grid that these
-- comers open
abbrev pub PlaysOrder : ScanKind → Schedule → Verb → ℕ → List ℕ → Schedule → Type 0
PlaysOrder kind p Comer id text q = (p.open_now ≡ false) × (length p.ids < MAX_COMERS) × (text ≡ [])
    × (q ≡ record { ids = p.ids ++ id ∷ []; acts = p.acts; open_now = false })
PlaysOrder kind p (Make move) id text q = OpenGrid p.ids × PlaysCall p (move_act kind move (stand_of p) id) id text q

-- the comers open no grid for this reason
abbrev pub NoGrid : List ℕ → Refusal → Type 0
NoGrid ids refusal = (fault : IdError) × IsFault ids fault × (refusal ≡ Comers fault)

-- the call is refused as line n
abbrev pub RefusesCall : ℕ → Result Act StepError → Refusal → Type 0
RefusesCall n call refusal = (why : StepError) × (call ≡ Err why) × (refusal ≡ NoMove n why)

-- A comer that comes after a move is late, and one behind the most that a grid has is one too many;
-- a move is refused where the comers open no grid, or by the grid.
abbrev pub RefusesOrder : ScanKind → Schedule → ℕ → Verb → ℕ → Refusal → Type 0
RefusesOrder kind p n Comer id refusal = ((p.open_now ≡ true) × (refusal ≡ LateComer n))
    ⊎ ((p.open_now ≡ false) × (MAX_COMERS ≤ length p.ids) × (refusal ≡ Comers TooManyComers))
RefusesOrder kind p n (Make move) id refusal =
    NoGrid p.ids refusal ⊎ (OpenGrid p.ids × RefusesCall n (move_act kind move (stand_of p) id) refusal)

-- a line that spells an order plays it
abbrev pub PlaysWalk : ScanKind → Schedule → List ℕ → List ℕ → Schedule → Type 0
PlaysWalk kind p line text q = (order : Order) × SpellsOrder line order × PlaysOrder kind p order.verb order.id text q

-- a line is refused because it spells no order, or with its order
abbrev pub RefusesWalk : ScanKind → Schedule → ℕ → List ℕ → Refusal → Type 0
RefusesWalk kind p n line refusal = ((reason : OrderError) × IsNoOrderFor line reason × (refusal ≡ NoOrder n reason))
    ⊎ ((order : Order) × SpellsOrder line order × RefusesOrder kind p n order.verb order.id refusal)

-- at the end of input the grid opens, where it isn't open yet
abbrev pub EndsWalk : Schedule → Result (Unit {0}) Refusal → Type 0
EndsWalk p (Ok done) = OpenGrid p.ids
EndsWalk p (Err refusal) = NoGrid p.ids refusal

-- the lines of a walk with scans of this kind
abbrev pub orders : ScanKind → Kind Schedule Refusal
orders kind = record { longest = LONGEST_LINE; plays = PlaysWalk kind; refuses = RefusesWalk kind; ends = EndsWalk }

-- what `walk` with scans of this kind writes over this input
abbrev pub WalkWrites : ScanKind → List ℕ → Option (List ℕ) → Result (Unit {0}) (RunError Refusal) → List ℕ → Type 0
WalkWrites kind input unread result text = Writes (orders kind) blank input unread result text
