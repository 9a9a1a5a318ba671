-- For which walks so far the running state of `flatpq walk` stands, and what a line adds in each of
-- them.
use Rattle.std.specs.Prelude.{◌≡◌, ℕ, true, false, List, [], Option, Some, None, Err}
use Rattle.split_core.specs.Trails.{Act, trail_opening, does_all}
use Rattle.split_core.specs.Ids.{OpenGrid, IsFault}
use Rattle.split_core.specs.TrailMachine.{StandsAfter, ActsOn}
use Rattle.split_core.specs.declared.trail_machine.TrailMachine.{TrailMachine}
use Rattle.split_core.specs.declared.seen.Seen.{Seen}
use Rattle.split_core.specs.declared.seen.StepError.{StepError}
use Rattle.line_script.specs.declared.error.RunError.{RunError}
use Rattle.line_script.specs.declared.error.RunError.TheVariants.{Refused, TooLong, NoMemory, Input, Output}
use Rattle.queue_texts.specs.declared.faults.Refusal.{Refusal}
use Rattle.queue_texts.specs.declared.faults.Refusal.TheVariants.{Command, Order, Step, LateComer, Comers}
use Rattle.queue_texts.specs.declared.orders.ScanKind.{ScanKind}
use Rattle.queue_texts.specs.declared.orders.Move.{Move}
use Rattle.queue_texts.specs.declared.orders.Verb.{Verb}
use Rattle.queue_texts.specs.WalkText.{Schedule, move_act, PlaysOrder, RefusesOrder}

module _ {A : Type 0} where
  -- the machine isn't open yet, or stands after all that the walk did
  abbrev pub HasGrid : Option (TrailMachine A) → Schedule → Type 0
  HasGrid None p = (p.open_now ≡ false) × (p.acts ≡ [])
  HasGrid (Some m) p = (p.open_now ≡ true) × StandsAfter p.ids p.acts m × OpenGrid p.ids

  -- these ids and this machine are those of the walk
  abbrev pub IsWalk : List ℕ → Option (TrailMachine A) → Schedule → Type 0
  IsWalk ids machine p = (p.ids ≡ ids) × HasGrid machine p

  -- in each walk that the state stands for, the order is played and writes this text
  abbrev pub OrderPlays : ScanKind → Verb → ℕ → List ℕ → Option (TrailMachine A) → List ℕ → List ℕ
      → Option (TrailMachine A) → Type 0
  OrderPlays kind verb id ids machine text ids' machine' = (p : Schedule) → IsWalk ids machine p
      → (q : Schedule) × IsWalk ids' machine' q × PlaysOrder kind p verb id text q

  -- in each walk that the state stands for, the order is refused as line n
  abbrev pub OrderRefused : ScanKind → Verb → ℕ → List ℕ → Option (TrailMachine A) → ℕ → Refusal → Type 0
  OrderRefused kind verb id ids machine n refusal = (p : Schedule) → IsWalk ids machine p → RefusesOrder kind p n verb id refusal

  -- why the order isn't played
  abbrev pub OrderStops : ScanKind → Verb → ℕ → List ℕ → Option (TrailMachine A) → ℕ → RunError Refusal → Type 0
  OrderStops kind verb id ids machine n (Refused refusal) = OrderRefused kind verb id ids machine n refusal
  OrderStops kind verb id ids machine n NoMemory = Unit {0}
  OrderStops kind verb id ids machine n (TooLong line) = ⊥
  OrderStops kind verb id ids machine n Input = ⊥
  OrderStops kind verb id ids machine n Output = ⊥

  -- wherever the machine stands, it does what this move does, and tells it
  abbrev pub MoveMade : ScanKind → Move → ℕ → TrailMachine A → Seen → TrailMachine A → Type 0
  MoveMade kind what id before seen after = (ids : List ℕ) (acts : List Act) → StandsAfter ids acts before
      → ActsOn ids acts (move_act kind what (does_all acts (trail_opening ids)) id) seen after

  -- wherever the machine stands, the move is refused for this reason
  abbrev pub MoveRefused : ScanKind → Move → ℕ → TrailMachine A → StepError → Type 0
  MoveRefused kind what id before reason = (ids : List ℕ) (acts : List Act) → StandsAfter ids acts before
      → move_act kind what (does_all acts (trail_opening ids)) id ≡ Err reason

  -- each walk that the state stands for has comers that open its grid, and the machine is this grid
  abbrev pub OpensAs : List ℕ → Option (TrailMachine A) → TrailMachine A → Type 0
  OpensAs ids machine m = (p : Schedule) → IsWalk ids machine p → OpenGrid p.ids × StandsAfter p.ids p.acts m

-- why no grid opens: what is wrong with the comers, or want of memory
abbrev pub OpenStops : List ℕ → RunError Refusal → Type 0
OpenStops ids (Refused (Comers fault)) = IsFault ids fault
OpenStops ids (Refused (Command line reason)) = ⊥
OpenStops ids (Refused (Order line reason)) = ⊥
OpenStops ids (Refused (Step line reason)) = ⊥
OpenStops ids (Refused (LateComer line)) = ⊥
OpenStops ids NoMemory = Unit {0}
OpenStops ids (TooLong line) = ⊥
OpenStops ids Input = ⊥
OpenStops ids Output = ⊥
