-- How many steps a comer takes on its way.
use Rattle.std.specs.Prelude.{◌≡◌, ℕ, ◌+◌, ◌*◌, ◌≤◌, List, [], ◌∷◌}
use Rattle.split_core.specs.Places.{diagonal}
use Rattle.split_core.specs.Grid.{Grid, Has}
use Rattle.split_core.specs.Splitter.{steps_here, steps_to}
use Rattle.split_core.specs.declared.model.Comer.{Comer}
use Rattle.split_core.specs.declared.model.Next.TheVariants.{Stopped}
use Rattle.split_core.specs.declared.model.Turn.{Turn}

-- the steps that were taken at the places left behind
abbrev pub steps_behind : List Turn → ℕ
steps_behind [] = 0
steps_behind (turn ∷ turns) = steps_to turn + steps_behind turns

-- the steps of a comer on its way, its scans left out
abbrev pub way_steps : Comer → ℕ
way_steps c = steps_behind c.turns + steps_here c.next

-- A comer that has begun no scan has taken the steps of its way and no others, at most four at each
-- place; so 4(d + 1) where it has stopped on diagonal d.
pub record WaySteps (s : Grid) : Type 0 where
  pub counted : (a : ℕ) (x : Comer) → Has s a x → x.scan.doors ≡ 0 → x.steps ≡ way_steps x
  pub bounded : (x : Comer) → way_steps x ≤ 4 * diagonal x.turns + steps_here x.next
  pub stopped : (a : ℕ) (x : Comer) → Has s a x → x.next ≡ Stopped → way_steps x ≤ 4 * (diagonal x.turns + 1)
