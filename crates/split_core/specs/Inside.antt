-- Where comers stand and scans read: always within the grid of their number.
use Rattle.std.specs.Prelude.{◌≡◌, ℕ, ◌<◌, false, length}
use Rattle.split_core.specs.Places.{place, at, diagonal}
use Rattle.split_core.specs.Grid.{Grid, Has}
use Rattle.split_core.specs.declared.model.Comer.{Comer}

-- A grid of n comers has the diagonals below n, so place 0 n places. Each comer stands there,
-- started or not, and each scan that is not over reads its next door there; a scan has read the
-- doors of all places before that one.
pub record Inside (n : ℕ) (s : Grid) : Type 0 where
  pub comers : length s.comers ≡ n
  pub diagonals : (a : ℕ) (x : Comer) → Has s a x → diagonal x.turns < n
  pub places : (a : ℕ) (x : Comer) → Has s a x → at x.turns < place 0 n
  pub doors : (a : ℕ) (x : Comer) → Has s a x → x.scan.over ≡ false → place x.scan.row x.scan.column < place 0 n
  pub counted : (a : ℕ) (x : Comer) → Has s a x → x.scan.doors ≡ place x.scan.row x.scan.column
