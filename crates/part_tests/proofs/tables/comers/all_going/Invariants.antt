use Rattle.std.proofs.Common.{◌≡◌, length}
use Rattle.std.specs.List.{All}
use Rattle.part_tests.proofs.tables.comers.all_going.Given as goal

abbrev pub invariant-loop-newcomer : goal.invariant-loop-newcomer
invariant-loop-newcomer l = All (λ n. n.table ≡ l.grid.table) l.newcomers.items

abbrev pub decreases-loop-newcomer : goal.decreases-loop-newcomer
decreases-loop-newcomer l = length l.newcomers.items
