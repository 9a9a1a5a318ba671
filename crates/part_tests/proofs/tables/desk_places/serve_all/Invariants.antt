use Rattle.std.proofs.Common.{◌≡◌}
use Rattle.announce_board.specs.Tokens.{IsLeadOf}
use Rattle.part_tests.proofs.tables.desk_places.serve_all.Given as goal

abbrev pub invariant-loop-place : goal.invariant-loop-place
invariant-loop-place g l = record {
  table : l.pen.table ≡ l.desk.table;
  lead : IsLeadOf l.pen l.lead;
}
