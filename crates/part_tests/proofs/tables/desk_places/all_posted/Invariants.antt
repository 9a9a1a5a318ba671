use Rattle.std.proofs.Common.{◌≡◌}
use Rattle.std.specs.List.{All}
use Rattle.announce_board.specs.Tokens.{AtDesk}
use Rattle.part_tests.proofs.tables.desk_places.all_posted.Given as goal

abbrev pub invariant-loop-pen : goal.invariant-loop-pen
invariant-loop-pen g l = record {
  made : All (λ (p : AtDesk). p.table ≡ l.desk.table) l.made.items;
  rest : All (λ (p : AtDesk). p.table ≡ l.desk.table) l.pen-iterator.rest.items;
}
