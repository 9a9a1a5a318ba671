use Rattle.std.proofs.Common.{◌≡◌, IfSome}
use Rattle.announce_board.specs.Tokens.{IsLeadOf}
use Rattle.part_tests.proofs.tables.desk_schedules.plays.Given as goal

abbrev pub invariant-loop-step : goal.invariant-loop-step
invariant-loop-step g l = record {
  leader : l.leader.table ≡ l.desk.table;
  lead : IfSome l.lead (λ x. IsLeadOf l.leader x);
  asker : l.asker.table ≡ l.desk.table;
}
