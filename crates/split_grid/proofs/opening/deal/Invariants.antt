use Rattle.std.proofs.Common.{◌≡◌, [], map, length, take, drop}
use Rattle.split_grid.specs.Rule.{dealer}
use Rattle.split_grid.specs.Opening.{newcomer_in}
use Rattle.split_grid.proofs.opening.deal.Given as goal

abbrev pub invariant-loop-id : goal.invariant-loop-id
invariant-loop-id g l = record {
  here : l.dealer.table_id ≡ l.board.table_id;
  seat : l.dealer.me ≡ (dealer l.board.key.tag (length l.ids) (drop l.id-index l.ids), []);
  dealt : l.newcomers.items ≡ map (newcomer_in l.board.table_id l.board.key.tag (length l.ids)) (take l.id-index l.ids);
}
