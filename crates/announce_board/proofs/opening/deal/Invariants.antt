use Rattle.std.proofs.Common.{◌≡◌, [], length}
use Rattle.desk_core.specs.declared.model.View.TheVariants.{Dealer}
use Rattle.announce_board.specs.Opening.{ArePens}
use Rattle.announce_board.proofs.opening.deal.Given as goal

abbrev pub invariant-loop-place : goal.invariant-loop-place
invariant-loop-place g l = record {
  here : l.dealer.table_id ≡ l.board.table_id;
  seat : l.dealer.me ≡ (Dealer l.place l.board.key.room, []);
  counted : length l.pens.items ≡ l.place;
  dealt : ArePens l.board.table_id l.board.key.room l.pens.items;
}
