use Rattle.std.proofs.Common.{rules, sym, subst}
use Rattle.announce_board.specs.Opening.{ArePens}
use Rattle.announce_board.proofs.Dealing.{pens_more}
use Rattle.announce_board.proofs.opening.deal.Goals as goal

pub loop-place-preserved : goal.loop-place-preserved
loop-place-preserved g c =
    let before = c.loop-place.invariant in
    let pens = c.loop-place.pens.items in
    record {
      here = search rules;
      seat = search rules;
      counted = search rules;
      dealt = subst (ArePens c.args.board.now.table_id c.args.board.now.key.room) (sym c.in_ok-push.ensures.items)
          (pens_more _ _ c.loop-place.place pens c.next_pen.result before.dealt before.counted c.next_pen.ensures.pen);
    }
