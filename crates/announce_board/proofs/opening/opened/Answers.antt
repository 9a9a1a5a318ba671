use Rattle.std.proofs.Common.{refl, ap}
use Rattle.std.proofs.lemmas.Option.{slice_get-get_or}
use Rattle.announce_board.specs.Tokens.{AtDesk}
use Rattle.announce_board.proofs.opening.opened.Goals as goal

pub returns-clause-ok : goal.returns-clause-ok
returns-clause-ok g c =
    record {
      places_are = refl;
      room_is = refl;
      counted = c.in_ok-table.ensures.counted;
      dealt = c.in_ok-table.ensures.dealt;
      here = λ i p inside. ap (λ (x : AtDesk). x.table) (c.in_ok-table.ensures.dealt i _ (slice_get-get_or c.in_ok-table.pens.items i p inside));
    }
