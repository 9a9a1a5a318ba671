use Rattle.std.proofs.Common.{◌∷◌, sym, ap, ◌∙◌}
use Rattle.atomic_table.specs.Table.{rest}
use Rattle.announce_board.specs.Slots.{with_book}
use Rattle.announce_board.proofs.applying.take_back.Goals as goal

pub exchange-requires : goal.exchange-requires
exchange-requires g c =
    let s = c.requires.slot in
    (c.requires.here, (with_book s.0, s.1 ∙ ap (λ l. (0, with_book s.0) ∷ rest l) (sym s.1)))
