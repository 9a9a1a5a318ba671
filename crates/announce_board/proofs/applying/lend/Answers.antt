use Rattle.std.proofs.Common.{sym, ◌∙◌, ◌∷◌, ap}
use Rattle.atomic_table.specs.Table.{rest}
use Rattle.announce_board.specs.Slots.{out}
use Rattle.announce_board.proofs.applying.lend.Goals as goal

pub exchange-requires : goal.exchange-requires
exchange-requires g c = (c.requires.here, (out, c.requires.slot ∙ ap (λ l. (0, out) ∷ rest l) (sym c.requires.slot)))
