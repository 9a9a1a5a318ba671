use Rattle.std.proofs.Common.{ap, ◌∙◌}
use Rattle.announce_board.specs.Steps.{pen_at}
use Rattle.announce_board.specs.Tokens.{AtDesk}
use Rattle.announce_board.specs.Waking.{owes_any}
use Rattle.announce_board.proofs.Waking.{owes_is}
use Rattle.announce_board.proofs.tokens.Pen.owes_wakes.Goals as goal

pub returns : goal.returns
returns g c =
    owes_is c.self.inside.wakes (pen_at c.self.inside.seat.me).owed c.self.invariant.owes ∙ ap (λ (p : AtDesk). owes_any p.state.owed) c.self.view_is
