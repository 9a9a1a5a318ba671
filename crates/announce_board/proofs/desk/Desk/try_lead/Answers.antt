use Rattle.std.proofs.Common.{rules, sym, subst}
use Rattle.desk_core.specs.Knows.{NoneAbove}
use Rattle.announce_board.specs.Rule.{Seated}
use Rattle.announce_board.specs.Steps.{pen_at}
use Rattle.announce_board.proofs.desk.Desk.try_lead.Goals as goal

pub returns-clause-lead : goal.returns-clause-lead
returns-clause-lead g c =
    let w = c.in_ok-book.ensures.wins in
    record {
      table = search rules;
      place = search rules;
      leads = search rules;
      book = search rules;
      used = subst (λ (m : Seated). NoneAbove (pen_at m).place (pen_at m).posts (pen_at m).hand) (sym w.next) w.knows.used;
    }
