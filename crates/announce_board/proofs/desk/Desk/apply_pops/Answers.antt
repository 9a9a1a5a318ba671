use Rattle.std.proofs.Common.{rules, ap, sym, subst, ◌∙◌, length}
use Rattle.std.specs.Prelude.{take}
use Rattle.desk_core.specs.Knows.{NoneAbove}
use Rattle.desk_core.specs.Pen.{limits_in_hand}
use Rattle.announce_board.specs.Rule.{Seated}
use Rattle.announce_board.specs.Steps.{pen_at}
use Rattle.announce_board.specs.Batches.{AreAboveAll, IsPop, pops_of}
use Rattle.announce_board.specs.Tokens.{AtDesk}
use Rattle.announce_board.specs.Waking.{IsMaskOf}
use Rattle.announce_board.proofs.Lent.{is_lent}
use Rattle.announce_board.proofs.Waking.{until_owed}
use Rattle.announce_board.proofs.desk.Desk.apply_pops.Goals as goal

pub pop_each-done-requires-clause-lent : goal.pop_each-done-requires-clause-lent
pop_each-done-requires-clause-lent g c =
    let m = c.pen.inside.seat.me in
    is_lent _ c.pen.inside.place c.pen.inside.posts m c.lend.new.seat.me c.lead.inside.book c.pen.invariant.at.is (search rules) (search rules) (search rules) c.pen.invariant.at.here c.pen.invariant.counted
    (subst (λ (q : AtDesk). NoneAbove q.state.place q.state.posts q.state.hand) (sym c.pen.view_is) c.requires.lead.used) (search rules) c.lend.ensures.after

pub returns-clause-behind : goal.returns-clause-behind
returns-clause-behind g c =
    let here = subst (λ (m : Seated). AreAboveAll (length (pen_at m).hand) c.pop_each-done.result.0 (pen_at m).mine) c.lend.ensures.after c.pop_each-done.ensures.behind in
    subst (λ (q : AtDesk). AreAboveAll (length q.state.hand) c.pop_each-done.result.0 q.state.mine) c.pen.view_is here

pub invariant_of-pen : goal.invariant_of-pen
invariant_of-pen g c =
    let lent = pen_at c.lend.new.seat.me in
    record {
      at = search rules;
      slots = search rules;
      counted = search rules;
      waits_not = search rules;
      owes = subst (IsMaskOf c.pen.inside.wakes)
          (sym
          (ap (λ (m : Seated). (pen_at m).owed) c.take_back-book.ensures.after
          ∙ (until_owed (limits_in_hand lent) IsPop lent (pen_at c.pop_each-done.new.seat.me) (pops_of (take c.pop_each-done.result.0 c.pop_each-done.new.into)) c.pop_each-done.result.2
          c.pop_each-done.ensures.applies
          ∙ ap (λ (m : Seated). (pen_at m).owed) c.lend.ensures.after)))
          c.pen.invariant.owes;
    }
