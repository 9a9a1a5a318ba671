use Rattle.std.proofs.Common.{rules, ap, sym, subst, ◌∙◌, ◌≡◌, ◌+◌, Some, length}
use Rattle.std.specs.Prelude.{take}
use Rattle.pq_types.specs.History.{left}
use Rattle.pq_types.specs.declared.answer.Answer.TheVariants.{NoMemory}
use Rattle.pq_book.specs.Book.{AllHaveRoom}
use Rattle.desk_core.specs.Knows.{NoneAbove}
use Rattle.desk_core.specs.Pen.{limits_in_hand}
use Rattle.announce_board.specs.Rule.{Seated}
use Rattle.announce_board.specs.Steps.{pen_at}
use Rattle.announce_board.specs.Batches.{AreAboveAll, IsPushAt, pushes_of}
use Rattle.announce_board.specs.Tokens.{AtDesk}
use Rattle.announce_board.specs.Waking.{IsMaskOf}
use Rattle.announce_board.proofs.Lent.{is_lent}
use Rattle.announce_board.proofs.Waking.{until_owed}
use Rattle.announce_board.proofs.desk.Desk.apply_pushes.Goals as goal

pub push_each-done-requires-clause-lent : goal.push_each-done-requires-clause-lent
push_each-done-requires-clause-lent g c =
    let m = c.pen.inside.seat.me in
    is_lent _ c.pen.inside.place c.pen.inside.posts m c.lend.new.seat.me c.lead.inside.book c.pen.invariant.at.is (search rules) (search rules) (search rules) c.pen.invariant.at.here c.pen.invariant.counted
    (subst (λ (q : AtDesk). NoneAbove q.state.place q.state.posts q.state.hand) (sym c.pen.view_is) c.requires.lead.used) (search rules) c.lend.ensures.after

pub returns-clause-memory : goal.returns-clause-memory
returns-clause-memory g c =
    let here = subst (λ (m : Seated). AllHaveRoom g.S.Store.room (pen_at m).room → c.push_each-done.result.2 ≡ Some NoMemory → ⊥) c.lend.ensures.after c.push_each-done.ensures.memory in
    subst (λ (q : AtDesk). AllHaveRoom g.S.Store.room q.state.room → c.push_each-done.result.2 ≡ Some NoMemory → ⊥) c.pen.view_is here

pub returns-clause-behind : goal.returns-clause-behind
returns-clause-behind g c =
    let here = subst (λ (m : Seated). AreAboveAll (length (pen_at m).hand) c.push_each-done.result.0 (pen_at m).mine) c.lend.ensures.after c.push_each-done.ensures.behind in
    subst (λ (q : AtDesk). AreAboveAll (length q.state.hand) c.push_each-done.result.0 q.state.mine) c.pen.view_is here

pub returns-clause-spare : goal.returns-clause-spare
returns-clause-spare g c =
    subst (λ (m : Seated). AllHaveRoom g.S.Store.room (length (left (pen_at m).hand) + 1) → c.push_each-done.result.2 ≡ Some NoMemory → ⊥) (sym c.take_back-book.ensures.after) c.push_each-done.ensures.spare

pub invariant_of-pen : goal.invariant_of-pen
invariant_of-pen g c =
    let lent = pen_at c.lend.new.seat.me in
    record {
      at = search rules;
      slots = search rules;
      counted = search rules;
      waits_not = search rules;
      owes = subst (IsMaskOf c.pen.inside.wakes)
          (sym
          (ap (λ (m : Seated). (pen_at m).owed) c.take_back-book.ensures.after
          ∙ (until_owed (limits_in_hand lent) (IsPushAt c.args.items.now c.push_each-done.result.0) lent (pen_at c.push_each-done.new.seat.me) (pushes_of (take c.push_each-done.result.0 c.args.items.now))
          c.push_each-done.result.2 c.push_each-done.ensures.applies
          ∙ ap (λ (m : Seated). (pen_at m).owed) c.lend.ensures.after)))
          c.pen.invariant.owes;
    }
