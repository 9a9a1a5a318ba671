use Rattle.std.proofs.Common.{◌≡◌, ◌+◌, List, length, ap, subst, sym, ◌∙◌, arith}
use Rattle.pq_types.specs.Asked.{Line}
use Rattle.pq_types.specs.History.{left, journal_after, Limits, MayAnswer}
use Rattle.pq_book.specs.Book.{AllHaveRoom}
use Rattle.pq_types.specs.declared.request.Request.TheVariants.{Push}
use Rattle.pq_types.specs.declared.answer.Answer.TheVariants.{BookFull, NoMemory, Refused}
use Rattle.desk_core.specs.Pen.{limits_in_hand}
use Rattle.desk_core.specs.declared.model.PenState.{PenState}
use Rattle.announce_board.specs.Asking.{IsFullFor}
use Rattle.announce_board.specs.Batches.{IsPushAt}
use Rattle.announce_board.specs.Steps.{pen_at}
use Rattle.announce_board.proofs.Batched.{pushed_on, next_push, refused_on, answers_pushed, behind_more, counted_pushes, full_before, refused_by}
use Rattle.announce_board.proofs.ToldLemmas.{applied_full}
use Rattle.announce_board.proofs.batching.push_each.Goals as goal

pub loop-done-preserved : goal.loop-done-preserved
loop-done-preserved g c =
    let i = c.loop-done.invariant in
    let e = c.apply_in_slot-answer.ensures in
    let p = pen_at c.args.seat.now.me in
    let q = pen_at c.loop-done.seat.me in
    let x = c.index-items-done.result in
    let a = c.apply_in_slot-answer.result in
    let may : MayAnswer (limits_in_hand p) q.hand (Push x) a = subst (λ l. MayAnswer l q.hand (Push x) a) i.limits e.may in
    record {
      table = e.table ∙ i.table;
      lent = e.lent;
      limits = ap limits_in_hand e.after.1 ∙ i.limits;
      counted = omega (arith, i.counted);
      applies = pushed_on (limits_in_hand p) p q (pen_at c.apply_in_slot-answer.new.seat.me) c.args.items.now c.loop-done.done x a c.in-Entered.field-0 c.in-Entered.field-1 e.after.0
          (omega (arith, c.requires.end, c.loop-done-test.true)) c.index-items-done.is i.applies may e.after.1 c.in-Entered.is;
      answers = answers_pushed (limits_in_hand p) p q c.args.items.now c.loop-done.done x a c.in-Entered.field-0 c.in-Entered.field-1 (omega (arith, c.requires.end, c.loop-done-test.true)) c.index-items-done.is i.applies may
          (ap (λ (l : Limits). l.room) i.limits) i.answers e.answers c.in-Entered.is;
      behind = behind_more (limits_in_hand p) p q _ (Push x) a c.in-Entered.field-0 c.in-Entered.field-1 c.loop-done.done i.applies
          (counted_pushes c.args.items.now c.loop-done.done (omega (arith, c.requires.end, c.loop-done-test.true))) may i.behind e.behind c.in-Entered.is;
      barred = λ f. absurd (e.barred (full_before (limits_in_hand p) p q _ i.applies ∙ f) c.in-Entered.field-0 c.in-Entered.field-1 c.in-Entered.is);
      few = omega (arith, c.loop-done-test.true);
    }

pub returns-in-BookFull-clause-applies : goal.returns-in-BookFull-clause-applies
returns-in-BookFull-clause-applies g c =
    let i = c.loop-done.invariant in
    let e = c.apply_in_slot-answer.ensures in
    let p = pen_at c.args.seat.now.me in
    let q = pen_at c.loop-done.seat.me in
    let x = c.index-items-done.result in
    let a = c.apply_in_slot-answer.result in
    let may : MayAnswer (limits_in_hand p) q.hand (Push x) a = subst (λ l. MayAnswer l q.hand (Push x) a) i.limits e.may in
    refused_on (limits_in_hand p) (IsPushAt c.args.items.now c.loop-done.done) p q (pen_at c.apply_in_slot-answer.new.seat.me) _ (Push x) a BookFull e.after.0
    (next_push c.args.items.now c.loop-done.done x (omega (arith, c.requires.end, c.loop-done-test.true)) c.index-items-done.is) i.applies may e.after.1 c.in-BookFull.is

pub returns-in-NoMemory-clause-applies : goal.returns-in-NoMemory-clause-applies
returns-in-NoMemory-clause-applies g c =
    let i = c.loop-done.invariant in
    let e = c.apply_in_slot-answer.ensures in
    let p = pen_at c.args.seat.now.me in
    let q = pen_at c.loop-done.seat.me in
    let x = c.index-items-done.result in
    let a = c.apply_in_slot-answer.result in
    let may : MayAnswer (limits_in_hand p) q.hand (Push x) a = subst (λ l. MayAnswer l q.hand (Push x) a) i.limits e.may in
    refused_on (limits_in_hand p) (IsPushAt c.args.items.now c.loop-done.done) p q (pen_at c.apply_in_slot-answer.new.seat.me) _ (Push x) a NoMemory e.after.0
    (next_push c.args.items.now c.loop-done.done x (omega (arith, c.requires.end, c.loop-done-test.true)) c.index-items-done.is) i.applies may e.after.1 c.in-NoMemory.is

pub returns-in-Refused-clause-applies : goal.returns-in-Refused-clause-applies
returns-in-Refused-clause-applies g c =
    let i = c.loop-done.invariant in
    let e = c.apply_in_slot-answer.ensures in
    let p = pen_at c.args.seat.now.me in
    let q = pen_at c.loop-done.seat.me in
    let x = c.index-items-done.result in
    let a = c.apply_in_slot-answer.result in
    let may : MayAnswer (limits_in_hand p) q.hand (Push x) a = subst (λ l. MayAnswer l q.hand (Push x) a) i.limits e.may in
    refused_on (limits_in_hand p) (IsPushAt c.args.items.now c.loop-done.done) p q (pen_at c.apply_in_slot-answer.new.seat.me) _ (Push x) a (Refused c.in-Refused.why) e.after.0
    (next_push c.args.items.now c.loop-done.done x (omega (arith, c.requires.end, c.loop-done-test.true)) c.index-items-done.is) i.applies may e.after.1 c.in-Refused.is

pub returns-in-NoMemory-clause-spare : goal.returns-in-NoMemory-clause-spare
returns-in-NoMemory-clause-spare g c =
    let e = c.apply_in_slot-answer.ensures in
    let q = pen_at c.loop-done.seat.me in
    let same : (pen_at c.apply_in_slot-answer.new.seat.me).hand ≡ q.hand =
    ap (λ (z : PenState). z.hand) e.after.1 ∙ ap (λ y. journal_after q.hand q.place (q.posts + 1) (Push c.index-items-done.result) y) c.in-NoMemory.is in
    λ all is. e.spare (subst (λ (l : List Line). AllHaveRoom g.S.Store.room (length (left l) + 1)) same all) c.in-NoMemory.is

pub returns-in-BookFull-clause-full : goal.returns-in-BookFull-clause-full
returns-in-BookFull-clause-full g c =
    let e = c.apply_in_slot-answer.ensures in
    λ is. subst IsFullFor (sym e.after.1) (applied_full (pen_at c.loop-done.seat.me) (Push c.index-items-done.result) c.apply_in_slot-answer.result e.after.0 c.in-BookFull.is)

pub returns-in-BookFull-clause-refusal : goal.returns-in-BookFull-clause-refusal
returns-in-BookFull-clause-refusal g c =
    let x = c.index-items-done.result in
    refused_by _ _ _ (Push x) c.apply_in_slot-answer.result BookFull (next_push c.args.items.now c.loop-done.done x (omega (arith, c.requires.end, c.loop-done-test.true)) c.index-items-done.is)
    (ap (λ (l : Limits). l.room) c.loop-done.invariant.limits) c.apply_in_slot-answer.ensures.answers c.in-BookFull.is

pub returns-in-NoMemory-clause-refusal : goal.returns-in-NoMemory-clause-refusal
returns-in-NoMemory-clause-refusal g c =
    let x = c.index-items-done.result in
    refused_by _ _ _ (Push x) c.apply_in_slot-answer.result NoMemory (next_push c.args.items.now c.loop-done.done x (omega (arith, c.requires.end, c.loop-done-test.true)) c.index-items-done.is)
    (ap (λ (l : Limits). l.room) c.loop-done.invariant.limits) c.apply_in_slot-answer.ensures.answers c.in-NoMemory.is

pub returns-in-Refused-clause-refusal : goal.returns-in-Refused-clause-refusal
returns-in-Refused-clause-refusal g c =
    let x = c.index-items-done.result in
    refused_by _ _ _ (Push x) c.apply_in_slot-answer.result (Refused c.in-Refused.why) (next_push c.args.items.now c.loop-done.done x (omega (arith, c.requires.end, c.loop-done-test.true)) c.index-items-done.is)
    (ap (λ (l : Limits). l.room) c.loop-done.invariant.limits) c.apply_in_slot-answer.ensures.answers c.in-Refused.is
