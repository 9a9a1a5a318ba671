use Rattle.std.proofs.Common.{◌≡◌, ◌<◌, ◌≤◌, length, sym, ap, subst, refl, ◌∙◌, arith, take, true}
use Rattle.std.proofs.lemmas.List.{length-set, take_more_set}
use Rattle.std.proofs.lemmas.List.Elements.{All-push}
use Rattle.std.specs.List.{All}
use Rattle.leftist_heap.specs.Store.{first_of}
use Rattle.pq_types.specs.Item.{Item}
use Rattle.pq_types.specs.History.{left, Limits, MayAnswer}
use Rattle.pq_types.specs.declared.request.Request.TheVariants.{Pop}
use Rattle.pq_types.specs.declared.answer.Answer.TheVariants.{Entered, BookFull, Refused}
use Rattle.pq_types.specs.declared.answer.Reply.TheVariants.{Got}
use Rattle.desk_core.specs.Pen.{limits_in_hand}
use Rattle.desk_core.specs.declared.model.PenState.{PenState}
use Rattle.announce_board.specs.Asking.{IsFullFor}
use Rattle.announce_board.specs.Batches.{AppliesEach, pops_of, is_first_due}
use Rattle.announce_board.specs.Rule.{Seated}
use Rattle.announce_board.specs.Steps.{pen_at}
use Rattle.announce_board.proofs.Batched.{popped_on, popped_due, answers_popped, behind_more, counted_pops, full_before, refused_by}
use Rattle.announce_board.proofs.ToldLemmas.{applied_full}
use Rattle.announce_board.proofs.batching.pop_each.Goals as goal

pub loop-done-preserved : goal.loop-done-preserved
loop-done-preserved g c =
    let i = c.loop-done.invariant in
    let e = c.apply_in_slot-answer.ensures in
    let s = c.is_due_in_slot.ensures in
    let p = pen_at c.args.seat.now.me in
    let q = pen_at c.is_due_in_slot.new.seat.me in
    let limits = limits_in_hand p in
    let a = c.apply_in_slot-answer.result in
    let x = c.in-Got.item in
    let same : q ≡ pen_at c.loop-done.seat.me = ap pen_at s.same in
    let bound = g.P.Part.number c.args.priority in
    let is : a ≡ Entered c.in-Entered.field-0 (Got x) = c.in-Entered.is ∙ ap (Entered c.in-Entered.field-0) c.in-Got.is in
    let asked : MayAnswer limits q.hand Pop a = subst (λ l. MayAnswer l q.hand Pop a) (ap limits_in_hand same ∙ i.limits) e.may in
    let may : MayAnswer limits q.hand Pop (Entered c.in-Entered.field-0 (Got x)) = subst (MayAnswer limits q.hand Pop) is asked in
    let due : is_first_due bound (first_of (left q.hand)) ≡ true = ap (λ (z : PenState). is_first_due bound (first_of (left z.hand))) same ∙ sym c.if-not-is_due_in_slot.ensures.due in
    let low : x.priority ≤ bound = popped_due bound (first_of (left q.hand)) (left q.hand) x refl due may.2 in
    let room : c.loop-done.done < length c.loop-done.into = omega (arith, i.slots, c.requires.end, c.loop-done-test.true) in
    record {
      table = e.table ∙ (s.table ∙ i.table);
      slots = length-set c.loop-done.into c.loop-done.done x ∙ i.slots;
      lent = e.lent;
      limits = ap limits_in_hand e.after.1 ∙ (ap limits_in_hand same ∙ i.limits);
      counted = omega (arith, i.counted);
      applies = popped_on limits p q (pen_at c.apply_in_slot-answer.new.seat.me) c.loop-done.into c.loop-done.done x a c.in-Entered.field-0 e.after.0 room
          (subst (AppliesEach limits p (pops_of (take c.loop-done.done c.loop-done.into))) (sym same) i.applies) asked e.after.1 is;
      answers = answers_popped limits p q c.loop-done.into c.loop-done.done x a c.in-Entered.field-0 room (subst (AppliesEach limits p (pops_of (take c.loop-done.done c.loop-done.into))) (sym same) i.applies) asked
          (ap (λ (z : PenState). z.room) same ∙ ap (λ (l : Limits). l.room) i.limits) i.answers e.answers is;
      behind = behind_more limits p q _ Pop a c.in-Entered.field-0 (Got x) c.loop-done.done (subst (AppliesEach limits p (pops_of (take c.loop-done.done c.loop-done.into))) (sym same) i.applies)
          (counted_pops c.loop-done.into c.loop-done.done room) asked i.behind e.behind is;
      barred = λ f. absurd (e.barred (ap (λ (z : PenState). z.told_full) same ∙ (full_before limits p (pen_at c.loop-done.seat.me) _ i.applies ∙ f)) c.in-Entered.field-0 (Got x) is);
      due = subst (All (λ (y : Item). y.priority ≤ bound)) (sym (take_more_set c.loop-done.into c.loop-done.done x room))
          (All-push (λ (y : Item). y.priority ≤ bound) (take c.loop-done.done c.loop-done.into) x i.due low);
      few = omega (arith, c.loop-done-test.true);
    }

pub returns-in-BookFull-clause-full : goal.returns-in-BookFull-clause-full
returns-in-BookFull-clause-full g c =
    let e = c.apply_in_slot-answer.ensures in
    λ is. subst IsFullFor (sym e.after.1) (applied_full (pen_at c.is_due_in_slot.new.seat.me) Pop c.apply_in_slot-answer.result e.after.0 c.in-BookFull.is)

pub returns-in-BookFull-clause-refusal : goal.returns-in-BookFull-clause-refusal
returns-in-BookFull-clause-refusal g c =
    refused_by _ _ _ Pop c.apply_in_slot-answer.result BookFull refl
    (ap (λ (m : Seated). (pen_at m).room) c.is_due_in_slot.ensures.same ∙ ap (λ (l : Limits). l.room) c.loop-done.invariant.limits) c.apply_in_slot-answer.ensures.answers c.in-BookFull.is

pub returns-in-Refused-clause-refusal : goal.returns-in-Refused-clause-refusal
returns-in-Refused-clause-refusal g c =
    refused_by _ _ _ Pop c.apply_in_slot-answer.result (Refused c.in-Refused.why) refl
    (ap (λ (m : Seated). (pen_at m).room) c.is_due_in_slot.ensures.same ∙ ap (λ (l : Limits). l.room) c.loop-done.invariant.limits) c.apply_in_slot-answer.ensures.answers c.in-Refused.is
