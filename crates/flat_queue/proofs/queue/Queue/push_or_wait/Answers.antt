use Rattle.std.proofs.Common.{◌∙◌, subst, sym, true≢false}
use Rattle.pq_types.specs.declared.request.Request.TheVariants.{Push}
use Rattle.announce_board.specs.Asking.{IsAnswerTo}
use Rattle.flat_queue.specs.Members.{QueueName}
use Rattle.flat_queue.proofs.WaitStepping.{push_waits, push_answered}
use Rattle.flat_queue.proofs.queue.Queue.push_or_wait.Goals as goal

pub returns-then-is_just_full-clause-pushes : goal.returns-then-is_just_full-clause-pushes
returns-then-is_just_full-clause-pushes g c =
    push_waits _ c.args.number c.args.item c.args.wait c.args.member.now c.lead_out.new.member c.enter_and_release.new.member c.in_ok-lead.lead.book
    c.room_wants.result c.in_ok-lead.ensures.leads c.in_ok-lead.ensures.lead.book (c.is_just_full.ensures.0 c.if-is_just_full.true) c.room_wants.ensures
    c.enter_and_release.ensures

pub returns-clause-pushes : goal.returns-clause-pushes
returns-clause-pushes g c =
    let fits = subst (λ (q : QueueName). IsAnswerTo q.room (Push c.args.item) c.release_with-answer.result) (sym c.requires.queue) c.release_with-answer.ensures.answers in
    push_answered _ c.args.number c.args.item c.args.wait c.args.member.now c.lead_out.new.member c.release_with-answer.new.member c.in_ok-lead.lead.book
    c.release_with-answer.result c.in_ok-lead.ensures.leads c.in_ok-lead.ensures.lead.book
    (λ full. true≢false (sym (c.is_just_full.ensures.1 full) ∙ c.if-is_just_full.false)) c.release_with-answer.ensures.releases fits
