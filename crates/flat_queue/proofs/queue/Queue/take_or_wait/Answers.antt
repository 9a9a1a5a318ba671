use Rattle.std.proofs.Common.{rules, ◌≡◌, ◌∙◌, subst, sym}
use Rattle.pq_types.specs.declared.request.Request.TheVariants.{Pop}
use Rattle.announce_board.specs.Asking.{IsAnswerTo}
use Rattle.flat_queue.specs.Members.{QueueName}
use Rattle.flat_queue.proofs.WaitStepping.{waits_told, pops_told}
use Rattle.flat_queue.proofs.queue.Queue.take_or_wait.Goals as goal

pub returns-clause-takes : goal.returns-clause-takes
returns-clause-takes g c =
    let here : c.room.result ≡ c.args.member.now.queue.room = search rules in
    waits_told _ c.args.number c.room.result c.args.wanted c.args.patience c.args.member.now c.lead_out.new.member c.enter_and_release.new.member
    c.in_ok-lead.lead.book c.in-Some.left c.wants_left-wants.result c.entry_for.result c.in_ok-lead.ensures.leads c.in_ok-lead.ensures.lead.book here
    c.in-Some.ensures.some.0 c.in-Some.ensures.some.1 c.wants_left-wants.ensures c.enter_and_release.ensures c.entry_for.ensures

pub returns-in_default-clause-takes : goal.returns-in_default-clause-takes
returns-in_default-clause-takes g c =
    let room_is : c.room.result ≡ c.args.member.now.queue.room = search rules in
    let here : c.lead_out.new.member.pen.room ≡ c.room.result = c.in_ok-lead.ensures.ready.room ∙ (c.law_one_room.ensures ∙ sym room_is) in
    let fits = subst (λ (q : QueueName). IsAnswerTo q.room Pop c.release_with-answer.result) (sym c.requires.queue) c.release_with-answer.ensures.answers in
    pops_told _ c.args.number c.room.result c.args.wanted c.args.patience c.args.member.now c.lead_out.new.member c.release_with-answer.new.member
    c.in_ok-lead.lead.book c.release_with-answer.result c.looked_by.result c.in_ok-lead.ensures.leads c.in_ok-lead.ensures.lead.book here
    c.in_default.ensures.none c.release_with-answer.ensures.releases fits c.looked_by.ensures
