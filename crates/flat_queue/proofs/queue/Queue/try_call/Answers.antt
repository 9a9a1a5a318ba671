use Rattle.std.proofs.Common.{rules, ◌<◌, ◌∙◌, ap, sym, subst, Some}
use Rattle.desk_core.specs.Words.{word_number}
use Rattle.announce_board.specs.Asking.{IsAnswerTo}
use Rattle.flat_queue.specs.Limits.{most_posts}
use Rattle.flat_queue.specs.Members.{HasRoomForAll}
use Rattle.flat_queue.specs.Calling.{MakesCall}
use Rattle.flat_queue.specs.OwnRequest.{EntersAtOnceBy}
use Rattle.flat_queue.proofs.OwnRequests.{called_own, refused_as}
use Rattle.flat_queue.proofs.queue.Queue.try_call.Goals as goal

pub returns-clause-called : goal.returns-clause-called
returns-clause-called g c =
    let few : c.args.member.now.pen.posts < most_posts c.args.member.now.queue.room = search rules in
    let room = HasRoomForAll g.S.Store.room c.args.self.now in
    let h = c.in_ok-answer.ensures in
    subst (λ r. MakesCall (EntersAtOnceBy (word_number g.P.Part.wide)) (λ t. t) room c.args.member.now c.args.request r c.carry_out.new.member) (sym c.end.ensures)
    (called_own _ c.in_ok-answer.answer c.args.member.now c.carry_out.new.member c.args.request room h.carries
    (subst (λ q. IsAnswerTo q.room c.args.request c.in_ok-answer.answer) (sym c.requires.queue) h.answers) few
    (λ r e. c.carry_out.ensures.memory r (c.in_ok-answer.was ∙ ap Some e)))

pub returns-clause-spare : goal.returns-clause-spare
returns-clause-spare g c =
    λ all e. c.carry_out.ensures.spare all (c.in_ok-answer.was ∙ ap Some (refused_as c.in_ok-answer.answer (sym c.end.ensures ∙ e)))
