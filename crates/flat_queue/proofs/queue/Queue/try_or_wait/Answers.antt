use Rattle.std.proofs.Common.{◌≡◌, ◌∙◌, ◌<◌, sym, subst}
use Rattle.desk_core.specs.Words.{word_number}
use Rattle.flat_queue.specs.Limits.{most_posts}
use Rattle.flat_queue.specs.Members.{HasRoomForAll}
use Rattle.flat_queue.specs.Calling.{MakesCall}
use Rattle.flat_queue.specs.OwnRequest.{TriesOrWaitsBy}
use Rattle.flat_queue.specs.declared.gate.Turn.TheVariants.{Lead}
use Rattle.flat_queue.proofs.CallStepping.{steps_end, steps_go, steps_fit}
use Rattle.flat_queue.proofs.queue.Queue.try_or_wait.Goals as goal

pub returns-in-Ends : goal.returns-in-Ends
returns-in-Ends g c =
    let room = HasRoomForAll g.S.Store.room c.args.self.now in
    let before = c.args.member.now in
    let after = c.step_call-told.new.member in
    subst (λ r. MakesCall (TriesOrWaitsBy (word_number g.P.Part.wide)) (λ told. told) room before c.args.request r after) (sym c.end_of.ensures)
    (steps_end _ room before c.loop.member after c.args.request c.loop.stage c.in-Ends.came
    (subst (λ q. before.pen.posts < most_posts q.room) (sym c.requires.queue) c.requires.few) c.loop.invariant.2 c.in-Ends.ensures.steps)

pub loop-preserved : goal.loop-preserved
loop-preserved g c =
    let room = HasRoomForAll g.S.Store.room c.args.self.now in
    let before = c.args.member.now in
    let after = c.step_call-told.new.member in
    let h = c.in-Goes.ensures.steps in
    let fits = steps_fit _ (λ turn. turn ≡ Lead) room c.loop.member after c.loop.stage c.in-Goes.next c.loop.invariant.1 h in
    (fits.0 ∙ c.loop.invariant.0, fits.1, steps_go _ room before c.loop.member after c.args.request c.loop.stage c.in-Goes.next c.loop.invariant.2 h)
