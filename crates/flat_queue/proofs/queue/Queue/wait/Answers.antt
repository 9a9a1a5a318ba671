use Rattle.std.proofs.Common.{sym, subst}
use Rattle.std.specs.Prelude.{IfSome}
use Rattle.desk_core.specs.Words.{word_number}
use Rattle.flat_queue.specs.Members.{HasRoomForAll}
use Rattle.flat_queue.specs.Calling.{IsTold}
use Rattle.flat_queue.specs.CallSteps.{AsksOnceBy}
use Rattle.flat_queue.specs.declared.call_steps.CallStepped.TheVariants.{Ends, Goes}
use Rattle.flat_queue.proofs.CallStepping.{waited_to, waits_so_far}
use Rattle.flat_queue.proofs.queue.Queue.wait.Goals as goal

pub returns-in-Ends-clause-told : goal.returns-in-Ends-clause-told
returns-in-Ends-clause-told g c =
    let words = word_number g.P.Part.wide in
    let may = g.G.Gate.may_answer c.args.gate.now in
    let room = HasRoomForAll g.S.Store.room c.args.self.now in
    let before = c.args.member.now in
    let after = c.step_asking.new.member in
    let w = c.loop.invariant.0 in
    let h = subst (λ n. AsksOnceBy words (may n) room c.loop.member (Ends c.in-Ends.came) after) w.stays.id c.in-Ends.ensures in
    subst (λ r. IfSome r (λ x. IsTold before x after)) (sym c.answer_of.ensures) (waited_to words (may before.comer.id) room before c.loop.member after c.in-Ends.came w c.loop.invariant.1 h).told

pub loop-preserved : goal.loop-preserved
loop-preserved g c =
    let words = word_number g.P.Part.wide in
    let may = g.G.Gate.may_answer c.args.gate.now in
    let room = HasRoomForAll g.S.Store.room c.args.self.now in
    let before = c.args.member.now in
    let after = c.step_asking.new.member in
    let w = c.loop.invariant.0 in
    let h = subst (λ n. AsksOnceBy words (may n) room c.loop.member (Goes c.in-Goes.stage) after) w.stays.id c.in-Goes.ensures in
    waits_so_far words (may before.comer.id) room before c.loop.member after c.in-Goes.stage w c.loop.invariant.1 h
