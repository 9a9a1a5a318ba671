use Rattle.std.proofs.Common.{◌≡◌, ◌∙◌, ℕ, ap, sym, subst}
use Rattle.std.specs.Prelude.{IfSome}
use Rattle.pq_types.specs.Asked.{Reply}
use Rattle.desk_core.specs.Words.{word_number}
use Rattle.flat_queue.specs.Members.{QueueName, Joined, HasRoomForAll}
use Rattle.flat_queue.specs.Calling.{MakesCall}
use Rattle.flat_queue.specs.OwnRequest.{EntersAtOnceBy}
use Rattle.flat_queue.proofs.handle.Handle.try_call.Goals as goal

pub returns-clause-called : goal.returns-clause-called
returns-clause-called g c =
    let Holds : QueueName → Joined → Type 0 =
    λ q m. IfSome c.try_call.result (λ told. MakesCall {A = ℕ × Reply} (EntersAtOnceBy (word_number g.P.Part.wide)) (λ t. t) (HasRoomForAll g.S.Store.room q) m c.args.request told c.try_call.new.member) in
    let queue : c.self.inside.queue.now ≡ c.args.self.now.queue = sym c.self.invariant.0 ∙ ap (λ (m : Joined). m.queue) c.self.view_is in
    subst (λ q. Holds q c.args.self.now) queue (subst (Holds c.self.inside.queue.now) c.self.view_is c.try_call.ensures.called)
