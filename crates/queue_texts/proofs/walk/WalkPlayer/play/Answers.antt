use Rattle.std.proofs.Common.{[], inr, refl, sym, append-nil}
use Rattle.queue_texts.specs.declared.orders.Verb.TheVariants.{Make}
use Rattle.queue_texts.specs.WalkSteps.{IsWalk}
use Rattle.queue_texts.proofs.WalkLemmas.{order_stops}
use Rattle.queue_texts.proofs.walk.WalkPlayer.play.Goals as goal

pub returns-in-Err-play_move-clause-err : goal.returns-in-Err-play_move-clause-err
returns-in-Err-play_move-clause-err g c =
    order_stops (λ s p. IsWalk s.ids.items s.machine p) (λ s. s.kind) c.args.self.now c.args.number c.args.line.now _ _ _ c.as_slice.result.now c.args.self.now.machine (Make c.in-Make.what) c.in-Ok.order.id
    c.in-Err-play_move.ensures.unchanged c.in-Err-play_move.ensures.err
    (λ refusal p refused is. inr (c.in-Ok.order, c.in-Ok.ensures.ok, rw c.in-Make.is (refused p (rw c.as_slice.ensures.value is))))

pub returns-in_default-clause-ok : goal.returns-in_default-clause-ok
returns-in_default-clause-ok g c =
    ([], (refl, λ p is. let added = c.in_default.ensures.ok c.args.self.now.kind p is in (added.0, added.1, (c.in-Ok.order, c.in-Ok.ensures.ok, rw c.in-Comer.is added.2))), sym (append-nil _))

pub returns-in-Err-add-clause-err : goal.returns-in-Err-add-clause-err
returns-in-Err-add-clause-err g c =
    ((λ p is. inr (c.in-Ok.order, c.in-Ok.ensures.ok, rw c.in-Comer.is (c.in-Err-add.ensures.err c.args.self.now.kind p is))), refl)

pub returns-in-Err-clause-err : goal.returns-in-Err-clause-err
returns-in-Err-clause-err g c = ((λ p is. c.in-Err.ensures.err c.args.self.now.kind p), refl)
