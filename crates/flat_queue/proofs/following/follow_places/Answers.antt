use Rattle.std.proofs.Common.{◌≡◌, ◌∙◌, ◌+◌, ◌≤◌, sym, ap, subst, arith, true, false}
use Rattle.std.specs.Prelude.{IfNone}
use Rattle.split_grid.specs.Opening.{places_of}
use Rattle.split_grid.specs.Tokens.{Resting}
use Rattle.split_grid.specs.Trails.{FollowsOn}
use Rattle.desk_core.specs.Words.{word_number}
use Rattle.flat_queue.specs.declared.waiting.DeskTag.{DeskTag}
use Rattle.flat_queue.specs.Sweeping.{IsServedBy}
use Rattle.flat_queue.proofs.Sweeping.{keeps_on}
use Rattle.flat_queue.proofs.TrailSwept.{followed}
use Rattle.flat_queue.proofs.following.follow_places.Goals as goal

pub loop-place-preserved-then-serve : goal.loop-place-preserved-then-serve
loop-place-preserved-then-serve g c =
    let i = c.loop-place.invariant in
    let e = c.in-Some.ensures in
    let w = e.follows c.args.stopped.now.looks i.trail i.is in
    record {
      still = e.still ∙ ap (λ (s : Resting DeskTag). record s { looks = c.trail_next.new.stopped.looks }) i.still;
      comers = e.comers ∙ i.comers;
      table = c.serve.ensures.table ∙ i.table;
      lead = c.serve.ensures.lead;
      limits = c.serve.ensures.limits ∙ i.limits;
      trail = w.trail;
      is = w.is;
      served = subst (λ l. IsServedBy (word_number g.P.Part.wide) l (c.loop-place.served + 1) c.args.pen.now.state c.serve.new.pen.state) (sym w.found)
          (keeps_on _ i.trail.found c.loop-place.served c.args.pen.now.state c.loop-place.pen.state c.serve.new.pen.state true c.in-Some.place c.serve.new.lead.book i.served c.if-serve.ensures.serves);
      few = omega (arith, i.few, e.onward);
    }

pub loop-place-preserved : goal.loop-place-preserved
loop-place-preserved g c =
    let i = c.loop-place.invariant in
    let e = c.in-Some.ensures in
    let w = e.follows c.args.stopped.now.looks i.trail i.is in
    let none : c.loop-place.served + 0 ≡ c.loop-place.served = omega arith in
    record {
      still = e.still ∙ ap (λ (s : Resting DeskTag). record s { looks = c.trail_next.new.stopped.looks }) i.still;
      comers = e.comers ∙ i.comers;
      table = c.serve.ensures.table ∙ i.table;
      lead = c.serve.ensures.lead;
      limits = c.serve.ensures.limits ∙ i.limits;
      trail = w.trail;
      is = w.is;
      served = subst (λ n. IsServedBy (word_number g.P.Part.wide) w.trail.found n c.args.pen.now.state c.serve.new.pen.state) none (subst (λ l. IsServedBy (word_number g.P.Part.wide) l (c.loop-place.served + 0) c.args.pen.now.state c.serve.new.pen.state) (sym w.found)
          (keeps_on _ i.trail.found c.loop-place.served c.args.pen.now.state c.loop-place.pen.state c.serve.new.pen.state false c.in-Some.place c.serve.new.lead.book i.served c.if-serve.ensures.serves));
      few = omega (arith, i.few, e.onward);
    }

pub returns-clause-served : goal.returns-clause-served
returns-clause-served g c =
    let i = c.loop-place.invariant in
    let w = c.trail_next.ensures.follows c.args.stopped.now.looks i.trail i.is in
    let ended = subst (λ r. FollowsOn c.args.stopped.now.looks c.loop-place.stopped i.trail r c.trail_next.new.stopped c.trail_next.new.trail) c.in_default.is w in
    let still = c.trail_next.ensures.still ∙ ap (λ (s : Resting DeskTag). record s { looks = c.trail_next.new.stopped.looks }) i.still in
    let onward : c.loop-place.trail.tracker.doors ≤ c.trail_next.new.trail.tracker.doors =
    subst (λ r. IfNone r (c.loop-place.trail.tracker.doors ≤ c.trail_next.new.trail.tracker.doors)) c.in_default.is c.trail_next.ensures.over in
    followed _ c.args.stopped.now c.loop-place.stopped c.trail_next.new.stopped c.trail_next.new.trail i.trail c.loop-place.served c.doors.result c.args.pen.now.state c.loop-place.pen.state still ended i.served c.doors.ensures.doors
    (subst (λ n. c.doors.result ≤ places_of n) (c.trail_next.ensures.comers ∙ i.comers) c.doors.ensures.within)
    (omega (arith, i.few, c.doors.ensures.doors, onward))
