use Rattle.std.proofs.Common.{rules, ◌≡◌, ◌∙◌, ap, arith}
use Rattle.split_grid.specs.Tokens.{Resting}
use Rattle.split_grid.proofs.TrailCalls.{still_none, finds, ends_there}
use Rattle.split_grid.proofs.grid.Grid.trail_next.Goals as goal

pub returns-then-closed-clause-follows : goal.returns-then-closed-clause-follows
returns-then-closed-clause-follows g c earlier z k =
    let i = c.loop-stopped.invariant in
    finds earlier c.args.stopped.now c.loop-stopped.stopped i.still c.args.trail.now c.loop-stopped.trail (i.before earlier) c.follow-place.new.stopped
    c.follow-place.new.trail c.follow-place.result (c.follow-place.ensures.reads earlier) z k c.if-closed.true

pub loop-stopped-preserved : goal.loop-stopped-preserved
loop-stopped-preserved g c =
    let i = c.loop-stopped.invariant in
    let e = c.follow-place.ensures in
    record {
      still = e.still ∙ ap (λ (x : Resting g.row.T-Tag.Denot). record x { looks = c.follow-place.new.stopped.looks }) i.still;
      comers = e.comers ∙ i.comers;
      before = λ earlier z k.
          still_none earlier c.args.stopped.now c.loop-stopped.stopped i.still c.args.trail.now c.loop-stopped.trail (i.before earlier) c.follow-place.new.stopped
          c.follow-place.new.trail c.follow-place.result (e.reads earlier) z k c.if-closed.false;
      onward = omega (arith, i.onward, e.counted);
    }

pub returns-clause-follows : goal.returns-clause-follows
returns-clause-follows g c earlier z k =
    let laws = c.law_trail_reads.ensures in
    let i = c.loop-stopped.invariant in
    let none : c.loop-stopped.trail.tracker.unread ≡ 0 = search rules in
    ends_there earlier c.args.stopped.now c.loop-stopped.stopped i.still c.args.trail.now c.loop-stopped.trail (i.before earlier) laws.ways laws.moments
    c.stands.ensures.inside none z k
