use Rattle.std.proofs.Common.{◌≡◌, true, rules}
use Rattle.std.specs.Prelude.{is_some}
use Rattle.queue_pool.specs.Pool.{WaitsAt}
use Rattle.queue_pool.proofs.Pooled.{all_rest, finds_answer, first_led, first_held}
use Rattle.queue_pool.proofs.pool.told_by_round.Goals as goal

pub returns-then-leads-clause-here : goal.returns-then-leads-clause-here
returns-then-leads-clause-here g c =
    all_rest (WaitsAt c.args.queue.now) c.args.waiting.now.items c.pop_front.new.self.items c.pop_front.result c.pop_front.ensures.items c.requires.here

pub returns-then-leads-clause-led : goal.returns-then-leads-clause-led
returns-then-leads-clause-led g c =
    let some : is_some c.look.result ≡ true = search rules in
    let finds = finds_answer _ c.leads.new.member c.look.new.member c.look.result c.look.ensures.stays c.look.ensures.looks some in
    first_led _ c.args.waiting.now.items c.pop_front.new.self.items c.pop_front.result c.in_ok-leader.leader c.leads.new.member c.look.new.member c.pop_front.ensures.items c.in_ok-leader.was
    (c.leads.ensures.leads c.if-leads.true) finds

pub returns-clause-held : goal.returns-clause-held
returns-clause-held g c =
    first_held c.args.waiting.now.items c.pop_front.new.self.items c.put_waiting.new.waiting.items c.pop_front.result c.in_ok-leader.leader c.leads.new.member c.pop_front.ensures.items c.in_ok-leader.was
    (c.leads.ensures.held c.if-leads.false) c.put_waiting.ensures.items

pub put_waiting-requires-clause-here : goal.put_waiting-requires-clause-here
put_waiting-requires-clause-here g c =
    all_rest (WaitsAt c.args.queue.now) c.args.waiting.now.items c.pop_front.new.self.items c.pop_front.result c.pop_front.ensures.items c.requires.here
