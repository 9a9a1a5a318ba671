use Rattle.std.proofs.Common.{◌∙◌, sym}
use Rattle.queue_pool.specs.Pool.{WaitsAt}
use Rattle.queue_pool.proofs.Pooled.{all_rest, finds_answer, first_answered, looks_in_vain, first_in_vain}
use Rattle.queue_pool.proofs.pool.ask_first.Goals as goal

pub returns-then-is_some-clause-here : goal.returns-then-is_some-clause-here
returns-then-is_some-clause-here g c =
    all_rest (WaitsAt c.args.queue.now) c.args.waiting.now.items c.pop_front.new.self.items c.pop_front.result c.pop_front.ensures.items c.requires.here

pub returns-then-is_some-clause-told : goal.returns-then-is_some-clause-told
returns-then-is_some-clause-told g c =
    let finds = finds_answer _ c.in_ok-member.member c.look.new.member c.look.result c.look.ensures.stays c.look.ensures.looks (sym c.is_some.ensures ∙ c.if-is_some.true) in
    first_answered _ c.args.waiting.now.items c.pop_front.new.self.items c.pop_front.result c.in_ok-member.member c.look.new.member c.pop_front.ensures.items c.in_ok-member.was finds

pub returns-clause-none : goal.returns-clause-none
returns-clause-none g c =
    let vain = looks_in_vain _ c.in_ok-member.member c.look.new.member c.look.result c.look.ensures.stays c.look.ensures.looks (sym c.is_some.ensures ∙ c.if-is_some.false) in
    first_in_vain _ c.args.waiting.now.items c.pop_front.new.self.items c.put_waiting.new.waiting.items c.pop_front.result c.in_ok-member.member c.look.new.member c.pop_front.ensures.items c.in_ok-member.was vain c.put_waiting.ensures.items

pub put_waiting-requires-clause-here : goal.put_waiting-requires-clause-here
put_waiting-requires-clause-here g c =
    all_rest (WaitsAt c.args.queue.now) c.args.waiting.now.items c.pop_front.new.self.items c.pop_front.result c.pop_front.ensures.items c.requires.here
