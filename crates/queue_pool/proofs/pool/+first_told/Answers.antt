use Rattle.queue_pool.proofs.Pooled.{asked_none, asked_on, told_first, told_on}
use Rattle.queue_pool.proofs.pool.+first_told.Goals as goal

pub returns-then-turns-eq0-clause-none : goal.returns-then-turns-eq0-clause-none
returns-then-turns-eq0-clause-none g t c ahead others e n = asked_none _ ahead others c.args.waiting.now.items c.args.turns c.if-turns-eq0.true e n

pub returns-in-Some-clause-told : goal.returns-in-Some-clause-told
returns-in-Some-clause-told g t c ahead others e n =
    told_first _ ahead others c.args.waiting.now.items c.ask_first.new.waiting.items c.args.turns c.in-Some.member c.if-turns-eq0.false c.in-Some.ensures.told e n

pub returns-clause-told : goal.returns-clause-told
returns-clause-told g t c ahead others e n =
    told_on _ ahead others c.args.waiting.now.items c.ask_first.new.waiting.items c.first_told.new.waiting.items c.args.turns c.first_told.result c.if-turns-eq0.false c.in_default.ensures.none c.first_told.ensures.told e n

pub returns-clause-none : goal.returns-clause-none
returns-clause-none g t c ahead others e n =
    asked_on _ ahead others c.args.waiting.now.items c.ask_first.new.waiting.items c.first_told.new.waiting.items c.args.turns c.first_told.result c.if-turns-eq0.false c.in_default.ensures.none c.first_told.ensures.none e n
