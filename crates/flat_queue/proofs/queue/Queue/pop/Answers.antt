use Rattle.std.proofs.Common.{ap, ◌∙◌}
use Rattle.std.specs.Prelude.{⊤}
use Rattle.pq_types.specs.declared.request.Request.TheVariants.{Pop}
use Rattle.desk_core.specs.Words.{word_number}
use Rattle.flat_queue.specs.Calling.{popped}
use Rattle.flat_queue.specs.OwnRequest.{EntersOrWaitsBy}
use Rattle.flat_queue.proofs.Tellings.{tells, reply_of, popped_back}
use Rattle.flat_queue.proofs.queue.Queue.pop.Goals as goal

pub returns : goal.returns
returns g c =
    let t = c.in_ok-number in
    let replied = reply_of c.args.member.now c.enter_or_wait.new.member Pop c.enter_or_wait.result (t.number, t.reply) t.was c.enter_or_wait.ensures in
    tells (EntersOrWaitsBy (word_number g.P.Part.wide)) (λ told. (told.0, popped told.1)) ⊤ c.args.member.now c.enter_or_wait.new.member Pop c.enter_or_wait.result (t.number, t.reply) (t.number, c.item_of.result) t.was
    (ap (λ i. (t.number, popped i)) c.item_of.ensures ∙ ap (λ r. (t.number, r)) (popped_back t.reply replied)) c.enter_or_wait.ensures
