use Rattle.std.proofs.Common.{◌≡◌, ap, rules, sym}
use Rattle.std.specs.Prelude.{Err}
use Rattle.pq_types.specs.declared.request.Request.TheVariants.{Push}
use Rattle.pq_types.specs.declared.answer.Reply.TheVariants.{Pushed}
use Rattle.desk_core.specs.Words.{word_number}
use Rattle.flat_queue.specs.Members.{HasRoomForAll}
use Rattle.flat_queue.specs.OwnRequest.{EntersOrWaitsBy}
use Rattle.flat_queue.proofs.Tellings.{tells, refuses, reply_of}
use Rattle.flat_queue.proofs.queue.Queue.push.Goals as goal

pub returns : goal.returns
returns g c =
    let t = c.in_ok-number in
    let pushed = reply_of c.args.member.now c.enter_or_wait.new.member (Push c.args.item) c.enter_or_wait.result (t.number, t.field-0-1) t.was c.enter_or_wait.ensures in
    tells (EntersOrWaitsBy (word_number g.P.Part.wide)) (λ number. (number, Pushed)) (HasRoomForAll g.S.Store.room c.args.self.now) c.args.member.now c.enter_or_wait.new.member (Push c.args.item) c.enter_or_wait.result (t.number, t.field-0-1) t.number t.was (ap (λ r. (t.number, r)) (sym pushed)) c.enter_or_wait.ensures

pub returns-in_err-number : goal.returns-in_err-number
returns-in_err-number g c =
    let is : c.from_residual.result ≡ Err c.in_err-number.field-0.0 = search rules fits 300 in
    rw is (refuses (EntersOrWaitsBy (word_number g.P.Part.wide)) (λ number. (number, Pushed)) (HasRoomForAll g.S.Store.room c.args.self.now) c.args.member.now c.enter_or_wait.new.member (Push c.args.item) c.enter_or_wait.result c.in_err-number.field-0.0 c.in_err-number.was c.enter_or_wait.ensures)
