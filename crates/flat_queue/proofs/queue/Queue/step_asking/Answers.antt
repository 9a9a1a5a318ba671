use Rattle.std.proofs.Common.{ap, Some}
use Rattle.flat_queue.proofs.Waits.{at_first, looked_up}
use Rattle.flat_queue.proofs.queue.Queue.step_asking.Goals as goal

pub returns-in-Some : goal.returns-in-Some
returns-in-Some g c =
    let before = c.args.member.now in
    let it = c.in-Some in
    record {
      stays = it.ensures.stays;
      looks = it.ensures.looks;
      told = looked_up _ before before c.look.new.member c.args.self.now it.answer c.requires.queue it.ensures.room (at_first before) it.ensures.stays it.ensures.looks;
      memory = λ r e. it.ensures.memory r (ap Some e);
    }
