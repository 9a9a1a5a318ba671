use Rattle.std.proofs.Common.{rules, ◌≡◌}
use Rattle.flat_queue.specs.Settling.{SettlesArchive}
use Rattle.flat_queue.proofs.Settlings.{settles_by}
use Rattle.flat_queue.proofs.queue.Queue.archive.Goals as goal

pub returns-clause-settles : goal.returns-clause-settles
returns-clause-settles g c =
    let settles : SettlesArchive c.args.member.now c.args.archived c.release-2.new.member = record {
      book = c.in_ok-led.led.book;
      led = c.lead.new.member;
      won = c.in_ok-led.ensures.wins;
      stays = c.in_ok-led.ensures.stays;
      release = search rules;
      has = search rules;
      allowed = search rules;
    } in
    settles_by c.args.archived c.args.member.now c.release-2.new.member c.copied_from-copied.result c.copied_from-copied.ensures.has settles
