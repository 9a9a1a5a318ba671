use Rattle.queue_load.proofs.JournalWriting.{archives_all, archive_idle}
use Rattle.queue_load.proofs.journal_writer.lines_behind.Goals as goal

pub returns-in-Some-Ok : goal.returns-in-Some-Ok
returns-in-Some-Ok g c =
    let known = c.archive.new.member.pen.known in
    let told = c.in-Some-Ok.ensures in
    record {
      stays = archive_idle c.args.member.now c.archive.new.member c.args.written c.archive.result c.archive.ensures.settles c.archive.ensures.misses;
      some = archives_all c.args.queue.now.room c.args.written c.in-Some-Ok.lines known c.new-page.result.items c.archive.new.archive.items c.in-Some-Ok.field-0 told.archives c.in-Some-Ok.field-0-is c.new-page.ensures.items;
    }

pub returns-in-Some-Err : goal.returns-in-Some-Err
returns-in-Some-Err g c =
    record { stays = archive_idle c.args.member.now c.archive.new.member c.args.written c.archive.result c.archive.ensures.settles c.archive.ensures.misses; some = tt }

pub returns-in-None : goal.returns-in-None
returns-in-None g c =
    record { stays = archive_idle c.args.member.now c.archive.new.member c.args.written c.archive.result c.archive.ensures.settles c.archive.ensures.misses; some = tt }
