use Rattle.std.proofs.Common.{◌∙◌}
use Rattle.queue_load.proofs.JournalWriting.{same_idle, goes_same, goes_failed, goes_put}
use Rattle.queue_load.proofs.journal_writer.write_down.Goals as goal

pub returns-then-writing : goal.returns-then-writing
returns-then-writing g c = record { stays = same_idle c.args.member.now; writes = goes_same c.args.writing (g.W.Write.contents c.args.writer.now) c.args.member.now.pen.known }

pub returns-in_default : goal.returns-in_default
returns-in_default g c =
    let stays = c.lines_behind.ensures.stays in
    record { stays = stays; writes = goes_failed c.args.writing c.stopped.result (g.W.Write.contents c.args.writer.now) c.args.member.now c.lines_behind.new.member c.stopped.ensures.failed stays }

pub returns-then-writing-gt-GREATEST_NUMBER : goal.returns-then-writing-gt-GREATEST_NUMBER
returns-then-writing-gt-GREATEST_NUMBER g c =
    let stays = c.lines_behind.ensures.stays in
    let stopped = c.stopped-then-writing-gt-GREATEST_NUMBER in
    record { stays = stays; writes = goes_failed c.args.writing stopped.result (g.W.Write.contents c.args.writer.now) c.args.member.now c.lines_behind.new.member stopped.ensures.failed stays }

pub returns : goal.returns
returns g c =
    let stays = c.lines_behind.ensures.stays in
    let some = c.in-Some.ensures.some in
    record {
      stays = stays;
      writes = goes_put c.args.writing c.put.result (g.W.Write.contents c.args.writer.now) (g.W.Write.contents c.put.new.writer) c.args.member.now c.lines_behind.new.member c.as_slice.result.now c.in-Some.lines
          c.if-writing.false stays (c.as_slice.ensures.value ∙ some.0) some.1 c.put.ensures;
    }
