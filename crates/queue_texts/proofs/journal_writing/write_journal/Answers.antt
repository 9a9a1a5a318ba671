use Rattle.std.proofs.Common.{◌+◌, OnErr, arith, rules, sym, take, drop, subst}
use Rattle.std.proofs.KnownBytes.{Appends-nil}
use Rattle.std.proofs.lemmas.List.{take-append-drop}
use Rattle.std.specs.Prelude.{[]}
use Rattle.byte_writer.specs.Bytes.{AppendsPart}
use Rattle.queue_texts.proofs.Writing.{next_put_of, part_written, on_err, err_so}
use Rattle.queue_texts.proofs.journal_writing.write_journal.Goals as goal

pub returns-in_err-put_line-clause-err : goal.returns-in_err-put_line-clause-err
returns-in_err-put_line-clause-err g c =
    on_err _ _
    (part_written _ _ _ _ (take c.loop-line.line-index c.args.lines.now) (drop c.loop-line.line-index c.args.lines.now) c.args.lines.now
    (sym (take-append-drop c.loop-line.line-index c.args.lines.now))
    c.loop-line.invariant.1 c.in_err-put_line.ensures.err)

pub loop-line-init : goal.loop-line-init
loop-line-init g c = (search rules, ([], Appends-nil _, search rules))

pub loop-line-preserved : goal.loop-line-preserved
loop-line-preserved g c = (
  omega (arith, c.loop-line.invariant.0),
  next_put_of _ _ _ _ _ c.args.lines.now c.loop-line.line-index _ (c.loop-line.number + 1) c.loop-line-test.true
      (omega (arith, c.loop-line.invariant.0)) c.loop-line.invariant.1 c.line-item.is c.in_ok-put_line.ensures.ok,
)

pub returns-clause-err : goal.returns-clause-err
returns-clause-err g c =
    err_so _ _ _
    (part_written _ _ _ _ (take c.loop-line.line-index c.args.lines.now) (drop c.loop-line.line-index c.args.lines.now) c.args.lines.now
    (sym (take-append-drop c.loop-line.line-index c.args.lines.now)) c.loop-line.invariant.1)
    (subst (λ page. OnErr c.write_bytes.result
    (AppendsPart (g.W.Write.contents c.loop-line.writer) (g.W.Write.contents c.write_bytes.new.writer) page)) c.as_slice.ensures.value
    c.write_bytes.ensures.err)
