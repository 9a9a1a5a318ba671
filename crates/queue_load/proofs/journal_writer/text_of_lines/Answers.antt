use Rattle.std.proofs.Common.{◌∙◌, ◌++◌, ap, arith, codes}
use Rattle.pq_types.specs.Asked.{Line}
use Rattle.queue_texts.specs.LineText.{line_text}
use Rattle.queue_load.proofs.JournalWriting.{text_more}
use Rattle.queue_load.proofs.journal_writer.text_of_lines.Goals as goal

pub loop-line-preserved : goal.loop-line-preserved
loop-line-preserved g c =
    let put = c.in_ok-append_line.ensures.ok ∙ ap (λ (x : Line). c.loop-line.text.items ++ (line_text c.loop-line.next x ++ codes "\n")) c.line-item.is in (
      omega (arith, c.loop-line.invariant.0),
      text_more c.args.number c.loop-line.next c.loop-line.line-index c.args.lines.now c.line-item.result c.loop-line.text.items c.append_line.new.text.items c.loop-line-test.true
          c.loop-line.invariant.0 c.loop-line.invariant.1 put,
    )
