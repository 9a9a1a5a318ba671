use Rattle.std.proofs.Common.{sym, ap, ◌∙◌, take, ◌++◌}
use Rattle.std.proofs.lemmas.List.{take-append-drop}
use Rattle.byte_writer.proofs.Writers.{onward}
use Rattle.byte_writer.proofs.write_bytes.Goals as goal

pub loop-rest-preserved : goal.loop-rest-preserved
loop-rest-preserved g c =
    let front = take c.in_ok-taken.taken c.loop-rest.rest.now in
    onward _ c.loop-rest.invariant.0 c.loop-rest.rest.now front c.split_at.result.1.now _ _ _ c.loop-rest.invariant.1
    (sym (take-append-drop c.in_ok-taken.taken c.loop-rest.rest.now) ∙ ap (λ left. front ++ left) (sym c.split_at.ensures.back))
    c.loop-rest.invariant.2 c.in_ok-taken.ensures.bytes
