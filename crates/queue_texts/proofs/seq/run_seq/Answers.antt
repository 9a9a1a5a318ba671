use Rattle.queue_texts.specs.SeqText.{commands}
use Rattle.queue_texts.proofs.Follow.{nothing_done}
use Rattle.queue_texts.proofs.SeqLemmas.{ready_none, seq_finishes, seq_stops}
use Rattle.queue_texts.proofs.seq.run_seq.Goals as goal

pub returns-in-Ok-play_script : goal.returns-in-Ok-play_script
returns-in-Ok-play_script g c input known =
    let run = c.play_script.ensures input known in
    (run.0, run.1, seq_finishes g.P.Part.wide (λ s. s.book.value) _ _ _ input _ _ _ c.in-Ok.ensures.ok.0 c.in-Ok.ensures.ok.1 run.2 c.in-Ok-play_script.is)

pub returns-in-Err : goal.returns-in-Err
returns-in-Err g c input known =
    let run = c.play_script.ensures input known in
    (run.0, run.1, seq_stops g.P.Part.wide (λ s. s.book.value) _ _ input _ _ _ _ c.in-Ok.ensures.ok.0 c.in-Ok.ensures.ok.1 run.2 c.in-Err.is)

pub returns-in_default : goal.returns-in_default
returns-in_default g c input known = nothing_done (commands g.P.Part.wide c.args.lines) _ input _ _ known

pub invariant_of-commands : goal.invariant_of-commands
invariant_of-commands g c = record { ready = ready_none _ c.in-Ok.ensures.ok.1 c.in-Ok.ensures.plain }
