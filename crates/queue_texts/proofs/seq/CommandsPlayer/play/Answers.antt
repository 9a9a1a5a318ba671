use Rattle.std.proofs.Common.{arith, ap, sym, inr, ◌+◌, ◌∙◌}
use Rattle.pq_types.specs.History.{journal_after}
use Rattle.queue_texts.proofs.Results.{failed}
use Rattle.queue_texts.proofs.SeqLemmas.{still_ready, answered_plainly}
use Rattle.queue_texts.proofs.seq.CommandsPlayer.play.Goals as goal

pub overflow_add-serial : goal.overflow_add-serial
overflow_add-serial g c = omega (arith, c.len-serial.ensures.room, c.len-serial.ensures.in_range.1)

pub apply-answer-requires : goal.apply-answer-requires
apply-answer-requires g c = omega (arith, c.len-serial.ensures.count, c.args.self.now.ready.numbered)

pub invariant_of-self : goal.invariant_of-self
invariant_of-self g c = record {
  ready =
      still_ready c.law_one_more_line.ensures.last_serial c.law_shut.ensures.more _ _ _ _ _ (ap (λ n. n + 1) c.len-serial.ensures.count)
      c.apply-answer.ensures.journal c.apply-answer.ensures.terms c.apply-answer.ensures.allowed c.args.self.now.ready;
}

pub returns-then-is_err-clause-err : goal.returns-then-is_err-clause-err
returns-then-is_err-clause-err g c =
    let w = failed _ _ c.if-is_err.ensures.value c.write_answer.ensures.err in
    inr (
      w.0,
      w.1,
      record {
        book = record { value = c.apply-answer.new.self };
        ready =
            still_ready c.law_one_more_line.ensures.last_serial c.law_shut.ensures.more _ _ _ _ _ (ap (λ n. n + 1) c.len-serial.ensures.count)
            c.apply-answer.ensures.journal c.apply-answer.ensures.terms c.apply-answer.ensures.allowed c.args.self.now.ready;
      },
      (
        c.apply-answer.ensures.terms.0,
        (
          c.in-Ok.request,
          c.apply-answer.result,
          c.in-Ok.ensures.ok,
          answered_plainly c.law_one_answer.ensures.plain _ _ _ c.args.self.now.ready c.apply-answer.ensures.answer,
          sym w.2,
          c.apply-answer.ensures.journal
              ∙ ap (λ n. journal_after c.args.self.now.book.value.journal 0 (n + 1) c.in-Ok.request c.apply-answer.result) c.len-serial.ensures.count,
        ),
      ),
      w.4,
    )
