use Rattle.std.proofs.Common.{sym, ◌∙◌, ap, subst, arith}
use Rattle.pq_types.specs.declared.control.Control.TheVariants.{Answered}
use Rattle.pq_types.specs.Mail.{IsProperControl, control_word}
use Rattle.desk_core.specs.Layout.{control_at}
use Rattle.announce_board.proofs.Answering.{proper_answered}
use Rattle.announce_board.proofs.serving.store_answer.Goals as goal

pub word-requires : goal.word-requires
word-requires g c = subst (λ n. IsProperControl (Answered n)) (sym c.notice.ensures) (proper_answered g.P.Part.wide c.args.answer c.requires.proper)

pub store-requires : goal.store-requires
store-requires g c =
    let at = c.requires.pen in
    let due = c.requires.due.0 in
    let is = c.requires.due.1 in (
      c.requires.here,
      omega (arith, c.control_index.ensures, at.inside),
      c.law_steps_are_allowed.ensures.answer _ _ _ _ _ _ at.is _ _ due c.args.request c.args.answer (c.control_index.ensures ∙ ap control_at (sym is.here))
          (c.word.ensures ∙ ap (λ n. control_word (Answered n)) c.notice.ensures) (omega (arith, is.here, at.within)) is.is_due is.kind is.known is.laid c.requires.may c.requires.memory,
    )

pub returns-clause-after : goal.returns-clause-after
returns-clause-after g c = λ due is. c.store.ensures.2 due c.args.request c.args.answer is.is_due is.kind is.known is.laid (proper_answered g.P.Part.wide c.args.answer c.requires.proper)
    (c.word.ensures ∙ ap (λ n. control_word (Answered n)) c.notice.ensures)
