-- The line of a call is behind what its pen knew when it began.
use Rattle.std.proofs.Common.{◌≡◌, ◌+◌, ◌<◌, length, refl, ap, sym, ◌∙◌, subst, arith}
use native.Mathlib.Decide.{dec_lt}
use Rattle.pq_types.specs.declared.answer.Answer.TheVariants.{Entered}
use Rattle.pq_types.specs.declared.control.Notice.TheVariants as notice
use Rattle.pq_types.specs.declared.control.Control.TheVariants.{Answered}
use Rattle.pq_types.specs.Asked.{Line}
use Rattle.pq_types.specs.Control.{answer_with, reply_with}
use Rattle.desk_core.specs.Linearizable.{IsTrueOf}
use Rattle.desk_core.proofs.Records.{with_cell_answer, notice_back}
use Rattle.desk_core.specs.Calls.{call_of}
use Rattle.desk_core.specs.Beyond.{NextIsUnknown, AnswersAreBeyond}
use Rattle.desk_core.specs.Rule.{StartsWith}
use Rattle.desk_core.specs.Knows.{NoneAbove}
use Rattle.desk_core.proofs.Clauses.{knows}
use Rattle.desk_core.proofs.Histories.{none_of}
use Rattle.desk_core.proofs.Linearizable.{all_shorter, starts_trans, line_before, told_true}

pub next_is_unknown : NextIsUnknown
next_is_unknown d seat p m a =
    let k = knows d m.0 m.1 m.2 seat p a in
    all_shorter (λ (l : Line). p.place ≡ l.place → l.serial < p.posts + 1) p.known k.known.0 (subst (NoneAbove p.place p.posts) k.known.1 k.used)

pub answers_are_beyond : AnswersAreBeyond
answers_are_beyond d seat p request number outcome m a waits at knew starts none =
    let k = knows d m.0 m.1 m.2 seat p a in
    let cell = d.item p.place in
    let n = notice.Entered number outcome in
    let t : IsTrueOf d.room m.0 p.place p.posts (Entered number (reply_with outcome cell)) =
    told_true d m.0 m.1 m.2 seat p a request (answer_with n cell) waits (at ∙ ap Answered (sym (notice_back n cell))) (with_cell_answer n cell) in
    let whole : StartsWith m.0 knew = starts_trans knew p.known m.0 starts k.known in
    let c = call_of number p.posts t.0 (reply_with outcome cell) in
    elim (dec_lt (length knew) number) [
      | yes q ↦ q
      | no q ↦ absurd (none_of knew p.place p.posts none c (line_before knew m.0 p.place c whole t.1 (omega arith)) refl)
    ]
