use Rattle.std.proofs.Common.{rules, ◌≡◌, true, false, sym, subst, Some}
use Rattle.pq_types.specs.Control.{notice_has_item}
use Rattle.desk_core.specs.Words.{word_number}
use Rattle.announce_board.specs.Steps.{pen_at}
use Rattle.announce_board.specs.Asking.{LooksBy}
use Rattle.announce_board.proofs.Looks.{looks_none, looks_plain, looks_item, told_other}
use Rattle.announce_board.proofs.asking.look_at_record.Goals as goal

pub returns-in_default-clause-looks : goal.returns-in_default-clause-looks
returns-in_default-clause-looks g c = looks_none _ c.law_steps_tell.ensures.waiters _ _ c.in_default.ensures.loads

pub returns-then-not-has_item-clause-looks : goal.returns-then-not-has_item-clause-looks
returns-then-not-has_item-clause-looks g c =
    let plain : notice_has_item c.in-Some.notice ≡ false = search rules in
    subst (λ a. LooksBy (word_number g.P.Part.wide) (pen_at c.args.seat.now.me) (Some a) (pen_at c.load_own.new.seat.me)) (sym c.with_item.ensures)
    (looks_plain _ c.law_steps_tell.ensures.waiters _ _ c.in-Some.notice _ c.in-Some.ensures.loads plain)

pub returns-clause-looks : goal.returns-clause-looks
returns-clause-looks g c =
    let item : notice_has_item c.in-Some.notice ≡ true = search rules in
    subst (λ a. LooksBy (word_number g.P.Part.wide) (pen_at c.args.seat.now.me) (Some a) (pen_at c.load_answered_item-item.new.seat.me)) (sym c.with_item-2.ensures)
    (looks_item _ c.law_steps_tell.ensures.waiters _ _ _ c.in-Some.notice _ c.in-Some.ensures.loads item c.load_answered_item-item.ensures.takes)

pub returns-then-not-has_item-clause-memory : goal.returns-then-not-has_item-clause-memory
returns-then-not-has_item-clause-memory g c = λ all. told_other c.in-Some.notice _ _ (c.in-Some.ensures.memory all) c.with_item.ensures

pub returns-clause-memory : goal.returns-clause-memory
returns-clause-memory g c = λ all. told_other c.in-Some.notice _ _ (c.in-Some.ensures.memory all) c.with_item-2.ensures
