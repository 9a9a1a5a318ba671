use Rattle.std.proofs.Common.{◌≡◌, subst, sym, ◌∙◌, Some, None}
use Rattle.pq_types.specs.Control.{answer_item}
use Rattle.desk_core.specs.Pen.{with_known}
use Rattle.announce_board.specs.Serving.{due_of}
use Rattle.pq_book.specs.Book.{AllHaveRoom}
use Rattle.announce_board.proofs.Laying.{due_plain, due_after, room_laid, answered_plain, answered_laid}
use Rattle.announce_board.proofs.serving.give_answer.Goals as goal

pub store_answer-requires-clause-due : goal.store_answer-requires-clause-due
store_answer-requires-clause-due g c =
    let none : answer_item c.args.answer ≡ None = sym c.item_of.ensures ∙ c.in_default.is in
    (due_of c.args.place c.requires.due.0 c.args.request, due_plain _ c.args.place c.requires.due.0 c.args.request c.args.answer c.requires.due.1 none)

pub returns-in_default-clause-after : goal.returns-in_default-clause-after
returns-in_default-clause-after g c =
    let none : answer_item c.args.answer ≡ None = sym c.item_of.ensures ∙ c.in_default.is in
    λ serial e. answered_plain _ c.args.seat.now.me _ c.args.place serial c.args.request c.args.answer none
    (c.store_answer.ensures.after (due_of c.args.place serial c.args.request) (due_plain _ c.args.place serial c.args.request c.args.answer e none))

pub store_answer-requires-2-clause-due : goal.store_answer-requires-2-clause-due
store_answer-requires-2-clause-due g c =
    let x = c.in-Some.item in
    let item : answer_item c.args.answer ≡ Some x = sym c.item_of.ensures ∙ c.in-Some.is in
    let due = due_of c.args.place c.requires.due.0 c.args.request in
    (with_known due x, due_after _ c.args.seat.now.me _ c.args.place c.requires.due.0 _ _ c.args.request c.args.answer x c.requires.may item (c.store_laid_item.ensures.after due c.requires.due.1))

pub store_answer-requires-2-clause-memory : goal.store_answer-requires-2-clause-memory
store_answer-requires-2-clause-memory g c =
    let due = due_of c.args.place c.requires.due.0 c.args.request in
    let room = room_laid _ c.args.seat.now.me _ c.args.place c.requires.due.0 c.args.request c.in-Some.item (c.store_laid_item.ensures.after due c.requires.due.1) in
    λ all. c.requires.memory (subst (AllHaveRoom _) room all)

pub returns-clause-after : goal.returns-clause-after
returns-clause-after g c =
    let x = c.in-Some.item in
    let item : answer_item c.args.answer ≡ Some x = sym c.item_of.ensures ∙ c.in-Some.is in
    λ serial e.
    let due = due_of c.args.place serial c.args.request in
    let laid = c.store_laid_item.ensures.after due e in
    answered_laid _ c.args.seat.now.me _ _ c.args.place serial c.args.request c.args.answer x item laid
    (c.store_answer-2.ensures.after (with_known due x) (due_after _ c.args.seat.now.me _ c.args.place serial _ _ c.args.request c.args.answer x c.requires.may item laid))
