use Rattle.std.proofs.Common.{◌+◌, length, ap, sym, subst, ◌∙◌}
use Rattle.pq_types.specs.History.{left}
use Rattle.pq_book.specs.Book.{AllHaveRoom, Volume}
use Rattle.announce_board.proofs.Serves.{passes, passes_other, due_found, hand_found, serves_another, serves_stays, serves_hand}
use Rattle.announce_board.proofs.serving.serve_place.Goals as goal

pub returns-in_default-clause-serves : goal.returns-in_default-clause-serves
returns-in_default-clause-serves g c = passes c.args.place _ _ c.args.book.now c.in_default.ensures.finds c.requires.book

pub returns-in_default-clause-memory : goal.returns-in_default-clause-memory
returns-in_default-clause-memory g c = λ all. passes_other _ c.args.place _ _ c.args.book.now _ c.in_default.ensures.finds

pub give_answer-requires-clause-memory : goal.give_answer-requires-clause-memory
give_answer-requires-clause-memory g c =
    let room = ap (λ (b : Volume). b.room) c.requires.book ∙ sym (hand_found _ c.args.place _ _ c.in-Some.serial c.in-Some.request c.in-Some.ensures.finds).1 in
    λ all. c.apply-answer.ensures.memory (subst (AllHaveRoom _) (sym room) all)

pub returns-clause-memory : goal.returns-clause-memory
returns-clause-memory g c =
    let h = c.in-Some.ensures.finds in
    let due = due_found _ c.args.place _ _ c.in-Some.serial c.in-Some.request h in
    let next = c.give_answer.ensures.after c.in-Some.serial due in
    let e = c.apply-answer.ensures in
    λ all. serves_another _ c.args.place c.args.seat.now.me c.read_request.new.seat.me c.give_answer.new.seat.me c.in-Some.serial c.in-Some.request c.apply-answer.result h next c.args.book.now c.apply-answer.new.self c.requires.book e.terms e.allowed e.journal e.answer
    (e.memory (subst (AllHaveRoom _) (sym (ap (λ (b : Volume). b.room) c.requires.book)) all))

pub returns-clause-spare : goal.returns-clause-spare
returns-clause-spare g c =
    let h = c.in-Some.ensures.finds in
    let due = due_found _ c.args.place _ _ c.in-Some.serial c.in-Some.request h in
    let next = c.give_answer.ensures.after c.in-Some.serial due in
    let e = c.apply-answer.ensures in
    λ all. serves_another _ c.args.place c.args.seat.now.me c.read_request.new.seat.me c.give_answer.new.seat.me c.in-Some.serial c.in-Some.request c.apply-answer.result h next c.args.book.now c.apply-answer.new.self c.requires.book e.terms e.allowed e.journal e.answer
    (e.spare (subst (λ (b : Volume). AllHaveRoom g.S.Store.room (length (left b.journal) + 1)) (sym c.requires.book) all))

pub returns-in_default-clause-spare : goal.returns-in_default-clause-spare
returns-in_default-clause-spare g c = λ all. passes_other _ c.args.place _ _ c.args.book.now _ c.in_default.ensures.finds

pub returns-clause-stays : goal.returns-clause-stays
returns-clause-stays g c =
    let h = c.in-Some.ensures.finds in
    let due = due_found _ c.args.place _ _ c.in-Some.serial c.in-Some.request h in
    serves_stays _ c.args.place c.args.seat.now.me _ _ c.in-Some.serial c.in-Some.request c.apply-answer.result h (c.give_answer.ensures.after c.in-Some.serial due) c.in-Some.ensures.stays

pub returns-clause-hand : goal.returns-clause-hand
returns-clause-hand g c =
    let h = c.in-Some.ensures.finds in
    let due = due_found _ c.args.place _ _ c.in-Some.serial c.in-Some.request h in
    let next = c.give_answer.ensures.after c.in-Some.serial due in
    let e = c.apply-answer.ensures in
    serves_hand _ c.args.place c.args.seat.now.me c.read_request.new.seat.me c.give_answer.new.seat.me c.in-Some.serial c.in-Some.request c.apply-answer.result h next c.args.book.now c.apply-answer.new.self c.requires.book e.terms e.allowed e.journal
