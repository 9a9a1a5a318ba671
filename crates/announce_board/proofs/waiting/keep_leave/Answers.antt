use Rattle.std.proofs.Common.{◌≡◌, false, ◌∙◌, ap, subst}
use Rattle.wait_list.specs.Waiters.{Leaves, has_number, is_woken_at}
use Rattle.pq_book.specs.Book.{Volume}
use Rattle.announce_board.specs.Steps.{pen_at}
use Rattle.announce_board.proofs.Homes.{changed_book}
use Rattle.announce_board.proofs.waiting.keep_leave.Goals as goal

pub keep_changed-requires-clause-changed : goal.keep_changed-requires-clause-changed
keep_changed-requires-clause-changed g c = (Leaves c.args.number, changed_book (pen_at c.args.seat.now.me) c.deref_mut.result.now c.leave-was_woken.new.self (Leaves c.args.number) ((c.deref_mut.ensures.value ∙ c.book.view_is) ∙ c.requires.book) c.leave-was_woken.ensures.book)

pub returns-clause-book : goal.returns-clause-book
returns-clause-book g c = c.keep_changed.ensures.book ∙ changed_book (pen_at c.args.seat.now.me) c.deref_mut.result.now c.leave-was_woken.new.self (Leaves c.args.number) ((c.deref_mut.ensures.value ∙ c.book.view_is) ∙ c.requires.book) c.leave-was_woken.ensures.book

pub returns-clause-after : goal.returns-clause-after
returns-clause-after g c = c.keep_changed.ensures.after (Leaves c.args.number) (changed_book (pen_at c.args.seat.now.me) c.deref_mut.result.now c.leave-was_woken.new.self (Leaves c.args.number) ((c.deref_mut.ensures.value ∙ c.book.view_is) ∙ c.requires.book) c.leave-was_woken.ensures.book)

pub returns-clause-was_woken : goal.returns-clause-was_woken
returns-clause-was_woken g c =
    c.leave-was_woken.ensures.was_woken ∙ ap (λ (b : Volume). is_woken_at c.args.number b.waiters) ((c.deref_mut.ensures.value ∙ c.book.view_is) ∙ c.requires.book)

pub returns-clause-gone : goal.returns-clause-gone
returns-clause-gone g c =
    let is = changed_book (pen_at c.args.seat.now.me) c.deref_mut.result.now c.leave-was_woken.new.self (Leaves c.args.number) ((c.deref_mut.ensures.value ∙ c.book.view_is) ∙ c.requires.book) c.leave-was_woken.ensures.book in
    subst (λ (b : Volume). has_number c.args.number b.waiters ≡ false) is c.leave-was_woken.ensures.gone
