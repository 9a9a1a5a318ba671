use Rattle.std.proofs.Common.{◌≡◌, false, sym, ◌∙◌, subst}
use Rattle.wait_list.specs.Waiters.{Waits, has_number}
use Rattle.pq_book.specs.Book.{Volume}
use Rattle.announce_board.specs.Steps.{pen_at}
use Rattle.announce_board.proofs.Homes.{changed_book}
use Rattle.announce_board.proofs.waiting.keep_wait.Goals as goal

pub keep_changed-requires-clause-changed : goal.keep_changed-requires-clause-changed
keep_changed-requires-clause-changed g c = (Waits c.args.number c.args.wants, changed_book (pen_at c.args.seat.now.me) c.deref_mut.result.now c.wait.new.self (Waits c.args.number c.args.wants) ((c.deref_mut.ensures.value ∙ c.book.view_is) ∙ c.requires.book) c.wait.ensures)

pub returns-clause-book : goal.returns-clause-book
returns-clause-book g c = c.keep_changed.ensures.book ∙ changed_book (pen_at c.args.seat.now.me) c.deref_mut.result.now c.wait.new.self (Waits c.args.number c.args.wants) ((c.deref_mut.ensures.value ∙ c.book.view_is) ∙ c.requires.book) c.wait.ensures

pub returns-clause-after : goal.returns-clause-after
returns-clause-after g c = c.keep_changed.ensures.after (Waits c.args.number c.args.wants) (changed_book (pen_at c.args.seat.now.me) c.deref_mut.result.now c.wait.new.self (Waits c.args.number c.args.wants) ((c.deref_mut.ensures.value ∙ c.book.view_is) ∙ c.requires.book) c.wait.ensures)

pub wait-requires-clause-apart : goal.wait-requires-clause-apart
wait-requires-clause-apart g c =
    subst (λ (b : Volume). has_number c.args.number b.waiters ≡ false) (sym ((c.deref_mut.ensures.value ∙ c.book.view_is) ∙ c.requires.book)) c.requires.apart
