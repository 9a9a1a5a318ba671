use Rattle.std.proofs.Common.{◌∙◌}
use Rattle.wait_list.specs.Waiters.{AllLeave}
use Rattle.announce_board.specs.Steps.{pen_at}
use Rattle.announce_board.proofs.Homes.{changed_book}
use Rattle.announce_board.proofs.waiting.keep_leave_all.Goals as goal

pub keep_changed-requires-clause-changed : goal.keep_changed-requires-clause-changed
keep_changed-requires-clause-changed g c = (AllLeave c.args.mask, changed_book (pen_at c.args.seat.now.me) c.deref_mut.result.now c.leave_all.new.self (AllLeave c.args.mask) ((c.deref_mut.ensures.value ∙ c.book.view_is) ∙ c.requires.book) c.leave_all.ensures)

pub returns-clause-book : goal.returns-clause-book
returns-clause-book g c = c.keep_changed.ensures.book ∙ changed_book (pen_at c.args.seat.now.me) c.deref_mut.result.now c.leave_all.new.self (AllLeave c.args.mask) ((c.deref_mut.ensures.value ∙ c.book.view_is) ∙ c.requires.book) c.leave_all.ensures

pub returns-clause-after : goal.returns-clause-after
returns-clause-after g c = c.keep_changed.ensures.after (AllLeave c.args.mask) (changed_book (pen_at c.args.seat.now.me) c.deref_mut.result.now c.leave_all.new.self (AllLeave c.args.mask) ((c.deref_mut.ensures.value ∙ c.book.view_is) ∙ c.requires.book) c.leave_all.ensures)
