use Rattle.std.proofs.Common.{◌∙◌, subst}
use Rattle.pq_book.specs.Book.{Volume}
use Rattle.desk_core.specs.Pen.{newly_woken}
use Rattle.announce_board.specs.Waking.{IsMaskOf}
use Rattle.announce_board.proofs.Waking.{settled_mask}
use Rattle.announce_board.proofs.boxed_book.BoxedBook.settled.Goals as goal

pub returns-clause-wakes : goal.returns-clause-wakes
returns-clause-wakes g c =
    subst (λ (b : Volume). IsMaskOf c.settle-wakes.result (newly_woken b)) (c.deref_mut.ensures.value ∙ c.book.view_is)
    (settled_mask c.deref_mut.result.now c.settle-wakes.new.self c.settle-wakes.result c.settle-wakes.ensures.book c.settle-wakes.ensures.wakes)
