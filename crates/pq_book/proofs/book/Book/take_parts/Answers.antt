use Rattle.pq_book.proofs.KeptLemmas.{are_parts}
use Rattle.pq_book.proofs.book.Book.take_parts.Goals as goal

pub returns : goal.returns
returns g c = rw (← c.in-Some.ensures.value, c.forgotten-forgotten.ensures, c.into_kept.ensures) (are_parts _ _ _ _ _ _ _ c.book.invariant.0 c.book.invariant.1 _ c.book.view_is)
