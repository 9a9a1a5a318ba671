use Rattle.std.proofs.Common.{arith, refl, ◌∙◌}
use Rattle.pq_book.proofs.KeptLemmas.{new_is_kept}
use Rattle.pq_book.proofs.book.Book.limited.Goals as goal

pub invariant_of-result : goal.invariant_of-result
invariant_of-result g c =
    let kept = new_is_kept _ _ _ _ _ _ c.requires c.in-Ok.ensures.0 c.in-Ok.ensures.1 (c.in-Ok.ensures.2 ∙ c.page_of.ensures.page)
    (omega (arith, c.if-room-eq0.false), omega (arith, c.if-room-gt-GREATEST_NUMBER.false)) in
    (kept.0, kept.1, kept.2, kept.3, c.min.ensures, refl)
