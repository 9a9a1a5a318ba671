use Rattle.std.proofs.Common.{sym, ◌∙◌, ap, ◌∷◌}
use Rattle.atomic_table.specs.Table.{rest}
use Rattle.announce_board.specs.Rule.{Seated}
use Rattle.announce_board.specs.Slots.{with_book}
use Rattle.announce_board.proofs.locking.win_book.Goals as goal

pub exchange-requires : goal.exchange-requires
exchange-requires g c =
    let won = c.if-not-try_lock.ensures.tries in
    let e = ap (λ (m : Seated). m.1) won.next in
    (c.try_lock.ensures.table ∙ c.requires.here, (with_book won.book, e ∙ ap (λ l. (0, with_book won.book) ∷ rest l) (sym e)))
