use Rattle.std.proofs.Common.{◌∙◌, ◌∷◌, ap, sym}
use Rattle.atomic_table.specs.Table.{rest}
use Rattle.pq_book.specs.Stock.{settled_book}
use Rattle.announce_board.specs.Slots.{out}
use Rattle.announce_board.proofs.Homes.{release_owes}
use Rattle.announce_board.proofs.locking.put_home.Goals as goal

pub store-requires : goal.store-requires
store-requires g c = (
  c.exchange.ensures.0 ∙ c.requires.here,
  c.requires.lock,
  release_owes _ _ c.law_steps_are_allowed.ensures.release _ _ _ _ _ c.args.seat.now.me _ c.settled-book.result.0 c.requires.is c.requires.leads (c.settled-book.ensures.book ∙ ap settled_book c.requires.book) (c.exchange.ensures.3 ∙ ap (λ s. (c.args.seat.now.me.0, (0, s) ∷ rest c.args.seat.now.me.1)) c.with.ensures),
)

pub exchange-requires : goal.exchange-requires
exchange-requires g c = (c.requires.here, (out, c.requires.slot ∙ ap (λ l. (0, out) ∷ rest l) (sym c.requires.slot)))
