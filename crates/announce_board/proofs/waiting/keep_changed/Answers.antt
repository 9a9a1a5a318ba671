use Rattle.std.proofs.Common.{◌∷◌, [], ◌∙◌, ap, sym}
use Rattle.atomic_table.specs.Table.{rest}
use Rattle.announce_board.specs.Rule.{Seated}
use Rattle.announce_board.specs.Slots.{out}
use Rattle.announce_board.proofs.Homes.{change_owes, changed_so, same_held}
use Rattle.announce_board.proofs.waiting.keep_changed.Goals as goal

pub exchange-requires : goal.exchange-requires
exchange-requires g c = (c.requires.here, (out, c.requires.slot ∙ ap (λ l. (0, out) ∷ rest l) (sym c.requires.slot)))

pub load-requires : goal.load-requires
load-requires g c = (
  c.exchange.ensures.0 ∙ c.requires.here,
  c.requires.lock,
  change_owes _ _ c.law_steps_are_allowed.ensures.change _ _ _ _ _ c.args.seat.now.me _ c.args.book c.requires.changed.0 c.requires.is c.requires.leads c.requires.changed.1
      (c.exchange.ensures.3 ∙ ap (λ s. (c.args.seat.now.me.0, (0, s) ∷ rest c.args.seat.now.me.1)) c.with.ensures),
)

pub take_back-requires-clause-slot : goal.take_back-requires-clause-slot
take_back-requires-clause-slot g c =
    let told = changed_so c.args.seat.now.me _ c.load.new.seat.me c.load.result c.args.book c.requires.changed.0 c.requires.slot c.requires.changed.1
    (c.exchange.ensures.3 ∙ ap (λ s. (c.args.seat.now.me.0, (0, s) ∷ rest c.args.seat.now.me.1)) c.with.ensures) c.load.ensures.2 in
    (c.args.book, ap (λ (m : Seated). m.1) told)

pub returns-clause-book : goal.returns-clause-book
returns-clause-book g c =
    let told = changed_so c.args.seat.now.me _ c.load.new.seat.me c.load.result c.args.book c.requires.changed.0 c.requires.slot c.requires.changed.1
    (c.exchange.ensures.3 ∙ ap (λ s. (c.args.seat.now.me.0, (0, s) ∷ rest c.args.seat.now.me.1)) c.with.ensures) c.load.ensures.2 in
    same_held c.take_back.result c.args.book c.load.new.seat.me.1 c.take_back.ensures.book (ap (λ (m : Seated). m.1) told)

pub returns-clause-after : goal.returns-clause-after
returns-clause-after g c = λ change book.
    let told = changed_so c.args.seat.now.me _ c.load.new.seat.me c.load.result c.args.book change c.requires.slot book
    (c.exchange.ensures.3 ∙ ap (λ s. (c.args.seat.now.me.0, (0, s) ∷ rest c.args.seat.now.me.1)) c.with.ensures) c.load.ensures.2 in
    c.take_back.ensures.after ∙ ap (λ (m : Seated). (m.0, (0, out) ∷ [])) told
