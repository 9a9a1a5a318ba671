use Rattle.std.proofs.Common.{sym, ◌∷◌, [], ◌∙◌, ap}
use Rattle.atomic_table.specs.Table.{rest}
use Rattle.announce_board.specs.Rule.{Seated}
use Rattle.announce_board.specs.Slots.{out}
use Rattle.announce_board.specs.Steps.{pen_at}
use Rattle.announce_board.proofs.Homes.{archive_owes, archived, allows_more, same_held}
use Rattle.announce_board.proofs.archiving.allow_more.Goals as goal

pub exchange-requires : goal.exchange-requires
exchange-requires g c = (c.requires.here, (out, c.requires.slot ∙ ap (λ l. (0, out) ∷ rest l) (sym c.requires.slot)))

pub load-requires : goal.load-requires
load-requires g c =
    let e = c.archived.ensures in
    let book = allows_more (pen_at c.args.seat.now.me) c.deref_mut.result.now c.archived.new.self c.args.lines ((c.deref_mut.ensures.value ∙ c.book.view_is) ∙ c.requires.book) e.terms e.journal e.allowed in (
      c.exchange.ensures.0 ∙ c.requires.here,
      c.requires.lock,
      archive_owes _ _ c.law_steps_are_allowed.ensures.archive _ _ _ _ _ c.args.seat.now.me _ c.archived.new.self c.args.lines c.requires.is c.requires.leads book
          (c.exchange.ensures.3 ∙ ap (λ s. (c.args.seat.now.me.0, (0, s) ∷ rest c.args.seat.now.me.1)) c.with.ensures),
    )

pub take_back-requires-clause-slot : goal.take_back-requires-clause-slot
take_back-requires-clause-slot g c =
    let e = c.archived.ensures in
    let book = allows_more (pen_at c.args.seat.now.me) c.deref_mut.result.now c.archived.new.self c.args.lines ((c.deref_mut.ensures.value ∙ c.book.view_is) ∙ c.requires.book) e.terms e.journal e.allowed in
    let told = archived c.args.seat.now.me _ c.load.new.seat.me c.load.result c.archived.new.self c.args.lines c.requires.slot book
    (c.exchange.ensures.3 ∙ ap (λ s. (c.args.seat.now.me.0, (0, s) ∷ rest c.args.seat.now.me.1)) c.with.ensures) c.load.ensures.2 in
    (c.archived.new.self, ap (λ (m : Seated). m.1) told)

pub returns-clause-book : goal.returns-clause-book
returns-clause-book g c =
    let e = c.archived.ensures in
    let book = allows_more (pen_at c.args.seat.now.me) c.deref_mut.result.now c.archived.new.self c.args.lines ((c.deref_mut.ensures.value ∙ c.book.view_is) ∙ c.requires.book) e.terms e.journal e.allowed in
    let told = archived c.args.seat.now.me _ c.load.new.seat.me c.load.result c.archived.new.self c.args.lines c.requires.slot book
    (c.exchange.ensures.3 ∙ ap (λ s. (c.args.seat.now.me.0, (0, s) ∷ rest c.args.seat.now.me.1)) c.with.ensures) c.load.ensures.2 in
    same_held c.take_back.result c.archived.new.self c.load.new.seat.me.1 c.take_back.ensures.book (ap (λ (m : Seated). m.1) told) ∙ book

pub returns-clause-after : goal.returns-clause-after
returns-clause-after g c =
    let e = c.archived.ensures in
    let book = allows_more (pen_at c.args.seat.now.me) c.deref_mut.result.now c.archived.new.self c.args.lines ((c.deref_mut.ensures.value ∙ c.book.view_is) ∙ c.requires.book) e.terms e.journal e.allowed in
    let told = archived c.args.seat.now.me _ c.load.new.seat.me c.load.result c.archived.new.self c.args.lines c.requires.slot book
    (c.exchange.ensures.3 ∙ ap (λ s. (c.args.seat.now.me.0, (0, s) ∷ rest c.args.seat.now.me.1)) c.with.ensures) c.load.ensures.2 in
    c.take_back.ensures.after ∙ ap (λ (m : Seated). (m.0, (0, out) ∷ [])) told
