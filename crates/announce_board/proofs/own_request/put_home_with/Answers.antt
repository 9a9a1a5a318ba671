use Rattle.std.proofs.Common.{sym, ◌∷◌, ◌+◌, ◌<◌, length, ◌∙◌, subst, ap, arith}
use Rattle.pq_types.specs.Operation.{Asked}
use Rattle.atomic_table.specs.Table.{rest}
use Rattle.announce_board.specs.Rule.{Seated}
use Rattle.announce_board.specs.Slots.{out}
use Rattle.announce_board.specs.Steps.{pen_at}
use Rattle.announce_board.specs.Asking.{IsFullFor}
use Rattle.announce_board.proofs.ItemSteps.{wider_request}
use Rattle.pq_types.specs.History.{left, last_serial}
use Rattle.pq_book.specs.Stock.{settled_book}
use Rattle.pq_book.specs.Book.{AllHaveRoom, Volume}
use Rattle.desk_core.specs.Pen.{limits_in_hand}
use Rattle.announce_board.proofs.Homes.{in_hand, carried_out, release_with_owes, released_with}
use Rattle.announce_board.proofs.ToldLemmas.{above_the_last, own_answer_fits, own_behind, own_full, own_barred}
use Rattle.announce_board.proofs.own_request.put_home_with.Goals as goal

pub store-requires : goal.store-requires
store-requires g c =
    let proper = wider_request g.P.Part.wide c.args.request c.law_request_is_proper.ensures in
    let e = c.apply-answer.ensures in
    let h = c.requires in
    let there = (c.deref_mut.ensures.value ∙ c.book.view_is) ∙ h.book in
    let may = in_hand (pen_at c.args.seat.now.me) c.deref_mut.result.now (Asked c.args.request) c.apply-answer.result there e.answer in (
      c.exchange.ensures.0 ∙ h.here,
      h.lock,
      release_with_owes _ _ c.law_steps_are_allowed.ensures.release_with _ _ _ _ _ c.args.seat.now.me _ c.settled-book.result.0 (Asked c.args.request) c.apply-answer.result h.is h.leads h.due h.idle
          (omega (arith, h.serial, h.few)) proper may
          (c.settled-book.ensures.book ∙ ap settled_book (carried_out (pen_at c.args.seat.now.me) c.args.place c.args.serial c.deref_mut.result.now c.apply-answer.new.self (Asked c.args.request) c.apply-answer.result there h.place h.serial e.terms e.allowed e.journal)) (c.exchange.ensures.3 ∙ ap (λ s. (c.args.seat.now.me.0, (0, s) ∷ rest c.args.seat.now.me.1)) c.with.ensures),
    )

pub returns-clause-after : goal.returns-clause-after
returns-clause-after g c =
    let e = c.apply-answer.ensures in
    let h = c.requires in
    let there = (c.deref_mut.ensures.value ∙ c.book.view_is) ∙ h.book in
    let may = in_hand (pen_at c.args.seat.now.me) c.deref_mut.result.now (Asked c.args.request) c.apply-answer.result there e.answer in
    (released_with c.args.seat.now.me _ c.store.new.seat.me c.settled-book.result.0 (Asked c.args.request) c.apply-answer.result h.slot may
    (c.settled-book.ensures.book ∙ ap settled_book (carried_out (pen_at c.args.seat.now.me) c.args.place c.args.serial c.deref_mut.result.now c.apply-answer.new.self (Asked c.args.request) c.apply-answer.result there h.place h.serial e.terms e.allowed e.journal)) (c.exchange.ensures.3 ∙ ap (λ s. (c.args.seat.now.me.0, (0, s) ∷ rest c.args.seat.now.me.1)) c.with.ensures) c.store.ensures.2).0

pub returns-clause-behind : goal.returns-clause-behind
returns-clause-behind g c =
    let e = c.apply-answer.ensures in
    let h = c.requires in
    let there = (c.deref_mut.ensures.value ∙ c.book.view_is) ∙ h.book in
    let may = in_hand (pen_at c.args.seat.now.me) c.deref_mut.result.now (Asked c.args.request) c.apply-answer.result there e.answer in
    let told = released_with c.args.seat.now.me _ c.store.new.seat.me c.settled-book.result.0 (Asked c.args.request) c.apply-answer.result h.slot may
    (c.settled-book.ensures.book ∙ ap settled_book (carried_out (pen_at c.args.seat.now.me) c.args.place c.args.serial c.deref_mut.result.now c.apply-answer.new.self (Asked c.args.request) c.apply-answer.result there h.place h.serial e.terms e.allowed e.journal)) (c.exchange.ensures.3 ∙ ap (λ s. (c.args.seat.now.me.0, (0, s) ∷ rest c.args.seat.now.me.1)) c.with.ensures) c.store.ensures.2 in
    own_behind c.law_calls_are_lines.ensures.lines (pen_at c.args.seat.now.me) (Asked c.args.request) c.apply-answer.result told.1 h.idle may

pub returns-clause-barred : goal.returns-clause-barred
returns-clause-barred g c =
    let e = c.apply-answer.ensures in
    let h = c.requires in
    let there = (c.deref_mut.ensures.value ∙ c.book.view_is) ∙ h.book in
    let may = in_hand (pen_at c.args.seat.now.me) c.deref_mut.result.now (Asked c.args.request) c.apply-answer.result there e.answer in
    let told = released_with c.args.seat.now.me _ c.store.new.seat.me c.settled-book.result.0 (Asked c.args.request) c.apply-answer.result h.slot may
    (c.settled-book.ensures.book ∙ ap settled_book (carried_out (pen_at c.args.seat.now.me) c.args.place c.args.serial c.deref_mut.result.now c.apply-answer.new.self (Asked c.args.request) c.apply-answer.result there h.place h.serial e.terms e.allowed e.journal)) (c.exchange.ensures.3 ∙ ap (λ s. (c.args.seat.now.me.0, (0, s) ∷ rest c.args.seat.now.me.1)) c.with.ensures) c.store.ensures.2 in
    own_barred (pen_at c.args.seat.now.me) (Asked c.args.request) c.apply-answer.result told.1 may

pub returns-clause-full : goal.returns-clause-full
returns-clause-full g c =
    let e = c.apply-answer.ensures in
    let h = c.requires in
    let there = (c.deref_mut.ensures.value ∙ c.book.view_is) ∙ h.book in
    let may = in_hand (pen_at c.args.seat.now.me) c.deref_mut.result.now (Asked c.args.request) c.apply-answer.result there e.answer in
    let told = released_with c.args.seat.now.me _ c.store.new.seat.me c.settled-book.result.0 (Asked c.args.request) c.apply-answer.result h.slot may
    (c.settled-book.ensures.book ∙ ap settled_book (carried_out (pen_at c.args.seat.now.me) c.args.place c.args.serial c.deref_mut.result.now c.apply-answer.new.self (Asked c.args.request) c.apply-answer.result there h.place h.serial e.terms e.allowed e.journal)) (c.exchange.ensures.3 ∙ ap (λ s. (c.args.seat.now.me.0, (0, s) ∷ rest c.args.seat.now.me.1)) c.with.ensures) c.store.ensures.2 in
    λ f. subst (λ (m : Seated). IsFullFor (pen_at m)) (sym told.0.1) (own_full (pen_at c.args.seat.now.me) (Asked c.args.request) c.apply-answer.result told.0.0 f)

pub returns-clause-answers : goal.returns-clause-answers
returns-clause-answers g c =
    let e = c.apply-answer.ensures in
    let h = c.requires in
    let there = (c.deref_mut.ensures.value ∙ c.book.view_is) ∙ h.book in
    own_answer_fits g.P.Part.wide (limits_in_hand (pen_at c.args.seat.now.me)) (pen_at c.args.seat.now.me).hand (Asked c.args.request) c.apply-answer.result
    (in_hand (pen_at c.args.seat.now.me) c.deref_mut.result.now (Asked c.args.request) c.apply-answer.result there e.answer) e.proper

pub apply-answer-requires : goal.apply-answer-requires
apply-answer-requires g c =
    let h = c.requires in
    let there = (c.deref_mut.ensures.value ∙ c.book.view_is) ∙ h.book in
    let p = pen_at c.args.seat.now.me in
    let lt : last_serial p.place p.hand < p.posts + 1 = above_the_last p.place (p.posts + 1) p.hand (omega arith, omega (arith, h.serial, h.few)) h.used in
    subst (λ (b : Volume). last_serial c.args.place b.journal < c.args.serial) (sym there)
    (subst (λ k. last_serial k p.hand < c.args.serial) (sym h.place) (subst (λ s. last_serial p.place p.hand < s) (sym h.serial) lt))

pub returns-clause-spare : goal.returns-clause-spare
returns-clause-spare g c =
    let there = (c.deref_mut.ensures.value ∙ c.book.view_is) ∙ c.requires.book in
    λ all. c.apply-answer.ensures.spare (subst (λ (b : Volume). AllHaveRoom g.S.Store.room (length (left b.journal) + 1)) (sym there) all)

pub exchange-requires : goal.exchange-requires
exchange-requires g c = (c.requires.here, (out, c.requires.slot ∙ ap (λ l. (0, out) ∷ rest l) (sym c.requires.slot)))
