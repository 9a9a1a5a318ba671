use Rattle.std.proofs.Common.{◌≤◌, ◌∙◌, ap, sym, subst}
use Rattle.pq_types.specs.declared.journal.TheConstants.{MOST_LINES}
use Rattle.pq_types.specs.History.{SerialsRise, last_serial}
use Rattle.pq_book.specs.Book.{Volume}
use Rattle.pq_book.proofs.book.Book.last_serial.Goals as goal

pub last_serial_in-requires : goal.last_serial_in-requires
last_serial_in-requires g c =
    let short = subst (λ n. n ≤ MOST_LINES) (ap (λ (b : Volume). b.room) c.self.view_is) c.if-self-gt-MOST_LINES.false in
    subst SerialsRise (sym (c.lines-lines.ensures.whole short)) c.lines-lines.ensures.rise

pub returns : goal.returns
returns g c =
    let short = subst (λ n. n ≤ MOST_LINES) (ap (λ (b : Volume). b.room) c.self.view_is) c.if-self-gt-MOST_LINES.false in
    record { value = c.last_serial_in.ensures ∙ ap (last_serial c.args.place) (c.lines-lines.ensures.whole short); none = tt }
