use Rattle.std.proofs.Common.{◌≤◌, ℕ, arith, subst}
use Rattle.std.specs.Prelude.{◌↔◌, Result, Ok, Err, IfOk, IsErrOf}
use Rattle.pq_types.specs.declared.journal.TheConstants.{MOST_LINES}
use Rattle.pq_book.specs.Book.{IsRoom, IsLongRoom}
use Rattle.pq_book.specs.declared.book.BookError.TheVariants.{LinesOutOfRange}
use Rattle.pq_book.proofs.book.Book.new.Goals as goal

-- so few lines are a room of a short journal where they are one of any
if_short : {T E : Type 0} (r : Result T E) (lines : ℕ) → lines ≤ MOST_LINES → IfOk r (λ _. IsLongRoom lines) → IfOk r (λ _. IsRoom lines)
if_short (Ok book) lines few h = (h.0, few)
if_short (Err error) lines few h = tt

unless_short : {A : Type 0} (lines : ℕ) → lines ≤ MOST_LINES → (A ↔ (¬ (IsLongRoom lines))) → (A ↔ (¬ (IsRoom lines)))
unless_short lines few h = (λ a room. h.0 a (room.0, omega (arith, few)), λ never. h.1 (λ long. never (long.0, few)))

pub returns-clause-in_range : goal.returns-clause-in_range
returns-clause-in_range g c =
    let few : c.args.lines ≤ MOST_LINES = omega arith in
    if_short c.lasting.result c.args.lines few (subst (λ n. IfOk c.lasting.result (λ _. IsLongRoom n)) c.from-2.ensures c.lasting.ensures.in_range)

pub returns-clause-out_of_range : goal.returns-clause-out_of_range
returns-clause-out_of_range g c =
    let few : c.args.lines ≤ MOST_LINES = omega arith in
    unless_short c.args.lines few (subst (λ n. IsErrOf c.lasting.result LinesOutOfRange ↔ (¬ (IsLongRoom n))) c.from-2.ensures c.lasting.ensures.out_of_range)
