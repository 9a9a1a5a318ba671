use Rattle.std.proofs.Common.{◌≡◌, ℕ, ◌+◌, arith}
use Rattle.std.proofs.lemmas.Result.{IfOk-weaker}
use Rattle.std.specs.Prelude.{[], Result, Ok, Err, IfOk}
use Rattle.pq_book.specs.Book.{IsLongRoom, IsPlain, Volume}
use Rattle.pq_book.proofs.book.Book.lasting.Goals as goal

-- A book whose bound is one more than its room is a plain one.
plain_if : {E : Type 0} (r : Result Volume E) (room bound : ℕ) → (IsLongRoom room → bound ≡ room + 1) → IfOk r (λ book. (book.room ≡ room) × (book.bound ≡ bound) × (book.allowed ≡ room) × (book.journal ≡ [])) → IfOk r (λ _. IsLongRoom room) → IfOk r IsPlain
plain_if (Ok book) room bound adds h long = (omega (arith, h.0, h.1, adds long), omega (arith, h.0, h.2))
plain_if (Err error) room bound adds h long = tt

pub returns-clause-ok : goal.returns-clause-ok
returns-clause-ok g c = IfOk-weaker c.limited.result _ _ (λ _ h. (h.0, h.3)) c.limited.ensures.ok

pub returns-clause-plain : goal.returns-clause-plain
returns-clause-plain g c =
    plain_if c.limited.result c.args.room c.saturating_add.result
    (λ long. omega (arith, c.saturating_add.ensures, c.ranges.room.fits, long.0, long.1))
    c.limited.ensures.ok c.limited.ensures.in_range
