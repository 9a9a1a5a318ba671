-- What a Book may answer, whatever its bound is, and however many lines it allows: all that the rule of the desk needs.
use Rattle.std.proofs.Common.{◌≡◌, ℕ, ◌+◌, ◌<◌, ◌∙◌, true, List, length, subst}
use Rattle.pq_types.specs.Asked.{Request, Operation, Answer, Line}
use Rattle.pq_types.specs.Operation.{Asked}
use Rattle.pq_types.specs.declared.answer.Answer.TheVariants.{Entered, BookFull, NoMemory, Refused}
use Rattle.pq_types.specs.declared.answer.Refusal.TheVariants.{Shut, Unarchived, Full}
use Rattle.pq_types.specs.Entry.{reply_by}
use Rattle.pq_types.specs.History.{entries_of, PutsIn, Adds, EndsAtShut, IsHeard, is_shut, Limits, MayDo}

-- By the first that is true: BookFull where the journal is full; Shut where a shut refuses the operation. Else it is
-- entered, or refused: a push or a move for want of memory, a push by the bound, any operation for lines that
-- are not archived.
abbrev pub MayTell : ℕ → List Line → Operation → Answer → Type 0
MayTell room lines operation (Entered number reply) =
    (length lines < room) × (number ≡ length lines + 1) × (reply ≡ reply_by (entries_of lines) operation) × IsHeard lines operation
MayTell room lines operation BookFull = length lines ≡ room
MayTell room lines operation NoMemory = (length lines < room) × PutsIn operation × IsHeard lines operation
MayTell room lines operation (Refused Shut) = (length lines < room) × EndsAtShut operation × (is_shut lines ≡ true)
MayTell room lines operation (Refused Unarchived) = (length lines < room) × IsHeard lines operation
MayTell room lines operation (Refused Full) = (length lines < room) × Adds operation × IsHeard lines operation

-- of a request
abbrev pub MayTellOf : ℕ → List Line → Request → Answer → Type 0
MayTellOf room lines request answer = MayTell room lines (Asked request) answer

pub loosely : (limits : Limits) (room : ℕ) (lines : List Line) (o : Operation) (answer : Answer) → limits.room ≡ room → MayDo limits lines o answer
    → MayTell room lines o answer
loosely limits room lines o (Entered n r) e may = (subst (λ n. length lines < n) e may.0.space, may.1, may.2, may.0.heard)
loosely limits room lines o BookFull e may = may ∙ e
loosely limits room lines o NoMemory e may = (subst (λ n. length lines < n) e may.0.space, may.1, may.0.heard)
loosely limits room lines o (Refused Shut) e may = (subst (λ n. length lines < n) e may.0, may.1, may.2)
loosely limits room lines o (Refused Unarchived) e may = (subst (λ n. length lines < n) e may.0, may.2)
loosely limits room lines o (Refused Full) e may = (subst (λ n. length lines < n) e may.0, may.2, may.4)
