-- Journals with a shut line, and what an operation may be answered.
use Rattle.std.proofs.Common.{Bool, ◌≡◌, ℕ, ◌+◌, ◌<◌, ◌≤◌, ◌⊎◌, inl, inr, true, false, List, [], ◌∷◌, ◌++◌, length, map, length-append, refl, sym, ◌∙◌, ap, subst, arith}
use Rattle.std.specs.Prelude.{◌||◌, ◌↔◌, Option, Some, None}
use Rattle.std.specs.List.{AllByRecursion}
use Rattle.pq_types.specs.Asked.{Request, Reply, Answer, Line, Operation}
use Rattle.pq_types.specs.declared.request.Request.TheVariants.{Push, Pop, Least}
use Rattle.pq_types.specs.declared.answer.Answer.TheVariants.{Entered, BookFull, NoMemory, Refused}
use Rattle.pq_types.specs.declared.answer.Refusal.TheVariants.{Shut, Unarchived, Full}
use Rattle.pq_types.specs.Operation.{Asked, ByTicket, Shuts}
use Rattle.pq_types.specs.Entry.{entries_after}
use Rattle.pq_types.specs.History.{entries_of, left, shuts, is_shut, HeedsShut, EndsAtShut, Adds, IsHeard, IsAdmitted, Limits, MayDo}
use Rattle.pq_types.specs.Laws.{ShutByOneMore, StillHeeds, ShutLeavesAll, NothingBehindShut, bar_of, AnswersAgree, EntriesAgree, plain, MayDoPlainly, PlainRefuseNothing}
use Rattle.pq_types.specs.Outs.{StandsAt}
use Rattle.pq_types.proofs.History.{entries_more, all_more, length-left, tails}

not_both : {b : Bool} → b ≡ true → b ≡ false → ⊥
not_both {b} t f = absurd (differ (sym t ∙ f)) where
  differ : true ≡ false → ⊥
  differ e = cc

or_assoc : (a b c : Bool) → (a || (b || c)) ≡ ((a || b) || c)
or_assoc true b c = refl
or_assoc false b c = refl

pub shut_more : ShutByOneMore
shut_more [] l = or_none (shuts l.operation) where
  or_none : (b : Bool) → (b || false) ≡ (false || b)
  or_none true = refl
  or_none false = refl
shut_more (m ∷ ls) l = ap (λ b. shuts m.operation || b) (shut_more ls l) ∙ or_assoc (shuts m.operation) (is_shut ls) (shuts l.operation)

-- the first line shuts it, or another does
or_left : (a b : Bool) → a ≡ true → (a || b) ≡ true
or_left a b e = subst (λ c. (c || b) ≡ true) (sym e) refl

or_right : (a b : Bool) → (a || b) ≡ false → b ≡ false
or_right true b e = absurd (not_both {b = true} refl e)
or_right false b e = e

pub heeds_more : StillHeeds
heeds_more [] l h heard = ((λ e. tt), tt)
heeds_more (m ∷ ls) l h heard = (
  (λ e. all_more (λ k. EndsAtShut k.operation → ⊥) ls l (h.0 e) (λ ends. not_both (or_left (shuts m.operation) (is_shut ls) e) (heard ends))),
  heeds_more ls l h.1 (λ ends. or_right (shuts m.operation) (is_shut ls) (heard ends)),
)

pub shut_leaves : ShutLeavesAll
shut_leaves ls l is = entries_more ls l ∙ ap (λ o. entries_after (entries_of ls) (length ls + 1) o) is

-- what holds of all lines of a list holds of one that stands in it
all_at : {A : Type 0} (P : A → Type 0) (front : List A) (x : A) (back : List A) → AllByRecursion P (front ++ x ∷ back) → P x
all_at P [] x back h = h.0
all_at P (y ∷ front) x back h = all_at P front x back h.1

-- what holds of all lines after one holds of each that stands later
all_later : {A : Type 0} (P : A → Type 0) (before : List A) (x : A) (behind before' : List A) (y : A) (behind' : List A)
    → before ++ x ∷ behind ≡ before' ++ y ∷ behind' → length before < length before' → AllByRecursion P behind → P y
all_later P [] x behind [] y behind' e less h = absurd (omega (arith, less))
all_later P [] x behind (z ∷ before') y behind' e less h = all_at P before' y behind' (subst (AllByRecursion P) (tails e) h)
all_later P (z ∷ before) x behind [] y behind' e less h = absurd (omega (arith, less))
all_later P (z ∷ before) x behind (w ∷ before') y behind' e less h =
    all_later P before x behind before' y behind' (tails e) (omega (arith, less)) h

behind_heeds : (before : List Line) (shut : Line) (behind : List Line) → HeedsShut (before ++ shut ∷ behind) → shut.operation ≡ Shuts
    → AllByRecursion (λ m. EndsAtShut m.operation → ⊥) behind
behind_heeds [] shut behind h is = h.0 (ap shuts is)
behind_heeds (m ∷ before) shut behind h is = behind_heeds before shut behind h.1 is

pub nothing_behind : NothingBehindShut
nothing_behind journal k n shut line heeds at is at' later =
    all_later (λ m. EndsAtShut m.operation → ⊥) at.before shut at.behind at'.before line at'.behind (sym at.split ∙ at'.split)
    (omega (arith, at.counted, at'.counted, later)) (behind_heeds at.before shut at.behind (subst HeedsShut at.split heeds) is)

pub answers_agree : AnswersAgree
answers_agree limits lines o (Entered m r) (Entered n s) p q = refl
answers_agree limits lines o (Entered m r) BookFull p q = absurd (omega (arith, q, p.0.space))
answers_agree limits lines o (Entered m r) NoMemory p q = refl
answers_agree limits lines o (Entered m r) (Refused Shut) p q = absurd (not_both q.2 (p.0.heard q.1))
answers_agree limits lines o (Entered m r) (Refused Unarchived) p q = absurd (omega (arith, q.1, p.0.kept))
answers_agree limits lines o (Entered m r) (Refused Full) p q = absurd (omega (arith, q.3, p.0.below q.2))
answers_agree limits lines o BookFull (Entered n s) p q = absurd (omega (arith, p, q.0.space))
answers_agree limits lines o BookFull BookFull p q = refl
answers_agree limits lines o BookFull NoMemory p q = absurd (omega (arith, p, q.0.space))
answers_agree limits lines o BookFull (Refused Shut) p q = absurd (omega (arith, p, q.0))
answers_agree limits lines o BookFull (Refused Unarchived) p q = absurd (omega (arith, p, q.0))
answers_agree limits lines o BookFull (Refused Full) p q = absurd (omega (arith, p, q.0))
answers_agree limits lines o NoMemory (Entered n s) p q = refl
answers_agree limits lines o NoMemory BookFull p q = absurd (omega (arith, q, p.0.space))
answers_agree limits lines o NoMemory NoMemory p q = refl
answers_agree limits lines o NoMemory (Refused Shut) p q = absurd (not_both q.2 (p.0.heard q.1))
answers_agree limits lines o NoMemory (Refused Unarchived) p q = absurd (omega (arith, q.1, p.0.kept))
answers_agree limits lines o NoMemory (Refused Full) p q = absurd (omega (arith, q.3, p.0.below q.2))
answers_agree limits lines o (Refused Shut) (Entered n s) p q = absurd (not_both p.2 (q.0.heard p.1))
answers_agree limits lines o (Refused Shut) BookFull p q = absurd (omega (arith, q, p.0))
answers_agree limits lines o (Refused Shut) NoMemory p q = absurd (not_both p.2 (q.0.heard p.1))
answers_agree limits lines o (Refused Shut) (Refused Shut) p q = refl
answers_agree limits lines o (Refused Shut) (Refused Unarchived) p q = absurd (not_both p.2 (q.2 p.1))
answers_agree limits lines o (Refused Shut) (Refused Full) p q = absurd (not_both p.2 (q.4 p.1))
answers_agree limits lines o (Refused Unarchived) (Entered n s) p q = absurd (omega (arith, p.1, q.0.kept))
answers_agree limits lines o (Refused Unarchived) BookFull p q = absurd (omega (arith, q, p.0))
answers_agree limits lines o (Refused Unarchived) NoMemory p q = absurd (omega (arith, p.1, q.0.kept))
answers_agree limits lines o (Refused Unarchived) (Refused Shut) p q = absurd (not_both q.2 (p.2 q.1))
answers_agree limits lines o (Refused Unarchived) (Refused Unarchived) p q = refl
answers_agree limits lines o (Refused Unarchived) (Refused Full) p q = absurd (omega (arith, p.1, q.1))
answers_agree limits lines o (Refused Full) (Entered n s) p q = absurd (omega (arith, p.3, q.0.below p.2))
answers_agree limits lines o (Refused Full) BookFull p q = absurd (omega (arith, q, p.0))
answers_agree limits lines o (Refused Full) NoMemory p q = absurd (omega (arith, p.3, q.0.below p.2))
answers_agree limits lines o (Refused Full) (Refused Shut) p q = absurd (not_both q.2 (p.4 q.1))
answers_agree limits lines o (Refused Full) (Refused Unarchived) p q = absurd (omega (arith, q.1, p.1))
answers_agree limits lines o (Refused Full) (Refused Full) p q = refl

pub entries_agree : EntriesAgree
entries_agree limits lines o m n r s p q = (p.1 ∙ sym q.1, p.2 ∙ sym q.2)

-- where there is room for a line, nothing else refuses
admitted : (room : ℕ) (lines : List Line) (o : Operation) → is_shut lines ≡ false → length lines < room → IsAdmitted (plain room) lines o
admitted room lines o unshut space =
    record { space = space; kept = space; heard = λ e. unshut; below = λ a. omega (arith, space, length-left lines) }

pub plain_refuse_nothing : PlainRefuseNothing
plain_refuse_nothing room lines o (Entered n r) unshut = ((λ p. (p.0.space, p.1, p.2)), (λ p. (admitted room lines o unshut p.0, p.1, p.2)))
plain_refuse_nothing room lines o BookFull unshut = ((λ p. p), (λ p. p))
plain_refuse_nothing room lines o NoMemory unshut = ((λ p. (p.0.space, p.1)), (λ p. (admitted room lines o unshut p.0, p.1)))
plain_refuse_nothing room lines o (Refused Shut) unshut = ((λ p. not_both p.2 unshut), (λ p. absurd p))
plain_refuse_nothing room lines o (Refused Unarchived) unshut = ((λ p. absurd (omega (arith, p.0, p.1))), (λ p. absurd p))
plain_refuse_nothing room lines o (Refused Full) unshut = ((λ p. absurd (omega (arith, p.0, p.3, length-left lines))), (λ p. absurd p))
