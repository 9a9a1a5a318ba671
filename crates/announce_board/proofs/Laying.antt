-- What a leader owes to the steps by which it answers.
use Rattle.std.proofs.Common.{◌≡◌, ◌≢◌, ℕ, List, refl, ap, sym, ◌∙◌, subst}
use Rattle.std.specs.Prelude.{Some, None}
use Rattle.pq_types.specs.Item.{Item}
use Rattle.pq_types.specs.Asked.{Request}
use Rattle.pq_types.specs.declared.request.Request.TheVariants.{Push, Pop, Least}
use Rattle.pq_types.specs.Asked.{Answer}
use Rattle.pq_types.specs.declared.answer.Answer.TheVariants as answer
use Rattle.pq_types.specs.declared.control.Kind.TheVariants as kind
use Rattle.pq_types.specs.Asked.{Line}
use Rattle.pq_types.specs.Control.{kind_of, request_item, answer_item, reply_item}
use Rattle.pq_types.specs.History.{Limits, MayAnswer}
use Rattle.desk_core.specs.Pen.{IsKept, with_known, after_answer}
use Rattle.desk_core.specs.declared.model.PenState.{PenState}
use Rattle.desk_core.specs.declared.model.View.TheVariants.{Holder}
use Rattle.announce_board.specs.ItemWords.{laid_by}
use Rattle.announce_board.specs.Rule.{Seated}
use Rattle.announce_board.specs.Steps.{pen_at, Becomes}
use Rattle.announce_board.specs.Serving.{IsDueFor, due_of, laid_and_answered_by}
use Rattle.announce_board.proofs.Looks.{pen_is}

kept_own : (q : Request) → IsKept (request_item q) (request_item q)
kept_own (Push x) = refl
kept_own Pop = tt
kept_own Least = tt

-- an answer with an item is none to a push
pub no_push : (limits : Limits) (hand : List Line) (q : Request) (a : Answer) (x : Item) → MayAnswer limits hand q a → answer_item a ≡ Some x → kind_of q ≢ kind.Push
no_push limits hand (Push y) (answer.Entered n r) x may e g = let f : None ≡ Some x = sym (ap reply_item may.2) ∙ e in absurd (cc f)
no_push limits hand Pop (answer.Entered n r) x may e g = absurd (cc g)
no_push limits hand Least (answer.Entered n r) x may e g = absurd (cc g)
no_push limits hand q answer.BookFull x may e g = absurd (cc e)
no_push limits hand q answer.NoMemory x may e g = absurd (cc e)
no_push limits hand q (answer.Refused why) x may e g = absurd (cc e)

kept_else : (q : Request) (x : Item) → kind_of q ≢ kind.Push → IsKept (request_item q) (Some x)
kept_else (Push y) x ne = absurd (ne refl)
kept_else Pop x ne = tt
kept_else Least x ne = tt

pub due_plain : (p : PenState) (place serial : ℕ) (q : Request) (a : Answer) → p.due ≡ Some (due_of place serial q) → answer_item a ≡ None → IsDueFor p place q a (due_of place serial q)
due_plain p place serial q a e none = record { is_due = e; here = refl; kind = refl; known = kept_own q; laid = subst (λ o. IsKept o (request_item q)) (sym none) tt }

due_laid : (words : ℕ) (p : PenState) (place serial : ℕ) (limits : Limits) (hand : List Line) (q : Request) (a : Answer) (x : Item) → MayAnswer limits hand q a → answer_item a ≡ Some x
    → IsDueFor (laid_by words p (due_of place serial q) x) place q a (with_known (due_of place serial q) x)
due_laid words p place serial limits hand q a x may e =
    record { is_due = refl; here = refl; kind = refl; known = kept_else q x (no_push limits hand q a x may e); laid = subst (λ o. IsKept o (Some x)) (sym e) refl }

-- the same of a seat where the item was just laid
pub due_after : (words : ℕ) (before between : Seated) (place serial : ℕ) (limits : Limits) (hand : List Line) (q : Request) (a : Answer) (x : Item) → MayAnswer limits hand q a → answer_item a ≡ Some x
    → Becomes before (laid_by words (pen_at before) (due_of place serial q) x) between → IsDueFor (pen_at between) place q a (with_known (due_of place serial q) x)
due_after words before between place serial limits hand q a x may e next =
    subst (λ r. IsDueFor r place q a (with_known (due_of place serial q) x)) (sym (pen_is before between (laid_by words (pen_at before) (due_of place serial q) x) next))
    (due_laid words (pen_at before) place serial limits hand q a x may e)

-- and it knows the same room
pub room_laid : (words : ℕ) (before between : Seated) (place serial : ℕ) (q : Request) (x : Item)
    → Becomes before (laid_by words (pen_at before) (due_of place serial q) x) between → (pen_at between).room ≡ (pen_at before).room
room_laid words before between place serial q x next = ap (λ (r : PenState). r.room) (pen_is before between (laid_by words (pen_at before) (due_of place serial q) x) next)

pub answered_plain : (words : ℕ) (before after : Seated) (place serial : ℕ) (q : Request) (a : Answer) → answer_item a ≡ None → Becomes before (after_answer (pen_at before) (due_of place serial q) q a) after
    → Becomes before (laid_and_answered_by words (answer_item a) (pen_at before) (due_of place serial q) q a) after
answered_plain words before after place serial q a none next = subst (λ o. Becomes before (laid_and_answered_by words o (pen_at before) (due_of place serial q) q a) after) (sym none) next

pub answered_laid : (words : ℕ) (before between after : Seated) (place serial : ℕ) (q : Request) (a : Answer) (x : Item) → answer_item a ≡ Some x
    → Becomes before (laid_by words (pen_at before) (due_of place serial q) x) between → Becomes between (after_answer (pen_at between) (with_known (due_of place serial q) x) q a) after
    → Becomes before (laid_and_answered_by words (answer_item a) (pen_at before) (due_of place serial q) q a) after
answered_laid words before between after place serial q a x item laid next =
    let due = due_of place serial q in
    let f : Seated → Seated = λ m. (Holder (after_answer (pen_at m) (with_known due x) q a), m.1) in
    subst (λ o. Becomes before (laid_and_answered_by words o (pen_at before) due q a) after) (sym item) (next ∙ ap f laid)
