-- Cells after a store, and what a control and an item cell say together.
use Rattle.std.proofs.Common.{◌≡◌, ◌≢◌, ℕ, true, refl, ap, sym, ◌∙◌, eq-eqb, ne_eqb}
use Rattle.std.specs.Prelude.{Option, Some, None}
use Rattle.pq_types.specs.Item.{Item}
use Rattle.pq_types.specs.Asked.{Request}
use Rattle.pq_types.specs.declared.request.Request.TheVariants.{Push, Pop, Least}
use Rattle.pq_types.specs.Asked.{Reply}
use Rattle.pq_types.specs.declared.answer.Reply.TheVariants as reply
use Rattle.pq_types.specs.Asked.{Answer}
use Rattle.pq_types.specs.declared.answer.Answer.TheVariants.{Entered, BookFull, NoMemory, Refused}
use Rattle.pq_types.specs.declared.control.Kind.{Kind}
use Rattle.pq_types.specs.declared.control.Kind.TheVariants as kind
use Rattle.pq_types.specs.declared.control.Outcome.{Outcome}
use Rattle.pq_types.specs.declared.control.Outcome.TheVariants as outcome
use Rattle.pq_types.specs.declared.control.Notice.{Notice}
use Rattle.pq_types.specs.declared.control.Notice.TheVariants as notice
use Rattle.pq_types.specs.declared.control.Control.{Control}
use Rattle.pq_types.specs.declared.control.Control.TheVariants.{Nothing, Posted, Answered}
use Rattle.pq_types.specs.Control.{kind_of, request_item, outcome_of, reply_with, reply_item, notice_of, answer_with, answer_item, answered, Carries, is_posted, is_answer}
use Rattle.desk_core.specs.Pen.{IsKept, told_by}
use Rattle.desk_core.specs.Desk.{put}

-- what stands in a cell after a store, there and elsewhere
pub put_here : {X : Type 0} (cells : ℕ → X) (k : ℕ) (x : X) → put cells k x k ≡ x
put_here cells k x = rw (eq-eqb k k refl) refl

pub put_else : {X : Type 0} (cells : ℕ → X) (k : ℕ) (x : X) (j : ℕ) → j ≢ k → put cells k x j ≡ cells j
put_else cells k x j ne = rw (ne_eqb j k ne) refl

-- no control is two of the three
pub no_post : (c : Control) (s : ℕ) (k : Kind) → c ≡ Posted s k → is_answer c ≡ true → ⊥
no_post c s k e h = let f : is_answer (Posted s k) ≡ true = ap is_answer (sym e) ∙ h in cc

pub not_nothing : (c : Control) (s : ℕ) (k : Kind) → c ≡ Posted s k → c ≡ Nothing → ⊥
not_nothing c s k e h = let f : Posted s k ≡ Nothing = sym e ∙ h in cc

pub not_both : (c : Control) → is_posted c ≡ true → is_answer c ≡ true → ⊥
not_both Nothing h a = cc
not_both (Posted s k) h a = cc
not_both (Answered n) h a = cc

-- what is kept of a record stands in its cell
pub kept_carries : (want kept : Option Item) (cell : Item) → IsKept want kept → Carries kept cell → Carries want cell
kept_carries None kept cell i h = tt
kept_carries (Some x) None cell i h = absurd (cc i)
kept_carries (Some x) (Some y) cell i h = h ∙ (let g : y ≡ x = cc in g)

-- a kind and an item cell say which request it is
pub same_request : (cell : Item) (q r : Request) → Carries (request_item q) cell → Carries (request_item r) cell → kind_of q ≡ kind_of r → q ≡ r
same_request cell (Push x) (Push y) p u e = ap Push (sym p ∙ u)
same_request cell Pop Pop p u e = refl
same_request cell Least Least p u e = refl
same_request cell q r p u e = absurd (cc e)

-- and of a request that is no push the kind says it alone
pub no_item : (q : Request) → kind_of q ≢ kind.Push → request_item q ≡ None
no_item (Push x) ne = absurd (ne refl)
no_item Pop ne = refl
no_item Least ne = refl

-- an outcome and an item cell say which reply it is, a notice and an item cell which answer
pub same_reply : (cell : Item) (q r : Reply) → Carries (reply_item q) cell → Carries (reply_item r) cell → outcome_of q ≡ outcome_of r → q ≡ r
same_reply cell reply.Pushed reply.Pushed p u e = refl
same_reply cell (reply.Got x) (reply.Got y) p u e = ap reply.Got (sym p ∙ u)
same_reply cell (reply.Least x) (reply.Least y) p u e = ap reply.Least (sym p ∙ u)
same_reply cell reply.Empty reply.Empty p u e = refl
same_reply cell q r p u e = absurd (cc e)

pub same_answer : (cell : Item) (a b : Answer) → Carries (answer_item a) cell → Carries (answer_item b) cell → answered a ≡ answered b → a ≡ b
same_answer cell (Entered l q) (Entered m r) p u e =
    let f : l ≡ m = cc in
    let o : outcome_of q ≡ outcome_of r = cc in
    let g : q ≡ r = same_reply cell q r p u o in
    cc
same_answer cell BookFull BookFull p u e = refl
same_answer cell NoMemory NoMemory p u e = refl
same_answer cell (Refused why) (Refused other) p u e = let f : why ≡ other = cc in ap Refused f
same_answer cell a b p u e = absurd (cc e)

-- a reply with the item of the cell is one that the cell carries
with_cell_outcome : (o : Outcome) (cell : Item) → Carries (reply_item (reply_with o cell)) cell
with_cell_outcome outcome.Pushed cell = tt
with_cell_outcome outcome.Got cell = refl
with_cell_outcome outcome.Least cell = refl
with_cell_outcome outcome.Empty cell = tt

pub with_cell_answer : (n : Notice) (cell : Item) → Carries (answer_item (answer_with n cell)) cell
with_cell_answer (notice.Entered l o) cell = with_cell_outcome o cell
with_cell_answer notice.BookFull cell = tt
with_cell_answer notice.NoMemory cell = tt
with_cell_answer (notice.Refused why) cell = tt

outcome_back : (o : Outcome) (cell : Item) → outcome_of (reply_with o cell) ≡ o
outcome_back outcome.Pushed cell = refl
outcome_back outcome.Got cell = refl
outcome_back outcome.Least cell = refl
outcome_back outcome.Empty cell = refl

pub notice_back : (n : Notice) (cell : Item) → notice_of (answer_with n cell) ≡ n
notice_back (notice.Entered l o) cell = ap (notice.Entered l) (outcome_back o cell)
notice_back notice.BookFull cell = refl
notice_back notice.NoMemory cell = refl
notice_back (notice.Refused why) cell = refl

-- an answer that a control tells by itself is its answer, and has no item
pub told_is : (c : Control) (a : Answer) → told_by c ≡ Some a → (c ≡ answered a) × (answer_item a ≡ None)
told_is Nothing a e = absurd (cc e)
told_is (Posted s k) a e = absurd (cc e)
told_is (Answered (notice.Entered l outcome.Pushed)) a e = let f : Entered l reply.Pushed ≡ a = cc in (ap answered f, ap answer_item (sym f))
told_is (Answered (notice.Entered l outcome.Got)) a e = absurd (cc e)
told_is (Answered (notice.Entered l outcome.Least)) a e = absurd (cc e)
told_is (Answered (notice.Entered l outcome.Empty)) a e = let f : Entered l reply.Empty ≡ a = cc in (ap answered f, ap answer_item (sym f))
told_is (Answered notice.BookFull) a e = let f : BookFull ≡ a = cc in (ap answered f, ap answer_item (sym f))
told_is (Answered notice.NoMemory) a e = let f : NoMemory ≡ a = cc in (ap answered f, ap answer_item (sym f))
told_is (Answered (notice.Refused why)) a e = let f : (Refused why) ≡ a = cc in (ap answered f, ap answer_item (sym f))
