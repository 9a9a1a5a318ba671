-- What the rule of desks tells a pen.
use Rattle.std.proofs.Common.{◌≡◌, ◌≢◌, ℕ, zero, suc, ◌+◌, ◌-◌, ◌<◌, inl, inr, ⊎_elim, Bool, true, false, List, [], ◌∷◌, ◌++◌, length, eqb-true, refl, ap, sym, ◌∙◌, subst, arith}
use Rattle.std.specs.Prelude.{Option, Some, None, map, slice_get, slice_set, max, if◌then◌else◌, ◌==◌}
use Rattle.std.specs.List.{AllByRecursion}
use Rattle.std.proofs.lemmas.Option.{slice_get_within}
use Rattle.atomic_table.proofs.Lists.{set_here}
use Rattle.pq_types.specs.Item.{Item}
use Rattle.pq_types.specs.Asked.{Request}
use Rattle.pq_types.specs.declared.request.Request.TheVariants.{Push, Pop, Least}
use Rattle.pq_types.specs.Asked.{Reply}
use Rattle.pq_types.specs.Asked.{Answer}
use Rattle.pq_types.specs.declared.answer.Answer.TheVariants.{Entered, BookFull, NoMemory, Refused}
use Rattle.pq_types.specs.declared.answer.Refusal.TheVariants.{Shut, Unarchived, Full}
use Rattle.pq_types.specs.declared.control.Outcome.{Outcome}
use Rattle.pq_types.specs.declared.control.Notice.TheVariants as notice
use Rattle.pq_types.specs.declared.control.Control.{Control}
use Rattle.pq_types.specs.declared.control.Control.TheVariants.{Answered}
use Rattle.pq_types.specs.Asked.{Line}
use Rattle.pq_types.specs.Asked.{Operation}
use Rattle.pq_types.specs.Operation.{Asked, ByTicket, Shuts, ticket_of, request_of}
use Rattle.pq_types.specs.Queue.{reply_to}
use Rattle.pq_types.specs.Entry.{Entry, item_of, item_at, taken, entries_after, reply_by}
use Rattle.pq_types.specs.Control.{answer_item, posted, answered, is_posted, Carries}
use Rattle.pq_types.specs.History.{IsLegalFrom, entries_of, last_serial, Limits, MayDo}
use Rattle.pq_types.specs.Mail.{IsProperAnswerOf}
use Rattle.desk_core.specs.Beyond.{AnswersAreBeyond}
use Rattle.desk_core.specs.Calls.{call, calls_of}
use Rattle.desk_core.specs.CallLines.{CallsAreLines, NumbersRise}
use Rattle.desk_core.specs.Desk.{Desk, Has, with_pen}
use Rattle.desk_core.specs.Clauses.{RuleGivesClauses, AnswerClause, ItemsClause, JournalClause}
use Rattle.desk_core.specs.Keeping.{ReadKeeps, DueIsNew}
use Rattle.desk_core.specs.Pen.{IsIdle, due_to, due_at, after_read, told_full_by, after_apply, after_release_by, limits_in_hand}
use Rattle.desk_core.specs.Rule.{MeetsRule, Stands, fresh, idle, unanswered, entered, full, barred, refused}
use Rattle.desk_core.specs.declared.model.Call.{Call}
use Rattle.desk_core.specs.declared.model.Standing.{Standing}
use Rattle.desk_core.specs.declared.model.Standing.TheVariants.{Idle, Waiting}
use Rattle.desk_core.specs.declared.model.PenState.{PenState}
use Rattle.desk_core.specs.declared.model.View.TheVariants.{Holder}
use Rattle.desk_core.specs.Knows.{Knows, IsReplyTo}
use Rattle.announce_board.specs.Asking.{IsAnswerBy, IsAnswerTo, IsAboveAll, IsFullFor}
use Rattle.announce_board.specs.Told.{WaitersAreTold, PostsAreNew, DuesStand, AboveTheLast, CellsStand}
use Rattle.announce_board.proofs.Sums.{length_at}

reply_fits : (xs : List Item) (q : Request) → IsReplyTo q (reply_to xs q)
reply_fits xs (Push x) = refl
reply_fits [] Pop = inl refl
reply_fits (y ∷ xs) Pop = inr (y, refl)
reply_fits [] Least = inl refl
reply_fits (y ∷ xs) Least = inr (y, refl)

taken_fits : (o : Option Item) → IsReplyTo Pop (taken o)
taken_fits None = inl refl
taken_fits (Some x) = inr (x, refl)

line_fits : (es : List Entry) (o : Operation) → IsReplyTo (request_of o) (reply_by es o)
line_fits es (Asked q) = reply_fits (map item_of es) q
line_fits es (ByTicket ticketed) = taken_fits (item_at (ticket_of ticketed) es)
line_fits es Shuts = inl refl

-- each line of a legal journal has a reply to its operation
legal_fits : (es : List Entry) (n : ℕ) (journal : List Line) (i : ℕ) (l : Line) → IsLegalFrom es n journal → slice_get journal i ≡ Some l
    → IsReplyTo (request_of l.operation) l.reply
legal_fits es n [] i l h e = absurd (cc e)
legal_fits es n (m ∷ ms) zero l h e =
    let f : Some m ≡ Some l = e in
    let g : m ≡ l = cc in
    subst (λ (y : Line). IsReplyTo (request_of y.operation) y.reply) g (subst (IsReplyTo (request_of m.operation)) (sym h.0) (line_fits es m.operation))
legal_fits es n (m ∷ ms) (suc i) l h e = legal_fits (entries_after es n m.operation) (n + 1) ms i l h.1 e

answer_fits : (room : ℕ) (journal : List Line) (p : PenState) (request : Request) (a : Answer) → JournalClause room journal → p.room ≡ room → AnswerClause room journal p request a → IsAnswerTo p.room request a
answer_fits room journal p request (Entered number reply) lawful told h =
    (h.0, omega (arith, h.0.0, slice_get_within journal (number - 1) _ h.1, lawful.within, told), legal_fits [] 1 journal (number - 1) _ lawful.legal h.1)
answer_fits room journal p request BookFull lawful told h = tt
answer_fits room journal p request NoMemory lawful told h = h.0
answer_fits room journal p request (Refused Shut) lawful told h = h.0
answer_fits room journal p request (Refused Unarchived) lawful told h = tt
answer_fits room journal p request (Refused Full) lawful told h = h.0

-- what an operation of the pen's own may be answered is an answer to it
pub own_answer_fits : (wide : Bool) (limits : Limits) (hand : List Line) (operation : Operation) (a : Answer) → MayDo limits hand operation a → IsProperAnswerOf wide a
    → IsAnswerBy limits.room operation a
own_answer_fits wide limits hand operation (Entered number reply) may proper =
    (proper.0, (let lt = may.0.space in omega (arith, lt, may.1)), subst (IsReplyTo (request_of operation)) (sym may.2) (line_fits (entries_of hand) operation))
own_answer_fits wide limits hand operation BookFull may proper = tt
own_answer_fits wide limits hand operation NoMemory may proper = may.1
own_answer_fits wide limits hand operation (Refused Shut) may proper = may.1
own_answer_fits wide limits hand operation (Refused Unarchived) may proper = tt
own_answer_fits wide limits hand operation (Refused Full) may proper = may.2

-- the item of an answer that stands in a waiting pen's record
carries : (d : Desk) (journal : List Line) (p : PenState) (request : Request) (a : Answer) → ItemsClause d journal p
    → p.standing ≡ Waiting request → d.control p.place ≡ answered a → AnswerClause d.room journal p request a → Carries (answer_item a) (d.item p.place)
carries d journal p request (Entered number reply) items waits e clause = items.answered request number reply waits e clause.1
carries d journal p request BookFull items waits e clause = tt
carries d journal p request NoMemory items waits e clause = tt
carries d journal p request (Refused why) items waits e clause = tt

-- what holds of each element holds of all
all_by_get : {A : Type 0} (P : A → Type 0) (xs : List A) → ((i : ℕ) (x : A) → slice_get xs i ≡ Some x → P x) → AllByRecursion P xs
all_by_get P [] h = tt
all_by_get P (x ∷ xs) h = (h 0 x refl, all_by_get P xs (λ i y e. h (suc i) y e))

get_more : {A : Type 0} (xs ys : List A) (i : ℕ) (x : A) → slice_get xs i ≡ Some x → slice_get (xs ++ ys) i ≡ Some x
get_more [] ys i x e = absurd (cc e)
get_more (y ∷ xs) ys zero x e = e
get_more (y ∷ xs) ys (suc i) x e = get_more xs ys i x e

get_last : {A : Type 0} (xs : List A) (x : A) → slice_get (xs ++ x ∷ []) (length xs) ≡ Some x
get_last [] x = refl
get_last (y ∷ xs) x = get_last xs x

-- the last call of a place is behind all others
last_above : NumbersRise → (place : ℕ) (journal : List Line) (mine : List Call) (c : Call) → calls_of place journal ≡ mine ++ c ∷ [] → IsAboveAll c.number mine
last_above rise place journal mine c e =
    all_by_get (λ (b : Call). b.number < c.number) mine
    (λ i b at. rise place journal (mine ++ c ∷ []) e i (length mine) b c (slice_get_within mine i b at) (get_more mine (c ∷ []) i b at) (get_last mine c))

-- what stands in the record of a pen that waits: an entered answer, and BookFull
module _ (room : ℕ) (journal : List Line) (control : Control) (cell : Item) (place posts : ℕ) (standing : Standing) (mine : List Call) (request : Request) (waits : standing ≡ Waiting request) where
  entered_call : (number : ℕ) (o : Outcome) → control ≡ Answered (notice.Entered number o) → Stands room journal control cell place posts standing mine
      → (q : Request) × (r : Reply) × (calls_of place journal ≡ mine ++ call number posts q r ∷ [])
  entered_call number o e (fresh draft s carries at seen) = absurd (let f : Idle draft ≡ Waiting request = sym s ∙ waits in cc f)
  entered_call number o e (idle draft s carries some at seen) = absurd (let f : Idle draft ≡ Waiting request = sym s ∙ waits in cc f)
  entered_call number o e (unanswered q s proper some at item seen) =
      absurd (let f : posted posts q ≡ Answered (notice.Entered number o) = sym at ∙ e in cc f)
  entered_call number o e (entered q l r s some proper at item seen there) =
      let f : answered (Entered l r) ≡ Answered (notice.Entered number o) = sym at ∙ e in
      let g : l ≡ number = cc in
      (q, r, seen ∙ ap (λ n. mine ++ call n posts q r ∷ []) g)
  entered_call number o e (full q s some at all seen) = absurd (let f : answered BookFull ≡ Answered (notice.Entered number o) = sym at ∙ e in cc f)
  entered_call number o e (refused q s some push at seen) = absurd (let f : answered NoMemory ≡ Answered (notice.Entered number o) = sym at ∙ e in cc f)
  entered_call number o e (barred q why s some both at seen) = absurd (let f : answered (Refused why) ≡ Answered (notice.Entered number o) = sym at ∙ e in cc f)

-- what the rule tells of the line of an entered answer
behind_all : NumbersRise → (d : Desk) (seat : ℕ) (p : PenState) (request : Request) → MeetsRule d → Has d.views seat p → p.standing ≡ Waiting request
    → (number : ℕ) (o : Outcome) → d.control p.place ≡ Answered (notice.Entered number o) → IsAboveAll number p.mine
behind_all rise d seat p request meets has waits number o e =
    let pen = meets.2.pens seat p has in
    let t = entered_call d.room meets.0 (d.control p.place) (d.item p.place) p.place p.posts p.standing p.mine request waits number o e pen.stands in
    last_above rise p.place meets.0 p.mine (call number p.posts t.0 t.1) t.2

-- who is told of a request of its own that the journal is full knows it
pub own_full : (p : PenState) (operation : Operation) (a : Answer) (now : ℕ) → a ≡ BookFull → IsFullFor (after_release_by p operation a now)
own_full p operation a now e = ap (told_full_by p.told_full) e

pub applied_full : (p : PenState) (request : Request) (a : Answer) (now : ℕ) → a ≡ BookFull → IsFullFor (after_apply p request a now)
applied_full p request a now e = ap (told_full_by p.told_full) e

-- who was told so before is not entered
pub own_barred : (p : PenState) (operation : Operation) (a : Answer) → Knows p.room p p.hand → MayDo (limits_in_hand p) p.hand operation a → IsFullFor p
    → (number : ℕ) (reply : Reply) → a ≢ Entered number reply
own_barred p operation a knows may f number reply e =
    let m : MayDo (limits_in_hand p) p.hand operation (Entered number reply) = subst (MayDo (limits_in_hand p) p.hand operation) e may in
    let lt = m.0.space in
    omega (arith, lt, knows.filled f)

pub own_behind : CallsAreLines → (p : PenState) (operation : Operation) (a : Answer) → Knows p.room p p.hand → IsIdle p.standing → MayDo (limits_in_hand p) p.hand operation a
    → (number : ℕ) (reply : Reply) → a ≡ Entered number reply → IsAboveAll number p.mine
own_behind lines p operation a knows free may number reply e =
    let m : MayDo (limits_in_hand p) p.hand operation (Entered number reply) = subst (MayDo (limits_in_hand p) p.hand operation) e may in
    all_by_get (λ (c : Call). c.number < number) p.mine
    (λ i c at. let h = (lines p.place p.hand p.mine (knows.idle free) i c at).within in omega (arith, h, m.1))

pub waiters_are_told : RuleGivesClauses → NumbersRise → AnswersAreBeyond → WaitersAreTold
waiters_are_told holds rise far d seat p meets has request waits =
    let all = holds d meets in
    let items = all.1.items seat p has in
    record {
      found =
          ⊎_elim
          (λ u. inl (u, items.posted request waits (ap is_posted u)))
          (λ u. inr (u.0, u.1, answer_fits d.room all.0 p request u.0 all.1.journal (meets.2.pens seat p has).told u.2, carries d all.0 p request u.0 items waits u.1 u.2))
          ((all.1.controls seat p has).waits request waits);
      own = all.1.own seat p has;
      behind = behind_all rise d seat p request meets has waits;
      beyond = λ number o e. far d seat p request number o meets has waits e;
      barred = λ f number o e. (meets.2.pens seat p has).barred f request number o waits e;
    }

pub dues_stand : RuleGivesClauses → DuesStand
dues_stand holds d seat p meets has due e = ((holds d meets).1.due seat p has due e).1

pub posts_are_new : ReadKeeps → DueIsNew → PostsAreNew
posts_are_new keeps new d seat p meets has place serial k leads e =
    let q : PenState = after_read p place (d.control place) in
    let here : Has (slice_set d.views seat (Holder q)) seat q = set_here d.views seat (Holder q) (length_at d.views seat (Holder p) has) in
    let n = new (with_pen d seat q) seat q (keeps d seat p meets has place leads) here (due_to place serial k None) (ap (due_at place) e) in
    record { in_range = n.serial; above = n.above; own = n.own }

below_max : (a b s : ℕ) → a < s → b < s → max a b < s
below_max a b s h k = omega (arith, h, k)

here_below : (b : Bool) (place s : ℕ) (l : Line) → (l.place == place) ≡ b → (place ≡ l.place → l.serial < s) → 0 < s → (if b then l.serial else 0) < s
here_below true place s l e h p = h (sym (eqb-true l.place place e))
here_below false place s l e h p = p

last_below : (place s : ℕ) (journal : List Line) → 0 < s → AllByRecursion (λ (l : Line). place ≡ l.place → l.serial < s) journal → last_serial place journal < s
last_below place s [] p h = p
last_below place s (l ∷ ls) p h = below_max (if l.place == place then l.serial else 0) (last_serial place ls) s (here_below (l.place == place) place s l refl h.0 p) (last_below place s ls p h.1)

pub above_the_last : AboveTheLast
above_the_last place serial journal range h = last_below place serial journal range.0 h

pub cells_stand : RuleGivesClauses → CellsStand
cells_stand holds =
    record {
      draft = λ d seat p meets has x e. ((holds d meets).1.items seat p has).draft x e;
      due = λ d seat p meets has due x e f. ((holds d meets).1.items seat p has).known due x e f;
      seen = λ d seat p meets has x e. ((holds d meets).1.items seat p has).seen x e;
    }
