-- What two steps, requests or answers have in common that are told by the same control, notice or journal.
use Rattle.std.proofs.Common.{◌≡◌, ◌≢◌, ℕ, ◌+◌, ◌<◌, Bool, true, false, List, [], ◌∷◌, ◌++◌, length, refl, length-append, ap, sym, ◌∙◌, arith}
use Rattle.std.specs.Prelude.{Option, Some, None, ◌==◌, if◌then◌else◌}
use Rattle.pq_types.specs.Item.{Item}
use Rattle.pq_types.specs.Asked.{Request, Operation}
use Rattle.pq_types.specs.Operation.{Asked}
use Rattle.pq_types.specs.declared.request.Request.TheVariants as request
use Rattle.pq_types.specs.Asked.{Answer}
use Rattle.pq_types.specs.declared.answer.Answer.TheVariants as answer
use Rattle.pq_types.specs.declared.answer.Refusal.{Refusal}
use Rattle.pq_types.specs.declared.answer.Refusal.TheVariants as refusal
use Rattle.pq_types.specs.Asked.{Reply}
use Rattle.pq_types.specs.declared.answer.Reply.TheVariants as reply
use Rattle.pq_types.specs.declared.control.Notice.{Notice}
use Rattle.pq_types.specs.declared.control.Control.{Control}
use Rattle.pq_types.specs.declared.control.Control.TheVariants.{Answered}
use Rattle.pq_types.specs.Control.{kind_of, request_item, answer_item, reply_item, outcome_of, posted, answered}
use Rattle.pq_types.specs.Asked.{Line}
use Rattle.pq_types.specs.History.{line_of, journal_after, journal_by, Limits, MayDo, MayAnswer}
use Rattle.wait_list.specs.Waiters.{Change}
use Rattle.pq_book.specs.Book.{Volume}
use Rattle.desk_core.specs.Calls.{call_of, gained, gained_by}
use Rattle.desk_core.specs.declared.model.Call.{Call}
use Rattle.desk_core.specs.Desk.{put}
use Rattle.desk_core.specs.Pen.{IsKept, told_full_by, after_apply, after_archive, after_change, after_release_by, newly_woken, book_with, book_in_hand, limits_in_hand}
use Rattle.desk_core.specs.declared.model.Standing.{Standing}
use Rattle.desk_core.specs.declared.model.Standing.TheVariants.{Idle, Waiting}
use Rattle.desk_core.specs.declared.model.Due.{Due}
use Rattle.desk_core.specs.declared.model.PenState.{PenState}
use Rattle.announce_board.specs.Rule.{NoneIsRefused, Seated}
use Rattle.announce_board.specs.Slots.{Slotted, book_of}
use Rattle.announce_board.specs.Steps.{HasInSlot}

-- a request of a kind, with the item that is known of it
pub same_request : (q r : Request) (kept : Option Item) → kind_of q ≡ kind_of r → IsKept (request_item q) kept → IsKept (request_item r) kept → q ≡ r
same_request (request.Push x) (request.Push y) kept e h j = let f : Some x ≡ Some y = sym h ∙ j in let g : x ≡ y = cc in ap request.Push g
same_request (request.Push x) request.Pop kept e h j = absurd (cc e)
same_request (request.Push x) request.Least kept e h j = absurd (cc e)
same_request request.Pop (request.Push y) kept e h j = absurd (cc e)
same_request request.Pop request.Pop kept e h j = refl
same_request request.Pop request.Least kept e h j = absurd (cc e)
same_request request.Least (request.Push y) kept e h j = absurd (cc e)
same_request request.Least request.Pop kept e h j = absurd (cc e)
same_request request.Least request.Least kept e h j = refl

-- a reply of an outcome, and so an answer of a control
same_reply : (q r : Reply) (kept : Option Item) → outcome_of q ≡ outcome_of r → IsKept (reply_item q) kept → IsKept (reply_item r) kept → q ≡ r
same_reply reply.Pushed reply.Pushed kept e h j = refl
same_reply reply.Pushed (reply.Got y) kept e h j = absurd (cc e)
same_reply reply.Pushed (reply.Least y) kept e h j = absurd (cc e)
same_reply reply.Pushed reply.Empty kept e h j = absurd (cc e)
same_reply (reply.Got x) reply.Pushed kept e h j = absurd (cc e)
same_reply (reply.Got x) (reply.Got y) kept e h j = let f : Some x ≡ Some y = sym h ∙ j in let g : x ≡ y = cc in ap reply.Got g
same_reply (reply.Got x) (reply.Least y) kept e h j = absurd (cc e)
same_reply (reply.Got x) reply.Empty kept e h j = absurd (cc e)
same_reply (reply.Least x) reply.Pushed kept e h j = absurd (cc e)
same_reply (reply.Least x) (reply.Got y) kept e h j = absurd (cc e)
same_reply (reply.Least x) (reply.Least y) kept e h j = let f : Some x ≡ Some y = sym h ∙ j in let g : x ≡ y = cc in ap reply.Least g
same_reply (reply.Least x) reply.Empty kept e h j = absurd (cc e)
same_reply reply.Empty reply.Pushed kept e h j = absurd (cc e)
same_reply reply.Empty (reply.Got y) kept e h j = absurd (cc e)
same_reply reply.Empty (reply.Least y) kept e h j = absurd (cc e)
same_reply reply.Empty reply.Empty kept e h j = refl

same_entered : (l n : ℕ) (q r : Reply) (kept : Option Item) → answered (answer.Entered l q) ≡ answered (answer.Entered n r) → IsKept (reply_item q) kept → IsKept (reply_item r) kept → answer.Entered l q ≡ answer.Entered n r
same_entered l n q r kept e h j =
    let f : l ≡ n = cc in
    let g : outcome_of q ≡ outcome_of r = cc in
    ap (λ k. answer.Entered k q) f ∙ ap (answer.Entered n) (same_reply q r kept g h j)

pub same_answer : (a b : Answer) (kept : Option Item) → answered a ≡ answered b → IsKept (answer_item a) kept → IsKept (answer_item b) kept → a ≡ b
same_answer (answer.Entered l q) (answer.Entered n r) kept e h j = same_entered l n q r kept e h j
same_answer (answer.Entered l q) answer.BookFull kept e h j = absurd (cc e)
same_answer (answer.Entered l q) answer.NoMemory kept e h j = absurd (cc e)
same_answer (answer.Entered l q) (answer.Refused why) kept e h j = absurd (cc e)
same_answer answer.BookFull (answer.Entered n r) kept e h j = absurd (cc e)
same_answer answer.BookFull answer.BookFull kept e h j = refl
same_answer answer.BookFull answer.NoMemory kept e h j = absurd (cc e)
same_answer answer.BookFull (answer.Refused why) kept e h j = absurd (cc e)
same_answer answer.NoMemory (answer.Entered n r) kept e h j = absurd (cc e)
same_answer answer.NoMemory answer.BookFull kept e h j = absurd (cc e)
same_answer answer.NoMemory answer.NoMemory kept e h j = refl
same_answer answer.NoMemory (answer.Refused why) kept e h j = absurd (cc e)
same_answer (answer.Refused why) (answer.Entered n r) kept e h j = absurd (cc e)
same_answer (answer.Refused why) answer.BookFull kept e h j = absurd (cc e)
same_answer (answer.Refused why) answer.NoMemory kept e h j = absurd (cc e)
same_answer (answer.Refused why) (answer.Refused other) kept e h j = let f : why ≡ other = cc in ap answer.Refused f

pub kind_posted : (serial : ℕ) (q r : Request) → posted serial q ≡ posted serial r → kind_of q ≡ kind_of r
kind_posted serial q r e = cc

pub same_draft : (a b : Option Item) (standing : Standing) → standing ≡ Idle a → standing ≡ Idle b → a ≡ b
same_draft a b standing e f = let g : Idle a ≡ Idle b = sym e ∙ f in cc

pub same_waiting : (q r : Request) (standing : Standing) → standing ≡ Waiting q → standing ≡ Waiting r → q ≡ r
same_waiting q r standing e f = let g : Waiting q ≡ Waiting r = sym e ∙ f in cc

pub same_due : (a b : Due) (due : Option Due) → due ≡ Some a → due ≡ Some b → a ≡ b
same_due a b due e f = let g : Some a ≡ Some b = sym e ∙ f in cc

pub same_notice : (a b : Notice) (own : Control) → own ≡ Answered a → own ≡ Answered b → a ≡ b
same_notice a b own e f = let g : Answered a ≡ Answered b = sym e ∙ f in cc

pub not_true : (b : Bool) → (b ≡ true → ⊥) → b ≡ false
not_true true h = absurd (h refl)
not_true false h = refl

-- the one answer of which this is the control
pub refused_alone : (a : Answer) → answered a ≡ answered answer.NoMemory → a ≡ answer.NoMemory
refused_alone (answer.Entered n r) e = absurd (cc e)
refused_alone answer.BookFull e = absurd (cc e)
refused_alone answer.NoMemory e = refl
refused_alone (answer.Refused why) e = absurd (cc e)

neither : (b : Bool) (c d : Control) → c ≢ answered answer.NoMemory → d ≢ answered answer.NoMemory → (if b then c else d) ≢ answered answer.NoMemory
neither true c d h k = h
neither false c d h k = k

-- where no record says NoMemory, none does after a store of another control
pub none_refused : (control : ℕ → Control) (place : ℕ) (c : Control) → NoneIsRefused control → c ≢ answered answer.NoMemory → NoneIsRefused (put control place c)
none_refused control place c before other at = neither (at == place) c (control at) other (before at)

last_same : (ls : List Line) (a b : Line) → ls ++ a ∷ [] ≡ ls ++ b ∷ [] → a ≡ b
last_same [] a b e = cc
last_same (l ∷ ls) a b e = let f : ls ++ a ∷ [] ≡ ls ++ b ∷ [] = cc in last_same ls a b f

no_longer : (ls : List Line) (a : Line) → ls ++ a ∷ [] ≡ ls → ⊥
no_longer ls a e = let f : length (ls ++ a ∷ []) ≡ length ls = ap length e in omega (arith, f, length-append ls (a ∷ []))

-- where a rule refuses, there is room for a line
pub room_left : (limits : Limits) (hand : List Line) (q : Operation) (why : Refusal) → MayDo limits hand q (answer.Refused why) → length hand < limits.room
room_left limits hand q refusal.Shut may = may.0
room_left limits hand q refusal.Unarchived may = may.0
room_left limits hand q refusal.Full may = may.0

-- the call that an own request gains stands in the journal that it leaves
same_gained : (limits : Limits) (hand : List Line) (place serial : ℕ) (q r : Operation) (a b : Answer) → MayDo limits hand q a → MayDo limits hand r b
    → journal_by hand place serial q a ≡ journal_by hand place serial r b → gained_by serial q a ≡ gained_by serial r b
same_gained limits hand place serial q r (answer.Entered l x) (answer.Entered n y) may may' e =
    let f : line_of place serial q x ≡ line_of place serial r y = last_same hand (line_of place serial q x) (line_of place serial r y) e in
    let g : l ≡ n = may.1 ∙ sym may'.1 in
    ap (λ k. call_of k serial q x ∷ []) g ∙ ap (λ (y : Line). call_of n y.serial y.operation y.reply ∷ []) f
same_gained limits hand place serial q r (answer.Entered l x) answer.BookFull may may' e = absurd (no_longer hand (line_of place serial q x) e)
same_gained limits hand place serial q r (answer.Entered l x) answer.NoMemory may may' e = absurd (no_longer hand (line_of place serial q x) e)
same_gained limits hand place serial q r (answer.Entered l x) (answer.Refused why) may may' e = absurd (no_longer hand (line_of place serial q x) e)
same_gained limits hand place serial q r answer.BookFull (answer.Entered n y) may may' e = absurd (no_longer hand (line_of place serial r y) (sym e))
same_gained limits hand place serial q r answer.BookFull answer.BookFull may may' e = refl
same_gained limits hand place serial q r answer.BookFull answer.NoMemory may may' e = refl
same_gained limits hand place serial q r answer.BookFull (answer.Refused why) may may' e = refl
same_gained limits hand place serial q r answer.NoMemory (answer.Entered n y) may may' e = absurd (no_longer hand (line_of place serial r y) (sym e))
same_gained limits hand place serial q r answer.NoMemory answer.BookFull may may' e = refl
same_gained limits hand place serial q r answer.NoMemory answer.NoMemory may may' e = refl
same_gained limits hand place serial q r answer.NoMemory (answer.Refused why) may may' e = refl
same_gained limits hand place serial q r (answer.Refused why) (answer.Entered n y) may may' e = absurd (no_longer hand (line_of place serial r y) (sym e))
same_gained limits hand place serial q r (answer.Refused why) answer.BookFull may may' e = refl
same_gained limits hand place serial q r (answer.Refused why) answer.NoMemory may may' e = refl
same_gained limits hand place serial q r (answer.Refused why) (answer.Refused other) may may' e = refl

-- and whether it tells that the journal is full is seen there too
same_full : (limits : Limits) (hand : List Line) (place serial : ℕ) (q r : Operation) (a b : Answer) (before : Bool) → MayDo limits hand q a → MayDo limits hand r b
    → journal_by hand place serial q a ≡ journal_by hand place serial r b → told_full_by before a ≡ told_full_by before b
same_full limits hand place serial q r (answer.Entered l x) (answer.Entered n y) before may may' e = refl
same_full limits hand place serial q r (answer.Entered l x) answer.BookFull before may may' e = absurd (no_longer hand (line_of place serial q x) e)
same_full limits hand place serial q r (answer.Entered l x) answer.NoMemory before may may' e = absurd (no_longer hand (line_of place serial q x) e)
same_full limits hand place serial q r (answer.Entered l x) (answer.Refused why) before may may' e = absurd (no_longer hand (line_of place serial q x) e)
same_full limits hand place serial q r answer.BookFull (answer.Entered n y) before may may' e = absurd (no_longer hand (line_of place serial r y) (sym e))
same_full limits hand place serial q r answer.BookFull answer.BookFull before may may' e = refl
same_full limits hand place serial q r answer.BookFull answer.NoMemory before may may' e = absurd (let lt = may'.0.space in omega (arith, may, lt))
same_full limits hand place serial q r answer.BookFull (answer.Refused why) before may may' e = absurd (let lt = room_left limits hand r why may' in omega (arith, may, lt))
same_full limits hand place serial q r answer.NoMemory (answer.Entered n y) before may may' e = absurd (no_longer hand (line_of place serial r y) (sym e))
same_full limits hand place serial q r answer.NoMemory answer.BookFull before may may' e = absurd (let lt = may.0.space in omega (arith, may', lt))
same_full limits hand place serial q r answer.NoMemory answer.NoMemory before may may' e = refl
same_full limits hand place serial q r answer.NoMemory (answer.Refused why) before may may' e = refl
same_full limits hand place serial q r (answer.Refused why) (answer.Entered n y) before may may' e = absurd (no_longer hand (line_of place serial r y) (sym e))
same_full limits hand place serial q r (answer.Refused why) answer.BookFull before may may' e = absurd (let lt = room_left limits hand q why may in omega (arith, may', lt))
same_full limits hand place serial q r (answer.Refused why) answer.NoMemory before may may' e = refl
same_full limits hand place serial q r (answer.Refused why) (answer.Refused other) before may may' e = refl

abbrev ended : PenState → List Call → Bool → List Line → ℕ → PenState
ended p calls full journal now =
    record p { posts = p.posts + 1; standing = Idle None; mine = p.mine ++ calls; told_full = full; leading = false; owed = p.owed ++ newly_woken (book_with p journal); known = journal; begins = p.begins ++ (p.posts + 1, now) ∷ []; ends = p.ends ++ (p.posts + 1, now + 1) ∷ []; steps = p.steps + 1 }

-- and so does what the pen is afterwards
pub same_ended : (now : ℕ) (p : PenState) (q r : Operation) (a b : Answer) → MayDo (limits_in_hand p) p.hand q a → MayDo (limits_in_hand p) p.hand r b
    → journal_by p.hand p.place (p.posts + 1) q a ≡ journal_by p.hand p.place (p.posts + 1) r b → after_release_by p q a now ≡ after_release_by p r b now
same_ended now p q r a b may may' e =
    ap (λ c. ended p c (told_full_by p.told_full a) (journal_by p.hand p.place (p.posts + 1) q a) now) (same_gained (limits_in_hand p) p.hand p.place (p.posts + 1) q r a b may may' e)
    ∙ (ap (λ f. ended p (gained_by (p.posts + 1) r b) f (journal_by p.hand p.place (p.posts + 1) q a) now) (same_full (limits_in_hand p) p.hand p.place (p.posts + 1) q r a b p.told_full may may' e)
    ∙ ap (λ j. ended p (gained_by (p.posts + 1) r b) (told_full_by p.told_full b) j now) e)

abbrev applied : PenState → List Call → Bool → List Line → ℕ → PenState
applied p calls full journal now =
    record p { posts = p.posts + 1; standing = Idle None; mine = p.mine ++ calls; told_full = full; hand = journal; begins = p.begins ++ (p.posts + 1, now) ∷ []; ends = p.ends ++ (p.posts + 1, now + 1) ∷ []; steps = p.steps + 1 }

-- the same of a pen that goes on leading
pub same_applied : (now : ℕ) (p : PenState) (q r : Request) (a b : Answer) → MayAnswer (limits_in_hand p) p.hand q a → MayAnswer (limits_in_hand p) p.hand r b
    → journal_after p.hand p.place (p.posts + 1) q a ≡ journal_after p.hand p.place (p.posts + 1) r b → after_apply p q a now ≡ after_apply p r b now
same_applied now p q r a b may may' e =
    ap (λ c. applied p c (told_full_by p.told_full a) (journal_after p.hand p.place (p.posts + 1) q a) now) (same_gained (limits_in_hand p) p.hand p.place (p.posts + 1) (Asked q) (Asked r) a b may may' e)
    ∙ (ap (λ f. applied p (gained (p.posts + 1) r b) f (journal_after p.hand p.place (p.posts + 1) q a) now) (same_full (limits_in_hand p) p.hand p.place (p.posts + 1) (Asked q) (Asked r) a b p.told_full may may' e)
    ∙ ap (λ j. applied p (gained (p.posts + 1) r b) (told_full_by p.told_full b) j now) e)

abbrev first_book : List (ℕ × Slotted) → Option Volume
first_book [] = None
first_book (x ∷ xs) = book_of x.1

-- the one Book in a slot
pub same_book : (m : Seated) (b c : Volume) (others more : List (ℕ × Slotted)) → HasInSlot m b others → HasInSlot m c more → b ≡ c
same_book m b c others more held there = let e : Some b ≡ Some c = sym (ap first_book held) ∙ ap first_book there in cc

-- the pen that has heard that lines are archived is known by how many its Book allows then
pub same_archived : (p : PenState) (lines other : ℕ) → book_in_hand (after_archive p lines) ≡ book_in_hand (after_archive p other) → after_archive p lines ≡ after_archive p other
same_archived p lines other e = ap (λ (b : Volume). record p { allowed = b.allowed; steps = p.steps + 1 }) e

-- the pen that has changed who waits is known by who waits at its Book then
pub same_changed : (p : PenState) (change other : Change) → book_in_hand (after_change p change) ≡ book_in_hand (after_change p other) → after_change p change ≡ after_change p other
same_changed p change other e = ap (λ (b : Volume). record p { waiters = b.waiters; steps = p.steps + 1 }) e
