-- What serving a place comes to, in all its steps.
use Rattle.std.proofs.Common.{◌≡◌, ◌≢◌, ℕ, ◌+◌, ◌<◌, Bool, true, false, true≢false, List, [], ◌∷◌, ◌++◌, length, arith, refl, ap, sym, ◌∙◌, subst}
use Rattle.std.specs.Prelude.{Option, Some, None}
use Rattle.std.proofs.lemmas.List.{length-append}
use Rattle.std.specs.List.{AllByRecursion}
use Rattle.pq_types.specs.Item.{Item}
use Rattle.pq_types.specs.Asked.{Request}
use Rattle.pq_types.specs.declared.request.Request.TheVariants.{Push, Pop, Least}
use Rattle.pq_types.specs.Asked.{Answer}
use Rattle.pq_types.specs.declared.answer.Answer.TheVariants as answer
use Rattle.pq_types.specs.declared.answer.Refusal.{Refusal}
use Rattle.pq_types.specs.declared.answer.Refusal.TheVariants as refusal
use Rattle.pq_types.specs.Asked.{Line}
use Rattle.pq_types.specs.Control.{answer_item}
use Rattle.pq_types.specs.Operation.{Asked}
use Rattle.pq_types.specs.History.{line, journal_after, last_serial, Limits, MayAnswer}
use Rattle.pq_book.specs.Book.{Volume, limits_of, KeepsTerms}
use Rattle.atomic_table.specs.Seated.{TableId}
use Rattle.desk_core.specs.Pen.{after_answer, with_known, book_with, book_in_hand, limits_in_hand}
use Rattle.announce_board.specs.ItemWords.{laid_by}
use Rattle.desk_core.specs.declared.model.Due.{Due}
use Rattle.desk_core.specs.declared.model.Duty.{Duty}
use Rattle.desk_core.specs.declared.model.Duty.TheVariants.{Active}
use Rattle.desk_core.specs.declared.model.PenState.{PenState}
use Rattle.desk_core.specs.declared.model.View.TheVariants.{Holder}
use Rattle.announce_board.specs.Rule.{Seated}
use Rattle.announce_board.specs.Steps.{pen_at, Becomes}
use Rattle.announce_board.specs.Tokens.{StaysSeated}
use Rattle.announce_board.specs.Serving.{IsServing, FindsPosted, FindsNone, ServesBy, ServesWhereBy, ServesOtherThanBy, Passes, found_posted_by, due_of, laid_and_answered_by, served_by}
use Rattle.announce_board.specs.Told.{AboveTheLast}
use Rattle.desk_core.specs.Knows.{NoneAbove}
use Rattle.announce_board.proofs.Looks.{pen_is}
use Rattle.announce_board.proofs.Homes.{in_hand, same_volume}

-- what a pen has in its hand, and where it is
abbrev Same : PenState → PenState → Type 0
Same p q = (q.place ≡ p.place) × (q.leading ≡ p.leading) × (q.room ≡ p.room)

found_same : (words : ℕ) (p : PenState) (place serial : ℕ) (q : Request) → Same p (found_posted_by words p place serial q) × ((found_posted_by words p place serial q).hand ≡ p.hand)
found_same words p place serial (Push x) = ((refl, refl, refl), refl)
found_same words p place serial Pop = ((refl, refl, refl), refl)
found_same words p place serial Least = ((refl, refl, refl), refl)

found_due : (words : ℕ) (p : PenState) (place serial : ℕ) (q : Request) → (found_posted_by words p place serial q).due ≡ Some (due_of place serial q)
found_due words p place serial (Push x) = refl
found_due words p place serial Pop = refl
found_due words p place serial Least = refl

answered_same : (words : ℕ) (o : Option Item) (p : PenState) (due : Due) (q : Request) (a : Answer) → Same p (laid_and_answered_by words o p due q a) × ((laid_and_answered_by words o p due q a).hand ≡ journal_after p.hand due.place due.serial q a)
answered_same words None p due q a = ((refl, refl, refl), refl)
answered_same words (Some x) p due q a = ((refl, refl, refl), refl)

-- and whom it owes a wake
found_owed : (words : ℕ) (p : PenState) (place serial : ℕ) (q : Request) → (found_posted_by words p place serial q).owed ≡ p.owed
found_owed words p place serial (Push x) = refl
found_owed words p place serial Pop = refl
found_owed words p place serial Least = refl

answered_owed : (words : ℕ) (o : Option Item) (p : PenState) (due : Due) (q : Request) (a : Answer) → (laid_and_answered_by words o p due q a).owed ≡ p.owed
answered_owed words None p due q a = refl
answered_owed words (Some x) p due q a = refl

-- the Book in its hand, once it has read a record, and once it has answered there
found_book : (words : ℕ) (p : PenState) (place serial : ℕ) (q : Request) → book_in_hand (found_posted_by words p place serial q) ≡ book_in_hand p
found_book words p place serial (Push x) = refl
found_book words p place serial Pop = refl
found_book words p place serial Least = refl

answered_book : (words : ℕ) (o : Option Item) (p : PenState) (due : Due) (q : Request) (a : Answer)
    → book_in_hand (laid_and_answered_by words o p due q a) ≡ book_with p (journal_after p.hand due.place due.serial q a)
answered_book words None p due q a = refl
answered_book words (Some x) p due q a = refl

served_book : (words : ℕ) (p : PenState) (place serial : ℕ) (q : Request) (a : Answer)
    → book_in_hand (served_by words p place serial q a) ≡ book_with p (journal_after p.hand place serial q a)
served_book words p place serial q a =
    answered_book words (answer_item a) (found_posted_by words p place serial q) (due_of place serial q) q a
    ∙ ap (λ (b : Volume). record b { journal = journal_after b.journal place serial q a }) (found_book words p place serial q)

pub due_found : (words place : ℕ) (p p' : PenState) (serial : ℕ) (q : Request) → FindsPosted words place p serial q p' → p'.due ≡ Some (due_of place serial q)
due_found words place p p' serial q h = ap (λ (r : PenState). r.due) h.next ∙ found_due words p place serial q

pub hand_found : (words place : ℕ) (p p' : PenState) (serial : ℕ) (q : Request) → FindsPosted words place p serial q p' → (p'.hand ≡ p.hand) × (p'.room ≡ p.room)
hand_found words place p p' serial q h =
    let s = found_same words p place serial q in
    (ap (λ (r : PenState). r.hand) h.next ∙ s.1, ap (λ (r : PenState). r.room) h.next ∙ s.0.2)

-- reading a record leaves the Book in hand
pub book_found : (words place : ℕ) (p p' : PenState) (serial : ℕ) (q : Request) → FindsPosted words place p serial q p' → book_in_hand p' ≡ book_in_hand p
book_found words place p p' serial q h = ap book_in_hand h.next ∙ found_book words p place serial q

pub above_last : AboveTheLast → (words place : ℕ) (p p' : PenState) (serial : ℕ) (q : Request) (book : Volume) → FindsPosted words place p serial q p' → book ≡ book_in_hand p → last_serial place book.journal < serial
above_last law words place p p' serial q book h e = subst (λ (b : Volume). last_serial place b.journal < serial) (sym e) (law place serial p.hand h.in_range h.above)

-- the pen still leads after a step that keeps its seat
pub still_serving : (table : TableId) (places place : ℕ) (before after : Seated) → IsServing table places before place → StaysSeated before after → IsServing table places after place
still_serving table places place before after h s = record { is = s.is; leads = s.leading ∙ h.leads; within = h.within; inside = h.inside }

pub may_found : (words place : ℕ) (p p' : PenState) (serial : ℕ) (q : Request) (a : Answer) (book : Volume) → FindsPosted words place p serial q p' → book ≡ book_in_hand p
    → MayAnswer (limits_of book) book.journal q a → MayAnswer (limits_in_hand p') p'.hand q a
may_found words place p p' serial q a book h e may =
    subst (λ (b : Volume). MayAnswer (limits_of b) b.journal q a) (e ∙ sym (book_found words place p p' serial q h)) may

-- what a rule refuses, memory does not
ruled : (limits : Limits) (hand : List Line) (q r : Request) (why : Refusal) → MayAnswer limits hand q (answer.Refused why) → MayAnswer limits hand r answer.NoMemory → ⊥
ruled limits hand q r refusal.Shut may may' = true≢false (sym may.2 ∙ may'.0.heard may'.1)
ruled limits hand q r refusal.Unarchived may may' = let lt = may'.0.kept in omega (arith, may.1, lt)
ruled limits hand q r refusal.Full may may' = let lt = may'.0.below may'.1 in omega (arith, may.3, lt)

-- the answer with which a place was served is another wherever it was another once
other_answered : (limits : Limits) (hand : List Line) (place s t : ℕ) (q r : Request) (a b : Answer) → MayAnswer limits hand q a → MayAnswer limits hand r b
    → journal_after hand place s q a ≡ journal_after hand place t r b → a ≢ answer.NoMemory → b ≢ answer.NoMemory
other_answered limits hand place s t q r a (answer.Entered n x) may may' same other e = absurd (cc e)
other_answered limits hand place s t q r a answer.BookFull may may' same other e = absurd (cc e)
other_answered limits hand place s t q r a (answer.Refused why) may may' same other e = absurd (cc e)
other_answered limits hand place s t q r (answer.Entered n x) answer.NoMemory may may' same other e =
    let more = length-append hand (line place s q x ∷ []) in
    let as_long : length (hand ++ line place s q x ∷ []) ≡ length hand = ap length same in
    omega (arith, more, as_long)
other_answered limits hand place s t q r answer.BookFull answer.NoMemory may may' same other e = let lt = may'.0.space in omega (arith, may, lt)
other_answered limits hand place s t q r answer.NoMemory answer.NoMemory may may' same other e = other refl
other_answered limits hand place s t q r (answer.Refused why) answer.NoMemory may may' same other e = ruled limits hand q r why may may'

serves_other : (words place : ℕ) (p p' : PenState) (book : Volume) (h : ServesBy words place p p' book) → h.answer ≢ answer.NoMemory → ServesOtherThanBy words answer.NoMemory place p p' book
serves_other words place p p' book h other k =
    other_answered (limits_in_hand p) p.hand place h.serial k.serial h.request k.request h.answer k.answer h.may k.may
    (ap (λ (b : Volume). b.journal) (sym h.book_is ∙ k.book_is)) other

-- a leader that answers acts
still_active : (words : ℕ) (o : Option Item) (p : PenState) (due : Due) (q : Request) (a : Answer) → p.duty ≡ Active
    → record (laid_and_answered_by words o p due q a) { duty = Active } ≡ laid_and_answered_by words o p due q a
still_active words None p due q a e = ap (λ (duty : Duty). record (after_answer p due q a) { duty = duty }) (sym e)
still_active words (Some x) p due q a e =
    ap (λ (duty : Duty). record (after_answer (laid_by words p due x) (with_known due x) q a) { duty = duty }) (sym e)

-- the seat after both parts of serving
module _ (words place : ℕ) (before between after : Seated) (serial : ℕ) (q : Request) (a : Answer) (h : FindsPosted words place (pen_at before) serial q (pen_at between))
    (next : Becomes between (laid_and_answered_by words (answer_item a) (pen_at between) (due_of place serial q) q a) after) where
  abbrev p : PenState
  p = pen_at before

  answered_is : pen_at after ≡ laid_and_answered_by words (answer_item a) (pen_at between) (due_of place serial q) q a
  answered_is = pen_is between after (laid_and_answered_by words (answer_item a) (pen_at between) (due_of place serial q) q a) next
      ∙ still_active words (answer_item a) (pen_at between) (due_of place serial q) q a refl

  pen_next : pen_at after ≡ served_by words p place serial q a
  pen_next = answered_is
      ∙ ap (λ (r : PenState). laid_and_answered_by words (answer_item a) r (due_of place serial q) q a) h.next

  served_same : Same p (served_by words p place serial q a) × ((served_by words p place serial q a).hand ≡ journal_after p.hand place serial q a)
  served_same =
      let r = found_posted_by words p place serial q in
      let s = answered_same words (answer_item a) r (due_of place serial q) q a in
      let t = found_same words p place serial q in
      ((s.0.0 ∙ t.0.0, s.0.1 ∙ t.0.1, s.0.2 ∙ t.0.2), s.1 ∙ ap (λ j. journal_after j place serial q a) t.1)

  pub serves_stays : StaysSeated before between → StaysSeated before after
  serves_stays s = record {
    is = ap (λ (m : Seated). m.0) next ∙ ap Holder (sym answered_is);
    slots = ap (λ (m : Seated). m.1) next ∙ s.slots;
    place = ap (λ (r : PenState). r.place) pen_next ∙ served_same.0.0;
    leading = ap (λ (r : PenState). r.leading) pen_next ∙ served_same.0.1;
    owed = ap (λ (r : PenState). r.owed) pen_next
        ∙ (answered_owed words (answer_item a) (found_posted_by words p place serial q) (due_of place serial q) q a ∙ found_owed words p place serial q);
  }

  book_now : (old new : Volume) → old ≡ book_in_hand p → KeepsTerms old new → new.allowed ≡ old.allowed → new.journal ≡ journal_after old.journal place serial q a
      → new ≡ book_with p (journal_after p.hand place serial q a)
  book_now old new e terms allowed journal =
      same_volume new (book_with p (journal_after p.hand place serial q a))
      (terms.0 ∙ ap (λ (b : Volume). b.room) e)
      (terms.1 ∙ ap (λ (b : Volume). b.bound) e)
      (allowed ∙ ap (λ (b : Volume). b.allowed) e)
      (journal ∙ ap (λ (b : Volume). journal_after b.journal place serial q a) e)
      (terms.2 ∙ ap (λ (b : Volume). b.waiters) e)

  pub serves : (old new : Volume) → old ≡ book_in_hand p → KeepsTerms old new → new.allowed ≡ old.allowed → new.journal ≡ journal_after old.journal place serial q a
      → MayAnswer (limits_of old) old.journal q a → ServesBy words place p (pen_at after) new
  serves old new e terms allowed journal may = record {
    serial = serial;
    request = q;
    answer = a;
    in_range = h.in_range;
    above = h.above;
    may = in_hand p old (Asked q) a e may;
    next = pen_next;
    book_is = book_now old new e terms allowed journal;
    last = h.last;
    own = h.own;
  }

  pub serves_another : (old new : Volume) → old ≡ book_in_hand p → KeepsTerms old new → new.allowed ≡ old.allowed → new.journal ≡ journal_after old.journal place serial q a
      → MayAnswer (limits_of old) old.journal q a → a ≢ answer.NoMemory → ServesOtherThanBy words answer.NoMemory place p (pen_at after) new
  unfolding serves
  serves_another old new e terms allowed journal may other = serves_other words place p (pen_at after) new (serves old new e terms allowed journal may) other

  pub serves_hand : (old new : Volume) → old ≡ book_in_hand p → KeepsTerms old new → new.allowed ≡ old.allowed → new.journal ≡ journal_after old.journal place serial q a
      → new ≡ book_in_hand (pen_at after)
  serves_hand old new e terms allowed journal =
      book_now old new e terms allowed journal ∙ sym (ap book_in_hand pen_next ∙ served_book words p place serial q a)

-- serving takes two steps or more
found_steps : (words : ℕ) (p : PenState) (place serial : ℕ) (q : Request) → p.steps < (found_posted_by words p place serial q).steps
found_steps words p place serial (Push x) = omega arith
found_steps words p place serial Pop = omega arith
found_steps words p place serial Least = omega arith

answered_steps : (words : ℕ) (o : Option Item) (p : PenState) (due : Due) (q : Request) (a : Answer) → p.steps < (laid_and_answered_by words o p due q a).steps
answered_steps words None p due q a = omega arith
answered_steps words (Some x) p due q a = omega arith

served_steps : (words : ℕ) (p : PenState) (place serial : ℕ) (q : Request) (a : Answer) → p.steps + 1 < (served_by words p place serial q a).steps
served_steps words p place serial q a = omega (arith, found_steps words p place serial q, answered_steps words (answer_item a) (found_posted_by words p place serial q) (due_of place serial q) q a)

pub passes_other : (words place : ℕ) (p p' : PenState) (book : Volume) (a : Answer) → FindsNone place p p' → ServesOtherThanBy words a place p p' book
passes_other words place p p' book a h k e =
    let once : p'.steps ≡ p.steps + 1 = ap (λ (r : PenState). r.steps) h.next in
    let twice : p'.steps ≡ (served_by words p place k.serial k.request k.answer).steps = ap (λ (r : PenState). r.steps) k.next in
    omega (arith, once, twice, served_steps words p place k.serial k.request k.answer)

-- where nothing stood posted
pub passes : (place : ℕ) (p p' : PenState) (book : Volume) → FindsNone place p p' → book ≡ book_in_hand p → Passes place p p' book
passes place p p' book h e = record { control = h.control; not_posted = h.not_posted; next = h.next; book_is = e; own = h.own }

pub passes_hand : (place : ℕ) (p p' : PenState) (book : Volume) → FindsNone place p p' → book ≡ book_in_hand p → book ≡ book_in_hand p'
passes_hand place p p' book h e = e ∙ ap book_in_hand (sym h.next)

found_posts : (words : ℕ) (p : PenState) (place serial : ℕ) (q : Request) → (found_posted_by words p place serial q).posts ≡ p.posts
found_posts words p place serial (Push x) = refl
found_posts words p place serial Pop = refl
found_posts words p place serial Least = refl

answered_posts : (words : ℕ) (o : Option Item) (p : PenState) (due : Due) (q : Request) (a : Answer) → (laid_and_answered_by words o p due q a).posts ≡ p.posts
answered_posts words None p due q a = refl
answered_posts words (Some x) p due q a = refl

all_more : (P : Line → Type 0) (lines : List Line) (l : Line) → AllByRecursion P lines → P l → AllByRecursion P (lines ++ l ∷ [])
all_more P [] l h p = (p, tt)
all_more P (m ∷ ms) l h p = (h.0, all_more P ms l h.1 p)

after_below : (place n k s : ℕ) (q : Request) (a : Answer) (hand : List Line) → NoneAbove place n hand → (place ≡ k → s < n + 1) → NoneAbove place n (journal_after hand k s q a)
after_below place n k s q (answer.Entered l r) hand h f = all_more (λ (l : Line). place ≡ l.place → l.serial < n + 1) hand (line k s q r) h f
after_below place n k s q answer.BookFull hand h f = h
after_below place n k s q answer.NoMemory hand h f = h
after_below place n k s q (answer.Refused why) hand h f = h

-- a lead keeps what it knows of the serials of its own place
pub serves_used : (words : ℕ) (b : Bool) (place : ℕ) (p p' : PenState) (book : Volume) → ServesWhereBy words b place p p' book → NoneAbove p.place p.posts p.hand → NoneAbove p'.place p'.posts p'.hand
serves_used words true place p p' book s h =
    let r = found_posted_by words p place s.serial s.request in
    let due = due_of place s.serial s.request in
    let w = served_by words p place s.serial s.request s.answer in
    let t = found_same words p place s.serial s.request in
    let u = answered_same words (answer_item s.answer) r due s.request s.answer in
    let at : w.place ≡ p.place = u.0.0 ∙ t.0.0 in
    let posts : w.posts ≡ p.posts = answered_posts words (answer_item s.answer) r due s.request s.answer ∙ found_posts words p place s.serial s.request in
    let hand : w.hand ≡ journal_after p.hand place s.serial s.request s.answer = u.1 ∙ ap (λ j. journal_after j place s.serial s.request s.answer) t.1 in
    let now : NoneAbove p.place p.posts (journal_after p.hand place s.serial s.request s.answer) =
    after_below p.place p.posts place s.serial s.request s.answer p.hand h (λ e. let f = s.last (sym e) in omega (arith, f)) in
    subst (λ (v : PenState). NoneAbove v.place v.posts v.hand) (sym s.next)
    (subst (λ k. NoneAbove k w.posts w.hand) (sym at) (subst (λ n. NoneAbove p.place n w.hand) (sym posts) (subst (NoneAbove p.place p.posts) (sym hand) now)))
serves_used words false place p p' book s h = subst (λ (v : PenState). NoneAbove v.place v.posts v.hand) (sym s.next) h
