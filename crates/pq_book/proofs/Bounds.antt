-- How many items each beginning of a journal leaves, as lines come; and that it heeds its shut line.
use Rattle.std.proofs.Common.{Bool, ◌≡◌, ℕ, zero, suc, ◌⊎◌, inl, inr, ◌+◌, ◌<◌, ◌≤◌, true, false, List, [], ◌∷◌, ◌++◌, length, length-append, take, refl, sym, ap, subst, arith}
use Rattle.std.specs.Prelude.{◌==◌, if◌then◌else◌, Option, Some, None}
use Rattle.std.proofs.Math.Seq.{take-length}
use Rattle.std.proofs.lemmas.List.{length-map, take-append-le, take_all}
use Rattle.std.proofs.lemmas.Bool.{cases_lt}
use Rattle.pq_types.specs.Item.{Item, item}
use Rattle.pq_types.specs.Asked.{Line, Operation, Reply, Answer}
use Rattle.pq_types.specs.declared.request.Request.TheVariants.{Push, Pop, Least}
use Rattle.pq_types.specs.declared.answer.Answer.TheVariants.{Entered, BookFull, NoMemory, Refused}
use Rattle.pq_types.specs.Operation.{Asked, ByTicket, Shuts, Remove, Move}
use Rattle.pq_types.specs.Entry.{Entry, entry, item_of, item_at, entry_not_above, with_entry, without, with_moved, entries_after}
use Rattle.pq_types.specs.History.{line_of, entries_of, left, Adds, HeedsShut, journal_by, MayDo}
use Rattle.pq_types.specs.Laws.{StillHeeds}
use Rattle.pq_book.specs.Book.{limits}
use Rattle.pq_book.specs.Peak.{KeepsBound}
use Rattle.pq_book.specs.Runs.{Doing, MayRun}
use Rattle.pq_book.proofs.Entries.{entries_of-snoc}

length-with : (e : Entry) (es : List Entry) → length (with_entry e es) ≡ length es + 1
length-with e [] = refl
length-with e (f ∷ es) =
    elim (entry_not_above f e) as (λ b. length (if b then f ∷ with_entry e es else e ∷ f ∷ es)
    ≡ length (f ∷ es) + 1) [ true ↦ omega (arith, length-with e es) | false ↦ omega arith ]

length-without : (i : ℕ) (es : List Entry) → length (without i es) ≤ length es
length-without i [] = omega arith
length-without i (e ∷ es) =
    elim (e.line == i) as (λ b. length (if b then es else e ∷ without i es)
    ≤ length (e ∷ es)) [ true ↦ omega arith | false ↦ omega (arith, length-without i es) ]

-- an item that waits is one more than without it
length-without_one : (i : ℕ) (es : List Entry) (x : Item) → item_at i es ≡ Some x → length (without i es) + 1 ≡ length es
length-without_one i [] x is = absurd (nothing is) where
  nothing : None ≡ Some x → ⊥
  nothing e = cc
length-without_one i (e ∷ es) x is = at_choice (length-without_one i es x) (e.line == i) is where
  at_choice : (item_at i es ≡ Some x → length (without i es) + 1 ≡ length es) → (b : Bool) → (if b then Some (item_of e) else item_at i es) ≡ Some x
      → length (if b then es else e ∷ without i es) + 1 ≡ length (e ∷ es)
  at_choice rest true here = omega arith
  at_choice rest false there = omega (arith, rest there)

length-moved : (n p i : ℕ) (es : List Entry) (x : Option Item) → item_at i es ≡ x → length (with_moved n p x (without i es)) ≤ length es
length-moved n p i es None is = length-without i es
length-moved n p i es (Some x) is =
    omega (arith, length-with (entry n (item p x.value)) (without i es), length-without_one i es x is)

-- only a push leaves one more
pub stays_bounded : (bound n : ℕ) (es : List Entry) (o : Operation) → (Adds o → length es < bound) → length es ≤ bound → length (entries_after es n o) ≤ bound
stays_bounded bound n es (Asked (Push x)) less h = omega (arith, length-with (entry n x) es, less tt)
stays_bounded bound n [] (Asked Pop) less h = h
stays_bounded bound n (e ∷ es) (Asked Pop) less h = omega (arith, h)
stays_bounded bound n es (Asked Least) less h = h
stays_bounded bound n es (ByTicket (Remove i)) less h = omega (arith, length-without i es, h)
stays_bounded bound n es (ByTicket (Move i p)) less h = omega (arith, length-moved n p i es (item_at i es) refl, h)
stays_bounded bound n es Shuts less h = h

-- how many items these lines leave
abbrev count : List Line → ℕ
count lines = length (left lines)

pub left_bounded : (bound : ℕ) (lines : List Line) → KeepsBound bound lines → count lines ≤ bound
left_bounded bound lines h = omega (arith, h (length lines), ap count (take-length lines))

bounded_at : (bound : ℕ) (lines : List Line) (l : Line) → KeepsBound bound lines → count (lines ++ l ∷ []) ≤ bound
    → (k : ℕ) → (k < length lines + 1) ⊎ (length lines + 1 ≤ k) → count (take k (lines ++ l ∷ [])) ≤ bound
bounded_at bound lines l h now k (inl less) =
    omega (arith, ap count (take-append-le k lines (l ∷ []) (omega (arith, less))), h k)
bounded_at bound lines l h now k (inr more) =
    omega (arith, ap count (take_all k (lines ++ l ∷ []) (omega (arith, more, length-append {A = Line} lines (l ∷ [])))), now)

pub bounded_more : (bound : ℕ) (lines : List Line) (place serial : ℕ) (o : Operation) (r : Reply) → (Adds o → count lines < bound) → KeepsBound bound lines
    → KeepsBound bound (lines ++ line_of place serial o r ∷ [])
bounded_more bound lines place serial o r less h k =
    let l = line_of place serial o r in
    let same : length (entries_of lines) ≡ count lines = sym (length-map (entries_of lines) item_of) in
    let grown : length (entries_after (entries_of lines) (length lines + 1) o) ≤ bound =
    stays_bounded bound (length lines + 1) (entries_of lines) o (λ a. omega (arith, same, less a)) (omega (arith, same, left_bounded bound lines h)) in
    let now : count (lines ++ l ∷ []) ≤ bound =
    omega (arith, length-map (entries_of (lines ++ l ∷ [])) item_of, ap length (entries_of-snoc lines l), grown) in
    bounded_at bound lines l h now k (cases_lt k (length lines + 1))

-- what a run keeps
bounded_by_one : (room bound allowed place serial : ℕ) (journal : List Line) (o : Operation) (a : Answer) → MayDo (limits room bound allowed) journal o a
    → KeepsBound bound journal → KeepsBound bound (journal_by journal place serial o a)
bounded_by_one room bound allowed place serial journal o (Entered n r) may h = bounded_more bound journal place serial o r may.0.below h
bounded_by_one room bound allowed place serial journal o BookFull may h = h
bounded_by_one room bound allowed place serial journal o NoMemory may h = h
bounded_by_one room bound allowed place serial journal o (Refused why) may h = h

heeds_by_one : StillHeeds → (room bound allowed place serial : ℕ) (journal : List Line) (o : Operation) (a : Answer) → MayDo (limits room bound allowed) journal o a
    → HeedsShut journal → HeedsShut (journal_by journal place serial o a)
heeds_by_one more room bound allowed place serial journal o (Entered n r) may h = more journal (line_of place serial o r) h may.0.heard
heeds_by_one more room bound allowed place serial journal o BookFull may h = h
heeds_by_one more room bound allowed place serial journal o NoMemory may h = h
heeds_by_one more room bound allowed place serial journal o (Refused why) may h = h

pub run_bounded : (room bound : ℕ) (journal : List Line) (ds : List Doing) (after : List Line) → MayRun room bound journal ds after
    → KeepsBound bound journal → KeepsBound bound after
run_bounded room bound journal [] after h kept = subst (KeepsBound bound) (sym h) kept
run_bounded room bound journal (d ∷ ds) after h kept =
    run_bounded room bound (journal_by journal d.place d.serial d.operation d.answer) ds after h.2
    (bounded_by_one room bound d.allowed d.place d.serial journal d.operation d.answer h.1 kept)

pub run_heeds : StillHeeds → (room bound : ℕ) (journal : List Line) (ds : List Doing) (after : List Line) → MayRun room bound journal ds after
    → HeedsShut journal → HeedsShut after
run_heeds more room bound journal [] after h kept = subst HeedsShut (sym h) kept
run_heeds more room bound journal (d ∷ ds) after h kept =
    run_heeds more room bound (journal_by journal d.place d.serial d.operation d.answer) ds after h.2
    (heeds_by_one more room bound d.allowed d.place d.serial journal d.operation d.answer h.1 kept)

-- a new journal leaves nothing
pub none_bounded : (bound : ℕ) → KeepsBound bound []
none_bounded bound zero = omega arith
none_bounded bound (suc k) = omega arith
