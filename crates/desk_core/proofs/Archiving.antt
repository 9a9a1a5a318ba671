-- What each move leaves of a queue's limits, and so what runs do.
use Rattle.std.proofs.Common.{◌≡◌, ℕ, ◌+◌, ◌≤◌, List, [], ◌∷◌, ◌++◌, length, refl, ap, ◌∙◌, subst, arith, length-append, zero-le}
use Rattle.std.specs.Prelude.{min, max}
use Rattle.pq_types.specs.Asked.{Operation, Answer, Line}
use Rattle.pq_types.specs.declared.answer.Answer.TheVariants.{Entered, BookFull, NoMemory, Refused}
use Rattle.pq_types.specs.History.{Limits, MayDo, line_of, journal_by}
use Rattle.wait_list.specs.Waiters.{Change}
use Rattle.pq_book.specs.Book.{Volume, limits, limits_of}
use Rattle.pq_book.specs.Pages.{page_of}
use Rattle.desk_core.specs.Pen.{allowed_by}
use Rattle.desk_core.specs.Desk.{Desk, volume, dealer_opening}
use Rattle.desk_core.specs.Dealing.{Move, DealtRun}
use Rattle.desk_core.specs.Archiving.{archived_by, archived_of, limits_after, HasLimits, MovesKeepLimits, EveryRunHasLimits, LimitsRise, greatest, PageIsAllowed}
use Rattle.desk_core.specs.Waiters.{changes_by}
use Rattle.desk_core.proofs.Journals.{QueueLaws}
use Rattle.desk_core.proofs.Held.{Keeping, Held, on_all, on_none, so_far, on_move, at_end, on_run}
use Rattle.desk_core.proofs.Times.{no_pen}
use Rattle.desk_core.proofs.Runs.{openings_meet}

-- a journal with no more lines than are allowed still has no more after an answer
stays_within : (l : Limits) (js : List Line) (place serial : ℕ) (o : Operation) (x : Answer) → MayDo l js o x → length js ≤ l.allowed
    → length (journal_by js place serial o x) ≤ l.allowed
stays_within l js place serial o (Entered n r) may le = let lt = may.0.kept in omega (arith, lt, length-append js (line_of place serial o r ∷ []))
stays_within l js place serial o BookFull may le = le
stays_within l js place serial o NoMemory may le = le
stays_within l js place serial o (Refused why) may le = le

-- of a Book, or of one in a hand
abbrev Fits : Limits → Volume → Type 0
Fits l b = (limits_of b ≡ l) × (length b.journal ≤ l.allowed)

-- the limits are kept, but for what is archived
more_fits : (l : Limits) (b : Volume) (n : ℕ) → Fits l b → Fits (record l { allowed = allowed_by l.room l.allowed n }) (record b { allowed = allowed_by b.room b.allowed n })
more_fits l b n t = (ap (λ (k : Limits). record k { allowed = allowed_by k.room k.allowed n }) t.0, (let le = t.1 in omega (arith, le)))

answer_fits : (l : Limits) (b : Volume) (place serial : ℕ) (o : Operation) (a : Answer) → Fits l b → MayDo (limits_of b) b.journal o a
    → Fits l (record b { journal = journal_by b.journal place serial o a })
answer_fits l b place serial o a t may = (t.0, stays_within l b.journal place serial o a (subst (λ k. MayDo k b.journal o a) t.0 may) t.1)

abbrev keeping : Keeping Limits
keeping =
    record {
      in_hand = Fits;
      at_home = Fits;
      archive = λ l n. record l { allowed = allowed_by l.room l.allowed n };
      change = λ l c. l;
      leads = λ l b t. t;
      answers = answer_fits;
      archives = λ l b n t. more_fits l b (min n (length b.journal)) t;
      changes = λ l b c t. t;
      settles = λ l b t. t;
    }

archived_only : (l : Limits) (ns : List ℕ) → on_all (λ (k : Limits) (n : ℕ). record k { allowed = allowed_by k.room k.allowed n }) l ns ≡ limits_after l ns
archived_only l [] = refl
archived_only l (n ∷ ns) = archived_only (record l { allowed = allowed_by l.room l.allowed n }) ns

after_all : (l : Limits) (ns : List ℕ) (cs : List Change) → so_far keeping ns cs l ≡ limits_after l ns
after_all l ns cs = on_none (on_all keeping.archive l ns) cs ∙ archived_only l ns

pub moves_keep_limits : MovesKeepLimits
moves_keep_limits d e x l m h move =
    let t = on_move keeping d m l record { home = h.home; hand = h.hand } x e move in
    subst (HasLimits e) (after_all l (archived_by d x e move) (changes_by d x e move)) record { home = t.home; hand = t.hand }

after_both : (l : Limits) (ns ms : List ℕ) → limits_after (limits_after l ns) ms ≡ limits_after l (ns ++ ms)
after_both l [] ms = refl
after_both l (n ∷ ns) ms = after_both (record l { allowed = allowed_by l.room l.allowed n }) ns ms

at_the_end : (d : Desk) (xs : List Move) (e : Desk) (run : DealtRun d xs e) (l : Limits) → at_end keeping d xs e run l ≡ limits_after l (archived_of d xs e run)
at_the_end d [] e run l = refl
at_the_end d (x ∷ xs) e run l =
    let ns = archived_by d x run.0 run.1 in
    at_the_end run.0 xs e run.2 (so_far keeping ns (changes_by d x run.0 run.1) l)
    ∙ (ap (λ (k : Limits). limits_after k (archived_of run.0 xs e run.2)) (after_all l ns (changes_by d x run.0 run.1)) ∙ after_both l ns (archived_of run.0 xs e run.2))

begins_so : (places : ℕ) (l : Limits) → Held keeping l (dealer_opening places l)
begins_so places l =
    record {
      home = λ b e. (let f : volume l [] ≡ b = cc in subst (Fits l) f (refl, zero-le));
      hand = λ i p a leads. absurd (no_pen l.room i p a);
    }

pub every_run_has_limits : QueueLaws → EveryRunHasLimits
every_run_has_limits laws places l moves d small run =
    let o = dealer_opening places l in
    let t = on_run keeping laws o moves d l (openings_meet.dealer places l small) (begins_so places l) run in
    subst (HasLimits d) (at_the_end o moves d run l) record { home = t.home; hand = t.hand }

pub limits_rise : LimitsRise
limits_rise l [] = record { room = refl; bound = refl; allowed = omega arith }
limits_rise l (n ∷ ns) =
    let t = limits_rise (record l { allowed = allowed_by l.room l.allowed n }) ns in
    record { room = t.room; bound = t.bound; allowed = (let le = t.allowed in omega (arith, le)) }

-- so many were allowed before, a page more than were archived
adds_up : (room bound n : ℕ) (l : Limits) → l ≡ limits room bound (n + page_of room) → (ns : List ℕ) → (limits_after l ns).allowed ≡ max n (greatest ns) + page_of room
adds_up room bound n l is [] = ap (λ (k : Limits). k.allowed) is ∙ omega arith
adds_up room bound n l is (k ∷ ns) =
    let g : allowed_by room (n + page_of room) k ≡ max n k + page_of room = omega arith in
    adds_up room bound (max n k) (record l { allowed = allowed_by l.room l.allowed k })
    (ap (λ (j : Limits). record j { allowed = allowed_by j.room j.allowed k }) is ∙ ap (limits room bound) g) ns
    ∙ omega arith

pub page_is_allowed : PageIsAllowed
page_is_allowed room bound ns =
    let zero_more : page_of room ≡ 0 + page_of room = omega arith in
    adds_up room bound 0 (limits room bound (page_of room)) (ap (limits room bound) zero_more) ns ∙ omega arith
