-- Looks have their places in the order of the calls.
use Rattle.std.proofs.Common.{◌≡◌, ℕ, zero, suc, ◌+◌, ◌<◌, ◌≤◌, ⊎_elim, List, [], ◌∷◌, ◌++◌, length, slice_get, refl, ap, sym, ◌∙◌, subst, arith, append-nil, append_assoc, length-append}
use Rattle.std.specs.Prelude.{Some, map, take}
use Rattle.std.proofs.Math.Seq.{take-append_seam}
use Rattle.pq_types.specs.Asked.{Operation}
use Rattle.pq_types.specs.Asked.{Answer}
use Rattle.pq_types.specs.Asked.{Line}
use Rattle.pq_types.specs.History.{Limits}
use Rattle.desk_core.specs.CallLines.{IsLineOf}
use Rattle.desk_core.specs.Clauses.{LockClause}
use Rattle.desk_core.specs.Desk.{Desk, fresh_desk, pens_from, opening}
use Rattle.desk_core.specs.Steps.{Event, Releases, StepsRelease, Run}
use Rattle.desk_core.specs.Rule.{StartsWith, RuleAt, MeetsRule}
use Rattle.desk_core.specs.Linearizable.{Act, Begins, Ends, IsIn, Linearizes}
use Rattle.desk_core.specs.Dealing.{Move, Takes, Happens, DealtRun, acts_of, dealt_history}
use Rattle.desk_core.specs.Looking.{Sight, Called, Looked, acts_among, sights_of, sights, move_look_of, move_sights_of, dealt_sights, LooksAreMore, LooksFindTheJournal, IsPlaced, LinearizesLooks, EveryRunLinearizesLooks, EveryDealtRunLinearizesLooks}
use Rattle.desk_core.specs.declared.model.Call.{Call}
use Rattle.desk_core.specs.declared.model.View.{View}
use Rattle.desk_core.specs.declared.model.View.TheVariants.{Dealer}
use Rattle.desk_core.proofs.Journals.{QueueLaws}
use Rattle.desk_core.proofs.StepFacts.{release_keeps}
use Rattle.desk_core.proofs.Clauses.{clauses_hold}
use Rattle.desk_core.proofs.Notes.{one_journal}
use Rattle.desk_core.proofs.Runs.{openings_meet}
use Rattle.desk_core.proofs.Histories.{get_cases}
use Rattle.desk_core.proofs.LinearRuns.{stands_at, at_lock, linearized, longer, ends_before, begins_behind, taken, taken_run, same_history}

-- the acts alone of what is seen
acts_join : (a b : List Sight) → acts_among (a ++ b) ≡ acts_among a ++ acts_among b
acts_join [] b = refl
acts_join (Called x ∷ a) b = ap (λ (xs : List Act). x ∷ xs) (acts_join a b)
acts_join (Looked k js ∷ a) b = acts_join a b

acts_back : (xs : List Act) → acts_among (map Called xs) ≡ xs
acts_back [] = refl
acts_back (x ∷ xs) = ap (λ (ys : List Act). x ∷ ys) (acts_back xs)

no_acts : (d : Desk) (x : Move) (e : Desk) (move : Happens d x e) → acts_among (move_look_of d x e move) ≡ []
no_acts d (Takes (Releases i)) e move = refl
no_acts d x e move = refl

same_acts : (d e : Desk) (xs : List Move) (run : DealtRun d xs e) → acts_among (dealt_sights d xs e run) ≡ dealt_history d xs e run
same_acts d e [] run = refl
same_acts d e (x ∷ xs) run =
    let new = acts_of d x run.0 run.1 in
    let look = move_look_of d x run.0 run.1 in
    let rest = dealt_sights run.0 xs e run.2 in
    acts_join (map Called new ++ look) rest
    ∙ (ap (λ (ys : List Act). ys ++ acts_among rest) (acts_join (map Called new) look ∙ (ap (λ (ys : List Act). acts_among (map Called new) ++ ys) (no_acts d x run.0 run.1) ∙ (append-nil (acts_among (map Called new)) ∙ acts_back new)))
    ∙ ap (λ (ys : List Act). new ++ ys) (same_acts run.0 e xs run.2))

-- an act that is seen is one of the acts
act_in : (seen : List Sight) (i : ℕ) (x : Act) → slice_get seen i ≡ Some (Called x) → IsIn (acts_among seen) x
act_in [] i x e = absurd (cc e)
act_in (Called y ∷ seen) zero x e = (0, (let f : Called y ≡ Called x = cc in let g : y ≡ x = cc in ap (λ (z : Act). Some z) g))
act_in (Called y ∷ seen) (suc i) x e = let t = act_in seen i x e in (suc t.0, t.1)
act_in (Looked k js ∷ seen) zero x e = absurd (cc e)
act_in (Looked k js ∷ seen) (suc i) x e = act_in seen i x e

-- and no look is
no_look : (xs : List Act) (i place : ℕ) (found : List Line) → slice_get (map Called xs) i ≡ Some (Looked place found) → ⊥
no_look [] i place found e = cc e
no_look (x ∷ xs) zero place found e = cc e
no_look (x ∷ xs) (suc i) place found e = no_look xs i place found e

-- Where a run has a look: the moves before it, the release, and the moves after it.
record Cut (d e : Desk) (moves : List Move) (run : DealtRun d moves e) (i place : ℕ) (found : List Line) : Type 0 where
  before : List Move
  after : List Move
  seat : ℕ
  m : Desk
  next : Desk
  past : DealtRun d before m
  step : StepsRelease m seat next
  rest : DealtRun next after e
  hand : step.0.hand ≡ found
  counted : length (dealt_sights d before m past) ≡ i
  parts : dealt_sights d moves e run ≡ dealt_sights d before m past ++ Looked place found ∷ dealt_sights next after e rest

module _ (place : ℕ) (found : List Line) where
  -- a cut of what follows a move is one of all
  goes_before : (d e : Desk) (x : Move) (xs : List Move) (run : DealtRun d (x ∷ xs) e) (j : ℕ) → Cut run.0 e xs run.2 j place found
      → Cut d e (x ∷ xs) run (length (move_sights_of d x run.0 run.1) + j) place found
  goes_before d e x xs run j c =
      let new = move_sights_of d x run.0 run.1 in
      let old = dealt_sights run.0 c.before c.m c.past in
      record {
        before = x ∷ c.before;
        after = c.after;
        seat = c.seat;
        m = c.m;
        next = c.next;
        past = (run.0, run.1, c.past);
        step = c.step;
        rest = c.rest;
        hand = c.hand;
        counted = length-append new old ∙ ap (λ n. length new + n) c.counted;
        parts = ap (λ (ys : List Sight). new ++ ys) c.parts ∙ sym (append_assoc new old (Looked place found ∷ dealt_sights c.next c.after e c.rest));
      }

  -- a move without a look has none of them
  later : (d e : Desk) (x : Move) (xs : List Move) (run : DealtRun d (x ∷ xs) e) → move_look_of d x run.0 run.1 ≡ []
      → ((j : ℕ) → slice_get (dealt_sights run.0 xs e run.2) j ≡ Some (Looked place found) → Cut run.0 e xs run.2 j place found)
      → (i : ℕ) → slice_get (dealt_sights d (x ∷ xs) e run) i ≡ Some (Looked place found) → Cut d e (x ∷ xs) run i place found
  later d e x xs run none goes i is =
      let called = map Called (acts_of d x run.0 run.1) in
      let look = move_look_of d x run.0 run.1 in
      ⊎_elim
      (λ t. absurd (no_look (acts_of d x run.0 run.1) i place found (subst (λ ys. slice_get ys i ≡ Some (Looked place found)) (ap (λ (ys : List Sight). called ++ ys) none ∙ append-nil called) t.1)))
      (λ t. subst (λ n. Cut d e (x ∷ xs) run n place found) (sym t.1) (goes_before d e x xs run t.0 (goes t.0 t.2)))
      (get_cases (called ++ look) (dealt_sights run.0 xs e run.2) i (Looked place found) is)

  cut : (d e : Desk) (xs : List Move) (run : DealtRun d xs e) (i : ℕ) → slice_get (dealt_sights d xs e run) i ≡ Some (Looked place found)
      → Cut d e xs run i place found
  cut d e [] run i is = absurd (cc is)
  cut d e (Takes (Releases seat) ∷ xs) run zero is =
      let here : Looked run.1.0.place run.1.0.hand ≡ Looked place found = cc in
      record {
        before = [];
        after = xs;
        seat = seat;
        m = d;
        next = run.0;
        past = refl;
        step = run.1;
        rest = run.2;
        hand = cc;
        counted = refl;
        parts = ap (λ (s : Sight). s ∷ dealt_sights run.0 xs e run.2) here;
      }
  cut d e (Takes (Releases seat) ∷ xs) run (suc i) is =
      subst (λ n. Cut d e (Takes (Releases seat) ∷ xs) run n place found) (omega arith) (goes_before d e (Takes (Releases seat)) xs run i (cut run.0 e xs run.2 i is))
  cut d e (x ∷ xs) run i is = later d e x xs run refl (λ j u. cut run.0 e xs run.2 j u) i is

-- of all runs from a fresh desk
module _ (laws : QueueLaws) (places : ℕ) (limits : Limits) (views : List View) (meets : MeetsRule (fresh_desk places limits views)) where
  -- the journal at a look is what it finds
  found_there : (before : List Move) (m next : Desk) (seat : ℕ) → DealtRun (fresh_desk places limits views) before m → (step : StepsRelease m seat next)
      → LockClause m step.0.hand
  found_there before m next seat past step =
      let t = stands_at places limits views meets laws before m past in
      subst (LockClause m) (sym (t.1.rule.led seat step.0 step.1 step.2).2) (at_lock m (dealt_history (fresh_desk places limits views) before m past) t.0 t.1)

  module _ (moves : List Move) (d : Desk) (run : DealtRun (fresh_desk places limits views) moves d) (journal : List Line) (lock : LockClause d journal) (i place : ℕ) (found : List Line)
      (c : Cut (fresh_desk places limits views) d moves run i place found) where
    abbrev seen : List Sight
    seen = dealt_sights (fresh_desk places limits views) moves d run

    -- before the look, and after it
    abbrev old : List Sight
    old = dealt_sights (fresh_desk places limits views) c.before c.m c.past

    abbrev more : List Sight
    more = dealt_sights c.next c.after d c.rest

    here : LockClause c.m found
    here = subst (LockClause c.m) c.hand (found_there c.before c.m c.next c.seat c.past c.step)

    goes_on : DealtRun c.m (Takes (Releases c.seat) ∷ c.after) d
    goes_on = (c.next, c.step, c.rest)

    past_alone : take i seen ≡ old
    past_alone =
        ap (λ (s : List Sight). take i s) c.parts
        ∙ (ap (λ n. take n (old ++ Looked place found ∷ more)) (sym c.counted)
        ∙ take-append_seam old (Looked place found ∷ more))

    past_linearizes : Linearizes limits.room (acts_among (take i seen)) found
    past_linearizes =
        let t = linearized laws places limits views meets c.before c.m c.past in
        subst (λ (s : List Sight). Linearizes limits.room (acts_among s) found) (sym past_alone)
        (subst (λ (s : List Act). Linearizes limits.room s found) (sym (same_acts (fresh_desk places limits views) c.m c.before c.past))
        (subst (Linearizes limits.room (dealt_history (fresh_desk places limits views) c.before c.m c.past)) (one_journal c.m t.0 found t.1 here) t.2))

    ended_there : (end k : ℕ) (answer : Answer) (b : Call) → end < i → slice_get seen end ≡ Some (Called (Ends k b.serial answer)) → IsLineOf journal k b → b.number ≤ length found
    ended_there end k answer b lt is line =
        let counted = c.counted in
        ⊎_elim
        (λ t.
        ends_before laws places limits views meets c.before (Takes (Releases c.seat) ∷ c.after) c.m d found journal c.past here goes_on lock k b line answer
        (subst (λ (s : List Act). IsIn s (Ends k b.serial answer)) (same_acts (fresh_desk places limits views) c.m c.before c.past)
        (act_in old end (Ends k b.serial answer) t.1)))
        (λ t. absurd (let e = t.1 in omega (arith, lt, e, counted)))
        (get_cases old (Looked place found ∷ more) end (Called (Ends k b.serial answer))
        (subst (λ (s : List Sight). slice_get s end ≡ Some (Called (Ends k b.serial answer))) c.parts is))

    begun_there : (begin k : ℕ) (operation : Operation) (b : Call) → i < begin → slice_get seen begin ≡ Some (Called (Begins k b.serial operation)) → IsLineOf journal k b
        → length found < b.number
    unfolding goes_on
    begun_there begin k operation b lt is line =
        let counted = c.counted in
        ⊎_elim
        (λ t. absurd (let e = t.0 in omega (arith, lt, e, counted)))
        (λ t.
        begins_behind laws places limits views meets c.before (Takes (Releases c.seat) ∷ c.after) c.m d found journal c.past here goes_on lock k b line operation
        (subst (λ (s : List Act). IsIn s (Begins k b.serial operation)) (same_acts c.next d c.after c.rest)
        (act_in (Looked place found ∷ more) t.0 (Begins k b.serial operation) t.2)))
        (get_cases old (Looked place found ∷ more) begin (Called (Begins k b.serial operation))
        (subst (λ (s : List Sight). slice_get s begin ≡ Some (Called (Begins k b.serial operation))) c.parts is))

    placed : IsPlaced limits.room (dealt_sights (fresh_desk places limits views) moves d run) journal i found
    placed =
        record {
          starts = longer laws places limits views meets c.before (Takes (Releases c.seat) ∷ c.after) c.m d found journal c.past here goes_on lock;
          linearizes = past_linearizes;
          ended = ended_there;
          begun = begun_there;
        }

  rises : (moves : List Move) (d : Desk) (run : DealtRun (fresh_desk places limits views) moves d) (i j place place' : ℕ) (found found' : List Line) → i < j
      → slice_get (dealt_sights (fresh_desk places limits views) moves d run) i ≡ Some (Looked place found)
      → slice_get (dealt_sights (fresh_desk places limits views) moves d run) j ≡ Some (Looked place' found')
      → StartsWith found' found
  rises moves d run i j place place' found found' lt is is' =
      let c = cut place' found' (fresh_desk places limits views) d moves run j is' in
      let counted = c.counted in
      let here = subst (LockClause c.m) c.hand (found_there c.before c.m c.next c.seat c.past c.step) in
      ⊎_elim
      (λ t. (placed c.before c.m c.past found' here i place found (cut place found (fresh_desk places limits views) c.m c.before c.past i t.1)).starts)
      (λ t. absurd (let e = t.1 in omega (arith, lt, e, counted)))
      (get_cases (dealt_sights (fresh_desk places limits views) c.before c.m c.past) (Looked place' found' ∷ dealt_sights c.next c.after d c.rest) i (Looked place found)
      (subst (λ (s : List Sight). slice_get s i ≡ Some (Looked place found)) c.parts is))

  looks_linearized : (moves : List Move) (d : Desk) → (run : DealtRun (fresh_desk places limits views) moves d)
      → (journal : List Line) × LockClause d journal × LinearizesLooks limits.room (dealt_sights (fresh_desk places limits views) moves d run) journal
  looks_linearized moves d run =
      let t = linearized laws places limits views meets moves d run in (
        t.0,
        t.1,
        record {
          calls = subst (λ (s : List Act). Linearizes limits.room s t.0) (sym (same_acts (fresh_desk places limits views) d moves run)) t.2;
          looks = λ i place found is. placed moves d run t.0 t.1 i place found (cut place found (fresh_desk places limits views) d moves run i is);
          rise = rises moves d run;
        },
      )

-- what a look finds is the journal of its desk
pub looks_find_the_journal : LooksFindTheJournal
looks_find_the_journal d d' seat journal m lock (p, a, leads, same) =
    let hand = (m.2.led seat p a leads).2 in
    let now : LockClause d' m.0 = (clauses_hold d' m.0 m.1 (subst (λ y. RuleAt y m.0 m.1) (sym same) (release_keeps d m.0 m.1 m.2 seat p a leads))).lock in
    let is : m.0 ≡ journal = one_journal d m.0 journal (clauses_hold d m.0 m.1 m.2).lock lock in
    (hand ∙ is, subst (LockClause d') is now)

-- steps alone are such a run, of which the same is seen
same_sights : (d : Desk) (xs : List Event) (e : Desk) → (run : Run d xs e) → dealt_sights d (taken xs) e (taken_run d xs e run) ≡ sights d xs e run
unfolding taken taken_run
same_sights d [] e run = refl
same_sights d (x ∷ xs) e run = ap (λ (more : List Sight). sights_of d x run.0 run.1 ++ more) (same_sights run.0 xs e run.2)

pub looks_are_more : LooksAreMore
looks_are_more =
    record {
      runs = λ d e xs run.
          ap acts_among (sym (same_sights d xs e run)) ∙ (same_acts d e (taken xs) (taken_run d xs e run) ∙ same_history d xs e run);
      dealt = λ d e xs run. same_acts d e xs run;
    }

module _ (laws : QueueLaws) where
  pub every_dealt_run_linearizes_looks : EveryDealtRunLinearizesLooks
  every_dealt_run_linearizes_looks places limits moves d small run =
      looks_linearized laws places limits (Dealer 0 limits.room ∷ []) (openings_meet.dealer places limits small) moves d run

  pub every_run_linearizes_looks : EveryRunLinearizesLooks
  every_run_linearizes_looks places limits events d small run =
      let t =
      looks_linearized laws places limits (pens_from limits.room places 0) (openings_meet.pens places limits small) (taken events) d (taken_run (opening places limits) events d run) in
      (t.0, t.1, subst (λ (s : List Sight). LinearizesLooks limits.room s t.0) (same_sights (opening places limits) events d run) t.2)
