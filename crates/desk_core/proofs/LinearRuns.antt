-- All runs of the desk, as callers see them, with its pens all out or coming out one by one.
use Rattle.std.proofs.Common.{◌≡◌, ℕ, ◌<◌, ◌≤◌, ⊎_elim, true, false, List, [], ◌∷◌, ◌++◌, length, refl, ap, sym, ◌∙◌, subst, arith, append-nil, append_assoc}
use Rattle.std.specs.Prelude.{Some}
use native.Mathlib.Decide.{dec_lt}
use Rattle.pq_types.specs.Asked.{Request}
use Rattle.pq_types.specs.Asked.{Operation}
use Rattle.pq_types.specs.Asked.{Answer}
use Rattle.pq_types.specs.declared.control.Control.TheVariants.{Nothing}
use Rattle.pq_types.specs.Asked.{Line}
use Rattle.pq_types.specs.Control.{kind_of, posted}
use Rattle.pq_book.specs.Book.{Volume}
use Rattle.pq_types.specs.History.{Limits}
use Rattle.desk_core.specs.CallLines.{IsLineOf}
use Rattle.desk_core.specs.Clauses.{HasNo, LockClause}
use Rattle.desk_core.specs.Desk.{Desk, Has, volume, fresh_desk, pens_from, opening}
use Rattle.desk_core.specs.Steps.{Event, Run}
use Rattle.desk_core.specs.Rule.{StartsWith, RuleAt, MeetsRule}
use Rattle.desk_core.specs.Linearizable.{Act, Begins, Ends, IsIn, TakeTurns, Linearizes, acts, history, EveryRunIsLinearizable, OrderStays, LinesAreWithinCalls}
use Rattle.desk_core.specs.Dealing.{Move, Takes, DealtRun, acts_of, dealt_history, EveryDealtRunIsLinearizable, DealtOrderStays, DealtLinesAreWithinCalls}
use Rattle.desk_core.specs.declared.model.Call.{Call}
use Rattle.desk_core.specs.declared.model.Standing.TheVariants.{Waiting}
use Rattle.desk_core.specs.declared.model.PenState.{PenState}
use Rattle.desk_core.specs.declared.model.View.{View}
use Rattle.desk_core.specs.declared.model.View.TheVariants.{Dealer}
use Rattle.desk_core.proofs.Records.{not_nothing}
use Rattle.desk_core.proofs.Journals.{QueueLaws}
use Rattle.desk_core.proofs.Stand.{waiting_there}
use Rattle.desk_core.proofs.Clauses.{clauses_hold}
use Rattle.desk_core.proofs.Notes.{one_journal}
use Rattle.desk_core.proofs.Runs.{openings_meet}
use Rattle.desk_core.proofs.Histories as h
use Rattle.desk_core.proofs.TakeTurns.{take_turns}
use Rattle.desk_core.proofs.Linearizable.{Over, At, nothing_in, none_apart, none_shorter, move_at, gains_more, starts_trans, line_before}

-- Where a run stands behind further moves: what it saw then, and what its journal has of it.
record Further (d : Desk) (old : List Act) (journal : List Line) (e : Desk) (new : List Act) : Type 0 where
  now : List Line
  room : e.room ≡ d.room
  at : At e (old ++ new) now
  starts : StartsWith now journal
  was : (k : ℕ) (c : Call) → Over d k c.serial → IsLineOf now k c → IsLineOf journal k c
  fresh : (k s : ℕ) (o : Operation) → IsIn new (Begins k s o) → HasNo journal k s

run_stands : QueueLaws → (xs : List Move) (d e : Desk) (old : List Act) (journal : List Line) → At d old journal → (run : DealtRun d xs e)
    → Further d old journal e (dealt_history d xs e run)
run_stands laws [] d e old journal at run =
    record {
      now = journal;
      room = ap (λ (y : Desk). y.room) run;
      at = subst (λ y. At y (old ++ []) journal) (sym run) (subst (λ hs. At d hs journal) (sym (append-nil old)) at);
      starts = ([], sym (append-nil journal));
      was = λ k c over l. l;
      fresh = λ k s q u. absurd (nothing_in _ u);
    }
run_stands laws (x ∷ xs) d e old journal at run =
    let m = run.0 in
    let new = acts_of d x m run.1 in
    let more = dealt_history m xs e run.2 in
    let g = move_at laws d old journal at x m run.1 in
    let adds = g.1 in
    let t = run_stands laws xs m e (old ++ new) g.0 g.2 run.2 in
    record {
      now = t.now;
      room = t.room ∙ g.3;
      at = subst (λ hs. At e hs t.now) (append_assoc old new more) t.at;
      starts = starts_trans journal g.0 t.now (gains_more laws d old journal at m new g) t.starts;
      was = λ k c over l. h.was_there (Over d) (old ++ new) journal g.0 adds.gains k c over (t.was k c (adds.stays k c.serial over) l);
      fresh = λ k s q u.
          ⊎_elim
          (λ v. adds.begins k s q v)
          (λ v. none_shorter journal g.0 k s (gains_more laws d old journal at m new g) (t.fresh k s q v))
          (h.in_cases new more (Begins k s q) u);
    }

-- before all moves nobody has begun, and the journal is empty
module _ (places : ℕ) (limits : Limits) (views : List View) (meets : MeetsRule (fresh_desk places limits views)) where
  no_line : (place : ℕ) (c : Call) → IsLineOf [] place c → ⊥
  no_line place c u = let a = u.some in let b = u.within in omega (arith, a, b)

  nobody_waits : (journal : List Line) (chief : ℕ) → RuleAt (fresh_desk places limits views) journal chief → (i : ℕ) (p : PenState)
      → Has (fresh_desk places limits views).views i p → (q : Request) → p.standing ≡ Waiting q → ⊥
  nobody_waits journal chief r i p a q waits =
      ⊎_elim
      (λ u. (let f : Nothing ≡ posted p.posts q = u in not_nothing Nothing p.posts (kind_of q) f refl))
      (λ u. (let f : false ≡ true = u in cc))
      (waiting_there limits.room journal Nothing ((fresh_desk places limits views).item p.place) p.place p.posts p.mine p.standing q waits (r.pens i p a).stands)

  opening_at : (journal : List Line) → journal ≡ [] → (chief : ℕ) → RuleAt (fresh_desk places limits views) journal chief → At (fresh_desk places limits views) [] journal
  opening_at journal empty chief r =
      record {
        chief = chief;
        rule = r;
        kept = record {
          begun = λ k c u. absurd (no_line k c (subst (λ js. IsLineOf js k c) empty u));
          over = λ k s x u. absurd (nothing_in _ u);
          ended = λ k s x u. absurd (nothing_in _ u);
          order = λ k k' b c u v t. absurd (none_apart k b.serial k' c.serial t);
        };
        waits = λ i p a q waits. absurd (nobody_waits journal chief r i p a q waits);
      }

  starts_empty : (journal : List Line) (chief : ℕ) → RuleAt (fresh_desk places limits views) journal chief → journal ≡ []
  starts_empty journal chief r =
      ⊎_elim
      (λ t.
      (let e : Some (volume limits []) ≡ Some t.1.book = t.1.is in
      let f : volume limits [] ≡ t.1.book = cc in
      sym (ap (λ (b : Volume). b.journal) f ∙ t.1.journal_is)))
      (λ t. absurd (let e : false ≡ true = t.0 in cc))
      r.lock

  pub begins_at : (journal : List Line) × At (fresh_desk places limits views) [] journal
  begins_at = (meets.0, opening_at meets.0 (starts_empty meets.0 meets.1 meets.2) meets.1 meets.2)

  turns_at : QueueLaws → (moves : List Move) (d : Desk) → (run : DealtRun (fresh_desk places limits views) moves d)
      → TakeTurns (λ _. 0) (λ _. false) (dealt_history (fresh_desk places limits views) moves d run)
  turns_at laws moves d run = take_turns laws (fresh_desk places limits views) moves d meets run (nobody_waits meets.0 meets.1 meets.2)

  -- where any run stands
  pub stands_at : QueueLaws → (moves : List Move) (d : Desk) → (run : DealtRun (fresh_desk places limits views) moves d)
      → (journal : List Line) × At d (dealt_history (fresh_desk places limits views) moves d run) journal × (d.room ≡ limits.room)
  stands_at laws moves d run =
      let t = run_stands laws moves (fresh_desk places limits views) d [] begins_at.0 begins_at.1 run in (t.now, t.at, t.room)

pub at_lock : (d : Desk) (history : List Act) (journal : List Line) → At d history journal → LockClause d journal
at_lock d history journal at = (clauses_hold d journal at.chief at.rule).lock

linearizes : (d : Desk) (history : List Act) (journal : List Line) → At d history journal → TakeTurns (λ _. 0) (λ _. false) history
    → Linearizes d.room history journal
linearizes d history journal at turns =
    record { turns = turns; legal = at.rule.lawful.legal; once = at.rule.lawful.rise; heeds = at.rule.lawful.heeds; begun = at.kept.begun; ended = at.kept.ended; order = at.kept.order }

-- so all runs from a fresh desk are linearizable
module _ (laws : QueueLaws) (places : ℕ) (limits : Limits) (views : List View) (meets : MeetsRule (fresh_desk places limits views)) where
  pub linearized : (moves : List Move) (d : Desk) → (run : DealtRun (fresh_desk places limits views) moves d)
      → (journal : List Line) × LockClause d journal × Linearizes limits.room (dealt_history (fresh_desk places limits views) moves d run) journal
  linearized moves d run =
      let t = stands_at places limits views meets laws moves d run in
      let seen = dealt_history (fresh_desk places limits views) moves d run in
      (t.0, at_lock d seen t.0 t.1, subst (λ n. Linearizes n seen t.0) t.2 (linearizes d seen t.0 t.1 (turns_at places limits views meets laws moves d run)))

  module _ (before after : List Move) (m d : Desk) (journal journal' : List Line) (past : DealtRun (fresh_desk places limits views) before m) (here : LockClause m journal) (rest : DealtRun m after d)
      (there : LockClause d journal') where
    old : List Act
    old = dealt_history (fresh_desk places limits views) before m past

    at_m : At m old journal
    unfolding old
    at_m =
        let t = stands_at places limits views meets laws before m past in
        subst (At m old) (one_journal m t.0 journal (at_lock m old t.0 t.1) here) t.1

    further : Further m old journal d (dealt_history m after d rest)
    further = run_stands laws after m d old journal at_m rest

    same_end : further.now ≡ journal'
    same_end = one_journal d further.now journal' (at_lock d (old ++ dealt_history m after d rest) further.now further.at) there

    pub longer : StartsWith journal' journal
    longer = subst (λ js. StartsWith js journal) same_end further.starts

    pub ends_before : (place : ℕ) (c : Call) → IsLineOf journal' place c → (answer : Answer)
        → IsIn (dealt_history (fresh_desk places limits views) before m past) (Ends place c.serial answer) → c.number ≤ length journal
    unfolding old
    ends_before place c l answer u =
        (further.was place c (at_m.kept.over place c.serial answer u) (subst (λ js. IsLineOf js place c) (sym same_end) l)).within

    pub begins_behind : (place : ℕ) (c : Call) → IsLineOf journal' place c → (operation : Operation)
        → IsIn (dealt_history m after d rest) (Begins place c.serial operation) → length journal < c.number
    begins_behind place c l operation u =
        elim (dec_lt (length journal) c.number) [
          | yes q ↦ q
          | no q ↦ absurd (h.none_of journal place c.serial (further.fresh place c.serial operation u) c (line_before journal journal' place c longer l (omega arith)) refl)
        ]

-- of a desk that opens with a dealer
module _ (laws : QueueLaws) where
  pub every_dealt_run_is_linearizable : EveryDealtRunIsLinearizable
  every_dealt_run_is_linearizable places limits moves d small run = linearized laws places limits (Dealer 0 limits.room ∷ []) (openings_meet.dealer places limits small) moves d run

  pub dealt_order_stays : DealtOrderStays
  dealt_order_stays places limits before after m d journal journal' small past here rest there =
      longer laws places limits (Dealer 0 limits.room ∷ []) (openings_meet.dealer places limits small) before after m d journal journal' past here rest there

  pub dealt_lines_are_within_calls : DealtLinesAreWithinCalls
  dealt_lines_are_within_calls places limits before after m d journal journal' small past here rest there place c l =
      let meets = openings_meet.dealer places limits small in (
        ends_before laws places limits (Dealer 0 limits.room ∷ []) meets before after m d journal journal' past here rest there place c l,
        begins_behind laws places limits (Dealer 0 limits.room ∷ []) meets before after m d journal journal' past here rest there place c l,
      )

-- steps alone are such a run, of which callers see the same
unfoldable pub taken : List Event → List Move
taken [] = []
taken (x ∷ xs) = Takes x ∷ taken xs

unfoldable pub taken_run : (d : Desk) (xs : List Event) (e : Desk) → Run d xs e → DealtRun d (taken xs) e
unfolding taken
taken_run d [] e run = run
taken_run d (x ∷ xs) e run = (run.0, run.1, taken_run run.0 xs e run.2)

pub same_history : (d : Desk) (xs : List Event) (e : Desk) → (run : Run d xs e) → dealt_history d (taken xs) e (taken_run d xs e run) ≡ history d xs e run
unfolding taken taken_run
same_history d [] e run = refl
same_history d (x ∷ xs) e run = ap (λ more. acts d x run.0 run.1 ++ more) (same_history run.0 xs e run.2)

-- of one whose pens are all out
module _ (laws : QueueLaws) where
  pub every_run_is_linearizable : EveryRunIsLinearizable
  every_run_is_linearizable places limits events d small run =
      let t = linearized laws places limits (pens_from limits.room places 0) (openings_meet.pens places limits small) (taken events) d (taken_run (opening places limits) events d run) in
      (t.0, t.1, subst (λ seen. Linearizes limits.room seen t.0) (same_history (opening places limits) events d run) t.2)

  pub order_stays : OrderStays
  order_stays places limits before after m d journal journal' small past here rest there =
      longer laws places limits (pens_from limits.room places 0) (openings_meet.pens places limits small) (taken before) (taken after) m d journal journal'
      (taken_run (opening places limits) before m past)
      here
      (taken_run m after d rest)
      there

  pub lines_are_within_calls : LinesAreWithinCalls
  lines_are_within_calls places limits before after m d journal journal' small past here rest there place c l =
      let meets = openings_meet.pens places limits small in
      let first = taken_run (opening places limits) before m past in
      let second = taken_run m after d rest in (
        λ answer u.
            ends_before laws places limits (pens_from limits.room places 0) meets (taken before) (taken after) m d journal journal' first here second there place c l answer
            (subst (λ seen. IsIn seen (Ends place c.serial answer)) (sym (same_history (opening places limits) before m past)) u),
        λ operation u.
            begins_behind laws places limits (pens_from limits.room places 0) meets (taken before) (taken after) m d journal journal' first here second there place c l operation
            (subst (λ seen. IsIn seen (Begins place c.serial operation)) (sym (same_history m after d rest)) u),
      )
