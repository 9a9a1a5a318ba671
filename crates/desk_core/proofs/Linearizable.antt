-- Each step of the desk, as its callers see it.
use Rattle.std.proofs.Common.{◌≡◌, ◌≢◌, ℕ, ◌+◌, ◌-◌, ◌<◌, ◌≤◌, ◌⊎◌, inl, inr, ⊎_elim, List, [], ◌∷◌, ◌++◌, length, set, slice_get, refl, ap, sym, ◌∙◌, subst, arith, append-nil, append_assoc, length-append}
use Rattle.std.specs.Prelude.{Option, Some, None}
use Rattle.std.specs.List.{AllByRecursion}
use mathlib.Core.Logic.{dite}
use native.Mathlib.Decide.{ℕ_discrete}
use Rattle.pq_types.specs.Item.{Item}
use Rattle.pq_types.specs.Asked.{Request}
use Rattle.pq_types.specs.Asked.{Operation}
use Rattle.pq_types.specs.Operation.{Asked}
use Rattle.pq_types.specs.Asked.{Answer}
use Rattle.pq_types.specs.declared.answer.Answer.TheVariants.{Entered, BookFull, NoMemory, Refused}
use Rattle.pq_types.specs.declared.control.Control.TheVariants.{Answered}
use Rattle.pq_types.specs.Asked.{Line}
use Rattle.pq_types.specs.Control.{answer_with, request_item, answer_item, answered, Carries, is_answer}
use Rattle.pq_types.specs.History.{line_of, journal_by, journal_after}
use Rattle.desk_core.specs.Calls.{call, calls_of, gained}
use Rattle.desk_core.specs.CallLines.{IsLineOf}
use Rattle.desk_core.specs.Clauses.{HasNo}
use Rattle.desk_core.specs.Pen.{IsIdle, told_by, standing_told, after_draft, after_post, after_lead, after_miss, after_read, after_read_item, after_lay, after_answer, after_release, after_release_by, after_look, after_see, after_take, after_apply, after_archive, after_change, after_hand_out}
use Rattle.desk_core.specs.Desk.{Desk, Has, time}
use Rattle.desk_core.specs.Steps.{Event, Drafts, Posts, Tries, Reads, ReadsItem, LaysItem, Answers, Releases, ReleasesBy, Looks, SeesItem, TakesItem, Step, Applies, Archives, Changes, HandsOut}
use Rattle.desk_core.specs.Rule.{StartsWith, RuleAt, above_mine}
use Rattle.desk_core.specs.Notes.{after_catch_up, after_writing, after_hearing}
use Rattle.desk_core.specs.Linearizable.{Act, Begins, Ends, IsIn, Precedes, IsTrueOf, told, acts}
use Rattle.desk_core.specs.Dealing.{Move, Deals, Takes, CatchesUp, Writes, Hears, Copies, Testifies, Retires, Sleeps, Wakes, Gathers, DealsPen, Happens, acts_of}
use Rattle.desk_core.specs.declared.model.Call.{Call}
use Rattle.desk_core.specs.declared.model.Standing.TheVariants.{Idle, Waiting}
use Rattle.desk_core.specs.declared.model.Duty.TheVariants.{Asleep, Retired}
use Rattle.desk_core.specs.declared.model.PenState.{PenState}
use Rattle.desk_core.specs.declared.model.View.{View}
use Rattle.desk_core.specs.declared.model.View.TheVariants.{Holder, Note, Testimony}
use Rattle.desk_core.proofs.Loose.{MayTell}
use Rattle.desk_core.proofs.Records.{kept_carries, same_request, told_is, with_cell_answer, notice_back}
use Rattle.desk_core.proofs.Journals.{QueueLaws, all_weaker, get_last, lines_below}
use Rattle.desk_core.proofs.Splits.{split_keeps, each_dealt, stays_out}
use Rattle.desk_core.proofs.Views.{has_here, has_else, each_after, same_pen}
use Rattle.desk_core.proofs.Stand.{barred_stands, own_bars, not_idle, full_stands, answered_stands}
use Rattle.desk_core.proofs.StepFacts.{draft_keeps, post_keeps, lead_keeps, miss_keeps, read_keeps, read_item_keeps, lay_keeps, answer_keeps, release_keeps, release_by_keeps, look_keeps, see_keeps, take_keeps, poster, apply_keeps, archive_keeps, change_keeps, hand_out_keeps, may_answer}
use Rattle.desk_core.proofs.Clauses.{knows}
use Rattle.desk_core.proofs.CallLines.{calls_are_lines}
use Rattle.desk_core.specs.Testimonies.{after_retiring, after_sleeping, after_waking}
use Rattle.desk_core.proofs.Notes.{OnlyKnow, same_place, only_keeps, caught_up_at, written, heard, copied, testified, set_aside, woken, gathered}
use Rattle.desk_core.proofs.Histories as h

-- the call is over: its pen has used another serial since, or is idle
abbrev pub Over : Desk → ℕ → ℕ → Type 0
Over d place serial =
    (i : ℕ) × (p : PenState) × Has d.views i p × (p.place ≡ place) × ((serial < p.posts) ⊎ ((serial ≤ p.posts) × IsIdle p.standing))

-- each pen that waits has begun its call
abbrev pub WaitsBegun : Desk → List Act → Type 0
WaitsBegun d history = (i : ℕ) (p : PenState) → Has d.views i p → (q : Request) → p.standing ≡ Waiting q → IsIn history (Begins p.place p.posts (Asked q))

-- Of the step of the pen p at the seat i of d, after which the pen is w: the posts, and that an idle pen
-- stays idle or goes on to another serial.
record Steps (d e : Desk) (i : ℕ) (p w : PenState) : Type 0 where
  has : Has d.views i p
  views : e.views ≡ set d.views i (Holder w)
  room : e.room ≡ d.room
  place : w.place ≡ p.place
  posts : p.posts ≤ w.posts
  idle : IsIdle p.standing → (p.posts < w.posts) ⊎ IsIdle w.standing

over_stays : (d e : Desk) (i : ℕ) (p w : PenState) → Steps d e i p w → (k s : ℕ) → Over d k s → Over e k s
over_stays d e i p w t k s (j, q, b, at, o) =
    let posts = t.posts in
    dite (ℕ_discrete j i)
    (λ f.
    (let g : p ≡ q = same_pen d.views i p q t.has (subst (λ n. Has d.views n q) f b) in
    let e1 : p.posts ≡ q.posts = ap (λ (y : PenState). y.posts) g in (
      i,
      w,
      subst (λ vs. Has vs i w) (sym t.views) (has_here d.views i p w t.has),
      t.place ∙ (ap (λ (y : PenState). y.place) g ∙ at),
      ⊎_elim
          (λ lt. inl (omega (arith, posts, e1, lt)))
          (λ u.
          (let le = u.0 in
          ⊎_elim
          (λ lt. inl (omega (arith, lt, e1, le)))
          (λ free. inr (omega (arith, posts, e1, le), free))
          (t.idle (subst (λ (y : PenState). IsIdle y.standing) (sym g) u.1))))
          o,
    )))
    (λ ne. (j, q, subst (λ vs. Has vs j q) (sym t.views) (has_else d.views i j w q ne b), at, o))

waits_stay : (d e : Desk) (i : ℕ) (p w : PenState) (old new : List Act) → Steps d e i p w → WaitsBegun d old
    → ((q : Request) → w.standing ≡ Waiting q → ((p.standing ≡ Waiting q) × (w.posts ≡ p.posts)) ⊎ IsIn new (Begins w.place w.posts (Asked q)))
    → WaitsBegun e (old ++ new)
waits_stay d e i p w old new t wb f j v b =
    each_after d.views i w (λ _ y. (q : Request) → y.standing ≡ Waiting q → IsIn (old ++ new) (Begins y.place y.posts (Asked q)))
    (λ q waits.
    ⊎_elim
    (λ u.
    h.in_left old new (Begins w.place w.posts (Asked q))
    (subst (λ k. IsIn old (Begins k w.posts (Asked q))) (sym t.place)
    (subst (λ n. IsIn old (Begins p.place n (Asked q))) (sym u.1) (wb i p t.has q u.0))))
    (λ u. h.in_right old new (Begins w.place w.posts (Asked q)) u)
    (f q waits))
    (λ k y ne c q waits. h.in_left old new (Begins y.place y.posts (Asked q)) (wb k y c q waits))
    j v (subst (λ vs. Has vs j v) t.views b)

-- where the run stands, with what its callers have seen
pub record At (d : Desk) (history : List Act) (journal : List Line) : Type 0 where
  pub chief : ℕ
  pub rule : RuleAt d journal chief
  pub kept : h.Kept d.room (Over d) history journal
  pub waits : WaitsBegun d history

-- the same behind a step: what it adds, and where the run stands then
abbrev pub Goes : Desk → List Act → List Line → Desk → List Act → Type 0
Goes d old journal e new = (journal' : List Line) × h.Adds d.room (Over d) (Over e) old new journal journal' × At e (old ++ new) journal' × (e.room ≡ d.room)

pub nothing_in : (x : Act) → IsIn [] x → ⊥
nothing_in x t = absurd (let e = t.1 in cc)

one_in : (y x : Act) → IsIn (y ∷ []) x → y ≡ x
one_in y x t = (h.one_alone y x t.0 t.1).1

-- one act is not behind itself
one_apart : (y : Act) (place serial place' serial' : ℕ) → Precedes (y ∷ []) place serial place' serial' → ⊥
one_apart y place serial place' serial' t =
    let u = (h.one_alone y (Ends place serial t.answer) t.end t.ends).0 in
    let v = (h.one_alone y (Begins place' serial' t.operation) t.begin t.begins).0 in
    let lt = t.before in
    omega (arith, u, v, lt)

pub none_apart : (place serial place' serial' : ℕ) → Precedes [] place serial place' serial' → ⊥
none_apart place serial place' serial' t = nothing_in _ (t.end, t.ends)

-- what an idle or waiting pen has not used yet is no line's
unused : (d : Desk) (journal : List Line) (chief : ℕ) (r : RuleAt d journal chief) (i : ℕ) (p : PenState) → Has d.views i p → HasNo journal p.place (p.posts + 1)
unused d journal chief r i p a =
    all_weaker (λ (l : Line). p.place ≡ l.place → l.serial < p.posts + 1) (λ (l : Line). p.place ≡ l.place → l.serial ≢ p.posts + 1) journal
    (λ l f g e. (let lt = f g in omega (arith, lt, e)))
    (knows d journal chief r i p a).used

-- a call is over where its pen is idle behind it
over_now : (d e : Desk) (i : ℕ) (p w : PenState) → Steps d e i p w → (s : ℕ) → s ≤ w.posts → IsIdle w.standing → Over e p.place s
over_now d e i p w t s le free = (i, w, subst (λ vs. Has vs i w) (sym t.views) (has_here d.views i p w t.has), t.place, inr (le, free))

-- the last or next call of a pen is not over
not_over : (d : Desk) (journal : List Line) (chief : ℕ) (r : RuleAt d journal chief) (i : ℕ) (p : PenState) → Has d.views i p → (s : ℕ) → p.posts ≤ s
    → ((s ≤ p.posts) × IsIdle p.standing → ⊥) → Over d p.place s → ⊥
not_over d journal chief r i p a s le busy (j, q, b, at, o) =
    let f : j ≡ i = r.seated.apart j i q p b a at in
    let g : p ≡ q = same_pen d.views i p q a (subst (λ n. Has d.views n q) f b) in
    let e : p.posts ≡ q.posts = ap (λ (y : PenState). y.posts) g in
    ⊎_elim
    (λ lt. omega (arith, le, e, lt))
    (λ u. busy (let small = u.0 in omega (arith, small, e), subst (λ (y : PenState). IsIdle y.standing) (sym g) u.1))
    o

module _ (d e : Desk) (i : ℕ) (p w : PenState) (t : Steps d e i p w) (old : List Act) where
  -- a step in which nothing begins or ends
  adds_none : (journal journal' : List Line) → h.Gains (Over d) (old ++ []) journal journal' → h.Adds d.room (Over d) (Over e) old [] journal journal'
  adds_none journal journal' g =
      record {
        stays = over_stays d e i p w t;
        gains = g;
        over = λ k s x u. absurd (nothing_in _ u);
        ended = λ k s x u. absurd (nothing_in _ u);
        begins = λ k s q u. absurd (nothing_in _ u);
        apart = none_apart;
      }

  adds_begin : (journal : List Line) (k s : ℕ) (q : Operation) → HasNo journal k s → h.Adds d.room (Over d) (Over e) old (Begins k s q ∷ []) journal journal
  adds_begin journal k s q none =
      record {
        stays = over_stays d e i p w t;
        gains = inl refl;
        over = λ k' s' x u. absurd (let f : Begins k s q ≡ Ends k' s' x = one_in _ _ u in cc);
        ended = λ k' s' x u. absurd (let f : Begins k s q ≡ Ends k' s' x = one_in _ _ u in cc);
        begins = λ k' s' q' u.
            (let f : Begins k s q ≡ Begins k' s' q' = one_in _ _ u in
            let a : k ≡ k' = cc in
            let b : s ≡ s' = cc in
            subst (HasNo journal k') b (subst (λ n. HasNo journal n s) a none));
        apart = one_apart (Begins k s q);
      }

  adds_end : (journal : List Line) (k s : ℕ) (x : Answer) → Over e k s → IsTrueOf d.room journal k s x
      → h.Adds d.room (Over d) (Over e) old (Ends k s x ∷ []) journal journal
  adds_end journal k s x over true_of =
      record {
        stays = over_stays d e i p w t;
        gains = inl refl;
        over = λ k' s' x' u.
            (let f : Ends k s x ≡ Ends k' s' x' = one_in _ _ u in
            let a : k ≡ k' = cc in
            let b : s ≡ s' = cc in
            subst (Over e k') b (subst (λ n. Over e n s) a over));
        ended = λ k' s' x' u.
            (let f : Ends k s x ≡ Ends k' s' x' = one_in _ _ u in
            let a : k ≡ k' = cc in
            let b : s ≡ s' = cc in
            let c : x ≡ x' = cc in
            subst (IsTrueOf d.room journal k' s') c (subst (λ n. IsTrueOf d.room journal k' n x) b (subst (λ n. IsTrueOf d.room journal n s x) a true_of)));
        begins = λ k' s' q u. absurd (let f : Ends k s x ≡ Begins k' s' q = one_in _ _ u in cc);
        apart = one_apart (Ends k s x);
      }

  both_apart : (k s : ℕ) (q : Operation) (x : Answer) (place serial place' serial' : ℕ) → Precedes (Begins k s q ∷ Ends k s x ∷ []) place serial place' serial' → ⊥
  both_apart k s q x place serial place' serial' u =
      let lt = u.before in
      ⊎_elim
      (λ v. (let f : Begins k s q ≡ Ends place serial u.answer = (h.one_alone _ _ u.end v.1).1 in cc))
      (λ v.
      (let a = v.1 in
      let b = (h.one_alone (Ends k s x) (Ends place serial u.answer) v.0 v.2).0 in
      ⊎_elim
      (λ y. (let c = y.0 in omega (arith, a, b, c, lt)))
      (λ y.
      (let c = y.1 in
      let z = (h.one_alone (Ends k s x) (Begins place' serial' u.operation) y.0 y.2).0 in omega (arith, a, b, c, z, lt)))
      (h.get_cases (Begins k s q ∷ []) (Ends k s x ∷ []) u.begin (Begins place' serial' u.operation) u.begins)))
      (h.get_cases (Begins k s q ∷ []) (Ends k s x ∷ []) u.end (Ends place serial u.answer) u.ends)

  adds_both : (journal journal' : List Line) (k s : ℕ) (q : Operation) (x : Answer) → h.Gains (Over d) (old ++ Begins k s q ∷ Ends k s x ∷ []) journal journal'
      → Over e k s → IsTrueOf d.room journal' k s x → HasNo journal k s
      → h.Adds d.room (Over d) (Over e) old (Begins k s q ∷ Ends k s x ∷ []) journal journal'
  adds_both journal journal' k s q x g over true_of none =
      let first : (y : Act) → IsIn (Begins k s q ∷ Ends k s x ∷ []) y → (Begins k s q ≡ y) ⊎ (Ends k s x ≡ y) =
      λ y u. ⊎_elim (λ v. inl (one_in _ _ v)) (λ v. inr (one_in _ _ v)) (h.in_cases (Begins k s q ∷ []) (Ends k s x ∷ []) y u) in
      record {
        stays = over_stays d e i p w t;
        gains = g;
        over = λ k' s' x' u.
            ⊎_elim
            (λ v. absurd (let f : Begins k s q ≡ Ends k' s' x' = v in cc))
            (λ v.
            (let f : Ends k s x ≡ Ends k' s' x' = v in
            let a : k ≡ k' = cc in
            let b : s ≡ s' = cc in
            subst (Over e k') b (subst (λ n. Over e n s) a over)))
            (first (Ends k' s' x') u);
        ended = λ k' s' x' u.
            ⊎_elim
            (λ v. absurd (let f : Begins k s q ≡ Ends k' s' x' = v in cc))
            (λ v.
            (let f : Ends k s x ≡ Ends k' s' x' = v in
            let a : k ≡ k' = cc in
            let b : s ≡ s' = cc in
            let c : x ≡ x' = cc in
            subst (IsTrueOf d.room journal' k' s') c (subst (λ n. IsTrueOf d.room journal' k' n x) b (subst (λ n. IsTrueOf d.room journal' n s x) a true_of))))
            (first (Ends k' s' x') u);
        begins = λ k' s' q' u.
            ⊎_elim
            (λ v.
            (let f : Begins k s q ≡ Begins k' s' q' = v in
            let a : k ≡ k' = cc in
            let b : s ≡ s' = cc in
            subst (HasNo journal k') b (subst (λ n. HasNo journal n s) a none)))
            (λ v. absurd (let f : Ends k s x ≡ Begins k' s' q' = v in cc))
            (first (Begins k' s' q') u);
        apart = both_apart k s q x;
      }

  at_on : (new : List Act) (journal journal' : List Line) (chief : ℕ) → At d old journal → RuleAt e journal' chief
      → h.Adds d.room (Over d) (Over e) old new journal journal'
      → ((q : Request) → w.standing ≡ Waiting q → ((p.standing ≡ Waiting q) × (w.posts ≡ p.posts)) ⊎ IsIn new (Begins w.place w.posts (Asked q)))
      → Goes d old journal e new
  at_on new journal journal' chief at rule adds f = (
    journal',
    adds,
    record {
      chief = chief;
      rule = rule;
      kept = subst (λ n. h.Kept n (Over e) (old ++ new) journal') (sym t.room)
          (h.kept_on d.room (Over d) (Over e) old new journal journal' at.kept adds (subst (λ n. length journal' ≤ n) t.room rule.lawful.within));
      waits = waits_stay d e i p w old new t at.waits f;
    },
    t.room,
  )

-- the journal gains at most the line of what is answered
gains_after : (over : ℕ → ℕ → Type 0) (seen : List Act) (journal : List Line) (k s : ℕ) (o : Operation) (x : Answer) → (over k s → ⊥) → IsIn seen (Begins k s o)
    → h.Gains over seen journal (journal_by journal k s o x)
gains_after over seen journal k s o (Entered n r) busy has = inr (line_of k s o r, refl, busy, has)
gains_after over seen journal k s o BookFull busy has = inl refl
gains_after over seen journal k s o NoMemory busy has = inl refl
gains_after over seen journal k s o (Refused why) busy has = inl refl

-- what a pen is told that finds an answer in its record, with its item, is true
module _ (d : Desk) (journal : List Line) (chief : ℕ) (r : RuleAt d journal chief) (i : ℕ) (p : PenState) (a : Has d.views i p) where
  none_used : (q : Request) → p.standing ≡ Waiting q → calls_of p.place journal ≡ p.mine → HasNo journal p.place p.posts
  none_used q waits seen =
      let below : AllByRecursion (λ (c : Call). c.serial < p.posts) p.mine =
      subst (λ o. AllByRecursion (λ (c : Call). c.serial < above_mine p.posts o) p.mine) waits (r.pens i p a).looked in
      all_weaker (λ (l : Line). p.place ≡ l.place → l.serial < p.posts) (λ (l : Line). p.place ≡ l.place → l.serial ≢ p.posts) journal
      (λ l f g e. (let lt = f g in omega (arith, lt, e)))
      (lines_below 1 p.place p.posts journal (subst (AllByRecursion (λ (c : Call). c.serial < p.posts)) (sym seen) below))

  calls_true : (q : Request) (x : Answer) → p.standing ≡ Waiting q → d.control p.place ≡ answered x → calls_of p.place journal ≡ p.mine ++ gained p.posts q x → IsTrueOf d.room journal p.place p.posts x
  calls_true q (Entered n y) waits at seen =
      (Asked q, calls_are_lines p.place journal (p.mine ++ call n p.posts q y ∷ []) seen (length p.mine) (call n p.posts q y) (get_last p.mine (call n p.posts q y)))
  calls_true q BookFull waits at seen = (
    full_stands d.room journal (d.control p.place) (d.item p.place) p.place p.posts p.mine p.standing q waits at (r.pens i p a).stands,
    none_used q waits (seen ∙ append-nil p.mine),
  )
  calls_true q NoMemory waits at seen = none_used q waits (seen ∙ append-nil p.mine)
  calls_true q (Refused why) waits at seen = (
    barred_stands d.room journal (d.control p.place) (d.item p.place) p.place p.posts p.mine p.standing q why waits at (r.pens i p a).stands,
    none_used q waits (seen ∙ append-nil p.mine),
  )

  pub told_true : (q : Request) (x : Answer) → p.standing ≡ Waiting q → d.control p.place ≡ answered x → Carries (answer_item x) (d.item p.place)
      → IsTrueOf d.room journal p.place p.posts x
  told_true q x waits at has =
      calls_true q x waits at
      (answered_stands d.room journal (d.control p.place) (d.item p.place) p.place p.posts p.mine p.standing q x waits at has (r.pens i p a).stands).1

  -- the answer to a request of its own is true behind it
  own_true : (o : Operation) (x : Answer) → MayTell d.room journal o x
      → IsTrueOf d.room (journal_by journal p.place (p.posts + 1) o x) p.place (p.posts + 1) x
  own_true o (Entered n y) may =
      let number = may.1 in
      let l = line_of p.place (p.posts + 1) o y in
      let f : length journal ≡ n - 1 = omega (arith, number) in (
        o,
        record {
          some = omega (arith, number);
          within = omega (arith, number, length-append journal (l ∷ []));
          there = subst (λ m. slice_get (journal ++ l ∷ []) m ≡ Some l) f (get_last journal l);
        },
      )
  own_true o BookFull may = (may, unused d journal chief r i p a)
  own_true o NoMemory may = unused d journal chief r i p a
  own_true o (Refused why) may = (own_bars d.room journal o why may, unused d journal chief r i p a)

told_waits : (q q' : Request) (o : Option Answer) → standing_told q o ≡ Waiting q' → Waiting q ≡ Waiting q'
told_waits q q' None e = e
told_waits q q' (Some x) e = absurd (let f : Idle None ≡ Waiting q' = e in cc)

never_waits : (draft : Option Item) (q : Request) → Idle draft ≡ Waiting q → ⊥
never_waits draft q e = cc

module _ (laws : QueueLaws) (d : Desk) (old : List Act) (journal : List Line) (at : At d old journal) where
  -- a step of which callers see nothing, which leaves the journal
  unseen : (e : Desk) (i : ℕ) (p w : PenState) (chief : ℕ) → Steps d e i p w → RuleAt e journal chief
      → ((q : Request) → w.standing ≡ Waiting q → (p.standing ≡ Waiting q) × (w.posts ≡ p.posts)) → Goes d old journal e []
  unseen e i p w chief t rule f =
      at_on d e i p w t old [] journal journal chief at rule (adds_none d e i p w t old journal journal (inl refl)) (λ q u. inl (f q u))

  -- one that leaves the pen as one who asks as it was
  asks_on : (e : Desk) (i : ℕ) (p w : PenState) (chief : ℕ) → Has d.views i p → e.views ≡ set d.views i (Holder w) → e.room ≡ d.room → w.place ≡ p.place
      → w.posts ≡ p.posts → w.standing ≡ p.standing → RuleAt e journal chief → Goes d old journal e []
  asks_on e i p w chief a views same_room place posts standing rule =
      unseen e i p w chief
      record { has = a; views = views; room = same_room; place = place; posts = omega (arith, posts); idle = λ u. inr (subst IsIdle (sym standing) u) }
      rule (λ q u. (sym standing ∙ u, posts))

  -- a look ends the call where it is told an answer
  look_adds : (e : Desk) (i : ℕ) (p w : PenState) → Steps d e i p w → (q : Request) → p.standing ≡ Waiting q → w.posts ≡ p.posts
      → (o : Option Answer) → told_by (d.control p.place) ≡ o → w.standing ≡ standing_told q o → Has d.views i p
      → h.Adds d.room (Over d) (Over e) old (told p.place p.posts o) journal journal
  look_adds e i p w t q waits posts None f standing a = adds_none d e i p w t old journal journal (inl refl)
  look_adds e i p w t q waits posts (Some x) f standing a =
      let u = told_is (d.control p.place) x f in
      adds_end d e i p w t old journal p.place p.posts x
      (over_now d e i p w t p.posts (omega (arith, posts)) (None, standing))
      (told_true d journal at.chief at.rule i p a q x waits u.0 (subst (λ o. Carries o (d.item p.place)) (sym u.1) tt))

  step_at : (x : Event) (e : Desk) (step : Step d x e) → Goes d old journal e (acts d x e step)
  step_at (Drafts i x) e (p, a, free, item, same) =
      unseen e i p (after_draft p x) at.chief
      record { has = a; views = ap (λ (y : Desk). y.views) same; room = ap (λ (y : Desk). y.room) same; place = refl; posts = omega arith; idle = λ u. inr (Some x, refl) }
      (subst (λ y. RuleAt y journal at.chief) (sym same) (draft_keeps d journal at.chief at.rule i p a x free))
      (λ q u. absurd (never_waits (Some x) q u))
  step_at (Posts i q) e (p, draft, a, free, few, proper, drafted, same) =
      let w = after_post p q (time d) in
      let t : Steps d e i p w =
      record { has = a; views = ap (λ (y : Desk). y.views) same; room = ap (λ (y : Desk). y.room) same; place = refl; posts = omega arith; idle = λ u. inl (omega arith) } in
      at_on d e i p w t old (Begins p.place (p.posts + 1) (Asked q) ∷ []) journal journal at.chief at
      (subst (λ y. RuleAt y journal at.chief) (sym same) (post_keeps d journal at.chief at.rule i p a (time d) q draft free few proper drafted))
      (adds_begin d e i p w t old journal p.place (p.posts + 1) (Asked q) (unused d journal at.chief at.rule i p a))
      (λ q' u. inr (0, let f : Waiting q ≡ Waiting q' = u in let g : q ≡ q' = cc in ap (λ y. Some (Begins p.place (p.posts + 1) (Asked y))) g))
  step_at (Tries i) e (p, a, c) =
      ⊎_elim
      (λ u.
      asks_on e i p (after_lead p u.1.0) i a (ap (λ (y : Desk). y.views) u.1.2) (ap (λ (y : Desk). y.room) u.1.2) refl refl refl
      (subst (λ y. RuleAt y journal i) (sym u.1.2) (lead_keeps d journal at.chief at.rule i p a u.1.0 u.0 u.1.1)))
      (λ u.
      asks_on e i p (after_miss p) at.chief a (ap (λ (y : Desk). y.views) u.1) (ap (λ (y : Desk). y.room) u.1) refl refl refl
      (subst (λ y. RuleAt y journal at.chief) (sym u.1) (miss_keeps d journal at.chief at.rule i p a)))
      c
  step_at (Reads i k) e (p, a, leads, inside, same) =
      asks_on e i p (after_read p k (d.control k)) at.chief a (ap (λ (y : Desk). y.views) same) (ap (λ (y : Desk). y.room) same) refl refl refl
      (subst (λ y. RuleAt y journal at.chief) (sym same) (read_keeps d journal at.chief at.rule i p a k leads))
  step_at (ReadsItem i) e (p, due, a, leads, is_due, push, same) =
      asks_on e i p (after_read_item p due (d.item due.place)) at.chief a (ap (λ (y : Desk). y.views) same) (ap (λ (y : Desk). y.room) same) refl refl refl
      (subst (λ y. RuleAt y journal at.chief) (sym same) (read_item_keeps d journal at.chief at.rule i p a due is_due))
  step_at (LaysItem i x) e (p, due, a, leads, is_due, plain, item, same) =
      asks_on e i p (after_lay p due x) at.chief a (ap (λ (y : Desk). y.views) same) (ap (λ (y : Desk). y.room) same) refl refl refl
      (subst (λ y. RuleAt y journal at.chief) (sym same) (lay_keeps d journal at.chief at.rule i p a due x is_due plain))
  step_at (Answers i x) e (p, due, q, a, leads, is_due, is_kind, known, laid, may, same) =
      let r = at.rule in
      let k = due.place in
      let s = due.serial in
      let w = after_answer p due q x in
      let there = r.due i p a due is_due in
      let o = poster d journal at.chief r i p a k s due.kind there.1 in
      let v = o.1 in
      let u = o.4 in
      let asked : Carries (request_item q) (d.item k) = kept_carries (request_item q) due.item (d.item k) known there.2 in
      let theirs : Carries (request_item u.request) (d.item k) = subst (λ n. Carries (request_item u.request) (d.item n)) o.3 u.item in
      let is_q : u.request ≡ q = same_request (d.item k) u.request q theirs asked (u.kind ∙ sym is_kind) in
      let begun : IsIn old (Begins k s (Asked q)) =
      subst (λ y. IsIn old (Begins k s (Asked y))) is_q
      (subst (λ n. IsIn old (Begins k n (Asked u.request))) u.serial
      (subst (λ n. IsIn old (Begins n v.posts (Asked u.request))) o.3 (at.waits o.0 v o.2 u.request u.waits))) in
      let serial = u.serial in
      let busy : Over d k s → ⊥ =
      λ over.
      not_over d journal at.chief r o.0 v o.2 s (omega (arith, serial)) (λ y. not_idle v.standing u.request u.waits y.1)
      (subst (λ n. Over d n s) (sym o.3) over) in
      let t : Steps d e i p w = record { has = a; views = ap (λ (y : Desk). y.views) same; room = ap (λ (y : Desk). y.room) same; place = refl; posts = omega arith; idle = λ y. inr y } in
      let js = journal_after journal k s q x in
      at_on d e i p w t old [] journal js at.chief at
      (subst (λ y. RuleAt y js at.chief) (sym same) (answer_keeps d journal at.chief r i p a laws due q x is_due is_kind known laid may))
      (adds_none d e i p w t old journal js (gains_after (Over d) (old ++ []) journal k s (Asked q) x busy (h.in_left old [] (Begins k s (Asked q)) begun)))
      (λ y z. inl (z, refl))
  step_at (Applies i q x) e (p, a, leads, free, few, proper, may_hand, same) =
      let r = at.rule in
      let k = p.place in
      let s = p.posts + 1 in
      let w = after_apply p q x (time d) in
      let may = may_answer d journal at.chief r i p a (Asked q) x leads may_hand in
      let js = journal_after journal k s q x in
      let new = Begins k s (Asked q) ∷ Ends k s x ∷ [] in
      let t : Steps d e i p w = record { has = a; views = ap (λ (y : Desk). y.views) same; room = ap (λ (y : Desk). y.room) same; place = refl; posts = omega arith; idle = λ u. inl (omega arith) } in
      let busy : Over d k s → ⊥ = λ over. not_over d journal at.chief r i p a s (omega arith) (λ u. (let le = u.0 in omega (arith, le))) over in
      let seen : IsIn (old ++ new) (Begins k s (Asked q)) = h.in_right old new (Begins k s (Asked q)) (0, refl) in
      at_on d e i p w t old new journal js at.chief at
      (subst (λ y. RuleAt y js at.chief) (sym same) (apply_keeps d journal at.chief r i p a (time d) laws q x leads free few proper may_hand))
      (adds_both d e i p w t old journal js k s (Asked q) x (gains_after (Over d) (old ++ new) journal k s (Asked q) x busy seen)
      (over_now d e i p w t s (omega arith) (None, refl))
      (own_true d journal at.chief r i p a (Asked q) x may)
      (unused d journal at.chief r i p a))
      (λ y z. absurd (never_waits None y z))
  step_at (Archives i n) e (p, a, leads, same) =
      asks_on e i p (after_archive p n) at.chief a (ap (λ (y : Desk). y.views) same) (ap (λ (y : Desk). y.room) same) refl refl refl
      (subst (λ y. RuleAt y journal at.chief) (sym same) (archive_keeps d journal at.chief at.rule i p a n))
  step_at (Changes i c) e (p, a, leads, same) =
      asks_on e i p (after_change p c) at.chief a (ap (λ (y : Desk). y.views) same) (ap (λ (y : Desk). y.room) same) refl refl refl
      (subst (λ y. RuleAt y journal at.chief) (sym same) (change_keeps d journal at.chief at.rule i p a c))
  step_at (HandsOut i) e (p, a, same) =
      asks_on e i p (after_hand_out p) at.chief a (ap (λ (y : Desk). y.views) same) (ap (λ (y : Desk). y.room) same) refl refl refl
      (subst (λ y. RuleAt y journal at.chief) (sym same) (hand_out_keeps d journal at.chief at.rule i p a))
  step_at (Releases i) e (p, a, leads, same) =
      asks_on e i p (after_release p) at.chief a (ap (λ (y : Desk). y.views) same) (ap (λ (y : Desk). y.room) same) refl refl refl
      (subst (λ y. RuleAt y journal at.chief) (sym same) (release_keeps d journal at.chief at.rule i p a leads))
  step_at (ReleasesBy i q x) e (p, a, leads, none, free, few, proper, may_hand, same) =
      let r = at.rule in
      let k = p.place in
      let s = p.posts + 1 in
      let w = after_release_by p q x (time d) in
      let may = may_answer d journal at.chief r i p a q x leads may_hand in
      let js = journal_by journal k s q x in
      let new = Begins k s q ∷ Ends k s x ∷ [] in
      let t : Steps d e i p w = record { has = a; views = ap (λ (y : Desk). y.views) same; room = ap (λ (y : Desk). y.room) same; place = refl; posts = omega arith; idle = λ u. inl (omega arith) } in
      let busy : Over d k s → ⊥ = λ over. not_over d journal at.chief r i p a s (omega arith) (λ u. (let le = u.0 in omega (arith, le))) over in
      let seen : IsIn (old ++ new) (Begins k s q) = h.in_right old new (Begins k s q) (0, refl) in
      at_on d e i p w t old new journal js at.chief at
      (subst (λ y. RuleAt y js at.chief) (sym same) (release_by_keeps d journal at.chief r i p a (time d) laws q x leads none free few proper may_hand))
      (adds_both d e i p w t old journal js k s q x (gains_after (Over d) (old ++ new) journal k s q x busy seen)
      (over_now d e i p w t s (omega arith) (None, refl))
      (own_true d journal at.chief r i p a q x may)
      (unused d journal at.chief r i p a))
      (λ y z. absurd (never_waits None y z))
  step_at (Looks i) e (p, q, a, waits, same) =
      let r = at.rule in
      let c = d.control p.place in
      let w = after_look p q c (time d) in
      let t : Steps d e i p w =
      record { has = a; views = ap (λ (y : Desk). y.views) same; room = ap (λ (y : Desk). y.room) same; place = refl; posts = omega arith; idle = λ u. absurd (not_idle p.standing q waits u) } in
      let adds : h.Adds d.room (Over d) (Over e) old (told p.place p.posts (told_by c)) journal journal =
      look_adds e i p w t q waits refl (told_by c) refl refl a in
      at_on d e i p w t old (told p.place p.posts (told_by c)) journal journal at.chief at
      (subst (λ y. RuleAt y journal at.chief) (sym same) (look_keeps d journal at.chief r i p a (time d) q waits))
      adds
      (λ y z. inl (waits ∙ told_waits q y (told_by c) z, refl))
  step_at (SeesItem i) e (p, q, n, a, waits, own, has, same) =
      asks_on e i p (after_see p (d.item p.place)) at.chief a (ap (λ (y : Desk). y.views) same) (ap (λ (y : Desk). y.room) same) refl refl refl
      (subst (λ y. RuleAt y journal at.chief) (sym same) (see_keeps d journal at.chief at.rule i p a q waits (ap is_answer own)))
  step_at (TakesItem i) e (p, q, n, a, waits, own, has, same) =
      let r = at.rule in
      let cell = d.item p.place in
      let x = answer_with n cell in
      let w = after_take p q n cell (time d) in
      let here : d.control p.place ≡ Answered n = (r.pens i p a).own (ap is_answer own) ∙ own in
      let t : Steps d e i p w =
      record { has = a; views = ap (λ (y : Desk). y.views) same; room = ap (λ (y : Desk). y.room) same; place = refl; posts = omega arith; idle = λ u. inr (None, refl) } in
      at_on d e i p w t old (Ends p.place p.posts x ∷ []) journal journal at.chief at
      (subst (λ y. RuleAt y journal at.chief) (sym same) (take_keeps d journal at.chief r i p a (time d) q n waits own))
      (adds_end d e i p w t old journal p.place p.posts x (over_now d e i p w t p.posts (omega arith) (None, refl))
      (told_true d journal at.chief r i p a q x waits (here ∙ ap Answered (sym (notice_back n cell))) (with_cell_answer n cell)))
      (λ y z. absurd (never_waits None y z))

  -- a pen that comes out has begun nothing
  deal_at : (i : ℕ) (e : Desk) → DealsPen d i e → Goes d old journal e []
  deal_at i e (k, m, a, inside, same) =
      let room : e.room ≡ d.room = ap (λ (y : Desk). y.room) same in
      let views = ap (λ (y : Desk). y.views) same in
      let rule = subst (λ y. RuleAt y journal at.chief) (sym same) (split_keeps d journal at.chief at.rule i k m a inside) in
      let adds : h.Adds d.room (Over d) (Over e) old [] journal journal =
      record {
        stays = λ k' s over. (over.0, over.1, subst (λ vs. Has vs over.0 over.1) (sym views) (stays_out d journal at.chief at.rule i k m a inside over.0 over.1 over.2), over.3, over.4);
        gains = inl refl;
        over = λ k' s x u. absurd (nothing_in _ u);
        ended = λ k' s x u. absurd (nothing_in _ u);
        begins = λ k' s q u. absurd (nothing_in _ u);
        apart = none_apart;
      } in (
        journal,
        adds,
        record {
          chief = at.chief;
          rule = rule;
          kept = subst (λ n. h.Kept n (Over e) (old ++ []) journal) (sym room)
              (h.kept_on d.room (Over d) (Over e) old [] journal journal at.kept adds (subst (λ n. length journal ≤ n) room rule.lawful.within));
          waits = λ j q b.
              each_dealt d journal at.chief at.rule i k m a inside (λ _ y. (x : Request) → y.standing ≡ Waiting x → IsIn (old ++ []) (Begins y.place y.posts (Asked x)))
              (λ j' y c x u. h.in_left old [] (Begins y.place y.posts (Asked x)) (at.waits j' y c x u))
              (λ x u. absurd (never_waits None x u))
              j q (subst (λ vs. Has vs j q) views b);
        },
        room,
      )

  -- where only what pens know changes, callers see nothing
  know_at : (views : List View) (e : Desk) → e ≡ record d { views = views } → OnlyKnow journal d.views views → Goes d old journal e []
  know_at views e same t =
      let room : e.room ≡ d.room = ap (λ (y : Desk). y.room) same in
      let now : e.views ≡ views = ap (λ (y : Desk). y.views) same in
      let rule = subst (λ y. RuleAt y journal at.chief) (sym same) (only_keeps d journal at.chief at.rule views t) in
      let adds : h.Adds d.room (Over d) (Over e) old [] journal journal =
      record {
        stays = λ k s over.
            (let u = t.stays over.0 over.1 over.2 in (
              over.0,
              u.0,
              subst (λ vs. Has vs over.0 u.0) (sym now) u.1,
              same_place journal over.1 u.0 u.2 ∙ over.3,
              subst (λ (v : PenState). (s < v.posts) ⊎ ((s ≤ v.posts) × IsIdle v.standing)) (sym u.2.same) over.4,
            ));
        gains = inl refl;
        over = λ k s x u. absurd (nothing_in _ u);
        ended = λ k s x u. absurd (nothing_in _ u);
        begins = λ k s q u. absurd (nothing_in _ u);
        apart = none_apart;
      } in (
        journal,
        adds,
        record {
          chief = at.chief;
          rule = rule;
          kept = subst (λ n. h.Kept n (Over e) (old ++ []) journal) (sym room)
              (h.kept_on d.room (Over d) (Over e) old [] journal journal at.kept adds (subst (λ n. length journal ≤ n) room rule.lawful.within));
          waits = λ j q b.
              (let u = t.was j q (subst (λ vs. Has vs j q) now b) in
              subst (λ (v : PenState). (x : Request) → v.standing ≡ Waiting x → IsIn (old ++ []) (Begins v.place v.posts (Asked x))) (sym u.2.same)
              (λ x w. h.in_left old [] (Begins u.0.place u.0.posts (Asked x)) (at.waits j u.0 u.1 x w)));
        },
        room,
      )

  pub move_at : (x : Move) (e : Desk) (step : Happens d x e) → Goes d old journal e (acts_of d x e step)
  move_at (Deals i) e step = deal_at i e step
  move_at (Takes x) e step = step_at x e step
  move_at (CatchesUp i) e (p, found, a, lock, same) =
      know_at (set d.views i (Holder (after_catch_up p found))) e same (caught_up_at d journal at.chief at.rule i p a found lock)
  move_at (Writes i) e (p, a, same) =
      know_at (set d.views i (Holder (after_writing p)) ++ Note p.known ∷ []) e same (written d journal at.chief at.rule i p a)
  move_at (Hears i j) e (p, told, a, there, same) =
      know_at (set (set d.views i (Holder (after_hearing p told))) j (Note [])) e same (heard d journal at.chief at.rule i p a j told there)
  move_at (Copies i) e (told, there, same) = know_at (set d.views i (Note told) ++ Note told ∷ []) e same (copied d journal at.chief at.rule i told there)
  move_at (Testifies i) e (p, a, same) = know_at (set d.views i (Holder p) ++ Testimony (p ∷ []) 0 ∷ []) e same (testified d journal at.chief at.rule i p a)
  move_at (Retires i) e (p, a, idle, same) =
      know_at (set d.views i (Holder (after_retiring p)) ++ Testimony (after_retiring p ∷ []) 0 ∷ []) e same (set_aside d journal at.chief at.rule i p a Retired (after_retiring p ∷ []) 0)
  move_at (Sleeps i) e (p, a, idle, same) =
      know_at (set d.views i (Holder (after_sleeping p)) ++ Testimony [] 1 ∷ []) e same (set_aside d journal at.chief at.rule i p a Asleep [] 1)
  move_at (Wakes i j) e (p, n, a, there, ne, same) =
      know_at (set (set d.views i (Holder (after_waking p))) j (Testimony [] 0)) e same (woken d journal at.chief at.rule i j p n a there ne)
  move_at (Gathers i j) e (pens, more, n, m, a, there, ne, same) =
      know_at (set (set d.views i (Testimony (pens ++ more) (n + m))) j (Testimony [] 0)) e same (gathered d journal at.chief at.rule i j pens more n m a there ne)

  pub gains_more : (e : Desk) (new : List Act) (g : Goes d old journal e new) → StartsWith g.0 journal
  gains_more e new g =
      ⊎_elim
      (λ t. ([], t ∙ sym (append-nil journal)))
      (λ t. (t.0 ∷ [], t.1))
      g.1.gains

pub starts_trans : (a b c : List Line) → StartsWith b a → StartsWith c b → StartsWith c a
starts_trans a b c f g = (f.0 ++ g.0, g.1 ∙ (ap (λ l. l ++ g.0) f.1 ∙ append_assoc a f.0 g.0))

-- a line of a longer journal, where it is not behind the shorter one
pub line_before : (journal journal' : List Line) (place : ℕ) (c : Call) → StartsWith journal' journal → IsLineOf journal' place c → c.number ≤ length journal → IsLineOf journal place c
line_before journal journal' place c s at le =
    let some = at.some in
    ⊎_elim
    (λ t. record { some = at.some; within = le; there = t.1 })
    (λ t. absurd (let e = t.1 in omega (arith, e, le, some)))
    (h.get_cases journal s.0 (c.number - 1) (line_of place c.serial c.operation c.reply) (subst (λ js. slice_get js (c.number - 1) ≡ Some (line_of place c.serial c.operation c.reply)) s.1 at.there))

pub all_shorter : (P : Line → Type 0) (xs ys : List Line) → AllByRecursion P (xs ++ ys) → AllByRecursion P xs
all_shorter P [] ys u = tt
all_shorter P (x ∷ xs) ys u = (u.0, all_shorter P xs ys u.1)

pub none_shorter : (journal journal' : List Line) (place serial : ℕ) → StartsWith journal' journal → HasNo journal' place serial → HasNo journal place serial
none_shorter journal journal' place serial s u =
    all_shorter (λ (l : Line). place ≡ l.place → l.serial ≢ serial) journal s.0 (subst (λ js. HasNo js place serial) s.1 u)
