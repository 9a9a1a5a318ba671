-- Testimonies are true: what a pen kept when it gave one, the history and the journal have from then on.
use Rattle.std.proofs.Common.{◌≡◌, ℕ, zero, suc, ◌+◌, ◌<◌, ◌≤◌, ◌⊎◌, inl, inr, ⊎_elim, List, [], ◌∷◌, ◌++◌, length, set, slice_get, refl, ap, sym, ◌∙◌, subst, append_assoc, append-nil, arith}
use Rattle.std.specs.Prelude.{Some, None}
use mathlib.Core.Option.{some, some-injective, some-ne-none}
use lib.ListN.{get_elem?}
use Rattle.atomic_table.proofs.Lists.{at_set, at_snoc}
use Rattle.pq_types.specs.Asked.{Line}
use Rattle.pq_types.specs.Asked.{Request, Reply, Answer}
use Rattle.pq_types.specs.Operation.{Asked}
use Rattle.pq_types.specs.declared.answer.Answer.TheVariants.{Entered, BookFull, NoMemory, Refused}
use Rattle.desk_core.specs.CallLines.{IsLineOf}
use Rattle.desk_core.specs.Calls.{call, call_of}
use Rattle.desk_core.specs.Clauses.{HasNo}
use Rattle.desk_core.specs.Pen.{new_pen, IsIdle}
use Rattle.desk_core.specs.Desk.{Desk, Has, acts_number, dealer_opening}
use Rattle.desk_core.specs.Steps.{actor}
use Rattle.desk_core.specs.Notes.{after_catch_up, after_writing, after_hearing}
use Rattle.desk_core.specs.Linearizable.{Act, Begins, Ends, IsIn, Linearizes}
use Rattle.desk_core.specs.Dealing.{Move, Deals, Takes, CatchesUp, Writes, Hears, Copies, Testifies, Retires, Sleeps, Wakes, Gathers, Happens, DealtRun, acts_of, dealt_history}
use Rattle.desk_core.specs.Testimonies.{after_retiring, after_sleeping, after_waking}
use Rattle.desk_core.specs.Times.{AreTimed}
use Rattle.desk_core.specs.Witnessed.{HasRead, IsWitnessed, TestimoniesAreTrue, LinearizedFollowTime, RefusedStandNowhere}
use Rattle.desk_core.specs.declared.model.Duty.{Duty}
use Rattle.desk_core.specs.declared.model.Duty.TheVariants.{Retired}
use Rattle.desk_core.specs.declared.model.Standing.TheVariants.{Waiting}
use Rattle.desk_core.specs.declared.model.Call.{Call}
use Rattle.desk_core.specs.declared.model.PenState.{PenState}
use Rattle.desk_core.specs.declared.model.View.{View}
use Rattle.desk_core.specs.declared.model.View.TheVariants.{Dealer, Holder, Note, Testimony}
use Rattle.desk_core.proofs.Journals.{QueueLaws}
use Rattle.desk_core.proofs.CallLines.{line_is_call}
use Rattle.desk_core.proofs.Histories.{get_cases, one_alone, in_left, line_stays}
use Rattle.desk_core.proofs.Views.{same_pen}
use Rattle.desk_core.proofs.Runs.{openings_meet}
use Rattle.desk_core.proofs.Moves.{moves}
use Rattle.desk_core.proofs.Notes.{one_journal}
use Rattle.desk_core.proofs.Clauses.{knows}
use Rattle.desk_core.proofs.Linearizable.{At, move_at, gains_more}
use Rattle.desk_core.proofs.LinearRuns.{begins_at, at_lock, every_dealt_run_is_linearizable}
use Rattle.desk_core.proofs.Positions.{kept_within, whole, whole_before, whole_later}
use Rattle.desk_core.proofs.Times.{later, move_timed, starts_timed, read_line}

-- a testimony that has this pen stands at some seat
Gave : List View → PenState → Type 0
Gave views p = (i : ℕ) × (pens : List PenState) × (n : ℕ) × (get_elem? views i ≡ some (Testimony pens n)) × ((k : ℕ) × (slice_get pens k ≡ Some p))

-- a pen stands at some seat, that is this one but for whether it acts
abbrev Gives : List View → PenState → Type 0
Gives views p = (i : ℕ) × (q : PenState) × Has views i q × ((duty : Duty) × (p ≡ record q { duty = duty }))

-- what is true of a pen stays so as it retires
still_witnessed : (room : ℕ) (history : List Act) (journal : List Line) (p : PenState) (duty : Duty) → IsWitnessed room history journal p
    → IsWitnessed room history journal (record p { duty = duty })
still_witnessed room history journal p duty w =
    record {
      room_is = w.room_is;
      timed = record { begun = w.timed.begun; ended = w.timed.ended };
      whole = λ n k. (let v = w.whole n k in record { begun = v.begun; ended = v.ended });
      calls = w.calls;
      read = w.read;
      asked = w.asked;
    }

-- an act before the new ones is one of the old
earlier_act : (old new : List Act) (n : ℕ) (x : Act) → n < length old → slice_get (old ++ new) n ≡ Some x → slice_get old n ≡ Some x
earlier_act old new n x lt e =
    ⊎_elim (λ u. u.1) (λ u. (let behind = u.1 in absurd (omega (arith, lt, behind)))) (get_cases old new n x e)

-- no call of a pen that waits is over with its last serial
not_over : (q : PenState) (request : Request) → q.standing ≡ Waiting request → (serial : ℕ) → (serial < q.posts) ⊎ ((serial ≤ q.posts) × IsIdle q.standing) → serial ≡ q.posts → ⊥
not_over q request waits serial over same =
    ⊎_elim (λ less. absurd (omega (arith, less, same))) (λ u. (let idle : IsIdle (Waiting request) = subst IsIdle waits u.1 in let e = idle.1 in absurd cc)) over

-- a call that ended entered, of a pen that stands at a seat, is one that the pen has read
read_whole : (d : Desk) (old : List Act) (journal : List Line) → At d old journal → (i : ℕ) (q : PenState) → Has d.views i q → (serial number : ℕ) (reply : Reply)
    → IsIn old (Ends q.place serial (Entered number reply)) → HasRead q serial
read_whole d old journal at i q a serial number reply is_in =
    let true_of = at.kept.ended q.place serial (Entered number reply) is_in in
    let (j, p, b, same_place, over) = at.kept.over q.place serial (Entered number reply) is_in in
    let (k, stands) = line_is_call journal q.place (call_of number serial true_of.0 reply) true_of.1 in
    let is_pen : p ≡ q = same_pen d.views i p q (subst (λ m. Has d.views m p) (at.rule.seated.apart j i p q b a same_place) b) a in
    let knows_it = knows d journal at.chief at.rule i q a in
    let c = call_of number serial true_of.0 reply in
    ⊎_elim
    (λ mine. (k, c, subst (λ l. slice_get l k ≡ Some c) mine stands, refl))
    (λ u.
    (let (request, line, r, waits, more) = u in
    ⊎_elim
    (λ v. (k, c, v.1, refl))
    (λ v.
    (let last = (one_alone (call line q.posts request r) c v.0 v.2).1 in
    absurd
    (not_over q request waits serial (subst (λ (z : PenState). (serial < z.posts) ⊎ ((serial ≤ z.posts) × IsIdle z.standing)) is_pen over)
    (sym (ap (λ (z : Call). z.serial) last)))))
    (get_cases q.mine (call line q.posts request r ∷ []) k c (subst (λ l. slice_get l k ≡ Some c) more stands))))
    knows_it.lines

-- where a pen has come to a seat, or a view that is no testimony
gave_set : (views : List View) (i : ℕ) (w : View) (p : PenState) → ((pens : List PenState) (n k : ℕ) → w ≡ Testimony pens n → slice_get pens k ≡ Some p → ⊥) → Gave (set views i w) p → Gave views p
unfolding Gave
gave_set views i w p other (j, pens, n, a, at) = ⊎_elim (λ u. absurd (other pens n at.0 u.1 at.1)) (λ u. (j, pens, n, u.1, at)) (at_set views i j w (Testimony pens n) a)

gave_snoc : (views : List View) (w : View) (p : PenState) → ((pens : List PenState) (n k : ℕ) → w ≡ Testimony pens n → slice_get pens k ≡ Some p → ⊥) → Gave (views ++ w ∷ []) p → Gave views p
unfolding Gave
gave_snoc views w p other (j, pens, n, a, at) = ⊎_elim (λ u. (j, pens, n, u, at)) (λ u. absurd (other pens n at.0 u at.1)) (at_snoc views w (Testimony pens n) j a)

gave_pen : (views : List View) (i : ℕ) (w p : PenState) → Gave (set views i (Holder w)) p → Gave views p
gave_pen views i w p g = gave_set views i (Holder w) p (λ pens n k e at. (let f : Holder w ≡ Testimony pens n = e in cc)) g

-- no pen stands in a testimony of none
no_pens : (p : PenState) (m : ℕ) (pens : List PenState) (n k : ℕ) → Testimony [] m ≡ Testimony pens n → slice_get pens k ≡ Some p → ⊥
no_pens p m pens n k f c =
    let z : [] ≡ pens = cc in
    let none : None ≡ Some p = subst (λ (l : List PenState). slice_get l k ≡ Some p) (sym z) c in
    cc

module _ (laws : QueueLaws) (d : Desk) (old : List Act) (journal : List Line) (at : At d old journal) where
  -- a pen of a testimony was one of an earlier one, or has just given it, where it may have retired
  gave : (x : Move) (e : Desk) → Happens d x e → (p : PenState) → Gave e.views p → Gave d.views p ⊎ Gives d.views p
  unfolding Gave
  gave (Deals i) e (k, room, a, inside, same) p g =
      inl
      (gave_set d.views i (Dealer (k + 1) room) p (λ pens n l f b. (let h : Dealer (k + 1) room ≡ Testimony pens n = f in cc))
      (gave_snoc (set d.views i (Dealer (k + 1) room)) (Holder (new_pen room k)) p (λ pens n l f b. (let h : Holder (new_pen room k) ≡ Testimony pens n = f in cc))
      (subst (λ (y : Desk). Gave y.views p) same g)))
  gave (Takes x) e step p g =
      let v = moves d x e (journal, at.chief, at.rule) step in
      inl (gave_pen d.views (actor x) v.after p (subst (λ (vs : List View). Gave vs p) v.views g))
  gave (CatchesUp i) e (q, found, a, lock, same) p g = inl (gave_pen d.views i (after_catch_up q found) p (subst (λ (y : Desk). Gave y.views p) same g))
  gave (Writes i) e (q, a, same) p g =
      inl
      (gave_pen d.views i (after_writing q) p
      (gave_snoc (set d.views i (Holder (after_writing q))) (Note q.known) p (λ pens n l f b. (let h : Note q.known ≡ Testimony pens n = f in cc))
      (subst (λ (y : Desk). Gave y.views p) same g)))
  gave (Hears i j) e (q, told, a, there, same) p g =
      inl
      (gave_pen d.views i (after_hearing q told) p
      (gave_set (set d.views i (Holder (after_hearing q told))) j (Note []) p (λ pens n l f b. (let h : Note [] ≡ Testimony pens n = f in cc))
      (subst (λ (y : Desk). Gave y.views p) same g)))
  gave (Copies i) e (told, there, same) p g =
      inl
      (gave_set d.views i (Note told) p (λ pens n l f b. (let h : Note told ≡ Testimony pens n = f in cc))
      (gave_snoc (set d.views i (Note told)) (Note told) p (λ pens n l f b. (let h : Note told ≡ Testimony pens n = f in cc))
      (subst (λ (y : Desk). Gave y.views p) same g)))
  gave (Testifies i) e (q, a, same) p g =
      let (j, pens, n, b, (k, c)) = subst (λ (y : Desk). Gave y.views p) same g in
      ⊎_elim
      (λ u. inl (gave_pen d.views i q p (j, pens, n, u, (k, c))))
      (λ u.
      (let f : Testimony (q ∷ []) 0 ≡ Testimony pens n = u in
      let h : q ∷ [] ≡ pens = cc in
      let o = one_alone q p k (subst (λ (l : List PenState). slice_get l k ≡ Some p) (sym h) c) in
      inr (i, p, subst (Has d.views i) o.1 a, (p.duty, refl))))
      (at_snoc (set d.views i (Holder q)) (Testimony (q ∷ []) 0) (Testimony pens n) j b)
  gave (Retires i) e (q, a, idle, same) p g =
      let w = after_retiring q in
      let (j, pens, n, b, (k, c)) = subst (λ (y : Desk). Gave y.views p) same g in
      ⊎_elim
      (λ u. inl (gave_pen d.views i w p (j, pens, n, u, (k, c))))
      (λ u.
      (let f : Testimony (w ∷ []) 0 ≡ Testimony pens n = u in
      let h : w ∷ [] ≡ pens = cc in
      let o = one_alone w p k (subst (λ (l : List PenState). slice_get l k ≡ Some p) (sym h) c) in
      inr (i, q, a, (Retired, sym o.1))))
      (at_snoc (set d.views i (Holder w)) (Testimony (w ∷ []) 0) (Testimony pens n) j b)
  gave (Sleeps i) e (q, a, idle, same) p g =
      inl
      (gave_pen d.views i (after_sleeping q) p
      (gave_snoc (set d.views i (Holder (after_sleeping q))) (Testimony [] 1) p (no_pens p 1) (subst (λ (y : Desk). Gave y.views p) same g)))
  gave (Wakes i j) e (q, n, a, there, ne, same) p g =
      inl
      (gave_pen d.views i (after_waking q) p
      (gave_set (set d.views i (Holder (after_waking q))) j (Testimony [] 0) p (no_pens p 0) (subst (λ (y : Desk). Gave y.views p) same g)))
  gave (Gathers i j) e (pens, more, n, m, a, there, ne, same) p g =
      let both = Testimony (pens ++ more) (n + m) in
      let (h, all, l, b, (k, c)) =
      gave_set (set d.views i both) j (Testimony [] 0) p (no_pens p 0) (subst (λ (y : Desk). Gave y.views p) same g) in
      inl
      (⊎_elim
      (λ v.
      (let f : Testimony (pens ++ more) (n + m) ≡ Testimony all l = v.1 in
      let z : pens ++ more ≡ all = cc in
      ⊎_elim
      (λ w. (i, pens, n, a, (k, w.1)))
      (λ w. (j, more, m, there, (w.0, w.2)))
      (get_cases pens more k p (subst (λ (l : List PenState). slice_get l k ≡ Some p) (sym z) c))))
      (λ v. (h, all, l, v.1, (k, c)))
      (at_set d.views i h both (Testimony all l) b))

  -- what is true of a pen stays so
  goes_on : (x : Move) (e : Desk) (step : Happens d x e) (room : ℕ) (p : PenState) → IsWitnessed room old journal p
      → IsWitnessed room (old ++ acts_of d x e step) (move_at laws d old journal at x e step).0 p
  goes_on x e step room p w =
      let g = move_at laws d old journal at x e step in
      let longer = gains_more laws d old journal at e (acts_of d x e step) g in
      record {
        room_is = w.room_is;
        timed = later old (acts_of d x e step) p w.timed;
        whole = λ n k. whole_later old (acts_of d x e step) p n (kept_within old p n w.timed k) (w.whole n k);
        calls = λ k b c. subst (λ (js : List Line). IsLineOf js p.place b) (sym longer.1) (line_stays journal longer.0 p.place b (w.calls k b c));
        read = λ s n number reply ended at_n.
            w.read s n number reply ended
            (let before = kept_within old p n w.timed (inr (s, ended)) in earlier_act old (acts_of d x e step) n (Ends p.place s (Entered number reply)) before at_n);
        asked = λ q waits. in_left old (acts_of d x e step) (Begins p.place p.posts (Asked q)) (w.asked q waits);
      }

-- where a run stands, with all that was testified
record Stood (room : ℕ) (d : Desk) (old : List Act) (journal : List Line) : Type 0 where
  at : At d old journal
  same_room : d.room ≡ room
  timed : AreTimed d.views old
  witnessed : (p : PenState) → Gave d.views p → IsWitnessed room old journal p

run_stood : QueueLaws → (room : ℕ) (xs : List Move) (d e : Desk) (old : List Act) (journal : List Line) → Stood room d old journal → (run : DealtRun d xs e)
    → (journal' : List Line) × Stood room e (old ++ dealt_history d xs e run) journal'
run_stood laws room [] d e old journal s run =
    (journal, subst (λ (y : Desk). Stood room y (old ++ []) journal) (sym run) (subst (λ (hs : List Act). Stood room d hs journal) (sym (append-nil old)) s))
run_stood laws room (x ∷ xs) d e old journal s run =
    let m = run.0 in
    let new = acts_of d x m run.1 in
    let g = move_at laws d old journal s.at x m run.1 in
    let next : Stood room m (old ++ new) g.0 =
    record {
      at = g.2;
      same_room = g.3 ∙ s.same_room;
      timed = move_timed d old s.timed x m run.1;
      witnessed = λ p given.
          goes_on laws d old journal s.at x m run.1 room p
          (⊎_elim
          (λ u. s.witnessed p u)
          (λ u.
          let (i, q, a, (duty, same)) = u in
          subst (IsWitnessed room old journal) (sym same)
          (still_witnessed room old journal q duty
          record {
            room_is = (s.at.rule.pens i q a).told ∙ s.same_room;
            timed = s.timed.pens i q a;
            whole = λ n k.
                (let lt = kept_within old q n (s.timed.pens i q a) k in
                let long = s.timed.counted in
                whole_before old q n (acts_number d.views) (omega (arith, lt, long)) (whole d.views old s.timed s.at.rule.seated.apart i q a));
            calls = λ k b c. read_line journal q d.room k b (knows d journal s.at.chief s.at.rule i q a) c;
            read = λ serial n number reply ended at_n. read_whole d old journal s.at i q a serial number reply (n, at_n);
            asked = λ request waits. s.at.waits i q a request waits;
          }))
          (gave laws d old journal s.at x m run.1 p given));
    } in
    let t = run_stood laws room xs m e (old ++ new) g.0 next run.2 in
    (t.0, subst (λ (hs : List Act). Stood room e hs t.0) (append_assoc old new (dealt_history m xs e run.2)) t.1)

no_testimony : (room i : ℕ) (p : PenState) → Gave (Dealer 0 room ∷ []) p → ⊥
unfolding Gave
no_testimony room i p (zero, pens, n, a, at) = let f : Dealer 0 room ≡ Testimony pens n = some-injective (Dealer 0 room) (Testimony pens n) a in cc
no_testimony room i p (suc j, pens, n, a, at) = absurd (some-ne-none (Testimony pens n) (sym a))

pub testimonies_are_true : QueueLaws → TestimoniesAreTrue
unfolding Gave
testimonies_are_true laws places limits moves d small run i pens n at =
    let meets = openings_meet.dealer places limits small in
    let o = begins_at places limits (Dealer 0 limits.room ∷ []) meets in
    let s = run_stood laws limits.room moves (dealer_opening places limits) d [] o.0
    record { at = o.1; same_room = refl; timed = starts_timed limits.room; witnessed = λ p g. absurd (no_testimony limits.room 0 p g) } run in
    let l = every_dealt_run_is_linearizable laws places limits moves d small run in
    let same : l.0 ≡ s.0 = one_journal d l.0 s.0 l.1 (at_lock d _ s.0 s.1.at) in
    record {
      history = dealt_history (dealer_opening places limits) moves d run;
      journal = s.0;
      linearizes = subst (λ js. Linearizes limits.room (dealt_history (dealer_opening places limits) moves d run) js) same l.2;
      witnessed = λ k p e. s.1.witnessed p (i, pens, n, at, (k, e));
    }

pub linearized_follow_time : LinearizedFollowTime
linearized_follow_time room pens h i j k l p q b c end begin at at' read read' ends begins before =
    let w = h.witnessed i p at in
    let w' = h.witnessed j q at' in
    let e = w.timed.ended b.serial end ends in
    let f = w'.timed.begun c.serial begin begins in
    h.linearizes.order p.place q.place b c (w.calls k b read) (w'.calls l c read')
    record { end = end; begin = begin; answer = e.0; operation = f.0; before = before; ends = e.1; begins = f.1 }

pub refused_stand_nowhere : RefusedStandNowhere
refused_stand_nowhere room pens h i p at serial n ended unread =
    let w = h.witnessed i p at in
    let e = w.timed.ended serial n ended in
    of e.0 e.1
  where
    of : (answer : Answer) → slice_get h.history n ≡ Some (Ends p.place serial answer) → HasNo h.journal p.place serial
    of (Entered number reply) there = absurd (unread ((h.witnessed i p at).read serial n number reply ended there))
    of BookFull there = (h.linearizes.ended p.place serial BookFull (n, there)).1
    of NoMemory there = h.linearizes.ended p.place serial NoMemory (n, there)
    of (Refused why) there = (h.linearizes.ended p.place serial (Refused why) (n, there)).1
