-- The audit of a load is ok, where the journal has exactly the calls of its workers.
use Rattle.std.proofs.Common.{◌≡◌, ◌≢◌, ◌==◌, ℕ, zero, suc, ◌+◌, inl, inr, Bool, true, false, List, [], ◌∷◌, length, map, slice_get, Some, if◌then◌else◌, refl, sym, ◌∙◌, ap, subst, arith}
use Rattle.std.proofs.lemmas.Bool.{eqb-false}
use Rattle.std.specs.List.{sum_by, AllByRecursion}
use Rattle.std.proofs.lemmas.List.Sums.{sum_by-cons}
use Rattle.pq_types.specs.Item.{Item}
use Rattle.pq_types.specs.Asked.{Line, Operation}
use Rattle.pq_types.specs.History.{left, IsLegal}
use Rattle.desk_core.specs.Calls.{call_of, calls_from, calls_of}
use Rattle.desk_core.specs.declared.model.Call.{Call}
use Rattle.flat_queue.specs.Closing.{HavePlacesApart, LinesAreTheirs}
use Rattle.flat_queue.specs.Members.{QueueName, Joined}
use Rattle.program_words.specs.Plan.{all_requests}
use Rattle.program_words.specs.declared.plan.Plan.{Plan}
use Rattle.queue_load.specs.Audit.{Reports}
use Rattle.queue_load.specs.Load.{AreMembers, IsTotal, HaveExactly}
use Rattle.queue_load.specs.Report.{AddsUp}
use Rattle.queue_load.specs.Tally.{tally_of, all_together}
use Rattle.queue_load.specs.declared.report.Report.{Report}
use Rattle.queue_load.specs.declared.tally.Tally.{Tally}
use Rattle.queue_load.proofs.Requests.{are_pushes_and_pops}
use Rattle.queue_load.proofs.Audits.{IsPart, IsOnce, of_call, of_line, of_places, part_of_calls, part_of_all, part_of_lines, pushed_part, got_part, empty_part, sum_in_part, sum_out_part}
use Rattle.queue_load.proofs.Balances.{IsPushOrPop, balances}

abbrev place_of : Joined → ℕ
place_of m = m.pen.place

-- no member is of this place
none_of : (ms : List Joined) (x : ℕ) → ((j : ℕ) (m : Joined) → slice_get ms j ≡ Some m → x ≢ m.pen.place) → AllByRecursion (λ q. x ≢ q) (map place_of ms)
none_of [] x h = tt
none_of (m ∷ ms) x h = (h 0 m refl, none_of ms x (λ j n at. h (suc j) n at))

-- a member has its place alone, where no two have one
once_of : (ms : List Joined) → HavePlacesApart ms
    → (k : ℕ) (m : Joined) (x : ℕ) → slice_get ms k ≡ Some m → m.pen.place ≡ x → IsOnce x (map place_of ms)
once_of [] apart zero m x at is = absurd (cc)
once_of [] apart (suc k) m x at is = absurd (cc)
once_of (o ∷ ms) apart zero m x at is =
    let same : o ≡ m = cc in
    let here : x ≡ o.pen.place = sym (ap place_of same ∙ is) in
    inl (here, none_of ms x (λ j n there e. let z : 0 ≡ suc j = apart 0 (suc j) o n refl there (sym here ∙ e) in absurd (omega (arith, z))))
once_of (o ∷ ms) apart (suc k) m x at is =
    inr (
      λ e. (let z : 0 ≡ suc k = apart 0 (suc k) o m refl at (sym e ∙ sym is) in absurd (omega (arith, z))),
      once_of ms (λ i j p q a b e. let z : suc i ≡ suc j = apart (suc i) (suc j) p q a b e in omega (arith, z)) k m x at is,
    )

-- what holds of each line by its index holds of all
by_index : (P : Line → Type 0) (ls : List Line) → ((i : ℕ) (l : Line) → slice_get ls i ≡ Some l → P l) → AllByRecursion P ls
by_index P [] h = tt
by_index P (l ∷ ls) h = (h 0 l refl, by_index P ls (λ i k at. h (suc i) k at))

-- what holds of the operations holds of the calls
of_operations : (P : Operation → Type 0) (cs : List Call) (os : List Operation) → map (λ (c : Call). c.operation) cs ≡ os → AllByRecursion P os → AllByRecursion (λ (c : Call). P c.operation) cs
of_operations P [] os e h = tt
of_operations P (c ∷ cs) [] e h = absurd (cc)
of_operations P (c ∷ cs) (o ∷ os) e h =
    let same : c.operation ≡ o = cc in
    let rest : map (λ (d : Call). d.operation) cs ≡ os = cc in
    (subst P (sym same) h.0, of_operations P cs os rest h.1)

-- what holds of the calls at each place holds of each line of one of these places
of_calls : (P : Operation → Type 0) (Q : ℕ → Type 0) (n : ℕ) (ls : List Line) → ((x : ℕ) → Q x → AllByRecursion (λ (c : Call). P c.operation) (calls_from n x ls))
    → AllByRecursion (λ l. Q l.place) ls → AllByRecursion (λ l. P l.operation) ls
of_calls P Q n [] h here = tt
of_calls P Q n (l ∷ ls) h here =
    (first (l.place == l.place) refl (h l.place here.0), of_calls P Q (n + 1) ls (λ x q. rest x (l.place == x) (h x q)) here.1)
  where
    first : (b : Bool) → (l.place == l.place) ≡ b
        → AllByRecursion (λ (c : Call). P c.operation) (if b then call_of n l.serial l.operation l.reply ∷ calls_from (n + 1) l.place ls else calls_from (n + 1) l.place ls)
        → P l.operation
    first true e k = k.0
    first false e k = absurd (eqb-false l.place l.place e refl)

    rest : (x : ℕ) (b : Bool) → AllByRecursion (λ (c : Call). P c.operation) (if b then call_of n l.serial l.operation l.reply ∷ calls_from (n + 1) x ls else calls_from (n + 1) x ls)
        → AllByRecursion (λ (c : Call). P c.operation) (calls_from (n + 1) x ls)
    rest x true k = k.1
    rest x false k = k

-- a number of the members' tallies is the sum of those of the calls at their places
of_members : (f : Tally → ℕ) → IsPart f → (journal : List Line) (ms : List Joined) → HaveExactly journal ms
    → sum_by f (map (λ (m : Joined). tally_of m.pen.mine) ms) ≡ of_places f 1 journal (map place_of ms)
of_members f p journal [] h = refl
of_members f p journal (m ∷ ms) h =
    let here : f (tally_of m.pen.mine) ≡ sum_by (of_call f) (calls_from 1 m.pen.place journal) = part_of_calls f p m.pen.mine ∙ ap (sum_by (of_call f)) (sym (h 0 m refl)) in
    omega (
      arith,
      here,
      of_members f p journal ms (λ i n at. h (suc i) n at),
      sum_by-cons f (tally_of m.pen.mine) (map (λ (n : Joined). tally_of n.pen.mine) ms),
      sum_by-cons (λ place. sum_by (of_call f) (calls_from 1 place journal)) m.pen.place (map place_of ms),
    )

-- The tally and the journal fit each other.
pub record IsTallyOf (journal : List Line) (t : Tally) : Type 0 where
  pub lines : length journal ≡ t.pushed + t.got + t.empty
  pub remain : t.got + length (left journal) ≡ t.pushed
  pub sums : t.sum_in ≡ t.sum_out + sum_by (λ (x : Item). x.priority) (left journal)

module _ {wide : Bool} (queue : QueueName) (plan : Plan) (members : List Joined) (journal : List Line) (made : AreMembers wide queue plan members) (exact : HaveExactly journal members)
    (apart : HavePlacesApart members) (only : LinesAreTheirs members journal) where
  -- each line is of the place of one member alone
  each_once : AllByRecursion (λ l. IsOnce l.place (map place_of members)) journal
  each_once = by_index (λ l. IsOnce l.place (map place_of members)) journal (λ i l at. let (k, m, there, is) = only i l at in once_of members apart k m l.place there is)

  -- and is a push or a pop
  each_known : AllByRecursion (λ l. IsPushOrPop l.operation) journal
  each_known =
      of_calls IsPushOrPop (λ x. (k : ℕ) × (m : Joined) × (slice_get members k ≡ Some m) × (m.pen.place ≡ x)) 1 journal
      (λ x (k, m, there, is).
      of_operations IsPushOrPop (calls_of x journal) (all_requests wide (k + 1) plan.pushes plan.pops plan.rounds)
      (ap (λ y. map (λ (c : Call). c.operation) (calls_of y journal)) (sym is) ∙ (ap (map (λ (c : Call). c.operation)) (exact k m there) ∙ (made k m there).requests))
      (are_pushes_and_pops wide (k + 1) plan.pushes plan.pops plan.rounds))
      (by_index (λ l. (k : ℕ) × (m : Joined) × (slice_get members k ≡ Some m) × (m.pen.place ≡ l.place)) journal only)

  -- a number of all tallies together is that of the lines
  of_lines : (f : Tally → ℕ) → IsPart f → (t : Tally) → t ≡ all_together (map (λ (m : Joined). tally_of m.pen.mine) members) → f t ≡ sum_by (of_line f) journal
  of_lines f p t e =
      ap f e ∙ (part_of_all f p (map (λ (m : Joined). tally_of m.pen.mine) members) ∙ (of_members f p journal members exact ∙ part_of_lines f p 1 journal (map place_of members) each_once))

  -- The workers' tally fits it.
  pub tally_fits : IsLegal journal → (t : Tally) → t ≡ all_together (map (λ (m : Joined). tally_of m.pen.mine) members) → IsTallyOf journal t
  tally_fits legal t e =
      let b = balances [] 1 journal legal each_known in
      let pushed = of_lines (λ u. u.pushed) pushed_part t e in
      let got = of_lines (λ u. u.got) got_part t e in
      let empty = of_lines (λ u. u.empty) empty_part t e in
      let sum_in = of_lines (λ u. u.sum_in) sum_in_part t e in
      let sum_out = of_lines (λ u. u.sum_out) sum_out_part t e in
      let counts = b.counts in let kept = b.kept in let sums = b.sums in
      record { lines = omega arith; remain = omega arith; sums = omega arith }

  -- So the report of this tally adds up, and its audit is ok.
  pub adds_up : IsLegal journal → (t : Tally) → t ≡ all_together (map (λ (m : Joined). tally_of m.pen.mine) members) → IsTotal wide plan.workers plan t → (r : Report) → Reports plan t journal r → AddsUp plan r
  adds_up legal t e total r told =
      let h = tally_fits legal t e in
      let lines = h.lines in let remain = h.remain in let sums = h.sums in
      let pushed = told.pushed in let got = told.got in let empty = told.empty in let left_is = told.left_is in let lines_are = told.lines in
      let popped = total.popped in
      record { pushed = told.pushed ∙ total.pushed; popped = omega arith; left = omega arith; lines = omega arith; sums = told.sum_in ∙ (sums ∙ sym told.sum_out) }
