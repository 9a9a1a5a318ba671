-- The calls of a place are lines of the journal, in their order.
use Rattle.std.proofs.Common.{◌≡◌, ℕ, zero, suc, ◌+◌, ◌-◌, ◌<◌, ◌≤◌, ◌==◌, if◌then◌else◌, Bool, true, false, List, [], ◌∷◌, length, slice_get, Some, refl, sym, ◌∙◌, ap, subst, arith}
use Rattle.std.proofs.lemmas.Bool.{eqb-true, eqb-false}
use Rattle.pq_types.specs.Asked.{Line}
use Rattle.pq_types.specs.History.{line_of}
use Rattle.desk_core.specs.Calls.{call_of, calls_from, calls_of}
use Rattle.desk_core.specs.CallLines.{IsLineOf, CallsAreLines, NumbersRise}
use Rattle.desk_core.specs.declared.model.Call.{Call}

-- a call among those of the lines that are counted from this number on
record IsAmong (journal : List Line) (place first : ℕ) (c : Call) : Type 0 where
  from : first ≤ c.number
  within : c.number < first + length journal
  there : slice_get journal (c.number - first) ≡ Some (line_of place c.serial c.operation c.reply)

later : (l : Line) (ls : List Line) (place first : ℕ) (c : Call) → IsAmong ls place (first + 1) c → IsAmong (l ∷ ls) place first c
later l ls place first c h =
    let from = h.from in let within = h.within in
    let e : c.number - first ≡ suc (c.number - (first + 1)) = omega (arith, from) in
    record { from = omega (arith, from); within = omega (arith, within); there = ap (λ i. slice_get (l ∷ ls) i) e ∙ h.there }

here : (l : Line) (ls : List Line) (place first : ℕ) (c : Call) → l.place ≡ place → call_of first l.serial l.operation l.reply ≡ c → IsAmong (l ∷ ls) place first c
here l ls place first c at e =
    let number : first ≡ c.number = ap (λ (x : Call). x.number) e in
    let none : c.number - first ≡ 0 = omega (arith, number) in
    let same : line_of l.place l.serial l.operation l.reply ≡ line_of place c.serial c.operation c.reply =
    ap (λ k. line_of k l.serial l.operation l.reply) at ∙ ap (λ (x : Call). line_of place x.serial x.operation x.reply) e in
    record { from = omega (arith, number); within = omega (arith, number); there = ap (λ i. slice_get (l ∷ ls) i) none ∙ ap Some same }

among : (journal : List Line) (place first i : ℕ) (c : Call) → slice_get (calls_from first place journal) i ≡ Some c → IsAmong journal place first c
among [] place first zero c h = absurd (cc)
among [] place first (suc i) c h = absurd (cc)
among (l ∷ ls) place first i c h = which (λ k t. among ls place (first + 1) k c t) (l.place == place) refl i h
  where
    which : ((k : ℕ) → slice_get (calls_from (first + 1) place ls) k ≡ Some c → IsAmong ls place (first + 1) c) → (b : Bool) → (l.place == place) ≡ b → (k : ℕ)
        → slice_get (if b then call_of first l.serial l.operation l.reply ∷ calls_from (first + 1) place ls else calls_from (first + 1) place ls) k ≡ Some c
        → IsAmong (l ∷ ls) place first c
    which deeper true e zero t = here l ls place first c (eqb-true l.place place e) (cc)
    which deeper true e (suc k) t = later l ls place first c (deeper k t)
    which deeper false e k t = later l ls place first c (deeper k t)

rises : (journal : List Line) (place first i j : ℕ) (b c : Call) → i < j → slice_get (calls_from first place journal) i ≡ Some b → slice_get (calls_from first place journal) j ≡ Some c → b.number < c.number
rises [] place first i zero b c lt h k = absurd (omega (arith, lt))
rises [] place first i (suc j) b c lt h k = absurd (cc)
rises (l ∷ ls) place first i j b c lt h k = which (λ m n less t u. rises ls place (first + 1) m n b c less t u) (l.place == place) i j lt h k
  where
    which : ((m n : ℕ) → m < n → slice_get (calls_from (first + 1) place ls) m ≡ Some b → slice_get (calls_from (first + 1) place ls) n ≡ Some c → b.number < c.number) → (x : Bool) (m n : ℕ) → m < n
        → slice_get (if x then call_of first l.serial l.operation l.reply ∷ calls_from (first + 1) place ls else calls_from (first + 1) place ls) m ≡ Some b
        → slice_get (if x then call_of first l.serial l.operation l.reply ∷ calls_from (first + 1) place ls else calls_from (first + 1) place ls) n ≡ Some c
        → b.number < c.number
    which deeper true m zero lt t u = absurd (omega (arith, lt))
    which deeper true zero (suc n) lt t u =
        let e : call_of first l.serial l.operation l.reply ≡ b = cc in
        let number : first ≡ b.number = ap (λ (x : Call). x.number) e in
        let behind = (among ls place (first + 1) n c u).from in omega (arith, number, behind)
    which deeper true (suc m) (suc n) lt t u = deeper m n (omega (arith, lt)) t u
    which deeper false m n lt t u = deeper m n lt t u

-- each line of the place is a call
call_among : (journal : List Line) (place first : ℕ) (c : Call) → IsAmong journal place first c → (k : ℕ) × (slice_get (calls_from first place journal) k ≡ Some c)
call_among [] place first c h = let from = h.from in let within = h.within in absurd (omega (arith, from, within))
call_among (l ∷ ls) place first c h = which (λ g. call_among ls place (first + 1) c g) (c.number - first) refl (l.place == place) refl
  where
    behind : (n : ℕ) → c.number - first ≡ suc n → IsAmong ls place (first + 1) c
    behind n e =
        let from = h.from in let within = h.within in
        let less : c.number - (first + 1) ≡ n = omega (arith, e, from) in
        record {
          from = omega (arith, e, from);
          within = omega (arith, within);
          there = ap (slice_get ls) less ∙ (sym (ap (slice_get (l ∷ ls)) e) ∙ h.there);
        }

    same : c.number - first ≡ 0 → ◌≡◌ {A = Line} l (line_of place c.serial c.operation c.reply)
    same e = let t : Some l ≡ Some (line_of place c.serial c.operation c.reply) = sym (ap (slice_get (l ∷ ls)) e) ∙ h.there in cc

    is_first : c.number - first ≡ 0 → call_of first l.serial l.operation l.reply ≡ c
    is_first e =
        let from = h.from in
        let number : first ≡ c.number = omega (arith, e, from) in
        ap (λ n. call_of n l.serial l.operation l.reply) number ∙ ap (λ (x : Line). call_of c.number x.serial x.operation x.reply) (same e)

    which : (IsAmong ls place (first + 1) c → (k : ℕ) × (slice_get (calls_from (first + 1) place ls) k ≡ Some c)) → (n : ℕ) → c.number - first ≡ n → (b : Bool) → (l.place == place) ≡ b
        → (k : ℕ) × (slice_get (if b then call_of first l.serial l.operation l.reply ∷ calls_from (first + 1) place ls else calls_from (first + 1) place ls) k ≡ Some c)
    which deeper zero e true at = (0, ap Some (is_first e))
    which deeper zero e false at = absurd (eqb-false l.place place at (ap (λ (x : Line). x.place) (same e)))
    which deeper (suc n) e true at = let d = deeper (behind n e) in (suc d.0, d.1)
    which deeper (suc n) e false at = deeper (behind n e)

pub line_is_call : (journal : List Line) (place : ℕ) (c : Call) → IsLineOf journal place c → (k : ℕ) × (slice_get (calls_of place journal) k ≡ Some c)
line_is_call journal place c h =
    let some = h.some in let within = h.within in
    call_among journal place 1 c record { from = omega (arith, some); within = omega (arith, within); there = h.there }

pub calls_are_lines : CallsAreLines
calls_are_lines place journal calls e i c at =
    let h = among journal place 1 i c (subst (λ cs. slice_get cs i ≡ Some c) (sym e) at) in
    let from = h.from in let within = h.within in
    record { some = omega (arith, from); within = omega (arith, within); there = h.there }

pub numbers_rise : NumbersRise
numbers_rise place journal calls e i j b c lt at behind =
    rises journal place 1 i j b c lt (subst (λ cs. slice_get cs i ≡ Some b) (sym e) at) (subst (λ cs. slice_get cs j ≡ Some c) (sym e) behind)
