-- What the tallies of calls add up to, where a journal has these calls and no others.
use Rattle.std.proofs.Common.{◌≡◌, ◌≢◌, ◌==◌, ℕ, ◌+◌, ◌⊎◌, inl, inr, Bool, true, false, List, [], ◌∷◌, if◌then◌else◌, refl, ◌∙◌, ap, arith, rules}
use Rattle.std.proofs.lemmas.Bool.{eqb-true, eqb-false}
use Rattle.std.specs.List.{sum_by, fold, AllByRecursion}
use Rattle.std.proofs.lemmas.List.Sums.{sum_by-cons}
use Rattle.pq_types.specs.Asked.{Line, Operation, Request, Reply}
use Rattle.pq_types.specs.declared.request.Request.TheVariants.{Push, Pop, Least}
use Rattle.pq_types.specs.declared.answer.Reply.TheVariants.{Pushed, Got, Empty, Least as LeastIs}
use Rattle.pq_types.specs.Operation.{request_of}
use Rattle.desk_core.specs.Calls.{call_of, calls_from}
use Rattle.desk_core.specs.declared.model.Call.{Call}
use Rattle.queue_load.specs.Tally.{nothing, counted, both, tally_of, all_together}
use Rattle.queue_load.specs.declared.tally.Tally.{Tally}

-- the tally of one operation and its reply
abbrev pub one : Operation → Reply → Tally
one o r = counted nothing (request_of o) r

-- a number of a tally that is 0 of no calls, and the sum of both of two tallies together
pub record IsPart (f : Tally → ℕ) : Type 0 where
  pub none : f nothing ≡ 0
  pub both : (t u : Tally) → f (both t u) ≡ f t + f u

pub pushed_part : IsPart (λ t. t.pushed)
pushed_part = record { none = refl; both = λ t u. refl }

pub got_part : IsPart (λ t. t.got)
got_part = record { none = refl; both = λ t u. refl }

pub empty_part : IsPart (λ t. t.empty)
empty_part = record { none = refl; both = λ t u. refl }

pub sum_in_part : IsPart (λ t. t.sum_in)
sum_in_part = record { none = refl; both = λ t u. refl }

pub sum_out_part : IsPart (λ t. t.sum_out)
sum_out_part = record { none = refl; both = λ t u. refl }

-- a tally with one more request is both together: the tally, and that of the request alone
counted_both : (t : Tally) (q : Request) (r : Reply) → counted t q r ≡ both t (counted nothing q r)
counted_both t (Push x) r = search rules
counted_both t Pop (Got x) = search rules
counted_both t Pop Empty = search rules
counted_both t Pop Pushed = search rules
counted_both t Pop (LeastIs x) = search rules
counted_both t Least r = search rules

-- the place is one of these, and no other of them is the same
abbrev pub IsOnce : ℕ → List ℕ → Type 0
IsOnce x [] = ⊥
IsOnce x (p ∷ ps) = ((x ≡ p) × AllByRecursion (λ q. x ≢ q) ps) ⊎ ((x ≢ p) × IsOnce x ps)

-- such a number of a call, and of a line
abbrev pub of_call : (Tally → ℕ) → Call → ℕ
of_call f c = f (one c.operation c.reply)

abbrev pub of_line : (Tally → ℕ) → Line → ℕ
of_line f l = f (one l.operation l.reply)

-- the sum of those of the calls at these places
abbrev pub of_places : (Tally → ℕ) → ℕ → List Line → List ℕ → ℕ
of_places f n ls ps = sum_by (λ place. sum_by (of_call f) (calls_from n place ls)) ps

module _ (f : Tally → ℕ) (p : IsPart f) where
  -- it is the sum of those of the calls
  tally_from : (t : Tally) (cs : List Call) → f (fold (λ u c. counted u (request_of c.operation) c.reply) t cs) ≡ f t + sum_by (of_call f) cs
  tally_from t [] = omega arith
  tally_from t (c ∷ cs) =
      let more = tally_from (counted t (request_of c.operation) c.reply) cs in
      let here = ap f (counted_both t (request_of c.operation) c.reply) ∙ p.both t (one c.operation c.reply) in
      omega (arith, more, here, sum_by-cons (of_call f) c cs)

  pub part_of_calls : (cs : List Call) → f (tally_of cs) ≡ sum_by (of_call f) cs
  part_of_calls cs = omega (arith, tally_from nothing cs, p.none)

  -- and of tallies together it is the sum of theirs
  together_from : (t : Tally) (ts : List Tally) → f (fold both t ts) ≡ f t + sum_by f ts
  together_from t [] = omega arith
  together_from t (u ∷ us) = omega (arith, together_from (both t u) us, p.both t u, sum_by-cons f u us)

  pub part_of_all : (ts : List Tally) → f (all_together ts) ≡ sum_by f ts
  part_of_all ts = omega (arith, together_from nothing ts, p.none)

  -- a line of this place is a call more, and no other is
  here_more : (n place : ℕ) (l : Line) (ls : List Line) → l.place ≡ place → sum_by (of_call f) (calls_from n place (l ∷ ls)) ≡ of_line f l + sum_by (of_call f) (calls_from (n + 1) place ls)
  here_more n place l ls e = at_choice (l.place == place) refl
    where
      at_choice : (b : Bool) → (l.place == place) ≡ b
          → sum_by (of_call f) (if b then call_of n l.serial l.operation l.reply ∷ calls_from (n + 1) place ls else calls_from (n + 1) place ls)
          ≡ of_line f l + sum_by (of_call f) (calls_from (n + 1) place ls)
      at_choice true is = sum_by-cons (of_call f) (call_of n l.serial l.operation l.reply) (calls_from (n + 1) place ls)
      at_choice false is = absurd (eqb-false l.place place is e)

  elsewhere_same : (n place : ℕ) (l : Line) (ls : List Line) → l.place ≢ place → sum_by (of_call f) (calls_from n place (l ∷ ls)) ≡ sum_by (of_call f) (calls_from (n + 1) place ls)
  elsewhere_same n place l ls ne = at_choice (l.place == place) refl
    where
      at_choice : (b : Bool) → (l.place == place) ≡ b
          → sum_by (of_call f) (if b then call_of n l.serial l.operation l.reply ∷ calls_from (n + 1) place ls else calls_from (n + 1) place ls)
          ≡ sum_by (of_call f) (calls_from (n + 1) place ls)
      at_choice true is = absurd (ne (eqb-true l.place place is))
      at_choice false is = refl

  -- a line of another place than these adds nothing to their sum
  none_more : (n : ℕ) (l : Line) (ls : List Line) (ps : List ℕ) → AllByRecursion (λ place. l.place ≢ place) ps → of_places f n (l ∷ ls) ps ≡ of_places f (n + 1) ls ps
  none_more n l ls [] ne = refl
  none_more n l ls (place ∷ ps) ne =
      let same = elsewhere_same n place l ls ne.0 in
      omega (
        arith,
        same,
        none_more n l ls ps ne.1,
        sum_by-cons (λ q. sum_by (of_call f) (calls_from n q (l ∷ ls))) place ps,
        sum_by-cons (λ q. sum_by (of_call f) (calls_from (n + 1) q ls)) place ps,
      )

  -- and a line of one of them adds itself
  one_more : (n : ℕ) (l : Line) (ls : List Line) (ps : List ℕ) → IsOnce l.place ps → of_places f n (l ∷ ls) ps ≡ of_line f l + of_places f (n + 1) ls ps
  one_more n l ls [] once = absurd once
  one_more n l ls (place ∷ ps) (inl (here, others)) =
      let more = here_more n place l ls here in
      omega (
        arith,
        more,
        none_more n l ls ps others,
        sum_by-cons (λ q. sum_by (of_call f) (calls_from n q (l ∷ ls))) place ps,
        sum_by-cons (λ q. sum_by (of_call f) (calls_from (n + 1) q ls)) place ps,
      )
  one_more n l ls (place ∷ ps) (inr (ne, once)) =
      let same = elsewhere_same n place l ls ne in
      omega (
        arith,
        same,
        one_more n l ls ps once,
        sum_by-cons (λ q. sum_by (of_call f) (calls_from n q (l ∷ ls))) place ps,
        sum_by-cons (λ q. sum_by (of_call f) (calls_from (n + 1) q ls)) place ps,
      )

  -- where no line is there, no place has a call
  no_lines : (n : ℕ) (ps : List ℕ) → of_places f n [] ps ≡ 0
  no_lines n [] = refl
  no_lines n (place ∷ ps) = omega (arith, no_lines n ps, sum_by-cons (λ q. sum_by (of_call f) (calls_from n q [])) place ps)

  -- So the sum of the calls at the places is that of all lines, each of which is of one of them.
  pub part_of_lines : (n : ℕ) (ls : List Line) (ps : List ℕ) → AllByRecursion (λ l. IsOnce l.place ps) ls → of_places f n ls ps ≡ sum_by (of_line f) ls
  part_of_lines n [] ps once = no_lines n ps
  part_of_lines n (l ∷ ls) ps once = omega (arith, one_more n l ls ps once.0, part_of_lines (n + 1) ls ps once.1, sum_by-cons (of_line f) l ls)
