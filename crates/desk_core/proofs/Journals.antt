-- What one more line does to a journal.
use Rattle.std.proofs.Common.{◌≡◌, ◌≢◌, ℕ, zero, suc, ◌+◌, ◌<◌, Bool, true, false, List, [], ◌∷◌, ◌++◌, length, eq-eqb, ne_eqb, add-zero, refl, sym, arith}
use Rattle.std.specs.Prelude.{Some, slice_get, ◌==◌, if◌then◌else◌}
use Rattle.std.specs.List.{AllByRecursion}
use Rattle.pq_types.specs.Asked.{Operation}
use Rattle.pq_types.specs.Asked.{Reply}
use Rattle.pq_types.specs.Asked.{Line}
use Rattle.pq_types.specs.History.{line_of}
use Rattle.pq_types.specs.Laws.{EntersOneMore, StaysLegal, StillRises, StillHeeds, EntriesStayInRange, RepliesAreProper}
use Rattle.desk_core.specs.declared.model.Call.{Call}
use Rattle.desk_core.specs.Calls.{call_of, calls_from}

module _ {A : Type 0} where
  pub all_more : (P : A → Type 0) (xs : List A) (x : A) → AllByRecursion P xs → P x → AllByRecursion P (xs ++ x ∷ [])
  all_more P [] x h p = (p, tt)
  all_more P (y ∷ ys) x h p = (h.0, all_more P ys x h.1 p)

  pub all_weaker : (P Q : A → Type 0) (xs : List A) → ((x : A) → P x → Q x) → AllByRecursion P xs → AllByRecursion Q xs
  all_weaker P Q [] f h = tt
  all_weaker P Q (y ∷ ys) f h = (f y h.0, all_weaker P Q ys f h.1)

  pub get_last : (xs : List A) (x : A) → slice_get (xs ++ x ∷ []) (length xs) ≡ Some x
  get_last [] x = refl
  get_last (y ∷ ys) x = get_last ys x

  pub get_more : (xs ys : List A) (n : ℕ) (x : A) → slice_get xs n ≡ Some x → slice_get (xs ++ ys) n ≡ Some x
  get_more [] ys n x e = absurd (cc e)
  get_more (y ∷ xs) ys zero x e = e
  get_more (y ∷ xs) ys (suc n) x e = get_more xs ys n x e

-- what pq_types' laws say of a journal that gains a line, and of items in their range
pub record QueueLaws : Type 0 where
  pub enters : EntersOneMore
  pub legal : StaysLegal
  pub rise : StillRises
  pub entries : EntriesStayInRange
  pub reply : RepliesAreProper
  pub heeds : StillHeeds

split_before : (b : Bool) (c : Call) (xs ys : List Call) → (if b then c ∷ (xs ++ ys) else xs ++ ys) ≡ (if b then c ∷ xs else xs) ++ ys
split_before true c xs ys = refl
split_before false c xs ys = refl

-- the calls of a place after one more line
pub calls_here : (n p : ℕ) (ls : List Line) (s : ℕ) (o : Operation) (r : Reply)
    → calls_from n p (ls ++ line_of p s o r ∷ []) ≡ calls_from n p ls ++ call_of (n + length ls) s o r ∷ []
calls_here n p [] s o r = rw (eq-eqb p p refl, add-zero n) refl
calls_here n p (l ∷ ls) s o r =
    let e : n + 1 + length ls ≡ n + suc (length ls) = omega arith in
    rw (calls_here (n + 1) p ls s o r, e) (split_before (l.place == p) (call_of n l.serial l.operation l.reply) (calls_from (n + 1) p ls) (call_of (n + suc (length ls)) s o r ∷ []))

pub calls_elsewhere : (n p k : ℕ) (ls : List Line) (s : ℕ) (o : Operation) (r : Reply) → k ≢ p → calls_from n p (ls ++ line_of k s o r ∷ []) ≡ calls_from n p ls
calls_elsewhere n p k [] s o r ne = rw (ne_eqb k p ne) refl
calls_elsewhere n p k (l ∷ ls) s o r ne = rw (calls_elsewhere (n + 1) p k ls s o r ne) refl

below_head : (b : Bool) (c : Call) (cs : List Call) (m : ℕ) → AllByRecursion (λ (c : Call). c.serial < m) (if b then c ∷ cs else cs)
    → (b ≡ true → c.serial < m) × AllByRecursion (λ (c : Call). c.serial < m) cs
below_head true c cs m h = (λ _. h.0, h.1)
below_head false c cs m h = (λ e. absurd (cc e), h)

-- a bound on the serials of a place's calls is one on those of its lines
pub lines_below : (n p b : ℕ) (ls : List Line) → AllByRecursion (λ c. c.serial < b) (calls_from n p ls) → AllByRecursion (λ m. p ≡ m.place → m.serial < b) ls
lines_below n p b [] h = tt
lines_below n p b (l ∷ ls) h =
    let t = below_head (l.place == p) (call_of n l.serial l.operation l.reply) (calls_from (n + 1) p ls) b h in
    (λ e. t.0 (eq-eqb l.place p (sym e)), lines_below (n + 1) p b ls t.1)
