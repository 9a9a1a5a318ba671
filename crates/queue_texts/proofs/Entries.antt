-- What one more line does to what an audit counts.
use Rattle.std.proofs.Common.{◌≡◌, ℕ, ◌+◌, ◌<◌, ◌≤◌, ◌^◌, Bool, List, [], ◌∷◌, ◌++◌, length, length-append, refl, sym, ap, subst, arith}
use Rattle.std.specs.Prelude.{◌==◌}
use Rattle.std.specs.List.{AllByRecursion}
use Rattle.pq_types.specs.Asked.{Line}
use Rattle.pq_types.specs.History.{last_serial}
use Rattle.pq_types.specs.Laws.{SerialOfOneMore}
use Rattle.queue_texts.specs.declared.sums.JournalSums.{JournalSums}
use Rattle.queue_texts.specs.Replay.{MayFollow}
use Rattle.queue_texts.specs.Sums.{counted, AreSumsOf, CountUpTo}
use Rattle.queue_texts.proofs.JournalSums.{sums_more}

-- the sums of no lines
abbrev nothing : JournalSums
nothing = record { places = 0; pushed = 0; got = 0; empty = 0; sum_in = 0; sum_out = 0 }

all_more : (P : Line → Type 0) (xs : List Line) (x : Line) → AllByRecursion P xs → P x → AllByRecursion P (xs ++ x ∷ [])
all_more P [] x h p = (p, tt)
all_more P (y ∷ ys) x h p = (h.0, all_more P ys x h.1 p)

-- the sums of one more line that was read
counts_more : SerialOfOneMore → (wide : Bool) (text : List ℕ) (ls : List Line) (l : Line) (t : JournalSums) (new : Bool) → CountUpTo ls t
    → MayFollow wide ls text l → (counted t new l.operation l.reply).sum_in ≤ t.sum_in + 2 ^ 64
    → (counted t new l.operation l.reply).sum_out ≤ t.sum_out + 2 ^ 64 → new ≡ (last_serial l.place ls == 0)
    → CountUpTo (ls ++ l ∷ []) (counted t new l.operation l.reply)
counts_more one_more wide text ls l t new h may small_in small_out is =
    let within = may.0.1 in
    record {
      few = omega (arith, length-append {A = Line} ls (l ∷ []), within.number_range.1);
      serials = all_more (λ m. 0 < m.serial) ls l h.serials within.serial_range.0;
      sums = sums_more one_more ls l t new h.serials within.serial_range.0 small_in small_out is h.sums;
    }

-- the same, where each part is known by an equation
pub counts_entered : SerialOfOneMore → (wide : Bool) (text : List ℕ) (ls ls' : List Line) (l : Line) (t t' : JournalSums) (new : Bool)
    → CountUpTo ls t → MayFollow wide ls text l → t'.sum_in ≤ t.sum_in + 2 ^ 64 → t'.sum_out ≤ t.sum_out + 2 ^ 64
    → new ≡ (last_serial l.place ls == 0) → ls' ≡ ls ++ l ∷ [] → t' ≡ counted t new l.operation l.reply → CountUpTo ls' t'
counts_entered one_more wide text ls ls' l t t' new h may small_in small_out is f c =
    let into = subst (λ x. x.sum_in ≤ t.sum_in + 2 ^ 64) c small_in in
    let out = subst (λ x. x.sum_out ≤ t.sum_out + 2 ^ 64) c small_out in
    subst (λ x. CountUpTo x t') (sym f)
    (subst (CountUpTo (ls ++ l ∷ [])) (sym c) (counts_more one_more wide text ls l t new h may into out is))

none_counted : AreSumsOf [] nothing
none_counted =
    record {
      places = refl;
      pushed = refl;
      got = refl;
      empty = refl;
      sum_in = refl;
      sum_out = refl;
      few_places = omega arith;
      few_pushed = omega arith;
      few_got = omega arith;
      few_empty = omega arith;
      few_in = omega arith;
      few_out = omega arith;
    }

-- what an audit of no lines has counted
pub counts_none : (journal : List Line) (t : JournalSums) → journal ≡ [] → t ≡ nothing → CountUpTo journal t
counts_none journal t f c = record {
  few = omega (arith, ap length f);
  serials = subst (λ x. AllByRecursion (λ l. 0 < l.serial) x) (sym f) tt;
  sums = subst (λ x. AreSumsOf x t) (sym f) (subst (AreSumsOf []) (sym c) none_counted);
}
