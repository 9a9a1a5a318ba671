-- A shut ends pushes.
use Rattle.std.proofs.Common.{◌≡◌, ℕ, zero, suc, ◌-◌, ◌<◌, true, List, [], ◌∷◌, ap, subst, ◌∙◌, arith}
use Rattle.std.specs.Prelude.{Some, slice_get}
use Rattle.std.specs.List.{AllByRecursion}
use Rattle.pq_types.specs.Asked.{Line}
use Rattle.pq_types.specs.History.{line_of, shuts, HeedsShut, EndsAtShut}
use Rattle.desk_core.specs.Linearizable.{ShutEndsPushes}

all_get : (P : Line → Type 0) (ls : List Line) (i : ℕ) (l : Line) → AllByRecursion P ls → slice_get ls i ≡ Some l → P l
all_get P [] i l h e = absurd (cc e)
all_get P (m ∷ ls) zero l h e = let f : m ≡ l = cc in subst P f h.0
all_get P (m ∷ ls) (suc i) l h e = all_get P ls i l h.1 e

none_later : (ls : List Line) (i j : ℕ) (s l : Line) → HeedsShut ls → slice_get ls i ≡ Some s → shuts s.operation ≡ true
    → slice_get ls j ≡ Some l → i < j → EndsAtShut l.operation → ⊥
none_later [] i j s l h e is f less = absurd (cc e)
none_later (m ∷ ls) zero zero s l h e is f less = absurd (omega (arith, less))
none_later (m ∷ ls) zero (suc j) s l h e is f less =
    let g : m ≡ s = cc in
    all_get (λ k. EndsAtShut k.operation → ⊥) ls j l (h.0 (ap (λ (k : Line). shuts k.operation) g ∙ is)) f
none_later (m ∷ ls) (suc i) zero s l h e is f less = absurd (omega (arith, less))
none_later (m ∷ ls) (suc i) (suc j) s l h e is f less = none_later ls i j s l h.1 e is f (omega (arith, less))

pub shut_ends_pushes : ShutEndsPushes
shut_ends_pushes room history journal place place' b c lin is_b shut is_c precedes =
    let first = is_b.some in
    let less = lin.order place place' b c is_b is_c precedes in
    none_later journal (b.number - 1) (c.number - 1) (line_of place b.serial b.operation b.reply) (line_of place' c.serial c.operation c.reply)
    lin.heeds is_b.there (ap shuts shut) is_c.there (omega (arith, less, first))
