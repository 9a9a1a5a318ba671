-- A way with one step more.
use Rattle.std.proofs.Common.{◌≡◌, ◌≢◌, ◌==◌, ℕ, ◌+◌, true, false, cond, List, [], ◌∷◌, ◌++◌, refl, subst}
use Rattle.split_core.specs.Comer.{turned}
use Rattle.split_core.specs.declared.model.Comer.{Comer}
use Rattle.split_core.specs.declared.model.Next.{Next}
use Rattle.split_core.specs.declared.model.Next.TheVariants.{WriteLast, ReadDoor, CloseDoor, ReadLast, Stopped}
use Rattle.split_core.specs.declared.model.Turn.TheVariants.{Right, Down}
use Rattle.split_grid.specs.Steps.{stepped, strode}
use Rattle.split_grid.specs.Ways.{WalksBy, GoesOn}

walks_on : (words : List ℕ) (a b c : Comer) (word : ℕ) → WalksBy words a b → b.next ≢ Stopped → c ≡ strode b word → WalksBy (words ++ word ∷ []) a c
walks_on [] a b c word same going e = (subst (λ (x : Comer). x.next ≢ Stopped) same going, subst (λ (x : Comer). c ≡ strode x word) same e)
walks_on (w ∷ words) a b c word (at, rest) going e = (at, walks_on words (strode a w) b c word rest going e)

pub at_start : (a : Comer) → GoesOn a a
at_start a = ([], refl)

pub goes_on : (a b c : Comer) → GoesOn a b → b.next ≢ Stopped → c ≡ strode b c.read → GoesOn a c
goes_on a b c (words, way) going e = (words ++ c.read ∷ [], walks_on words a b c c.read way going e)

stepped_id : (m : Next) (c : Comer) (word : ℕ) → (stepped m c word).id ≡ c.id
stepped_id WriteLast c word = refl
stepped_id ReadDoor c word =
    elim (word == 1) as (λ b. (cond b (turned Right c word) (record c { next = CloseDoor; read = word; steps = c.steps + 1 })).id
    ≡ c.id) [ true ↦ refl | false ↦ refl ]
stepped_id CloseDoor c word = refl
stepped_id ReadLast c word =
    elim (word == c.id) as (λ b. (cond b (record c { next = Stopped; read = word; steps = c.steps + 1 }) (turned Down c word)).id
    ≡ c.id) [ true ↦ refl | false ↦ refl ]
stepped_id Stopped c word = refl

-- a step on the way is that of the same comer
pub strode_id : (c : Comer) (word : ℕ) → (strode c word).id ≡ c.id
strode_id c word = stepped_id c.next c word
