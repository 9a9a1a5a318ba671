-- The positions of acts are forced. What a pen keeps more when its desk has gone on, while the other pens have not, are the
-- positions from the next one on. So positions are given in the order in which the steps are taken.
use Rattle.std.specs.Prelude.{◌≡◌, ℕ, ◌+◌, ◌<◌, ◌≤◌, ◌⊎◌, [], ◌∷◌, ◌++◌, slice_set}
use Rattle.pq_types.specs.declared.journal.TheConstants.{GREATEST_NUMBER}
use Rattle.pq_types.specs.History.{Limits}
use Rattle.desk_core.specs.Desk.{Desk, Has, time}
use Rattle.desk_core.specs.Dealing.{IsReached}
use Rattle.desk_core.specs.Times.{KeepsPosition}
use Rattle.desk_core.specs.declared.model.PenState.{PenState}
use Rattle.desk_core.specs.declared.model.View.TheVariants.{Holder}

-- Between two times the pen has become another, which keeps all positions that it kept, and beside them exactly those from
-- the first time to the second. So a beginning or an end alone has the position of the first time; of both the beginning
-- has it, and the end has the next.
pub record KeepsTheNext (before after : ℕ) (p w : PenState) : Type 0 where
  pub old : (n : ℕ) → KeepsPosition p n → KeepsPosition w n
  pub new : (n : ℕ) → before ≤ n → n < after → KeepsPosition w n
  pub others : (n : ℕ) → KeepsPosition w n → KeepsPosition p n ⊎ ((before ≤ n) × (n < after))
  pub begins : (serial n : ℕ) → w.begins ≡ p.begins ++ (serial, n) ∷ [] → w.ends ≡ p.ends → n ≡ before
  pub ends : (serial n : ℕ) → w.begins ≡ p.begins → w.ends ≡ p.ends ++ (serial, n) ∷ [] → n ≡ before
  pub both : (serial n m : ℕ) → w.begins ≡ p.begins ++ (serial, n) ∷ [] → w.ends ≡ p.ends ++ (serial, m) ∷ []
      → (n ≡ before) × (m ≡ before + 1)

-- so it is of any two desks at the ends of runs whose views differ at the seat of this pen alone, and whose acts have become
-- no fewer
abbrev pub PositionsAreForced : Type 0
PositionsAreForced =
    (places : ℕ) (limits : Limits) (d d' : Desk) (seat : ℕ) (p w : PenState) → limits.room ≤ GREATEST_NUMBER
    → IsReached places limits d → IsReached places limits d'
    → Has d.views seat p → d'.views ≡ slice_set d.views seat (Holder w) → time d ≤ time d'
    → KeepsTheNext (time d) (time d') p w
