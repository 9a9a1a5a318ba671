-- The way of a comer down the grid, step by step.
use Rattle.std.specs.Prelude.{◌≡◌, ◌≢◌, ℕ, List, [], ◌∷◌}
use Rattle.split_core.specs.declared.model.Comer.{Comer}
use Rattle.split_core.specs.declared.model.Next.TheVariants.{Stopped}
use Rattle.split_grid.specs.Steps.{strode}

-- The comer took one step of its way after another, none once it had stopped, and these are the words that it read.
abbrev pub WalksBy : List ℕ → Comer → Comer → Type 0
WalksBy [] before after = after ≡ before
WalksBy (word ∷ words) before after = (before.next ≢ Stopped) × WalksBy words (strode before word) after

-- there is such a way from the one to the other
abbrev pub GoesOn : Comer → Comer → Type 0
GoesOn before after = (words : List ℕ) × WalksBy words before after
