-- How the seats of the comers are cut off one after the other.
use Rattle.std.specs.Prelude.{◌≡◌, ℕ, [], ◌∷◌}
use Rattle.split_core.specs.Comer.{comer_of}
use Rattle.split_grid.specs.declared.rule.Role.{Role}
use Rattle.split_grid.specs.declared.rule.Role.TheVariants.{Dealer, Dealt}
use Rattle.split_grid.specs.declared.rule.View.{View}

-- a dealer without its first comer
abbrev pub rest_of : Role → Role
rest_of (Dealer []) = Dealer []
rest_of (Dealer (id ∷ ids)) = Dealer ids
rest_of (Dealt c) = Dealt c

-- that first comer, before its first step
abbrev pub first_of : Role → Role
first_of (Dealer []) = Dealer []
first_of (Dealer (id ∷ ids)) = Dealt (comer_of id)
first_of (Dealt c) = Dealt c

module _ {G : Type 0} where
  abbrev pub without_first : View G → View G
  without_first v = record { tag = v.tag; comers = v.comers; role = rest_of v.role; looks = [] }

  abbrev pub first_alone : View G → View G
  first_alone v = record { tag = v.tag; comers = v.comers; role = first_of v.role; looks = [] }

-- the dealer's first id is this one
abbrev pub IsFirst : Role → ℕ → Type 0
IsFirst (Dealer []) id = ⊥
IsFirst (Dealer (x ∷ xs)) id = x ≡ id
IsFirst (Dealt c) id = ⊥
