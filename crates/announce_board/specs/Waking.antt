-- Whom the releases of a pen have woken.
use Rattle.std.specs.Prelude.{◌≡◌, ◌↔◌, ◌==◌, ℕ, Bool, true, false, List, [], ◌∷◌}
use Rattle.std.specs.List.{list_any}
use Rattle.std.specs.Int.{bit_at}

-- the bits of the mask are exactly these numbers
pub record IsMaskOf (mask : ℕ) (numbers : List ℕ) : Type 0 where
  pub bits : (number : ℕ) → (bit_at mask number ≡ 1) ↔ (list_any (λ n. number == n) numbers ≡ true)

-- whether there is any number to hand out
abbrev pub owes_any : List ℕ → Bool
owes_any [] = false
owes_any (n ∷ ns) = true
