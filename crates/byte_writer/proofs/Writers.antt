-- What a writer holds after one more write.
use Rattle.std.proofs.Common.{◌≡◌, ℕ, List, ◌++◌, ap, sym, ◌∙◌, append_assoc, Option}
use Rattle.std.specs.Io.KnownBytes.{Appends}
use Rattle.std.proofs.KnownBytes.{Appends-trans}

-- a write took the front of the rest
pub onward : (bytes taken rest front left : List ℕ) (a b c : Option (List ℕ)) → bytes ≡ taken ++ rest → rest ≡ front ++ left
    → Appends a b taken → Appends b c front → (x : List ℕ) × (bytes ≡ x ++ left) × Appends a c x
onward bytes taken rest front left a b c e f p q =
    (taken ++ front, e ∙ ap (λ zs. taken ++ zs) f ∙ sym (append_assoc taken front left), Appends-trans a b c taken front p q)
