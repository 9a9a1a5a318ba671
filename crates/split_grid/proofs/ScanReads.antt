-- The doors that one call of a scan reads.
use Rattle.std.proofs.Common.{◌≡◌, ℕ, zero, suc, Bool, true, false, refl, subst, Some}
use Rattle.split_core.specs.Places.{place}
use Rattle.split_grid.specs.Tokens.{Resting}
use Rattle.split_grid.specs.Calls.{ReadsOn, ReadsOpen, ReadsUpTo}

module _ {G : Type 0} where
  pub none_read : (s : Resting G) → (doors : ℕ) × ReadsOpen doors s s
  none_read s = (zero, refl)

  -- one open door more
  pub read_open : (a b c : Resting G) (shut : Bool) → (doors : ℕ) × ReadsOpen doors a b → ReadsOn b shut c → shut ≡ false → (doors : ℕ) × ReadsOpen doors a c
  read_open a b c shut (doors, h) r e = (suc doors, (b, h, subst (λ x. ReadsOn b x c) e r))

  -- the closed one
  pub read_up_to : (a b c : Resting G) (shut : Bool) (told : ℕ) → (doors : ℕ) × ReadsOpen doors a b → told ≡ place b.scan.row b.scan.column → ReadsOn b shut c → shut ≡ true
      → ReadsUpTo a (Some told) c
  read_up_to a b c shut told (doors, h) here r e = (doors, b, h, here, subst (λ x. ReadsOn b x c) e r)
