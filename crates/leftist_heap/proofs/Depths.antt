-- How many places are above one.
use Rattle.std.proofs.Common.{◌≡◌, ℕ, zero, suc, ◌+◌, ◌*◌, ◌-◌, ◌<◌, ◌≤◌, ◌^◌, refl, ap, arith}
use Rattle.leftist_heap.specs.Sifting.{place_above}
use Rattle.leftist_heap.specs.Depth.{places_above, depth_at}

-- any fuel that is enough gives the same
any_fuel : (f g k : ℕ) → k ≤ f → k ≤ g → places_above f k ≡ places_above g k
any_fuel zero zero k p q = refl
any_fuel zero (suc g) zero p q = refl
any_fuel zero (suc g) (suc k) p q = absurd (omega arith)
any_fuel (suc f) zero zero p q = refl
any_fuel (suc f) zero (suc k) p q = absurd (omega arith)
any_fuel (suc f) (suc g) zero p q = refl
any_fuel (suc f) (suc g) (suc k) p q = ap suc (any_fuel f g (place_above (suc k)) (omega arith) (omega arith))

pub deeper : (k : ℕ) → 0 < k → depth_at k ≡ depth_at (place_above k) + 1
deeper zero p = absurd (omega arith)
deeper (suc k) p =
    let same = any_fuel k (place_above (suc k)) (place_above (suc k)) (omega arith) (omega arith) in
    omega (arith, same)

-- a later place is no less deep
as_deep : (fuel j k : ℕ) → k ≤ fuel → j ≤ k → depth_at j ≤ depth_at k
as_deep fuel zero k p q = omega arith
as_deep zero (suc j) k p q = absurd (omega arith)
as_deep (suc fuel) (suc j) zero p q = absurd (omega arith)
as_deep (suc fuel) (suc j) (suc k) p q =
    let first = deeper (suc j) (omega arith) in
    let second = deeper (suc k) (omega arith) in
    let above = as_deep fuel (place_above (suc j)) (place_above (suc k)) (omega arith) (omega arith) in
    omega arith

pub no_less_deep : (j k : ℕ) → j ≤ k → depth_at j ≤ depth_at k
no_less_deep j k p = as_deep k j k (omega arith) p

-- the places up to b are at most d deep
abbrev AreWithin : ℕ → ℕ → Type 0
AreWithin b d = (k : ℕ) → k ≤ b → depth_at k ≤ d

next_level : (b d : ℕ) → AreWithin b d → AreWithin (8 * b + 1) (suc d)
next_level b d h zero p = omega arith
next_level b d h (suc k) p =
    let first = deeper (suc k) (omega arith) in
    let above = h (place_above (suc k)) (omega arith) in
    omega arith

first_level : AreWithin 0 0
first_level zero p = omega arith
first_level (suc k) p = absurd (omega arith)

-- a heap of fewer than 2^32 items is at most 12 deep
pub shallow : (k : ℕ) → k < 2 ^ 32 → depth_at k ≤ 12
shallow k p = next_level 1227133513 11 (next_level 153391689 10 (next_level 19173961 9 (next_level 2396745 8 (next_level 299593 7 (next_level 37449 6 (next_level 4681 5 (next_level 585 4 (next_level 73 3 (next_level 9 2 (next_level 1 1 (next_level 0 0 first_level))))))))))) k (omega arith)
