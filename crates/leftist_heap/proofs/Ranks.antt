-- A leftist tree of rank r has 2^r - 1 items or more.
use Rattle.std.proofs.Common.{◌≡◌, ℕ, ◌+◌, ◌*◌, ◌≤◌, ◌<◌, ◌^◌, length, suc, ap, ◌∙◌, arith, ⊎_elim}
use Rattle.std.proofs.lemmas.Bool.Decides.{leb_tells}
use Rattle.std.proofs.Math.Pow.{pow_mono}
use Rattle.std.proofs.Math.Nat.{pow-suc}
use Rattle.std.proofs.lemmas.List.{length-append}
use Rattle.leftist_heap.specs.Tree.{Tree, nothing, node, items_of, rank_of, IsLeftist}

module _ {X : Type 0} where
  pub power_of_rank : (t : Tree X) → IsLeftist t → 2 ^ rank_of t ≤ length (items_of t) + 1
  power_of_rank nothing h = omega arith
  power_of_rank (node item kept l r) h =
      let left = power_of_rank l h.2 in
      let right = power_of_rank r h.3 in
      let lower : 2 ^ rank_of r ≤ 2 ^ rank_of l = pow_mono h.1 in
      let double : 2 ^ (1 + rank_of r) ≡ 2 ^ rank_of r * 2 = rank_up (rank_of r) in
      omega (arith, length-append (items_of l) (items_of r))
    where
      rank_up : (n : ℕ) → 2 ^ (1 + n) ≡ 2 ^ n * 2
      rank_up n = let next : 1 + n ≡ suc n = omega arith in ap (λ (k : ℕ). 2 ^ k) next ∙ pow-suc 2 n

  -- so a tree of less than 2^32 items has rank 32 or less
  pub low_rank : (t : Tree X) → IsLeftist t → length (items_of t) < 2 ^ 32 → rank_of t ≤ 32
  low_rank t h few = at_most (rank_of t) (power_of_rank t h) where
    at_most : (r : ℕ) → 2 ^ r ≤ length (items_of t) + 1 → r ≤ 32
    at_most r p =
        ⊎_elim (λ e. e.1) (λ e. let above : 2 ^ 33 ≤ 2 ^ r = pow_mono {i = 33} {j = r} (omega (arith, e.1)) in absurd (omega arith)) (leb_tells r 32)
