-- The bits of masks of numbers.
use Rattle.std.proofs.Common.{◌≡◌, ◌<◌, ℕ, ◌*◌, ◌%◌, ◌^◌, ◌⊎◌, inl, inr, bit_or, bit_and, w64, sym, ◌∙◌, subst, arith, ◌↔◌, Bool, true, false, refl}
use Rattle.std.proofs.lemmas.Bool.{cases_eq, cases_lt}
use Rattle.std.proofs.lemmas.Nat.Bits.{bit_at_set_same, bit_at_set_other, bit_at_and, bit_at_not, bit_at-lt, bit_at_above}
use Rattle.std.specs.Int.{bit_at, bit_not}

-- the mask with this number
abbrev pub with_number : ℕ → ℕ → ℕ
with_number mask n = bit_or mask (1 * 2 ^ n % 2 ^ 64)

pub number_joins : (mask n k : ℕ) → n < 64 → (bit_at (with_number mask n) k ≡ 1) ↔ ((bit_at mask k ≡ 1) ⊎ (k ≡ n))
number_joins mask n k l =
    elim (cases_eq k n) [
      | inl e ↦ (λ b. inr e, λ h. subst (λ (j : ℕ). bit_at (with_number mask n) j ≡ 1) (sym e) (bit_at_set_same w64 mask n l))
      | inr ne ↦ (
        λ b. inl (sym (bit_at_set_other w64 mask n l k ne) ∙ b),
        λ h. elim h [ inl b ↦ bit_at_set_other w64 mask n l k ne ∙ b | inr e ↦ absurd (ne e) ],
      )
    ]

-- the numbers in this mask and not in that one
pub only_in_first : (after before k : ℕ) → after < 2 ^ 64 → before < 2 ^ 64
    → (bit_at (bit_and after (bit_not w64 before)) k ≡ 1) ↔ ((bit_at before k ≡ 0) × (bit_at after k ≡ 1))
only_in_first after before k a b =
    elim (cases_lt k 64) [
      | inl l ↦ (
        λ h. (omega (arith, h, bit_at_and after (bit_not w64 before) k, bit_at_not w64 before k b l, bit_at-lt before k, bit_at-lt after k), omega (arith, h, bit_at_and after (bit_not w64 before) k, bit_at_not w64 before k b l, bit_at-lt before k, bit_at-lt after k)),
        λ h. omega (arith, h.0, h.1, bit_at_and after (bit_not w64 before) k, bit_at_not w64 before k b l, bit_at-lt before k, bit_at-lt after k),
      )
      | inr l ↦ (
        λ h. absurd (omega (arith, h, bit_at_and after (bit_not w64 before) k, bit_at_above after 64 k a l)),
        λ h. absurd (omega (arith, h.1, bit_at_above after 64 k a l)),
      )
    ]

zero_of : (bit : ℕ) (b : Bool) → bit < 2 → (bit ≡ 1) ↔ (b ≡ true) → (bit ≡ 0) ↔ (b ≡ false)
zero_of bit true l h = (λ e. absurd (omega (arith, e, h.1 refl)), λ e. absurd cc)
zero_of bit false l h = (λ e. refl, λ e. elim (cases_eq bit 1) [ inl one ↦ let never : false ≡ true = h.0 one in absurd cc | inr ne ↦ omega (arith, ne, l) ])

-- the numbers of those who are awake now and were not before
pub newly_awake : (after before k : ℕ) (a b : Bool) → after < 2 ^ 64 → before < 2 ^ 64 → (bit_at before k ≡ 1) ↔ (b ≡ true) → (bit_at after k ≡ 1) ↔ (a ≡ true)
    → (bit_at (bit_and after (bit_not w64 before)) k ≡ 1) ↔ ((b ≡ false) × (a ≡ true))
newly_awake after before k a b la lb hb ha =
    let only = only_in_first after before k la lb in
    let none = zero_of (bit_at before k) b (bit_at-lt before k) hb in
    (λ h. let parts = only.0 h in (none.0 parts.0, ha.0 parts.1), λ h. only.1 (none.1 h.0, ha.1 h.1))
