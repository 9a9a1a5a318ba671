-- The bits of masks of rows.
use Rattle.std.proofs.Common.{◌≡◌, ◌≢◌, ◌<◌, ℕ, zero, suc, ◌+◌, ◌-◌, ◌*◌, ◌/◌, ◌%◌, ◌^◌, ◌⊎◌, inl, inr, bit_and, bit_or, w64, ap}
use Rattle.std.proofs.Common.{sym, ◌∙◌, subst, arith}
use Rattle.std.proofs.lemmas.Bool.{cases_eq, cases_lt}
use Rattle.std.proofs.lemmas.Nat.Bits.{bit_at_or, bit_at_and, bit_at-lt, bit_at_above, bit_at_cat_low, bit_at_cat_high}
use Rattle.std.proofs.lemmas.Nat.Bits.{bit_at_set_same, bit_at_set_other, bit_at_lowest, bit_at-suc}
use Rattle.std.specs.Int.{bit_at}

-- the mask with this row, and without its least
abbrev pub with_row : ℕ → ℕ → ℕ
with_row mask k = bit_or mask (1 * 2 ^ k % 2 ^ 64)

abbrev pub without_least : ℕ → ℕ
without_least mask = bit_and mask (mask - 1)

-- the rows of the mask, and the row below each
abbrev pub led_rows : ℕ → ℕ
led_rows mask = bit_or mask (mask * 2 ^ 1 % 2 ^ 64)

pub row_small : (mask r : ℕ) → mask < 2 ^ 64 → bit_at mask r ≡ 1 → r < 64
row_small mask r f b = elim (cases_lt r 64) [ inl l ↦ l | inr l ↦ absurd (omega (arith, bit_at_above mask 64 r f l)) ]

pub with_from : (mask k r : ℕ) → k < 64 → bit_at (with_row mask k) r ≡ 1 → (bit_at mask r ≡ 1) ⊎ (r ≡ k)
with_from mask k r l b = elim (cases_eq r k) [ inl e ↦ inr e | inr ne ↦ inl (sym (bit_at_set_other w64 mask k l r ne) ∙ b) ]

pub with_old : (mask k r : ℕ) → k < 64 → bit_at mask r ≡ 1 → bit_at (with_row mask k) r ≡ 1
with_old mask k r l b =
    elim (cases_eq r k) [
      | inl e ↦ subst (λ (j : ℕ). bit_at (with_row mask k) j ≡ 1) (sym e)
          (bit_at_set_same w64 mask k l)
      | inr ne ↦ bit_at_set_other w64 mask k l r ne ∙ b
    ]

pub with_new : (mask k : ℕ) → k < 64 → bit_at (with_row mask k) k ≡ 1
with_new mask k l = bit_at_set_same w64 mask k l

-- the number before a mask has no row that is the least of the mask, and the same rows above it
less_at : (k mask : ℕ) → bit_at mask k ≡ 1 → ((r : ℕ) → r < k → bit_at mask r ≡ 0) → bit_at (mask - 1) k ≡ 0
less_at zero mask b least = omega (arith, b, bit_at_lowest mask, bit_at_lowest (mask - 1))
less_at (suc k) mask b least =
    let half : (mask - 1) / 2 ≡ mask / 2 - 1 = omega (arith, least 0 (omega arith), bit_at_lowest mask) in
    bit_at-suc (mask - 1) k
    ∙ (ap (λ (n : ℕ). bit_at n k) half
    ∙ less_at k (mask / 2) (sym (bit_at-suc mask k) ∙ b) (λ r l. sym (bit_at-suc mask r) ∙ least (suc r) (omega (arith, l))))

less_above : (k mask r : ℕ) → bit_at mask k ≡ 1 → ((q : ℕ) → q < k → bit_at mask q ≡ 0) → k < r → bit_at (mask - 1) r ≡ bit_at mask r
less_above k mask zero b least l = absurd (omega (arith, l))
less_above zero mask (suc r) b least l =
    let half : (mask - 1) / 2 ≡ mask / 2 = omega (arith, b, bit_at_lowest mask) in
    bit_at-suc (mask - 1) r ∙ (ap (λ (n : ℕ). bit_at n r) half ∙ sym (bit_at-suc mask r))
less_above (suc k) mask (suc r) b least l =
    let half : (mask - 1) / 2 ≡ mask / 2 - 1 = omega (arith, least 0 (omega arith), bit_at_lowest mask) in
    bit_at-suc (mask - 1) r
    ∙ (ap (λ (n : ℕ). bit_at n r) half
    ∙ (less_above k (mask / 2) r (sym (bit_at-suc mask k) ∙ b) (λ q m. sym (bit_at-suc mask q) ∙ least (suc q) (omega (arith, m))) (omega (arith, l))
    ∙ sym (bit_at-suc mask r)))

pub without_from : (mask k r : ℕ) → bit_at mask k ≡ 1 → ((q : ℕ) → q < k → bit_at mask q ≡ 0) → bit_at (without_least mask) r ≡ 1
    → (bit_at mask r ≡ 1) × (r ≢ k)
without_from mask k r s least b =
    let m : bit_at mask r ≡ 1 = omega (arith, b, bit_at_and mask (mask - 1) r, bit_at-lt mask r) in
    (m, λ e. omega (arith, subst (λ (j : ℕ). bit_at (without_least mask) j ≡ 1) e b, bit_at_and mask (mask - 1) k, less_at k mask s least))

pub without_old : (mask k r : ℕ) → bit_at mask k ≡ 1 → ((q : ℕ) → q < k → bit_at mask q ≡ 0) → bit_at mask r ≡ 1 → r ≢ k
    → bit_at (without_least mask) r ≡ 1
without_old mask k r s least b ne =
    elim (cases_lt r k) [
      | inl l ↦ absurd (omega (arith, b, least r l))
      | inr l ↦ omega (arith, b, bit_at_and mask (mask - 1) r, less_above k mask r s least (omega (arith, l, ne)))
    ]

-- the shifted mask
shifted_zero : (mask : ℕ) → bit_at (mask * 2 ^ 1 % 2 ^ 64) 0 ≡ 0
shifted_zero mask = omega arith

shifted_suc : (mask r : ℕ) → suc r < 64 → bit_at (mask * 2 ^ 1 % 2 ^ 64) (suc r) ≡ bit_at mask r
shifted_suc mask r l =
    let high : ℕ = mask * 2 ^ 1 / 2 ^ 64 in
    let low : ℕ = mask * 2 ^ 1 % 2 ^ 64 in
    let whole : mask * 2 ^ 1 + 0 ≡ high * 2 ^ 64 + low = omega arith in
    sym (bit_at_cat_low high 64 low (suc r) l)
    ∙ (ap (λ (n : ℕ). bit_at n (suc r)) (sym whole)
    ∙ (bit_at_cat_high mask 1 0 (suc r) (omega arith) (omega arith) ∙ ap (bit_at mask) (let e : suc r - 1 ≡ r = omega arith in e)))

pub led_same : (mask r : ℕ) → bit_at mask r ≡ 1 → bit_at (led_rows mask) r ≡ 1
led_same mask r b = omega (arith, bit_at_or mask (mask * 2 ^ 1 % 2 ^ 64) r, bit_at-lt (led_rows mask) r)

pub led_below : (mask q : ℕ) → q + 1 < 64 → bit_at mask q ≡ 1 → bit_at (led_rows mask) (q + 1) ≡ 1
led_below mask q l b =
    let e : suc q ≡ q + 1 = omega arith in
    let s : bit_at (mask * 2 ^ 1 % 2 ^ 64) (q + 1)
    ≡ 1 = subst (λ (j : ℕ). bit_at (mask * 2 ^ 1 % 2 ^ 64) j ≡ 1) e (shifted_suc mask q (omega arith) ∙ b) in
    omega (arith, bit_at_or mask (mask * 2 ^ 1 % 2 ^ 64) (q + 1), bit_at-lt (led_rows mask) (q + 1))

shifted_from : (mask r : ℕ) → bit_at (mask * 2 ^ 1 % 2 ^ 64) r ≡ 1 → (q : ℕ) × (q + 1 ≡ r) × (bit_at mask q ≡ 1)
shifted_from mask zero b = absurd (omega (arith, shifted_zero mask))
shifted_from mask (suc r) b = (r, omega arith, sym (shifted_suc mask r (row_small (mask * 2 ^ 1 % 2 ^ 64) (suc r) (omega arith) b)) ∙ b)

pub led_rows_from : (mask r : ℕ) → bit_at (led_rows mask) r ≡ 1 → (bit_at mask r ≡ 1) ⊎ ((q : ℕ) × (q + 1 ≡ r) × (bit_at mask q ≡ 1))
led_rows_from mask r b =
    elim (cases_eq (bit_at mask r) 1) [
      | inl m ↦ inl m
      | inr no_bit ↦ inr (shifted_from mask r
          (let s : bit_at (mask * 2 ^ 1 % 2 ^ 64) r
          ≡ 1 = omega (arith, bit_at_or mask (mask * 2 ^ 1 % 2 ^ 64) r, bit_at-lt mask r, bit_at-lt (mask * 2 ^ 1 % 2 ^ 64) r, no_bit) in s))
    ]
