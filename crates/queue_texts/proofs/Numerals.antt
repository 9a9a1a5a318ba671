-- Digits of a text, read from the left.
use Rattle.std.proofs.Common.{◌≡◌, ℕ, ◌+◌, ◌*◌, ◌<◌, ◌^◌, List, length, get_or, take, arith, ap, Option}
use Rattle.std.specs.Option.{SomeIff}
use Rattle.std.specs.Char.{digit_value}
use Rattle.std.specs.Str.Parse.{IsNumeral, AllDigits, digits_value}
use Rattle.std.proofs.lemmas.Str.{digit_value_digit}
use Rattle.std.proofs.lemmas.Str.Parse.{digit_at}
use Rattle.std.proofs.lemmas.Int.Digits.{digits_value_more, digits_more}

-- a numeral has no other byte than digits
pub no_numeral : (text : List ℕ) (i : ℕ) → i < length text → ¬ (digit_value (get_or text i 0) < 10) → ¬ (IsNumeral 10 text)
no_numeral text i inside other (filled, digits) =
    let range = digit_at text i digits inside in
    let value = digit_value_digit (get_or text i 0) range in
    other (omega (arith, value, range.0, range.1))

-- the first digits of a text, and the number that they stand for where it is below 2 ^ 64
pub record ReadSoFar (text : List ℕ) (value : Option ℕ) : Type 0 where
  pub digits : AllDigits 10 text
  pub number : SomeIff value (digits_value 10 text < 2 ^ 64) (digits_value 10 text)

-- the byte at i is a digit, and the number has taken it
pub one_more : (text : List ℕ) (i : ℕ) (old new : Option ℕ) (byte digit : ℕ) → i < length text → byte ≡ get_or text i 0
    → (digit_value byte < 10) × (digit ≡ digit_value byte)
    → ((n : ℕ) → SomeIff old (n < 2 ^ 64) n → SomeIff new (n * 10 + digit < 2 ^ 64) (n * 10 + digit))
    → ReadSoFar (take i text) old → ReadSoFar (take (i + 1) text) new
one_more text i old new byte digit inside is (small, value) step r =
    let here : digit_value byte ≡ digit_value (get_or text i 0) = ap digit_value is in
    let below : digit_value (get_or text i 0) < 10 = omega (arith, here) in
    record {
      digits = digits_more 10 text i inside r.digits below;
      number = rw (digits_value_more 10 text i inside, ← here, ← value) (step (digits_value 10 (take i text)) r.number);
    }
