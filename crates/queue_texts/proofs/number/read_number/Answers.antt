use Rattle.std.proofs.Common.{refl, ap, arith}
use Rattle.std.specs.Char.{digit_value}
use Rattle.queue_texts.proofs.Numerals.{no_numeral, one_more}
use Rattle.queue_texts.proofs.number.read_number.Goals as goal

pub returns-in_default-clause-not_a_number : goal.returns-in_default-clause-not_a_number
returns-in_default-clause-not_a_number c = (
  (λ _ numeral. no_numeral c.args.text.now c.loop-byte.byte-index c.loop-byte-test.true
      (λ small. c.in_default.ensures.value (omega (arith, ap digit_value c.from.ensures, small))) numeral),
  (λ _. refl),
)

pub returns-in_default-clause-out_of_range : goal.returns-in_default-clause-out_of_range
returns-in_default-clause-out_of_range c = (
  (λ e. cc),
  (λ (numeral, high). absurd
      (no_numeral c.args.text.now c.loop-byte.byte-index c.loop-byte-test.true
      (λ small. c.in_default.ensures.value (omega (arith, ap digit_value c.from.ensures, small))) numeral)),
)

pub loop-byte-preserved : goal.loop-byte-preserved
loop-byte-preserved c =
    one_more _ _ _ _ _ _ c.loop-byte-test.true c.from.ensures c.in-Some.ensures.value c.with_digit-value.ensures c.loop-byte.invariant
