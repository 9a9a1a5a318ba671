use Rattle.std.proofs.Common.{◌≡◌, inl, inr, subst}
use Rattle.std.specs.Int.{bit_at}
use Rattle.split_core.proofs.Masks.{led_rows, led_rows_from, led_same, led_below}
use Rattle.split_core.proofs.tracker.rows_led_to.Goals as goal

pub returns : goal.returns
returns c r = (
  led_rows_from c.args.mask r,
  λ h. elim h [
    | inl b ↦ led_same c.args.mask r b
    | inr q ↦ subst (λ j. bit_at (led_rows c.args.mask) j ≡ 1) q.1 (led_below c.args.mask q.0 (c.requires q.0 q.2) q.2)
  ],
)
