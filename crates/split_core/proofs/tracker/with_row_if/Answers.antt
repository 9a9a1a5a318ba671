use Rattle.std.proofs.Common.{◌≡◌, inl, inr, subst, sym}
use Rattle.std.specs.Int.{bit_at}
use Rattle.split_core.proofs.Masks.{with_row, with_from, with_old, with_new}
use Rattle.split_core.proofs.tracker.with_row_if.Goals as goal

pub returns-then-joins : goal.returns-then-joins
returns-then-joins c r = (
  λ b. elim (with_from c.args.mask c.args.row r c.requires b) [ inl h ↦ inl h | inr e ↦ inr (c.if-joins.true, e) ],
  λ h. elim h [
    | inl b ↦ with_old c.args.mask c.args.row r c.requires b
    | inr e ↦ subst (λ j. bit_at (with_row c.args.mask c.args.row) j ≡ 1) (sym e.1) (with_new c.args.mask c.args.row c.requires)
  ],
)
