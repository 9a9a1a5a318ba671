use Rattle.std.proofs.Common.{◌≡◌, ℕ, length, slice_get, Some}
use Rattle.part_tests.specs.declared.tables.Prize.{Prize}
use Rattle.part_tests.proofs.tables.prizes.Given as goal

abbrev pub invariant-loop-place : goal.invariant-loop-place
invariant-loop-place l = record {
  count : length l.prizes.items ≡ l.place;
  each : (p : ℕ) (x : Prize) → slice_get l.prizes.items p ≡ Some x → x.0 ≡ p;
}
