use Rattle.std.proofs.Common.{◌≡◌, length}
use Rattle.readme_examples.specs.Lockers.{AreNumbered}
use Rattle.readme_examples.proofs.lockers.lockers.Given as goal

abbrev pub invariant-loop-number : goal.invariant-loop-number
invariant-loop-number l = record {
  count : length l.lockers.items ≡ l.number;
  numbered : AreNumbered l.lockers.items;
}
