use Rattle.std.proofs.Common.{◌∙◌, ap, sym, rules}
use Rattle.std.specs.Prelude.{slice_get}
use Rattle.readme_examples.proofs.Numbered.{numbered_more}
use Rattle.readme_examples.proofs.lockers.lockers.Goals as goal

pub loop-number-preserved : goal.loop-number-preserved
loop-number-preserved c = record {
  count = search rules fits 300;
  numbered = λ place locker is.
      numbered_more c.loop-number.lockers.items (record { number = c.loop-number.number }) c.loop-number.invariant.numbered (sym c.loop-number.invariant.count) place locker
      (sym (ap (λ l. slice_get l place) c.in_ok-push.ensures.items) ∙ is);
}
