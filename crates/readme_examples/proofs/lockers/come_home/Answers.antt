use Rattle.std.proofs.Common.{◌∙◌, ap, sym, subst, refl, inr, Contains}
use Rattle.split_core.specs.Places.{at}
use Rattle.split_core.specs.declared.model.Scan.{Scan}
use Rattle.readme_examples.proofs.lockers.come_home.Goals as goal

-- the scan is over, so it has found the place where its comer stopped
pub returns : goal.returns
returns c =
    let whole = c.scan_next.ensures.ended c.in_default.ensures.answer.over in
    let found = ap (λ (s : Scan). s.found) (sym c.scan_next.ensures.own) ∙ c.in_default.ensures.answer.found ∙ c.loop-place.invariant.found in
    let place = ap at (c.scan_next.ensures.still.turns ∙ c.loop-place.invariant.still.turns) ∙ sym c.walk-stopped.ensures.home.value in
    subst (λ p. Contains c.loop-place.taken.items p) place
    (subst (λ xs. Contains xs (at c.scan_next.new.stopped.comer.turns)) found (whole.way (at c.scan_next.new.stopped.comer.turns) (inr refl)))
