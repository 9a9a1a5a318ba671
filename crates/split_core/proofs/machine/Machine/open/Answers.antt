use Rattle.std.proofs.Common.{◌∙◌, ℕ, [], ap, replicate, false}
use Rattle.split_core.proofs.Machines.{opening_ends}
use Rattle.split_core.proofs.machine.Machine.open.Goals as goal

pub invariant_of-result-clause-stands : goal.invariant_of-result-clause-stands
invariant_of-result-clause-stands g c =
    let e = c.place_number-places.ensures in
    ∣ (
      c.args.ids.now,
      [],
      opening_ends c.args.ids.now c.in_ok-last.last.items c.in_ok-doors.doors.items c.in_ok-walkers.walkers.items c.requires.different
          c.requires.size.few
          (c.in_ok-last.ensures.items_if_clones_equal (λ _ h. h) ∙ ap (λ (n : ℕ). replicate {A = ℕ} n 0) e)
          (c.in_ok-doors.ensures.items_if_clones_equal (λ _ h. h) ∙ ap (λ (n : ℕ). replicate n false) e) c.in_ok-walkers.ensures,
    ) ∣₁

pub returns : goal.returns
returns g c =
    let e = c.place_number-places.ensures in
    opening_ends c.args.ids.now c.in_ok-last.last.items c.in_ok-doors.doors.items c.in_ok-walkers.walkers.items c.requires.different
    c.requires.size.few
    (c.in_ok-last.ensures.items_if_clones_equal (λ _ h. h) ∙ ap (λ (n : ℕ). replicate {A = ℕ} n 0) e)
    (c.in_ok-doors.ensures.items_if_clones_equal (λ _ h. h) ∙ ap (λ (n : ℕ). replicate n false) e) c.in_ok-walkers.ensures
