use Rattle.std.proofs.Common.{arith, ◌≤◌, subst, sym}
use Rattle.pq_types.specs.History.{last_serial}
use Rattle.queue_bench.proofs.Serials.{stays_below}
use Rattle.queue_bench.proofs.ordered_book.OrderedBook+S.apply.Goals as goal

pub invariant_of-self : goal.invariant_of-self
invariant_of-self g c =
    let law = c.law_one_more_line.ensures.last_serial in
    record {
      below = λ place. subst (λ j. last_serial place j ≤ c.in_ok-serial.serial) (sym c.apply-answer.ensures.journal) (stays_below law place _ _ _ _ _ _ (c.args.self.now.below place) (omega (arith, c.in_ok-serial.ensures)));
    }
