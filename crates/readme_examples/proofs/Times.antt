-- What is in time in a simulation stays so.
use Rattle.std.proofs.Common.{◌≡◌, subst, ℕ, ◌≤◌, List, [], ◌∷◌, ◌++◌, Some, arith}
use Rattle.std.proofs.lemmas.Bool.Decides.{nat_tests}
use Rattle.leftist_heap.specs.Store.{first_of, rest_of}
use Rattle.pq_types.specs.Item.{Item}
use Rattle.pq_types.specs.Queue.{IsAscending}
use Rattle.readme_examples.specs.Simulation.{IsInTime}
use Rattle.readme_examples.proofs.Firsts.{first_is}
use Rattle.readme_examples.proofs.Ordered.{all_weaker, all_more, ascending_more}

-- the first event happens: the clock shows its time
first_happens : (happened pending : List Item) (clock : ℕ) (event : Item) → IsInTime happened clock (event ∷ pending) → IsAscending (event ∷ pending)
    → IsInTime (happened ++ event ∷ []) event.priority pending
first_happens happened pending clock event t a = record {
  ascending = ascending_more happened event t.ascending (all_weaker (λ x h. grind (arith, nat_tests, h, t.future.0)) happened t.past);
  past = all_more (λ x. x.priority ≤ event.priority) happened event (all_weaker (λ x h. omega (arith, h, t.future.0)) happened t.past) (omega arith);
  future = all_weaker (λ x h. grind (arith, nat_tests, h)) pending a.0;
}

-- the same of the first event of those that are still to happen
pub next_happens : (happened pending : List Item) (clock : ℕ) (event : Item) → IsInTime happened clock pending → IsAscending pending
    → first_of pending ≡ Some event
    → IsInTime (happened ++ event ∷ []) event.priority (rest_of pending)
next_happens happened pending clock event t a first =
    let whole = first_is event pending first in
    first_happens happened (rest_of pending) clock event (subst (IsInTime happened clock) whole t) (subst IsAscending whole a)
