-- The items of a store, taken out one after another.
use Rattle.std.proofs.Common.{◌≡◌, ◌-◌, ◌≤◌, List, [], ◌∷◌, length, map, ap, arith}
use Rattle.std.proofs.lemmas.List.{length-map}
use Rattle.leftist_heap.specs.Store.{rest_of}
use Rattle.pq_types.specs.Asked.{Line}
use Rattle.pq_types.specs.History.{left}
use Rattle.pq_types.specs.Laws.{NoMoreItemsThanLines}
use Rattle.pq_types.specs.Entry.{Entry}
use Rattle.pq_types.specs.Entry.{item_of}

pub one_less : (old new : List Entry) → new ≡ rest_of old → length new ≡ length old - 1
one_less [] new rest = ap length rest
one_less (x ∷ xs) new rest = omega (arith, ap length rest)

-- a journal leaves no more entries than it has lines
pub few_left : NoMoreItemsThanLines → (journal : List Line) (found : List Entry) → map item_of found ≡ left journal
    → length found ≤ length journal
few_left few journal found is = omega (arith, few journal, ap length is, length-map found item_of)
