use Rattle.std.proofs.Common.{◌≡◌, ◌+◌, ◌*◌, ◌^◌, ◌≤◌, length, map}
use Rattle.pq_types.specs.Entry.{item_of}
use Rattle.queue_texts.specs.Sums.{sum_priorities}
use Rattle.queue_texts.proofs.content.sum_of.Given as goal

-- the sum so far and what is left make the whole
abbrev pub invariant-loop-taken : goal.invariant-loop-taken
invariant-loop-taken g l =
    (l.sum + sum_priorities (map item_of (g.S.Store.content l.store)) ≡ sum_priorities (map item_of (g.S.Store.content l.fn.store)))
    × (length (g.S.Store.content l.store) + l.taken ≡ length (g.S.Store.content l.fn.store))
    × (l.sum ≤ 2 ^ 64 * l.taken)
