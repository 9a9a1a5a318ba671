-- Multiples, and how much a part of an item of each width comes to at most.
use Rattle.std.proofs.Common.{◌≡◌, ℕ, ◌+◌, ◌*◌, ◌^◌, ◌≤◌, Bool, true, false, arith, rules}
use Rattle.pq_types.specs.Item.{bound_of}
use Rattle.program_words.specs.Plan.{part_factor}

-- once more so much
pub once_more : (number amount : ℕ) → (number + 1) * amount ≡ number * amount + amount
once_more number amount = search rules

-- so much no more often is no more
pub less_often : (number most amount : ℕ) → number ≤ most → number * amount ≤ most * amount
less_often number most amount h = search rules

-- and neither is less so often
pub so_often : (number amount most : ℕ) → amount ≤ most → number * amount ≤ number * most
so_often number amount most h = search rules

-- no part has more than 64 bits
pub bounded : (wide : Bool) → bound_of wide ≤ 2 ^ 64
bounded true = omega arith
bounded false = omega arith

pub most_parts : (wide : Bool) (number : ℕ) → bound_of wide * number ≤ 2 ^ 64 * number
most_parts wide number = less_often (bound_of wide) (2 ^ 64) number (bounded wide)

-- so the parts of no more items than a journal may have lines come to little
pub little : (wide : Bool) (sum number : ℕ) → sum ≤ bound_of wide * number → number ≤ 2 ^ 56 → sum ≤ 2 ^ 121
little wide sum number h few = omega (arith, h, few, most_parts wide number)

-- and none is more times that of a narrow item than that of a wide one
factored : (wide : Bool) → part_factor wide ≤ 4294967297
factored true = omega arith
factored false = omega arith

pub most_factor : (wide : Bool) (number : ℕ) → part_factor wide * number ≤ 4294967297 * number
most_factor wide number = less_often (part_factor wide) 4294967297 number (factored wide)
