-- How much a load comes to.
use Rattle.std.proofs.Common.{ℕ, ◌*◌, ◌^◌, ◌<◌, ◌≤◌, Bool, true, false, arith, rules}
use Rattle.pq_types.specs.Item.{bound_of}
use Rattle.program_words.specs.Plan.{part_factor}

-- so much no more often is no more
less_often : (number most amount : ℕ) → number ≤ most → number * amount ≤ most * amount
less_often number most amount h = search rules

-- and neither is less so often
so_often : (number amount most : ℕ) → amount ≤ most → number * amount ≤ number * most
so_often number amount most h = search rules

-- no worker does more in all rounds than a million times what it may do in one
pub few_of : (workers rounds each most : ℕ) → workers ≤ 64 → rounds ≤ 1000000 → each ≤ most → workers * (rounds * each) ≤ 64 * (1000000 * most)
few_of workers rounds each most few_workers few_rounds few =
    let one = so_often rounds each most few in
    let all = less_often rounds 1000000 most few_rounds in
    let each_one = so_often workers (rounds * each) (1000000 * most) (omega (arith, one, all)) in
    let every = less_often workers 64 (1000000 * most) few_workers in
    omega (arith, each_one, every)

-- whoever does something in each round does something
pub some_of : (workers rounds each : ℕ) → 0 < workers → 0 < rounds → 0 < each → 0 < workers * (rounds * each)
some_of workers rounds each some_workers some_rounds some =
    let one = less_often 1 rounds each some_rounds in
    let all = less_often 1 workers (rounds * each) some_workers in
    omega (arith, one, all)

-- a part that is so many times one of 32 bits is in the range of its width
pub in_width : (wide : Bool) (part : ℕ) → part < 2 ^ 32 → part_factor wide * part < bound_of wide
in_width true part few = omega (arith, few)
in_width false part few = omega (arith, few)

-- and so in that of a word
pub few_times : (wide : Bool) (part : ℕ) → part < 2 ^ 32 → part_factor wide * part < 2 ^ 64
few_times true part few = omega (arith, few)
few_times false part few = omega (arith, few)

-- of two parts the greater one is greater so many times
pub below_most : (wide : Bool) (part most : ℕ) → part < most → part_factor wide * part < part_factor wide * most
below_most true part most less = omega (arith, less)
below_most false part most less = omega (arith, less)
