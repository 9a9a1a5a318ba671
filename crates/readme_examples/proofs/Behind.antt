-- A journal that begins with another one has its lines and maybe more.
use Rattle.std.proofs.Common.{◌≤◌, List, length, length-append, ap, arith}
use Rattle.pq_types.specs.Asked.{Line}
use Rattle.desk_core.specs.Rule.{StartsWith}

pub lines_behind : (journal told : List Line) → StartsWith journal told → length told ≤ length journal
lines_behind journal told (rest, e) = omega (arith, ap (λ (ls : List Line). length ls) e, length-append told rest)
