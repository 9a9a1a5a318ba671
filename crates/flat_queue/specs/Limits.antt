-- How often a member may post.
use Rattle.std.specs.Prelude.{ℕ, nat_le, if◌then◌else◌}
use Rattle.pq_types.specs.declared.journal.TheConstants.{MOST_LINES, GREATEST_SERIAL, GREATEST_NUMBER}

-- 16,777,215 times in a queue whose journal has room for 1,048,576 lines at most, else 2^56 times
abbrev pub most_posts : ℕ → ℕ
most_posts room = if nat_le room MOST_LINES then GREATEST_SERIAL else GREATEST_NUMBER
