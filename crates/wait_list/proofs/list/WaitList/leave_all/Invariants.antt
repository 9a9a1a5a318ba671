use Rattle.std.proofs.Common.{◌-◌, length}
use Rattle.wait_list.proofs.Leaving.{MaskLoop}
use Rattle.wait_list.proofs.list.WaitList.leave_all.Given as goal

-- those before the place stay, and the others are still to be looked at
abbrev pub invariant-loop-place : goal.invariant-loop-place
invariant-loop-place l = MaskLoop l.mask l.place l.self-inside.entries.items l.initial.self-inside.entries.items

abbrev pub decreases-loop-place : goal.decreases-loop-place
decreases-loop-place l = length l.self-inside.entries.items - l.place
