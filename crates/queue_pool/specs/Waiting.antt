-- What the calls come to of a member that may stand in the list of those who wait.
use Rattle.std.specs.Prelude.{◌≡◌, ℕ, Bool, true, false, Result}
use Rattle.pq_types.specs.Item.{Item}
use Rattle.flat_queue.specs.Members.{Joined}
use Rattle.flat_queue.specs.Turns.{FindsLockHeld}
use Rattle.flat_queue.specs.Looking.{Looked}
use Rattle.flat_queue.specs.WaitSteps.{PushedOr, TakesOrWaitsBy, PushesOrWaitsBy, LeavesTheList}
use Rattle.flat_queue.specs.declared.looking.Wanted.{Wanted}
use Rattle.flat_queue.specs.declared.wait_steps.Entry.{Entry}
use Rattle.flat_queue.specs.declared.wait_steps.Patience.{Patience}
use Rattle.flat_queue.specs.declared.wait_steps.RoomWait.{RoomWait}
use Rattle.queue_pool.specs.Shared.{TriesBy}
use Rattle.queue_pool.specs.declared.shared.Undone.{Undone}

-- It looked at the first item, and took that out where it wanted it, or waits under this number as its patience says.
abbrev pub TriesTakeOrWaitBy :
    (words number : ℕ) → Wanted → Patience → Joined → Result (Looked × Entry) Undone → Joined → Type 0
TriesTakeOrWaitBy words number wanted patience before tried after =
    TriesBy (λ told. TakesOrWaitsBy words number wanted patience before told.0 told.1 after) before tried after

-- It carried the push of this item out, or waits so for room under this number.
abbrev pub TriesPushOrWaitBy : (words number : ℕ) → Item → RoomWait → Joined → Result PushedOr Undone → Joined → Type 0
TriesPushOrWaitBy words number x wait before tried after =
    TriesBy (λ told. PushesOrWaitsBy words number x wait before told after) before tried after

-- It found the lock free, and those of the mask are among those who wait no more; or it found the lock held.
abbrev pub TriesLeaveBy : (mask : ℕ) → Joined → (left : Bool) → Joined → Type 0
TriesLeaveBy mask before true after = LeavesTheList mask before after
TriesLeaveBy mask before false after = FindsLockHeld before after
