-- The turns that a call takes while it waits for its answer.
use Rattle.std.specs.Prelude.{◌≡◌, ℕ, zero, suc, ◌<◌, ◌⊎◌, Option, None}
use Rattle.pq_types.specs.Asked.{Answer}
use Rattle.desk_core.specs.Pen.{after_miss}
use Rattle.announce_board.specs.Asking.{LooksBy}
use Rattle.flat_queue.specs.Limits.{most_posts}
use Rattle.flat_queue.specs.Members.{Joined, StaysAtPlace}
use Rattle.flat_queue.specs.TrailSweeping.{MakesTrailRoundBy}
use Rattle.flat_queue.specs.declared.gate.Turn.{Turn}
use Rattle.flat_queue.specs.declared.gate.Turn.TheVariants.{Lead, Look, GiveUp}

-- the member made a round by a trail scan; here, and in all that follows, items have so many words
abbrev pub LeadsBy : ℕ → Joined → Joined → Type 0
LeadsBy words before after = (served doors : ℕ) × MakesTrailRoundBy words before served doors after

-- the member tried the lock, and found it held
abbrev pub FindsLockHeld : Joined → Joined → Type 0
FindsLockHeld before after = after ≡ record before { pen = after_miss before.pen }

-- the member, which has a serial left, tried the lock once, and found it held
abbrev pub FindsHeldYet : Joined → Joined → Type 0
FindsHeldYet before after = (before.pen.posts < most_posts before.queue.room) × FindsLockHeld before after

-- the member tried the lock so often, one time after another, and found it held each time
abbrev pub Misses : ℕ → Joined → Joined → Type 0
Misses zero before after = after ≡ before
Misses (suc n) before after = (m : Joined) × Misses n before m × FindsLockHeld m after

-- What a turn makes of a member: one to lead makes a round, or finds the lock held; one to look or to
-- give up takes no step.
abbrev pub TakesBy : ℕ → Turn → Joined → Joined → Type 0
TakesBy words Lead before after = LeadsBy words before after ⊎ FindsLockHeld before after
TakesBy words Look before after = after ≡ before
TakesBy words GiveUp before after = after ≡ before

-- the member looked, and found no answer
abbrev pub LooksInVainBy : ℕ → Joined → Joined → Type 0
LooksInVainBy words before after = StaysAtPlace before after × LooksBy words before.pen None after.pen

-- A turn in vain: the member looked in vain, and then left the rounds to others, or found the lock held,
-- as its gate may tell it.
abbrev pub TurnsInVainBy : ℕ → (may : Turn → Type 0) → Joined → Joined → Type 0
TurnsInVainBy words may before after =
    (looked : Joined) × LooksInVainBy words before looked
    × ((may Look × (after ≡ looked)) ⊎ (may Lead × FindsLockHeld looked after))

-- so many turns in vain, one after another
abbrev pub WaitsInVainBy : ℕ → (may : Turn → Type 0) → ℕ → Joined → Joined → Type 0
WaitsInVainBy words may zero before after = after ≡ before
WaitsInVainBy words may (suc n) before after = (m : Joined) × WaitsInVainBy words may n before m × TurnsInVainBy words may m after

-- the member looked in vain, and then made a round of its own
abbrev pub LeadsItselfBy : ℕ → (may : Turn → Type 0) → Joined → Joined → Type 0
LeadsItselfBy words may before after =
    (looked : Joined) × LooksInVainBy words before looked × may Lead × LeadsBy words looked after

-- how a call has waited so far: so many turns in vain, and then one round of its own or none
pub record WaitedBy (words : ℕ) (may : Turn → Type 0) (before after : Joined) : Type 0 where
  pub turns : ℕ
  pub vain : Joined
  pub in_vain : WaitsInVainBy words may turns before vain
  pub led : (after ≡ vain) ⊎ LeadsItselfBy words may vain after

-- The call waited so, and its last look told this answer; or none, where the gate may say to give up.
pub record EndsWaitingBy (words : ℕ) (may : Turn → Type 0) (before : Joined) (answer : Option Answer)
    (after : Joined) : Type 0 where
  pub last : Joined
  pub waited : WaitedBy words may before last
  pub stays : StaysAtPlace last after
  pub looks : LooksBy words last.pen answer after.pen
  pub gave_up : answer ≡ None → may GiveUp

-- The same of narrow items, which have one word.
abbrev pub Leads : Joined → Joined → Type 0
Leads = LeadsBy 1

abbrev pub LooksInVain : Joined → Joined → Type 0
LooksInVain = LooksInVainBy 1

abbrev pub EndsWaiting : (may : Turn → Type 0) → Joined → Option Answer → Joined → Type 0
EndsWaiting = EndsWaitingBy 1
