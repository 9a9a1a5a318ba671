-- What a handle holds.
use Rattle.std.specs.Prelude.{ℕ, Option, Some, None}
use Rattle.flat_queue.specs.Members.{Joined}
use Rattle.queue_pool.specs.Pool.{Pooled}
use Rattle.queue_texts.specs.Replay.{Replayed}
use Rattle.queue_c.specs.Values.{Told}
use Rattle.queue_c.specs.declared.contents.Contents.{Contents}
use Rattle.queue_c.specs.declared.contents.Contents.TheVariants.{Vacant, Queue, Member, Journal, Replay}

-- the open queue that is held
abbrev pub queue_held : Contents → Option Pooled
queue_held Vacant = None
queue_held (Queue opened) = Some opened
queue_held (Member member number) = None
queue_held (Journal told) = None
queue_held (Replay replay) = None

-- the member that is held
abbrev pub member_held : Contents → Option Joined
member_held Vacant = None
member_held (Queue opened) = None
member_held (Member member number) = Some member
member_held (Journal told) = None
member_held (Replay replay) = None

-- the lines of a journal that are held
abbrev pub journal_held : Contents → Option Told
journal_held Vacant = None
journal_held (Queue opened) = None
journal_held (Member member number) = None
journal_held (Journal told) = Some told
journal_held (Replay replay) = None

-- the number of its queue that the member carries that is held
abbrev pub owner_held : Contents → Option ℕ
owner_held Vacant = None
owner_held (Queue opened) = None
owner_held (Member member number) = Some number
owner_held (Journal told) = None
owner_held (Replay replay) = None

-- the replay that is held
abbrev pub replay_held : Contents → Option Replayed
replay_held Vacant = None
replay_held (Queue opened) = None
replay_held (Member member number) = None
replay_held (Journal told) = None
replay_held (Replay replay) = Some replay

-- the same of what is behind a handle
abbrev pub queue_in : Option Contents → Option Pooled
queue_in None = None
queue_in (Some held) = queue_held held

abbrev pub member_in : Option Contents → Option Joined
member_in None = None
member_in (Some held) = member_held held

abbrev pub journal_in : Option Contents → Option Told
journal_in None = None
journal_in (Some held) = journal_held held

abbrev pub owner_in : Option Contents → Option ℕ
owner_in None = None
owner_in (Some held) = owner_held held

abbrev pub replay_in : Option Contents → Option Replayed
replay_in None = None
replay_in (Some held) = replay_held held
