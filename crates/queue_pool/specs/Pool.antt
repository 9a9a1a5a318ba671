-- What a pool of members has, and what its calls make of it.
use Rattle.std.specs.Prelude.{◌≡◌, ℕ, ◌+◌, ◌⊎◌, Bool, true, false, List, [], ◌∷◌, ◌++◌, length, Some}
use Rattle.pq_types.specs.Asked.{Answer}
use Rattle.announce_board.specs.Tokens.{is_idle}
use Rattle.announce_board.specs.Asking.{LooksBy}
use Rattle.flat_queue.specs.Members.{QueueName, Coming, Joined, Joins, StaysAtPlace}
use Rattle.flat_queue.specs.Turns.{LeadsBy, FindsLockHeld, LooksInVainBy}

-- A pool: its queue, the comers that have not joined yet, in the order of their ids, the members that came back idle and
-- those that came back with a request out, each in the order in which they came, and how many comers it had at first
pub record Pooled : Type 0 where
  pub queue : QueueName
  pub newcomers : List Coming
  pub idle : List Joined
  pub waiting : List Joined
  pub most : ℕ

-- the pool of a queue whose comers are all new
abbrev pub all_new : QueueName → List Coming → Pooled
all_new queue newcomers = record { queue = queue; newcomers = newcomers; idle = []; waiting = []; most = length newcomers }

-- how many comers and members are in the pool
abbrev pub inside : Pooled → ℕ
inside p = length p.newcomers + length p.idle + length p.waiting

-- the member is an idle one of this queue, and does not lead
abbrev pub IsIdleAt : QueueName → Joined → Type 0
IsIdleAt queue m = (m.queue ≡ queue) × (is_idle m.pen.standing ≡ true) × (m.pen.leading ≡ false)

-- the member is one of this queue that waits for an answer, and does not lead
abbrev pub WaitsAt : QueueName → Joined → Type 0
WaitsAt queue m = (m.queue ≡ queue) × (is_idle m.pen.standing ≡ false) × (m.pen.leading ≡ false)

-- the member has waited at its place, and its look found an answer; here, and in all that follows, items have so many words
abbrev pub FindsAnswerBy : ℕ → Joined → Joined → Type 0
FindsAnswerBy words before after =
    (answer : Answer) × StaysAtPlace before after × LooksBy words before.pen (Some answer) after.pen

-- each of these members looked in vain, and they stand in the same order
abbrev pub AllInVainBy : ℕ → List Joined → List Joined → Type 0
AllInVainBy words [] [] = Unit {0}
AllInVainBy words [] (n ∷ ns) = ⊥
AllInVainBy words (m ∷ ms) [] = ⊥
AllInVainBy words (m ∷ ms) (n ∷ ns) = LooksInVainBy words m n × AllInVainBy words ms ns

-- the member that waits longest looked in vain, and stands behind the others now
abbrev pub FirstInVainBy : ℕ → List Joined → List Joined → Type 0
FirstInVainBy words [] after = after ≡ []
FirstInVainBy words (m ∷ rest) after = (n : Joined) × LooksInVainBy words m n × (after ≡ rest ++ n ∷ [])

-- the member that waits longest looked, and has left the others with the answer that it found
abbrev pub FirstAnsweredBy : ℕ → List Joined → Joined → List Joined → Type 0
FirstAnsweredBy words [] n after = ⊥
FirstAnsweredBy words (m ∷ rest) n after = FindsAnswerBy words m n × (after ≡ rest)

-- Those ahead were asked, one after another, each in vain, and stand behind the others now
pub record AskedInVainBy (words : ℕ) (ahead others after : List Joined) : Type 0 where
  pub asked : List Joined
  pub in_vain : AllInVainBy words ahead asked
  pub stand : after ≡ others ++ asked

-- Of those ahead the first that finds its answer has left with it. Each before it was asked in vain, and these stand behind
-- the others now.
pub record FirstToldBy (words : ℕ) (ahead others : List Joined) (m : Joined) (after : List Joined) : Type 0 where
  pub before : List Joined
  pub waited : Joined
  pub behind : List Joined
  pub asked : List Joined
  pub split : ahead ≡ before ++ waited ∷ behind
  pub in_vain : AllInVainBy words before asked
  pub finds : FindsAnswerBy words waited m
  pub stand : after ≡ behind ++ (others ++ asked)

-- the member that waits longest has made a round, and left the others with the answer that its look found then
abbrev pub FirstLedBy : ℕ → List Joined → Joined → List Joined → Type 0
FirstLedBy words [] n after = ⊥
FirstLedBy words (m ∷ rest) n after = (led : Joined) × LeadsBy words m led × FindsAnswerBy words led n × (after ≡ rest)

-- the member that waits longest, if there is one, has found the lock held, and stands behind the others now
abbrev pub FirstFoundHeld : List Joined → List Joined → Type 0
FirstFoundHeld [] after = after ≡ []
FirstFoundHeld (m ∷ rest) after = (n : Joined) × FindsLockHeld m n × (after ≡ rest ++ n ∷ [])

-- the first of the newcomers has become this member
abbrev pub FirstJoins : List Coming → Joined → List Coming → Type 0
FirstJoins [] m rest = ⊥
FirstJoins (newcomer ∷ others) m rest = Joins newcomer m × (rest ≡ others)

-- the lists of a pool: its newcomers, and the members that came back idle and waiting
pub record Lists : Type 0 where
  pub newcomers : List Coming
  pub idle : List Joined
  pub waiting : List Joined

abbrev pub lists_of : Pooled → Lists
lists_of p = record { newcomers = p.newcomers; idle = p.idle; waiting = p.waiting }

-- the member that came back idle last comes out, as it came back
pub record LastIdle (before : Lists) (m : Joined) (after : Lists) : Type 0 where
  pub idle : before.idle ≡ after.idle ++ m ∷ []
  pub waiting : after.waiting ≡ before.waiting
  pub newcomers : after.newcomers ≡ before.newcomers

-- none is idle, and the first of those that wait that finds its answer comes out with it
pub record OneToldBy (words : ℕ) (before : Lists) (m : Joined) (after : Lists) : Type 0 where
  pub none_idle : before.idle ≡ []
  pub idle : after.idle ≡ []
  pub told : FirstToldBy words before.waiting [] m after.waiting
  pub newcomers : after.newcomers ≡ before.newcomers

-- none is idle, all that wait were asked in vain, and the first newcomer joins
pub record FirstNewBy (words : ℕ) (before : Lists) (m : Joined) (after : Lists) : Type 0 where
  pub none_idle : before.idle ≡ []
  pub idle : after.idle ≡ []
  pub waiting : AllInVainBy words before.waiting after.waiting
  pub joins : FirstJoins before.newcomers m after.newcomers

-- none is idle, no comer is left, all that wait were asked in vain, and the first of them comes out by a round of its own
pub record OneLedBy (words : ℕ) (before : Lists) (m : Joined) (after : Lists) : Type 0 where
  pub none_idle : before.idle ≡ []
  pub idle : after.idle ≡ []
  pub none_new : before.newcomers ≡ []
  pub newcomers : after.newcomers ≡ []
  pub asked : List Joined
  pub in_vain : AllInVainBy words before.waiting asked
  pub led : FirstLedBy words asked m after.waiting

-- from where a member comes out: one that is back before a newcomer, and a newcomer before one that makes a round
pub record ComesOutBy (words : ℕ) (before : Lists) (m : Joined) (after : Lists) : Type 0 where
  pub from : LastIdle before m after
      ⊎ (OneToldBy words before m after ⊎ (FirstNewBy words before m after ⊎ OneLedBy words before m after))

-- none comes out: none is idle, no comer is left, all that wait were asked in vain, and the first of them, if there is one,
-- found the lock held
pub record NoneComesBy (words : ℕ) (before after : Lists) : Type 0 where
  pub none_idle : before.idle ≡ []
  pub idle : after.idle ≡ []
  pub none_new : before.newcomers ≡ []
  pub newcomers : after.newcomers ≡ []
  pub asked : List Joined
  pub in_vain : AllInVainBy words before.waiting asked
  pub held : FirstFoundHeld asked after.waiting

-- the pool is one of the same queue and of as many comers
abbrev pub StaysPool : Pooled → Pooled → Type 0
StaysPool before after = (after.queue ≡ before.queue) × (after.most ≡ before.most)

-- an idle member of the queue has come out of the pool
abbrev pub TakesOutBy : ℕ → Pooled → Joined → Pooled → Type 0
TakesOutBy words before m after =
    StaysPool before after × IsIdleAt before.queue m × ComesOutBy words (lists_of before) m (lists_of after)

-- the members, and this one behind them where it is idle; or where it isn't
abbrev pub and_idle : Bool → List Joined → Joined → List Joined
and_idle true ms m = ms ++ m ∷ []
and_idle false ms m = ms

abbrev pub and_waiting : Bool → List Joined → Joined → List Joined
and_waiting true ms m = ms
and_waiting false ms m = ms ++ m ∷ []

-- the pool with this member, behind those that are idle, or behind those that wait
abbrev pub with_member : Pooled → Joined → Pooled
with_member p m =
    record p { idle = and_idle (is_idle m.pen.standing) p.idle m; waiting = and_waiting (is_idle m.pen.standing) p.waiting m }
