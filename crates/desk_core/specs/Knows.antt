-- What a pen can tell of a journal that it has in its hand: the law that its caller's answers rest
-- on.
use Rattle.std.specs.Prelude.{◌≡◌, ℕ, ◌+◌, ◌<◌, ◌≤◌, ◌⊎◌, true, List, [], ◌∷◌, ◌++◌, length, Some}
use Rattle.std.specs.List.{AllByRecursion}
use Rattle.pq_types.specs.Item.{Item}
use Rattle.pq_types.specs.Asked.{Request}
use Rattle.pq_types.specs.declared.request.Request.TheVariants.{Push, Pop, Least}
use Rattle.pq_types.specs.Asked.{Reply}
use Rattle.pq_types.specs.declared.answer.Reply.TheVariants.{Pushed, Got, Empty, Least as LeastIs}
use Rattle.pq_types.specs.Asked.{Line}
use Rattle.pq_types.specs.Operation.{request_of}
use Rattle.pq_types.specs.History.{IsLegal, SerialsRise}
use Rattle.pq_book.specs.Book.{Volume}
use Rattle.desk_core.specs.Calls.{call, calls_of}
use Rattle.desk_core.specs.Pen.{IsIdle}
use Rattle.desk_core.specs.Desk.{Desk, Has}
use Rattle.desk_core.specs.Rule.{StartsWith, above_mine, MeetsRule}
use Rattle.desk_core.specs.declared.model.Standing.TheVariants.{Waiting}
use Rattle.desk_core.specs.declared.model.PenState.{PenState}

-- no line of this place has a serial above this one
abbrev pub NoneAbove : ℕ → ℕ → List Line → Type 0
NoneAbove place serial lines = AllByRecursion (λ l. place ≡ l.place → l.serial < serial + 1) lines

-- The journal is a legal history in which serials rise, with room for its lines; it begins with
-- the one that the pen knows. Its lines of the pen's place are those that the pen has read
-- whole, and then at most one: the entered answer to its own last post, for which it waits. An idle
-- pen has read all of them. None of them has a serial above the pen's last. Where the pen was told that the journal is full, it
-- has as many lines as there is room for.
pub record Knows (room : ℕ) (p : PenState) (journal : List Line) : Type 0 where
  pub legal : IsLegal journal
  pub rise : SerialsRise journal
  pub within : length journal ≤ room
  pub known : StartsWith journal p.known
  pub lines :
      (calls_of p.place journal ≡ p.mine)
      ⊎ ((request : Request) × (number : ℕ) × (reply : Reply)
      × (p.standing ≡ Waiting request) × (calls_of p.place journal ≡ p.mine ++ call number p.posts request reply ∷ []))
  pub idle : IsIdle p.standing → calls_of p.place journal ≡ p.mine
  pub serials : AllByRecursion (λ c. c.serial < above_mine p.posts p.standing) p.mine
  pub used : NoneAbove p.place p.posts journal
  pub filled : p.told_full ≡ true → length journal ≡ room

-- a leader knows that of the journal in its hand
abbrev pub LeadersKnow : Type 0
LeadersKnow = (d : Desk) (seat : ℕ) (p : PenState) → MeetsRule d → Has d.views seat p → p.leading ≡ true → Knows d.room p p.hand

-- and each pen of the journal that is at home, in a Book with the desk's room
abbrev pub HomeIsKnown : Type 0
HomeIsKnown =
    (d : Desk) (seat : ℕ) (p : PenState) (book : Volume) → MeetsRule d → Has d.views seat p → d.home ≡ Some book
    → (book.room ≡ d.room) × Knows d.room p book.journal

-- the reply is one to such a request: Pushed to a push; an item, or Empty, to a pop or least
abbrev pub IsReplyTo : Request → Reply → Type 0
IsReplyTo (Push x) reply = reply ≡ Pushed
IsReplyTo Pop reply = (reply ≡ Empty) ⊎ ((x : Item) × (reply ≡ Got x))
IsReplyTo Least reply = (reply ≡ Empty) ⊎ ((x : Item) × (reply ≡ LeastIs x))

-- each call that a pen has read whole has such a reply: to a removal or a move as to a pop
abbrev pub CallsHaveReplies : Type 0
CallsHaveReplies = (d : Desk) (seat : ℕ) (p : PenState) → MeetsRule d → Has d.views seat p
    → AllByRecursion (λ c. IsReplyTo (request_of c.operation) c.reply) p.mine
