-- Which line puts an item in, by a push or a move, and which takes it out, by a pop or the use of its ticket.
use Rattle.std.specs.Prelude.{◌≡◌, ℕ, ◌+◌, ◌⊎◌, List, ◌∷◌, ◌++◌, length, Option, Some, None}
use Rattle.pq_types.specs.Item.{Item, item}
use Rattle.pq_types.specs.declared.request.Request.TheVariants.{Push, Pop, Least}
use Rattle.pq_types.specs.declared.answer.Reply.TheVariants.{Empty}
use Rattle.pq_types.specs.Operation.{Asked, ByTicket, Shuts, Remove, Move, Ticketed, ticket_of}
use Rattle.pq_types.specs.Asked.{Line, Operation}
use Rattle.pq_types.specs.Entry.{Entry, item_at}
use Rattle.pq_types.specs.History.{entries_of, IsLegal}

-- the line with this number, counted from 1, and the lines before it and behind it
pub record StandsAt (journal : List Line) (number : ℕ) (l : Line) : Type 0 where
  pub before : List Line
  pub behind : List Line
  pub split : journal ≡ before ++ l ∷ behind
  pub counted : number ≡ length before + 1

-- the item under another priority, where there is one
abbrev pub under : ℕ → Option Item → Option Item
under priority None = None
under priority (Some x) = Some (item priority x.value)

-- the item that is put in where these entries wait: by a push its own, by a move the one that waits, under its new priority
abbrev pub put_in : List Entry → Operation → Option Item
put_in es (Asked (Push x)) = Some x
put_in es (Asked Pop) = None
put_in es (Asked Least) = None
put_in es (ByTicket (Remove i)) = None
put_in es (ByTicket (Move i priority)) = under priority (item_at i es)
put_in es Shuts = None

-- line i of the journal puts this item in
abbrev pub IsPutInOn : List Line → ℕ → Item → Type 0
IsPutInOn journal i x = (l : Line) × (at : StandsAt journal i l) × (put_in (entries_of at.before) l.operation ≡ Some x)

-- line k is a pop that takes out what line i put in: that stands first among the entries which the lines before k leave
abbrev pub IsTakenOn : List Line → ℕ → ℕ → Type 0
IsTakenOn journal i k =
    (l : Line) × (at : StandsAt journal k l) × (l.operation ≡ Asked Pop)
    × ((e : Entry) × (es : List Entry) × (entries_of at.before ≡ e ∷ es) × (e.line ≡ i))

-- line k uses the ticket of what line i put in, which is among those entries: it removes it, or moves it to another line
abbrev pub IsUsedOn : List Line → ℕ → ℕ → Type 0
IsUsedOn journal i k =
    (l : Line) × (at : StandsAt journal k l) × ((t : Ticketed) × (l.operation ≡ ByTicket t) × (ticket_of t ≡ i))
    × ((e : Entry) × (front : List Entry) × (back : List Entry) × (entries_of at.before ≡ front ++ e ∷ back) × (e.line ≡ i))

abbrev pub IsOutOn : List Line → ℕ → ℕ → Type 0
IsOutOn journal i k = IsTakenOn journal i k ⊎ IsUsedOn journal i k

-- In a legal journal a removal or a move that takes nothing out replies Empty.
abbrev pub VainAreTold : Type 0
VainAreTold =
    (journal : List Line) (t : Ticketed) (k : ℕ) (l : Line) → IsLegal journal → StandsAt journal k l → l.operation ≡ ByTicket t
    → (IsUsedOn journal (ticket_of t) k → ⊥) → l.reply ≡ Empty
