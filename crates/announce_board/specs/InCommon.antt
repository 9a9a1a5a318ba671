-- What two journals have in common, line by line. Of two beginnings of one journal this is the longer one; and where it is itself
-- a beginning of a journal, both of them are. So one load tells a pen that has heard a note that the two agree.
use Rattle.std.specs.Prelude.{ℕ, List, [], ◌∷◌}
use mathlib.Core.List.{List-discrete}
use mathlib.Core.Logic.{ite}
use native.Mathlib.Decide.{ℕ_discrete}
use Rattle.pq_types.specs.Item.{Item, item}
use Rattle.pq_types.specs.Asked.{Request}
use Rattle.pq_types.specs.Asked.{Operation}
use Rattle.pq_types.specs.Asked.{Reply}
use Rattle.pq_types.specs.Asked.{Line}
use Rattle.pq_types.specs.declared.request.Request.TheVariants.{Push, Pop, Least}
use Rattle.pq_types.specs.declared.answer.Reply.TheVariants.{Pushed, Got, Empty, Least as LeastIs}
use Rattle.pq_types.specs.Operation.{Asked, ByTicket, Shuts, Remove, Move}
use Rattle.pq_types.specs.History.{line}

-- the kind of a request, and its item, if it has one
abbrev pub request_number : Request → ℕ
request_number (Push x) = 0
request_number Pop = 1
request_number Least = 2

abbrev pub item_asked : Request → Item
item_asked (Push x) = x
item_asked Pop = item 0 0
item_asked Least = item 0 0

-- the kind of an operation, its ticket and its item, if it has them: of a move the new priority stands in an item of value 0
abbrev pub operation_number : Operation → ℕ
operation_number (Asked q) = request_number q
operation_number (ByTicket (Remove ticket)) = 3
operation_number (ByTicket (Move ticket priority)) = 4
operation_number Shuts = 5

abbrev pub ticket_asked : Operation → ℕ
ticket_asked (Asked q) = 0
ticket_asked (ByTicket (Remove ticket)) = ticket
ticket_asked (ByTicket (Move ticket priority)) = ticket
ticket_asked Shuts = 0

abbrev pub item_put : Operation → Item
item_put (Asked q) = item_asked q
item_put (ByTicket (Remove ticket)) = item 0 0
item_put (ByTicket (Move ticket priority)) = item priority 0
item_put Shuts = item 0 0

-- the kind of a reply, and its item, if it has one
abbrev pub reply_number : Reply → ℕ
reply_number Pushed = 0
reply_number (Got x) = 1
reply_number Empty = 2
reply_number (LeastIs x) = 3

abbrev pub item_told : Reply → Item
item_told Pushed = item 0 0
item_told (Got x) = x
item_told Empty = item 0 0
item_told (LeastIs x) = x

-- the numbers of a line, which no other line has
abbrev pub line_numbers : Line → List ℕ
line_numbers l =
    l.place ∷ l.serial ∷ operation_number l.operation ∷ ticket_asked l.operation ∷ (item_put l.operation).priority
    ∷ (item_put l.operation).value ∷ reply_number l.reply ∷ (item_told l.reply).priority ∷ (item_told l.reply).value ∷ []

-- the line, where the two are the same, and else one that stands in no journal
abbrev pub same_line : Line → Line → Line
same_line x y = ite (List-discrete ℕ_discrete (line_numbers x) (line_numbers y)) x (line 0 0 Pop Pushed)

-- what two journals have in common, and what the longer one has more
abbrev pub in_common : List Line → List Line → List Line
in_common [] told = told
in_common (x ∷ xs) [] = x ∷ xs
in_common (x ∷ xs) (y ∷ ys) = same_line x y ∷ in_common xs ys
