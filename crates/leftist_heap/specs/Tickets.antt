-- The item of a list that carries a ticket, and the list without it.
use Rattle.std.specs.Prelude.{ℕ, ◌==◌, if◌then◌else◌, List, [], ◌∷◌, Option, Some, None}

module _ {X : Type 0} (ticket_of : X → ℕ) (ticket : ℕ) where
  -- the first item with this ticket, where there is one
  abbrev pub item_with : List X → Option X
  item_with [] = None
  item_with (x ∷ xs) = if ticket_of x == ticket then Some x else item_with xs

  -- the list without that item
  abbrev pub without_ticket : List X → List X
  without_ticket [] = []
  without_ticket (x ∷ xs) = if ticket_of x == ticket then xs else x ∷ without_ticket xs
