-- What a move into a new epoch has moved, and what it has still in hand.
use Rattle.std.specs.Prelude.{List, [], ◌∷◌, ◌++◌, map}
use Rattle.pq_types.specs.Item.{Item}
use Rattle.pq_types.specs.Asked.{Request}
use Rattle.pq_types.specs.declared.request.Request.TheVariants.{Push, Pop, Least}
use Rattle.pq_types.specs.Operation.{request_of}
use Rattle.pq_types.specs.History.{left}
use Rattle.pq_types.specs.Entry.{item_of}
use Rattle.desk_core.specs.declared.model.Call.{Call}
use Rattle.readme_examples.specs.declared.epochs.Unmoved.{Unmoved}
use Rattle.readme_examples.specs.declared.epochs.Unmoved.TheVariants.{Old, Between}

-- all items that are there after a refused move, in the order in which they came out
abbrev pub items_of : Unmoved → List Item
items_of (Old book) = left book.journal
items_of (Between agenda item store) = agenda.items ++ item ∷ map item_of store.items

-- the item that a request puts in, if it does
abbrev pub put_in_by : Request → List Item
put_in_by (Push x) = x ∷ []
put_in_by Pop = []
put_in_by Least = []

-- the items that these calls of a member put into the queue, in their order
abbrev pub pushed_by : List Call → List Item
pushed_by [] = []
pushed_by (c ∷ cs) = put_in_by (request_of c.operation) ++ pushed_by cs
