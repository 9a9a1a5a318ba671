-- What a scheduler's workers run.
use Rattle.std.specs.Prelude.{List, [], ◌∷◌, ◌++◌}
use Rattle.pq_types.specs.Item.{Item}
use Rattle.pq_types.specs.Asked.{Reply}
use Rattle.pq_types.specs.declared.answer.Reply.TheVariants.{Pushed, Got, Least, Empty}
use Rattle.desk_core.specs.declared.model.Call.{Call}

-- the item that a reply hands over, if it does
abbrev pub handed_over : Reply → List Item
handed_over Pushed = []
handed_over (Got task) = task ∷ []
handed_over (Least task) = []
handed_over Empty = []

-- the tasks that these calls of a member took out of the queue, in their order
abbrev pub taken_out : List Call → List Item
taken_out [] = []
taken_out (c ∷ cs) = handed_over c.reply ++ taken_out cs
