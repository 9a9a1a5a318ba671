-- What a refusal by the queue's rules says.
use Rattle.std.specs.Prelude.{◌≡◌, true, List}
use Rattle.pq_types.specs.Asked.{Request, Line}
use Rattle.pq_types.specs.declared.answer.Refusal.{Refusal}
use Rattle.pq_types.specs.declared.answer.Refusal.TheVariants.{Shut, Unarchived, Full}
use Rattle.pq_types.specs.Queue.{IsPush}
use Rattle.pq_types.specs.History.{is_shut}

-- what a refusal by the rules says of the journal, and stays true as lines come: only that the queue is shut
abbrev pub Bars : List Line → Refusal → Type 0
Bars journal Shut = is_shut journal ≡ true
Bars journal Unarchived = Unit {0}
Bars journal Full = Unit {0}

-- and of the request
abbrev pub IsBarred : Request → Refusal → Type 0
IsBarred request Shut = IsPush request
IsBarred request Unarchived = Unit {0}
IsBarred request Full = IsPush request
