-- The answered calls of a place: what its pen gains by looking, and what the journal has of it.
use Rattle.std.specs.Prelude.{ℕ, ◌+◌, ◌==◌, if◌then◌else◌, List, [], ◌∷◌}
use Rattle.pq_types.specs.Asked.{Request}
use Rattle.pq_types.specs.Asked.{Reply}
use Rattle.pq_types.specs.Asked.{Operation}
use Rattle.pq_types.specs.Operation.{Asked}
use Rattle.pq_types.specs.Asked.{Answer}
use Rattle.pq_types.specs.declared.answer.Answer.TheVariants.{Entered, BookFull, NoMemory, Refused}
use Rattle.pq_types.specs.Asked.{Line}
use Rattle.desk_core.specs.declared.model.Call.{Call}

-- the call with this journal line, serial, operation and reply
abbrev pub call_of : ℕ → ℕ → Operation → Reply → Call
call_of number serial operation reply = record { number = number; serial = serial; operation = operation; reply = reply }

-- that of a request
abbrev pub call : ℕ → ℕ → Request → Reply → Call
call number serial request reply = call_of number serial (Asked request) reply

-- the lines of this place as calls, where the first line of the list has this number
abbrev pub calls_from : ℕ → ℕ → List Line → List Call
calls_from number place [] = []
calls_from number place (l ∷ ls) =
    if l.place == place then call_of number l.serial l.operation l.reply
    ∷ calls_from (number + 1) place ls else calls_from (number + 1) place ls

-- the lines that the journal has of this place, as calls
abbrev pub calls_of : ℕ → List Line → List Call
calls_of place journal = calls_from 1 place journal

-- the call that an answer to the operation with this serial adds: none where it was refused
abbrev pub gained_by : ℕ → Operation → Answer → List Call
gained_by serial operation (Entered number reply) = call_of number serial operation reply ∷ []
gained_by serial operation BookFull = []
gained_by serial operation NoMemory = []
gained_by serial operation (Refused why) = []

-- the call that an answer to the post with this serial and request adds
abbrev pub gained : ℕ → Request → Answer → List Call
gained serial request answer = gained_by serial (Asked request) answer
