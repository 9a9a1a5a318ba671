-- A journal whose serials are at most a number, after a request under a greater serial.
use Rattle.std.proofs.Common.{arith, ◌≤◌, ℕ, List, Bool, true, false}
use Rattle.std.specs.Prelude.{◌==◌, if◌then◌else◌}
use Rattle.pq_types.specs.Asked.{Request}
use Rattle.pq_types.specs.Asked.{Answer}
use Rattle.pq_types.specs.declared.answer.Answer.TheVariants.{Entered, BookFull, NoMemory, Refused}
use Rattle.pq_types.specs.Asked.{Line}
use Rattle.pq_types.specs.History.{line, last_serial, journal_after}
use Rattle.pq_types.specs.Laws.{SerialOfOneMore}

at_most : (is : Bool) (serial : ℕ) → (if is then serial else 0) ≤ serial
at_most true serial = omega arith
at_most false serial = omega arith

pub stays_below :
    SerialOfOneMore → (place here old serial : ℕ) (journal : List Line) (request : Request) (answer : Answer) → last_serial place journal ≤ old → old ≤ serial
    → last_serial place (journal_after journal here serial request answer) ≤ serial
stays_below law place here old serial journal request (Entered number reply) below up =
    omega (arith, law place journal (line here serial request reply), at_most (here == place) serial, below, up)
stays_below law place here old serial journal request BookFull below up = omega (arith, below, up)
stays_below law place here old serial journal request NoMemory below up = omega (arith, below, up)
stays_below law place here old serial journal request (Refused why) below up = omega (arith, below, up)
