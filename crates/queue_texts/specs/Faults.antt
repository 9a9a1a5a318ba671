-- How a run can end before its script is played.
use Rattle.std.specs.Prelude.{ℕ}
use Rattle.split_core.specs.Ids.{id_code}
use Rattle.split_core.specs.Calls.{step_code}
use Rattle.queue_texts.specs.Command.{script_code}
use Rattle.line_script.specs.declared.error.RunError.{RunError}
use Rattle.line_script.specs.declared.error.RunError.TheVariants.{Refused, TooLong, NoMemory, Input, Output}
use Rattle.queue_texts.specs.declared.faults.Refusal.{Refusal}
use Rattle.queue_texts.specs.declared.faults.Refusal.TheVariants.{Command, Order, Step, LateComer, Comers}
use Rattle.queue_texts.specs.Orders.{order_code}

-- the number of each refusal of a script
abbrev pub refusal_code : Refusal → ℕ
refusal_code (Command line reason) = script_code reason
refusal_code (Order line reason) = order_code reason
refusal_code (Step line reason) = step_code reason
refusal_code (LateComer line) = 27
refusal_code (Comers reason) = id_code reason

-- the number of each ending
abbrev pub run_code : RunError Refusal → ℕ
run_code (Refused refusal) = refusal_code refusal
run_code (TooLong line) = 26
run_code NoMemory = 6
run_code Input = 30
run_code Output = 31

-- the exit status of each ending: the script is refused, memory is refused, a read or a write
-- failed
abbrev pub run_status : RunError Refusal → ℕ
run_status (Refused refusal) = 3
run_status (TooLong line) = 3
run_status NoMemory = 4
run_status Input = 6
run_status Output = 6
