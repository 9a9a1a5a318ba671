-- How a load can end without a report.
use Rattle.std.specs.Prelude.{ℕ}
use Rattle.queue_load.specs.declared.load_faults.WorkerError.{WorkerError}
use Rattle.queue_load.specs.declared.load_faults.WorkerError.TheVariants.{NoMemory as NoMemoryForPush, BookFull, GaveUp, Refused}
use Rattle.flat_queue.specs.Calling.{refusal_code}
use Rattle.queue_load.specs.declared.load_faults.LoadError.{LoadError}
use Rattle.queue_load.specs.declared.load_faults.LoadError.TheVariants.{NoMemory, NoThread, Worker}

-- the number of each reason for which a worker ends early
abbrev pub worker_code : WorkerError → ℕ
worker_code NoMemoryForPush = 9
worker_code BookFull = 10
worker_code GaveUp = 12
worker_code (Refused why) = refusal_code why

-- the number of each reason for which there is no report
abbrev pub load_code : LoadError → ℕ
load_code NoMemory = 6
load_code NoThread = 13
load_code (Worker id reason) = worker_code reason

-- the exit status where a worker ended early: memory was refused, or it could not go on
abbrev pub worker_status : WorkerError → ℕ
worker_status NoMemoryForPush = 4
worker_status BookFull = 5
worker_status GaveUp = 5
worker_status (Refused why) = 5

-- the exit status of each reason
abbrev pub load_status : LoadError → ℕ
load_status NoMemory = 4
load_status NoThread = 5
load_status (Worker id reason) = worker_status reason
