-- What slow readers and writers hold, and when they fail.
use Rattle.std.specs.Prelude.{ℕ, ◌≡◌, List}
use Rattle.test_aids.specs.declared.streams.SlowReader.{SlowReader}
use Rattle.test_aids.specs.declared.streams.SlowWriter.{SlowWriter}

-- the bytes that a reader has left to give
abbrev pub bytes_left : SlowReader → List ℕ
bytes_left reader = reader.bytes.now

-- the next read is the one that fails
abbrev pub FailsNext : SlowReader → Type 0
FailsNext reader = reader.until_fault ≡ 1

-- the bytes that a writer took
abbrev pub bytes_taken : SlowWriter → List ℕ
bytes_taken writer = writer.bytes.items

-- the next write is the one that meets the fault
abbrev pub IsFaultNext : SlowWriter → Type 0
IsFaultNext writer = writer.until_fault ≡ 1
