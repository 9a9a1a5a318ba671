-- A read into the front of a buffer.
use Rattle.std.proofs.Common.{ℕ, ◌<◌, List, ◌++◌, length, Option, Result, Ok, Err}
use Rattle.std.proofs.lemmas.List.{take-append-le}
use Rattle.std.specs.Io.{ReadsAtMost}
use Rattle.std.specs.Io.KnownBytes.{ReadConsumes}

-- what a read into the front of a buffer consumed is what it consumed as a read into the whole of
-- it
pub ReadConsumes-front : {E : Type 0} (old new : Option (List ℕ)) (r : Result ℕ E) (front rest : List ℕ) → ReadsAtMost r front
    → (0 < length (front ++ rest) → 0 < length front) → ReadConsumes old new r front → ReadConsumes old new r (front ++ rest)
ReadConsumes-front old new (Ok n) front rest at_most fills h =
    ((rw (take-append-le n front rest at_most.0) h.0), λ is_zero room. h.1 is_zero (fills room))
ReadConsumes-front old new (Err e) front rest at_most fills h = h
