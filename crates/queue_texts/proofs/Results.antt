-- What a result promises, once it is known which it is.
use Rattle.std.proofs.Common.{true, false, ◌≡◌, Result, Ok, Err}
use Rattle.std.specs.Prelude.{OnOk, OnErr, is_err}

pub failed : {X E : Type 0} (P : Type 0) (r : Result X E) → true ≡ is_err r → OnErr r P → P
failed P (Ok x) e h = absurd (cc)
failed P (Err x) e h = h

pub succeeded : {X E : Type 0} (P : Type 0) (r : Result X E) → false ≡ is_err r → OnOk r P → P
succeeded P (Ok x) e h = h
succeeded P (Err x) e h = absurd (cc)
