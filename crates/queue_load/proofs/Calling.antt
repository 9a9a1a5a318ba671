-- What a call that was refused tells, told by another result.
use Rattle.std.proofs.Common.{◌≡◌, ◌∙◌, ap}
use Rattle.std.specs.Prelude.{Result, Err, IsErrOf}
use Rattle.flat_queue.specs.declared.error.CallError.{CallError}

-- the same refusal
pub same_refusal : {A B : Type 0} (r : Result A CallError) (error : CallError) → r ≡ Err error → (reason : CallError) → IsErrOf {T = B} (Err error) reason → IsErrOf r reason
same_refusal r error is reason e = let same : error ≡ reason = cc in is ∙ ap Err same
