-- What a call comes to that says how many lines are archived.
use Rattle.std.proofs.Common.{◌≡◌, ℕ, refl}
use Rattle.std.specs.Prelude.{Result, Ok, Err, IsErrOf}
use Rattle.flat_queue.specs.Members.{Joined}
use Rattle.flat_queue.specs.declared.error.ArchiveError.{ArchiveError}
use Rattle.flat_queue.specs.declared.error.ArchiveError.TheVariants.{Forgotten, NoMemory, Ahead}
use Rattle.flat_queue.specs.Settling.{SettlesArchive, SettlesBy}

-- where the journal has as many lines, it says so
pub settles_by : (archived : ℕ) (a b : Joined) (told : Result ℕ ArchiveError) → ¬ (IsErrOf told Ahead) → SettlesArchive a archived b → SettlesBy archived a told b
settles_by archived a b (Ok count) reached h = h
settles_by archived a b (Err Forgotten) reached h = h
settles_by archived a b (Err NoMemory) reached h = h
settles_by archived a b (Err Ahead) reached h = absurd (reached refl)
