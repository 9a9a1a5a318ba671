-- What an idle member knows of the closed Book.
use Rattle.std.proofs.Common.{◌≡◌, ℕ, true, List, refl}
use Rattle.pq_types.specs.Asked.{Line}
use Rattle.desk_core.specs.Calls.{calls_of}
use Rattle.desk_core.specs.Knows.{Knows}
use Rattle.desk_core.specs.Pen.{IsIdle}
use Rattle.desk_core.specs.declared.model.PenState.{PenState}
use Rattle.desk_core.specs.declared.model.Standing.{Standing}
use Rattle.desk_core.specs.declared.model.Standing.TheVariants.{Idle, Waiting}
use Rattle.announce_board.specs.Tokens.{is_idle}

-- a pen that waits for no answer is idle
idle_pen : (s : Standing) → is_idle s ≡ true → IsIdle s
idle_pen (Idle draft) h = (draft, refl)
idle_pen (Waiting request) h = absurd (cc)

pub idle_known : (room : ℕ) (p : PenState) (journal : List Line) → Knows room p journal → is_idle p.standing ≡ true → calls_of p.place journal ≡ p.mine
idle_known room p journal k idle = k.idle (idle_pen p.standing idle)
