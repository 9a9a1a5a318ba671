-- What a pen can tell of the order of its calls and all that it knew: the line of a call is behind the whole journal of
-- each release that its pen made before the call began, and of each note that it wrote or heard.
use Rattle.std.specs.Prelude.{◌≡◌, ℕ, ◌<◌, List, length}
use Rattle.pq_types.specs.Asked.{Request}
use Rattle.pq_types.specs.declared.control.Outcome.{Outcome}
use Rattle.pq_types.specs.declared.control.Notice.TheVariants.{Entered}
use Rattle.pq_types.specs.declared.control.Control.TheVariants.{Answered}
use Rattle.pq_types.specs.Asked.{Line}
use Rattle.desk_core.specs.Clauses.{HasNo}
use Rattle.desk_core.specs.Desk.{Desk, Has}
use Rattle.desk_core.specs.Knows.{NoneAbove}
use Rattle.desk_core.specs.Rule.{StartsWith, MeetsRule}
use Rattle.desk_core.specs.declared.model.Standing.TheVariants.{Waiting}
use Rattle.desk_core.specs.declared.model.PenState.{PenState}

-- the journal that a pen knows has no line of its place with a serial above its last, so none of its next call
abbrev pub NextIsUnknown : Type 0
NextIsUnknown = (d : Desk) (seat : ℕ) (p : PenState) → MeetsRule d → Has d.views seat p → NoneAbove p.place p.posts p.known

-- the line of this number is behind each beginning of what the pen knows in which its last call has no line
abbrev pub IsBeyond : PenState → ℕ → Type 0
IsBeyond p number = (knew : List Line) → StartsWith p.known knew → HasNo knew p.place p.posts → length knew < number

-- So is that of the entered answer at a pen which waits: it is behind all that the pen knew when it posted, whatever
-- rounds it has made meanwhile.
abbrev pub AnswersAreBeyond : Type 0
AnswersAreBeyond =
    (d : Desk) (seat : ℕ) (p : PenState) (request : Request) (number : ℕ) (outcome : Outcome) → MeetsRule d → Has d.views seat p
    → p.standing ≡ Waiting request → d.control p.place ≡ Answered (Entered number outcome) → IsBeyond p number
