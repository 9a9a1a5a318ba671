-- What a pen that leads may do by itself, while its lead stays its own: it drafts, posts and looks, however
-- many words an item has.
use Rattle.pq_types.specs.Item.{Item}
use Rattle.pq_types.specs.Asked.{Request}
use Rattle.pq_types.specs.Asked.{Answer}
use Rattle.std.specs.Prelude.{ℕ, Option}
use Rattle.desk_core.specs.declared.model.PenState.{PenState}
use Rattle.announce_board.specs.ItemWords.{drafted_by}
use Rattle.announce_board.specs.Asking.{asked_by, LooksBy}
use Rattle.announce_board.specs.Tokens.{AtDesk, Leading, IsLeadOf}

abbrev pub DraftKeepsLead : Type 0
DraftKeepsLead = (words : ℕ) (pen : AtDesk) (lead : Leading) (x : Item) → IsLeadOf pen lead
    → IsLeadOf (record pen { state = drafted_by words pen.state x }) lead

abbrev pub PostKeepsLead : Type 0
PostKeepsLead =
    (words : ℕ) (pen : AtDesk) (lead : Leading) (request : Request) (now : ℕ) → IsLeadOf pen lead
    → IsLeadOf (record pen { state = asked_by words pen.state request now }) lead

abbrev pub LookKeepsLead : Type 0
LookKeepsLead =
    (words : ℕ) (pen : AtDesk) (lead : Leading) (found : Option Answer) (after : PenState) → IsLeadOf pen lead
    → LooksBy words pen.state found after
    → IsLeadOf (record pen { state = after }) lead
