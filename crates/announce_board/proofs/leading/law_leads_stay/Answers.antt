use Rattle.announce_board.proofs.Leads.{draft_keeps, post_keeps, look_keeps}
use Rattle.announce_board.proofs.leading.law_leads_stay.Goals as goal

pub returns : goal.returns
returns c = record { draft = draft_keeps; post = post_keeps; look = look_keeps }
