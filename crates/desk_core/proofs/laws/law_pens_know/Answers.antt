use Rattle.desk_core.proofs.Clauses.{leaders_know, home_is_known}
use Rattle.desk_core.proofs.Replies.{calls_have_replies}
use Rattle.desk_core.proofs.laws.law_pens_know.Goals as goal

pub returns : goal.returns
returns c = record { leaders = leaders_know; home = home_is_known; replies = calls_have_replies }
