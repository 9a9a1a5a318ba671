use Rattle.queue_texts.proofs.Shapes.{ticket_replied}
use Rattle.queue_texts.proofs.line_reading.may_reply_to.Goals as goal

pub returns-in-Remove : goal.returns-in-Remove
returns-in-Remove c = ticket_replied _ _ _ c.in-Remove.is c.may_reply-in-Remove.ensures
