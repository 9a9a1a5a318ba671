-- A handle may go to another thread.
use denote.Param.Send.{IsSend}
use Rattle.queue_c.specs.contracts.handle.Handle.{the_row}
use Rattle.queue_c.proofs.Sent.{handle_sent}

pub send : IsSend the_row
send = handle_sent
