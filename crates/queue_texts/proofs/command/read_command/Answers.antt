use Rattle.queue_texts.specs.Command.{IsTheCommand}
use Rattle.queue_texts.proofs.Commands.{command_ok, command_err}
use Rattle.queue_texts.proofs.command.read_command.Goals as goal

-- the line is that of a push
the_line : (g : _) (c : goal.After-read_push g) → IsTheCommand g.P.Part.wide c.args.line.now c.read_push.result
the_line g c = c.read_push.ensures c.args.line.now c.in-Some.ensures.some

pub returns-in-Some-clause-ok : goal.returns-in-Some-clause-ok
returns-in-Some-clause-ok g c = command_ok g.P.Part.wide _ _ (the_line g c)

pub returns-in-Some-clause-err : goal.returns-in-Some-clause-err
returns-in-Some-clause-err g c = command_err g.P.Part.wide _ _ (the_line g c)

pub returns-in-Some-clause-every_request : goal.returns-in-Some-clause-every_request
returns-in-Some-clause-every_request g c = (the_line g c).spells

pub returns-in-Some-clause-every_refusal : goal.returns-in-Some-clause-every_refusal
returns-in-Some-clause-every_refusal g c = (the_line g c).refused
