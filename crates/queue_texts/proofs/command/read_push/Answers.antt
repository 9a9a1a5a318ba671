use Rattle.std.proofs.Common.{Ok, Err, subst}
use Rattle.queue_texts.specs.declared.number.NumberError.TheVariants.{NotANumber, OutOfRange}
use Rattle.queue_texts.specs.ItemText.{IsReadAs}
use Rattle.queue_texts.proofs.Commands.{the_push}
use Rattle.queue_texts.proofs.command.read_push.Goals as goal

pub returns-in-Ok : goal.returns-in-Ok
returns-in-Ok g c = the_push g.P.Part.wide _ (Ok c.in-Ok.item) c.in-Ok.ensures

pub returns-in-Err-NotANumber : goal.returns-in-Err-NotANumber
returns-in-Err-NotANumber g c =
    the_push g.P.Part.wide c.args.text.now (Err NotANumber)
    (subst (λ e. IsReadAs g.P.Part.wide c.args.text.now (Err e)) c.in-Err-NotANumber.field-0-is c.in-Err-NotANumber.ensures)

pub returns-in-Err-OutOfRange : goal.returns-in-Err-OutOfRange
returns-in-Err-OutOfRange g c =
    the_push g.P.Part.wide c.args.text.now (Err OutOfRange)
    (subst (λ e. IsReadAs g.P.Part.wide c.args.text.now (Err e)) c.in-Err-OutOfRange.field-0-is c.in-Err-OutOfRange.ensures)
