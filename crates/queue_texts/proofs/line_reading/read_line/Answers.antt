use Rattle.std.proofs.Common.{Ok, Err}
use Rattle.queue_texts.specs.declared.line_reading.LineError.TheVariants.{UnknownWord, OutOfRange, NoSuchReply}
use Rattle.queue_texts.specs.LineText.{IsNoLineFor}
use Rattle.queue_texts.proofs.Shapes.{IsReadAs, every_line, every_refusal, no_such_reply, the_line}
use Rattle.queue_texts.proofs.line_reading.read_line.Goals as goal

pub returns-in_default-clause-every_line : goal.returns-in_default-clause-every_line
returns-in_default-clause-every_line g c = every_line g.P.Part.wide _ (Err UnknownWord) c.in_default.ensures.none

pub returns-in_default-clause-every_refusal : goal.returns-in_default-clause-every_refusal
returns-in_default-clause-every_refusal g c = every_refusal g.P.Part.wide _ (Err UnknownWord) c.in_default.ensures.none

-- the shape that is found
found : (g : _) (c : goal.In_default-line_in_range g) → IsNoLineFor g.P.Part.wide c.args.text.now OutOfRange
found g c =
    let shape = c.in-Some.ensures.some in
    (shape.0, shape.1, shape.2, c.in_default-line_in_range.ensures.none shape.0 shape.1 shape.3)

pub returns-in_default-line_in_range-clause-every_line : goal.returns-in_default-line_in_range-clause-every_line
returns-in_default-line_in_range-clause-every_line g c = every_line g.P.Part.wide _ (Err OutOfRange) (found g c)

pub returns-in_default-line_in_range-clause-every_refusal : goal.returns-in_default-line_in_range-clause-every_refusal
returns-in_default-line_in_range-clause-every_refusal g c = every_refusal g.P.Part.wide _ (Err OutOfRange) (found g c)

told : (g : _) (c : goal.Then-not-may_reply_to g) → IsNoLineFor g.P.Part.wide c.args.text.now NoSuchReply
told g c =
    no_such_reply g.P.Part.wide _ c.in-Some.shape c.in-Some-line_in_range.found _ c.in-Some.ensures.some c.in-Some-line_in_range.ensures.some c.may_reply_to.ensures
    c.if-not-may_reply_to.true

pub returns-then-not-may_reply_to-clause-err : goal.returns-then-not-may_reply_to-clause-err
returns-then-not-may_reply_to-clause-err g c = told g c

pub returns-then-not-may_reply_to-clause-every_line : goal.returns-then-not-may_reply_to-clause-every_line
returns-then-not-may_reply_to-clause-every_line g c = every_line g.P.Part.wide _ (Err NoSuchReply) (told g c)

pub returns-then-not-may_reply_to-clause-every_refusal : goal.returns-then-not-may_reply_to-clause-every_refusal
returns-then-not-may_reply_to-clause-every_refusal g c = every_refusal g.P.Part.wide _ (Err NoSuchReply) (told g c)

read : (g : _) (c : goal.Else-not-may_reply_to g) → IsReadAs g.P.Part.wide c.args.text.now (Ok c.in-Some-line_in_range.found)
read g c =
    the_line g.P.Part.wide _ c.in-Some.shape c.in-Some-line_in_range.found _ c.in-Some.ensures.some c.in-Some-line_in_range.ensures.some c.may_reply_to.ensures
    c.if-not-may_reply_to.false

pub returns-clause-ok : goal.returns-clause-ok
returns-clause-ok g c = read g c

pub returns-clause-every_line : goal.returns-clause-every_line
returns-clause-every_line g c = every_line g.P.Part.wide _ _ (read g c)

pub returns-clause-every_refusal : goal.returns-clause-every_refusal
returns-clause-every_refusal g c = every_refusal g.P.Part.wide _ _ (read g c)
