-- What is asked, replied, answered and noted, of items of any width: contracts see one type of each.
use Rattle.std.specs.Prelude.{ℕ}
use Rattle.pq_types.specs.Item.{Item}
use Rattle.pq_types.specs.declared.request.Request.{Request as RequestOf}
use Rattle.pq_types.specs.declared.answer.Reply.{Reply as ReplyOf}
use Rattle.pq_types.specs.declared.answer.Answer.{Answer as AnswerOf}
use Rattle.pq_types.specs.declared.mail.Mail.{Mail as MailOf}
use Rattle.pq_types.specs.Operation.{OperationOf}

abbrev pub Request : Type 0
Request = RequestOf Item

abbrev pub Reply : Type 0
Reply = ReplyOf Item

abbrev pub Answer : Type 0
Answer = AnswerOf Item

abbrev pub Operation : Type 0
Operation = OperationOf Item

-- a line of the journal as contracts see it, whatever the width of its items
pub record Line : Type 0 where
  pub serial : ℕ
  pub operation : Operation
  pub reply : Reply
  pub place : ℕ

abbrev pub Mail : Type 0
Mail = MailOf Item
