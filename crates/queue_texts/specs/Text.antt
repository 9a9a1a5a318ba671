-- The texts of answers, a line each.
use Rattle.std.specs.Prelude.{ℕ, List, ◌++◌, codes, decimal}
use Rattle.queue_texts.specs.ItemText.{item_text}
use Rattle.pq_types.specs.Asked.{Reply}
use Rattle.pq_types.specs.declared.answer.Reply.TheVariants.{Pushed, Got, Empty, Least}
use Rattle.pq_types.specs.Asked.{Answer}
use Rattle.pq_types.specs.declared.answer.Answer.TheVariants.{Entered, BookFull, NoMemory, Refused}
use Rattle.pq_types.specs.declared.answer.Refusal.TheVariants.{Shut, Unarchived, Full}

-- what a reply says
abbrev pub reply_text : Reply → List ℕ
reply_text Pushed = codes "pushed"
reply_text (Got item) = codes "got " ++ item_text item
reply_text (Least item) = codes "least " ++ item_text item
reply_text Empty = codes "empty"

-- the line of text of an answer: the journal line and the reply, or why the request has none
abbrev pub answer_text : Answer → List ℕ
answer_text (Entered line reply) = decimal line ++ codes " " ++ reply_text reply ++ codes "\n"
answer_text BookFull = codes "book full\n"
answer_text NoMemory = codes "no memory\n"
answer_text (Refused Shut) = codes "queue shut\n"
answer_text (Refused Unarchived) = codes "unarchived\n"
answer_text (Refused Full) = codes "queue full\n"
