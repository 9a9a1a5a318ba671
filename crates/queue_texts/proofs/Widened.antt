-- A journal of narrow items is one of wide items.
use Rattle.std.proofs.Common.{ℕ, ◌+◌, true, false, inl, inr, List, [], ◌∷◌, arith}
use Rattle.pq_types.specs.Item.{Item, IsItemOf}
use Rattle.pq_types.specs.Asked.{Request, Reply, Line}
use Rattle.pq_types.specs.Asked.{Operation}
use Rattle.pq_types.specs.Operation.{Asked, ByTicket, Shuts, Remove, Move}
use Rattle.pq_types.specs.declared.request.Request.TheVariants.{Push, Pop, Least}
use Rattle.pq_types.specs.declared.answer.Reply.TheVariants.{Pushed, Got, Empty, Least as LeastIs}
use Rattle.pq_types.specs.Queue.{IsProperRequestOf, IsProperReplyOf}
use Rattle.line_script.specs.Lines.{without_return}
use Rattle.queue_texts.specs.LineText.{IsLineText, IsOperationInRange}
use Rattle.queue_texts.specs.Audit.{NarrowIsWide}

item_too : (x : Item) → IsItemOf false x → IsItemOf true x
item_too x (p, v) = (omega (arith, p), omega (arith, v))

request_too : (q : Request) → IsProperRequestOf false q → IsProperRequestOf true q
request_too (Push x) h = item_too x h
request_too Pop h = tt
request_too Least h = tt

operation_too : (o : Operation) → IsOperationInRange false o → IsOperationInRange true o
operation_too (Asked q) h = request_too q h
operation_too (ByTicket (Remove ticket)) h = h
operation_too (ByTicket (Move ticket priority)) (t, p) = (t, omega (arith, p))
operation_too Shuts h = tt

reply_too : (r : Reply) → IsProperReplyOf false r → IsProperReplyOf true r
reply_too Pushed h = tt
reply_too (Got x) h = item_too x h
reply_too (LeastIs x) h = item_too x h
reply_too Empty h = tt

line_too : (text : List ℕ) (n : ℕ) (l : Line) → IsLineText false text n l → IsLineText true text n l
line_too text n l (spells, range, may) = (
  spells,
  record {
    number_range = range.number_range;
    place_range = range.place_range;
    serial_range = range.serial_range;
    operation_range = operation_too l.operation range.operation_range;
    reply_range = reply_too l.reply range.reply_range;
  },
  may,
)

pub narrow_is_wide : NarrowIsWide
narrow_is_wide n [] journal h = h
narrow_is_wide n (text ∷ texts) journal (short, inl (none, h)) = (short, inl (none, narrow_is_wide n texts journal h))
narrow_is_wide n (text ∷ texts) journal (short, inr (l, rest, filled, is, line, h)) =
    (short, inr (l, rest, filled, is, line_too (without_return text) n l line, narrow_is_wide (n + 1) texts rest h))
