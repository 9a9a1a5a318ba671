-- The text of a journal line spells it.
use Rattle.std.proofs.Common.{◌≡◌, ℕ, ◌<◌, ◌^◌, Bool, List, [], ◌∷◌, ◌++◌, refl, sym, subst, append_assoc, arith}
use Rattle.std.specs.Prelude.{decimal}
use Rattle.std.proofs.lemmas.Fmt.{decimal_is_IsNumeral}
use Rattle.pq_types.specs.Item.{Item}
use Rattle.pq_types.specs.Asked.{Request}
use Rattle.pq_types.specs.declared.request.Request.TheVariants.{Push, Pop, Least}
use Rattle.pq_types.specs.Asked.{Reply}
use Rattle.pq_types.specs.declared.answer.Reply.TheVariants.{Pushed, Got, Empty, Least as LeastIs}
use Rattle.pq_types.specs.Asked.{Line}
use Rattle.pq_types.specs.Asked.{Operation}
use Rattle.pq_types.specs.Operation.{Asked, ByTicket, Shuts, Remove, Move}
use Rattle.pq_types.specs.Item.{IsItemOf}
use Rattle.queue_texts.specs.ItemText.{item_text}
use Rattle.pq_types.specs.Queue.{IsProperRequestOf, IsProperReplyOf}
use Rattle.queue_texts.proofs.Items.{below_bound}
use Rattle.queue_texts.specs.Text.{reply_text}
use Rattle.queue_texts.specs.LineText.{request_text, operation_text, told_text, line_text, Leads, SpellsBoth, SpellsReply, SpellsReplyTo, AsksFirst, SaysFirst}
use Rattle.queue_texts.specs.LineText.{SpellsLine, IsOperationInRange, IsInRange, MayReplyTo, HasReplyOfItsKind}

-- a number and a space lead to what follows
leads : (n : ℕ) (rest : List ℕ) → n < 2 ^ 64 → Leads (decimal n ++ 32 ∷ rest) n rest
leads n rest small = (decimal n, refl, decimal_is_IsNumeral n small)

both : (wide : Bool) (x : Item) → IsItemOf wide x → SpellsBoth (item_text x) x.priority x.value
both wide x small = (
  decimal x.value,
  leads x.priority (decimal x.value) (below_bound wide x.priority small.0),
  decimal_is_IsNumeral x.value (below_bound wide x.value small.1),
)

reply : (wide : Bool) (r : Reply) → IsProperReplyOf wide r → SpellsReply (reply_text r) r
reply wide Pushed p = refl
reply wide (Got x) p = (item_text x, refl, both wide x p)
reply wide (LeastIs x) p = (item_text x, refl, both wide x p)
reply wide Empty p = refl

request : (wide : Bool) (q : Request) (rest : List ℕ) → IsProperRequestOf wide q → AsksFirst (request_text q ++ 32 ∷ rest) q rest
request wide (Push x) rest p = (
  decimal x.priority ++ 32 ∷ (decimal x.value ++ 32 ∷ rest),
  simp append_assoc,
  (decimal x.value ++ 32 ∷ rest, leads x.priority (decimal x.value ++ 32 ∷ rest) (below_bound wide x.priority p.0), leads x.value rest (below_bound wide x.value p.1)),
)
request wide Pop rest p = refl
request wide Least rest p = refl

-- what follows the operation, and a space where it has a reply
abbrev behind : Operation → Reply → List ℕ
behind (Asked q) r = reply_text r
behind (ByTicket t) r = reply_text r
behind Shuts r = []

operation : (wide : Bool) (o : Operation) (r : Reply) → IsOperationInRange wide o → SaysFirst (operation_text o ++ told_text o r) o (behind o r)
operation wide (Asked q) r p = request wide q (reply_text r) p
operation wide (ByTicket (Remove ticket)) r p =
    (decimal ticket ++ 32 ∷ reply_text r, simp append_assoc, leads ticket (reply_text r) p)
operation wide (ByTicket (Move ticket priority)) r p =
    let rest = reply_text r in (
      decimal ticket ++ 32 ∷ (decimal priority ++ 32 ∷ rest),
      simp append_assoc,
      (decimal priority ++ 32 ∷ rest, leads ticket (decimal priority ++ 32 ∷ rest) p.0, leads priority rest (below_bound wide priority p.1)),
    )
operation wide Shuts r p = (refl, refl)

reply_to : (wide : Bool) (o : Operation) (r : Reply) → IsProperReplyOf wide r → MayReplyTo o r → SpellsReplyTo o (behind o r) r
reply_to wide (Asked q) r p may = reply wide r p
reply_to wide (ByTicket t) r p may = reply wide r p
reply_to wide Shuts r p may = (refl, may)

-- the parts of a line's text, each behind the one before
pub regroup : (number : ℕ) (l : Line)
    → line_text number l ≡ decimal number
    ++ 32 ∷ (decimal l.place ++ 32 ∷ (decimal l.serial ++ 32 ∷ (operation_text l.operation ++ told_text l.operation l.reply)))
regroup number l = simp append_assoc

pub line_written : (wide : Bool) (number : ℕ) (l : Line) → IsInRange wide number l → HasReplyOfItsKind l → SpellsLine (line_text number l) number l
line_written wide number l h may =
    let rest = operation_text l.operation ++ told_text l.operation l.reply in
    let from_serial = decimal l.serial ++ 32 ∷ rest in
    let from_place = decimal l.place ++ 32 ∷ from_serial in
    subst (λ text. SpellsLine text number l) (sym (regroup number l)) (record {
      from_operation = rest;
      from_reply = behind l.operation l.reply;
      head = record {
        from_place = from_place;
        from_serial = from_serial;
        number_is = leads number from_place (omega (arith, h.number_range.1));
        place_is = leads l.place from_serial (omega (arith, h.place_range));
        serial_is = leads l.serial rest (omega (arith, h.serial_range.1));
      };
      operation_is = operation wide l.operation l.reply h.operation_range;
      reply_is = reply_to wide l.operation l.reply h.reply_range may;
    })
