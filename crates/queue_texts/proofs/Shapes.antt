-- What the reader of a journal line finds, step by step, is what the text spells.
use Rattle.std.proofs.Common.{◌≡◌, ◌↔◌, ◌⊎◌, inl, inr, ◌++◌, IsTrue, Bool, true, false, ℕ, List, [], get_or, codes, Option, Some, None, IfNone}
use Rattle.std.proofs.Common.{Result, Ok, Err, refl, sym, ◌∙◌, ap, subst, arith}
use Rattle.std.proofs.lemmas.List.{append_cancel_left}
use Rattle.std.specs.Str.Parse.{IsNumeral, digits_value}
use Rattle.pq_types.specs.Item.{Item}
use Rattle.pq_types.specs.Asked.{Request}
use Rattle.pq_types.specs.declared.request.Request.TheVariants.{Push, Pop, Least}
use Rattle.pq_types.specs.Asked.{Reply}
use Rattle.pq_types.specs.declared.answer.Reply.TheVariants.{Pushed, Got, Empty, Least as LeastIs}
use Rattle.pq_types.specs.declared.control.Kind.{Kind}
use Rattle.pq_types.specs.declared.control.Kind.TheVariants as kind
use Rattle.pq_types.specs.declared.control.Outcome.{Outcome}
use Rattle.pq_types.specs.declared.control.Outcome.TheVariants as outcome
use Rattle.pq_types.specs.Asked.{Line}
use Rattle.pq_types.specs.Asked.{Operation}
use Rattle.pq_types.specs.Operation.{Asked, ByTicket, Shuts, Remove, Move}
use Rattle.queue_texts.specs.declared.line_reading.LineError.{LineError}
use Rattle.queue_texts.specs.declared.line_reading.LineError.TheVariants.{UnknownWord, OutOfRange, NoSuchReply}
use Rattle.queue_texts.specs.declared.line_reading.NumberedLine.{NumberedLine}
use Rattle.queue_texts.specs.declared.line_reading.Parts.{Parts}
use Rattle.queue_texts.specs.declared.line_reading.Named.{Named}
use Rattle.queue_texts.specs.declared.line_reading.Named.TheVariants as named
use Rattle.queue_texts.specs.declared.line_reading.Shape.{Shape}
use Rattle.pq_types.specs.Item.{item, IsItemOf}
use Rattle.pq_types.specs.Queue.{IsProperRequestOf, IsProperReplyOf}
use Rattle.queue_texts.specs.Command.{PushesText}
use Rattle.pq_types.specs.History.{line_of}
use Rattle.pq_types.specs.Control.{kind_of, outcome_of, request_with, reply_with}
use Rattle.queue_texts.specs.LineText.{Leads, LeadsBoth, LeadsAll, SpellsBoth, SpellsReply, SpellsReplyTo, AsksFirst, SaysFirst, SpellsLine, IsInRange}
use Rattle.queue_texts.specs.LineText.{MayReply, MayReplyTo, HasReplyOfItsKind, IsLineText, IsNoLineFor, numbered}
use Rattle.queue_texts.specs.LineShape.{capped, TellsItem, TellsNone, AsksNone, AreParts, AreNone, HasReply, HasRequest, HasOperation}
use Rattle.queue_texts.specs.LineShape.{HasShape}
use Rattle.queue_texts.proofs.Lines.{leads_once, leads_all_once, no_removal, no_move, no_both, says_once, line_once}

pub if_none : {X : Type 0} (P : Type 0) (r : Option X) → r ≡ None → P → IfNone r P
if_none P (Some x) e h = absurd (cc)
if_none P None e h = h

-- behind its first number the text does not go on with one
pub no_second : (text a : List ℕ) (m : ℕ) → Leads text m a → ((n : ℕ) (rest : List ℕ) → ¬ (Leads a n rest)) → (p q : ℕ) (rest : List ℕ)
    → ¬ (LeadsBoth text p q rest)
no_second text a m l none p q rest (b, k, more) =
    let one = leads_once text b a p m k l in
    none q rest (subst (λ t. Leads t q rest) one.1 more)

pub both_led : (text b : List ℕ) (parts : Parts) → (m : ℕ) × (n : ℕ) × LeadsBoth text m n b × (parts.priority ≡ capped m) × (parts.value ≡ capped n)
    → (x : Item) × LeadsBoth text x.priority x.value b × AreParts parts x
both_led text b parts (m, n, l, e, f) = (item m n, l, (e, f))

pub no_last : (text a : List ℕ) (m : ℕ) → Leads text m a → ¬ (IsNumeral 10 a) → (x : Item) → ¬ (SpellsBoth text x.priority x.value)
no_last text a m l none x (b, k, s) =
    let one = leads_once text b a x.priority m k l in
    none (subst (λ t. IsNumeral 10 t) one.1 s.0)

pub both_spelled : (text a : List ℕ) (parts : Parts) → (m : ℕ) × Leads text m a × (parts.priority ≡ capped m) → IsNumeral 10 a
    × (parts.value ≡ capped (digits_value 10 a)) → (x : Item) × SpellsBoth text x.priority x.value × AreParts parts x
both_spelled text a parts (m, l, e) (s, f) = (item m (digits_value 10 a), (a, l, (s, refl)), (e, f))

pub no_place : (text a : List ℕ) (m : ℕ) → Leads text m a → ((n : ℕ) (rest : List ℕ) → ¬ (Leads a n rest)) → (n p s : ℕ) (rest : List ℕ)
    → ¬ (LeadsAll text n p s rest)
no_place text a m l none n p s rest h =
    let one = leads_once text h.from_place a n m h.number_is l in
    none p h.from_serial (subst (λ t. Leads t p h.from_serial) one.1 h.place_is)

pub no_serial : (text a b : List ℕ) (m q : ℕ) → Leads text m a → Leads a q b → ((n : ℕ) (rest : List ℕ) → ¬ (Leads b n rest))
    → (n p s : ℕ) (rest : List ℕ) → ¬ (LeadsAll text n p s rest)
no_serial text a b m q l k none n p s rest h =
    let one = leads_once text h.from_place a n m h.number_is l in
    let two = leads_once a h.from_serial b p q (subst (λ t. Leads t p h.from_serial) one.1 h.place_is) k in
    none s rest (subst (λ t. Leads t s rest) two.1 h.serial_is)

-- what a text tells begins with a byte of its own
first : (a b : List ℕ) → a ≡ b → get_or a 0 0 ≡ get_or b 0 0
first a b e = ap (λ l. get_or l 0 0) e

-- no reply, where no item follows its word
pub no_told_item : (text rest : List ℕ) (o : Outcome) → TellsItem text o rest → ((x : Item) → ¬ (SpellsBoth rest x.priority x.value))
    → (r : Reply) → ¬ (SpellsReply text r)
no_told_item text rest outcome.Pushed e none r h = e
no_told_item text rest outcome.Got e none Pushed f = omega (arith, first _ _ (sym e ∙ f))
no_told_item text rest outcome.Got e none (Got y) (j, f, k) =
    none y (subst (λ t. SpellsBoth t y.priority y.value) (append_cancel_left (codes "got ") j rest (sym f ∙ e)) k)
no_told_item text rest outcome.Got e none (LeastIs y) (j, f, k) = omega (arith, first _ _ (sym e ∙ f))
no_told_item text rest outcome.Got e none Empty f = omega (arith, first _ _ (sym e ∙ f))
no_told_item text rest outcome.Least e none Pushed f = omega (arith, first _ _ (sym e ∙ f))
no_told_item text rest outcome.Least e none (Got y) (j, f, k) = omega (arith, first _ _ (sym e ∙ f))
no_told_item text rest outcome.Least e none (LeastIs y) (j, f, k) =
    none y (subst (λ t. SpellsBoth t y.priority y.value) (append_cancel_left (codes "least ") j rest (sym f ∙ e)) k)
no_told_item text rest outcome.Least e none Empty f = omega (arith, first _ _ (sym e ∙ f))
no_told_item text rest outcome.Empty e none r h = e

pub item_told : (text rest : List ℕ) (o : Outcome) (parts : Parts) → TellsItem text o rest → (x : Item)
    × SpellsBoth rest x.priority x.value × AreParts parts x → (r : Reply) × SpellsReply text r × HasReply o parts r
item_told text rest outcome.Pushed parts e found = absurd e
item_told text rest outcome.Got parts e (x, s, a) = (Got x, (rest, e, s), (refl, a))
item_told text rest outcome.Least parts e (x, s, a) = (LeastIs x, (rest, e, s), (refl, a))
item_told text rest outcome.Empty parts e found = absurd e

-- no reply of either kind
pub no_reply : (text : List ℕ) → ((o : Outcome) (rest : List ℕ) → ¬ (TellsItem text o rest)) → ((o : Outcome) → ¬ (TellsNone text o))
    → (r : Reply) → ¬ (SpellsReply text r)
no_reply text no_item none Pushed f = none outcome.Pushed f
no_reply text no_item none (Got y) (j, f, k) = no_item outcome.Got j f
no_reply text no_item none (LeastIs y) (j, f, k) = no_item outcome.Least j f
no_reply text no_item none Empty f = none outcome.Empty f

second : (a b : List ℕ) → a ≡ b → get_or a 1 0 ≡ get_or b 1 0
second a b e = ap (λ l. get_or l 1 0) e

-- no request, where no item follows `push `
pub no_pushed_item : (text item : List ℕ) → PushesText text item
    → ((x : Item) (rest : List ℕ) → ¬ (LeadsBoth item x.priority x.value rest)) → (q : Request) (rest : List ℕ) → ¬ (AsksFirst text q rest)
no_pushed_item text item e none (Push x) rest (j, f, k) =
    none x rest (subst (λ t. LeadsBoth t x.priority x.value rest) (append_cancel_left (codes "push ") j item (sym f ∙ e)) k)
no_pushed_item text item e none Pop rest f = omega (arith, second _ _ (sym e ∙ f))
no_pushed_item text item e none Least rest f = omega (arith, second _ _ (sym e ∙ f))

pub item_pushed : (text item rest : List ℕ) (parts : Parts) → PushesText text item → (x : Item) × LeadsBoth item x.priority x.value rest
    × AreParts parts x → (q : Request) × AsksFirst text q rest × HasRequest kind.Push parts q
item_pushed text item rest parts e (x, l, a) = (Push x, (item, e, l), (refl, a))

pub no_request : (text : List ℕ) → ((item : List ℕ) → ¬ (PushesText text item)) → ((k : Kind) (rest : List ℕ) → ¬ (AsksNone text k rest))
    → (q : Request) (rest : List ℕ) → ¬ (AsksFirst text q rest)
no_request text no_push none (Push x) rest (j, f, k) = no_push j f
no_request text no_push none Pop rest f = none kind.Pop rest f
no_request text no_push none Least rest f = none kind.Least rest f

-- the text says that this ticket's item is removed
pub removal_said : (text number rest : List ℕ) (n : ℕ) → text ≡ codes "remove " ++ number → (ticket : ℕ) × Leads number ticket rest × (n ≡ capped ticket)
    → (o : Operation) × SaysFirst text o rest × HasOperation (named.Remove n) o
removal_said text number rest n e (ticket, l, c) = (ByTicket (Remove ticket), (number, e, l), c)

-- no operation, where no number follows `remove `
pub no_ticket : (text number : List ℕ) → text ≡ codes "remove " ++ number → ((n : ℕ) (rest : List ℕ) → ¬ (Leads number n rest))
    → (o : Operation) (rest : List ℕ) → ¬ (SaysFirst text o rest)
no_ticket text number e none (Asked q) rest asked = no_removal text number rest q e asked
no_ticket text number e none (ByTicket (Remove ticket)) rest (number', f, l) =
    none ticket rest (subst (λ t. Leads t ticket rest) (append_cancel_left (codes "remove ") number' number (sym f ∙ e)) l)
no_ticket text number e none (ByTicket (Move ticket priority)) rest (numbers, f, l) = no_both text number numbers e f
no_ticket text number e none Shuts rest (f, nothing) = omega (arith, first _ _ (sym e ∙ f))

-- the text says that this ticket's item is moved to this priority
pub move_said : (text numbers rest : List ℕ) (t p : ℕ) → text ≡ codes "move " ++ numbers
    → (ticket : ℕ) × (priority : ℕ) × LeadsBoth numbers ticket priority rest × (t ≡ capped ticket) × (p ≡ capped priority)
    → (o : Operation) × SaysFirst text o rest × HasOperation (named.Move t p) o
move_said text numbers rest t p e (ticket, priority, l, c, d) = (ByTicket (Move ticket priority), (numbers, e, l), (c, d))

-- no operation, where no two numbers follow `move `
pub no_priority : (text numbers : List ℕ) → text ≡ codes "move " ++ numbers → ((m n : ℕ) (rest : List ℕ) → ¬ (LeadsBoth numbers m n rest))
    → (o : Operation) (rest : List ℕ) → ¬ (SaysFirst text o rest)
no_priority text numbers e none (Asked q) rest asked = no_move text numbers rest q e asked
no_priority text numbers e none (ByTicket (Remove ticket)) rest (number, f, l) = no_both text number numbers f e
no_priority text numbers e none (ByTicket (Move ticket priority)) rest (numbers', f, l) =
    none ticket priority rest
    (subst (λ t. LeadsBoth t ticket priority rest) (append_cancel_left (codes "move ") numbers' numbers (sym f ∙ e)) l)
no_priority text numbers e none Shuts rest (f, nothing) = omega (arith, first _ _ (sym e ∙ f))

-- the text says that the queue is shut
pub shut_said : (text rest : List ℕ) → (text ≡ codes "shut") × (rest ≡ []) → (o : Operation) × SaysFirst text o rest × HasOperation named.Shut o
shut_said text rest h = (Shuts, h, tt)

pub request_said : (text rest : List ℕ) (k : Kind) (parts : Parts) → (q : Request) × AsksFirst text q rest × HasRequest k parts q
    → (o : Operation) × SaysFirst text o rest × HasOperation (named.Asked k parts) o
request_said text rest k parts (q, asked, has) = (Asked q, asked, has)

pub no_operation : (text : List ℕ) → ((number : List ℕ) → ¬ (text ≡ codes "remove " ++ number))
    → ((numbers : List ℕ) → ¬ (text ≡ codes "move " ++ numbers)) → ¬ (text ≡ codes "shut")
    → ((q : Request) (rest : List ℕ) → ¬ (AsksFirst text q rest)) → (o : Operation) (rest : List ℕ) → ¬ (SaysFirst text o rest)
no_operation text unremoved unmoved unshut none (Asked q) rest asked = none q rest asked
no_operation text unremoved unmoved unshut none (ByTicket (Remove ticket)) rest (number, e, l) = unremoved number e
no_operation text unremoved unmoved unshut none (ByTicket (Move ticket priority)) rest (numbers, e, l) = unmoved numbers e
no_operation text unremoved unmoved unshut none Shuts rest (e, nothing) = unshut e

-- a text whose first words are none of a line's spells none
pub no_line_asked : (text a : List ℕ) → (n : ℕ) × (p : ℕ) × (s : ℕ) × LeadsAll text n p s a
    → ((o : Operation) (rest : List ℕ) → ¬ (SaysFirst a o rest)) → (m : ℕ) (l : Line) → ¬ (SpellsLine text m l)
no_line_asked text a (n, p, s, led) none m l h =
    let one = leads_all_once text h.from_operation a m l.place l.serial n p s h.head led in
    none l.operation h.from_reply (subst (λ t. SaysFirst t l.operation h.from_reply) one.3 h.operation_is)

-- the one reply of a shut stands where nothing follows it
pub shut_told : (o : Operation) → HasOperation named.Shut o → (text : List ℕ) (parts : Parts) → text ≡ [] → AreNone parts
    → (r : Reply) × SpellsReplyTo o text r × HasReply outcome.Empty parts r
shut_told (Asked q) has text parts e none = absurd has
shut_told (ByTicket t) has text parts e none = absurd has
shut_told Shuts has text parts e none = (Empty, (e, refl), (refl, none))

pub no_line_told : (text a b : List ℕ) (s : Named) → (n : ℕ) × (p : ℕ) × (q : ℕ) × LeadsAll text n p q a → (o : Operation) × SaysFirst a o b × HasOperation s o
    → ((o : Operation) → HasOperation s o → (r : Reply) → ¬ (SpellsReplyTo o b r)) → (m : ℕ) (l : Line) → ¬ (SpellsLine text m l)
no_line_told text a b s (n, p, q, led) (o, said, has) none m l h =
    let one = leads_all_once text h.from_operation a m l.place l.serial n p q h.head led in
    let two = says_once a h.from_reply b l.operation o (subst (λ t. SaysFirst t l.operation h.from_reply) one.3 h.operation_is) said in
    none o has l.reply (subst (λ x. SpellsReplyTo x b l.reply) two.0 (subst (λ t. SpellsReplyTo l.operation t l.reply) two.1 h.reply_is))

pub line_spelled : (text a b : List ℕ) (s : Shape) (n p q : ℕ) → LeadsAll text n p q a → s.number ≡ capped n → s.place ≡ capped p
    → s.serial ≡ capped q → (x : Operation) × SaysFirst a x b × HasOperation s.named x
    → ((x : Operation) → HasOperation s.named x → (r : Reply) × SpellsReplyTo x b r × HasReply s.outcome s.told r)
    → (m : ℕ) × (l : Line) × SpellsLine text m l × HasShape s m l
line_spelled text a b s n p q led e f g (x, said, has) replies =
    let reply = replies x has in (
      n,
      line_of p q x reply.0,
      record { from_operation = a; from_reply = b; head = led; operation_is = said; reply_is = reply.1 },
      record { number_is = e; place_is = f; serial_is = g; operation_is = has; reply_is = reply.2 },
    )

-- the request and the reply of a line in range
pub request_is : (k : Kind) (parts : Parts) (x : Item) (q : Request) → HasRequest k parts q → ((y : Item) → AreParts parts y → x ≡ y)
    → request_with k x ≡ q
request_is k parts x (Push y) (e, a) f = ap (λ z. request_with z x) e ∙ ap (λ z. Push z) (f y a)
request_is k parts x Pop (e, a) f = ap (λ z. request_with z x) e
request_is k parts x Least (e, a) f = ap (λ z. request_with z x) e

pub reply_is : (o : Outcome) (parts : Parts) (x : Item) (r : Reply) → HasReply o parts r → ((y : Item) → AreParts parts y → x ≡ y)
    → reply_with o x ≡ r
reply_is o parts x Pushed (e, a) f = ap (λ z. reply_with z x) e
reply_is o parts x (Got y) (e, a) f = ap (λ z. reply_with z x) e ∙ ap (λ z. Got z) (f y a)
reply_is o parts x (LeastIs y) (e, a) f = ap (λ z. reply_with z x) e ∙ ap (λ z. LeastIs z) (f y a)
reply_is o parts x Empty (e, a) f = ap (λ z. reply_with z x) e

pub request_range : (wide : Bool) (k : Kind) (parts : Parts) (x : Item) (q : Request) → HasRequest k parts q → ((y : Item) → AreParts parts y → x ≡ y)
    → IsItemOf wide x → IsProperRequestOf wide q
request_range wide k parts x (Push y) (e, a) f i = subst (IsItemOf wide) (f y a) i
request_range wide k parts x Pop (e, a) f i = tt
request_range wide k parts x Least (e, a) f i = tt

pub reply_range : (wide : Bool) (o : Outcome) (parts : Parts) (x : Item) (r : Reply) → HasReply o parts r → ((y : Item) → AreParts parts y → x ≡ y)
    → IsItemOf wide x → IsProperReplyOf wide r
reply_range wide o parts x Pushed (e, a) f i = tt
reply_range wide o parts x (Got y) (e, a) f i = subst (IsItemOf wide) (f y a) i
reply_range wide o parts x (LeastIs y) (e, a) f i = subst (IsItemOf wide) (f y a) i
reply_range wide o parts x Empty (e, a) f i = tt

pub kind_is : (k : Kind) (parts : Parts) (q : Request) → HasRequest k parts q → kind_of q ≡ k
kind_is k parts (Push y) (e, a) = sym e
kind_is k parts Pop (e, a) = sym e
kind_is k parts Least (e, a) = sym e

pub outcome_is : (o : Outcome) (parts : Parts) (r : Reply) → HasReply o parts r → outcome_of r ≡ o
outcome_is o parts Pushed (e, a) = sym e
outcome_is o parts (Got y) (e, a) = sym e
outcome_is o parts (LeastIs y) (e, a) = sym e
outcome_is o parts Empty (e, a) = sym e

-- what a text is read as
abbrev pub IsReadAs : {P : Type 0} → Bool → List ℕ → Result (NumberedLine P) LineError → Type 0
IsReadAs wide text (Ok found) = IsLineText wide text found.number found.line
IsReadAs wide text (Err e) = IsNoLineFor wide text e

-- the same line, where both are spelled
one_line : (P : ℕ → Line → Type 0) (text : List ℕ) (m n : ℕ) (l k : Line) → SpellsLine text m l → SpellsLine text n k → P m l → P n k
one_line P text m n l k h g p =
    let same = line_once text m n l k h g in
    subst (λ z. P n z) same.1 (subst (λ z. P z l) same.0 p)

-- a text is read in one way
pub read_once : {P : Type 0} (wide : Bool) (text : List ℕ) (r s : Result (NumberedLine P) LineError) → IsReadAs wide text r → IsReadAs wide text s → r ≡ s
read_once wide text (Ok x) (Ok y) h g =
    let same = line_once text x.number y.number x.line y.line h.0 g.0 in
    ap (λ n. Ok (numbered n x.line)) same.0 ∙ ap (λ l. Ok (numbered y.number l)) same.1
read_once wide text (Ok x) (Err UnknownWord) h g = absurd (g x.number x.line h.0)
read_once wide text (Ok x) (Err OutOfRange) h (n, l, s, high) = absurd (high (one_line (IsInRange wide) text x.number n x.line l h.0 s h.1))
read_once wide text (Ok x) (Err NoSuchReply) h (n, l, s, range, none) =
    absurd (none (one_line (λ m k. HasReplyOfItsKind k) text x.number n x.line l h.0 s h.2))
read_once wide text (Err UnknownWord) (Ok y) h g = absurd (h y.number y.line g.0)
read_once wide text (Err UnknownWord) (Err UnknownWord) h g = refl
read_once wide text (Err UnknownWord) (Err OutOfRange) h (n, l, s, high) = absurd (h n l s)
read_once wide text (Err UnknownWord) (Err NoSuchReply) h (n, l, s, range, none) = absurd (h n l s)
read_once wide text (Err OutOfRange) (Ok y) (n, l, s, high) g = absurd (high (one_line (IsInRange wide) text y.number n y.line l g.0 s g.1))
read_once wide text (Err OutOfRange) (Err UnknownWord) (n, l, s, high) g = absurd (g n l s)
read_once wide text (Err OutOfRange) (Err OutOfRange) h g = refl
read_once wide text (Err OutOfRange) (Err NoSuchReply) (n, l, s, high) (m, k, t, range, none) = absurd (high (one_line (IsInRange wide) text m n k l t s range))
read_once wide text (Err NoSuchReply) (Ok y) (n, l, s, range, none) g =
    absurd (none (one_line (λ m k. HasReplyOfItsKind k) text y.number n y.line l g.0 s g.2))
read_once wide text (Err NoSuchReply) (Err UnknownWord) (n, l, s, range, none) g = absurd (g n l s)
read_once wide text (Err NoSuchReply) (Err OutOfRange) (m, k, t, range, none) (n, l, s, high) = absurd (high (one_line (IsInRange wide) text m n k l t s range))
read_once wide text (Err NoSuchReply) (Err NoSuchReply) h g = refl

pub every_line : {P : Type 0} (wide : Bool) (text : List ℕ) (r : Result (NumberedLine P) LineError) → IsReadAs wide text r → (n : ℕ) (l : Line) → IsLineText wide text n l
    → r ≡ Ok (numbered n l)
every_line wide text r h n l g = read_once wide text r (Ok (numbered n l)) h g

pub every_refusal : {P : Type 0} (wide : Bool) (text : List ℕ) (r : Result (NumberedLine P) LineError) → IsReadAs wide text r → (e : LineError) → IsNoLineFor wide text e → r ≡ Err e
every_refusal wide text r h e g = read_once wide text r (Err e) h g

-- a removal is replied to as a pop is
removal_replied : (n : ℕ) (x : Outcome) (b : Bool) → ((q : Request) (r : Reply) → kind_of q ≡ kind.Pop → outcome_of r ≡ x → IsTrue b ↔ MayReply q r)
    → (o : Operation) (r : Reply) → HasOperation (named.Remove n) o → outcome_of r ≡ x → IsTrue b ↔ MayReplyTo o r
removal_replied n x b may (Asked q) r has e = absurd has
removal_replied n x b may (ByTicket (Remove t)) r has e = may Pop r refl e
removal_replied n x b may (ByTicket (Move t p)) r has e = absurd has
removal_replied n x b may Shuts r has e = absurd has

-- and so is a move
move_replied : (n p : ℕ) (x : Outcome) (b : Bool) → ((q : Request) (r : Reply) → kind_of q ≡ kind.Pop → outcome_of r ≡ x → IsTrue b ↔ MayReply q r)
    → (o : Operation) (r : Reply) → HasOperation (named.Move n p) o → outcome_of r ≡ x → IsTrue b ↔ MayReplyTo o r
move_replied n p x b may (Asked q) r has e = absurd has
move_replied n p x b may (ByTicket (Remove t)) r has e = absurd has
move_replied n p x b may (ByTicket (Move t to)) r has e = may Pop r refl e
move_replied n p x b may Shuts r has e = absurd has

pub ticket_replied : (s : Named) (x : Outcome) (b : Bool) → ((n : ℕ) × (s ≡ named.Remove n)) ⊎ ((n : ℕ) × (p : ℕ) × (s ≡ named.Move n p))
    → ((q : Request) (r : Reply) → kind_of q ≡ kind.Pop → outcome_of r ≡ x → IsTrue b ↔ MayReply q r)
    → (o : Operation) (r : Reply) → HasOperation s o → outcome_of r ≡ x → IsTrue b ↔ MayReplyTo o r
ticket_replied s x b (inl (n, is)) may o r has = removal_replied n x b may o r (subst (λ z. HasOperation z o) is has)
ticket_replied s x b (inr (n, p, is)) may o r has = move_replied n p x b may o r (subst (λ z. HasOperation z o) is has)

-- a shape in range whose reply no such operation has
pub no_such_reply : {P : Type 0} (wide : Bool) (text : List ℕ) (s : Shape) (found : NumberedLine P) (b : Bool) → (n : ℕ) × (l : Line) × SpellsLine text n l × HasShape s n l
    → ((n : ℕ) (l : Line) → HasShape s n l → (found.number ≡ n) × (found.line ≡ l) × IsInRange wide n l)
    → ((o : Operation) (r : Reply) → HasOperation s.named o → outcome_of r ≡ s.outcome → IsTrue b ↔ MayReplyTo o r) → b ≡ false
    → IsNoLineFor wide text NoSuchReply
no_such_reply wide text s found b (n, l, spells, has) range may e = (
  n,
  l,
  spells,
  (range n l has).2,
  λ it. let yes : b ≡ true = (may l.operation l.reply has.operation_is (outcome_is s.outcome s.told l.reply has.reply_is)).1 it in absurd (cc),
)

-- the line that is found
pub the_line : {P : Type 0} (wide : Bool) (text : List ℕ) (s : Shape) (found : NumberedLine P) (b : Bool) → (n : ℕ) × (l : Line) × SpellsLine text n l × HasShape s n l
    → ((n : ℕ) (l : Line) → HasShape s n l → (found.number ≡ n) × (found.line ≡ l) × IsInRange wide n l)
    → ((o : Operation) (r : Reply) → HasOperation s.named o → outcome_of r ≡ s.outcome → IsTrue b ↔ MayReplyTo o r) → b ≡ true
    → IsReadAs wide text (Ok found)
the_line wide text s found b (n, l, spells, has) range may e =
    let is = range n l has in
    let told : HasReplyOfItsKind l = (may l.operation l.reply has.operation_is (outcome_is s.outcome s.told l.reply has.reply_is)).0 e in
    subst (λ k. IsLineText wide text found.number k) (sym is.1) (subst (λ m. IsLineText wide text m l) (sym is.0) (spells, is.2, told))

-- a line's text is read as that line alone
pub one_reading : (wide : Bool) (text : List ℕ) (m : ℕ) (l : Line) → IsLineText wide text m l → ((n : ℕ) (k : Line) → IsLineText wide text n k → (m ≡ n) × (l ≡ k))
    × ((e : LineError) → ¬ (IsNoLineFor wide text e))
one_reading wide text m l h = (
  λ n k g. line_once text m n l k h.0 g.0,
  λ e no. let same : Ok (numbered {P = ℕ} m l) ≡ Err e = read_once wide text (Ok (numbered {P = ℕ} m l)) (Err e) h no in absurd (cc),
)
