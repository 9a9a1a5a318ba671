-- The text of a journal line is read in one way.
use Rattle.std.proofs.Common.{◌≡◌, ℕ, List, ◌∷◌, ◌++◌, get_or, codes, refl, sym, ◌∙◌, ap, subst, arith}
use Rattle.std.specs.Str.Parse.{IsNumeral}
use Rattle.std.proofs.lemmas.List.{append_cancel_left}
use Rattle.pq_types.specs.Item.{Item}
use Rattle.pq_types.specs.Asked.{Request}
use Rattle.pq_types.specs.declared.request.Request.TheVariants.{Push, Pop, Least}
use Rattle.pq_types.specs.Asked.{Reply}
use Rattle.pq_types.specs.declared.answer.Reply.TheVariants.{Pushed, Got, Empty, Least as LeastIs}
use Rattle.pq_types.specs.Asked.{Line}
use Rattle.pq_types.specs.Asked.{Operation}
use Rattle.pq_types.specs.Operation.{Asked, ByTicket, Shuts, Remove, Move}
use Rattle.pq_types.specs.Item.{item}
use Rattle.queue_texts.specs.ItemText.{SpellsNumber, HasNoSpace}
use Rattle.queue_texts.specs.LineText.{Leads, LeadsBoth, LeadsAll, SpellsBoth, SpellsReply, SpellsReplyTo, AsksFirst, SaysFirst, SpellsLine}
use Rattle.queue_texts.proofs.Items.{no_space, no_space_at, one_split, same_number}

-- a text begins with one number
pub leads_once : (text a b : List ℕ) (m n : ℕ) → Leads text m a → Leads text n b → (m ≡ n) × (a ≡ b)
leads_once text a b m n (d, e, s) (d', e', s') =
    let same = one_split d a d' b (no_space d s.0.1) (no_space d' s'.0.1) (sym e ∙ e') in
    (same_number d' m n (subst (λ t. SpellsNumber t m) same.0 s) s', same.1)

-- a text without a space begins with none
pub no_lead : (text : List ℕ) → HasNoSpace text → (n : ℕ) (rest : List ℕ) → ¬ (Leads text n rest)
no_lead text h n rest (d, e, s) = no_space_at d rest (subst HasNoSpace e h)

-- nor does one whose first word is no number
pub no_number : (text first behind : List ℕ) → text ≡ first ++ 32 ∷ behind → HasNoSpace first → ¬ (IsNumeral 10 first)
    → (n : ℕ) (rest : List ℕ) → ¬ (Leads text n rest)
no_number text first behind e h none n rest (d, e', s) =
    let same = one_split d rest first behind (no_space d s.0.1) h (sym e' ∙ e) in
    none (subst (λ t. IsNumeral 10 t) same.0 s.0)

pub leads_both_once : (text a b : List ℕ) (m n p q : ℕ) → LeadsBoth text m n a → LeadsBoth text p q b → (m ≡ p) × (n ≡ q) × (a ≡ b)
leads_both_once text a b m n p q (x, l, k) (x', l', k') =
    let one = leads_once text x x' m p l l' in
    let two = leads_once x' a b n q (subst (λ t. Leads t n a) one.1 k) k' in
    (one.0, two.0, two.1)

pub both_once : (text : List ℕ) (m n p q : ℕ) → SpellsBoth text m n → SpellsBoth text p q → (m ≡ p) × (n ≡ q)
both_once text m n p q (x, l, s) (x', l', s') =
    let one = leads_once text x x' m p l l' in
    (one.0, same_number x' n q (subst (λ t. SpellsNumber t n) one.1 s) s')

pub same_item : (x y : Item) → (x.priority ≡ y.priority) × (x.value ≡ y.value) → x ≡ y
same_item x y (p, v) = ap (λ n. item n x.value) p ∙ ap (λ n. item y.priority n) v

pub leads_all_once : (text a b : List ℕ) (m n p m' n' p' : ℕ) → LeadsAll text m n p a → LeadsAll text m' n' p' b → (m ≡ m') × (n ≡ n')
    × (p ≡ p') × (a ≡ b)
leads_all_once text a b m n p m' n' p' h k =
    let one = leads_once text h.from_place k.from_place m m' h.number_is k.number_is in
    let two = leads_once k.from_place h.from_serial k.from_serial n n' (subst (λ t. Leads t n h.from_serial) one.1 h.place_is) k.place_is in
    let three = leads_once k.from_serial a b p p' (subst (λ t. Leads t p a) two.1 h.serial_is) k.serial_is in
    (one.0, two.0, three.0, three.1)

-- two texts that are equal have the same second byte
second : (a b : List ℕ) → a ≡ b → get_or a 1 0 ≡ get_or b 1 0
second a b e = ap (λ l. get_or l 1 0) e

-- a text says one request first
pub asks_once : (text a b : List ℕ) (q r : Request) → AsksFirst text q a → AsksFirst text r b → (q ≡ r) × (a ≡ b)
asks_once text a b (Push x) (Push y) (i, e, l) (j, f, k) =
    let same = append_cancel_left (codes "push ") i j (sym e ∙ f) in
    let both = leads_both_once j a b x.priority x.value y.priority y.value (subst (λ t. LeadsBoth t x.priority x.value a) same l) k in
    (ap (λ z. Push z) (same_item x y (both.0, both.1)), both.2)
asks_once text a b (Push x) Pop (i, e, l) f = absurd (omega (arith, second _ _ (sym e ∙ f)))
asks_once text a b (Push x) Least (i, e, l) f = absurd (omega (arith, second _ _ (sym e ∙ f)))
asks_once text a b Pop (Push y) e (j, f, k) = absurd (omega (arith, second _ _ (sym e ∙ f)))
asks_once text a b Pop Pop e f = (refl, append_cancel_left (codes "pop ") a b (sym e ∙ f))
asks_once text a b Pop Least e f = absurd (omega (arith, second _ _ (sym e ∙ f)))
asks_once text a b Least (Push y) e (j, f, k) = absurd (omega (arith, second _ _ (sym e ∙ f)))
asks_once text a b Least Pop e f = absurd (omega (arith, second _ _ (sym e ∙ f)))
asks_once text a b Least Least e f = (refl, append_cancel_left (codes "least ") a b (sym e ∙ f))

first : (a b : List ℕ) → a ≡ b → get_or a 0 0 ≡ get_or b 0 0
first a b e = ap (λ l. get_or l 0 0) e

-- no request is said as a removal is
pub no_removal : (text number rest : List ℕ) (q : Request) → text ≡ codes "remove " ++ number → ¬ (AsksFirst text q rest)
no_removal text number rest (Push x) e (i, f, l) = omega (arith, first _ _ (sym e ∙ f))
no_removal text number rest Pop e f = omega (arith, first _ _ (sym e ∙ f))
no_removal text number rest Least e f = omega (arith, first _ _ (sym e ∙ f))

-- nor as a move is
pub no_move : (text numbers rest : List ℕ) (q : Request) → text ≡ codes "move " ++ numbers → ¬ (AsksFirst text q rest)
no_move text numbers rest (Push x) e (i, f, l) = omega (arith, first _ _ (sym e ∙ f))
no_move text numbers rest Pop e f = omega (arith, first _ _ (sym e ∙ f))
no_move text numbers rest Least e f = omega (arith, first _ _ (sym e ∙ f))

-- no removal is said as a move is
pub no_both : (text number numbers : List ℕ) → text ≡ codes "remove " ++ number → ¬ (text ≡ codes "move " ++ numbers)
no_both text number numbers e f = omega (arith, first _ _ (sym e ∙ f))

-- nor is a request said as a shut is
no_shut : (text rest : List ℕ) (q : Request) → text ≡ codes "shut" → ¬ (AsksFirst text q rest)
no_shut text rest (Push x) e (i, f, l) = omega (arith, first _ _ (sym e ∙ f))
no_shut text rest Pop e f = omega (arith, first _ _ (sym e ∙ f))
no_shut text rest Least e f = omega (arith, first _ _ (sym e ∙ f))

-- a text says one operation first
pub says_once : (text a b : List ℕ) (o p : Operation) → SaysFirst text o a → SaysFirst text p b → (o ≡ p) × (a ≡ b)
says_once text a b (Asked q) (Asked r) h k = let one = asks_once text a b q r h k in (ap (λ z. Asked z) one.0, one.1)
says_once text a b (Asked q) (ByTicket (Remove j)) h (number, e, l) = absurd (no_removal text number a q e h)
says_once text a b (ByTicket (Remove i)) (Asked r) (number, e, l) k = absurd (no_removal text number b r e k)
says_once text a b (ByTicket (Remove i)) (ByTicket (Remove j)) (number, e, l) (number', f, k) =
    let same = append_cancel_left (codes "remove ") number number' (sym e ∙ f) in
    let one = leads_once number' a b i j (subst (λ t. Leads t i a) same l) k in
    (ap (λ z. ByTicket (Remove z)) one.0, one.1)
says_once text a b (Asked q) (ByTicket (Move j n)) h (numbers, e, l) = absurd (no_move text numbers a q e h)
says_once text a b (ByTicket (Move i m)) (Asked r) (numbers, e, l) k = absurd (no_move text numbers b r e k)
says_once text a b (ByTicket (Remove i)) (ByTicket (Move j n)) (number, e, l) (numbers, f, k) = absurd (no_both text number numbers e f)
says_once text a b (ByTicket (Move i m)) (ByTicket (Remove j)) (numbers, e, l) (number, f, k) = absurd (no_both text number numbers f e)
says_once text a b (ByTicket (Move i m)) (ByTicket (Move j n)) (numbers, e, l) (numbers', f, k) =
    let same = append_cancel_left (codes "move ") numbers numbers' (sym e ∙ f) in
    let one = leads_both_once numbers' a b i m j n (subst (λ t. LeadsBoth t i m a) same l) k in
    (ap (λ z. ByTicket (Move z m)) one.0 ∙ ap (λ z. ByTicket (Move j z)) one.1, one.2)
says_once text a b (Asked q) Shuts h (f, y) = absurd (no_shut text a q f h)
says_once text a b Shuts (Asked r) (e, x) k = absurd (no_shut text b r e k)
says_once text a b (ByTicket (Remove i)) Shuts (number, e, l) (f, y) = absurd (omega (arith, first _ _ (sym e ∙ f)))
says_once text a b Shuts (ByTicket (Remove j)) (e, x) (number, f, k) = absurd (omega (arith, first _ _ (sym e ∙ f)))
says_once text a b (ByTicket (Move i m)) Shuts (numbers, e, l) (f, y) = absurd (omega (arith, first _ _ (sym e ∙ f)))
says_once text a b Shuts (ByTicket (Move j n)) (e, x) (numbers, f, k) = absurd (omega (arith, first _ _ (sym e ∙ f)))
says_once text a b Shuts Shuts (e, x) (f, y) = (refl, x ∙ sym y)

-- a text says one reply
pub reply_once : (text : List ℕ) (r s : Reply) → SpellsReply text r → SpellsReply text s → r ≡ s
reply_once text Pushed Pushed e f = refl
reply_once text Pushed (Got y) e (j, f, k) = absurd (omega (arith, first _ _ (sym e ∙ f)))
reply_once text Pushed (LeastIs y) e (j, f, k) = absurd (omega (arith, first _ _ (sym e ∙ f)))
reply_once text Pushed Empty e f = absurd (omega (arith, first _ _ (sym e ∙ f)))
reply_once text (Got x) Pushed (i, e, l) f = absurd (omega (arith, first _ _ (sym e ∙ f)))
reply_once text (Got x) (Got y) (i, e, l) (j, f, k) =
    let same = append_cancel_left (codes "got ") i j (sym e ∙ f) in
    ap (λ z. Got z) (same_item x y (both_once j x.priority x.value y.priority y.value (subst (λ t. SpellsBoth t x.priority x.value) same l) k))
reply_once text (Got x) (LeastIs y) (i, e, l) (j, f, k) = absurd (omega (arith, first _ _ (sym e ∙ f)))
reply_once text (Got x) Empty (i, e, l) f = absurd (omega (arith, first _ _ (sym e ∙ f)))
reply_once text (LeastIs x) Pushed (i, e, l) f = absurd (omega (arith, first _ _ (sym e ∙ f)))
reply_once text (LeastIs x) (Got y) (i, e, l) (j, f, k) = absurd (omega (arith, first _ _ (sym e ∙ f)))
reply_once text (LeastIs x) (LeastIs y) (i, e, l) (j, f, k) =
    let same = append_cancel_left (codes "least ") i j (sym e ∙ f) in
    ap (λ z. LeastIs z) (same_item x y (both_once j x.priority x.value y.priority y.value (subst (λ t. SpellsBoth t x.priority x.value) same l) k))
reply_once text (LeastIs x) Empty (i, e, l) f = absurd (omega (arith, first _ _ (sym e ∙ f)))
reply_once text Empty Pushed e f = absurd (omega (arith, first _ _ (sym e ∙ f)))
reply_once text Empty (Got y) e (j, f, k) = absurd (omega (arith, first _ _ (sym e ∙ f)))
reply_once text Empty (LeastIs y) e (j, f, k) = absurd (omega (arith, first _ _ (sym e ∙ f)))
reply_once text Empty Empty e f = refl

-- a text says one reply to an operation
reply_to_once : (o : Operation) (text : List ℕ) (r s : Reply) → SpellsReplyTo o text r → SpellsReplyTo o text s → r ≡ s
reply_to_once (Asked q) text r s h k = reply_once text r s h k
reply_to_once (ByTicket t) text r s h k = reply_once text r s h k
reply_to_once Shuts text r s (e, x) (f, y) = x ∙ sym y

same_line : (l k : Line) → l.place ≡ k.place → l.serial ≡ k.serial → l.operation ≡ k.operation → l.reply ≡ k.reply → l ≡ k
same_line l k p s q r =
    ap (λ x. record l { place = x }) p ∙ ap (λ x. record l { place = k.place; serial = x }) s
    ∙ ap (λ x. record k { operation = x; reply = l.reply }) q ∙ ap (λ x. record k { reply = x }) r

-- a text spells one line, under one number
pub line_once : (text : List ℕ) (m n : ℕ) (l k : Line) → SpellsLine text m l → SpellsLine text n k → (m ≡ n) × (l ≡ k)
line_once text m n l k h g =
    let head = leads_all_once text h.from_operation g.from_operation m l.place l.serial n k.place k.serial h.head g.head in
    let said = says_once g.from_operation h.from_reply g.from_reply l.operation k.operation
    (subst (λ t. SaysFirst t l.operation h.from_reply) head.3 h.operation_is) g.operation_is in
    let told = reply_to_once k.operation g.from_reply l.reply k.reply
    (subst (λ o. SpellsReplyTo o g.from_reply l.reply) said.0 (subst (λ t. SpellsReplyTo l.operation t l.reply) said.1 h.reply_is)) g.reply_is in
    (head.0, same_line l k head.1 head.2 said.0 told)
