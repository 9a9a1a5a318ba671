-- What one more line does to a journal.
use Rattle.std.proofs.Common.{Bool, ◌≡◌, ℕ, ◌+◌, ◌<◌, ◌≤◌, true, false, List, [], ◌∷◌, ◌++◌, length, map, refl, sym, ◌∙◌, ap, subst, arith}
use Rattle.std.specs.Prelude.{max, ◌==◌, if◌then◌else◌, ◌↔◌, Option, Some, None}
use Rattle.std.specs.List.{AllByRecursion}
use Rattle.std.proofs.lemmas.Bool.Decides.{nat_tests}
use Rattle.pq_types.specs.Asked.{Request}
use Rattle.pq_types.specs.declared.request.Request.TheVariants.{Push, Pop, Least}
use Rattle.pq_types.specs.Asked.{Line}
use Rattle.pq_types.specs.Item.{Item}
use Rattle.pq_types.specs.Item.{item, bound_of, IsItemOf, not_above}
use Rattle.pq_types.specs.Asked.{Operation}
use Rattle.pq_types.specs.Operation.{Asked, ByTicket, Shuts, Remove, Move, ticket_of}
use Rattle.pq_types.specs.Queue.{AreItemsOf, IsAscending, IsProperRequestOf, IsProperReplyOf, content_after, reply_to, with_item}
use Rattle.pq_types.specs.Queue.{replies_from, content_after_all}
use Rattle.pq_types.specs.Entry.{Entry, entry, item_of, entry_not_above, with_entry, without, with_moved, entries_after, reply_by, item_at, taken, IsProperOperationOf}
use Rattle.pq_types.specs.History.{left, entries_from, entries_of, IsLegal, IsLegalFrom, SerialsRise, last_serial}
use Rattle.pq_types.specs.History.{AreAllAsked, IsAsked, asked_before, requests_of, replies_of}

-- what holds of each item, and of one more
pub all_more : {A : Type 0} (P : A → Type 0) (xs : List A) (x : A) → AllByRecursion P xs → P x → AllByRecursion P (xs ++ x ∷ [])
all_more P [] x h p = (p, tt)
all_more P (y ∷ ys) x h p = (h.0, all_more P ys x h.1 p)

entries_from_more : (es : List Entry) (n : ℕ) (ls : List Line) (l : Line)
    → entries_from es n (ls ++ l ∷ []) ≡ entries_after (entries_from es n ls) (n + length ls) l.operation
entries_from_more es n [] l = ap (λ m. entries_after es m l.operation) (omega arith)
entries_from_more es n (m ∷ ls) l =
    entries_from_more (entries_after es n m.operation) (n + 1) ls l
    ∙ ap (λ k. entries_after (entries_from (entries_after es n m.operation) (n + 1) ls) k l.operation) (omega arith)

pub entries_more : (ls : List Line) (l : Line) → entries_of (ls ++ l ∷ []) ≡ entries_after (entries_of ls) (length ls + 1) l.operation
entries_more ls l = entries_from_more [] 1 ls l ∙ ap (λ k. entries_after (entries_of ls) k l.operation) (omega arith)

-- without their lines, the entries are put in as items are
map-put : (e : Entry) (es : List Entry) → map item_of (with_entry e es) ≡ with_item (item_of e) (map item_of es)
map-put e [] = refl
map-put e (f ∷ es) = at_choice (map-put e es) (entry_not_above f e) where
  at_choice : map item_of (with_entry e es) ≡ with_item (item_of e) (map item_of es) → (b : Bool)
      → map item_of (if b then f ∷ with_entry e es else e ∷ f ∷ es)
      ≡ (if b then item_of f ∷ with_item (item_of e) (map item_of es) else item_of e ∷ item_of f ∷ map item_of es)
  at_choice h true = ap (λ xs. item_of f ∷ xs) h
  at_choice h false = refl

map-asked : (es : List Entry) (n : ℕ) (q : Request) → map item_of (entries_after es n (Asked q)) ≡ content_after (map item_of es) q
map-asked es n (Push x) = map-put (entry n x) es
map-asked [] n Pop = refl
map-asked (e ∷ es) n Pop = refl
map-asked es n Least = refl

pub left_more : (ls : List Line) (l : Line) (q : Request) → l.operation ≡ Asked q → left (ls ++ l ∷ []) ≡ content_after (left ls) q
left_more ls l q is =
    ap (map item_of) (entries_more ls l)
    ∙ ap (λ d. map item_of (entries_after (entries_of ls) (length ls + 1) d)) is ∙ map-asked (entries_of ls) (length ls + 1) q

legal_from_more : (es : List Entry) (n : ℕ) (ls : List Line) (l : Line) → IsLegalFrom es n ls → l.reply ≡ reply_by (entries_from es n ls) l.operation
    → IsLegalFrom es n (ls ++ l ∷ [])
legal_from_more es n [] l h e = (e, tt)
legal_from_more es n (m ∷ ls) l h e = (h.0, legal_from_more (entries_after es n m.operation) (n + 1) ls l h.1 e)

pub legal_more : (ls : List Line) (l : Line) → IsLegal ls → l.reply ≡ reply_by (entries_of ls) l.operation → IsLegal (ls ++ l ∷ [])
legal_more ls l h e = legal_from_more [] 1 ls l h e

-- a journal of requests alone leaves what they do
left_asked : (es : List Entry) (n : ℕ) (ls : List Line) → AreAllAsked ls
    → map item_of (entries_from es n ls) ≡ content_after_all (map item_of es) (requests_of ls)
left_asked es n [] h = refl
left_asked es n (l ∷ ls) h = step l.operation h.0 (λ xs. left_asked xs (n + 1) ls h.1) where
  step : (d : Operation) → IsAsked d → ((xs : List Entry) → map item_of (entries_from xs (n + 1) ls) ≡ content_after_all (map item_of xs) (requests_of ls))
      → map item_of (entries_from (entries_after es n d) (n + 1) ls) ≡ content_after_all (map item_of es) (asked_before d (requests_of ls))
  step (Asked q) a rest = rest (entries_after es n (Asked q)) ∙ ap (λ ys. content_after_all ys (requests_of ls)) (map-asked es n q)
  step (ByTicket t) a rest = absurd a
  step Shuts a rest = absurd a

both : {A : Type 0} {x y : A} {xs ys : List A} → x ≡ y → xs ≡ ys → x ∷ xs ≡ y ∷ ys
both {A} {x} {y} {xs} {ys} e es = ap (λ z. z ∷ xs) e ∙ ap (λ zs. y ∷ zs) es

heads : {A : Type 0} {x y : A} {xs ys : List A} → x ∷ xs ≡ y ∷ ys → x ≡ y
heads {A} {x} {y} {xs} {ys} e = ap first e where
  first : List A → A
  first [] = x
  first (z ∷ zs) = z

pub tails : {A : Type 0} {x y : A} {xs ys : List A} → x ∷ xs ≡ y ∷ ys → xs ≡ ys
tails {A} {x} {y} {xs} {ys} e = ap rest e where
  rest : List A → List A
  rest [] = []
  rest (z ∷ zs) = zs

-- and is legal where its replies are those to its requests
replied : (es : List Entry) (n : ℕ) (ls : List Line) → AreAllAsked ls → IsLegalFrom es n ls → replies_of ls ≡ replies_from (map item_of es) (requests_of ls)
replied es n [] h legal = refl
replied es n (l ∷ ls) h legal = step l.operation h.0 legal.0 (replied (entries_after es n l.operation) (n + 1) ls h.1 legal.1) where
  step : (d : Operation) → IsAsked d → l.reply ≡ reply_by es d → replies_of ls ≡ replies_from (map item_of (entries_after es n d)) (requests_of ls)
      → l.reply ∷ replies_of ls ≡ replies_from (map item_of es) (asked_before d (requests_of ls))
  step (Asked q) a e rest = both e (rest ∙ ap (λ ys. replies_from ys (requests_of ls)) (map-asked es n q))
  step (ByTicket t) a e rest = absurd a
  step Shuts a e rest = absurd a

legal_by : (es : List Entry) (n : ℕ) (ls : List Line) → AreAllAsked ls → replies_of ls ≡ replies_from (map item_of es) (requests_of ls) → IsLegalFrom es n ls
legal_by es n [] h e = tt
legal_by es n (l ∷ ls) h e = step l.operation h.0 e (λ r. legal_by (entries_after es n l.operation) (n + 1) ls h.1 r) where
  step : (d : Operation) → IsAsked d → l.reply ∷ replies_of ls ≡ replies_from (map item_of es) (asked_before d (requests_of ls))
      → (replies_of ls ≡ replies_from (map item_of (entries_after es n d)) (requests_of ls) → IsLegalFrom (entries_after es n d) (n + 1) ls)
      → (l.reply ≡ reply_by es d) × IsLegalFrom (entries_after es n d) (n + 1) ls
  step (Asked q) a e rest = (heads e, rest (tails e ∙ sym (ap (λ ys. replies_from ys (requests_of ls)) (map-asked es n q))))
  step (ByTicket t) a e rest = absurd a
  step Shuts a e rest = absurd a

pub without_tickets : (ls : List Line) → AreAllAsked ls
    → (left ls ≡ content_after_all [] (requests_of ls)) × (IsLegal ls ↔ (replies_of ls ≡ replies_from [] (requests_of ls)))
without_tickets ls h = (left_asked [] 1 ls h, (replied [] 1 ls h, legal_by [] 1 ls h))

pub rise_more : (ls : List Line) (l : Line) → SerialsRise ls → AllByRecursion (λ m. l.place ≡ m.place → m.serial < l.serial) ls
    → SerialsRise (ls ++ l ∷ [])
rise_more [] l h a = (tt, tt)
rise_more (m ∷ ls) l h a = (all_more (λ k. k.place ≡ m.place → m.serial < k.serial) ls l h.0 a.0, rise_more ls l h.1 a.1)

with_item_items : (wide : Bool) (x : Item) (ys : List Item) → IsItemOf wide x → AreItemsOf wide ys → AreItemsOf wide (with_item x ys)
with_item_items wide x [] i h = (i, tt)
with_item_items wide x (y ∷ ys) i h =
    elim (not_above y x) as (λ b. AreItemsOf wide
    (if b then y ∷ with_item x ys else x ∷ y ∷ ys)) [ true ↦ (h.0, with_item_items wide x ys i h.1) | false ↦ (i, h) ]

-- a proper request keeps the items in their range
pub content_items : (wide : Bool) (ys : List Item) (q : Request) → IsProperRequestOf wide q → AreItemsOf wide ys → AreItemsOf wide (content_after ys q)
content_items wide ys (Push x) i h = with_item_items wide x ys i h
content_items wide [] Pop i h = tt
content_items wide (y ∷ ys) Pop i h = h.1
content_items wide ys Least i h = h

-- a reply tells an item of the content alone
pub reply_proper : (wide : Bool) (ys : List Item) (q : Request) → AreItemsOf wide ys → IsProperReplyOf wide (reply_to ys q)
reply_proper wide ys (Push x) h = tt
reply_proper wide [] Pop h = tt
reply_proper wide (y ∷ ys) Pop h = h.0
reply_proper wide [] Least h = tt
reply_proper wide (y ∷ ys) Least h = h.0

-- what holds of each item, without one entry
all_without : (P : Item → Type 0) (i : ℕ) (es : List Entry) → AllByRecursion P (map item_of es) → AllByRecursion P (map item_of (without i es))
all_without P i [] h = tt
all_without P i (e ∷ es) h =
    elim (e.line == i) as (λ b. AllByRecursion P (map item_of (if b then es else e ∷ without i es))) [ true ↦ h.1 | false ↦ (h.0, all_without P i es h.1) ]

-- what holds of each item holds of the one at a ticket, where there is one
abbrev OfAny : (Item → Type 0) → Option Item → Type 0
OfAny P None = Unit {0}
OfAny P (Some x) = P x

of_item_at : (P : Item → Type 0) (i : ℕ) (es : List Entry) → AllByRecursion P (map item_of es) → OfAny P (item_at i es)
of_item_at P i [] h = tt
of_item_at P i (e ∷ es) h =
    elim (e.line == i) as (λ b. OfAny P (if b then Some (item_of e) else item_at i es)) [ true ↦ h.0 | false ↦ of_item_at P i es h.1 ]

moved_items : (wide : Bool) (n p : ℕ) (x : Option Item) (es : List Entry) → p < bound_of wide → OfAny (IsItemOf wide) x → AreItemsOf wide (map item_of es)
    → AreItemsOf wide (map item_of (with_moved n p x es))
moved_items wide n p None es low found h = h
moved_items wide n p (Some x) es low found h =
    let e = entry n (item p x.value) in
    subst (AreItemsOf wide) (sym (map-put e es)) (with_item_items wide (item p x.value) (map item_of es) (low, found.1) h)

-- what is done by a ticket keeps them too
pub entries_items : (wide : Bool) (es : List Entry) (n : ℕ) (o : Operation) → IsProperOperationOf wide o → AreItemsOf wide (map item_of es)
    → AreItemsOf wide (map item_of (entries_after es n o))
entries_items wide es n (Asked q) i h = subst (AreItemsOf wide) (sym (map-asked es n q)) (content_items wide (map item_of es) q i h)
entries_items wide es n Shuts u h = h
entries_items wide es n (ByTicket (Remove i)) u h = all_without (IsItemOf wide) i es h
entries_items wide es n (ByTicket (Move i p)) low h =
    moved_items wide n p (item_at i es) (without i es) low (of_item_at (IsItemOf wide) i es h) (all_without (IsItemOf wide) i es h)

taken_proper : (wide : Bool) (i : ℕ) (es : List Entry) → AreItemsOf wide (map item_of es) → IsProperReplyOf wide (taken (item_at i es))
taken_proper wide i [] h = tt
taken_proper wide i (e ∷ es) h =
    elim (e.line == i) as (λ b. IsProperReplyOf wide (taken (if b then Some (item_of e) else item_at i es))) [ true ↦ h.0 | false ↦ taken_proper wide i es h.1 ]

pub reply_by_proper : (wide : Bool) (es : List Entry) (o : Operation) → AreItemsOf wide (map item_of es) → IsProperReplyOf wide (reply_by es o)
reply_by_proper wide es (Asked q) h = reply_proper wide (map item_of es) q h
reply_by_proper wide es Shuts h = tt
reply_by_proper wide es (ByTicket t) h = taken_proper wide (ticket_of t) es h

length-with_entry : (e : Entry) (es : List Entry) → length (with_entry e es) ≡ length es + 1
length-with_entry e [] = refl
length-with_entry e (f ∷ es) =
    elim (entry_not_above f e) as (λ b. length (if b then f ∷ with_entry e es else e ∷ f ∷ es)
    ≡ length (f ∷ es) + 1) [ true ↦ omega (arith, length-with_entry e es) | false ↦ omega arith ]

length-without : (i : ℕ) (es : List Entry) → length (without i es) ≤ length es
length-without i [] = omega arith
length-without i (e ∷ es) =
    elim (e.line == i) as (λ b. length (if b then es else e ∷ without i es)
    ≤ length (e ∷ es)) [ true ↦ omega arith | false ↦ omega (arith, length-without i es) ]

length-moved : (n p : ℕ) (x : Option Item) (es : List Entry) → length (with_moved n p x es) ≤ length es + 1
length-moved n p None es = omega arith
length-moved n p (Some x) es = omega (arith, length-with_entry (entry n (item p x.value)) es)

entries_longer : (es : List Entry) (n : ℕ) (d : Operation) → length (entries_after es n d) ≤ length es + 1
entries_longer es n (Asked (Push x)) = omega (arith, length-with_entry (entry n x) es)
entries_longer [] n (Asked Pop) = omega arith
entries_longer (e ∷ es) n (Asked Pop) = omega arith
entries_longer es n (Asked Least) = omega arith
entries_longer es n Shuts = omega arith
entries_longer es n (ByTicket (Remove i)) = omega (arith, length-without i es)
entries_longer es n (ByTicket (Move i p)) = omega (arith, length-moved n p (item_at i es) (without i es), length-without i es)

length-entries_from : (es : List Entry) (n : ℕ) (ls : List Line) → length (entries_from es n ls) ≤ length es + length ls
length-entries_from es n [] = omega arith
length-entries_from es n (l ∷ ls) = omega (arith, length-entries_from (entries_after es n l.operation) (n + 1) ls, entries_longer es n l.operation)

length-items : (es : List Entry) → length (map item_of es) ≡ length es
length-items [] = refl
length-items (e ∷ es) = omega (arith, length-items es)

-- the queue has no more items than the journal has lines
pub length-left : (ls : List Line) → length (left ls) ≤ length ls
length-left ls = omega (arith, length-entries_from [] 1 ls, length-items (entries_of ls))

-- the greatest serial of a place after one more line
pub last_serial-snoc : (place : ℕ) (ls : List Line) (l : Line)
    → last_serial place (ls ++ l ∷ []) ≡ max (last_serial place ls) (if l.place == place then l.serial else 0)
last_serial-snoc place [] l = omega arith
last_serial-snoc place (m ∷ ls) l = omega (arith, last_serial-snoc place ls l)

-- what holds of each item, and of one that is put in
all_with : (P : Item → Type 0) (x : Item) (ys : List Item) → P x → AllByRecursion P ys → AllByRecursion P (with_item x ys)
all_with P x [] p ps = (p, tt)
all_with P x (y ∷ ys) p ps =
    elim (not_above y x) as (λ b. AllByRecursion P
    (if b then y ∷ with_item x ys else x ∷ y ∷ ys)) [ true ↦ (ps.0, all_with P x ys p ps.1) | false ↦ (p, ps) ]

all_weaker : (P Q : Item → Type 0) → ((x : Item) → P x → Q x) → (xs : List Item) → AllByRecursion P xs → AllByRecursion Q xs
all_weaker P Q h [] p = tt
all_weaker P Q h (x ∷ xs) p = (h x p.0, all_weaker P Q h xs p.1)

-- a content stays ascending when an item is put in
ascending_with : (x : Item) (ys : List Item) → IsAscending ys → IsAscending (with_item x ys)
ascending_with x [] a = (tt, tt)
ascending_with x (y ∷ ys) a = at_choice (ascending_with x ys a.1) (not_above y x) refl where
  at_choice : IsAscending (with_item x ys) → (b : Bool) → not_above y x ≡ b → IsAscending (if b then y ∷ with_item x ys else x ∷ y ∷ ys)
  at_choice rest true low = (all_with (λ z. not_above y z ≡ true) x ys low a.0, rest)
  at_choice rest false high =
      let under : not_above x y ≡ true = grind (arith, nat_tests, high) in
      ((under, all_weaker (λ z. not_above y z ≡ true) (λ z. not_above x z ≡ true) (λ z h. grind (arith, nat_tests, under, h)) ys a.0), a)

content_ascending : (xs : List Item) (q : Request) → IsAscending xs → IsAscending (content_after xs q)
content_ascending xs (Push x) a = ascending_with x xs a
content_ascending [] Pop a = tt
content_ascending (x ∷ xs) Pop a = a.1
content_ascending xs Least a = a

ascending_without : (i : ℕ) (es : List Entry) → IsAscending (map item_of es) → IsAscending (map item_of (without i es))
ascending_without i [] a = tt
ascending_without i (e ∷ es) a =
    elim (e.line == i) as (λ b. IsAscending (map item_of (if b then es else e ∷ without i es))) [
      | true ↦ a.1
      | false ↦ (all_without (λ y. not_above (item_of e) y ≡ true) i es a.0, ascending_without i es a.1)
    ]

ascending_moved : (n p : ℕ) (x : Option Item) (es : List Entry) → IsAscending (map item_of es) → IsAscending (map item_of (with_moved n p x es))
ascending_moved n p None es a = a
ascending_moved n p (Some x) es a =
    let e = entry n (item p x.value) in
    subst IsAscending (sym (map-put e es)) (ascending_with (item p x.value) (map item_of es) a)

entries_ascending : (es : List Entry) (n : ℕ) (d : Operation) → IsAscending (map item_of es) → IsAscending (map item_of (entries_after es n d))
entries_ascending es n (Asked q) a = subst IsAscending (sym (map-asked es n q)) (content_ascending (map item_of es) q a)
entries_ascending es n Shuts a = a
entries_ascending es n (ByTicket (Remove i)) a = ascending_without i es a
entries_ascending es n (ByTicket (Move i p)) a = ascending_moved n p (item_at i es) (without i es) (ascending_without i es a)

entries_from_ascending : (es : List Entry) (n : ℕ) (ls : List Line) → IsAscending (map item_of es) → IsAscending (map item_of (entries_from es n ls))
entries_from_ascending es n [] a = a
entries_from_ascending es n (l ∷ ls) a = entries_from_ascending (entries_after es n l.operation) (n + 1) ls (entries_ascending es n l.operation a)

-- what a journal leaves is ascending
pub left_ascending : (ls : List Line) → IsAscending (left ls)
left_ascending ls = entries_from_ascending [] 1 ls tt
