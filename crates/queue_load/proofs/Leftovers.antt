-- What a journal leaves, line by line.
use Rattle.std.proofs.Common.{◌≡◌, ◌==◌, ℕ, zero, suc, ◌+◌, ◌*◌, ◌^◌, ◌<◌, ◌≤◌, Bool, true, false, List, [], ◌∷◌, ◌++◌, length, take, get_or, map, Option, Some, None, if◌then◌else◌, refl, sym, ◌∙◌, ap, subst, arith}
use Rattle.std.proofs.lemmas.List.{take_more, take_all}
use Rattle.std.specs.List.{sum_by}
use Rattle.std.proofs.lemmas.List.Sums.{sum_by-cons}
use Rattle.pq_types.specs.Item.{Item, bound_of}
use Rattle.pq_types.specs.Asked.{Line}
use Rattle.pq_types.specs.Asked.{Request}
use Rattle.pq_types.specs.declared.request.Request.TheVariants.{Push, Pop, Least}
use Rattle.pq_types.specs.Asked.{Reply}
use Rattle.pq_types.specs.declared.answer.Reply.TheVariants.{Pushed, Got, Empty, Least as LeastIs}
use Rattle.pq_types.specs.Item.{item, not_above}
use Rattle.pq_types.specs.declared.journal.TheConstants.{MOST_LINES}
use Rattle.pq_types.specs.Asked.{Operation}
use Rattle.pq_types.specs.Operation.{Asked, ByTicket, Shuts, Remove, Move, request_of}
use Rattle.pq_types.specs.Queue.{with_item, content_after, reply_to}
use Rattle.pq_types.specs.Entry.{Entry, entry, item_of, item_at, without, with_entry, with_moved, entry_not_above, taken, entries_after, reply_by}
use Rattle.pq_types.specs.History.{left, entries_from, entries_of, IsLegal, IsLegalFrom}
use Rattle.pq_types.specs.Laws.{LeavesOneMore, EntersOneMore}
use Rattle.leftist_heap.specs.Store.{first_of, rest_of}
use Rattle.queue_load.specs.Leftover.{left_after, left_by, moved, HoldsFor}
use Rattle.queue_load.specs.declared.leftover.Leftover.{Leftover}
use Rattle.queue_load.proofs.Widths.{so_often, most_parts}

-- the priorities of a content, added up
abbrev weight : List Item → ℕ
weight xs = sum_by (λ (x : Item). x.priority) xs

-- so many items with such priorities are the content
pub record Counts (l : Leftover) (content : List Item) : Type 0 where
  pub count : l.count ≡ length content
  pub sum : l.sum ≡ weight content

-- so much is left by these lines, of which there are so many
pub record IsLeftover (wide : Bool) (number : ℕ) (l : Leftover) (lines : List Line) : Type 0 where
  pub counts : Counts l (left lines)
  pub few : l.count ≤ number
  pub small : l.sum ≤ bound_of wide * number

-- a push puts one item more in, with its priority
pushed_more : (x : Item) (xs : List Item) → (length (with_item x xs) ≡ length xs + 1) × (weight (with_item x xs) ≡ weight xs + x.priority)
pushed_more x [] = (refl, refl)
pushed_more x (y ∷ ys) = behind (not_above y x) (pushed_more x ys)
  where
    behind : (before : Bool) → (length (with_item x ys) ≡ length ys + 1) × (weight (with_item x ys) ≡ weight ys + x.priority)
        → (length (if before then y ∷ with_item x ys else x ∷ y ∷ ys) ≡ length (y ∷ ys) + 1)
        × (weight (if before then y ∷ with_item x ys else x ∷ y ∷ ys) ≡ weight (y ∷ ys) + x.priority)
    behind true h = (omega (arith, h.0), omega (arith, h.1, sum_by-cons (λ (i : Item). i.priority) y (with_item x ys), sum_by-cons (λ (i : Item). i.priority) y ys))
    behind false h = (omega arith, omega (arith, sum_by-cons (λ (i : Item). i.priority) x (y ∷ ys)))

-- the item that the queue tells to a pop is in it
holds : (l : Leftover) (content : List Item) (request : Request) (reply : Reply) → Counts l content → reply ≡ reply_to content request → HoldsFor l request reply
holds l content (Push x) reply c e = tt
holds l [] Pop Empty c e = tt
holds l [] Pop Pushed c e = tt
holds l [] Pop (Got x) c e = absurd (cc)
holds l [] Pop (LeastIs x) c e = tt
holds l (y ∷ ys) Pop Empty c e = tt
holds l (y ∷ ys) Pop Pushed c e = tt
holds l (y ∷ ys) Pop (LeastIs x) c e = tt
holds l (y ∷ ys) Pop (Got x) c e =
    let same : x ≡ y = cc in
    let low = ap (λ (i : Item). i.priority) same in
    let count = c.count in let sum = c.sum in
    (omega arith, omega (arith, sum_by-cons (λ (i : Item). i.priority) y ys))
holds l content Least reply c e = tt

-- the line's request is carried out
counts_after : (l : Leftover) (content : List Item) (request : Request) (reply : Reply) → Counts l content → reply ≡ reply_to content request → Counts (left_after l request reply) (content_after content request)
counts_after l content (Push x) reply c e =
    let more = pushed_more x content in let count = c.count in let sum = c.sum in
    record { count = omega (arith, more.0); sum = omega (arith, more.1) }
counts_after l [] Pop Empty c e = c
counts_after l [] Pop Pushed c e = c
counts_after l [] Pop (Got x) c e = absurd (cc)
counts_after l [] Pop (LeastIs x) c e = c
counts_after l (y ∷ ys) Pop Empty c e = absurd (cc)
counts_after l (y ∷ ys) Pop Pushed c e = absurd (cc)
counts_after l (y ∷ ys) Pop (LeastIs x) c e = absurd (cc)
counts_after l (y ∷ ys) Pop (Got x) c e =
    let same : x ≡ y = cc in
    let low = ap (λ (i : Item). i.priority) same in
    let count = c.count in let sum = c.sum in
    record { count = omega arith; sum = omega (arith, sum_by-cons (λ (i : Item). i.priority) y ys) }
counts_after l content Least reply c e = c

-- the item of a ticket was among those that wait
removed_less : (i : ℕ) (es : List Entry) (x : Item) → item_at i es ≡ Some x → (length (map item_of es) ≡ length (map item_of (without i es)) + 1) × (weight (map item_of es) ≡ weight (map item_of (without i es)) + x.priority)
removed_less i [] x is = absurd (cc)
removed_less i (e ∷ es) x is = at_choice (removed_less i es x) (e.line == i) is
  where
    at_choice : (item_at i es ≡ Some x → (length (map item_of es) ≡ length (map item_of (without i es)) + 1) × (weight (map item_of es) ≡ weight (map item_of (without i es)) + x.priority))
        → (b : Bool) → (if b then Some (item_of e) else item_at i es) ≡ Some x
        → (length (item_of e ∷ map item_of es) ≡ length (map item_of (if b then es else e ∷ without i es)) + 1)
        × (weight (item_of e ∷ map item_of es) ≡ weight (map item_of (if b then es else e ∷ without i es)) + x.priority)
    at_choice rest true is =
        let same : item_of e ≡ x = cc in
        let priority = ap (λ (y : Item). y.priority) same in
        (omega arith, omega (arith, priority, sum_by-cons (λ (y : Item). y.priority) (item_of e) (map item_of es)))
    at_choice rest false is =
        let less = rest is in
        let before = sum_by-cons (λ (y : Item). y.priority) (item_of e) (map item_of es) in
        let after = sum_by-cons (λ (y : Item). y.priority) (item_of e) (map item_of (without i es)) in
        (omega (arith, less.0), omega (arith, less.1, before, after))

-- where none has the ticket nothing is removed
removed_none : (i : ℕ) (es : List Entry) → item_at i es ≡ None → without i es ≡ es
removed_none i [] is = refl
removed_none i (e ∷ es) is = at_choice (removed_none i es) (e.line == i) is
  where
    at_choice : (item_at i es ≡ None → without i es ≡ es) → (b : Bool) → (if b then Some (item_of e) else item_at i es) ≡ None
        → (if b then es else e ∷ without i es) ≡ e ∷ es
    at_choice rest true is = absurd (cc)
    at_choice rest false is = ap (λ fs. e ∷ fs) (rest is)

-- what a removal is told, and what it leaves
removed : (l : Leftover) (es : List Entry) (i : ℕ) (reply : Reply) → Counts l (map item_of es) → reply ≡ taken (item_at i es) → HoldsFor l Pop reply × Counts (left_after l Pop reply) (map item_of (without i es))
removed l es i reply c e = by_item (item_at i es) refl reply e
  where
    none_less : item_at i es ≡ None → Counts l (map item_of (without i es))
    none_less is = subst (λ fs. Counts l (map item_of fs)) (sym (removed_none i es is)) c

    by_item : (found : Option Item) → item_at i es ≡ found → (r : Reply) → r ≡ taken found → HoldsFor l Pop r × Counts (left_after l Pop r) (map item_of (without i es))
    by_item None is Pushed e = absurd (cc)
    by_item None is (Got x) e = absurd (cc)
    by_item None is (LeastIs x) e = absurd (cc)
    by_item None is Empty e = (tt, none_less is)
    by_item (Some y) is Pushed e = absurd (cc)
    by_item (Some y) is (LeastIs x) e = absurd (cc)
    by_item (Some y) is Empty e = absurd (cc)
    by_item (Some y) is (Got x) e =
        let same : x ≡ y = cc in
        let priority = ap (λ (z : Item). z.priority) same in
        let less = removed_less i es y is in
        let number = less.0 in let amount = less.1 in
        let count = c.count in let sum = c.sum in
        ((omega arith, omega arith), record { count = omega arith; sum = omega arith })

-- an entry more
pub entered_more : (e : Entry) (es : List Entry) → (length (map item_of (with_entry e es)) ≡ length (map item_of es) + 1) × (weight (map item_of (with_entry e es)) ≡ weight (map item_of es) + e.priority)
entered_more e [] = (refl, refl)
entered_more e (f ∷ fs) = behind (entry_not_above f e) (entered_more e fs)
  where
    behind : (before : Bool) → (length (map item_of (with_entry e fs)) ≡ length (map item_of fs) + 1) × (weight (map item_of (with_entry e fs)) ≡ weight (map item_of fs) + e.priority)
        → (length (map item_of (if before then f ∷ with_entry e fs else e ∷ f ∷ fs)) ≡ length (map item_of (f ∷ fs)) + 1)
        × (weight (map item_of (if before then f ∷ with_entry e fs else e ∷ f ∷ fs)) ≡ weight (map item_of (f ∷ fs)) + e.priority)
    behind true h = (
      omega (arith, h.0),
      omega (
        arith,
        h.1,
        sum_by-cons (λ (i : Item). i.priority) (item_of f) (map item_of (with_entry e fs)),
        sum_by-cons (λ (i : Item). i.priority) (item_of f) (map item_of fs),
      ),
    )
    behind false h = (omega arith, omega (arith, sum_by-cons (λ (i : Item). i.priority) (item_of e) (map item_of (f ∷ fs))))

-- what a move is told, and what it leaves
moved_by : (l : Leftover) (es : List Entry) (n i priority : ℕ) (reply : Reply) → Counts l (map item_of es) → reply ≡ taken (item_at i es)
    → Counts (moved l priority reply) (map item_of (with_moved n priority (item_at i es) (without i es)))
moved_by l es n i priority reply c e = by_item (item_at i es) refl reply e
  where
    by_item : (found : Option Item) → item_at i es ≡ found → (r : Reply) → r ≡ taken found → Counts (moved l priority r) (map item_of (with_moved n priority found (without i es)))
    by_item None is Pushed e = absurd (cc)
    by_item None is (Got x) e = absurd (cc)
    by_item None is (LeastIs x) e = absurd (cc)
    by_item None is Empty e = subst (λ fs. Counts l (map item_of fs)) (sym (removed_none i es is)) c
    by_item (Some y) is Pushed e = absurd (cc)
    by_item (Some y) is (LeastIs x) e = absurd (cc)
    by_item (Some y) is Empty e = absurd (cc)
    by_item (Some y) is (Got x) e =
        let same : x ≡ y = cc in
        let old = ap (λ (z : Item). z.priority) same in
        let less = removed_less i es y is in
        let more = entered_more (entry n (item priority y.value)) (without i es) in
        let number = less.0 in let amount = less.1 in let number' = more.0 in let amount' = more.1 in
        let count = c.count in let sum = c.sum in
        record { count = omega arith; sum = omega arith }

-- the same of any operation
holds_by : (l : Leftover) (es : List Entry) (o : Operation) (reply : Reply) → Counts l (map item_of es) → reply ≡ reply_by es o → HoldsFor l (request_of o) reply
holds_by l es (Asked q) reply c e = holds l (map item_of es) q reply c e
holds_by l es (ByTicket (Remove i)) reply c e = (removed l es i reply c e).0
holds_by l es (ByTicket (Move i priority)) reply c e = (removed l es i reply c e).0
holds_by l es Shuts Empty c e = tt
holds_by l es Shuts Pushed c e = tt
holds_by l es Shuts (Got x) c e = absurd (cc)
holds_by l es Shuts (LeastIs x) c e = tt

counts_more : LeavesOneMore → EntersOneMore → (lines : List Line) (x : Line) (l : Leftover) → Counts l (left lines) → x.reply ≡ reply_by (entries_of lines) x.operation → Counts (left_by l x.operation x.reply) (left (lines ++ x ∷ []))
counts_more leaves enters lines x l c e = by x.operation refl e
  where
    by : (o : Operation) → x.operation ≡ o → x.reply ≡ reply_by (entries_of lines) o → Counts (left_by l o x.reply) (left (lines ++ x ∷ []))
    by (Asked q) is e = subst (Counts (left_after l q x.reply)) (sym (leaves lines x q is)) (counts_after l (left lines) q x.reply c e)
    by (ByTicket (Remove i)) is e =
        let now : left (lines ++ x ∷ []) ≡ map item_of (without i (entries_of lines)) = ap (map item_of) (enters lines x ∙ ap (entries_after (entries_of lines) (length lines + 1)) is) in
        subst (Counts (left_after l Pop x.reply)) (sym now) (removed l (entries_of lines) i x.reply c e).1
    by (ByTicket (Move i priority)) is e =
        let after = with_moved (length lines + 1) priority (item_at i (entries_of lines)) (without i (entries_of lines)) in
        let now : left (lines ++ x ∷ []) ≡ map item_of after = ap (map item_of) (enters lines x ∙ ap (entries_after (entries_of lines) (length lines + 1)) is) in
        subst (Counts (moved l priority x.reply)) (sym now) (moved_by l (entries_of lines) (length lines + 1) i priority x.reply c e)
    by Shuts is e =
        let now : left (lines ++ x ∷ []) ≡ left lines = ap (map item_of) (enters lines x ∙ ap (entries_after (entries_of lines) (length lines + 1)) is) in
        subst (Counts l) (sym now) c

-- each line of a legal history has the reply of the queue that the lines before it leave
legal_at : (es : List Entry) (k : ℕ) (lines : List Line) (n : ℕ) (d : Line) → IsLegalFrom es k lines → n < length lines → (get_or lines n d).reply ≡ reply_by (entries_from es k (take n lines)) (get_or lines n d).operation
legal_at es k [] n d h lt = absurd (omega arith)
legal_at es k (l ∷ ls) zero d h lt = h.0
legal_at es k (l ∷ ls) (suc n) d h lt = legal_at (entries_after es k l.operation) (k + 1) ls n d h.1 (omega arith)

-- what is left after one line more
pub leftover_more : {wide : Bool} → LeavesOneMore → EntersOneMore → (lines : List Line) (n : ℕ) (d : Line) (l l' : Leftover) → IsLegal lines → n < length lines → IsLeftover wide n l (take n lines) → l' ≡ left_by l (get_or lines n d).operation (get_or lines n d).reply → l'.count ≤ l.count + 1 → l'.sum ≤ l.sum + bound_of wide → IsLeftover wide (n + 1) l' (take (n + 1) lines)
leftover_more {wide = wide} leaves enters lines n d l l' legal lt h e more grown =
    let x = get_or lines n d in
    let counts = counts_more leaves enters (take n lines) x l h.counts (legal_at [] 1 lines n d legal lt) in
    let few = h.few in let small = h.small in
    record {
      counts = subst (λ u. Counts u (left (take (n + 1) lines))) (sym e) (subst (λ ls. Counts (left_by l x.operation x.reply) (left ls)) (sym (take_more lines n d lt)) counts);
      few = omega arith;
      small = omega arith;
    }

-- the item that the next line takes out was there
pub still_holds : {wide : Bool} → (lines : List Line) (n : ℕ) (d : Line) (l : Leftover) → IsLegal lines → n < length lines → IsLeftover wide n l (take n lines) → HoldsFor l (request_of (get_or lines n d).operation) (get_or lines n d).reply
still_holds {wide = wide} lines n d l legal lt h = holds_by l (entries_of (take n lines)) (get_or lines n d).operation (get_or lines n d).reply h.counts (legal_at [] 1 lines n d legal lt)

-- and the next line has room
pub still_roomy : {wide : Bool} → (lines before : List Line) (n : ℕ) (l : Leftover) → n < length lines → length lines ≤ MOST_LINES → IsLeftover wide n l before → (l.count < 2 ^ 60) × (l.sum < 2 ^ 100)
still_roomy {wide = wide} lines before n l lt few h =
    let count = h.few in let sum = h.small in
    (omega arith, omega (arith, most_parts wide n))

-- and behind the last line this is what the journal leaves
pub all_left : {wide : Bool} → (lines : List Line) (n : ℕ) (l : Leftover) → length lines ≤ n → n ≤ length lines → length lines ≤ MOST_LINES → IsLeftover wide n l (take n lines) → Counts l (left lines) × (l.sum ≤ bound_of wide * MOST_LINES)
all_left {wide = wide} lines n l end within few h =
    let sum = h.small in
    (subst (λ ls. Counts l (left ls)) (take_all n lines end) h.counts, omega (arith, sum, so_often (bound_of wide) n MOST_LINES (omega arith)))

-- So much of a store's priorities has been added up, and these are its entries that are left; no item weighs more than its width allows.
pub record AddedUp (wide : Bool) (all : List Entry) (sum : ℕ) (rest : List Entry) : Type 0 where
  pub weighs : sum + weight (map item_of rest) ≡ weight (map item_of all)
  pub few : sum + bound_of wide * length rest ≤ bound_of wide * length all

-- one entry more is added
pub one_added : {wide : Bool} → (all before after : List Entry) (x : Entry) (sum sum' : ℕ) → AddedUp wide all sum before → first_of before ≡ Some x → after ≡ rest_of before → sum' ≡ sum + x.priority → x.priority < bound_of wide → AddedUp wide all sum' after
one_added {wide = wide} all [] after x sum sum' h first rest more low = absurd (cc)
one_added {wide = wide} all (y ∷ ys) after x sum sum' h first rest more low =
    let same : y ≡ x = cc in
    let priority = ap (λ (e : Entry). e.priority) same in
    let weighs = h.weighs in let few = h.few in
    subst (AddedUp wide all sum') (sym rest) (record { weighs = omega (arith, weighs, more, priority, sum_by-cons (λ (i : Item). i.priority) (item_of y) (map item_of ys)); few = omega (arith, few, more, low) })

-- and one less is left
pub one_less : (before after : List Entry) (x : Entry) → first_of before ≡ Some x → after ≡ rest_of before → length after < length before
one_less [] after x first rest = absurd (cc)
one_less (y ∷ ys) after x first rest = omega (arith, ap (λ (es : List Entry). length es) rest)

-- where none is left all are added
pub all_added : {wide : Bool} → (all rest : List Entry) (sum : ℕ) → AddedUp wide all sum rest → first_of rest ≡ None → (sum ≡ weight (map item_of all)) × (sum ≤ bound_of wide * length all)
all_added {wide = wide} all [] sum h none = (let weighs = h.weighs in omega (arith, weighs), let few = h.few in omega (arith, few))
all_added {wide = wide} all (y ∷ ys) sum h none = absurd (cc)
