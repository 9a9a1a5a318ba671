-- What goes into the queue by the lines of a legal history goes out by them, or is left.
use Rattle.std.proofs.Common.{◌≡◌, ℕ, ◌+◌, Bool, true, false, List, [], ◌∷◌, length, Option, Some, None, refl, sym, ◌∙◌, ap, subst, arith}
use Rattle.std.specs.Prelude.{◌==◌, if◌then◌else◌, map}
use Rattle.pq_types.specs.Item.{Item, item}
use Rattle.pq_types.specs.Asked.{Reply, Line, Operation}
use Rattle.pq_types.specs.declared.request.Request.TheVariants.{Push, Pop, Least}
use Rattle.pq_types.specs.Operation.{Asked, ByTicket, Shuts, Remove, Move}
use Rattle.pq_types.specs.Entry.{Entry, entry, item_of, item_at, without, with_entry, with_moved, entry_not_above, taken, entries_after, reply_by}
use Rattle.pq_types.specs.History.{entries_from, IsLegalFrom}
use Rattle.queue_texts.specs.Sums.{sum_over, pushes, gots, priority_in, priority_out, sum_priorities}
use Rattle.queue_texts.specs.Laws.{SumsAgree}

-- the priorities of entries, added up
abbrev weight : List Entry → ℕ
weight es = sum_priorities (map item_of es)

-- these entries are those, with one of this priority more
record HasOneMore (more : List Entry) (priority : ℕ) (es : List Entry) : Type 0 where
  count : length more ≡ length es + 1
  sum : weight more ≡ weight es + priority

one_behind : (f : Entry) (more : List Entry) (priority : ℕ) (es : List Entry) → HasOneMore more priority es → HasOneMore (f ∷ more) priority (f ∷ es)
one_behind f more priority es h = record { count = omega (arith, h.count); sum = omega (arith, h.sum) }

entered : (e : Entry) (es : List Entry) → HasOneMore (with_entry e es) e.priority es
entered e [] = record { count = refl; sum = omega arith }
entered e (f ∷ fs) = by (entered e fs) (entry_not_above f e)
  where
    by : HasOneMore (with_entry e fs) e.priority fs → (before : Bool)
        → HasOneMore (if before then f ∷ with_entry e fs else e ∷ f ∷ fs) e.priority (f ∷ fs)
    by rest true = one_behind f (with_entry e fs) e.priority fs rest
    by rest false = record { count = omega arith; sum = omega arith }

-- the entry of a ticket was one of them
removed : (i : ℕ) (es : List Entry) (x : Item) → item_at i es ≡ Some x → HasOneMore es x.priority (without i es)
removed i [] x is = absurd (cc)
removed i (e ∷ es) x is = by (removed i es x) (e.line == i) is
  where
    by : (item_at i es ≡ Some x → HasOneMore es x.priority (without i es)) → (b : Bool)
        → (if b then Some (item_of e) else item_at i es) ≡ Some x → HasOneMore (e ∷ es) x.priority (if b then es else e ∷ without i es)
    by rest true is =
        let same : item_of e ≡ x = cc in
        record { count = omega arith; sum = omega (arith, ap (λ (y : Item). y.priority) same) }
    by rest false is = one_behind e es x.priority (without i es) (rest is)

none_removed : (i : ℕ) (es : List Entry) → item_at i es ≡ None → without i es ≡ es
none_removed i [] is = refl
none_removed i (e ∷ es) is = by (none_removed i es) (e.line == i) is
  where
    by : (item_at i es ≡ None → without i es ≡ es) → (b : Bool) → (if b then Some (item_of e) else item_at i es) ≡ None
        → (if b then es else e ∷ without i es) ≡ e ∷ es
    by rest true is = absurd (cc)
    by rest false is = ap (λ fs. e ∷ fs) (rest is)

-- what an operation puts in is what it takes out, and what it leaves more
record Balances (es : List Entry) (n : ℕ) (o : Operation) (r : Reply) : Type 0 where
  count : length es + pushes o ≡ gots o r + length (entries_after es n o)
  sum : weight es + priority_in o r ≡ priority_out o r + weight (entries_after es n o)

by_removal : (es : List Entry) (n i : ℕ) (x : Option Item) → item_at i es ≡ x → Balances es n (ByTicket (Remove i)) (taken x)
by_removal es n i None is =
    let same = none_removed i es is in
    record { count = omega (arith, ap length same); sum = omega (arith, ap weight same) }
by_removal es n i (Some x) is =
    let h = removed i es x is in
    record { count = omega (arith, h.count); sum = omega (arith, h.sum) }

by_move : (es : List Entry) (n i priority : ℕ) (x : Option Item) → item_at i es ≡ x → Balances es n (ByTicket (Move i priority)) (taken x)
by_move es n i priority None is =
    let same : entries_after es n (ByTicket (Move i priority)) ≡ es = ap (λ y. with_moved n priority y (without i es)) is ∙ none_removed i es is in
    record { count = omega (arith, ap length same); sum = omega (arith, ap weight same) }
by_move es n i priority (Some x) is =
    let new = entry n (item priority x.value) in
    let after : entries_after es n (ByTicket (Move i priority)) ≡ with_entry new (without i es) = ap (λ y. with_moved n priority y (without i es)) is in
    let h = removed i es x is in
    let k = entered new (without i es) in
    record { count = omega (arith, ap length after, h.count, k.count); sum = omega (arith, ap weight after, h.sum, k.sum) }

by_operation : (es : List Entry) (n : ℕ) (o : Operation) → Balances es n o (reply_by es o)
by_operation es n (Asked (Push x)) =
    let k = entered (entry n x) es in
    record { count = omega (arith, k.count); sum = omega (arith, k.sum) }
by_operation [] n (Asked Pop) = record { count = refl; sum = refl }
by_operation (e ∷ es) n (Asked Pop) = record { count = omega arith; sum = omega arith }
by_operation [] n (Asked Least) = record { count = refl; sum = refl }
by_operation (e ∷ es) n (Asked Least) = record { count = omega arith; sum = omega arith }
by_operation es n (ByTicket (Remove i)) = by_removal es n i (item_at i es) refl
by_operation es n (ByTicket (Move i priority)) = by_move es n i priority (item_at i es) refl
by_operation es n Shuts = record { count = omega arith; sum = omega arith }

-- the same of all lines of a legal history, from these entries on
record AllBalance (es : List Entry) (n : ℕ) (ls : List Line) : Type 0 where
  count : length es + sum_over (λ l. pushes l.operation) ls ≡ sum_over (λ l. gots l.operation l.reply) ls + length (entries_from es n ls)
  sum : weight es + sum_over (λ l. priority_in l.operation l.reply) ls
      ≡ sum_over (λ l. priority_out l.operation l.reply) ls + weight (entries_from es n ls)

all_balance : (es : List Entry) (n : ℕ) (ls : List Line) → IsLegalFrom es n ls → AllBalance es n ls
all_balance es n [] h = record { count = omega arith; sum = omega arith }
all_balance es n (l ∷ ls) (reply, rest) =
    let one = subst (Balances es n l.operation) (sym reply) (by_operation es n l.operation) in
    let others = all_balance (entries_after es n l.operation) (n + 1) ls rest in
    record { count = omega (arith, one.count, others.count); sum = omega (arith, one.sum, others.sum) }

length_items : (es : List Entry) → length (map item_of es) ≡ length es
length_items [] = refl
length_items (e ∷ es) = omega (arith, length_items es)

pub sums_agree : SumsAgree
sums_agree journal r legal is =
    let all = all_balance [] 1 journal legal in
    let many = length_items (entries_from [] 1 journal) in
    (omega (arith, all.sum, is.sum_in, is.sum_out_and_left), omega (arith, all.count, many, is.pushed, is.got, is.left_is))
