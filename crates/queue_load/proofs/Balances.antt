-- A journal of pushes and pops, each with the reply of the queue, balances: what went in came out, or is left.
use Rattle.std.proofs.Common.{◌≡◌, ℕ, ◌+◌, List, [], ◌∷◌, length, map, refl, ap, arith}
use Rattle.std.specs.List.{sum_by, AllByRecursion}
use Rattle.std.proofs.lemmas.List.Sums.{sum_by-cons}
use Rattle.pq_types.specs.Item.{Item}
use Rattle.pq_types.specs.Asked.{Line, Operation, Reply}
use Rattle.pq_types.specs.declared.request.Request.TheVariants.{Push, Pop, Least}
use Rattle.pq_types.specs.declared.answer.Reply.TheVariants.{Pushed, Got, Empty, Least as LeastIs}
use Rattle.pq_types.specs.Operation.{Asked, ByTicket, Shuts}
use Rattle.pq_types.specs.Entry.{Entry, entry, item_of, entries_after, reply_by}
use Rattle.pq_types.specs.History.{entries_from, IsLegalFrom}
use Rattle.queue_load.specs.declared.tally.Tally.{Tally}
use Rattle.queue_load.proofs.Audits.{one, of_line}
use Rattle.queue_load.proofs.Leftovers.{entered_more}

-- a push, or a pop
abbrev pub IsPushOrPop : Operation → Type 0
IsPushOrPop (Asked (Push x)) = Unit {0}
IsPushOrPop (Asked Pop) = Unit {0}
IsPushOrPop (Asked Least) = ⊥
IsPushOrPop (ByTicket ticketed) = ⊥
IsPushOrPop Shuts = ⊥

abbrev priorities_of : List Entry → ℕ
priorities_of es = sum_by (λ (x : Item). x.priority) (map item_of es)

-- One operation counts as one, and this tally says what went in and what came out.
record IsOne (t : Tally) (before after : List Entry) : Type 0 where
  counts : 1 ≡ t.pushed + t.got + t.empty
  kept : t.got + length (map item_of after) ≡ length (map item_of before) + t.pushed
  sums : priorities_of before + t.sum_in ≡ t.sum_out + priorities_of after

is_one : (es : List Entry) (n : ℕ) (o : Operation) (r : Reply) → r ≡ reply_by es o → IsPushOrPop o → IsOne (one o r) es (entries_after es n o)
is_one es n (Asked (Push x)) r e is =
    let more = entered_more (entry n x) es in
    let number = more.0 in let amount = more.1 in
    record { counts = refl; kept = omega (arith, number); sums = omega (arith, amount) }
is_one [] n (Asked Pop) Empty e is = record { counts = refl; kept = refl; sums = refl }
is_one [] n (Asked Pop) Pushed e is = absurd (cc)
is_one [] n (Asked Pop) (Got x) e is = absurd (cc)
is_one [] n (Asked Pop) (LeastIs x) e is = absurd (cc)
is_one (f ∷ fs) n (Asked Pop) Empty e is = absurd (cc)
is_one (f ∷ fs) n (Asked Pop) Pushed e is = absurd (cc)
is_one (f ∷ fs) n (Asked Pop) (LeastIs x) e is = absurd (cc)
is_one (f ∷ fs) n (Asked Pop) (Got x) e is =
    let same : x ≡ item_of f = cc in
    let priority = ap (λ (i : Item). i.priority) same in
    record { counts = refl; kept = omega arith; sums = omega (arith, priority, sum_by-cons (λ (i : Item). i.priority) (item_of f) (map item_of fs)) }
is_one es n (Asked Least) r e is = absurd is
is_one es n (ByTicket ticketed) r e is = absurd is
is_one es n Shuts r e is = absurd is

-- what all lines count together
abbrev lines_sum : (Tally → ℕ) → List Line → ℕ
lines_sum f ls = sum_by (of_line f) ls

-- Each line is a push, or a pop that got an item or none. What was there and was pushed has come out, or is there then.
pub record Balances (before : List Entry) (ls : List Line) (after : List Entry) : Type 0 where
  pub counts : length ls ≡ lines_sum (λ t. t.pushed) ls + lines_sum (λ t. t.got) ls + lines_sum (λ t. t.empty) ls
  pub kept : lines_sum (λ t. t.got) ls + length (map item_of after) ≡ length (map item_of before) + lines_sum (λ t. t.pushed) ls
  pub sums : priorities_of before + lines_sum (λ t. t.sum_in) ls ≡ lines_sum (λ t. t.sum_out) ls + priorities_of after

pub balances : (es : List Entry) (n : ℕ) (ls : List Line) → IsLegalFrom es n ls → AllByRecursion (λ l. IsPushOrPop l.operation) ls → Balances es ls (entries_from es n ls)
balances es n [] legal ops = record { counts = refl; kept = omega arith; sums = omega arith }
balances es n (l ∷ ls) legal ops =
    let h = is_one es n l.operation l.reply legal.0 ops.0 in
    let k = balances (entries_after es n l.operation) (n + 1) ls legal.1 ops.1 in
    let counts = h.counts in let kept = h.kept in let sums = h.sums in
    let counts' = k.counts in let kept' = k.kept in let sums' = k.sums in
    let pushed = sum_by-cons (of_line (λ t. t.pushed)) l ls in
    let got = sum_by-cons (of_line (λ t. t.got)) l ls in
    let empty = sum_by-cons (of_line (λ t. t.empty)) l ls in
    let sum_in = sum_by-cons (of_line (λ t. t.sum_in)) l ls in
    let sum_out = sum_by-cons (of_line (λ t. t.sum_out)) l ls in
    record { counts = omega arith; kept = omega arith; sums = omega arith }
