-- What a line put in goes out once, and its taker replies with it.
use Rattle.std.proofs.Common.{◌≡◌, ℕ, ◌+◌, ◌<◌, ◌≤◌, ◌⊎◌, inl, inr, Bool, true, false}
use Rattle.std.proofs.Common.{List, [], ◌∷◌, ◌++◌, length, refl, sym, ◌∙◌, ap, subst, arith, eq-eqb, ne_eqb}
use Rattle.std.specs.Prelude.{◌==◌, ◌||◌, if◌then◌else◌, Option, Some, None}
use Rattle.std.specs.List.{AllByRecursion}
use Rattle.std.proofs.lemmas.Bool.{cases_lt}
use Rattle.std.proofs.lemmas.Bool.Decides.{nat_tests}
use Rattle.pq_types.specs.Item.{Item, item}
use Rattle.pq_types.specs.Asked.{Line, Operation}
use Rattle.pq_types.specs.declared.request.Request.TheVariants.{Push, Pop, Least}
use Rattle.pq_types.specs.declared.answer.Reply.TheVariants.{Got}
use Rattle.pq_types.specs.Operation.{Asked, ByTicket, Shuts, Remove, Move, Ticketed, ticket_of}
use Rattle.pq_types.specs.Entry.{Entry, entry, item_of, item_at, taken, entry_not_above, with_entry, without, with_moved, entries_after, reply_by}
use Rattle.pq_types.specs.History.{entries_from, entries_of, IsLegal}
use Rattle.pq_types.specs.Outs.{StandsAt, IsPutInOn, IsOutOn, put_in, under}
use Rattle.pq_book.specs.Outs.{OutOnce, OutAreTold, MovedAreSame}
use Rattle.pq_book.proofs.Entries.{along, entries_from-append, entries_of-snoc, all_without, lines_below, entries_are_put_in}
use Rattle.pq_book.proofs.FirstIn.{TakesOut, waits, waits_put, found, false_true, same_line, same_before, one_put, reaches, legal_at, put_in_whole}

-- no two entries have one line
abbrev AreDistinct : List Entry → Type 0
AreDistinct [] = Unit {0}
AreDistinct (e ∷ es) = (waits e.line es ≡ false) × AreDistinct es

or_false : (a b : Bool) → a ≡ false → b ≡ false → (a || b) ≡ false
or_false true b h k = h
or_false false b h k = k

left_false : (a b : Bool) → (a || b) ≡ false → a ≡ false
left_false true b h = h
left_false false b h = refl

right_false : (a b : Bool) → (a || b) ≡ false → b ≡ false
right_false true b h = false_true (sym h)
right_false false b h = h

-- the line after all of theirs is none of theirs
later_waits_not : (n : ℕ) (es : List Entry) → AllByRecursion (λ e. e.line < n) es → waits n es ≡ false
later_waits_not n [] below = refl
later_waits_not n (e ∷ es) below = or_false (e.line == n) (waits n es) (ne_eqb e.line n (λ is. omega (arith, below.0, is))) (later_waits_not n es below.1)

-- what does not wait does not wait without an entry
still_gone : (i j : ℕ) (es : List Entry) → waits j es ≡ false → waits j (without i es) ≡ false
still_gone i j [] gone = refl
still_gone i j (e ∷ es) gone = at_choice (still_gone i j es (right_false (e.line == j) (waits j es) gone)) (e.line == i) where
  at_choice : waits j (without i es) ≡ false → (b : Bool) → waits j (if b then es else e ∷ without i es) ≡ false
  at_choice rest true = right_false (e.line == j) (waits j es) gone
  at_choice rest false = or_false (e.line == j) (waits j (without i es)) (left_false (e.line == j) (waits j es) gone) rest

-- nor what was taken out, where no two have one line
gone_without : (i : ℕ) (es : List Entry) → AreDistinct es → waits i (without i es) ≡ false
gone_without i [] h = refl
gone_without i (e ∷ es) h = at_choice (gone_without i es h.1) (e.line == i) refl where
  at_choice : waits i (without i es) ≡ false → (b : Bool) → (e.line == i) ≡ b → waits i (if b then es else e ∷ without i es) ≡ false
  at_choice rest true is =
      let own : e.line ≡ i = grind (arith, nat_tests, is) in
      subst (λ n. waits n es ≡ false) own h.0
  at_choice rest false is = or_false (e.line == i) (waits i (without i es)) is rest

distinct_without : (i : ℕ) (es : List Entry) → AreDistinct es → AreDistinct (without i es)
distinct_without i [] h = tt
distinct_without i (e ∷ es) h = at_choice (distinct_without i es h.1) (e.line == i) where
  at_choice : AreDistinct (without i es) → (b : Bool) → AreDistinct (if b then es else e ∷ without i es)
  at_choice rest true = h.1
  at_choice rest false = (still_gone i e.line es h.0, rest)

distinct_put : (e : Entry) (es : List Entry) → waits e.line es ≡ false → AreDistinct es → AreDistinct (with_entry e es)
distinct_put e [] new h = (refl, tt)
distinct_put e (f ∷ es) new h = at_choice (distinct_put e es (right_false (f.line == e.line) (waits e.line es) new) h.1) (entry_not_above f e) where
  other : (e.line == f.line) ≡ false
  other =
      let not_own : (f.line == e.line) ≡ false = left_false (f.line == e.line) (waits e.line es) new in
      grind (arith, nat_tests, not_own)

  at_choice : AreDistinct (with_entry e es) → (b : Bool) → AreDistinct (if b then f ∷ with_entry e es else e ∷ f ∷ es)
  at_choice rest true = (waits_put f.line e es ∙ or_false (e.line == f.line) (waits f.line es) other h.0, rest)
  at_choice rest false = (new, h)

pub distinct : (journal : List Line) → AreDistinct (entries_of journal)
distinct = along (λ journal. AreDistinct (entries_of journal)) tt
    (λ journal l h. subst AreDistinct (sym (entries_of-snoc journal l))
    (distinct_after (entries_of journal) (length journal + 1) l.operation (lines_below journal) h)) where
      distinct_after : (es : List Entry) (n : ℕ) (o : Operation) → AllByRecursion (λ e. e.line < n) es → AreDistinct es → AreDistinct (entries_after es n o)
      distinct_after es n (Asked (Push x)) below h = distinct_put (entry n x) es (later_waits_not n es below) h
      distinct_after [] n (Asked Pop) below h = tt
      distinct_after (e ∷ es) n (Asked Pop) below h = h.1
      distinct_after es n (Asked Least) below h = h
      distinct_after es n Shuts below h = h
      distinct_after es n (ByTicket (Remove i)) below h = distinct_without i es h
      distinct_after es n (ByTicket (Move i p)) below h = distinct_moved (item_at i es) where
        distinct_moved : (x : Option Item) → AreDistinct (with_moved n p x (without i es))
        distinct_moved None = distinct_without i es h
        distinct_moved (Some x) =
            distinct_put (entry n (item p x.value)) (without i es) (later_waits_not n (without i es) (all_without (λ f. f.line < n) i es below)) (distinct_without i es h)

-- nor where one of a later line is put in
moved_waits_not : (i n p : ℕ) (x : Option Item) (es : List Entry) → i < n → waits i es ≡ false → waits i (with_moved n p x es) ≡ false
moved_waits_not i n p None es less gone = gone
moved_waits_not i n p (Some x) es less gone =
    waits_put i (entry n (item p x.value)) es ∙ or_false (n == i) (waits i es) (ne_eqb n i (λ is. omega (arith, less, is))) gone

-- what does not wait does not wait after later lines
gone_for_good : (i n : ℕ) (es : List Entry) (ls : List Line) → i < n → waits i es ≡ false → waits i (entries_from es n ls) ≡ false
gone_for_good i n es [] less gone = gone
gone_for_good i n es (l ∷ ls) less gone = gone_for_good i (n + 1) (entries_after es n l.operation) ls (omega (arith, less)) (one_more es l.operation gone) where
  one_more : (fs : List Entry) (o : Operation) → waits i fs ≡ false → waits i (entries_after fs n o) ≡ false
  one_more fs (Asked (Push x)) gone = waits_put i (entry n x) fs ∙ or_false (n == i) (waits i fs) (ne_eqb n i (λ is. omega (arith, less, is))) gone
  one_more [] (Asked Pop) gone = refl
  one_more (f ∷ fs) (Asked Pop) gone = right_false (f.line == i) (waits i fs) gone
  one_more fs (Asked Least) gone = gone
  one_more fs Shuts gone = gone
  one_more fs (ByTicket (Remove j)) gone = still_gone j i fs gone
  one_more fs (ByTicket (Move j p)) gone = moved_waits_not i n p (item_at j fs) (without j fs) less (still_gone j i fs gone)

waits_within : (i : ℕ) (front back : List Entry) (e : Entry) → e.line ≡ i → waits i (front ++ e ∷ back) ≡ true
waits_within i [] back e is = ap (λ b. b || waits i back) (eq-eqb e.line i is)
waits_within i (f ∷ front) back e is = at_choice (waits_within i front back e is) (f.line == i) where
  at_choice : waits i (front ++ e ∷ back) ≡ true → (b : Bool) → (b || waits i (front ++ e ∷ back)) ≡ true
  at_choice rest true = refl
  at_choice rest false = rest

-- what a line takes out waits before it
waits_before : (i : ℕ) (es : List Entry) (o : Operation) → TakesOut i es o → waits i es ≡ true
waits_before i es o (inl (pops, (e, rest, first, is))) = ap (waits i) first ∙ waits_within i [] rest e is
waits_before i es o (inr (uses, s)) = ap (waits i) s.split ∙ waits_within i s.front s.back s.own s.is

gone_used : (i n : ℕ) (t : Ticketed) (es : List Entry) → i < n → AreDistinct es → ticket_of t ≡ i → waits i (entries_after es n (ByTicket t)) ≡ false
gone_used i n (Remove j) es less h own = subst (λ m. waits i (without m es) ≡ false) (sym own) (gone_without i es h)
gone_used i n (Move j p) es less h own =
    moved_waits_not i n p (item_at j es) (without j es) less (subst (λ m. waits i (without m es) ≡ false) (sym own) (gone_without i es h))

gone_after : (i n : ℕ) (es : List Entry) (o : Operation) → i < n → AreDistinct es → TakesOut i es o → waits i (entries_after es n o) ≡ false
gone_after i n es o less h (inl (pops, (e, rest, first, is))) =
    ap (λ p. waits i (entries_after es n p)) pops ∙ ap (λ fs. waits i (entries_after fs n (Asked Pop))) first
    ∙ subst (λ m. waits m rest ≡ false) is (subst AreDistinct first h).0
gone_after i n es o less h (inr ((t, uses, own), s)) = ap (λ p. waits i (entries_after es n p)) uses ∙ gone_used i n t es less h own

-- the line that takes it out
pub record Taker (journal : List Line) (i k : ℕ) : Type 0 where
  pub line : Line
  pub at : StandsAt journal k line
  pub out : TakesOut i (entries_of at.before) line.operation

taker : (journal : List Line) (i k : ℕ) → IsOutOn journal i k → Taker journal i k
taker journal i k (inl (l, at, pops, there)) = record { line = l; at = at; out = inl (pops, there) }
taker journal i k (inr (l, at, uses, (e, front, back, split, is))) =
    record { line = l; at = at; out = inr (uses, record { own = e; front = front; back = back; split = split; is = is }) }

-- an entry's line is one of those before
waits_below : (i n : ℕ) (es : List Entry) → waits i es ≡ true → AllByRecursion (λ e. e.line < n) es → i < n
waits_below i n es w below = let e = found (λ e. e.line < n) i es w below in omega (arith, e.1, e.2)

-- so no later line takes it out again
not_later : (journal : List Line) (i h k : ℕ) → h < k → Taker journal i h → Taker journal i k → ⊥
not_later journal i h k less s t =
    let a = s.at.before in
    let b = t.at.before in
    let gap = reaches a s.at.behind b t.at.behind s.line t.line (omega (arith, less, s.at.counted, t.at.counted)) (sym s.at.split ∙ t.at.split) in
    let older : i < 1 + length a =
    subst (λ n. i < n) (omega arith) (waits_below i (length a + 1) (entries_of a) (waits_before i (entries_of a) s.line.operation s.out) (lines_below a)) in
    let gone = gone_after i (1 + length a) (entries_of a) s.line.operation older (distinct a) s.out in
    let later : waits i (entries_of b) ≡ false =
    ap (λ ls. waits i (entries_of ls)) gap.split ∙ ap (waits i) (entries_from-append [] 1 a (s.line ∷ gap.others))
    ∙ gone_for_good i (1 + length a + 1) (entries_after (entries_of a) (1 + length a) s.line.operation) gap.others (omega (arith, older)) gone in
    false_true (sym later ∙ waits_before i (entries_of b) t.line.operation t.out)

pub out_once : OutOnce
out_once journal i h k first again = by_order (cases_lt h k) (cases_lt k h) where
  by_order : (h < k) ⊎ (k ≤ h) → (k < h) ⊎ (h ≤ k) → h ≡ k
  by_order (inl less) other = absurd (not_later journal i h k less (taker journal i h first) (taker journal i k again))
  by_order other (inl less) = absurd (not_later journal i k h less (taker journal i k again) (taker journal i h first))
  by_order (inr more) (inr less) = omega (arith, more, less)

-- the item that waits under a ticket is that of one of the entries
pub item_that_waits : (P : Entry → Type 0) (i : ℕ) (es : List Entry) → waits i es ≡ true → AllByRecursion P es
    → (e : Entry) × (e.line ≡ i) × P e × (item_at i es ≡ Some (item_of e))
item_that_waits P i [] w h = false_true w
item_that_waits P i (e ∷ es) w h = at_choice (λ v. item_that_waits P i es v h.1) (e.line == i) refl where
  at_choice : (waits i es ≡ true → (f : Entry) × (f.line ≡ i) × P f × (item_at i es ≡ Some (item_of f))) → (b : Bool) → (e.line == i) ≡ b
      → (f : Entry) × (f.line ≡ i) × P f × ((if b then Some (item_of e) else item_at i es) ≡ Some (item_of f))
  at_choice rest true is = (e, grind (arith, nat_tests, is), h.0, refl)
  at_choice rest false is = rest (sym (ap (λ b. b || waits i es) is) ∙ w)

-- what it replies
reply_out : (P : Entry → Type 0) (i : ℕ) (es : List Entry) (o : Operation) → TakesOut i es o → AllByRecursion P es
    → (e : Entry) × (e.line ≡ i) × P e × (reply_by es o ≡ Got (item_of e))
reply_out P i es o (inl (pops, (e, rest, first, is))) h =
    (e, is, (subst (AllByRecursion P) first h).0, ap (reply_by es) pops ∙ ap (λ fs. reply_by fs (Asked Pop)) first)
reply_out P i es o (inr ((t, uses, own), s)) h =
    let e = item_that_waits P i es (waits_before i es o (inr ((t, uses, own), s))) h in
    (e.0, e.1, e.2, ap (reply_by es) uses ∙ ap (λ n. taken (item_at n es)) own ∙ ap taken e.3)

pub out_are_told : OutAreTold
out_are_told journal i k l legal out at =
    let t = taker journal i k out in
    let own : t.line ≡ l = same_line journal k t.line l t.at at in
    let e = reply_out (λ f. IsPutInOn t.at.before f.line (item_of f)) i (entries_of t.at.before) t.line.operation t.out (entries_are_put_in t.at.before) in
    let replied : t.line.reply ≡ Got (item_of e.0) = legal_at [] 1 t.at.before t.line t.at.behind (subst IsLegal t.at.split legal) ∙ e.3 in (
      item_of e.0,
      put_in_whole journal k t.line t.at i (item_of e.0) (subst (λ n. IsPutInOn t.at.before n (item_of e.0)) e.1 e.2),
      ap (λ (m : Line). m.reply) (sym own) ∙ replied,
    )

pub moved_are_same : MovedAreSame
moved_are_same journal i k p x l at is (m, bt, uses, (own, front, back, split, line_is)) put =
    let es = entries_of at.before in
    let there : waits i es ≡ true =
    ap (λ ls. waits i (entries_of ls)) (same_before journal k l m at bt) ∙ ap (waits i) split ∙ waits_within i front back own line_is in
    let e = item_that_waits (λ f. IsPutInOn at.before f.line (item_of f)) i es there (entries_are_put_in at.before) in
    let again = put_in_whole journal k l at i (item_of e.0) (subst (λ n. IsPutInOn at.before n (item_of e.0)) e.1 e.2) in
    let same : item_of e.0 ≡ x = one_put journal i (item_of e.0) x again put in
    (l, at, ap (put_in es) is ∙ ap (under p) (e.3 ∙ ap Some same))
