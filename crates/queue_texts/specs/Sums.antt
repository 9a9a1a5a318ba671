-- What the lines of a journal add up to.
use Rattle.std.specs.Prelude.{◌≡◌, ℕ, ◌+◌, ◌*◌, ◌<◌, ◌≤◌, ◌^◌, Bool, ◌==◌, if◌then◌else◌, List, [], ◌∷◌, length}
use Rattle.std.specs.List.{AllByRecursion}
use Rattle.pq_types.specs.Item.{Item}
use Rattle.pq_types.specs.Asked.{Operation}
use Rattle.pq_types.specs.declared.request.Request.TheVariants.{Push, Pop, Least}
use Rattle.pq_types.specs.Asked.{Reply}
use Rattle.pq_types.specs.declared.answer.Reply.TheVariants.{Pushed, Got, Empty, Least as LeastIs}
use Rattle.pq_types.specs.Asked.{Line}
use Rattle.pq_types.specs.declared.journal.TheConstants.{GREATEST_NUMBER}
use Rattle.pq_types.specs.History.{last_serial}
use Rattle.pq_types.specs.Operation.{Asked, ByTicket, Shuts, Remove, Move}
use Rattle.queue_texts.specs.declared.sums.JournalSums.{JournalSums}

-- what a line counts, added up over lines
abbrev pub sum_over : (Line → ℕ) → List Line → ℕ
sum_over f [] = 0
sum_over f (l ∷ ls) = f l + sum_over f ls

-- 1 for a push
abbrev pub pushes : Operation → ℕ
pushes (Asked (Push x)) = 1
pushes (Asked Pop) = 0
pushes (Asked Least) = 0
pushes (ByTicket t) = 0
pushes Shuts = 0

-- 1 where an item was found, and its priority
abbrev pub found : Reply → ℕ
found Pushed = 0
found (Got x) = 1
found (LeastIs x) = 0
found Empty = 0

abbrev pub priority_found : Reply → ℕ
priority_found Pushed = 0
priority_found (Got x) = x.priority
priority_found (LeastIs x) = 0
priority_found Empty = 0

-- 1 where none was
abbrev pub none_found : Reply → ℕ
none_found Pushed = 0
none_found (Got x) = 0
none_found (LeastIs x) = 0
none_found Empty = 1

-- the priority to which an item is moved, where it was found
abbrev pub priority_moved : ℕ → Reply → ℕ
priority_moved priority Pushed = 0
priority_moved priority (Got x) = priority
priority_moved priority (LeastIs x) = 0
priority_moved priority Empty = 0

-- 1 for a pop or a removal that took an item out
abbrev pub gots : Operation → Reply → ℕ
gots (Asked (Push x)) r = 0
gots (Asked Pop) r = found r
gots (Asked Least) r = 0
gots (ByTicket (Remove i)) r = found r
gots (ByTicket (Move i priority)) r = 0
gots Shuts r = 0

-- 1 for a pop, a removal or a move that found no item; a shut looked for none
abbrev pub empties : Operation → Reply → ℕ
empties (Asked (Push x)) r = 0
empties (Asked Pop) r = none_found r
empties (Asked Least) r = 0
empties (ByTicket t) r = none_found r
empties Shuts r = 0

-- the priority that is put in: of a push, or the new one of a move that found its item
abbrev pub priority_in : Operation → Reply → ℕ
priority_in (Asked (Push x)) r = x.priority
priority_in (Asked Pop) r = 0
priority_in (Asked Least) r = 0
priority_in (ByTicket (Remove i)) r = 0
priority_in (ByTicket (Move i priority)) r = priority_moved priority r
priority_in Shuts r = 0

-- the priority that is taken out: of a pop or a removal, or the old one of a move that found its item
abbrev pub priority_out : Operation → Reply → ℕ
priority_out (Asked (Push x)) r = 0
priority_out (Asked Pop) r = priority_found r
priority_out (Asked Least) r = 0
priority_out (ByTicket t) r = priority_found r
priority_out Shuts r = 0

-- how many places have a line: each is counted at its last one
abbrev pub places_of : List Line → ℕ
places_of [] = 0
places_of (l ∷ ls) = (if last_serial l.place ls == 0 then 1 else 0) + places_of ls

-- the priorities of these items, added up
abbrev pub sum_priorities : List Item → ℕ
sum_priorities [] = 0
sum_priorities (x ∷ xs) = x.priority + sum_priorities xs

-- the sums with one more operation and its reply, of a new place or not
abbrev pub counted : JournalSums → Bool → Operation → Reply → JournalSums
counted t new_place o r =
    record {
      places = t.places + (if new_place then 1 else 0);
      pushed = t.pushed + pushes o;
      got = t.got + gots o r;
      empty = t.empty + empties o r;
      sum_in = t.sum_in + priority_in o r;
      sum_out = t.sum_out + priority_out o r;
    }

-- far less than the sums have room for
pub record HasRoom (t : JournalSums) : Type 0 where
  pub places : t.places < 2 ^ 60
  pub pushed : t.pushed < 2 ^ 60
  pub got : t.got < 2 ^ 60
  pub empty : t.empty < 2 ^ 60
  pub sum_in : t.sum_in < 2 ^ 125
  pub sum_out : t.sum_out < 2 ^ 125

-- the sums of these lines, whose sums are no more than so many wide priorities
pub record AreSumsOf (journal : List Line) (t : JournalSums) : Type 0 where
  pub places : t.places ≡ places_of journal
  pub pushed : t.pushed ≡ sum_over (λ l. pushes l.operation) journal
  pub got : t.got ≡ sum_over (λ l. gots l.operation l.reply) journal
  pub empty : t.empty ≡ sum_over (λ l. empties l.operation l.reply) journal
  pub sum_in : t.sum_in ≡ sum_over (λ l. priority_in l.operation l.reply) journal
  pub sum_out : t.sum_out ≡ sum_over (λ l. priority_out l.operation l.reply) journal
  pub few_places : t.places ≤ length journal
  pub few_pushed : t.pushed ≤ length journal
  pub few_got : t.got ≤ length journal
  pub few_empty : t.empty ≤ length journal
  pub few_in : t.sum_in ≤ 2 ^ 64 * length journal
  pub few_out : t.sum_out ≤ 2 ^ 64 * length journal

-- the sums of these lines, which are no more than a journal may have, each under a serial from 1 on
pub record CountUpTo (journal : List Line) (t : JournalSums) : Type 0 where
  pub few : length journal ≤ GREATEST_NUMBER
  pub serials : AllByRecursion (λ l. 0 < l.serial) journal
  pub sums : AreSumsOf journal t
