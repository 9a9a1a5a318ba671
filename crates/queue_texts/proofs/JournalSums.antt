-- What one more line does to the sums and to the last serials.
use Rattle.std.proofs.Common.{◌≡◌, ℕ, ◌+◌, ◌<◌, ◌≤◌, ◌^◌, Bool, true, false, List, [], ◌∷◌, ◌++◌, length, length-append, sym, subst, arith}
use Rattle.std.specs.Prelude.{◌==◌, if◌then◌else◌}
use Rattle.std.specs.List.{AllByRecursion}
use Rattle.std.proofs.lemmas.Bool.Decides.{nat_tests}
use Rattle.pq_types.specs.Asked.{Operation}
use Rattle.pq_types.specs.declared.request.Request.TheVariants.{Push, Pop, Least}
use Rattle.pq_types.specs.Asked.{Reply}
use Rattle.pq_types.specs.declared.answer.Reply.TheVariants.{Pushed, Got, Empty, Least as LeastIs}
use Rattle.pq_types.specs.Asked.{Line}
use Rattle.pq_types.specs.declared.journal.TheConstants.{GREATEST_NUMBER}
use Rattle.pq_types.specs.History.{last_serial}
use Rattle.pq_types.specs.Operation.{Asked, ByTicket, Shuts, Remove, Move}
use Rattle.pq_types.specs.Laws.{SerialOfOneMore}
use Rattle.queue_texts.specs.declared.sums.JournalSums.{JournalSums}
use Rattle.queue_texts.specs.Sums.{sum_over, places_of, pushes, found, none_found, gots, empties, priority_in, priority_out, counted, HasRoom, AreSumsOf}

sum_more : (f : Line → ℕ) (ls : List Line) (l : Line) → sum_over f (ls ++ l ∷ []) ≡ sum_over f ls + f l
sum_more f [] l = omega arith
sum_more f (m ∷ ls) l = omega (arith, sum_more f ls l)

-- the sums of a journal that has so few lines have room for one more
pub has_room : (journal : List Line) (t : JournalSums) → AreSumsOf journal t → length journal ≤ GREATEST_NUMBER → HasRoom t
has_room journal t h few = record {
  places = omega (arith, h.few_places, few);
  pushed = omega (arith, h.few_pushed, few);
  got = omega (arith, h.few_got, few);
  empty = omega (arith, h.few_empty, few);
  sum_in = omega (arith, h.few_in, few);
  sum_out = omega (arith, h.few_out, few);
}

-- the line counts where its place is new
places_more : SerialOfOneMore → (ls : List Line) (l : Line) → AllByRecursion (λ m. 0 < m.serial) ls → 0 < l.serial
    → places_of (ls ++ l ∷ []) ≡ places_of ls + (if last_serial l.place ls == 0 then 1 else 0)
places_more last [] l all some = omega arith
places_more last (m ∷ ls) l all some =
    grind (arith, nat_tests, last m.place ls l, places_more last ls l all.1 some, all.0, some)

few_pushes : (o : Operation) → pushes o ≤ 1
few_pushes (Asked (Push x)) = omega arith
few_pushes (Asked Pop) = omega arith
few_pushes (Asked Least) = omega arith
few_pushes (ByTicket t) = omega arith
few_pushes Shuts = omega arith

few_found : (r : Reply) → found r ≤ 1
few_found Pushed = omega arith
few_found (Got x) = omega arith
few_found (LeastIs x) = omega arith
few_found Empty = omega arith

few_none_found : (r : Reply) → none_found r ≤ 1
few_none_found Pushed = omega arith
few_none_found (Got x) = omega arith
few_none_found (LeastIs x) = omega arith
few_none_found Empty = omega arith

few_gots : (o : Operation) (r : Reply) → gots o r ≤ 1
few_gots (Asked (Push x)) r = omega arith
few_gots (Asked Pop) r = few_found r
few_gots (Asked Least) r = omega arith
few_gots (ByTicket (Remove i)) r = few_found r
few_gots (ByTicket (Move i priority)) r = omega arith
few_gots Shuts r = omega arith

few_empties : (o : Operation) (r : Reply) → empties o r ≤ 1
few_empties (Asked (Push x)) r = omega arith
few_empties (Asked Pop) r = few_none_found r
few_empties (Asked Least) r = omega arith
few_empties (ByTicket t) r = few_none_found r
few_empties Shuts r = omega arith

few_of : (b : Bool) → (if b then 1 else 0) ≤ 1
few_of true = omega arith
few_of false = omega arith

-- the sums of one more line
pub sums_more : SerialOfOneMore → (ls : List Line) (l : Line) (t : JournalSums) (new : Bool) → AllByRecursion (λ m. 0 < m.serial) ls
    → 0 < l.serial → (counted t new l.operation l.reply).sum_in ≤ t.sum_in + 2 ^ 64 → (counted t new l.operation l.reply).sum_out ≤ t.sum_out + 2 ^ 64
    → new ≡ (last_serial l.place ls == 0) → AreSumsOf ls t → AreSumsOf (ls ++ l ∷ []) (counted t new l.operation l.reply)
sums_more last ls l t new all some small_in small_out is h =
    let longer : length (ls ++ l ∷ []) ≡ length ls + 1 = length-append {A = Line} ls (l ∷ []) in
    let places : places_of (ls ++ l ∷ []) ≡ places_of ls + (if new then 1 else 0) =
    subst (λ b. places_of (ls ++ l ∷ []) ≡ places_of ls + (if b then 1 else 0)) (sym is) (places_more last ls l all some) in
    record {
      places = omega (arith, h.places, places);
      pushed = omega (arith, h.pushed, sum_more (λ m. pushes m.operation) ls l);
      got = omega (arith, h.got, sum_more (λ m. gots m.operation m.reply) ls l);
      empty = omega (arith, h.empty, sum_more (λ m. empties m.operation m.reply) ls l);
      sum_in = omega (arith, h.sum_in, sum_more (λ m. priority_in m.operation m.reply) ls l);
      sum_out = omega (arith, h.sum_out, sum_more (λ m. priority_out m.operation m.reply) ls l);
      few_places = omega (arith, h.few_places, few_of new, longer);
      few_pushed = omega (arith, h.few_pushed, few_pushes l.operation, longer);
      few_got = omega (arith, h.few_got, few_gots l.operation l.reply, longer);
      few_empty = omega (arith, h.few_empty, few_empties l.operation l.reply, longer);
      few_in = omega (arith, h.few_in, small_in, longer);
      few_out = omega (arith, h.few_out, small_out, longer);
    }
