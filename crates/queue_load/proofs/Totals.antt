-- The tallies of workers added up, one after another.
use Rattle.std.proofs.Common.{◌≡◌, ℕ, ◌+◌, ◌*◌, ◌^◌, ◌<◌, ◌≤◌, Bool, List, [], ◌∷◌, length, take, get_or, map, sym, ◌∙◌, ap, arith, rules}
use Rattle.std.specs.List.{sum, range_with_len}
use Rattle.std.proofs.lemmas.List.FromFn.{sum_by-map-range_with_len_more}
use Rattle.std.proofs.lemmas.List.{take_more, map-append}
use Rattle.std.proofs.lemmas.List.Sums.{fold_push}
use Rattle.queue_load.specs.Load.{IsTotal}
use Rattle.program_words.specs.Plan.{priorities, IsLoad}
use Rattle.queue_load.specs.Tally.{nothing, both, all_together, IsSmall}
use Rattle.queue_load.specs.Worker.{IsShare}
use Rattle.program_words.specs.declared.plan.Plan.{Plan}
use Rattle.queue_load.specs.declared.tally.Tally.{Tally}
use Rattle.queue_load.specs.declared.worker.EndedWorker.{EndedWorker}
use Rattle.queue_load.proofs.Widths.{less_often, most_factor, most_parts, once_more, so_often}

-- the total of these workers, of whom there are so many
pub record IsTotalOf {S P : Type 0} (wide : Bool) (number : ℕ) (plan : Plan) (worked : List (EndedWorker S P)) (t : Tally) : Type 0 where
  pub total : IsTotal wide number plan t
  pub added : t ≡ all_together (map (λ w. w.tally) worked)
  pub few_pushed : t.pushed ≤ 8192000000 * number
  pub few_popped : t.got + t.empty ≤ 8192000000 * number
  pub small_in : t.sum_in ≤ 2 ^ 86 * number
  pub small_out : t.sum_out ≤ 2 ^ 97 * number

-- a total of no more workers than there may be is small
pub small_total : {wide : Bool} → {S P : Type 0} (number : ℕ) (plan : Plan) (worked : List (EndedWorker S P)) (t : Tally) → IsTotalOf wide number plan worked t → number ≤ 64 → IsSmall t
small_total {wide = wide} number plan worked t h few =
    let pushed = h.few_pushed in let popped = h.few_popped in let sum_in = h.small_in in let sum_out = h.small_out in
    record { pushed = omega arith; got = omega arith; empty = omega arith; sum_in = omega arith; sum_out = omega arith }

-- the tallies of one worker more, added up
added_more : {S P : Type 0} (worked : List (EndedWorker S P)) (number : ℕ) (d : EndedWorker S P) → number < length worked → all_together (map (λ (w : EndedWorker S P). w.tally) (take (number + 1) worked)) ≡ both (all_together (map (λ (w : EndedWorker S P). w.tally) (take number worked))) (get_or worked number d).tally
added_more {S = S} {P = P} worked number d lt =
    let tally = λ (w : EndedWorker S P). w.tally in
    let before = take number worked in
    let one = get_or worked number d in
    ap (λ ws. all_together (map tally ws)) (take_more worked number d lt) ∙ ap all_together (map-append tally before (one ∷ [])) ∙ fold_push both nothing (map tally before) (tally one)

-- a tally of all rounds is no more than that of a million rounds of the most
few_shared : {wide : Bool} → (number : ℕ) (plan : Plan) (u : Tally) → IsLoad plan.workers plan.pushes plan.pops plan.rounds → IsShare wide number plan plan.rounds u → (plan.rounds * plan.pushes ≤ 8192000000) × (plan.rounds * plan.pops ≤ 8192000000)
few_shared {wide = wide} number plan u fits s =
    let few_pushes = fits.few_pushes in let fewer_pops = fits.fewer_pops in
    let often = less_often plan.rounds 1000000 8192 fits.few_rounds in (
      omega (arith, often, so_often plan.rounds plan.pushes 8192 few_pushes),
      omega (arith, often, so_often plan.rounds plan.pops 8192 (omega arith)),
    )

-- a worker's tally of all rounds is small
pub small_share : {wide : Bool} → (number : ℕ) (plan : Plan) (u : Tally) → IsLoad plan.workers plan.pushes plan.pops plan.rounds → IsShare wide number plan plan.rounds u → IsSmall u
small_share {wide = wide} number plan u fits s =
    let few = few_shared number plan u fits s in
    let pushed = s.pushed in let popped = s.popped in let few_in = s.few_in in let few_out = s.few_out in
    let most_in = most_factor wide (1000003 * (plan.rounds * plan.pushes)) in let most_out = most_parts wide (plan.rounds * plan.pops) in
    record { pushed = omega (arith, few.0); got = omega (arith, few.1); empty = omega (arith, few.1); sum_in = omega (arith, few.0, most_in); sum_out = omega (arith, few.1, most_out) }

-- so many rounds of two sums are so many rounds of each
both_often : (rounds a b : ℕ) → rounds * (a + b) ≡ rounds * a + rounds * b
both_often rounds a b = search rules

-- the total with one worker more
pub total_more : {wide : Bool} → {S P : Type 0} (worked : List (EndedWorker S P)) (number : ℕ) (plan : Plan) (d : EndedWorker S P) (t t' : Tally) → IsLoad plan.workers plan.pushes plan.pops plan.rounds → number < length worked → IsShare wide (number + 1) plan plan.rounds (get_or worked number d).tally → IsTotalOf wide number plan (take number worked) t → t' ≡ both t (get_or worked number d).tally → IsTotalOf wide (number + 1) plan (take (number + 1) worked) t'
total_more {wide = wide} {S = S} {P = P} worked number plan d t t' fits lt s h e =
    let u = (get_or worked number d).tally in
    let few = few_shared (number + 1) plan u fits s in
    let pushed = ap (λ (x : Tally). x.pushed) e in let got = ap (λ (x : Tally). x.got) e in let empty = ap (λ (x : Tally). x.empty) e in
    let sum_in = ap (λ (x : Tally). x.sum_in) e in let sum_out = ap (λ (x : Tally). x.sum_out) e in
    let was_pushed = h.total.pushed in let was_popped = h.total.popped in
    let more_pushed = s.pushed in let more_popped = s.popped in
    let few_in = s.few_in in let few_out = s.few_out in
    let a = h.few_pushed in let b = h.few_popped in let i = h.small_in in let o = h.small_out in
    let sums = sum (map (λ worker. sum (priorities wide worker plan.pushes)) (range_with_len 1 number)) in
    let one = sum (priorities wide (number + 1) plan.pushes) in
    record {
      total = record {
        pushed = omega (arith, once_more number (plan.rounds * plan.pushes));
        popped = omega (arith, once_more number (plan.rounds * plan.pops));
        sum_in = sum_in ∙ ap (λ n. n + u.sum_in) h.total.sum_in ∙ ap (λ n. plan.rounds * sums + n) s.sum_in ∙ sym (both_often plan.rounds sums one)
            ∙ ap (λ n. plan.rounds * n) (sym (sum_by-map-range_with_len_more (λ x. x) (λ worker. sum (priorities wide worker plan.pushes)) 1 number (number + 1) (omega arith)));
      };
      added = e ∙ ap (λ x. both x u) h.added ∙ sym (added_more worked number d lt);
      few_pushed = omega (arith, few.0);
      few_popped = omega (arith, few.1);
      small_in = omega (arith, few.0, most_factor wide (1000003 * (plan.rounds * plan.pushes)));
      small_out = omega (arith, few.1, most_parts wide (plan.rounds * plan.pops));
    }
