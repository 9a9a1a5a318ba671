-- What a round more makes of a worker.
use Rattle.std.proofs.Common.{◌≡◌, ℕ, ◌+◌, ◌*◌, ◌/◌, div-mul-le_self, le_of_mul-le-mul_right, Bool, ◌<◌, ◌≤◌, ◌++◌, map, append_assoc, append-nil, sym, ◌∙◌, ap, arith, add-one, subst, Result, Ok, Err, IfOk}
use Rattle.std.specs.List.{range_with_len, sum}
use Rattle.pq_types.specs.declared.request.Request.TheVariants.{Push}
use Rattle.pq_types.specs.Operation.{Asked}
use Rattle.desk_core.specs.declared.model.Call.{Call}
use Rattle.flat_queue.specs.Limits.{most_posts}
use Rattle.flat_queue.specs.Members.{QueueName, Joined}
use Rattle.queue_load.specs.Lines.{MayPostAll}
use Rattle.program_words.specs.Plan.{load_item, priorities, requests_of, all_requests}
use Rattle.queue_load.specs.Tally.{IsVeryLow}
use Rattle.queue_load.specs.Worker.{HasCounted, HasMadeMore, IsShare, HasMade}
use Rattle.program_words.specs.declared.plan.Plan.{Plan}
use Rattle.queue_load.specs.declared.tally.Tally.{Tally}
use Rattle.queue_load.proofs.Widths.{less_often, most_factor, most_parts, once_more}

-- the requests with those of a round more
rounds_more : (wide : Bool) (worker pushes pops rounds : ℕ) → all_requests wide worker pushes pops (rounds + 1) ≡ all_requests wide worker pushes pops rounds ++ requests_of wide worker pushes pops
rounds_more wide worker pushes pops rounds = ap (all_requests wide worker pushes pops) (add-one rounds)

-- pops behind pushes are a round
pub round_of : {wide : Bool} → (before : Joined) (tally : Tally) (worker pushes pops : ℕ) (mid m : Joined) (u t : Tally) → HasMadeMore wide before tally worker pushes 0 mid u → HasMadeMore wide mid u worker 0 pops m t → HasMadeMore wide before tally worker pushes pops m t
round_of {wide = wide} before tally worker pushes pops mid m u t h j =
    let posts = j.posts in let posted = h.posts in
    let a = h.counted in let b = j.counted in
    let pushed = a.pushed in let popped = a.popped in let sum_in = a.sum_in in let few_in = a.few_in in let few_out = a.few_out in
    let pushed' = b.pushed in let popped' = b.popped in let sum_in' = b.sum_in in let few_in' = b.few_in in let few_out' = b.few_out in
    let had = map (λ (c : Call). c.operation) before.pen.mine in
    record {
      queue_is = j.queue_is ∙ h.queue_is;
      id = j.id ∙ h.id;
      idle = j.idle;
      leads_not = j.leads_not;
      posts = omega arith;
      requests = j.requests ∙ ap (λ rs. rs ++ requests_of wide worker 0 pops) h.requests ∙ append_assoc had (requests_of wide worker pushes 0) (requests_of wide worker 0 pops)
          ∙ ap (λ rs. had ++ (rs ++ requests_of wide worker 0 pops)) (append-nil (map (λ (index : ℕ). Asked (Push (load_item wide worker index))) (range_with_len 0 pushes)));
      tally_is = j.tally_is;
      counted = record { pushed = omega arith; popped = omega arith; sum_in = omega arith; few_in = omega arith; few_out = omega arith };
    }

share_more : {wide : Bool} → (worker : ℕ) (plan : Plan) (rounds : ℕ) (t t' : Tally) → IsShare wide worker plan rounds t → HasCounted wide t worker plan.pushes plan.pops t' → IsShare wide worker plan (rounds + 1) t'
share_more {wide = wide} worker plan rounds t t' s h =
    let pushed = s.pushed in let popped = s.popped in let sum_in = s.sum_in in let few_in = s.few_in in let few_out = s.few_out in
    let pushed' = h.pushed in let popped' = h.popped in let sum_in' = h.sum_in in let few_in' = h.few_in in let few_out' = h.few_out in
    let pushes = once_more rounds plan.pushes in let pops = once_more rounds plan.pops in let sums = once_more rounds (sum (priorities wide worker plan.pushes)) in
    record {
      pushed = omega (arith, pushes);
      popped = omega (arith, pops);
      sum_in = omega (arith, sums);
      few_in = omega (arith, pushes);
      few_out = omega (arith, pops);
    }

-- the worker has made a round more
pub round_more : {wide : Bool} → (queue : QueueName) (worker : ℕ) (plan : Plan) (rounds : ℕ) (m m' : Joined) (t t' : Tally) → HasMade wide queue worker plan rounds m t → HasMadeMore wide m t worker plan.pushes plan.pops m' t' → HasMade wide queue worker plan (rounds + 1) m' t'
round_more {wide = wide} queue worker plan rounds m m' t t' h j =
    record {
      queue_is = j.queue_is ∙ h.queue_is;
      id = j.id ∙ h.id;
      idle = j.idle;
      leads_not = j.leads_not;
      posts = j.posts ∙ ap (λ n. n + (plan.pushes + plan.pops)) h.posts ∙ sym (once_more rounds (plan.pushes + plan.pops));
      requests = j.requests ∙ ap (λ rs. rs ++ requests_of wide worker plan.pushes plan.pops) h.requests ∙ sym (rounds_more wide worker plan.pushes plan.pops rounds);
      tally = j.tally_is;
      share = share_more worker plan rounds t t' h.share j.counted;
    }

-- the tally of a worker that has a round to make is very low
pub low_share : {wide : Bool} → (worker : ℕ) (plan : Plan) (rounds : ℕ) (t : Tally) → IsShare wide worker plan rounds t → rounds ≤ 1000000 → plan.pushes ≤ 8192 → plan.pops ≤ 8192 → IsVeryLow t
low_share {wide = wide} worker plan rounds t s few few_pushes few_pops =
    let pushed = s.pushed in let popped = s.popped in let few_in = s.few_in in let few_out = s.few_out in
    let a = less_often rounds 1000000 plan.pushes few in let b = less_often rounds 1000000 plan.pops few in
    let most_in = most_factor wide (1000003 * (rounds * plan.pushes)) in let most_out = most_parts wide (rounds * plan.pops) in
    record { pushed = omega (arith, a); got = omega (arith, b); empty = omega (arith, b); sum_in = omega (arith, a, most_in); sum_out = omega (arith, b, most_out) }

-- a worker that has a round to make may post all its requests
pub may_post : {wide : Bool} → (queue : QueueName) (worker : ℕ) (plan : Plan) (rounds : ℕ) (m : Joined) (t : Tally) → HasMade wide queue worker plan rounds m t → MayPostAll queue plan → rounds < plan.rounds → m.pen.posts + (plan.pushes + plan.pops) ≤ most_posts m.queue.room
may_post {wide = wide} queue worker plan rounds m t h may lt =
    let most = ap (λ (q : QueueName). most_posts q.room) h.queue_is in
    let posts = h.posts in
    let enough = less_often (rounds + 1) plan.rounds (plan.pushes + plan.pops) (omega arith) in
    omega (arith, most, posts, enough, may, once_more rounds (plan.pushes + plan.pops))

-- so whoever was not refused its pops has made a round
pub ok_round : {wide : Bool} → {E : Type 0} (before : Joined) (tally : Tally) (worker same pushes pops : ℕ) (mid : Joined) (u t : Tally) (result : Result Joined E) → HasMadeMore wide before tally worker pushes 0 mid u → same ≡ worker → IfOk result (λ m. HasMadeMore wide mid u same 0 pops m t) → IfOk result (λ m. HasMadeMore wide before tally worker pushes pops m t)
ok_round {wide = wide} before tally worker same pushes pops mid u t (Ok m) h e j = round_of before tally worker pushes pops mid m u t h (subst (λ w. HasMadeMore wide mid u w 0 pops m t) e j)
ok_round {wide = wide} before tally worker same pushes pops mid u t (Err refused) h e j = j

-- so many requests are no more whole rounds than these have
pub whole_rounds : (made rounds each : ℕ) → made ≤ rounds * each → 0 < each → made / each ≤ rounds
whole_rounds made rounds each most some = le_of_mul-le-mul_right {m = made / each} {n = rounds} {k = each} (omega (arith, div-mul-le_self made each, most)) some
