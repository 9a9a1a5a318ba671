-- What one answered request more makes of a worker.
use Rattle.std.proofs.Common.{◌≡◌, ℕ, ◌+◌, ◌*◌, ◌<◌, ◌≤◌, inl, inr, Bool, true, List, [], ◌∷◌, ◌++◌, map, append-nil, append_assoc, refl, sym, ◌∙◌, ap, arith}
use Rattle.std.specs.List.{range_with_len, sum}
use Rattle.std.proofs.lemmas.List.FromFn.{map-range_with_len_more, sum_by-map-range_with_len_more}
use Rattle.std.proofs.lemmas.List.{map-append}
use Rattle.std.proofs.lemmas.List.Sums.{fold_push}
use Rattle.pq_types.specs.Item.{Item, bound_of}
use Rattle.pq_types.specs.Asked.{Request}
use Rattle.pq_types.specs.declared.request.Request.TheVariants.{Push, Pop}
use Rattle.pq_types.specs.Asked.{Reply}
use Rattle.pq_types.specs.Operation.{Asked, request_of}
use Rattle.desk_core.specs.Calls.{call}
use Rattle.desk_core.specs.declared.model.Call.{Call}
use Rattle.desk_core.specs.Knows.{IsReplyTo}
use Rattle.announce_board.specs.Tokens.{is_idle}
use Rattle.flat_queue.specs.Limits.{most_posts}
use Rattle.flat_queue.specs.Members.{QueueName, Coming, Joined, Joins}
use Rattle.program_words.specs.Plan.{load_item, part_factor, priority_of, priorities, requests_of}
use Rattle.queue_load.specs.Tally.{nothing, counted, tally_of, IsSmall, IsLow, IsVeryLow}
use Rattle.queue_load.specs.Worker.{IsAnswered, HasCounted, HasMadeMore, HasMade}
use Rattle.program_words.specs.declared.plan.Plan.{Plan}
use Rattle.queue_load.specs.declared.tally.Tally.{Tally}
use Rattle.queue_load.proofs.Widths.{most_factor, most_parts}

-- a tally that was very low is low after no more than a round
pub low_counted : {wide : Bool} → (before : Tally) (worker pushes pops : ℕ) (t : Tally) → IsVeryLow before → HasCounted wide before worker pushes pops t → pushes ≤ 8192 → pops ≤ 8192 → IsLow t
low_counted {wide = wide} before worker pushes pops t low h few_pushes few_pops =
    let pushed = h.pushed in let popped = h.popped in let few_in = h.few_in in let few_out = h.few_out in
    let a = low.pushed in let b = low.got in let c = low.empty in let i = low.sum_in in let o = low.sum_out in
    record {
      pushed = omega arith;
      got = omega arith;
      empty = omega arith;
      sum_in = omega (arith, most_factor wide (1000003 * pushes));
      sum_out = omega (arith, most_parts wide pops);
    }

-- and one that was low is small then
pub small_counted : {wide : Bool} → (before : Tally) (worker pushes pops : ℕ) (t : Tally) → IsLow before → HasCounted wide before worker pushes pops t → pushes ≤ 8192 → pops ≤ 8192 → IsSmall t
small_counted {wide = wide} before worker pushes pops t low h few_pushes few_pops =
    let pushed = h.pushed in let popped = h.popped in let few_in = h.few_in in let few_out = h.few_out in
    let a = low.pushed in let b = low.got in let c = low.empty in let i = low.sum_in in let o = low.sum_out in
    record {
      pushed = omega arith;
      got = omega arith;
      empty = omega arith;
      sum_in = omega (arith, most_factor wide (1000003 * pushes));
      sum_out = omega (arith, most_parts wide pops);
    }

-- what is low is small
pub small_if_low : (t : Tally) → IsLow t → IsSmall t
small_if_low t low =
    let a = low.pushed in let b = low.got in let c = low.empty in let i = low.sum_in in let o = low.sum_out in
    record { pushed = omega arith; got = omega arith; empty = omega arith; sum_in = omega arith; sum_out = omega arith }

-- a member that may post so often more than before may post once more while it has posted less
pub posts_left : {wide : Bool} → (before : Joined) (tally : Tally) (worker pushes pops most : ℕ) (m : Joined) (t : Tally) → HasMadeMore wide before tally worker pushes pops m t → before.pen.posts + most ≤ most_posts before.queue.room → pushes + pops < most → m.pen.posts < most_posts m.queue.room
posts_left {wide = wide} before tally worker pushes pops most m t h few lt =
    let room = ap (λ (q : QueueName). most_posts q.room) h.queue_is in let posts = h.posts in
    omega (arith, room, posts, few, lt)

none_of : (amount : ℕ) → 0 ≡ 0 * amount
none_of amount = omega arith

-- a worker that has joined has made no round yet
pub begun : {wide : Bool} → (queue : QueueName) (plan : Plan) (before : Coming) (m : Joined) → Joins before m → before.queue ≡ queue → HasMade wide queue before.comer.id plan 0 m nothing
begun {wide = wide} queue plan before m j here =
    record {
      queue_is = j.queue ∙ here;
      id = j.id;
      idle = ap (λ p. is_idle p.standing) j.pen;
      leads_not = ap (λ p. p.leading) j.pen;
      posts = ap (λ p. p.posts) j.pen ∙ none_of (plan.pushes + plan.pops);
      requests = ap (λ p. map (λ (c : Call). c.operation) p.mine) j.pen;
      tally = sym (ap (λ p. tally_of p.mine) j.pen);
      share = record {
        pushed = none_of plan.pushes;
        popped = none_of plan.pops;
        sum_in = none_of (sum (priorities wide before.comer.id plan.pushes));
        few_in = omega arith;
        few_out = omega arith;
      };
    }

-- a worker that has made whole rounds has made none of the next
pub nothing_more : {wide : Bool} → (queue : QueueName) (worker : ℕ) (plan : Plan) (rounds : ℕ) (m : Joined) (t : Tally) → HasMade wide queue worker plan rounds m t → HasMadeMore wide m t m.comer.id 0 0 m t
nothing_more {wide = wide} queue worker plan rounds m t h =
    record {
      queue_is = refl;
      id = refl;
      idle = h.idle;
      leads_not = h.leads_not;
      posts = omega arith;
      requests = sym (append-nil (map (λ (c : Call). c.operation) m.pen.mine));
      tally_is = h.tally;
      counted = record { pushed = omega arith; popped = omega arith; sum_in = omega arith; few_in = omega arith; few_out = omega arith };
    }

-- nor has one that has made a part of a round made more of it
pub none_yet : {wide : Bool} → (before : Joined) (tally : Tally) (worker pushes pops : ℕ) (m : Joined) (t : Tally) → HasMadeMore wide before tally worker pushes pops m t → HasMadeMore wide m t worker 0 0 m t
none_yet {wide = wide} before tally worker pushes pops m t h =
    record {
      queue_is = refl;
      id = refl;
      idle = h.idle;
      leads_not = h.leads_not;
      posts = omega arith;
      requests = sym (append-nil (map (λ (c : Call). c.operation) m.pen.mine));
      tally_is = h.tally_is;
      counted = record { pushed = omega arith; popped = omega arith; sum_in = omega arith; few_in = omega arith; few_out = omega arith };
    }

-- the tally of one call more
tally_more : (calls : List Call) (number serial : ℕ) (request : Request) (reply : Reply) → tally_of (calls ++ call number serial request reply ∷ []) ≡ counted (tally_of calls) request reply
tally_more calls number serial request reply = fold_push (λ t (c : Call). counted t (request_of c.operation) c.reply) nothing calls (call number serial request reply)

-- the requests of one call more
requests_more : (calls mine : List Call) (number serial : ℕ) (request : Request) (reply : Reply) → mine ≡ calls ++ call number serial request reply ∷ [] → map (λ c. c.operation) mine ≡ map (λ c. c.operation) calls ++ Asked request ∷ []
requests_more calls mine number serial request reply e = ap (map (λ (c : Call). c.operation)) e ∙ map-append (λ (c : Call). c.operation) calls (call number serial request reply ∷ [])

-- what any answered request leaves of a worker
module _ {wide : Bool} (before : Joined) (tally : Tally) (worker pushes pops : ℕ) (m m' : Joined) (t t' : Tally) (request : Request) (h : HasMadeMore wide before tally worker pushes pops m t) (a : IsAnswered wide m t request m' t') where
  same_queue : m'.queue ≡ before.queue
  same_queue = a.called.member.stays.queue ∙ h.queue_is

  same_id : m'.comer.id ≡ before.comer.id
  same_id = a.called.member.stays.id ∙ h.id

  idle_again : is_idle m'.pen.standing ≡ true
  idle_again = ap is_idle a.called.member.standing

  one_post : m'.pen.posts ≡ before.pen.posts + (pushes + pops) + 1
  one_post = a.called.member.posts ∙ ap (λ n. n + 1) h.posts

  one_call : map (λ c. c.operation) m'.pen.mine ≡ map (λ c. c.operation) before.pen.mine ++ (requests_of wide worker pushes pops ++ Asked request ∷ [])
  one_call =
      requests_more m.pen.mine m'.pen.mine a.number (m.pen.posts + 1) request a.reply a.called.member.mine ∙ ap (λ rs. rs ++ Asked request ∷ []) h.requests
      ∙ append_assoc (map (λ c. c.operation) before.pen.mine) (requests_of wide worker pushes pops) (Asked request ∷ [])

  still_tally : t' ≡ tally_of m'.pen.mine
  still_tally =
      a.counts ∙ ap (λ u. counted u request a.reply) h.tally_is ∙ sym (tally_more m.pen.mine a.number (m.pen.posts + 1) request a.reply)
      ∙ sym (ap tally_of a.called.member.mine)

-- the worker's list of pushes, one longer
pushes_more : (wide : Bool) (worker pushes : ℕ) → requests_of wide worker pushes 0 ++ Asked (Push (load_item wide worker pushes)) ∷ [] ≡ requests_of wide worker (pushes + 1) 0
pushes_more wide worker pushes =
    let push = λ (index : ℕ). Asked (Push (load_item wide worker index)) in
    ap (λ rs. rs ++ push pushes ∷ []) (append-nil (map push (range_with_len 0 pushes)))
    ∙ sym (map-range_with_len_more push 0 pushes pushes (omega arith))
    ∙ sym (append-nil (map push (range_with_len 0 (pushes + 1))))

-- and its list of pops
pops_more : (wide : Bool) (worker pushes pops : ℕ) → requests_of wide worker pushes pops ++ Asked Pop ∷ [] ≡ requests_of wide worker pushes (pops + 1)
pops_more wide worker pushes pops =
    let pushed = map (λ (index : ℕ). Asked (Push (load_item wide worker index))) (range_with_len 0 pushes) in
    let pop = λ (index : ℕ). Asked Pop in
    append_assoc pushed (map pop (range_with_len 0 pops)) (Asked Pop ∷ []) ∙ ap (λ rs. pushed ++ rs) (sym (map-range_with_len_more pop 0 pops pops (omega arith)))

push_share : {wide : Bool} → (tally : Tally) (worker pushes : ℕ) (t t' : Tally) (item : Item) (reply : Reply) → HasCounted wide tally worker pushes 0 t → t' ≡ counted t (Push item) reply → item ≡ load_item wide worker pushes → item.priority < part_factor wide * 1000003 → HasCounted wide tally worker (pushes + 1) 0 t'
push_share {wide = wide} tally worker pushes t t' item reply s e item_is low =
    let pushed = ap (λ (u : Tally). u.pushed) e in let got = ap (λ (u : Tally). u.got) e in let empty = ap (λ (u : Tally). u.empty) e in
    let sum_in = ap (λ (u : Tally). u.sum_in) e in let sum_out = ap (λ (u : Tally). u.sum_out) e in
    let was = s.pushed in let popped = s.popped in let few_in = s.few_in in let few_out = s.few_out in let was_in = s.sum_in in
    let priority = ap (λ (x : Item). x.priority) item_is in
    let one_more : sum (priorities wide worker (pushes + 1)) ≡ sum (priorities wide worker pushes) + priority_of wide worker pushes = sum_by-map-range_with_len_more (λ x. x) (priority_of wide worker) 0 pushes pushes (omega arith) in
    record {
      pushed = omega arith;
      popped = omega arith;
      sum_in = sum_in ∙ omega (arith, was_in, priority, one_more);
      few_in = omega arith;
      few_out = omega arith;
    }

-- the worker has pushed its next item
pub push_step : {wide : Bool} → (before : Joined) (tally : Tally) (worker pushes : ℕ) (m m' : Joined) (t t' : Tally) (item : Item) → HasMadeMore wide before tally worker pushes 0 m t → IsAnswered wide m t (Push item) m' t' → item ≡ load_item wide worker pushes → item.priority < part_factor wide * 1000003 → HasMadeMore wide before tally worker (pushes + 1) 0 m' t'
push_step {wide = wide} before tally worker pushes m m' t t' item h a item_is low =
    let posts = one_post before tally worker pushes 0 m m' t t' (Push item) h a in
    let had = map (λ (c : Call). c.operation) before.pen.mine in
    record {
      queue_is = same_queue before tally worker pushes 0 m m' t t' (Push item) h a;
      id = same_id before tally worker pushes 0 m m' t t' (Push item) h a;
      idle = idle_again before tally worker pushes 0 m m' t t' (Push item) h a;
      leads_not = a.called.member.stays.leading ∙ h.leads_not;
      posts = omega arith;
      requests = one_call before tally worker pushes 0 m m' t t' (Push item) h a ∙ ap (λ x. had ++ (requests_of wide worker pushes 0 ++ Asked (Push x) ∷ [])) item_is ∙ ap (λ rs. had ++ rs) (pushes_more wide worker pushes);
      tally_is = still_tally before tally worker pushes 0 m m' t t' (Push item) h a;
      counted = push_share tally worker pushes t t' item a.reply h.counted a.counts item_is low;
    }

pop_share : {wide : Bool} → (tally : Tally) (worker pushes pops : ℕ) (t t' : Tally) (reply : Reply) → HasCounted wide tally worker pushes pops t → t' ≡ counted t Pop reply → IsReplyTo Pop reply → t'.sum_out ≤ t.sum_out + bound_of wide → HasCounted wide tally worker pushes (pops + 1) t'
pop_share {wide = wide} tally worker pushes pops t t' reply s e (inl none) few =
    let counts = e ∙ ap (counted t Pop) none in
    let pushed = ap (λ (u : Tally). u.pushed) counts in let got = ap (λ (u : Tally). u.got) counts in let empty = ap (λ (u : Tally). u.empty) counts in
    let sum_in = ap (λ (u : Tally). u.sum_in) counts in
    let was = s.pushed in let popped = s.popped in let few_in = s.few_in in let few_out = s.few_out in
    record { pushed = omega arith; popped = omega arith; sum_in = sum_in ∙ s.sum_in; few_in = omega arith; few_out = omega arith }
pop_share {wide = wide} tally worker pushes pops t t' reply s e (inr (x, some)) few =
    let counts = e ∙ ap (counted t Pop) some in
    let pushed = ap (λ (u : Tally). u.pushed) counts in let got = ap (λ (u : Tally). u.got) counts in let empty = ap (λ (u : Tally). u.empty) counts in
    let sum_in = ap (λ (u : Tally). u.sum_in) counts in
    let was = s.pushed in let popped = s.popped in let few_in = s.few_in in let few_out = s.few_out in
    record { pushed = omega arith; popped = omega arith; sum_in = sum_in ∙ s.sum_in; few_in = omega arith; few_out = omega arith }

-- the worker has popped once more
pub pop_step : {wide : Bool} → (before : Joined) (tally : Tally) (worker pushes pops : ℕ) (m m' : Joined) (t t' : Tally) → HasMadeMore wide before tally worker pushes pops m t → IsAnswered wide m t Pop m' t' → HasMadeMore wide before tally worker pushes (pops + 1) m' t'
pop_step {wide = wide} before tally worker pushes pops m m' t t' h a =
    let posts = one_post before tally worker pushes pops m m' t t' Pop h a in
    let had = map (λ (c : Call). c.operation) before.pen.mine in
    record {
      queue_is = same_queue before tally worker pushes pops m m' t t' Pop h a;
      id = same_id before tally worker pushes pops m m' t t' Pop h a;
      idle = idle_again before tally worker pushes pops m m' t t' Pop h a;
      leads_not = a.called.member.stays.leading ∙ h.leads_not;
      posts = omega arith;
      requests = one_call before tally worker pushes pops m m' t t' Pop h a ∙ ap (λ rs. had ++ rs) (pops_more wide worker pushes pops);
      tally_is = still_tally before tally worker pushes pops m m' t t' Pop h a;
      counted = pop_share tally worker pushes pops t t' a.reply h.counted a.counts a.called.reply_is a.sum_out;
    }
