-- How far a worker has come, request by request.
use Rattle.std.proofs.Common.{◌≡◌, ℕ, ◌+◌, ◌*◌, Bool, ◌<◌, ◌≤◌, ◌⊎◌, inl, inr, List, [], ◌++◌, map, Some, append_assoc, append-nil, refl, sym, ◌∙◌, ap, subst, arith}
use Rattle.std.proofs.lemmas.Bool.{cases_lt}
use Rattle.pq_types.specs.Asked.{Line}
use Rattle.pq_types.specs.Asked.{Request}
use Rattle.desk_core.specs.Rule.{StartsWith}
use Rattle.flat_queue.specs.Limits.{most_posts}
use Rattle.flat_queue.specs.Members.{QueueName, Coming, Joined, Joins}
use Rattle.program_words.specs.Lines.{each_of}
use Rattle.queue_load.specs.Lines.{MayPostAll}
use Rattle.program_words.specs.Plan.{IsLoad}
use Rattle.queue_load.specs.Points.{IsNext, IsPast, at_round}
use Rattle.queue_load.specs.Tally.{nothing, IsSmall}
use Rattle.queue_load.specs.Worker.{IsAnswered, IsReason, HasMadeMore, HasMade, HasCome, HasComeOn, HasWorked}
use Rattle.queue_load.specs.declared.load_faults.WorkerError.{WorkerError}
use Rattle.program_words.specs.declared.plan.Plan.{Plan}
use Rattle.queue_load.specs.declared.points.Point.{Point}
use Rattle.queue_load.specs.declared.tally.Tally.{Tally}
use Rattle.queue_load.specs.declared.worker.EndedWorker.{EndedWorker}
use Rattle.queue_load.proofs.Rounds.{low_share, round_more}
use Rattle.queue_load.proofs.Widths.{once_more, less_often}
use Rattle.queue_load.proofs.Working.{begun, nothing_more, low_counted, small_if_low, push_step, pop_step}

pub starts_refl : (journal : List Line) → StartsWith journal journal
starts_refl journal = ([], sym (append-nil journal))

pub starts_trans : (a b c : List Line) → StartsWith a b → StartsWith b c → StartsWith a c
starts_trans a b c (x, e) (y, f) = (y ++ x, e ∙ ap (λ l. l ++ x) f ∙ append_assoc c y x)

-- a worker between rounds has come to the beginning of the next
between : {wide : Bool} → (queue : QueueName) (worker : ℕ) (plan : Plan) (rounds : ℕ) (m : Joined) (t : Tally) → HasMade wide queue worker plan rounds m t → 0 < plan.pushes → HasCome wide queue worker plan (at_round rounds) m t
between {wide = wide} queue worker plan rounds m t h some =
    record {
      before = m;
      tally = t;
      whole = h;
      more = subst (λ w. HasMadeMore wide m t w 0 0 m t) h.id (nothing_more queue worker plan rounds m t h);
      within = record { pushes = omega arith; pops = omega arith; order = inl refl; unfinished = omega (arith, some) };
    }

-- a worker that has joined has come to the beginning
pub come_new : {wide : Bool} → (queue : QueueName) (plan : Plan) (before : Coming) (m : Joined) → Joins before m → before.queue ≡ queue → 0 < plan.pushes → HasCome wide queue before.comer.id plan (at_round 0) m nothing
come_new {wide = wide} queue plan before m j here some = between queue before.comer.id plan 0 m nothing (begun queue plan before m j here) some

-- a worker that has not made all its requests has a round to make
pub rounds_left : {wide : Bool} → (queue : QueueName) (worker : ℕ) (plan : Plan) (at : Point) (m : Joined) (t : Tally) → HasCome wide queue worker plan at m t → m.pen.posts < each_of plan → at.rounds < plan.rounds
rounds_left {wide = wide} queue worker plan at m t h lt = of_two (cases_lt at.rounds plan.rounds)
  where
    of_two : (at.rounds < plan.rounds) ⊎ (plan.rounds ≤ at.rounds) → at.rounds < plan.rounds
    of_two (inl less) = less
    of_two (inr more) =
        let often = less_often plan.rounds at.rounds (plan.pushes + plan.pops) more in
        let posts = h.more.posts in let posted = h.whole.posts in
        absurd (omega (arith, often, posts, posted, lt))

-- its tally is small
pub small_come : {wide : Bool} → (queue : QueueName) (worker : ℕ) (plan : Plan) (at : Point) (m : Joined) (t : Tally) → HasCome wide queue worker plan at m t → IsLoad plan.workers plan.pushes plan.pops plan.rounds → at.rounds < plan.rounds → IsSmall t
small_come {wide = wide} queue worker plan at m t h fits lt =
    let few = fits.few_rounds in let pushes = fits.few_pushes in let pops = fits.fewer_pops in
    let within_pushes = h.within.pushes in let within_pops = h.within.pops in
    small_if_low t
    (low_counted h.tally worker at.pushed at.popped t (low_share worker plan at.rounds h.tally h.whole.share (omega arith) pushes (omega arith)) h.more.counted (omega arith) (omega arith))

-- a part of a round more, which may end it
settled : {wide : Bool} → (queue : QueueName) (worker : ℕ) (plan : Plan) (mid after : Point) (before m : Joined) (tally t : Tally) → HasMade wide queue worker plan mid.rounds before tally → HasMadeMore wide before tally worker mid.pushed mid.popped m t → mid.pushed ≤ plan.pushes → mid.popped ≤ plan.pops → ((mid.popped ≡ 0) ⊎ (mid.pushed ≡ plan.pushes)) → 0 < plan.pushes → IsPast plan mid after → HasCome wide queue worker plan after m t
settled {wide = wide} queue worker plan mid after before m tally t h j pushes pops order some (inl (lt, e)) =
    subst (λ p. HasCome wide queue worker plan p m t) (sym e)
    (record { before = before; tally = tally; whole = h; more = j; within = record { pushes = pushes; pops = pops; order = order; unfinished = lt } })
settled {wide = wide} queue worker plan mid after before m tally t h j pushes pops order some (inr (whole, e)) =
    let all_pushed : mid.pushed ≡ plan.pushes = omega (arith, whole, pushes, pops) in
    let all_popped : mid.popped ≡ plan.pops = omega (arith, whole, pushes, pops) in
    let round = subst (λ n. HasMadeMore wide before tally worker n plan.pops m t) all_pushed (subst (λ n. HasMadeMore wide before tally worker mid.pushed n m t) all_popped j) in
    let made = round_more queue worker plan mid.rounds before m tally t h round in
    subst (λ p. HasCome wide queue worker plan p m t) (sym e) (between queue worker plan (mid.rounds + 1) m t made some)

-- its next request was answered
come_step : {wide : Bool} → (queue : QueueName) (worker : ℕ) (plan : Plan) (at after : Point) (m m' : Joined) (t t' : Tally) (request : Request) → HasCome wide queue worker plan at m t → 0 < plan.pushes → IsNext wide worker plan at request after → IsAnswered wide m t request m' t' → HasCome wide queue worker plan after m' t'
come_step {wide = wide} queue worker plan at after m m' t t' request h some (inl (x, left, e, item, low, past)) a =
    let none : at.popped ≡ 0 = none_popped h.within.order left in
    let pushed = push_step h.before h.tally worker at.pushed m m' t t' x (subst (λ n. HasMadeMore wide h.before h.tally worker at.pushed n m t) none h.more) (subst (λ r. IsAnswered wide m t r m' t') e a) item low in
    settled queue worker plan _ after h.before m' h.tally t' h.whole (subst (λ n. HasMadeMore wide h.before h.tally worker (at.pushed + 1) n m' t') (sym none) pushed) (omega (arith, left)) h.within.pops (inl none) some past
  where
    none_popped : (at.popped ≡ 0) ⊎ (at.pushed ≡ plan.pushes) → at.pushed < plan.pushes → at.popped ≡ 0
    none_popped (inl none) lt = none
    none_popped (inr all) lt = absurd (omega (arith, all, lt))
come_step {wide = wide} queue worker plan at after m m' t t' request h some (inr (all, e, past)) a =
    let most = h.within.pushes in let unfinished = h.within.unfinished in
    let popped = pop_step h.before h.tally worker at.pushed at.popped m m' t t' h.more (subst (λ r. IsAnswered wide m t r m' t') e a) in
    settled queue worker plan _ after h.before m' h.tally t' h.whole popped most (omega (arith, all, unfinished)) (inr (omega (arith, all, most))) some past

pub come_on : {wide : Bool} → (plan : Plan) (at after : Point) (m m' : Joined) (t t' : Tally) (request : Request) → HasCome wide m.queue m.comer.id plan at m t → 0 < plan.pushes → IsNext wide m.comer.id plan at request after → IsAnswered wide m t request m' t' → HasComeOn wide m plan 1 m' after t'
come_on {wide = wide} plan at after m m' t t' request h some next a =
    record { come = come_step m.queue m.comer.id plan at after m m' t t' request h some next a; posts = a.called.member.posts; known = a.called.member.stays.known }

-- a worker has come so far without another request
pub come_none : {wide : Bool} → (plan : Plan) (count : ℕ) (at : Point) (m : Joined) (t : Tally) → count ≡ 0 → HasCome wide m.queue m.comer.id plan at m t → HasComeOn wide m plan count m at t
come_none {wide = wide} plan count at m t none h = record { come = h; posts = omega (arith, none); known = starts_refl m.pen.known }

-- and further
pub come_further : {wide : Bool} → (plan : Plan) (count count' : ℕ) (before m m' : Joined) (at at' : Point) (t t' : Tally) → HasComeOn wide before plan count m at t → HasComeOn wide m plan 1 m' at' t' → count' ≡ count + 1 → HasComeOn wide before plan count' m' at' t'
come_further {wide = wide} plan count count' before m m' at at' t t' h j more =
    let posts = h.posts in let posts' = j.posts in
    let queue : m.queue ≡ before.queue = h.come.more.queue_is ∙ h.come.whole.queue_is in
    let id : m.comer.id ≡ before.comer.id = h.come.more.id ∙ h.come.whole.id in
    record {
      come = subst (λ q. HasCome wide q before.comer.id plan at' m' t') queue (subst (λ w. HasCome wide m.queue w plan at' m' t') id j.come);
      posts = omega (arith, posts, posts', more);
      known = starts_trans m'.pen.known m.pen.known before.pen.known j.known h.known;
    }

-- so many times so much, and a rest that is less, are so many times so much only without a rest
same_often : (a b each rest : ℕ) → a * each + rest ≡ b * each → rest < each → (a ≡ b) × (rest ≡ 0)
same_often a b each rest e few = below (cases_lt a b)
  where
    above : (b < a) ⊎ (a ≤ b) → b ≤ a → (a ≡ b) × (rest ≡ 0)
    above (inl more) least = absurd (let often = less_often (b + 1) a each (omega (arith, more)) in omega (arith, often, once_more b each, e, few))
    above (inr most) least = let same : a ≡ b = omega (arith, most, least) in let often = ap (λ n. n * each) same in (same, omega (arith, often, e))

    below : (a < b) ⊎ (b ≤ a) → (a ≡ b) × (rest ≡ 0)
    below (inl less) = absurd (let often = less_often (a + 1) b each (omega (arith, less)) in omega (arith, often, once_more a each, e, few))
    below (inr least) = above (cases_lt b a) least

-- a worker that has made all its requests has made all its rounds
pub all_made : {wide : Bool} → (queue : QueueName) (worker : ℕ) (plan : Plan) (at : Point) (m : Joined) (t : Tally) → HasCome wide queue worker plan at m t → m.pen.posts ≡ each_of plan → HasMade wide queue worker plan plan.rounds m t
all_made {wide = wide} queue worker plan at m t h all =
    let posts = h.more.posts in let posted = h.whole.posts in
    let ends = same_often at.rounds plan.rounds (plan.pushes + plan.pops) (at.pushed + at.popped) (omega (arith, posts, posted, all)) h.within.unfinished in
    let no_push : at.pushed ≡ 0 = omega (arith, ends.1) in
    let no_pop : at.popped ≡ 0 = omega (arith, ends.1) in
    let j = subst (λ n. HasMadeMore wide h.before h.tally worker n 0 m t) no_push (subst (λ n. HasMadeMore wide h.before h.tally worker at.pushed n m t) no_pop h.more) in
    let s = h.whole.share in let c = j.counted in
    let pushed = s.pushed in let popped = s.popped in let sum_in = s.sum_in in let few_in = s.few_in in let few_out = s.few_out in
    let pushed' = c.pushed in let popped' = c.popped in let sum_in' = c.sum_in in let few_in' = c.few_in in let few_out' = c.few_out in
    let before_posts = h.whole.posts in let all_posts = j.posts in
    subst (λ n. HasMade wide queue worker plan n m t) ends.0
    (record {
      queue_is = j.queue_is ∙ h.whole.queue_is;
      id = j.id ∙ h.whole.id;
      idle = j.idle;
      leads_not = j.leads_not;
      posts = omega (arith, before_posts, all_posts);
      requests = j.requests ∙ append-nil (map (λ c. c.operation) h.before.pen.mine) ∙ h.whole.requests;
      tally = j.tally_is;
      share = record { pushed = omega arith; popped = omega arith; sum_in = omega arith; few_in = omega arith; few_out = omega arith };
    })

-- so far it has come by its own name
pub come_here : {wide : Bool} → (plan : Plan) (count : ℕ) (before m : Joined) (at : Point) (t : Tally) → HasComeOn wide before plan count m at t → HasCome wide m.queue m.comer.id plan at m t
come_here {wide = wide} plan count before m at t h =
    let queue : m.queue ≡ before.queue = h.come.more.queue_is ∙ h.come.whole.queue_is in
    let id : m.comer.id ≡ before.comer.id = h.come.more.id ∙ h.come.whole.id in
    subst (λ q. HasCome wide q m.comer.id plan at m t) (sym queue) (subst (λ w. HasCome wide before.queue w plan at m t) (sym id) h.come)

-- so it may post once more
pub may_come : {wide : Bool} → (plan : Plan) (count until : ℕ) (before m : Joined) (at : Point) (t : Tally) → HasComeOn wide before plan count m at t → MayPostAll before.queue plan → until ≤ each_of plan → before.pen.posts + count < until → (m.pen.posts < most_posts m.queue.room) × (at.rounds < plan.rounds)
may_come {wide = wide} plan count until before m at t h may most lt =
    let queue : m.queue ≡ before.queue = h.come.more.queue_is ∙ h.come.whole.queue_is in
    let room = ap (λ (q : QueueName). most_posts q.room) queue in
    let posts = h.posts in (
      omega (arith, room, posts, may, most, lt),
      rounds_left before.queue before.comer.id plan at m t h.come (omega (arith, posts, most, lt)),
    )

-- a worker that was refused has its reason
pub worked_refused : {wide : Bool} → {S P : Type 0} (may_give_up : ℕ → Type 0) (has_room : QueueName → Type 0) (queue q : QueueName) (worker n : ℕ) (plan : Plan) (until : ℕ) (known : List Line) (w : EndedWorker S P) (why : WorkerError) → q ≡ queue → n ≡ worker → w.refusal ≡ Some why → IsReason (may_give_up n) (has_room q) why → HasWorked wide (may_give_up worker) (has_room queue) queue worker plan until known w
worked_refused {wide = wide} may_give_up has_room queue q worker n plan until known w why same_queue same_worker is reason =
    record {
      done = λ e. absurd (cc);
      posts = λ e. absurd (cc);
      starts = λ e. absurd (cc);
      refused = λ other e.
          let same : why ≡ other = cc in
          subst (IsReason (may_give_up worker) (has_room queue)) same
          (subst (λ x. IsReason (may_give_up worker) (has_room x) why) same_queue (subst (λ x. IsReason (may_give_up x) (has_room q) why) same_worker reason));
    }
