-- What the steps of a call come to, one after another.
use Rattle.std.proofs.Common.{◌≡◌, ◌≢◌, ◌∙◌, ℕ, ◌+◌, ◌-◌, ◌<◌, ◌++◌, inl, inr, ap, sym, subst, refl, arith, true, false, List, [], ◌∷◌}
use Rattle.std.proofs.lemmas.List.{append-nil}
use Rattle.std.specs.Prelude.{Option, Some, None, IfSome, IfNone}
use Rattle.pq_types.specs.Asked.{Request, Reply, Answer}
use Rattle.pq_types.specs.declared.request.Request.TheVariants.{Push, Pop, Least}
use Rattle.pq_types.specs.declared.answer.Answer.TheVariants.{Entered}
use Rattle.pq_types.specs.declared.answer.Answer.TheVariants as answer
use Rattle.desk_core.specs.Calls.{gained}
use Rattle.desk_core.specs.Clauses.{HasNo}
use Rattle.desk_core.specs.Knows.{NoneAbove}
use Rattle.desk_core.specs.declared.model.Call.{Call}
use Rattle.desk_core.specs.declared.model.Standing.{Standing}
use Rattle.desk_core.specs.declared.model.Standing.TheVariants.{Idle, Waiting}
use Rattle.announce_board.specs.Tokens.{is_idle}
use Rattle.announce_board.specs.Asking.{IsAnswerTo, IsAboveAll, IsFullFor, asked_by}
use Rattle.flat_queue.specs.Limits.{most_posts}
use Rattle.flat_queue.specs.Members.{Joined}
use Rattle.flat_queue.specs.Calling.{StaysMember, HasPostedOne, MakesCall, PostsAndWaitsBy, WaitsOn, IsTold, ended}
use Rattle.flat_queue.specs.OwnRequest.{TriesOrWaitsBy}
use Rattle.flat_queue.specs.Turns.{FindsLockHeld, WaitedBy, EndsWaitingBy}
use Rattle.flat_queue.specs.CallSteps.{CallStage, Came, FitsStage, came_to, answer_of, PostsOnceBy, TriesOnceBy, AsksOnceBy, CallStepsBy, HasTried, HasPostedBy, HasComeToBy}
use Rattle.flat_queue.specs.declared.gate.Turn.{Turn}
use Rattle.flat_queue.specs.declared.gate.Turn.TheVariants.{Lead, Look, GiveUp}
use Rattle.flat_queue.specs.declared.call_steps.CallStage.TheVariants as stage
use Rattle.flat_queue.specs.declared.call_steps.Came.TheVariants as came
use Rattle.flat_queue.specs.declared.call_steps.CallStepped.TheVariants as stepped
use Rattle.flat_queue.proofs.Knew.{told_beyond, told_times}
use Rattle.flat_queue.proofs.OwnRequests.{all_left, one_less, called_own, entered_later, waited_later}
use Rattle.flat_queue.proofs.Turns.{waited_at_first, waited_on, ends_told, ends_untold}
use Rattle.flat_queue.proofs.Waits.{starts_trans, stays_trans, at_first, waits_trans, looked_on, took}

-- what a member is told that waited on is what it was told before
pub told_behind : (a b c : Joined) (x : Answer) → WaitsOn a b → IsTold b x c → IsTold a x c
told_behind a b c x w h =
    record {
      request = h.request;
      waited = sym w.standing ∙ h.waited;
      stays = stays_trans a b c w.stays h.stays;
      posts = h.posts ∙ w.posts;
      standing = h.standing;
      mine = h.mine ∙ (ap (λ l. l ++ gained b.pen.posts h.request x) w.mine ∙ ap (λ n. a.pen.mine ++ gained n h.request x) w.posts);
      answers = subst (λ q. IsAnswerTo q.room h.request x) w.stays.queue h.answers;
      behind = λ number reply e. subst (IsAboveAll number) w.mine (h.behind number reply e);
      beyond = λ number reply e knew s none.
          h.beyond number reply e knew (starts_trans b.pen.known a.pen.known knew w.stays.known s)
          (subst (λ n. HasNo knew n b.pen.posts) (sym w.stays.place) (subst (λ n. HasNo knew a.pen.place n) (sym w.posts) none));
      full = h.full;
      begins = h.begins ∙ w.begins;
      ended = h.ended;
      ends = h.ends ∙ (ap (λ (l : List (ℕ × ℕ)). l ++ (b.pen.posts, h.ended) ∷ []) w.ends ∙ ap (λ n. a.pen.ends ++ (n, h.ended) ∷ []) w.posts);
    }

-- What a call that waits comes to by its last step.
pub record WaitedTo (words : ℕ) (may : Turn → Type 0) (room : Type 0) (a : Joined) (result : Option Answer) (c : Joined) : Type 0 where
  pub told : IfSome result (λ x. IsTold a x c)
  pub waits : IfNone result (WaitsOn a c)
  pub gave_up : IfNone result (may GiveUp)
  pub turns : EndsWaitingBy words may a result c
  pub memory : room → result ≢ Some answer.NoMemory

pub waited_to : (words : ℕ) (may : Turn → Type 0) (room : Type 0) (a b c : Joined) (end : Came) → WaitsOn a b → WaitedBy words may a b → AsksOnceBy words may room b (stepped.Ends end) c
    → WaitedTo words may room a (answer_of end) c
waited_to words may room a b c (came.Answered x) w t h =
    record { told = told_behind a b c x w h.told; waits = tt; gave_up = tt; turns = ends_told words may a b c x t h.stays h.looks; memory = λ r e. h.memory r (cc e) }
waited_to words may room a b c came.Spent w t h = absurd h
waited_to words may room a b c came.Held w t h = absurd h
waited_to words may room a b c came.Posted w t (over, looked) =
    record {
      told = tt;
      waits = waits_trans a b c w (looked_on words b c looked.0 looked.1);
      gave_up = over;
      turns = ends_untold words may a b c c t looked over refl;
      memory = λ r e. cc e;
    }

lead_on : Lead ≢ GiveUp
lead_on e = cc e

look_on : Look ≢ GiveUp
look_on e = cc e

-- how far it has waited that goes on
pub waits_so_far : (words : ℕ) (may : Turn → Type 0) (room : Type 0) (a b c : Joined) (next : CallStage) → WaitsOn a b → WaitedBy words may a b → AsksOnceBy words may room b (stepped.Goes next) c
    → WaitsOn a c × WaitedBy words may a c
waits_so_far words may room a b c (stage.Tries request tries) w t h = absurd h
waits_so_far words may room a b c stage.Looks w t (l, looked, says, leads) = (
  waits_trans a b c w (waits_trans b l c (looked_on words b l looked.0 looked.1) (took words Lead l c (inl leads))),
  waited_on words may Lead a b l c t looked says (inl leads) lead_on,
)
waits_so_far words may room a b c stage.Waits w t (l, looked, inl (says, same)) = (
  waits_trans a b c w (waits_trans b l c (looked_on words b l looked.0 looked.1) (took words Look l c same)),
  waited_on words may Look a b l c t looked says same look_on,
)
waits_so_far words may room a b c stage.Waits w t (l, looked, inr (says, held)) = (
  waits_trans a b c w (waits_trans b l c (looked_on words b l looked.0 looked.1) (took words Lead l c (inr held))),
  waited_on words may Lead a b l c t looked says (inr held) lead_on,
)

-- a member that has posted, and stays what it was then, stays what it was before
stays_posted : (words : ℕ) (a c : Joined) (request : Request) (now : ℕ) → StaysMember (record a { pen = asked_by words a.pen request now }) c → StaysMember a c
stays_posted words a c (Push x) now h = record { queue = h.queue; id = h.id; turns = h.turns; place = h.place; room = h.room; leading = h.leading; rest = h.rest; known = h.known }
stays_posted words a c Pop now h = record { queue = h.queue; id = h.id; turns = h.turns; place = h.place; room = h.room; leading = h.leading; rest = h.rest; known = h.known }
stays_posted words a c Least now h = record { queue = h.queue; id = h.id; turns = h.turns; place = h.place; room = h.room; leading = h.leading; rest = h.rest; known = h.known }

-- what its posts, its standing and its calls are then
posted_posts : (words : ℕ) (a : Joined) (request : Request) (now : ℕ) → (asked_by words a.pen request now).posts ≡ a.pen.posts + 1
posted_posts words a (Push x) now = refl
posted_posts words a Pop now = refl
posted_posts words a Least now = refl

posted_mine : (words : ℕ) (a : Joined) (request : Request) (now : ℕ) → (asked_by words a.pen request now).mine ≡ a.pen.mine
posted_mine words a (Push x) now = refl
posted_mine words a Pop now = refl
posted_mine words a Least now = refl

posted_standing : (words : ℕ) (a : Joined) (request : Request) (now : ℕ) → (asked_by words a.pen request now).standing ≡ Waiting request
posted_standing words a (Push x) now = refl
posted_standing words a Pop now = refl
posted_standing words a Least now = refl

waiting_same : (r s : Request) → Waiting r ≡ Waiting s → s ≡ r
waiting_same r s e = cc

-- What a member was told that posted this request.
record ToldSo (a : Joined) (request : Request) (told : Answer) (c : Joined) : Type 0 where
  pub one : HasPostedOne a (Idle None) (a.pen.mine ++ gained (a.pen.posts + 1) request told) c
  pub answers : IsAnswerTo a.queue.room request told
  pub behind : (number : ℕ) (reply : Reply) → told ≡ Entered number reply → IsAboveAll number a.pen.mine
  pub full : told ≡ answer.BookFull → IsFullFor c.pen

told_so : (words : ℕ) (a c : Joined) (request : Request) (now : ℕ) (told : Answer) → IsTold (record a { pen = asked_by words a.pen request now }) told c → ToldSo a request told c
told_so words a c request now told t =
    let same : t.request ≡ request = waiting_same request t.request (sym (posted_standing words a request now) ∙ t.waited) in
    record {
      one = record {
        stays = stays_posted words a c request now t.stays;
        posts = t.posts ∙ posted_posts words a request now;
        standing = t.standing;
        mine = t.mine ∙ (ap (λ l. l ++ gained (asked_by words a.pen request now).posts t.request told) (posted_mine words a request now)
            ∙ (ap (λ n. a.pen.mine ++ gained n t.request told) (posted_posts words a request now) ∙ ap (λ r. a.pen.mine ++ gained (a.pen.posts + 1) r told) same));
      };
      answers = subst (λ r. IsAnswerTo a.queue.room r told) same t.answers;
      behind = λ number reply e. subst (IsAboveAll number) (posted_mine words a request now) (t.behind number reply e);
      full = t.full;
    }

none_more : (a c : Joined) (now : Standing) (calls : List Call) → HasPostedOne a now (calls ++ []) c → HasPostedOne a now calls c
none_more a c now calls h = subst (λ l. HasPostedOne a now l c) (append-nil calls) h

-- a call that posted, and was told this answer
told_call : (words : ℕ) (a c : Joined) (request : Request) (now : ℕ) (x : Answer) (room : Type 0) → NoneAbove a.pen.place a.pen.posts a.pen.known → a.pen.posts < most_posts a.queue.room
    → WaitedTo words (λ turn. turn ≡ Lead) room (record a { pen = asked_by words a.pen request now }) (Some x) c → MakesCall (PostsAndWaitsBy words) (λ told. told) room a request (ended (Some x)) c
told_call words a c request now (Entered number reply) room none few w =
    let s = told_so words a c request now (Entered number reply) w.told in
    record {
      ok = record {
        member = s.one;
        reply_is = s.answers.2;
        line = s.answers.0;
        within = s.answers.1;
        behind = s.behind number reply refl;
        beyond = told_beyond words a c request now number reply none w.told;
        times = told_times words a c request now (Entered number reply) w.told;
      };
      err = tt;
      full = λ e. absurd (cc e);
      spent = (λ e. absurd (cc e), λ le. absurd (omega (arith, le, few)));
      turns = λ f. (Some (Entered number reply), refl, (now, w.turns));
      never_gives_up = λ e. cc e;
      memory = λ r e. cc e;
    }
told_call words a c request now answer.BookFull room none few w =
    let s = told_so words a c request now answer.BookFull w.told in
    record {
      ok = tt;
      err = none_more a c (Idle None) a.pen.mine s.one;
      full = λ e. s.full refl;
      spent = (λ e. absurd (cc e), λ le. absurd (omega (arith, le, few)));
      turns = λ f. (Some answer.BookFull, refl, (now, w.turns));
      never_gives_up = λ e. cc e;
      memory = λ r e. cc e;
    }
told_call words a c request now answer.NoMemory room none few w =
    let s = told_so words a c request now answer.NoMemory w.told in
    record {
      ok = tt;
      err = (s.answers, none_more a c (Idle None) a.pen.mine s.one);
      full = λ e. absurd (cc e);
      spent = (λ e. absurd (cc e), λ le. absurd (omega (arith, le, few)));
      turns = λ f. (Some answer.NoMemory, refl, (now, w.turns));
      never_gives_up = λ e. cc e;
      memory = λ r e. w.memory r refl;
    }
told_call words a c request now (answer.Refused why) room none few w =
    let s = told_so words a c request now (answer.Refused why) w.told in
    record {
      ok = tt;
      err = (s.answers, none_more a c (Idle None) a.pen.mine s.one);
      full = λ e. absurd (cc e);
      spent = (λ e. absurd (cc e), λ le. absurd (omega (arith, le, few)));
      turns = λ f. (Some (answer.Refused why), refl, (now, w.turns));
      never_gives_up = λ e. cc e;
      memory = λ r e. absurd (cc e);
    }

-- what a call comes to by an answer, in the two ways of saying it
came_as : (x : Answer) → ended (Some x) ≡ came_to (came.Answered x)
came_as (Entered number reply) = refl
came_as answer.BookFull = refl
came_as answer.NoMemory = refl
came_as (answer.Refused why) = refl

-- tries use no serial
tried_few : (a m : Joined) (left : ℕ) → HasTried a m left → a.pen.posts < most_posts a.queue.room → m.pen.posts < most_posts m.queue.room
tried_few a m left h few =
    let same : m.pen.posts ≡ a.pen.posts = h.posts in
    let room : most_posts m.queue.room ≡ most_posts a.queue.room = ap (λ q. most_posts q.room) h.queue in
    omega (arith, same, room, few)

-- what a call comes to that ends with a try
tries_end : (words : ℕ) (room : Type 0) (a m c : Joined) (request : Request) (tries : ℕ) (end : Came) → a.pen.posts < most_posts a.queue.room → HasTried a m (tries + 1)
    → TriesOnceBy words (λ turn. turn ≡ Lead) room request tries m (stepped.Ends end) c → MakesCall (TriesOrWaitsBy words) (λ told. told) room a request (came_to end) c
tries_end words room a m c request tries (came.Answered x) few t (some, carries, fits, memory) =
    subst (λ r. MakesCall (TriesOrWaitsBy words) (λ told. told) room a request r c) (came_as x)
    (entered_later words a m c (tries + 1) request room (ended (Some x)) (omega arith) t few (called_own words x m c request room carries fits some memory))
tries_end words room a m c request tries came.Spent few t (none, same) =
    let some = tried_few a m (tries + 1) t few in absurd (omega (arith, none, some))
tries_end words room a m c request tries came.Held few t h = absurd (let e = h.0 in cc e)
tries_end words room a m c request tries came.Posted few t h = absurd h

-- and of one that ends with a look
asks_end : (words : ℕ) (room : Type 0) (a h m c : Joined) (request : Request) (end : Came) → a.pen.posts < most_posts a.queue.room → HasTried a h 0 → HasPostedBy words request h m
    → AsksOnceBy words (λ turn. turn ≡ Lead) room m (stepped.Ends end) c → MakesCall (TriesOrWaitsBy words) (λ told. told) room a request (came_to end) c
asks_end words room a h m c request (came.Answered x) few t p k =
    let w = waited_to words (λ turn. turn ≡ Lead) room p.posted m c (came.Answered x) p.waits p.turns k in
    let now = p.posts.1.0 in
    let behind = subst (λ z. WaitedTo words (λ turn. turn ≡ Lead) room z (Some x) c) p.posts.1.1 w in
    subst (λ r. MakesCall (TriesOrWaitsBy words) (λ told. told) room a request r c) (came_as x)
    (waited_later words a h c request room (ended (Some x)) t few (told_call words h c request now x room p.posts.0 (tried_few a h 0 t few) behind))
asks_end words room a h m c request came.Spent few t p k = absurd k
asks_end words room a h m c request came.Held few t p k = absurd k
asks_end words room a h m c request came.Posted few t p k = absurd (let e = k.0 in cc e)

-- what a call comes to that ends with a step at this stage
pub steps_end : (words : ℕ) (room : Type 0) (a m c : Joined) (request : Request) (at : CallStage) (end : Came) → a.pen.posts < most_posts a.queue.room → HasComeToBy words a request at m
    → CallStepsBy words (λ turn. turn ≡ Lead) room at m (stepped.Ends end) c → MakesCall (TriesOrWaitsBy words) (λ told. told) room a request (came_to end) c
steps_end words room a m c request (stage.Tries next tries) end few (same, t) h =
    tries_end words room a m c request tries end few t (subst (λ r. TriesOnceBy words (λ turn. turn ≡ Lead) room r tries m (stepped.Ends end) c) same h)
steps_end words room a m c request stage.Looks end few (held, t, p) h = asks_end words room a held m c request end few t p h
steps_end words room a m c request stage.Waits end few (held, t, p) h = asks_end words room a held m c request end few t p h

-- it has posted, a moment ago
just_posted : (words : ℕ) (h c : Joined) (request : Request) → PostsOnceBy words request h c → HasPostedBy words request h c
just_posted words h c request p = record { posted = c; posts = p; waits = at_first c; turns = waited_at_first words (λ turn. turn ≡ Lead) c }

-- one try less
one_left : (a m c : Joined) (tries : ℕ) → HasTried a m (tries + 1) → FindsLockHeld m c → HasTried a c tries
one_left a m c tries t held = let e : (tries + 1) - 1 ≡ tries = omega arith in subst (HasTried a c) e (one_less a m c (tries + 1) (omega arith) t held)

-- how far a call has come that goes on behind a try
tries_go : (words : ℕ) (room : Type 0) (a m c : Joined) (request : Request) (tries : ℕ) (next : CallStage) → HasTried a m (tries + 1)
    → TriesOnceBy words (λ turn. turn ≡ Lead) room request tries m (stepped.Goes next) c → HasComeToBy words a request next c
tries_go words room a m c request tries (stage.Tries again left) t (same, less, (few, held)) = (same, subst (HasTried a c) (sym less) (one_left a m c tries t held))
tries_go words room a m c request tries stage.Looks t (none, (h, (few, held), p)) = (h, subst (HasTried a h) none (one_left a m h tries t held), just_posted words h c request p)
tries_go words room a m c request tries stage.Waits t h = absurd h

-- and behind a look
asks_go : (words : ℕ) (room : Type 0) (h m c : Joined) (request : Request) (next : CallStage) → HasPostedBy words request h m
    → AsksOnceBy words (λ turn. turn ≡ Lead) room m (stepped.Goes next) c → HasPostedBy words request h c
asks_go words room h m c request next p k =
    let w = waits_so_far words (λ turn. turn ≡ Lead) room p.posted m c next p.waits p.turns k in
    record { posted = p.posted; posts = p.posts; waits = w.0; turns = w.1 }

asks_come : (words : ℕ) (room : Type 0) (a h m c : Joined) (request : Request) (next : CallStage) → HasTried a h 0 → HasPostedBy words request h m
    → AsksOnceBy words (λ turn. turn ≡ Lead) room m (stepped.Goes next) c → HasComeToBy words a request next c
asks_come words room a h m c request (stage.Tries again left) t p k = absurd k
asks_come words room a h m c request stage.Looks t p k = (h, t, asks_go words room h m c request stage.Looks p k)
asks_come words room a h m c request stage.Waits t p k = (h, t, asks_go words room h m c request stage.Waits p k)

-- how far a call has come that goes on
pub steps_go : (words : ℕ) (room : Type 0) (a m c : Joined) (request : Request) (at next : CallStage) → HasComeToBy words a request at m
    → CallStepsBy words (λ turn. turn ≡ Lead) room at m (stepped.Goes next) c → HasComeToBy words a request next c
steps_go words room a m c request (stage.Tries again tries) next (same, t) h =
    tries_go words room a m c request tries next t (subst (λ r. TriesOnceBy words (λ turn. turn ≡ Lead) room r tries m (stepped.Goes next) c) same h)
steps_go words room a m c request stage.Looks next (held, t, p) h = asks_come words room a held m c request next t p h
steps_go words room a m c request stage.Waits next (held, t, p) h = asks_come words room a held m c request next t p h

-- The member is of the queue that it was, and may take a step at this stage.
abbrev pub FitsStill : CallStage → Joined → Joined → Type 0
FitsStill at before after = (after.queue ≡ before.queue) × FitsStage at after

-- a member that posted waits, at its queue
pub posted_fits : (words : ℕ) (h c : Joined) (request : Request) → PostsOnceBy words request h c → FitsStill stage.Looks h c
posted_fits words h c request (none, (now, e)) = (
  ap (λ (z : Joined). z.queue) e,
  ap (λ (z : Joined). is_idle z.pen.standing) e ∙ ap is_idle (posted_standing words h request now),
)

pub tries_fit : (words : ℕ) (may : Turn → Type 0) (room : Type 0) (m c : Joined) (request : Request) (tries : ℕ) (next : CallStage) → is_idle m.pen.standing ≡ true
    → TriesOnceBy words may room request tries m (stepped.Goes next) c → FitsStill next m c
tries_fit words may room m c request tries (stage.Tries again left) i (same, less, (few, held)) =
    (ap (λ (z : Joined). z.queue) held, ap (λ (z : Joined). is_idle z.pen.standing) held ∙ i)
tries_fit words may room m c request tries stage.Looks i (none, (h, (few, held), p)) =
    let fits = posted_fits words h c request p in (fits.0 ∙ ap (λ (z : Joined). z.queue) held, fits.1)
tries_fit words may room m c request tries stage.Waits i h = absurd h

waits_fit : (m c : Joined) → is_idle m.pen.standing ≡ false → WaitsOn m c → (c.queue ≡ m.queue) × (is_idle c.pen.standing ≡ false)
waits_fit m c i w = (w.stays.queue, ap is_idle w.standing ∙ i)

asks_fit : (words : ℕ) (may : Turn → Type 0) (room : Type 0) (m c : Joined) (next : CallStage) → is_idle m.pen.standing ≡ false
    → AsksOnceBy words may room m (stepped.Goes next) c → FitsStill next m c
asks_fit words may room m c (stage.Tries again left) i h = absurd h
asks_fit words may room m c stage.Looks i h = waits_fit m c i (waits_so_far words may room m m c stage.Looks (at_first m) (waited_at_first words may m) h).0
asks_fit words may room m c stage.Waits i h = waits_fit m c i (waits_so_far words may room m m c stage.Waits (at_first m) (waited_at_first words may m) h).0

-- a step after which a call goes on leaves its member fit for the next one
pub steps_fit : (words : ℕ) (may : Turn → Type 0) (room : Type 0) (m c : Joined) (at next : CallStage) → FitsStage at m → CallStepsBy words may room at m (stepped.Goes next) c → FitsStill next m c
steps_fit words may room m c (stage.Tries request tries) next i h = tries_fit words may room m c request tries next i h
steps_fit words may room m c stage.Looks next i h = asks_fit words may room m c next i h
steps_fit words may room m c stage.Waits next i h = asks_fit words may room m c next i h

-- a call whose first try found the lock held, and that has no tries, has posted
pub held_posts : (words : ℕ) (a c : Joined) (request : Request) (tries : ℕ) → tries ≡ a.rest.tries → tries ≡ 0 → PostsOnceBy words request a c → HasComeToBy words a request stage.Looks c
held_posts words a c request tries is none p = (a, all_left a 0 (sym none ∙ is), just_posted words a c request p)
