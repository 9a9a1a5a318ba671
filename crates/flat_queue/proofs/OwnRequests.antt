-- What a member keeps and gains that carries its own request out, and a call behind a missed try.
use Rattle.std.proofs.Common.{◌≡◌, ◌∙◌, ℕ, zero, suc, ◌+◌, ◌-◌, ◌<◌, ◌≤◌, ◌++◌, inl, inr, sym, ap, subst, refl, arith, true, false, Bool, List, [], ◌∷◌, length, length-append}
use Rattle.std.specs.Prelude.{Option, Some, None, Result, Err, IsErrOf, ◌≢◌}
use Rattle.std.proofs.lemmas.List.{append-nil}
use Rattle.pq_types.specs.Item.{Item}
use Rattle.pq_types.specs.Asked.{Request, Operation}
use Rattle.pq_types.specs.Operation.{Asked}
use Rattle.pq_types.specs.Asked.{Reply}
use Rattle.pq_types.specs.Asked.{Answer}
use Rattle.pq_types.specs.declared.answer.Answer.TheVariants.{Entered}
use Rattle.pq_types.specs.declared.answer.Answer.TheVariants as answer
use Rattle.pq_types.specs.declared.control.Control.{Control}
use Rattle.pq_types.specs.declared.control.Control.TheVariants.{Nothing, Posted, Answered}
use Rattle.pq_types.specs.Control.{is_posted}
use Rattle.pq_types.specs.History.{MayDo, journal_by}
use Rattle.pq_book.specs.Book.{Volume}
use Rattle.pq_types.specs.declared.answer.Refusal.{Refusal}
use Rattle.desk_core.specs.Calls.{gained_by}
use Rattle.desk_core.specs.Pen.{due_at, after_release_by, book_in_hand, limits_in_hand}
use Rattle.desk_core.specs.Rule.{StartsWith}
use Rattle.desk_core.specs.declared.model.Due.{Due}
use Rattle.desk_core.specs.declared.model.PenState.{PenState}
use Rattle.desk_core.specs.declared.model.Standing.{Standing}
use Rattle.desk_core.specs.declared.model.Standing.TheVariants.{Idle}
use Rattle.desk_core.specs.declared.model.Call.{Call}
use Rattle.announce_board.specs.Asking.{IsAnswerBy, IsAnswerTo, IsAboveAll, IsFullFor}
use Rattle.announce_board.specs.Slots.{MeetsTerms}
use Rattle.announce_board.specs.Serving.{ServesWhereBy, Wins, found_posted_by, laid_and_answered_by, due_of}
use Rattle.flat_queue.specs.Limits.{most_posts}
use Rattle.flat_queue.specs.Memory.{HasSpareRoom}
use Rattle.flat_queue.specs.Members.{Joined, StaysAtPlace}
use Rattle.flat_queue.specs.Sweeping.{SweepsBy}
use Rattle.flat_queue.specs.TrailSweeping.{IsTrailSweptBy}
use Rattle.flat_queue.specs.Turns.{FindsLockHeld}
use Rattle.flat_queue.specs.Calling.{KeepsTimes, HasPostedOne, IsEntered, MakesCall, PostsAndWaitsBy, ended, told_by}
use Rattle.flat_queue.specs.OwnRequest.{SweepsWhereBy, ReleasesOperation, CarriesOutOperationBy, CarriesOutBy, EntersAtOnceBy, TriesOrWaitsBy, EntersOrWaitsBy}
use Rattle.flat_queue.specs.CallSteps.{HasTried}
use Rattle.flat_queue.specs.declared.error.CallError.{CallError}
use Rattle.flat_queue.specs.declared.error.CallError.TheVariants.{NoMemory, Spent}
use Rattle.flat_queue.proofs.Misses.{HasMissed, missed_none, missed_on, call_behind}
use Rattle.flat_queue.proofs.Waits.{starts_trans, starts_by, sweeps_start}

-- a release by an operation, as the lead's Book may answer it
pub releases_of : (before after : Joined) (operation : Operation) (x : Answer) (book : Volume) (now : ℕ) → book ≡ book_in_hand before.pen → MeetsTerms before.queue.terms book
    → MayDo (limits_in_hand before.pen) before.pen.hand operation x → ((number : ℕ) (reply : Reply) → x ≡ Entered number reply → IsAboveAll number before.pen.mine) → (x ≡ answer.BookFull → IsFullFor after.pen)
    → after ≡ record before { pen = after_release_by before.pen operation x now } → ReleasesOperation before operation x after
releases_of before after operation x book now home meets may behind full is =
    record { terms = subst (MeetsTerms before.queue.terms) home meets; may = may; behind = behind; full = full; now = now; after_is = is }

-- a place that was served leaves nothing due
none_due : (control : Control) → is_posted control ≡ false → (place : ℕ) → due_at place control ≡ None
none_due Nothing h place = refl
none_due (Posted serial kind) h place = absurd (let e : true ≡ false = h in cc)
none_due (Answered notice) h place = refl

answered_due : (words : ℕ) (x : Option Item) (p : PenState) (due : Due) (request : Request) (a : Answer) → (laid_and_answered_by words x p due request a).due ≡ None
answered_due words None p due request a = refl
answered_due words (Some x) p due request a = refl

serves_due : (words : ℕ) (b : Bool) (place : ℕ) (p q : PenState) (book : Volume) → ServesWhereBy words b place p q book → q.due ≡ None
serves_due words true place p q book s =
    ap (λ (z : PenState). z.due) s.next ∙ answered_due words _ (found_posted_by words p place s.serial s.request) (due_of place s.serial s.request) s.request s.answer
serves_due words false place p q book s = ap (λ (z : PenState). z.due) s.next ∙ none_due s.control s.not_posted place

sweeps_due : (words : ℕ) (places : List ℕ) (n : ℕ) (p q : PenState) → p.due ≡ None → SweepsBy words places n p q → q.due ≡ None
sweeps_due words [] n p q e h = ap (λ (z : PenState). z.due) h.1 ∙ e
sweeps_due words (place ∷ places) n p q e (b, m, book, rest, s, f, more) = sweeps_due words places rest m q (serves_due words b place p m book s) more

-- A member that leads and has served the others where it read the hint set: nothing is due to it, the journal in
-- its hand begins with the one that it knew, and else it is what it was.
pub record IsReady (before ready : Joined) : Type 0 where
  pub queue : ready.queue ≡ before.queue
  pub id : ready.comer.id ≡ before.comer.id
  pub turns : ready.comer.turns ≡ before.comer.turns
  pub place : ready.pen.place ≡ before.pen.place
  pub room : ready.pen.room ≡ before.pen.room
  pub posts : ready.pen.posts ≡ before.pen.posts
  pub standing : ready.pen.standing ≡ before.pen.standing
  pub mine : ready.pen.mine ≡ before.pen.mine
  pub begins : ready.pen.begins ≡ before.pen.begins
  pub ends : ready.pen.ends ≡ before.pen.ends
  pub led_not : before.pen.leading ≡ false
  pub rest : ready.rest ≡ before.rest
  pub hand : StartsWith ready.pen.hand before.pen.known
  pub due : ready.pen.due ≡ None

is_led : (a b : Joined) (book : Volume) → StaysAtPlace a b → Wins a.pen book b.pen → IsReady a b
is_led a b book h w =
    record {
      queue = h.queue;
      id = ap (λ x. x.id) h.comer;
      turns = ap (λ x. x.turns) h.comer;
      place = ap (λ (z : PenState). z.place) w.next;
      room = ap (λ (z : PenState). z.room) w.next;
      posts = ap (λ (z : PenState). z.posts) w.next;
      standing = ap (λ (z : PenState). z.standing) w.next;
      mine = ap (λ (z : PenState). z.mine) w.next;
      begins = ap (λ (z : PenState). z.begins) w.next;
      ends = ap (λ (z : PenState). z.ends) w.next;
      led_not = w.led_not;
      rest = h.rest;
      hand = subst (λ (z : PenState). StartsWith z.hand a.pen.known) (sym w.next) w.knows.known;
      due = ap (λ (z : PenState). z.due) w.next;
    }

is_swept : (words : ℕ) (a b c : Joined) (answers doors : ℕ) → IsReady a b → IsTrailSweptBy words b answers doors c → IsReady a c
is_swept words a b c answers doors h s =
    let k = s.served.keeps in
    record {
      queue = s.stays.queue ∙ h.queue;
      id = ap (λ x. x.id) s.stays.comer ∙ h.id;
      turns = ap (λ x. x.turns) s.stays.comer ∙ h.turns;
      place = k.place ∙ h.place;
      room = k.room ∙ h.room;
      posts = k.posts ∙ h.posts;
      standing = k.standing ∙ h.standing;
      mine = k.mine ∙ h.mine;
      begins = k.begins ∙ h.begins;
      ends = k.ends ∙ h.ends;
      led_not = h.led_not;
      rest = s.stays.rest ∙ h.rest;
      hand = starts_trans c.pen.hand b.pen.hand a.pen.known (sweeps_start words s.trail.found answers b.pen c.pen s.served.sweeps) h.hand;
      due = sweeps_due words s.trail.found answers b.pen c.pen h.due s.served.sweeps;
    }

pub is_ready : (words : ℕ) (hinted : Bool) (a b c : Joined) (book : Volume) → StaysAtPlace a b → Wins a.pen book b.pen → SweepsWhereBy words hinted b c → IsReady a c
is_ready words true a b c book h w s = is_swept words a b c s.0 s.1 (is_led a b book h w) s.2
is_ready words false a b c book h w e = subst (IsReady a) (sym e) (is_led a b book h w)

-- what it gains by an operation of its own
gains : (a b c : Joined) (operation : Operation) (x : Answer) → IsReady a b → ReleasesOperation b operation x c → HasPostedOne a (Idle None) (a.pen.mine ++ gained_by (a.pen.posts + 1) operation x) c
gains a b c operation x h r =
    subst (HasPostedOne a (Idle None) (a.pen.mine ++ gained_by (a.pen.posts + 1) operation x)) (sym r.after_is)
    record {
      stays = record {
        queue = h.queue;
        id = h.id;
        turns = h.turns;
        place = h.place;
        room = h.room;
        leading = sym h.led_not;
        rest = h.rest;
        known = starts_trans _ b.pen.hand a.pen.known (starts_by b.pen.hand b.pen.place (b.pen.posts + 1) operation x) h.hand;
      };
      posts = ap (λ n. n + 1) h.posts;
      standing = refl;
      mine = ap (λ l. l ++ gained_by (b.pen.posts + 1) operation x) h.mine ∙ ap (λ n. a.pen.mine ++ gained_by (n + 1) operation x) h.posts;
    }

no_more : (a c : Joined) (now : Standing) (calls : List Call) → HasPostedOne a now (calls ++ []) c → HasPostedOne a now calls c
no_more a c now calls h = subst (λ l. HasPostedOne a now l c) (append-nil calls) h

-- the same of its result
own_turns : (words : ℕ) (x : Answer) (a c : Joined) (request : Request) → CarriesOutBy words a request x c → EntersAtOnceBy words a request (told_by (λ told. told) (ended (Some x))) c
own_turns words (Entered number reply) a c request h = (Entered number reply, refl, h)
own_turns words answer.BookFull a c request h = (answer.BookFull, refl, h)
own_turns words answer.NoMemory a c request h = (answer.NoMemory, refl, h)
own_turns words (answer.Refused why) a c request h = (answer.Refused why, refl, h)

-- what it gains that carried its operation out
gained_own : (words : ℕ) (x : Answer) (a c : Joined) (operation : Operation) → CarriesOutOperationBy words a operation x c → HasPostedOne a (Idle None) (a.pen.mine ++ gained_by (a.pen.posts + 1) operation x) c
gained_own words x a c operation h = gains a h.ready c operation x (is_ready words h.hinted a h.led h.ready h.book h.stays h.won h.sweeps) h.released

-- when it began and ended
times_own : (words : ℕ) (x : Answer) (a c : Joined) (operation : Operation) → CarriesOutOperationBy words a operation x c → KeepsTimes a.pen c.pen
times_own words x a c operation h =
    let r = is_ready words h.hinted a h.led h.ready h.book h.stays h.won h.sweeps in
    let now = h.released.now in
    record {
      began = now;
      ended = now + 1;
      begins = ap (λ (z : Joined). z.pen.begins) h.released.after_is ∙ (ap (λ (l : List (ℕ × ℕ)). l ++ (h.ready.pen.posts + 1, now) ∷ []) r.begins ∙ ap (λ n. a.pen.begins ++ (n + 1, now) ∷ []) r.posts);
      ends = ap (λ (z : Joined). z.pen.ends) h.released.after_is ∙ (ap (λ (l : List (ℕ × ℕ)). l ++ (h.ready.pen.posts + 1, now + 1) ∷ []) r.ends ∙ ap (λ n. a.pen.ends ++ (n + 1, now + 1) ∷ []) r.posts);
    }

-- its line is behind those of all calls before
behind_own : (words : ℕ) (a c : Joined) (operation : Operation) (number : ℕ) (reply : Reply) → CarriesOutOperationBy words a operation (Entered number reply) c → IsAboveAll number a.pen.mine
behind_own words a c operation number reply h =
    subst (IsAboveAll number) (is_ready words h.hinted a h.led h.ready h.book h.stays h.won h.sweeps).mine (h.released.behind number reply refl)

-- and behind the whole journal that it knew
beyond_own : (words : ℕ) (a c : Joined) (operation : Operation) (number : ℕ) (reply : Reply) → CarriesOutOperationBy words a operation (Entered number reply) c → length a.pen.known < number
beyond_own words a c operation number reply h =
    let hand = (is_ready words h.hinted a h.led h.ready h.book h.stays h.won h.sweeps).hand in
    let longer = ap length hand.1 in
    let may = h.released.may in
    let next = may.1 in
    omega (arith, longer, length-append a.pen.known hand.0, next)

-- an operation that it carried out and that has a line was entered: its answer is one to such an operation
pub entered_own : (words : ℕ) (a c : Joined) (operation : Operation) (number : ℕ) (reply : Reply) → CarriesOutOperationBy words a operation (Entered number reply) c
    → IsAnswerBy a.queue.room operation (Entered number reply) → IsEntered a operation number reply c
entered_own words a c operation number reply h fits =
    record {
      member = gained_own words (Entered number reply) a c operation h;
      reply_is = fits.2;
      line = fits.0;
      within = fits.1;
      behind = behind_own words a c operation number reply h;
      beyond = beyond_own words a c operation number reply h;
      times = times_own words (Entered number reply) a c operation h;
    }

-- and one that was refused left the member without a call
pub refused_own : (words : ℕ) (a c : Joined) (operation : Operation) → CarriesOutOperationBy words a operation answer.BookFull c → HasPostedOne a (Idle None) a.pen.mine c
refused_own words a c operation h = no_more a c (Idle None) a.pen.mine (gained_own words answer.BookFull a c operation h)

-- so did one for which there was no memory
pub unfit_own : (words : ℕ) (a c : Joined) (operation : Operation) → CarriesOutOperationBy words a operation answer.NoMemory c → HasPostedOne a (Idle None) a.pen.mine c
unfit_own words a c operation h = no_more a c (Idle None) a.pen.mine (gained_own words answer.NoMemory a c operation h)

-- and one that the queue's rules refused
pub ruled_own : (words : ℕ) (a c : Joined) (operation : Operation) (why : Refusal) → CarriesOutOperationBy words a operation (answer.Refused why) c → HasPostedOne a (Idle None) a.pen.mine c
ruled_own words a c operation why h = no_more a c (Idle None) a.pen.mine (gained_own words (answer.Refused why) a c operation h)

-- what a call comes to that carried its request out: its answer is one to it
pub called_own : (words : ℕ) (x : Answer) (a c : Joined) (request : Request) (has_room : Type 0) → CarriesOutBy words a request x c → IsAnswerTo a.queue.room request x
    → a.pen.posts < most_posts a.queue.room → (has_room → x ≢ answer.NoMemory)
    → MakesCall (EntersAtOnceBy words) (λ told. told) has_room a request (ended (Some x)) c
called_own words (Entered number reply) a c request has_room h fits few memory =
    record {
      ok = entered_own words a c (Asked request) number reply h fits;
      err = tt;
      full = λ e. absurd (cc e);
      spent = (λ e. absurd (cc e), λ le. absurd (omega (arith, le, few)));
      turns = λ f. own_turns words (Entered number reply) a c request h;
      never_gives_up = λ e. cc e;
      memory = λ room e. cc e;
    }
called_own words answer.BookFull a c request has_room h fits few memory =
    record {
      ok = tt;
      err = refused_own words a c (Asked request) h;
      full = λ e. h.released.full refl;
      spent = (λ e. absurd (cc e), λ le. absurd (omega (arith, le, few)));
      turns = λ f. own_turns words answer.BookFull a c request h;
      never_gives_up = λ e. cc e;
      memory = λ room e. cc e;
    }
called_own words answer.NoMemory a c request has_room h fits few memory =
    record {
      ok = tt;
      err = (fits, unfit_own words a c (Asked request) h);
      full = λ e. absurd (cc e);
      spent = (λ e. absurd (cc e), λ le. absurd (omega (arith, le, few)));
      turns = λ f. own_turns words answer.NoMemory a c request h;
      never_gives_up = λ e. cc e;
      memory = λ room e. memory room refl;
    }
called_own words (answer.Refused why) a c request has_room h fits few memory =
    record {
      ok = tt;
      err = (fits, ruled_own words a c (Asked request) why h);
      full = λ e. absurd (cc e);
      spent = (λ e. absurd (cc e), λ le. absurd (omega (arith, le, few)));
      turns = λ f. own_turns words (answer.Refused why) a c request h;
      never_gives_up = λ e. cc e;
      memory = λ room e. absurd (cc e);
    }

-- and one that had no serial left
pub called_spent : (words : ℕ) (a : Joined) (request : Request) (has_room : Type 0) → most_posts a.queue.room ≤ a.pen.posts
    → MakesCall (EntersAtOnceBy words) (λ told. told) has_room a request (Err Spent) a
called_spent words a request has_room le =
    record {
      ok = tt;
      err = (le, refl);
      full = λ e. absurd (cc e);
      spent = (λ e. le, λ l. refl);
      turns = λ few. absurd (omega (arith, le, few));
      never_gives_up = λ e. cc e;
      memory = λ room e. cc e;
    }

-- it entered at once
pub entered_now : (words : ℕ) (a c : Joined) (request : Request) (has_room : Type 0) (result : Result (ℕ × Reply) CallError)
    → MakesCall (EntersAtOnceBy words) (λ told. told) has_room a request result c → MakesCall (EntersOrWaitsBy words) (λ told. told) has_room a request result c
entered_now words a c request has_room result h =
    record { ok = h.ok; err = h.err; full = h.full; spent = h.spent; turns = λ few. inl (h.turns few); never_gives_up = h.never_gives_up; memory = h.memory }

has_missed : (a m : Joined) (left : ℕ) → HasTried a m left → HasMissed a m
has_missed a m left h = record { tries = h.tries; misses = h.misses; queue = h.queue; standing = h.standing; posts = h.posts }

-- at first it has as many tries left as its rest says
pub all_left : (a : Joined) (left : ℕ) → left ≡ a.rest.tries → HasTried a a left
all_left a left is = record { tries = zero; left_is = omega (arith, is); misses = refl; queue = refl; standing = refl; posts = refl }

-- it found the lock held once more
pub one_less : (a m b : Joined) (left : ℕ) → 0 < left → HasTried a m left → FindsLockHeld m b → HasTried a b (left - 1)
one_less a m b left some h held =
    let before : left + h.tries ≡ a.rest.tries = h.left_is in
    record {
      tries = suc h.tries;
      left_is = omega (arith, some, before);
      misses = (m, h.misses, held);
      queue = ap (λ (z : Joined). z.queue) held ∙ h.queue;
      standing = ap (λ (z : Joined). z.pen.standing) held ∙ h.standing;
      posts = ap (λ (z : Joined). z.pen.posts) held ∙ h.posts;
    }

-- it found the lock free after such tries
pub entered_later : (words : ℕ) (a m c : Joined) (left : ℕ) (request : Request) (has_room : Type 0) (result : Result (ℕ × Reply) CallError)
    → 0 < left → HasTried a m left → a.pen.posts < most_posts a.queue.room
    → MakesCall (EntersAtOnceBy words) (λ told. told) has_room m request result c → MakesCall (TriesOrWaitsBy words) (λ told. told) has_room a request result c
entered_later words a m c left request has_room result some h few call =
    let before : left + h.tries ≡ a.rest.tries = h.left_is in
    let fewer : h.tries < a.rest.tries = omega (arith, some, before) in
    call_behind (EntersAtOnceBy words) (TriesOrWaitsBy words) a m c request has_room result (has_missed a m left h) few
    (λ r t. record { tries = h.tries; missed = m; misses = h.misses; ends = inl (fewer, t) }) call

-- it posted and waited after all of them
pub waited_later : (words : ℕ) (a m c : Joined) (request : Request) (has_room : Type 0) (result : Result (ℕ × Reply) CallError)
    → HasTried a m 0 → a.pen.posts < most_posts a.queue.room
    → MakesCall (PostsAndWaitsBy words) (λ told. told) has_room m request result c → MakesCall (TriesOrWaitsBy words) (λ told. told) has_room a request result c
waited_later words a m c request has_room result h few call =
    let before : 0 + h.tries ≡ a.rest.tries = h.left_is in
    let all : h.tries ≡ a.rest.tries = omega (arith, before) in
    call_behind (PostsAndWaitsBy words) (TriesOrWaitsBy words) a m c request has_room result (has_missed a m 0 h) few
    (λ r t. record { tries = h.tries; missed = m; misses = h.misses; ends = inr (all, t) }) call

-- A call after a missed try is one of the member before it.
pub tried_behind : (words : ℕ) (a b c : Joined) (request : Request) (has_room : Type 0) (result : Result (ℕ × Reply) CallError) → FindsLockHeld a b → a.pen.posts < most_posts a.queue.room
    → MakesCall (TriesOrWaitsBy words) (λ told. told) has_room b request result c → MakesCall (EntersOrWaitsBy words) (λ told. told) has_room a request result c
tried_behind words a b c request has_room result held few call =
    call_behind (TriesOrWaitsBy words) (EntersOrWaitsBy words) a b c request has_room result (missed_on a a b (missed_none a) held) few
    (λ r t. inr (b, held, t)) call

-- A member that was refused for want of memory knows the journal that it had in its hand.
refused_knows : (a c : Joined) (operation : Operation) (x : Answer) → ReleasesOperation a operation x c → x ≡ answer.NoMemory → c.pen.known ≡ a.pen.hand
refused_knows a c operation x h e =
    ap (λ (z : Joined). z.pen.known) h.after_is ∙ ap (journal_by a.pen.hand a.pen.place (a.pen.posts + 1) operation) e

-- So what is said of the journal in its hand is said of the one that it knows.
pub spare_own : {S : Type 0} (room : S → ℕ) (a c : Joined) (operation : Operation) (x : Answer) → ReleasesOperation a operation x c
    → (HasSpareRoom room a.pen.hand → x ≢ answer.NoMemory) → HasSpareRoom room c.pen.known → x ≢ answer.NoMemory
spare_own room a c operation x h never all e = never (subst (HasSpareRoom room) (refused_knows a c operation x h e) all) e

-- a call is refused for want of memory only where its request was
pub refused_as : (x : Answer) → IsErrOf (ended (Some x)) NoMemory → x ≡ answer.NoMemory
refused_as (Entered number reply) e = absurd (cc e)
refused_as answer.BookFull e = absurd (cc e)
refused_as answer.NoMemory e = refl
refused_as (answer.Refused why) e = absurd (cc e)
