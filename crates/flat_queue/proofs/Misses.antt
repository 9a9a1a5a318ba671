-- What tries that found the lock held leave of a member, and a call behind such tries.
use Rattle.std.proofs.Common.{◌≡◌, ◌∙◌, ℕ, zero, suc, ◌+◌, ◌<◌, sym, ap, subst, refl, arith, true, List}
use Rattle.std.specs.Prelude.{Option, Some, Result, Ok, Err, IfOk, IfErr}
use Rattle.pq_types.specs.Asked.{Request, Operation}
use Rattle.pq_types.specs.Operation.{Asked}
use Rattle.pq_types.specs.Asked.{Reply}
use Rattle.desk_core.specs.declared.model.Call.{Call}
use Rattle.desk_core.specs.declared.model.Standing.{Standing}
use Rattle.desk_core.specs.declared.model.Word.{Word}
use Rattle.desk_core.specs.declared.model.Word.TheVariants as word
use Rattle.flat_queue.specs.Limits.{most_posts}
use Rattle.flat_queue.specs.Members.{Joined}
use Rattle.flat_queue.specs.Turns.{FindsLockHeld, Misses}
use Rattle.flat_queue.specs.Calling.{HasPostedOne, IsEntered, IsCalled, IsRefused, MakesCall}
use Rattle.flat_queue.specs.declared.error.CallError.{CallError}
use Rattle.flat_queue.specs.declared.error.CallError.TheVariants.{NoMemory, BookFull, Refused, Spent, GaveUp}

-- The member, but for what its pen last read and the number of its steps
abbrev pub missed_as : Joined → Option Word → ℕ → Joined
missed_as a read steps = record a { pen = record a.pen { read = read; steps = steps } }

missed_more : (a m b : Joined) → m ≡ missed_as a m.pen.read m.pen.steps → FindsLockHeld m b → b ≡ missed_as a b.pen.read b.pen.steps
missed_more a m b h held =
    subst (λ z. z ≡ missed_as a z.pen.read z.pen.steps) (sym held) (ap (λ z. missed_as z (Some (word.Lock true)) (m.pen.steps + 1)) h)

-- tries that found the lock held change nothing else
pub misses_keep : (n : ℕ) (a b : Joined) → Misses n a b → b ≡ missed_as a b.pen.read b.pen.steps
misses_keep zero a b h = subst (λ z. z ≡ missed_as a z.pen.read z.pen.steps) (sym h) refl
misses_keep (suc n) a b (m, h, held) = missed_more a m b (misses_keep n a m h) held

-- the member has found the lock held at each try, and stands as it stood
pub record HasMissed (a b : Joined) : Type 0 where
  pub tries : ℕ
  pub misses : Misses tries a b
  pub queue : b.queue ≡ a.queue
  pub standing : b.pen.standing ≡ a.pen.standing
  pub posts : b.pen.posts ≡ a.pen.posts

-- at first, and after one try more
pub missed_none : (a : Joined) → HasMissed a a
missed_none a = record { tries = zero; misses = refl; queue = refl; standing = refl; posts = refl }

pub missed_on : (a m b : Joined) → HasMissed a m → FindsLockHeld m b → HasMissed a b
missed_on a m b h held =
    record {
      tries = suc h.tries;
      misses = (m, h.misses, held);
      queue = ap (λ (z : Joined). z.queue) held ∙ h.queue;
      standing = ap (λ (z : Joined). z.pen.standing) held ∙ h.standing;
      posts = ap (λ (z : Joined). z.pen.posts) held ∙ h.posts;
    }

pub has_missed_so : (n : ℕ) (a b : Joined) → Misses n a b → HasMissed a b
has_missed_so n a b h =
    let same = misses_keep n a b h in
    record {
      tries = n;
      misses = h;
      queue = ap (λ (z : Joined). z.queue) same;
      standing = ap (λ (z : Joined). z.pen.standing) same;
      posts = ap (λ (z : Joined). z.pen.posts) same;
    }

-- a call behind such tries is one of the member before them
pub one_behind : (a c : Joined) (read : Option Word) (steps : ℕ) (now : Standing) (calls : List Call) → HasPostedOne (missed_as a read steps) now calls c → HasPostedOne a now calls c
one_behind a c read steps now calls h =
    record {
      stays = record {
        queue = h.stays.queue;
        id = h.stays.id;
        turns = h.stays.turns;
        place = h.stays.place;
        room = h.stays.room;
        leading = h.stays.leading;
        rest = h.stays.rest;
        known = h.stays.known;
      };
      posts = h.posts;
      standing = h.standing;
      mine = h.mine;
    }

pub entered_behind : (a c : Joined) (read : Option Word) (steps : ℕ) (operation : Operation) (number : ℕ) (reply : Reply)
    → IsEntered (missed_as a read steps) operation number reply c → IsEntered a operation number reply c
entered_behind a c read steps operation number reply h =
    record { member = one_behind a c read steps _ _ h.member; reply_is = h.reply_is; line = h.line; within = h.within; behind = h.behind; beyond = h.beyond; times = record { began = h.times.began; ended = h.times.ended; begins = h.times.begins; ends = h.times.ends } }

pub called_behind : (a c : Joined) (read : Option Word) (steps : ℕ) (request : Request) (number : ℕ) (reply : Reply)
    → IsCalled (missed_as a read steps) request number reply c → IsCalled a request number reply c
called_behind a c read steps request number reply h = entered_behind a c read steps (Asked request) number reply h

-- a refusal behind them is one of the member before them
refused_behind : (a c : Joined) (read : Option Word) (steps : ℕ) (request : Request) (error : CallError) → a.pen.posts < most_posts a.queue.room
    → IsRefused ⊥ (missed_as a read steps) request error c → IsRefused ⊥ a request error c
refused_behind a c read steps request NoMemory few h = (h.0, one_behind a c read steps _ _ h.1)
refused_behind a c read steps request BookFull few h = one_behind a c read steps _ _ h
refused_behind a c read steps request (Refused why) few h = (h.0, one_behind a c read steps _ _ h.1)
refused_behind a c read steps request Spent few h = absurd (let le = h.0 in omega (arith, le, few))
refused_behind a c read steps request GaveUp few h = absurd h.0

ok_result : {A : Type 0} (told : A → ℕ × Reply) (a c : Joined) (read : Option Word) (steps : ℕ) (request : Request) (r : Result A CallError)
    → IfOk r (λ x. IsCalled (missed_as a read steps) request (told x).0 (told x).1 c) → IfOk r (λ x. IsCalled a request (told x).0 (told x).1 c)
ok_result told a c read steps request (Ok x) h = called_behind a c read steps request (told x).0 (told x).1 h
ok_result told a c read steps request (Err error) h = tt

err_result : {A : Type 0} (a c : Joined) (read : Option Word) (steps : ℕ) (request : Request) (r : Result A CallError) → a.pen.posts < most_posts a.queue.room
    → IfErr r (λ error. IsRefused ⊥ (missed_as a read steps) request error c) → IfErr r (λ error. IsRefused ⊥ a request error c)
err_result a c read steps request (Ok told) few h = tt
err_result a c read steps request (Err error) few h = refused_behind a c read steps request error few h

-- tries use no serial
pub few_behind : (a m : Joined) → HasMissed a m → a.pen.posts < most_posts a.queue.room → m.pen.posts < most_posts m.queue.room
few_behind a m missed few =
    let same : m.pen.posts ≡ a.pen.posts = missed.posts in
    let room : most_posts m.queue.room ≡ most_posts a.queue.room = ap (λ q. most_posts q.room) missed.queue in
    omega (arith, same, room, few)

-- A call behind such tries, by these turns, is one of the member before them, by what the tries and these turns are together.
pub tells_behind : {A : Type 0} (told : A → ℕ × Reply) (T U : Joined → Request → Result (ℕ × Reply) CallError → Joined → Type 0) (a m c : Joined) (request : Request) (has_room : Type 0)
    (result : Result A CallError) → HasMissed a m → a.pen.posts < most_posts a.queue.room
    → ((r : Result (ℕ × Reply) CallError) → T m request r c → U a request r c)
    → MakesCall T told has_room m request result c → MakesCall U told has_room a request result c
tells_behind told T U a m c request has_room result missed few together h =
    let k : MakesCall T told has_room (missed_as a m.pen.read m.pen.steps) request result c =
    subst (λ z. MakesCall T told has_room z request result c) (misses_keep missed.tries a m missed.misses) h in
    let same : m.pen.posts ≡ a.pen.posts = missed.posts in
    let room : most_posts m.queue.room ≡ most_posts a.queue.room = ap (λ q. most_posts q.room) missed.queue in
    record {
      ok = ok_result told a c m.pen.read m.pen.steps request result k.ok;
      err = err_result a c m.pen.read m.pen.steps request result few k.err;
      full = k.full;
      spent = k.spent;
      turns = λ f. together _ (h.turns (omega (arith, same, room, f)));
      never_gives_up = k.never_gives_up;
      memory = k.memory;
    }

-- so is one that tells its line and its reply
pub call_behind : (T U : Joined → Request → Result (ℕ × Reply) CallError → Joined → Type 0) (a m c : Joined) (request : Request) (has_room : Type 0)
    (result : Result (ℕ × Reply) CallError) → HasMissed a m → a.pen.posts < most_posts a.queue.room
    → ((r : Result (ℕ × Reply) CallError) → T m request r c → U a request r c)
    → MakesCall T (λ told. told) has_room m request result c → MakesCall U (λ told. told) has_room a request result c
call_behind T U a m c request has_room result missed few together h = tells_behind (λ told. told) T U a m c request has_room result missed few together h
