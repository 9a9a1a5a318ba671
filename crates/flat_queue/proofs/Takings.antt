-- What pops and looks in vain, and the last one of a take, come to.
use Rattle.std.proofs.Common.{◌≡◌, ◌∙◌, ℕ, zero, suc, ◌<◌, inl, inr, ap, sym, subst, refl, arith, true}
use Rattle.std.specs.Prelude.{Option, Some, None, Result, Ok, Err, IsErrOf, ⊤}
use Rattle.std.specs.declared.time.Instant.{Instant}
use Rattle.pq_types.specs.Item.{Item}
use Rattle.pq_types.specs.Asked.{Request, Reply}
use Rattle.pq_types.specs.declared.request.Request.TheVariants.{Pop}
use Rattle.pq_types.specs.declared.answer.Reply.TheVariants.{Got}
use Rattle.pq_types.specs.declared.answer.Answer.TheVariants.{Entered}
use Rattle.pq_types.specs.declared.answer.Answer.TheVariants as answer
use Rattle.pq_types.specs.declared.answer.Refusal.{Refusal}
use Rattle.announce_board.specs.Tokens.{is_idle}
use Rattle.flat_queue.specs.Limits.{most_posts}
use Rattle.flat_queue.specs.Members.{Joined}
use Rattle.flat_queue.specs.Calling.{MakesCall, popped, ended}
use Rattle.flat_queue.specs.OwnRequest.{EntersAtOnceBy, EntersOrWaitsBy}
use Rattle.flat_queue.specs.Looking.{Looked, ServesOthersBy, LooksFirstBy, IsEmptyYet, MissesThenLooksBy}
use Rattle.flat_queue.specs.Turns.{Misses}
use Rattle.flat_queue.specs.Taking.{Awaited, PopsInVain, FindsNoneBy, Repeats, LooksNowBy, LooksForBy, TriesUntilFreeBy, TakesSo, TakesAtOnceBy}
use Rattle.flat_queue.specs.Taking.{TakesNoneBy, TakesNoneYetBy, TakesOneSoBy, TakesOneBy, MayEnd, LooksUntilBy, LooksOnBy, TakesUntilBy, OrEndsBy}
use Rattle.flat_queue.specs.declared.taking.Awaited.TheVariants as awaited
use Rattle.flat_queue.specs.declared.looking.Wanted.{Wanted}
use Rattle.flat_queue.specs.declared.looking.Wanted.TheVariants as wanted
use Rattle.flat_queue.specs.declared.looking.Looked.TheVariants as looked
use Rattle.flat_queue.specs.declared.event_count.Wakes.{Wakes}
use Rattle.flat_queue.specs.declared.error.CallError.{CallError}
use Rattle.flat_queue.specs.declared.error.CallError.TheVariants as error
use Rattle.flat_queue.proofs.OwnRequests.{called_own}
use Rattle.flat_queue.proofs.Misses.{missed_as, misses_keep, HasMissed, has_missed_so}

-- the member is of the queue that it was, and idle
abbrev pub IdleStill : Joined → Joined → Type 0
IdleStill before after = (after.queue ≡ before.queue) × (is_idle after.pen.standing ≡ true)

-- a call that tells something is not refused
not_err : {A : Type 0} (a : A) (e : CallError) → ¬ (IsErrOf (Ok a) e)
not_err a e f = cc f

-- a pop that found an item took it out
pub taken : (words : ℕ) (before after : Joined) (result : Result (ℕ × Option Item) CallError) (number : ℕ) (x : Item) → result ≡ Ok (number, Some x)
    → MakesCall (EntersOrWaitsBy words) (λ told. (told.0, popped told.1)) ⊤ before Pop result after → TakesAtOnceBy words before (Ok (number, x)) after
taken words before after result number x is h =
    let k : MakesCall (EntersOrWaitsBy words) (λ told. (told.0, popped told.1)) ⊤ before Pop (Ok (number, Some x)) after =
    subst (λ r. MakesCall (EntersOrWaitsBy words) (λ told. (told.0, popped told.1)) ⊤ before Pop r after) is h in
    record {
      ok = k.ok;
      err = tt;
      full = λ f. absurd (not_err (number, x) error.BookFull f);
      spent = (λ f. absurd (not_err (number, x) error.Spent f), λ le. absurd (not_err (number, Some x) error.Spent (k.spent.1 le)));
      turns = k.turns;
      never_gives_up = not_err (number, x) error.GaveUp;
      memory = λ room. not_err (number, x) error.NoMemory;
    }

-- a pop that found none has its line
pub in_vain : (words : ℕ) (before after : Joined) (result : Result (ℕ × Option Item) CallError) (number : ℕ) → result ≡ Ok (number, None)
    → MakesCall (EntersOrWaitsBy words) (λ told. (told.0, popped told.1)) ⊤ before Pop result after → PopsInVain before number after
in_vain words before after result number is h =
    let k : MakesCall (EntersOrWaitsBy words) (λ told. (told.0, popped told.1)) ⊤ before Pop (Ok (number, None)) after =
    subst (λ r. MakesCall (EntersOrWaitsBy words) (λ told. (told.0, popped told.1)) ⊤ before Pop r after) is h in
    k.ok

-- a refusal says the same, whatever the call would have told
same_refusal : {A B : Type 0} (e f : CallError) → IsErrOf {T = A} {E = CallError} (Err e) f → IsErrOf {T = B} {E = CallError} (Err e) f
same_refusal e f is = let h : e ≡ f = cc is in ap Err h

-- a pop that was refused is one that takes nothing
pub refused : (words : ℕ) (before after : Joined) (result : Result (ℕ × Option Item) CallError) (e : CallError) → result ≡ Err e
    → MakesCall (EntersOrWaitsBy words) (λ told. (told.0, popped told.1)) ⊤ before Pop result after → TakesAtOnceBy words before (Err e) after
refused words before after result e is h =
    let k : MakesCall (EntersOrWaitsBy words) (λ told. (told.0, popped told.1)) ⊤ before Pop (Err e) after =
    subst (λ r. MakesCall (EntersOrWaitsBy words) (λ told. (told.0, popped told.1)) ⊤ before Pop r after) is h in
    record {
      ok = tt;
      err = k.err;
      full = λ f. k.full (same_refusal e error.BookFull f);
      spent = (λ f. k.spent.0 (same_refusal e error.Spent f), λ le. same_refusal e error.Spent (k.spent.1 le));
      turns = k.turns;
      never_gives_up = λ f. k.never_gives_up (same_refusal e error.GaveUp f);
      memory = λ room f. k.memory room (same_refusal e error.NoMemory f);
    }

-- a look that took an item is a call that did
pub takes_now : (words : ℕ) (wants : Wanted) (a c : Joined) (number : ℕ) (x : Item) → a.pen.posts < most_posts a.queue.room
    → LooksFirstBy words wants a (looked.Taken number x) c → TakesSo (LooksNowBy words wants) a (Ok (number, x)) c
takes_now words wants a c number x few h =
    let call : MakesCall (EntersAtOnceBy words) (λ told. told) ⊥ a Pop (ended (Some (Entered number (Got x)))) c = called_own words (Entered number (Got x)) a c Pop ⊥ h.0.0 h.0.1 few (λ r e. r) in
    record {
      ok = call.ok;
      err = tt;
      full = λ e. absurd (cc e);
      spent = (λ e. absurd (cc e), λ le. absurd (omega (arith, le, few)));
      turns = λ f. (looked.Taken number x, refl, h);
      never_gives_up = λ e. cc e;
      memory = λ room e. cc e;
    }

-- so is one that was told that the journal is full
pub full_now : (words : ℕ) (wants : Wanted) (a c : Joined) → a.pen.posts < most_posts a.queue.room
    → LooksFirstBy words wants a looked.BookFull c → TakesSo (LooksNowBy words wants) a (Err error.BookFull) c
full_now words wants a c few h =
    let call : MakesCall (EntersAtOnceBy words) (λ told. told) ⊥ a Pop (ended (Some answer.BookFull)) c = called_own words answer.BookFull a c Pop ⊥ h.0 h.1 few (λ r e. r) in
    record {
      ok = tt;
      err = call.err;
      full = λ e. call.full refl;
      spent = (λ e. absurd (cc e), λ le. absurd (omega (arith, le, few)));
      turns = λ f. (looked.BookFull, refl, h);
      never_gives_up = λ e. cc e;
      memory = λ room e. cc e;
    }

-- and so is one that the queue's rules refused
pub ruled_now : (words : ℕ) (wants : Wanted) (a c : Joined) (why : Refusal) → a.pen.posts < most_posts a.queue.room
    → LooksFirstBy words wants a (looked.Refused why) c → TakesSo (LooksNowBy words wants) a (Err (error.Refused why)) c
ruled_now words wants a c why few h =
    let call : MakesCall (EntersAtOnceBy words) (λ told. told) ⊥ a Pop (ended (Some (answer.Refused why))) c = called_own words (answer.Refused why) a c Pop ⊥ h.0 h.1 few (λ r e. r) in
    record {
      ok = tt;
      err = call.err;
      full = λ e. absurd (cc e);
      spent = (λ e. absurd (cc e), λ le. absurd (omega (arith, le, few)));
      turns = λ f. (looked.Refused why, refl, h);
      never_gives_up = λ e. cc e;
      memory = λ room e. absurd (cc e);
    }

-- a look behind tries that found the lock held is one of the member before them
pub looks_behind : (words : ℕ) (wants : Wanted) (a c z : Joined) (r : Result (ℕ × Reply) CallError) → HasMissed a z → LooksNowBy words wants z Pop r c → LooksForBy words wants a Pop r c
looks_behind words wants a c z r m (told, is, h) = (told, is, record { tries = m.tries; missed = z; misses = m.misses; looks = h })

-- a look in vain leaves its member idle, at its queue
pub vain_idle : (words : ℕ) (wants : Wanted) (a c : Joined) (told : Looked) → is_idle a.pen.standing ≡ true → MissesThenLooksBy words wants a told c
    → ((b : Joined) → LooksFirstBy words wants b told c → ServesOthersBy words b c) → IdleStill a c
vain_idle words wants a c told i h bare =
    let m = missed_as a h.missed.pen.read h.missed.pen.steps in
    let here = bare m (subst (λ z. LooksFirstBy words wants z told c) (misses_keep h.tries a h.missed h.misses) h.looks) in
    (here.serves.none.stays.queue, ap is_idle here.serves.none.standing ∙ i)

pub empty_idle : (words : ℕ) (wakes : Wakes) (wants : Wanted) (a c : Joined) (told : Looked) → IsEmptyYet wakes told → is_idle a.pen.standing ≡ true → MissesThenLooksBy words wants a told c → IdleStill a c
empty_idle words wakes wants a c (looked.Taken number x) e i h = absurd e
empty_idle words wakes wants a c (looked.Stays x) e i h = absurd e
empty_idle words wakes wants a c looked.Nothing e i h = vain_idle words wants a c looked.Nothing i h (λ b l. l.0)
empty_idle words wakes wants a c looked.Over e i h = vain_idle words wants a c looked.Over i h (λ b l. l.0)
empty_idle words wakes wants a c looked.BookFull e i h = absurd e
empty_idle words wakes wants a c (looked.Refused why) e i h = absurd e

pub finds_idle : (words : ℕ) (wakes : Wakes) (a c : Joined) → is_idle a.pen.standing ≡ true → FindsNoneBy words wakes a c → IdleStill a c
finds_idle words wakes a c i (told, empty, h) = empty_idle words wakes wanted.Anything a c told empty i h

pub ends_so_idle : (words : ℕ) (wants : Wanted) (a c : Joined) → is_idle a.pen.standing ≡ true → MissesThenLooksBy words wants a looked.Over c → IdleStill a c
ends_so_idle words wants a c i h = vain_idle words wants a c looked.Over i h (λ b l. l.0)

-- what looks behind a pop in vain come to, where no deadline ends them
pub behind_taken : (words : ℕ) (wakes : Wakes) (a b c : Joined) (line number : ℕ) (x : Item) → PopsInVain a line b → LooksOnBy words wakes (LooksUntilBy words (λ told. ⊥) line) b (Ok (Some (awaited.Taken number x))) c
    → TakesOneBy words wakes a (Ok (number, x)) c
behind_taken words wakes a b c line number x v (n, m, f, l) = inr (line, m, record { popped = b; in_vain = v; looks = n; found_none = f }, l)

pub behind_over : (words : ℕ) (wakes : Wakes) (a b c : Joined) (line : ℕ) → PopsInVain a line b → LooksOnBy words wakes (LooksUntilBy words (λ told. ⊥) line) b (Ok None) c
    → OrEndsBy words wakes (TakesOneBy words wakes) a (Ok None) c
behind_over words wakes a b c line v (n, m, f, l) = (line, m, record { popped = b; in_vain = v; looks = n; found_none = f }, l)

pub behind_refused : (words : ℕ) (wakes : Wakes) (a b c : Joined) (line : ℕ) (e : CallError) → PopsInVain a line b → LooksOnBy words wakes (LooksUntilBy words (λ told. ⊥) line) b (Err e) c
    → TakesOneBy words wakes a (Err e) c
behind_refused words wakes a b c line e v (n, m, f, l) = inr (line, m, record { popped = b; in_vain = v; looks = n; found_none = f }, l)

-- and where one may
pub behind_until : (words : ℕ) (wakes : Wakes) (may_tell : Option Instant → Type 0) (deadline : Instant) (a b c : Joined) (line : ℕ) (result : Result (Option Awaited) CallError) → PopsInVain a line b
    → LooksOnBy words wakes (LooksUntilBy words (MayEnd may_tell deadline) line) b result c → OrEndsBy words wakes (TakesUntilBy words wakes may_tell deadline) a result c
behind_until words wakes may_tell deadline a b c line (Ok (Some (awaited.Taken number x))) v (n, m, f, l) = inr (line, m, record { popped = b; in_vain = v; looks = n; found_none = f }, l)
behind_until words wakes may_tell deadline a b c line (Ok (Some (awaited.Late number now))) v (n, m, f, (is, late, misses)) =
    ((m, subst (λ k. TakesNoneBy words wakes a k m) (sym is) record { popped = b; in_vain = v; looks = n; found_none = f }, misses), late)
behind_until words wakes may_tell deadline a b c line (Ok (Some (awaited.NoClock number))) v (n, m, f, (is, unread, misses)) =
    ((m, subst (λ k. TakesNoneBy words wakes a k m) (sym is) record { popped = b; in_vain = v; looks = n; found_none = f }, misses), unread)
behind_until words wakes may_tell deadline a b c line (Ok (Some (awaited.Held told))) v (n, m, f, l) = absurd l
behind_until words wakes may_tell deadline a b c line (Ok None) v (n, m, f, l) = (line, m, record { popped = b; in_vain = v; looks = n; found_none = f }, l)
behind_until words wakes may_tell deadline a b c line (Err e) v (n, m, f, l) = inr (line, m, record { popped = b; in_vain = v; looks = n; found_none = f }, l)

-- one that popped in vain is idle still
pub idle_still : (before after : Joined) (number : ℕ) → PopsInVain before number after → IdleStill before after
idle_still before after number v = (v.member.stays.queue, ap is_idle v.member.standing)

-- a call that takes an item, or is refused, leaves its member idle, at its queue
pub ends_idle : (Turns : Joined → Request → Result (ℕ × Reply) CallError → Joined → Type 0) (before after : Joined) (result : Result (ℕ × Item) CallError) → is_idle before.pen.standing ≡ true
    → TakesSo Turns before result after → IdleStill before after
ends_idle Turns before after (Ok t) i k = (k.ok.member.stays.queue, ap is_idle k.ok.member.standing)
ends_idle Turns before after (Err error.NoMemory) i k = absurd k.err.0
ends_idle Turns before after (Err error.BookFull) i k = (k.err.stays.queue, ap is_idle k.err.standing)
ends_idle Turns before after (Err (error.Refused why)) i k = (k.err.1.stays.queue, ap is_idle k.err.1.standing)
ends_idle Turns before after (Err error.Spent) i k = (ap (λ (z : Joined). z.queue) k.err.1, ap (λ (z : Joined). is_idle z.pen.standing) k.err.1 ∙ i)
ends_idle Turns before after (Err error.GaveUp) i k = absurd k.err.0

-- a member that does nothing stays so, and so do steps that each leave it so
pub still_idle : (before after : Joined) → is_idle before.pen.standing ≡ true → after ≡ before → IdleStill before after
still_idle before after i e = (ap (λ (z : Joined). z.queue) e, ap (λ (z : Joined). is_idle z.pen.standing) e ∙ i)

pub repeats_idle : (Steps : Joined → Joined → Type 0) → ((a c : Joined) → is_idle a.pen.standing ≡ true → Steps a c → IdleStill a c) → (n : ℕ) (before after : Joined)
    → is_idle before.pen.standing ≡ true → Repeats Steps n before after → IdleStill before after
repeats_idle Steps keeps zero before after i e = still_idle before after i e
repeats_idle Steps keeps (suc n) before after i (m, f, v) =
    let r = repeats_idle Steps keeps n before m i f in let s = keeps m after r.1 v in (s.0 ∙ r.0, s.1)

-- and so does what a take comes to
none_idle : (words : ℕ) (wakes : Wakes) (before after : Joined) (line : ℕ) → TakesNoneBy words wakes before line after → IdleStill before after
none_idle words wakes before after line t =
    let r = idle_still before t.popped line t.in_vain in let s = repeats_idle (FindsNoneBy words wakes) (finds_idle words wakes) t.looks t.popped after r.1 t.found_none in (s.0 ∙ r.0, s.1)

one_idle : (words : ℕ) (wakes : Wakes) (Turns : Joined → Request → Result (ℕ × Reply) CallError → Joined → Type 0) (before after : Joined) (result : Result (ℕ × Item) CallError) → is_idle before.pen.standing ≡ true
    → TakesOneSoBy words wakes Turns before result after → IdleStill before after
one_idle words wakes Turns before after result i (inl t) = ends_idle Turns before after result i t
one_idle words wakes Turns before after result i (inr (line, m, v, t)) =
    let r = none_idle words wakes before m line v in let s = ends_idle (LooksForBy words wanted.Anything) m after result r.1 t in (s.0 ∙ r.0, s.1)

pub takes_idle : (words : ℕ) (wakes : Wakes) (before after : Joined) (result : Result (ℕ × Item) CallError) → is_idle before.pen.standing ≡ true → TakesOneBy words wakes before result after → IdleStill before after
takes_idle words wakes before after result i t = one_idle words wakes (EntersOrWaitsBy words) before after result i t

pub missed_idle : (n : ℕ) (before after : Joined) → is_idle before.pen.standing ≡ true → Misses n before after → IdleStill before after
missed_idle n before after i h = let m = has_missed_so n before after h in (m.queue, ap is_idle m.standing ∙ i)

none_yet_idle : (words : ℕ) (wakes : Wakes) (before after : Joined) (line : ℕ) → TakesNoneYetBy words wakes before line after → IdleStill before after
none_yet_idle words wakes before after line (m, v, (n, h)) =
    let r = none_idle words wakes before m line v in let s = missed_idle n m after r.1 h in (s.0 ∙ r.0, s.1)

pub until_idle : (words : ℕ) (wakes : Wakes) (may_tell : Option Instant → Type 0) (deadline : Instant) (before after : Joined) (result : Result Awaited CallError) → is_idle before.pen.standing ≡ true
    → TakesUntilBy words wakes may_tell deadline before result after → IdleStill before after
until_idle words wakes may_tell deadline before after (Ok (awaited.Taken number x)) i t = one_idle words wakes (TriesUntilFreeBy words) before after (Ok (number, x)) i t
until_idle words wakes may_tell deadline before after (Ok (awaited.Late number now)) i (t, late) = none_yet_idle words wakes before after number t
until_idle words wakes may_tell deadline before after (Ok (awaited.NoClock number)) i (t, unread) = none_yet_idle words wakes before after number t
until_idle words wakes may_tell deadline before after (Ok (awaited.Held told)) i ((n, h), late) = missed_idle n before after i h
until_idle words wakes may_tell deadline before after (Err e) i t = one_idle words wakes (TriesUntilFreeBy words) before after (Err e) i t

-- so does a take that may be told the end, where it does without one
pub or_ends_idle : (words : ℕ) (wakes : Wakes) {A : Type 0} (Takes : Joined → Result A CallError → Joined → Type 0) (before after : Joined) (result : Result (Option A) CallError)
    → ((told : Result A CallError) → Takes before told after → IdleStill before after)
    → OrEndsBy words wakes Takes before result after → IdleStill before after
or_ends_idle words wakes Takes before after (Ok (Some a)) keeps h = keeps (Ok a) h
or_ends_idle words wakes Takes before after (Ok None) keeps (line, m, t, v) =
    let r = none_idle words wakes before m line t in let s = ends_so_idle words wanted.Anything m after r.1 v in (s.0 ∙ r.0, s.1)
or_ends_idle words wakes Takes before after (Err e) keeps h = keeps (Err e) h
