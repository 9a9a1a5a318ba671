-- What the steps of a take come to, one after another.
use Rattle.std.proofs.Common.{◌≡◌, ◌∙◌, ℕ, zero, suc, ◌<◌, ◌⊎◌, inl, inr, ⊎_elim, ap, sym, subst, refl, true}
use Rattle.std.specs.Prelude.{Option, Some, None, Result, Ok, Err, ⊤}
use Rattle.std.specs.declared.time.Instant.{Instant}
use Rattle.pq_types.specs.Item.{Item}
use Rattle.pq_types.specs.Asked.{Request, Reply, Answer}
use Rattle.pq_types.specs.declared.request.Request.TheVariants.{Pop}
use Rattle.pq_types.specs.declared.answer.Reply.TheVariants.{Pushed, Got, Empty, Least as LeastIs}
use Rattle.pq_types.specs.declared.answer.Answer.TheVariants.{Entered}
use Rattle.pq_types.specs.declared.answer.Refusal.{Refusal}
use Rattle.pq_types.specs.declared.answer.Answer.TheVariants as answer
use Rattle.announce_board.specs.Tokens.{is_idle}
use Rattle.announce_board.specs.Asking.{IsAnswerTo}
use Rattle.flat_queue.specs.Limits.{most_posts}
use Rattle.flat_queue.specs.Members.{Joined}
use Rattle.flat_queue.specs.Calling.{MakesCall, ended}
use Rattle.flat_queue.specs.OwnRequest.{CarriesOutBy, EntersAtOnceBy}
use Rattle.flat_queue.specs.Turns.{FindsLockHeld, FindsHeldYet, Misses}
use Rattle.flat_queue.specs.Taking.{PopsInVain, FindsNoneBy, FindsEndBy, Repeats, LooksNowBy, LooksForBy, TriesUntilFreeBy, TakesSo, MayEnd}
use Rattle.flat_queue.specs.Taking.{LooksUntilBy, LooksOnBy, TakesUntilBy, OrEndsBy}
use Rattle.flat_queue.specs.TakeSteps.{Took, TakeStepped, SeesNoneBy, SeesEndBy, PopsOnceBy, LooksOneTimeBy, TakeStepsBy, TakeKeepsLook, popped_by, looking_on, looked_on, awaited_by}
use Rattle.flat_queue.specs.DueSteps.{DueStage, DueStepped, SightsOnceBy, KeepsLook}
use Rattle.flat_queue.specs.declared.event_count.Wakes.{Wakes}
use Rattle.flat_queue.specs.declared.error.CallError.{CallError}
use Rattle.flat_queue.specs.declared.error.CallError.TheVariants as error
use Rattle.flat_queue.specs.declared.looking.Wanted.TheVariants as wanted
use Rattle.flat_queue.specs.declared.due_steps.DueStage.TheVariants as due_stage
use Rattle.flat_queue.specs.declared.due_steps.DueTook.TheVariants as due_took
use Rattle.flat_queue.specs.declared.due_steps.DueStepped.TheVariants as due_stepped
use Rattle.flat_queue.specs.declared.take_steps.TakeStage.{TakeStage}
use Rattle.flat_queue.specs.declared.take_steps.TakeStage.TheVariants as stage
use Rattle.flat_queue.specs.declared.take_steps.Took.TheVariants as took
use Rattle.flat_queue.specs.declared.take_steps.TakeStepped.TheVariants as stepped
use Rattle.flat_queue.proofs.OwnRequests.{called_own}
use Rattle.flat_queue.proofs.Misses.{HasMissed, missed_none, missed_on, misses_keep, called_behind, tells_behind}
use Rattle.flat_queue.proofs.Takings.{IdleStill, finds_idle, idle_still, looks_behind}

-- a pop that took an item out is a call that did
pub pop_takes : (words : ℕ) (a c : Joined) (number : ℕ) (x : Item) → a.pen.posts < most_posts a.queue.room → CarriesOutBy words a Pop (Entered number (Got x)) c
    → IsAnswerTo a.queue.room Pop (Entered number (Got x)) → TakesSo (EntersAtOnceBy words) a (Ok (number, x)) c
pop_takes words a c number x few h fits =
    let call : MakesCall (EntersAtOnceBy words) (λ told. told) ⊥ a Pop (ended (Some (Entered number (Got x)))) c = called_own words (Entered number (Got x)) a c Pop ⊥ h fits few (λ r e. r) in
    record {
      ok = call.ok;
      err = tt;
      full = λ e. absurd (cc e);
      spent = (λ e. absurd (cc e), λ le. absurd (cc (call.spent.1 le)));
      turns = call.turns;
      never_gives_up = λ e. cc e;
      memory = λ room e. cc e;
    }

-- one that found none has its line
pub pop_finds_none : (words : ℕ) (a c : Joined) (number : ℕ) → a.pen.posts < most_posts a.queue.room → CarriesOutBy words a Pop (Entered number Empty) c
    → IsAnswerTo a.queue.room Pop (Entered number Empty) → PopsInVain a number c
pop_finds_none words a c number few h fits =
    let call : MakesCall (EntersAtOnceBy words) (λ told. told) ⊥ a Pop (ended (Some (Entered number Empty))) c = called_own words (Entered number Empty) a c Pop ⊥ h fits few (λ r e. r) in
    call.ok

-- and one that the full journal refused took none
pub pop_full : (words : ℕ) (a c : Joined) → a.pen.posts < most_posts a.queue.room → CarriesOutBy words a Pop answer.BookFull c → IsAnswerTo a.queue.room Pop answer.BookFull
    → TakesSo (EntersAtOnceBy words) a (Err error.BookFull) c
pop_full words a c few h fits =
    let call : MakesCall (EntersAtOnceBy words) (λ told. told) ⊥ a Pop (ended (Some answer.BookFull)) c = called_own words answer.BookFull a c Pop ⊥ h fits few (λ r e. r) in
    record {
      ok = tt;
      err = call.err;
      full = λ e. call.full refl;
      spent = (λ e. absurd (cc e), λ le. absurd (cc (call.spent.1 le)));
      turns = call.turns;
      never_gives_up = λ e. cc e;
      memory = λ room e. cc e;
    }

-- and so one that the queue's rules refused
pub pop_ruled_out : (words : ℕ) (a c : Joined) (why : Refusal) → a.pen.posts < most_posts a.queue.room → CarriesOutBy words a Pop (answer.Refused why) c
    → IsAnswerTo a.queue.room Pop (answer.Refused why) → TakesSo (EntersAtOnceBy words) a (Err (error.Refused why)) c
pop_ruled_out words a c why few h fits =
    let call : MakesCall (EntersAtOnceBy words) (λ told. told) ⊥ a Pop (ended (Some (answer.Refused why))) c = called_own words (answer.Refused why) a c Pop ⊥ h fits few (λ r e. r) in
    record {
      ok = tt;
      err = call.err;
      full = λ e. absurd (cc e);
      spent = (λ e. absurd (cc e), λ le. absurd (cc (call.spent.1 le)));
      turns = call.turns;
      never_gives_up = λ e. cc e;
      memory = λ room e. cc e;
    }

-- what an answer to its pop says of the step
pub pop_told : (words : ℕ) (late : Type 0) (a c : Joined) (x : Answer) → a.pen.posts < most_posts a.queue.room → CarriesOutBy words a Pop x c → IsAnswerTo a.queue.room Pop x
    → PopsOnceBy words late a (popped_by x) c
pop_told words late a c (Entered number Pushed) few h fits = absurd (⊎_elim (λ (e : Pushed ≡ Empty). cc e) (λ (u : (x : Item) × (Pushed ≡ Got x)). let e = u.1 in cc e) fits.2)
pop_told words late a c (Entered number (Got x)) few h fits = pop_takes words a c number x few h fits
pop_told words late a c (Entered number (LeastIs x)) few h fits = absurd (⊎_elim (λ (e : LeastIs x ≡ Empty). cc e) (λ (u : (y : Item) × (LeastIs x ≡ Got y)). let e = u.1 in cc e) fits.2)
pop_told words late a c (Entered number Empty) few h fits = pop_finds_none words a c number few h fits
pop_told words late a c answer.BookFull few h fits = pop_full words a c few h fits
pop_told words late a c answer.NoMemory few h fits = absurd fits
pop_told words late a c (answer.Refused why) few h fits = pop_ruled_out words a c why few h fits

-- a look for any item, as one for what is due, is the look of a take
pub looks_as : (words : ℕ) (wakes : Wakes) (late : Type 0) (line : ℕ) (a c : Joined) (r : DueStepped) → SightsOnceBy words wakes late wanted.Anything a r c → LooksOneTimeBy words wakes late line a (looked_on line r) c
looks_as words wakes late line a c (due_stepped.Ends (due_took.Taken number x)) (h, wanted) = h
looks_as words wakes late line a c (due_stepped.Ends (due_took.Refused e)) h = h
looks_as words wakes late line a c (due_stepped.Ends (due_took.Later x)) (is_late, (serves, (first, unwanted))) = absurd (unwanted tt)
looks_as words wakes late line a c (due_stepped.Ends due_took.Nothing) (is_late, h) = (refl, is_late, inr h)
looks_as words wakes late line a c (due_stepped.Ends due_took.Held) (is_late, h) = (refl, is_late, inl h)
looks_as words wakes late line a c (due_stepped.Ends due_took.Over) h = (refl, h)
looks_as words wakes late line a c (due_stepped.Goes due_stage.Announces) h = absurd h
looks_as words wakes late line a c (due_stepped.Goes (due_stage.Looks look)) h = (refl, h)
looks_as words wakes late line a c (due_stepped.Goes (due_stage.Sleeps seen (Some x))) (serves, (first, unwanted)) = absurd (unwanted tt)
looks_as words wakes late line a c (due_stepped.Goes (due_stage.Sleeps seen None)) h = (refl, h)

-- it keeps what it knew as it was announced
pub keeps_as : (line : ℕ) (was : DueStage) (r : DueStepped) → KeepsLook was r → TakeKeepsLook (looking_on line was) (looked_on line r)
keeps_as line due_stage.Announces r h = tt
keeps_as line (due_stage.Sleeps seen first) r h = tt
keeps_as line (due_stage.Looks look) (due_stepped.Ends (due_took.Taken number x)) h = tt
keeps_as line (due_stage.Looks look) (due_stepped.Ends (due_took.Refused error)) h = tt
keeps_as line (due_stage.Looks look) (due_stepped.Ends (due_took.Later x)) h = tt
keeps_as line (due_stage.Looks look) (due_stepped.Ends due_took.Nothing) h = tt
keeps_as line (due_stage.Looks look) (due_stepped.Ends due_took.Held) h = tt
keeps_as line (due_stage.Looks look) (due_stepped.Ends due_took.Over) h = tt
keeps_as line (due_stage.Looks look) (due_stepped.Goes due_stage.Announces) h = tt
keeps_as line (due_stage.Looks look) (due_stepped.Goes (due_stage.Looks next)) h = h
keeps_as line (due_stage.Looks look) (due_stepped.Goes (due_stage.Sleeps seen first)) h = h

-- it tells the end only where the look does
pub over_as : (line number : ℕ) (r : DueStepped) → looked_on line r ≡ stepped.Ends (took.Over number) → r ≡ due_stepped.Ends due_took.Over
over_as line number (due_stepped.Ends (due_took.Taken n x)) e = absurd (cc e)
over_as line number (due_stepped.Ends (due_took.Refused x)) e = absurd (cc e)
over_as line number (due_stepped.Ends (due_took.Later x)) e = absurd (cc e)
over_as line number (due_stepped.Ends due_took.Nothing) e = absurd (cc e)
over_as line number (due_stepped.Ends due_took.Held) e = absurd (cc e)
over_as line number (due_stepped.Ends due_took.Over) e = refl
over_as line number (due_stepped.Goes due_stage.Announces) e = absurd (cc e)
over_as line number (due_stepped.Goes (due_stage.Looks look)) e = absurd (cc e)
over_as line number (due_stepped.Goes (due_stage.Sleeps seen first)) e = absurd (cc e)

-- The member stands as it stood, or it had a serial left and has found the lock held since.
abbrev pub HasMissedYet : Joined → Joined → Type 0
HasMissedYet a m = (m ≡ a) ⊎ ((a.pen.posts < most_posts a.queue.room) × HasMissed a m)

pub missed_yet : (a m c : Joined) → HasMissedYet a m → FindsHeldYet m c → HasMissedYet a c
missed_yet a m c (inl e) (few, held) =
    inr (subst (λ (z : Joined). z.pen.posts < most_posts z.queue.room) e few, missed_on a a c (missed_none a) (subst (λ z. FindsLockHeld z c) e held))
missed_yet a m c (inr (some, missed)) (few, held) = inr (some, missed_on a m c missed held)

pub so_often : (a m : Joined) → HasMissedYet a m → (n : ℕ) × Misses n a m
so_often a m (inl e) = (zero, e)
so_often a m (inr (some, missed)) = (missed.tries, missed.misses)

-- a call behind that is one of the member before
pub tells_yet : {A : Type 0} (told : A → ℕ × Reply) (T U : Joined → Request → Result (ℕ × Reply) CallError → Joined → Type 0) (a m c : Joined) (request : Request) (has_room : Type 0)
    (result : Result A CallError) → HasMissedYet a m
    → ((z : Joined) (r : Result (ℕ × Reply) CallError) → HasMissed a z → T z request r c → U a request r c)
    → MakesCall T told has_room m request result c → MakesCall U told has_room a request result c
tells_yet told T U a m c request has_room result (inl e) together h =
    let k : MakesCall T told has_room a request result c = subst (λ z. MakesCall T told has_room z request result c) e h in
    record {
      ok = k.ok;
      err = k.err;
      full = k.full;
      spent = k.spent;
      turns = λ f. together a _ (missed_none a) (k.turns f);
      never_gives_up = k.never_gives_up;
      memory = k.memory;
    }
tells_yet told T U a m c request has_room result (inr (few, missed)) together h =
    tells_behind told T U a m c request has_room result missed few (λ r. together m r missed) h

enters_behind : (words : ℕ) (a c z : Joined) (r : Result (ℕ × Reply) CallError) → HasMissed a z → EntersAtOnceBy words z Pop r c → TriesUntilFreeBy words a Pop r c
enters_behind words a c z r missed h = (missed.tries, z, missed.misses, h)

-- what a take comes to that ends with its pop
pub pop_ends : (words : ℕ) (wakes : Wakes) (late : Type 0) (may_tell : Option Instant → Type 0) (deadline : Instant) (a m c : Joined) (told : Took) (clock : Option Instant) → HasMissedYet a m
    → TakeStepsBy words wakes late stage.Pops m (stepped.Ends told) c → (late → MayEnd may_tell deadline clock) → OrEndsBy words wakes (TakesUntilBy words wakes may_tell deadline) a (awaited_by told clock) c
pop_ends words wakes late may_tell deadline a m c (took.Taken number x) clock y h over =
    inl (tells_yet (λ told. (told.0, Got told.1)) (EntersAtOnceBy words) (TriesUntilFreeBy words) a m c Pop ⊤ (Ok (number, x)) y (λ z r. enters_behind words a c z r) h)
pop_ends words wakes late may_tell deadline a m c (took.Refused e) clock y h over =
    inl (tells_yet (λ (told : ℕ × Item). (told.0, Got told.1)) (EntersAtOnceBy words) (TriesUntilFreeBy words) a m c Pop ⊤ (Err e) y (λ z r. enters_behind words a c z r) h)
pop_ends words wakes late may_tell deadline a m c (took.Late line) clock y h over = absurd h
pop_ends words wakes late may_tell deadline a m c took.Held clock y (is_late, held) over = (so_often a c (missed_yet a m c y held), over is_late)
pop_ends words wakes late may_tell deadline a m c (took.Over line) clock y h over = absurd h

-- a pop that found none behind tries is one of the member before them
pub pop_behind : (a m b : Joined) (line : ℕ) → HasMissedYet a m → PopsInVain m line b → PopsInVain a line b
pop_behind a m b line (inl e) h = subst (λ z. PopsInVain z line b) e h
pop_behind a m b line (inr (few, missed)) h =
    called_behind a b m.pen.read m.pen.steps Pop line Empty (subst (λ z. PopsInVain z line b) (misses_keep missed.tries a m missed.misses) h)

-- this stage is one behind the pop that has this line
abbrev pub LineIs : ℕ → TakeStage → Type 0
LineIs line stage.Pops = ⊥
LineIs line (stage.Announces number) = number ≡ line
LineIs line (stage.Looks number look) = number ≡ line
LineIs line (stage.Sleeps number seen) = number ≡ line

-- The member has looked some times, and found none; then it has found the lock held some times.
pub record LooksSoFarBy (words : ℕ) (wakes : Wakes) (line : ℕ) (a : Joined) (at : TakeStage) (m : Joined) : Type 0 where
  pub is : LineIs line at
  pub looks : ℕ
  pub last : Joined
  pub found : Repeats (FindsNoneBy words wakes) looks a last
  pub missed : HasMissedYet last m

pub looks_first : (words : ℕ) (wakes : Wakes) (line : ℕ) (a : Joined) → LooksSoFarBy words wakes line a (stage.Announces line) a
looks_first words wakes line a = record { is = refl; looks = zero; last = a; found = refl; missed = inl refl }

finds : (words : ℕ) (wakes : Wakes) (a m c : Joined) → HasMissedYet a m → SeesNoneBy words wakes m c → FindsNoneBy words wakes a c
finds words wakes a m c y (told, empty, h) = let n = so_often a m y in (told, empty, record { tries = n.0; missed = m; misses = n.1; looks = h })

finds_end : (words : ℕ) (a m c : Joined) → HasMissedYet a m → SeesEndBy words m c → FindsEndBy words a c
finds_end words a m c y h = let n = so_often a m y in record { tries = n.0; missed = m; misses = n.1; looks = h }

step_looks : (words : ℕ) (wakes : Wakes) (line : ℕ) (late : Type 0) (at : TakeStage) (m c : Joined) (r : TakeStepped) → LineIs line at → TakeStepsBy words wakes late at m r c
    → LooksOneTimeBy words wakes late line m r c ⊎ ((r ≡ stepped.Ends (took.Late line)) × late × (c ≡ m))
step_looks words wakes line late stage.Pops m c r is h = absurd is
step_looks words wakes line late (stage.Announces number) m c r is h = subst (λ k. LooksOneTimeBy words wakes late k m r c ⊎ ((r ≡ stepped.Ends (took.Late k)) × late × (c ≡ m))) is h
step_looks words wakes line late (stage.Looks number look) m c r is h = inl (subst (λ k. LooksOneTimeBy words wakes late k m r c) is h)
step_looks words wakes line late (stage.Sleeps number seen) m c r is h = inl (subst (λ k. LooksOneTimeBy words wakes late k m r c) is h)

-- what a take comes to that ends late: behind a look, or a try, or before both
late_look : (words : ℕ) (wakes : Wakes) (line : ℕ) (may_end : Option Instant → Type 0) (a m c : Joined) (at : TakeStage) (number : ℕ) (clock : Option Instant) → LooksSoFarBy words wakes line a at m → number ≡ line
    → may_end clock → (c ≡ m) ⊎ (FindsHeldYet m c ⊎ SeesNoneBy words wakes m c) → LooksOnBy words wakes (LooksUntilBy words may_end line) a (awaited_by (took.Late number) clock) c
late_look words wakes line may_end a m c at number (Some now) s is over (inl e) =
    (s.looks, s.last, s.found, (is, over, subst (λ z. (n : ℕ) × Misses n s.last z) (sym e) (so_often s.last m s.missed)))
late_look words wakes line may_end a m c at number (Some now) s is over (inr (inl held)) = (s.looks, s.last, s.found, (is, over, so_often s.last c (missed_yet s.last m c s.missed held)))
late_look words wakes line may_end a m c at number (Some now) s is over (inr (inr none)) =
    (suc s.looks, c, (s.last, s.found, finds words wakes s.last m c s.missed none), (is, over, (zero, refl)))
late_look words wakes line may_end a m c at number None s is over (inl e) =
    (s.looks, s.last, s.found, (is, over, subst (λ z. (n : ℕ) × Misses n s.last z) (sym e) (so_often s.last m s.missed)))
late_look words wakes line may_end a m c at number None s is over (inr (inl held)) = (s.looks, s.last, s.found, (is, over, so_often s.last c (missed_yet s.last m c s.missed held)))
late_look words wakes line may_end a m c at number None s is over (inr (inr none)) =
    (suc s.looks, c, (s.last, s.found, finds words wakes s.last m c s.missed none), (is, over, (zero, refl)))

look_ends : (words : ℕ) (wakes : Wakes) (line : ℕ) (late : Type 0) (may_end : Option Instant → Type 0) (a m c : Joined) (at : TakeStage) (told : Took) (clock : Option Instant) → LooksSoFarBy words wakes line a at m
    → LooksOneTimeBy words wakes late line m (stepped.Ends told) c → (late → may_end clock) → LooksOnBy words wakes (LooksUntilBy words may_end line) a (awaited_by told clock) c
look_ends words wakes line late may_end a m c at (took.Taken number x) clock s h over = (
  s.looks,
  s.last,
  s.found,
  tells_yet (λ told. (told.0, Got told.1)) (LooksNowBy words wanted.Anything) (LooksForBy words wanted.Anything) s.last m c Pop ⊤ (Ok (number, x)) s.missed
      (λ z r. looks_behind words wanted.Anything s.last c z r) h,
)
look_ends words wakes line late may_end a m c at (took.Refused e) clock s h over = (
  s.looks,
  s.last,
  s.found,
  tells_yet (λ (told : ℕ × Item). (told.0, Got told.1)) (LooksNowBy words wanted.Anything) (LooksForBy words wanted.Anything) s.last m c Pop ⊤ (Err e) s.missed
      (λ z r. looks_behind words wanted.Anything s.last c z r) h,
)
look_ends words wakes line late may_end a m c at (took.Late number) clock s (is, is_late, h) over = late_look words wakes line may_end a m c at number clock s is (over is_late) (inr h)
look_ends words wakes line late may_end a m c at took.Held clock s h over = absurd h
look_ends words wakes line late may_end a m c at (took.Over number) clock s (is, none) over = (s.looks, s.last, s.found, finds_end words s.last m c s.missed none)

late_at_once : (words : ℕ) (wakes : Wakes) (line : ℕ) (may_end : Option Instant → Type 0) (a m c : Joined) (at : TakeStage) (told : Took) (clock : Option Instant) → LooksSoFarBy words wakes line a at m → told ≡ took.Late line
    → may_end clock → c ≡ m → LooksOnBy words wakes (LooksUntilBy words may_end line) a (awaited_by told clock) c
late_at_once words wakes line may_end a m c at told clock s e over same =
    subst (λ t. LooksOnBy words wakes (LooksUntilBy words may_end line) a (awaited_by t clock) c) (sym e) (late_look words wakes line may_end a m c at line clock s refl over (inl same))

pub looks_end : (words : ℕ) (wakes : Wakes) (line : ℕ) (late : Type 0) (may_end : Option Instant → Type 0) (a m c : Joined) (at : TakeStage) (told : Took) (clock : Option Instant) → LooksSoFarBy words wakes line a at m
    → TakeStepsBy words wakes late at m (stepped.Ends told) c → (late → may_end clock) → LooksOnBy words wakes (LooksUntilBy words may_end line) a (awaited_by told clock) c
looks_end words wakes line late may_end a m c at told clock s h over =
    ⊎_elim (λ l. look_ends words wakes line late may_end a m c at told clock s l over)
    (λ l. late_at_once words wakes line may_end a m c at told clock s (let e = l.0 in cc e) (over l.1) l.2)
    (step_looks words wakes line late at m c (stepped.Ends told) s.is h)

look_goes : (words : ℕ) (wakes : Wakes) (line : ℕ) (late : Type 0) (a m c : Joined) (at next : TakeStage) → LooksSoFarBy words wakes line a at m → LooksOneTimeBy words wakes late line m (stepped.Goes next) c → LooksSoFarBy words wakes line a next c
look_goes words wakes line late a m c at stage.Pops s h = absurd h
look_goes words wakes line late a m c at (stage.Announces number) s h = absurd h
look_goes words wakes line late a m c at (stage.Looks number look) s (is, held) =
    record { is = is; looks = s.looks; last = s.last; found = s.found; missed = missed_yet s.last m c s.missed held }
look_goes words wakes line late a m c at (stage.Sleeps number seen) s (is, none) =
    record { is = is; looks = suc s.looks; last = c; found = (s.last, s.found, finds words wakes s.last m c s.missed none); missed = inl refl }

pub looks_go : (words : ℕ) (wakes : Wakes) (line : ℕ) (late : Type 0) (a m c : Joined) (at next : TakeStage) → LooksSoFarBy words wakes line a at m → TakeStepsBy words wakes late at m (stepped.Goes next) c → LooksSoFarBy words wakes line a next c
looks_go words wakes line late a m c at next s h =
    ⊎_elim (λ l. look_goes words wakes line late a m c at next s l) (λ l. absurd (let e = l.0 in cc e)) (step_looks words wakes line late at m c (stepped.Goes next) s.is h)

-- a step after which a take goes on leaves its member idle, at its queue
pub held_idle : (m c : Joined) → is_idle m.pen.standing ≡ true → FindsHeldYet m c → IdleStill m c
held_idle m c i (few, held) = (ap (λ (z : Joined). z.queue) held, ap (λ (z : Joined). is_idle z.pen.standing) held ∙ i)

one_idle : (words : ℕ) (wakes : Wakes) (line : ℕ) (late : Type 0) (m c : Joined) (next : TakeStage) → is_idle m.pen.standing ≡ true → LooksOneTimeBy words wakes late line m (stepped.Goes next) c → IdleStill m c
one_idle words wakes line late m c stage.Pops i h = absurd h
one_idle words wakes line late m c (stage.Announces number) i h = absurd h
one_idle words wakes line late m c (stage.Looks number look) i (is, held) = held_idle m c i held
one_idle words wakes line late m c (stage.Sleeps number seen) i (is, none) = finds_idle words wakes m c i (finds words wakes m m c (inl refl) none)

pub looks_idle : (words : ℕ) (wakes : Wakes) (line : ℕ) (late : Type 0) (a m c : Joined) (at next : TakeStage) → is_idle m.pen.standing ≡ true → LooksSoFarBy words wakes line a at m → TakeStepsBy words wakes late at m (stepped.Goes next) c
    → IdleStill m c
looks_idle words wakes line late a m c at next i s h =
    ⊎_elim (λ l. one_idle words wakes line late m c next i l) (λ l. absurd (let e = l.0 in cc e)) (step_looks words wakes line late at m c (stepped.Goes next) s.is h)

-- where its pop goes on, it found the lock held, or no item
pub pop_goes : (words : ℕ) (wakes : Wakes) (late : Type 0) (m c : Joined) (next : TakeStage) → is_idle m.pen.standing ≡ true → TakeStepsBy words wakes late stage.Pops m (stepped.Goes next) c → IdleStill m c
pop_goes words wakes late m c stage.Pops i h = held_idle m c i h
pop_goes words wakes late m c (stage.Announces line) i h = idle_still m c line h
pop_goes words wakes late m c (stage.Looks line look) i h = absurd h
pop_goes words wakes late m c (stage.Sleeps line seen) i h = absurd h
