-- What the steps of a call for what is due come to, one after another.
use Rattle.std.proofs.Common.{◌≡◌, ◌∙◌, ℕ, zero, suc, ◌<◌, ◌^◌, inl, ap, sym, refl, true, true≢false}
use Rattle.std.specs.Prelude.{Option, Some, None, IsSome, is_some, Ok, Err, ⊤}
use Rattle.std.specs.declared.time.Instant.{Instant}
use Rattle.pq_types.specs.Item.{Item}
use Rattle.pq_types.specs.declared.request.Request.TheVariants.{Pop}
use Rattle.pq_types.specs.declared.answer.Reply.TheVariants.{Got}
use Rattle.announce_board.specs.Tokens.{is_idle}
use Rattle.flat_queue.specs.Members.{Joined}
use Rattle.flat_queue.specs.Looking.{Looked, IsWanted, LooksFirstBy, IsEmptyYet, MissesThenLooksBy}
use Rattle.flat_queue.specs.Taking.{Repeats, LooksNowBy, LooksForBy}
use Rattle.flat_queue.specs.Due.{IsDueAt, HasCome, IsLeftYet, LeavesAllBy, TakesDueOrEndsBy}
use Rattle.flat_queue.specs.DueSteps.{DueStage, DueTook, SightsOnceBy, due_by, IsShort, IsLook}
use Rattle.flat_queue.specs.declared.event_count.Wakes.{Wakes}
use Rattle.flat_queue.specs.declared.looking.Wanted.{Wanted}
use Rattle.flat_queue.specs.declared.looking.Looked.TheVariants as looked
use Rattle.flat_queue.specs.declared.times.Times.{Times}
use Rattle.flat_queue.specs.declared.due.Due.TheVariants as due
use Rattle.flat_queue.specs.declared.due_steps.DueStage.TheVariants as stage
use Rattle.flat_queue.specs.declared.due_steps.DueTook.TheVariants as took
use Rattle.flat_queue.specs.declared.due_steps.DueStepped.TheVariants as stepped
use Rattle.flat_queue.proofs.Takings.{IdleStill, looks_behind, vain_idle, empty_idle}
use Rattle.flat_queue.proofs.TakeStepping.{HasMissedYet, missed_yet, so_often, tells_yet, held_idle}

-- The member has looked some times, and each look left all items there; then it has found the lock held some times, but not where
-- the clock can't be read.
pub record DueSoFarBy (words : ℕ) (wakes : Wakes) (a : Joined) (clock : Option Instant) (m : Joined) : Type 0 where
  pub looks : ℕ
  pub last : Joined
  pub found : Repeats (LeavesAllBy words wakes) looks a last
  pub missed : HasMissedYet last m
  pub still : clock ≡ None → m ≡ last

pub due_first : (words : ℕ) (wakes : Wakes) (a : Joined) (clock : Option Instant) → DueSoFarBy words wakes a clock a
due_first words wakes a clock = record { looks = zero; last = a; found = refl; missed = inl refl; still = λ e. refl }

-- a look behind such tries
behind_tries : (words : ℕ) (wants : Wanted) (told : Looked) (a m c : Joined) → HasMissedYet a m → LooksFirstBy words wants m told c → MissesThenLooksBy words wants a told c
behind_tries words wants told a m c y h = let n = so_often a m y in record { tries = n.0; missed = m; misses = n.1; looks = h }

-- a look that found no item left all there
empty_left : (wakes : Wakes) (told : Looked) → IsEmptyYet wakes told → IsLeftYet wakes told
empty_left wakes (looked.Taken number x) e = absurd e
empty_left wakes (looked.Stays x) e = absurd e
empty_left wakes looked.Nothing e = e
empty_left wakes looked.Over e = e
empty_left wakes looked.BookFull e = absurd e
empty_left wakes (looked.Refused why) e = absurd e

-- what a call comes to that ends with a step
pub due_ends : (words : ℕ) (wakes : Wakes) (late : Type 0) (may_tell : Option Instant → Type 0) (times : Times) (deadline : Option Instant) (wants : Wanted) (now : Instant) (a m c : Joined) (end : DueTook)
    → DueSoFarBy words wakes a (Some now) m → SightsOnceBy words wakes late wants m (stepped.Ends end) c → may_tell (Some now) → (late → HasCome deadline now)
    → ((priority : ℕ) → IsWanted wants priority → IsDueAt times now priority) → ((priority : ℕ) → priority < 2 ^ 64 → IsDueAt times now priority → IsWanted wants priority)
    → IsShort end → TakesDueOrEndsBy words wakes may_tell times deadline a (due_by end now) c
due_ends words wakes late may_tell times deadline wants now a m c (took.Taken number x) s (h, wanted) read come is_due all short = (
  s.looks,
  s.last,
  s.found,
  (
    wants,
    tells_yet (λ told. (told.0, Got told.1)) (LooksNowBy words wants) (LooksForBy words wants) s.last m c Pop ⊤ (Ok (number, x)) s.missed (λ z r. looks_behind words wants s.last c z r) h,
    read,
    is_due x.priority wanted,
  ),
)
due_ends words wakes late may_tell times deadline wants now a m c (took.Refused e) s h read come is_due all short = (
  s.looks,
  s.last,
  s.found,
  (
    wants,
    tells_yet (λ (told : ℕ × Item). (told.0, Got told.1)) (LooksNowBy words wants) (LooksForBy words wants) s.last m c Pop ⊤ (Err e) s.missed (λ z r. looks_behind words wants s.last c z r) h,
  ),
)
due_ends words wakes late may_tell times deadline wants now a m c (took.Later x) s (is_late, h) read come is_due all short =
    (s.looks, s.last, s.found, (wants, behind_tries words wants (looked.Stays x) s.last m c s.missed h, read, come is_late, λ is. h.1.1 (all x.priority short is)))
due_ends words wakes late may_tell times deadline wants now a m c took.Nothing s (is_late, h) read come is_due all short =
    let (told, empty, l) = h in (s.looks, s.last, s.found, ((wants, told, empty, behind_tries words wants told s.last m c s.missed l), read, come is_late))
due_ends words wakes late may_tell times deadline wants now a m c took.Held s (is_late, h) read come is_due all short =
    let n = so_often s.last m s.missed in (s.looks, s.last, s.found, ((n.0, (m, n.1, h.1)), read, come is_late))
due_ends words wakes late may_tell times deadline wants now a m c took.Over s h read come is_due all short =
    (s.looks, s.last, s.found, (wants, behind_tries words wants looked.Over s.last m c s.missed h))

-- what it comes to where the clock can't be read
pub due_unread : (words : ℕ) (wakes : Wakes) (may_tell : Option Instant → Type 0) (times : Times) (deadline : Option Instant) (a m : Joined) → DueSoFarBy words wakes a None m → may_tell None
    → TakesDueOrEndsBy words wakes may_tell times deadline a (Ok (Some due.NoClock)) m
due_unread words wakes may_tell times deadline a m s unread = (s.looks, s.last, s.found, (s.still refl, unread))

-- how far a call has come that goes on
pub due_goes : (words : ℕ) (wakes : Wakes) (late : Type 0) (wants : Wanted) (now : Instant) (clock : Option Instant) (a m c : Joined) (next : DueStage) → DueSoFarBy words wakes a (Some now) m
    → SightsOnceBy words wakes late wants m (stepped.Goes next) c → (IsLook next → IsSome clock) → DueSoFarBy words wakes a clock c
due_goes words wakes late wants now clock a m c stage.Announces s h keeps = absurd h
due_goes words wakes late wants now clock a m c (stage.Looks look) s h keeps =
    record { looks = s.looks; last = s.last; found = s.found; missed = missed_yet s.last m c s.missed h; still = λ e. absurd (true≢false (sym (keeps tt) ∙ ap is_some e)) }
due_goes words wakes late wants now clock a m c (stage.Sleeps seen (Some x)) s h keeps =
    record { looks = suc s.looks; last = c; found = (s.last, s.found, (wants, looked.Stays x, tt, behind_tries words wants (looked.Stays x) s.last m c s.missed h)); missed = inl refl; still = λ e. refl }
due_goes words wakes late wants now clock a m c (stage.Sleeps seen None) s (told, empty, h) keeps =
    record { looks = suc s.looks; last = c; found = (s.last, s.found, (wants, told, empty_left wakes told empty, behind_tries words wants told s.last m c s.missed h)); missed = inl refl; still = λ e. refl }

-- a step after which a call goes on leaves its member idle, at its queue
pub due_still : (words : ℕ) (wakes : Wakes) (late : Type 0) (wants : Wanted) (m c : Joined) (next : DueStage) → is_idle m.pen.standing ≡ true → SightsOnceBy words wakes late wants m (stepped.Goes next) c → IdleStill m c
due_still words wakes late wants m c stage.Announces i h = absurd h
due_still words wakes late wants m c (stage.Looks look) i h = held_idle m c i h
due_still words wakes late wants m c (stage.Sleeps seen (Some x)) i h = vain_idle words wants m c (looked.Stays x) i (behind_tries words wants (looked.Stays x) m m c (inl refl) h) (λ b l. l.0)
due_still words wakes late wants m c (stage.Sleeps seen None) i (told, empty, h) = empty_idle words wakes wants m c told empty i (behind_tries words wants told m m c (inl refl) h)
