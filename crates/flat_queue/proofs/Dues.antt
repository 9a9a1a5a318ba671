-- What looks for what is due come to.
use Rattle.std.proofs.Common.{◌≡◌, ◌∙◌, ℕ, suc, true}
use Rattle.std.specs.Prelude.{Option, Some, None, Result, Ok, Err}
use Rattle.std.specs.declared.time.Instant.{Instant}
use Rattle.announce_board.specs.Tokens.{is_idle}
use Rattle.flat_queue.specs.Members.{Joined}
use Rattle.flat_queue.specs.Looking.{Looked, MissesThenLooksBy}
use Rattle.flat_queue.specs.Taking.{LooksForBy}
use Rattle.flat_queue.specs.Due.{Due, IsLeftYet, LeavesAllBy, SeesEmptyBy, EndsDueBy, TakesDueBy, TakesDueOrEndsBy}
use Rattle.flat_queue.specs.declared.times.Times.{Times}
use Rattle.flat_queue.specs.declared.looking.Wanted.{Wanted}
use Rattle.flat_queue.specs.declared.looking.Looked.TheVariants as looked
use Rattle.flat_queue.specs.declared.due.Due.TheVariants as due
use Rattle.flat_queue.specs.declared.event_count.Wakes.{Wakes}
use Rattle.flat_queue.specs.declared.error.CallError.{CallError}
use Rattle.flat_queue.proofs.Takings.{IdleStill, vain_idle, empty_idle as seen_idle, ends_so_idle, ends_idle, still_idle, repeats_idle, missed_idle}

-- a look that made no request leaves its member idle, at its queue
left_idle : (words : ℕ) (wakes : Wakes) (wants : Wanted) (told : Looked) (a c : Joined) → IsLeftYet wakes told → is_idle a.pen.standing ≡ true → MissesThenLooksBy words wants a told c → IdleStill a c
left_idle words wakes wants (looked.Taken number x) a c e i h = absurd e
left_idle words wakes wants (looked.Stays x) a c e i h = vain_idle words wants a c (looked.Stays x) i h (λ b l. l.0)
left_idle words wakes wants looked.Nothing a c e i h = vain_idle words wants a c looked.Nothing i h (λ b l. l.0)
left_idle words wakes wants looked.Over a c e i h = vain_idle words wants a c looked.Over i h (λ b l. l.0)
left_idle words wakes wants looked.BookFull a c e i h = absurd e
left_idle words wakes wants (looked.Refused why) a c e i h = absurd e

pub leaves_idle : (words : ℕ) (wakes : Wakes) (a c : Joined) → is_idle a.pen.standing ≡ true → LeavesAllBy words wakes a c → IdleStill a c
leaves_idle words wakes a c i (wants, told, none, h) = left_idle words wakes wants told a c none i h

pub empty_idle : (words : ℕ) (wakes : Wakes) (a c : Joined) → is_idle a.pen.standing ≡ true → SeesEmptyBy words wakes a c → IdleStill a c
empty_idle words wakes a c i (wants, told, empty, h) = seen_idle words wakes wants a c told empty i h

-- so does the last one
last_idle : (words : ℕ) (wakes : Wakes) (may_tell : Option Instant → Type 0) (times : Times) (deadline : Option Instant) (a c : Joined) (result : Result Due CallError) → is_idle a.pen.standing ≡ true
    → EndsDueBy words wakes may_tell times deadline a result c → IdleStill a c
last_idle words wakes may_tell times deadline a c (Ok (due.Taken number x now)) i (wants, t, read, is) = ends_idle (LooksForBy words wants) a c (Ok (number, x)) i t
last_idle words wakes may_tell times deadline a c (Ok (due.Later x now)) i (wants, h, read, come, late) = vain_idle words wants a c (looked.Stays x) i h (λ b l. l.0)
last_idle words wakes may_tell times deadline a c (Ok (due.Nothing now)) i (h, read, come) = empty_idle words wakes a c i h
last_idle words wakes may_tell times deadline a c (Ok (due.Held now)) i ((n, h), read, come) = missed_idle (suc n) a c i h
last_idle words wakes may_tell times deadline a c (Ok due.NoClock) i (e, unread) = still_idle a c i e
last_idle words wakes may_tell times deadline a c (Err e) i (wants, t) = ends_idle (LooksForBy words wants) a c (Err e) i t

-- and all of them
pub due_idle : (words : ℕ) (wakes : Wakes) (may_tell : Option Instant → Type 0) (times : Times) (deadline : Option Instant) (a c : Joined) (result : Result Due CallError) → is_idle a.pen.standing ≡ true
    → TakesDueBy words wakes may_tell times deadline a result c → IdleStill a c
due_idle words wakes may_tell times deadline a c result i (n, m, f, t) =
    let r = repeats_idle (LeavesAllBy words wakes) (leaves_idle words wakes) n a m i f in let s = last_idle words wakes may_tell times deadline m c result r.1 t in (s.0 ∙ r.0, s.1)

pub due_or_ends_idle : (words : ℕ) (wakes : Wakes) (may_tell : Option Instant → Type 0) (times : Times) (deadline : Option Instant) (a c : Joined) (result : Result (Option Due) CallError) → is_idle a.pen.standing ≡ true
    → TakesDueOrEndsBy words wakes may_tell times deadline a result c → IdleStill a c
due_or_ends_idle words wakes may_tell times deadline a c (Ok (Some told)) i t = due_idle words wakes may_tell times deadline a c (Ok told) i t
due_or_ends_idle words wakes may_tell times deadline a c (Ok None) i (n, m, f, v) =
    let r = repeats_idle (LeavesAllBy words wakes) (leaves_idle words wakes) n a m i f in let s = ends_so_idle words v.0 m c r.1 v.1 in (s.0 ∙ r.0, s.1)
due_or_ends_idle words wakes may_tell times deadline a c (Err e) i t = due_idle words wakes may_tell times deadline a c (Err e) i t
