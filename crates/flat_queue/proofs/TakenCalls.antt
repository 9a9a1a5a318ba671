-- What a take adds to the calls of its member.
use Rattle.std.proofs.Common.{◌≡◌, ◌∙◌, ℕ, zero, suc, ◌+◌, inl, inr, [], ◌∷◌, ◌++◌, ap, sym, append-nil, append_assoc}
use Rattle.std.specs.Prelude.{Option, Some, None, Result, Ok, Err}
use Rattle.std.specs.declared.time.Instant.{Instant}
use Rattle.pq_types.specs.Item.{Item}
use Rattle.pq_types.specs.Asked.{Request, Reply}
use Rattle.pq_types.specs.declared.request.Request.TheVariants.{Pop}
use Rattle.pq_types.specs.declared.answer.Reply.TheVariants.{Got, Empty}
use Rattle.desk_core.specs.Calls.{call}
use Rattle.flat_queue.specs.Members.{Joined}
use Rattle.flat_queue.specs.OwnRequest.{EntersOrWaitsBy}
use Rattle.flat_queue.specs.Turns.{Misses}
use Rattle.flat_queue.specs.Looking.{Looked, IsEmptyYet, MissesThenLooksBy}
use Rattle.flat_queue.specs.Taking.{Awaited, FindsNoneBy, FindsEndBy, LooksForBy, Repeats, TakesNoneBy, TakesNoneYetBy, TakesOneBy, TakesOneSoBy, TakesSo, TakesUntilBy, TriesUntilFreeBy, OrEndsBy}
use Rattle.flat_queue.specs.Taking.{AddsPops, awaited_item, item_or_end, taking_pop, told_item}
use Rattle.flat_queue.specs.declared.taking.Awaited.TheVariants as awaited
use Rattle.flat_queue.specs.declared.looking.Wanted.TheVariants as wanted
use Rattle.flat_queue.specs.declared.looking.Looked.TheVariants as looked
use Rattle.flat_queue.specs.declared.event_count.Wakes.{Wakes}
use Rattle.flat_queue.specs.declared.error.CallError.{CallError}
use Rattle.flat_queue.specs.declared.error.CallError.TheVariants as error
use Rattle.flat_queue.proofs.Misses.{misses_keep}

-- the member has the calls that it had
abbrev SameCalls : Joined → Joined → Type 0
SameCalls before after = after.pen.mine ≡ before.pen.mine

-- so it has behind tries that found the lock held, and behind looks that found nothing
missed_same : (n : ℕ) (a c : Joined) → Misses n a c → SameCalls a c
missed_same n a c h = ap (λ (z : Joined). z.pen.mine) (misses_keep n a c h)

looked_same : (words : ℕ) (wakes : Wakes) (a c : Joined) (told : Looked) → IsEmptyYet wakes told → MissesThenLooksBy words wanted.Anything a told c → SameCalls a c
looked_same words wakes a c (looked.Taken number x) e h = absurd e
looked_same words wakes a c (looked.Stays x) e h = absurd e
looked_same words wakes a c looked.Nothing e h = h.looks.0.serves.none.mine ∙ missed_same h.tries a h.missed h.misses
looked_same words wakes a c looked.Over e h = h.looks.0.serves.none.mine ∙ missed_same h.tries a h.missed h.misses
looked_same words wakes a c looked.BookFull e h = absurd e
looked_same words wakes a c (looked.Refused why) e h = absurd e

end_same : (words : ℕ) (a c : Joined) → FindsEndBy words a c → SameCalls a c
end_same words a c h = h.looks.0.serves.none.mine ∙ missed_same h.tries a h.missed h.misses

found_same : (words : ℕ) (wakes : Wakes) (a c : Joined) → FindsNoneBy words wakes a c → SameCalls a c
found_same words wakes a c (told, empty, h) = looked_same words wakes a c told empty h

repeats_same : (words : ℕ) (wakes : Wakes) (n : ℕ) (a c : Joined) → Repeats (FindsNoneBy words wakes) n a c → SameCalls a c
repeats_same words wakes zero a c e = ap (λ (z : Joined). z.pen.mine) e
repeats_same words wakes (suc n) a c (m, f, h) = found_same words wakes m c h ∙ repeats_same words wakes n a m f

-- a take that took none has its pop in vain more
none_adds : (words : ℕ) (wakes : Wakes) (before after : Joined) (line : ℕ) → TakesNoneBy words wakes before line after → after.pen.mine ≡ before.pen.mine ++ call line (before.pen.posts + 1) Pop Empty ∷ []
none_adds words wakes before after line t = repeats_same words wakes t.looks t.popped after t.found_none ∙ t.in_vain.member.mine

none_yet_adds : (words : ℕ) (wakes : Wakes) (before after : Joined) (line : ℕ) → TakesNoneYetBy words wakes before line after → after.pen.mine ≡ before.pen.mine ++ call line (before.pen.posts + 1) Pop Empty ∷ []
none_yet_adds words wakes before after line (last, t, (tries, misses)) = missed_same tries last after misses ∙ none_adds words wakes before last line t

-- the call that ends a take adds its pop, or nothing
ends_add : (Turns : Joined → Request → Result (ℕ × Reply) CallError → Joined → Type 0) (a c : Joined) (result : Result (ℕ × Item) CallError) → TakesSo Turns a result c
    → c.pen.mine ≡ a.pen.mine ++ taking_pop c.pen.posts (told_item result)
ends_add Turns a c (Ok told) k = k.ok.member.mine ∙ ap (λ n. a.pen.mine ++ call told.0 n Pop (Got told.1) ∷ []) (sym k.ok.member.posts)
ends_add Turns a c (Err error.NoMemory) k = k.err.1.mine ∙ sym (append-nil a.pen.mine)
ends_add Turns a c (Err error.BookFull) k = k.err.mine ∙ sym (append-nil a.pen.mine)
ends_add Turns a c (Err (error.Refused why)) k = k.err.1.mine ∙ sym (append-nil a.pen.mine)
ends_add Turns a c (Err error.Spent) k = ap (λ (z : Joined). z.pen.mine) k.err.1 ∙ sym (append-nil a.pen.mine)
ends_add Turns a c (Err error.GaveUp) k = k.err.1.mine ∙ sym (append-nil a.pen.mine)

one_adds : (words : ℕ) (wakes : Wakes) (Turns : Joined → Request → Result (ℕ × Reply) CallError → Joined → Type 0) (before after : Joined) (result : Result (ℕ × Item) CallError)
    → TakesOneSoBy words wakes Turns before result after → AddsPops before (told_item result) after
one_adds words wakes Turns before after result (inl t) = record { vain = None; calls = ends_add Turns before after result t }
one_adds words wakes Turns before after result (inr (line, last, v, t)) =
    let in_vain = call line (before.pen.posts + 1) Pop Empty ∷ [] in
    let taking = taking_pop after.pen.posts (told_item result) in
    record {
      vain = Some line;
      calls = ends_add (LooksForBy words wanted.Anything) last after result t
          ∙ (ap (λ calls. calls ++ taking) (none_adds words wakes before last line v) ∙ append_assoc before.pen.mine in_vain taking);
    }

-- and of a take that tells none, only its pop in vain
adds_in_vain : (before after : Joined) (line : ℕ) → after.pen.mine ≡ before.pen.mine ++ call line (before.pen.posts + 1) Pop Empty ∷ [] → AddsPops before None after
adds_in_vain before after line e = record { vain = Some line; calls = e }

pub takes_add : (words : ℕ) (wakes : Wakes) (before after : Joined) (result : Result (ℕ × Item) CallError) → TakesOneBy words wakes before result after → AddsPops before (told_item result) after
takes_add words wakes before after result t = one_adds words wakes (EntersOrWaitsBy words) before after result t

-- as a take comes back with it, and as it is refused
pub took_adds : (words : ℕ) (wakes : Wakes) (before after : Joined) (told : ℕ × Item) → TakesOneBy words wakes before (Ok told) after → AddsPops before (Some told) after
took_adds words wakes before after told t = takes_add words wakes before after (Ok told) t

pub refused_adds : (words : ℕ) (wakes : Wakes) (before after : Joined) (e : CallError) → TakesOneBy words wakes before (Err e) after → AddsPops before None after
refused_adds words wakes before after e t = takes_add words wakes before after (Err e) t

pub until_adds : (words : ℕ) (wakes : Wakes) (may_tell : Option Instant → Type 0) (deadline : Instant) (before after : Joined) (result : Result Awaited CallError)
    → TakesUntilBy words wakes may_tell deadline before result after → AddsPops before (awaited_item result) after
until_adds words wakes may_tell deadline before after (Ok (awaited.Taken number x)) t = one_adds words wakes (TriesUntilFreeBy words) before after (Ok (number, x)) t
until_adds words wakes may_tell deadline before after (Ok (awaited.Late number now)) (t, late) = adds_in_vain before after number (none_yet_adds words wakes before after number t)
until_adds words wakes may_tell deadline before after (Ok (awaited.NoClock number)) (t, unread) = adds_in_vain before after number (none_yet_adds words wakes before after number t)
until_adds words wakes may_tell deadline before after (Ok (awaited.Held told)) ((n, h), late) = record { vain = None; calls = missed_same n before after h ∙ sym (append-nil before.pen.mine) }
until_adds words wakes may_tell deadline before after (Err e) t = one_adds words wakes (TriesUntilFreeBy words) before after (Err e) t

pub awaited_adds : (words : ℕ) (wakes : Wakes) (may_tell : Option Instant → Type 0) (deadline : Instant) (before after : Joined) (told : Awaited)
    → TakesUntilBy words wakes may_tell deadline before (Ok told) after → AddsPops before (awaited_item (Ok told)) after
awaited_adds words wakes may_tell deadline before after told t = until_adds words wakes may_tell deadline before after (Ok told) t

pub unawaited_adds : (words : ℕ) (wakes : Wakes) (may_tell : Option Instant → Type 0) (deadline : Instant) (before after : Joined) (e : CallError)
    → TakesUntilBy words wakes may_tell deadline before (Err e) after → AddsPops before None after
unawaited_adds words wakes may_tell deadline before after e t = until_adds words wakes may_tell deadline before after (Err e) t

-- so does a take that may be told the end
pub or_ends_add : (words : ℕ) (wakes : Wakes) {A : Type 0} (Takes : Joined → Result A CallError → Joined → Type 0) (item : Result A CallError → Option (ℕ × Item)) (before after : Joined) (result : Result (Option A) CallError)
    → ((told : Result A CallError) → Takes before told after → AddsPops before (item told) after) → OrEndsBy words wakes Takes before result after → AddsPops before (item_or_end item result) after
or_ends_add words wakes Takes item before after (Ok (Some a)) adds h = adds (Ok a) h
or_ends_add words wakes Takes item before after (Ok None) adds (line, m, t, v) =
    adds_in_vain before after line (end_same words m after v ∙ none_adds words wakes before m line t)
or_ends_add words wakes Takes item before after (Err e) adds h = adds (Err e) h
