-- What a call comes to that uses a ticket.
use Rattle.std.proofs.Common.{◌≡◌, ℕ, ◌<◌, ◌≤◌, sym, subst, refl, arith}
use Rattle.std.specs.Prelude.{Option, Some, None, Err}
use Rattle.pq_types.specs.Item.{Item}
use Rattle.pq_types.specs.Operation.{Ticketed, ticket_of, ByTicket}
use Rattle.pq_types.specs.Asked.{Reply}
use Rattle.pq_types.specs.Asked.{Answer}
use Rattle.pq_types.specs.declared.answer.Answer.TheVariants.{Entered}
use Rattle.pq_types.specs.declared.answer.Answer.TheVariants as answer
use Rattle.pq_types.specs.Entry.{taken, item_at}
use Rattle.pq_types.specs.History.{entries_of}
use Rattle.desk_core.specs.declared.model.Word.{Word}
use Rattle.flat_queue.specs.Limits.{most_posts}
use Rattle.flat_queue.specs.Members.{Joined}
use Rattle.flat_queue.specs.Calling.{IsEntered}
use Rattle.flat_queue.specs.Tickets.{found_by, ended_by_ticket, CarriesOutByTicket, TellsFound, MissesThenUsesBy, UsesTicketBy}
use Rattle.flat_queue.specs.declared.error.CallError.TheVariants.{Spent}
use Rattle.flat_queue.proofs.Misses.{missed_as, misses_keep, one_behind, entered_behind}
use Rattle.flat_queue.proofs.OwnRequests.{entered_own, refused_own, unfit_own, ruled_own}

-- what was told of an item that was looked for is told of nothing else
tells_taken : (ticketed : Ticketed) (number : ℕ) (found : Option Item) → TellsFound ticketed (Entered number (taken found))
tells_taken ticketed number None = tt
tells_taken ticketed number (Some x) = tt

told_again : (found : Option Item) → taken (found_by (taken found)) ≡ taken found
told_again None = refl
told_again (Some x) = refl

-- what the answer tells to such a use
pub use_tells : (words : ℕ) (ticketed : Ticketed) (a c : Joined) (x : Answer) → CarriesOutByTicket words ticketed a x c → TellsFound ticketed x
use_tells words ticketed a c (Entered number reply) h =
    let found = item_at (ticket_of ticketed) (entries_of h.carries.ready.pen.hand) in
    let told : reply ≡ taken found = h.carries.released.may.2 in
    subst (λ q. TellsFound ticketed (Entered number q)) (sym told) (tells_taken ticketed number found)
use_tells words ticketed a c answer.BookFull h = tt
use_tells words ticketed a c answer.NoMemory h = h.carries.released.may.1
use_tells words ticketed a c (answer.Refused why) h = h.fits

-- the reply is that of the item that was told
told_whole : (words : ℕ) (ticketed : Ticketed) (a c : Joined) (number : ℕ) (reply : Reply) → CarriesOutByTicket words ticketed a (Entered number reply) c → taken (found_by reply) ≡ reply
told_whole words ticketed a c number reply h =
    let found = item_at (ticket_of ticketed) (entries_of h.carries.ready.pen.hand) in
    let told : reply ≡ taken found = h.carries.released.may.2 in
    subst (λ q. taken (found_by q) ≡ q) (sym told) (told_again found)

by_answer : (words : ℕ) (ticketed : Ticketed) (a c : Joined) (read : Option Word) (steps : ℕ) (x : Answer) → CarriesOutByTicket words ticketed (missed_as a read steps) x c
    → a.pen.posts < most_posts a.queue.room
    → MissesThenUsesBy words ticketed a x c → UsesTicketBy words ticketed a (ended_by_ticket x) c
by_answer words ticketed a c read steps (Entered number reply) h few whole =
    let m = missed_as a read steps in
    let entered : IsEntered a (ByTicket ticketed) number reply c = entered_behind a c read steps (ByTicket ticketed) number reply (entered_own words m c (ByTicket ticketed) number reply h.carries h.fits) in
    record {
      ok = subst (λ r. IsEntered a (ByTicket ticketed) number r c) (sym (told_whole words ticketed m c number reply h)) entered;
      err = tt;
      full = λ e. absurd (cc e);
      spent = (λ e. absurd (cc e), λ le. absurd (omega (arith, le, few)));
      turns = λ f. (Entered number reply, refl, whole);
    }
by_answer words ticketed a c read steps answer.BookFull h few whole =
    record {
      ok = tt;
      err = one_behind a c read steps _ _ (refused_own words (missed_as a read steps) c (ByTicket ticketed) h.carries);
      full = λ e. h.carries.released.full refl;
      spent = (λ e. absurd (cc e), λ le. absurd (omega (arith, le, few)));
      turns = λ f. (answer.BookFull, refl, whole);
    }
by_answer words ticketed a c read steps answer.NoMemory h few whole =
    record {
      ok = tt;
      err = (h.fits, one_behind a c read steps _ _ (unfit_own words (missed_as a read steps) c (ByTicket ticketed) h.carries));
      full = λ e. absurd (cc e);
      spent = (λ e. absurd (cc e), λ le. absurd (omega (arith, le, few)));
      turns = λ f. (answer.NoMemory, refl, whole);
    }
by_answer words ticketed a c read steps (answer.Refused why) h few whole =
    record {
      ok = tt;
      err = (h.fits, one_behind a c read steps _ _ (ruled_own words (missed_as a read steps) c (ByTicket ticketed) why h.carries));
      full = λ e. absurd (cc e);
      spent = (λ e. absurd (cc e), λ le. absurd (omega (arith, le, few)));
      turns = λ f. (answer.Refused why, refl, whole);
    }

-- what such a call comes to
pub used : (words : ℕ) (ticketed : Ticketed) (a c : Joined) (x : Answer) → a.pen.posts < most_posts a.queue.room → MissesThenUsesBy words ticketed a x c → UsesTicketBy words ticketed a (ended_by_ticket x) c
used words ticketed a c x few h =
    by_answer words ticketed a c h.missed.pen.read h.missed.pen.steps x (subst (λ z. CarriesOutByTicket words ticketed z x c) (misses_keep h.tries a h.missed h.misses) h.carries) few h

-- and one that had no serial left
pub unused_spent : (words : ℕ) (ticketed : Ticketed) (a : Joined) → most_posts a.queue.room ≤ a.pen.posts → UsesTicketBy words ticketed a (Err Spent) a
unused_spent words ticketed a le =
    record {
      ok = tt;
      err = (le, refl);
      full = λ e. absurd (cc e);
      spent = (λ e. le, λ l. refl);
      turns = λ few. absurd (omega (arith, le, few));
    }
