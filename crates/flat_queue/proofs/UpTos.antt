-- What a call comes to that takes the first item out up to a bound.
use Rattle.std.proofs.Common.{◌≡◌, ◌∙◌, ℕ, ◌<◌, ◌≤◌, sym, ap, subst, refl, arith, true, false, Bool, List, [], ◌∷◌}
use Rattle.std.specs.Prelude.{Option, Some, None, nat_le, if◌then◌else◌}
use Rattle.std.proofs.lemmas.Bool.Decides.{nat_tests}
use Rattle.pq_types.specs.Item.{Item}
use Rattle.pq_types.specs.Asked.{Request}
use Rattle.pq_types.specs.declared.request.Request.TheVariants.{Pop, Least}
use Rattle.pq_types.specs.Asked.{Reply}
use Rattle.pq_types.specs.declared.answer.Reply.TheVariants.{Got, Empty, Least as LeastIs}
use Rattle.pq_types.specs.Asked.{Answer}
use Rattle.pq_types.specs.Operation.{Asked}
use Rattle.pq_types.specs.declared.answer.Refusal.{Refusal}
use Rattle.pq_types.specs.declared.answer.Refusal.TheVariants.{Shut, Unarchived, Full}
use Rattle.announce_board.specs.Asking.{IsBarredBy}
use Rattle.pq_types.specs.declared.answer.Answer.TheVariants.{Entered}
use Rattle.pq_types.specs.declared.answer.Answer.TheVariants as answer
use Rattle.pq_types.specs.Queue.{IsPush, reply_to}
use Rattle.pq_types.specs.History.{left}
use Rattle.leftist_heap.specs.Store.{first_of}
use Rattle.desk_core.specs.declared.model.Word.{Word}
use Rattle.flat_queue.specs.Limits.{most_posts}
use Rattle.flat_queue.specs.Members.{Joined}
use Rattle.flat_queue.specs.Calling.{IsCalled, MakesCall, ended}
use Rattle.flat_queue.specs.OwnRequest.{EntersAtOnceBy}
use Rattle.flat_queue.specs.UpTo.{request_up_to, told_up_to, ended_up_to, CarriesOutUpToBy, TellsUpTo, IsUpTo, MissesThenCarriesOutBy, PopsUpToBy}
use Rattle.flat_queue.specs.declared.error.CallError.TheVariants.{Spent}
use Rattle.std.specs.Prelude.{Err}
use Rattle.flat_queue.proofs.Misses.{missed_as, misses_keep, one_behind, called_behind}
use Rattle.flat_queue.proofs.OwnRequests.{called_own, ruled_own}

fits_so : (Fits : Request → Reply → Type 0) (request q : Request) (reply r : Reply) → request ≡ q → reply ≡ r → Fits q r → Fits request reply
fits_so Fits request q reply r asked replied fits = subst (λ z. Fits z reply) (sym asked) (subst (λ z. Fits q z) (sym replied) fits)

-- What holds of a pop that took out an item up to the bound, of a least that told one above it, and of a pop that found none, holds
-- of the request that the first item asks for, and of its reply.
by_first : (bound : ℕ) (Fits : Request → Reply → Type 0) → ((x : Item) → x.priority ≤ bound → Fits Pop (Got x)) → ((x : Item) → bound < x.priority → Fits Least (LeastIs x))
    → Fits Pop Empty → (xs : List Item) (request : Request) (reply : Reply) → request ≡ request_up_to bound (first_of xs) → reply ≡ reply_to xs request → Fits request reply
by_first bound Fits got later none [] request reply chosen replied = fits_so Fits request Pop reply Empty chosen (replied ∙ ap (reply_to []) chosen) none
by_first bound Fits got later none (x ∷ xs) request reply chosen replied = at_bound (nat_le x.priority bound) refl where
  at_bound : (b : Bool) → nat_le x.priority bound ≡ b → Fits request reply
  at_bound true is =
      let asked : request ≡ Pop = chosen ∙ ap (λ b. if b then Pop else Least) is in
      let low : x.priority ≤ bound = grind (arith, nat_tests, is) in
      fits_so Fits request Pop reply (Got x) asked (replied ∙ ap (reply_to (x ∷ xs)) asked) (got x low)
  at_bound false is =
      let asked : request ≡ Least = chosen ∙ ap (λ b. if b then Pop else Least) is in
      let high : bound < x.priority = grind (arith, nat_tests, is) in
      fits_so Fits request Least reply (LeastIs x) asked (replied ∙ ap (reply_to (x ∷ xs)) asked) (later x high)

-- the reply to the request that the first item asks for tells that item, on the right side of the bound
tells_first : (bound : ℕ) (a c : Joined) (number : ℕ) (xs : List Item) (request : Request) (reply : Reply)
    → request ≡ request_up_to bound (first_of xs) → reply ≡ reply_to xs request → IsCalled a request number reply c → IsUpTo bound a number (told_up_to reply) c
tells_first bound a c number xs request reply chosen replied called =
    by_first bound (λ q r. IsCalled a q number r c → IsUpTo bound a number (told_up_to r) c) (λ x low h. (h, low)) (λ x high h. (h, high)) (λ h. h) xs request reply chosen replied called

-- that request is no push
no_push : (bound : ℕ) (first : Option Item) → IsPush (request_up_to bound first) → ⊥
no_push bound None h = h
no_push bound (Some x) h = at_bound (nat_le x.priority bound) h where
  at_bound : (b : Bool) → IsPush (if b then Pop else Least) → ⊥
  at_bound true h = h
  at_bound false h = h

-- what refuses it would refuse a pop
barred_up_to : (bound : ℕ) (first : Option Item) (why : Refusal) → IsBarredBy (Asked (request_up_to bound first)) why → IsBarredBy (Asked Pop) why
barred_up_to bound first Shut h = absurd (no_push bound first h)
barred_up_to bound first Unarchived h = tt
barred_up_to bound first Full h = absurd (no_push bound first h)

-- what the answer tells to the request that the first item asked for
pub carried_tells : (words bound : ℕ) (a c : Joined) (x : Answer) → CarriesOutUpToBy words bound a x c → TellsUpTo bound x
carried_tells words bound a c (Entered number reply) h =
    by_first bound (λ q r. TellsUpTo bound (Entered number r)) (λ x low. low) (λ x high. high) tt (left h.carries.ready.pen.hand) h.request reply h.chosen h.carries.released.may.2
carried_tells words bound a c answer.BookFull h = tt
carried_tells words bound a c answer.NoMemory h = absurd (no_push bound (first_of (left h.carries.ready.pen.hand)) (subst IsPush h.chosen h.fits))
carried_tells words bound a c (answer.Refused why) h = barred_up_to bound (first_of (left h.carries.ready.pen.hand)) why (subst (λ (q : Request). IsBarredBy (Asked q) why) h.chosen h.fits)

by_answer : (words bound : ℕ) (a c : Joined) (read : Option Word) (steps : ℕ) (x : Answer) → CarriesOutUpToBy words bound (missed_as a read steps) x c → a.pen.posts < most_posts a.queue.room
    → MissesThenCarriesOutBy words bound a x c → PopsUpToBy words bound a (ended_up_to x) c
by_answer words bound a c read steps (Entered number reply) h few whole =
    let m = missed_as a read steps in
    let call : MakesCall (EntersAtOnceBy words) (λ told. told) ⊥ m h.request (ended (Some (Entered number reply))) c = called_own words (Entered number reply) m c h.request ⊥ h.carries h.fits few (λ r e. r) in
    record {
      ok = tells_first bound a c number (left h.carries.ready.pen.hand) h.request reply h.chosen h.carries.released.may.2 (called_behind a c read steps h.request number reply call.ok);
      err = tt;
      full = λ e. absurd (cc e);
      spent = (λ e. absurd (cc e), λ le. absurd (omega (arith, le, few)));
      turns = λ f. (Entered number reply, refl, whole);
    }
by_answer words bound a c read steps answer.BookFull h few whole =
    let m = missed_as a read steps in
    let call : MakesCall (EntersAtOnceBy words) (λ told. told) ⊥ m h.request (ended (Some answer.BookFull)) c = called_own words answer.BookFull m c h.request ⊥ h.carries h.fits few (λ r e. r) in
    record {
      ok = tt;
      err = one_behind a c read steps _ _ call.err;
      full = λ e. call.full refl;
      spent = (λ e. absurd (cc e), λ le. absurd (omega (arith, le, few)));
      turns = λ f. (answer.BookFull, refl, whole);
    }
by_answer words bound a c read steps answer.NoMemory h few whole = absurd (carried_tells words bound (missed_as a read steps) c answer.NoMemory h)
by_answer words bound a c read steps (answer.Refused why) h few whole =
    let m = missed_as a read steps in
    record {
      ok = tt;
      err = (carried_tells words bound m c (answer.Refused why) h, one_behind a c read steps _ _ (ruled_own words m c (Asked h.request) why h.carries));
      full = λ e. absurd (cc e);
      spent = (λ e. absurd (cc e), λ le. absurd (omega (arith, le, few)));
      turns = λ f. (answer.Refused why, refl, whole);
    }

-- what such a call comes to
pub popped_up_to : (words bound : ℕ) (a c : Joined) (x : Answer) → a.pen.posts < most_posts a.queue.room → MissesThenCarriesOutBy words bound a x c → PopsUpToBy words bound a (ended_up_to x) c
popped_up_to words bound a c x few h =
    by_answer words bound a c h.missed.pen.read h.missed.pen.steps x (subst (λ z. CarriesOutUpToBy words bound z x c) (misses_keep h.tries a h.missed h.misses) h.carries) few h

-- and one that had no serial left
pub popped_spent : (words bound : ℕ) (a : Joined) → most_posts a.queue.room ≤ a.pen.posts → PopsUpToBy words bound a (Err Spent) a
popped_spent words bound a le =
    record {
      ok = tt;
      err = (le, refl);
      full = λ e. absurd (cc e);
      spent = (λ e. le, λ l. refl);
      turns = λ few. absurd (omega (arith, le, few));
    }
