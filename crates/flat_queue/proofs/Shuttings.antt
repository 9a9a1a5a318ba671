-- What a call comes to that shuts the queue.
use Rattle.std.proofs.Common.{Bool, ◌≡◌, ◌∙◌, ℕ, ◌+◌, ◌<◌, ◌≤◌, ◌++◌, true, false, List, [], ◌∷◌, ap, sym, subst, refl, arith}
use Rattle.std.specs.Prelude.{◌||◌, Option, Err}
use Rattle.pq_types.specs.Operation.{Shuts}
use Rattle.pq_types.specs.Asked.{Answer, Line}
use Rattle.pq_types.specs.declared.answer.Answer.TheVariants.{Entered}
use Rattle.pq_types.specs.declared.answer.Answer.TheVariants as answer
use Rattle.pq_types.specs.declared.answer.Refusal.TheVariants.{Shut, Unarchived, Full}
use Rattle.pq_types.specs.History.{shuts, is_shut, journal_by}
use Rattle.desk_core.specs.declared.model.Word.{Word}
use Rattle.flat_queue.specs.Limits.{most_posts}
use Rattle.flat_queue.specs.Members.{Joined}
use Rattle.flat_queue.specs.Calling.{IsEntered}
use Rattle.flat_queue.specs.OwnRequest.{ReleasesOperation}
use Rattle.flat_queue.specs.Shutting.{CarriesOutShut, TellsShut, ended_shut, MissesThenShutsBy, ShutsBy}
use Rattle.flat_queue.specs.declared.error.CallError.TheVariants.{Spent}
use Rattle.flat_queue.proofs.Misses.{missed_as, misses_keep, one_behind, entered_behind}
use Rattle.flat_queue.proofs.OwnRequests.{entered_own, refused_own, ruled_own}

-- a journal with a shut line at its end is shut
or_true : (b : Bool) → (b || true) ≡ true
or_true true = refl
or_true false = refl

shut_added : (ls : List Line) (l : Line) → l.operation ≡ Shuts → is_shut (ls ++ l ∷ []) ≡ true
shut_added [] l e = ap (λ o. shuts o || false) e
shut_added (m ∷ ls) l e = ap (λ b. shuts m.operation || b) (shut_added ls l e) ∙ or_true (shuts m.operation)

-- what the member knows that released with this answer
released_known : (a c : Joined) (x : Answer) → ReleasesOperation a Shuts x c → c.pen.known ≡ journal_by a.pen.hand a.pen.place (a.pen.posts + 1) Shuts x
released_known a c x h = ap (λ (z : Joined). z.pen.known) h.after_is

-- what the answer to a shut tells of that
shut_told : (a c : Joined) (x : Answer) → ReleasesOperation a Shuts x c → TellsShut x (journal_by a.pen.hand a.pen.place (a.pen.posts + 1) Shuts x)
shut_told a c (Entered number reply) h = (h.may.2, shut_added a.pen.hand _ refl)
shut_told a c answer.BookFull h = tt
shut_told a c answer.NoMemory h = h.may.1
shut_told a c (answer.Refused Shut) h = h.may.2
shut_told a c (answer.Refused Unarchived) h = h.may.2 tt
shut_told a c (answer.Refused Full) h = h.may.2

pub shut_tells : (a c : Joined) (x : Answer) → ReleasesOperation a Shuts x c → TellsShut x c.pen.known
shut_tells a c x h = subst (TellsShut x) (sym (released_known a c x h)) (shut_told a c x h)

by_answer : (words : ℕ) (a c : Joined) (read : Option Word) (steps : ℕ) (x : Answer) → CarriesOutShut words (missed_as a read steps) x c → TellsShut x c.pen.known
    → a.pen.posts < most_posts a.queue.room → MissesThenShutsBy words a x c → ShutsBy words a (ended_shut x) c
by_answer words a c read steps (Entered number reply) h tells few whole =
    let m = missed_as a read steps in
    let entered : IsEntered a Shuts number reply c = entered_behind a c read steps Shuts number reply (entered_own words m c Shuts number reply h.carries h.fits) in
    record {
      ok = subst (λ r. IsEntered a Shuts number r c) tells.0 entered;
      err = tt;
      full = λ e. absurd (cc e);
      spent = (λ e. absurd (cc e), λ le. absurd (omega (arith, le, few)));
      turns = λ f. (Entered number reply, refl, whole);
    }
by_answer words a c read steps answer.BookFull h tells few whole =
    record {
      ok = tt;
      err = one_behind a c read steps _ _ (refused_own words (missed_as a read steps) c Shuts h.carries);
      full = λ e. h.carries.released.full refl;
      spent = (λ e. absurd (cc e), λ le. absurd (omega (arith, le, few)));
      turns = λ f. (answer.BookFull, refl, whole);
    }
by_answer words a c read steps answer.NoMemory h tells few whole = absurd tells
by_answer words a c read steps (answer.Refused why) h tells few whole =
    record {
      ok = tt;
      err = (h.fits, one_behind a c read steps _ _ (ruled_own words (missed_as a read steps) c Shuts why h.carries));
      full = λ e. absurd (cc e);
      spent = (λ e. absurd (cc e), λ le. absurd (omega (arith, le, few)));
      turns = λ f. (answer.Refused why, refl, whole);
    }

-- what such a call comes to
pub has_shut : (words : ℕ) (a c : Joined) (x : Answer) → a.pen.posts < most_posts a.queue.room → MissesThenShutsBy words a x c → ShutsBy words a (ended_shut x) c
has_shut words a c x few h =
    by_answer words a c h.missed.pen.read h.missed.pen.steps x (subst (λ z. CarriesOutShut words z x c) (misses_keep h.tries a h.missed h.misses) h.carries) h.tells few h

-- and one that had no serial left
pub unshut_spent : (words : ℕ) (a : Joined) → most_posts a.queue.room ≤ a.pen.posts → ShutsBy words a (Err Spent) a
unshut_spent words a le =
    record {
      ok = tt;
      err = (le, refl);
      full = λ e. absurd (cc e);
      spent = (λ e. le, λ l. refl);
      turns = λ few. absurd (omega (arith, le, few));
    }
