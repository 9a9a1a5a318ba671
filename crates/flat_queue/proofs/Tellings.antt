-- What a call tells by an item or a number alone, told with the reply.
use Rattle.std.proofs.Common.{◌≡◌, ◌∙◌, ℕ, ⊎_elim, sym, ap, subst}
use Rattle.std.specs.Prelude.{Result, Ok, Err, IsErrOf}
use Rattle.pq_types.specs.Asked.{Request}
use Rattle.pq_types.specs.declared.request.Request.TheVariants.{Pop, Least}
use Rattle.pq_types.specs.Asked.{Reply}
use Rattle.pq_types.specs.Control.{reply_item}
use Rattle.desk_core.specs.Knows.{IsReplyTo}
use Rattle.flat_queue.specs.Members.{Joined}
use Rattle.flat_queue.specs.Calling.{IsCalled, MakesCall, popped, found_first}
use Rattle.flat_queue.specs.declared.error.CallError.{CallError}

-- A call that tells a line and a reply tells them too by what both follow from.
pub tells : {A : Type 0} (Turns : Joined → Request → Result (ℕ × Reply) CallError → Joined → Type 0) (told : A → ℕ × Reply) (has_room : Type 0) (before after : Joined) (request : Request)
    (result : Result (ℕ × Reply) CallError) (line : ℕ × Reply) (a : A) → result ≡ Ok line → told a ≡ line → {first_room : Type 0}
    → MakesCall Turns (λ t. t) first_room before request result after → MakesCall Turns told has_room before request (Ok a) after
tells Turns told has_room before after request result line a is e {first_room} h =
    let k : MakesCall Turns (λ t. t) first_room before request (Ok line) after = subst (λ r. MakesCall Turns (λ t. t) first_room before request r after) is h in
    record {
      ok = subst (λ l. IsCalled before request l.0 l.1 after) (sym e) k.ok;
      err = tt;
      full = λ f. absurd (cc f);
      spent = (λ f. absurd (cc f), λ le. absurd (let f = k.spent.1 le in cc f));
      turns = λ few. subst (λ l. Turns before request (Ok l) after) (sym e) (k.turns few);
      never_gives_up = λ f. cc f;
      memory = λ room f. cc f;
    }

-- an error is one of these whichever value there might have been
same_error : {A B : Type 0} (x y : CallError) → IsErrOf {T = A} (Err x) y → IsErrOf {T = B} (Err x) y
same_error x y is = let same : x ≡ y = cc is in ap (λ e. Err e) same

-- a call that is refused is refused too where it tells by what its line and reply follow from
pub refuses : {A : Type 0} (Turns : Joined → Request → Result (ℕ × Reply) CallError → Joined → Type 0) (told : A → ℕ × Reply) (has_room : Type 0) (before after : Joined) (request : Request)
    (result : Result (ℕ × Reply) CallError) (error : CallError) → result ≡ Err error
    → MakesCall Turns (λ t. t) has_room before request result after → MakesCall {A = A} Turns told has_room before request (Err error) after
refuses Turns told has_room before after request result error is h =
    let k : MakesCall Turns (λ t. t) has_room before request (Err error) after = subst (λ r. MakesCall Turns (λ t. t) has_room before request r after) is h in
    record {
      ok = tt;
      err = k.err;
      full = λ f. k.full (same_error error _ f);
      spent = (λ f. k.spent.0 (same_error error _ f), λ le. same_error error _ (k.spent.1 le));
      turns = k.turns;
      never_gives_up = λ f. k.never_gives_up (same_error error _ f);
      memory = λ room f. k.memory room (same_error error _ f);
    }

-- the reply to a pop, and to a least, has the item that it tells
pub popped_back : (reply : Reply) → IsReplyTo Pop reply → popped (reply_item reply) ≡ reply
popped_back reply h = ⊎_elim (λ e. ap (λ r. popped (reply_item r)) e ∙ sym e) (λ u. ap (λ r. popped (reply_item r)) u.1 ∙ sym u.1) h

pub found_back : (reply : Reply) → IsReplyTo Least reply → found_first (reply_item reply) ≡ reply
found_back reply h = ⊎_elim (λ e. ap (λ r. found_first (reply_item r)) e ∙ sym e) (λ u. ap (λ r. found_first (reply_item r)) u.1 ∙ sym u.1) h

-- the reply that a call of this request was told is one to it
pub reply_of : {Turns : Joined → Request → Result (ℕ × Reply) CallError → Joined → Type 0} {room : Type 0} (before after : Joined) (request : Request)
    (result : Result (ℕ × Reply) CallError) (line : ℕ × Reply) → result ≡ Ok line → MakesCall Turns (λ t. t) room before request result after → IsReplyTo request line.1
reply_of {Turns} {room} before after request result line is h =
    let k : MakesCall Turns (λ t. t) room before request (Ok line) after = subst (λ r. MakesCall Turns (λ t. t) room before request r after) is h in
    k.ok.reply_is
