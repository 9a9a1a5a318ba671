-- What a batch comes to.
use Rattle.std.proofs.Common.{◌≡◌, ◌∙◌, ℕ, ◌+◌, ◌<◌, ◌≤◌, ◌++◌, sym, ap, subst, refl, arith, Bool, true, false, List, [], ◌∷◌, length, length-append}
use Rattle.std.specs.Prelude.{Option, Some, None, nat_le, map, take, get_or, slice_set}
use Rattle.std.proofs.lemmas.Bool.Decides.{nat_tests}
use Rattle.std.proofs.lemmas.Option.{slice_get_read}
use Rattle.leftist_heap.specs.Store.{first_of}
use Rattle.pq_types.specs.Queue.{reply_to}
use Rattle.std.proofs.lemmas.List.{append-nil, append_assoc, take_more, take_more_set, map-append, length-map}
use Rattle.pq_types.specs.Item.{Item}
use Rattle.pq_types.specs.declared.request.Request.TheVariants.{Push, Pop}
use Rattle.pq_types.specs.Asked.{Request}
use Rattle.pq_types.specs.Asked.{Reply}
use Rattle.pq_types.specs.Asked.{Answer}
use Rattle.pq_types.specs.declared.answer.Reply.TheVariants.{Pushed, Got}
use Rattle.pq_types.specs.Asked.{Line}
use Rattle.pq_types.specs.declared.answer.Answer.TheVariants.{Entered}
use Rattle.pq_types.specs.declared.answer.Refusal.{Refusal}
use Rattle.pq_types.specs.declared.answer.Answer.TheVariants as answer
use Rattle.pq_types.specs.History.{line, Limits, MayAnswer}
use Rattle.pq_book.specs.Book.{Volume, limits_of}
use Rattle.desk_core.specs.Calls.{call}
use Rattle.desk_core.specs.Pen.{after_apply, after_release, book_in_hand, limits_in_hand}
use Rattle.desk_core.specs.declared.model.PenState.{PenState}
use Rattle.announce_board.specs.Slots.{MeetsTerms}
use Rattle.announce_board.specs.Tokens.{is_idle}
use Rattle.announce_board.specs.Serving.{Wins}
use Rattle.flat_queue.specs.Members.{Joined, StaysAtPlace}
use Rattle.flat_queue.specs.OwnRequest.{SweepsWhereBy}
use Rattle.flat_queue.specs.Limits.{most_posts}
use Rattle.flat_queue.specs.Batches.{Told, AppliesEach, EndsBatch, AppliesBatch, ReleasesBatch, CarriesOutBatchBy, EntersTogether, batch_calls, batch_lines, refusals, with_serials, KeepsBatchTimes}
use Rattle.flat_queue.specs.declared.batches.Batch.{Batch}
use Rattle.flat_queue.specs.declared.error.CallError.{CallError}
use Rattle.flat_queue.specs.declared.error.CallError.TheVariants.{NoMemory, BookFull, Refused, Spent, GaveUp}
use Rattle.flat_queue.specs.Turns.{Misses}
use Rattle.desk_core.specs.declared.model.Word.{Word}
use Rattle.flat_queue.proofs.Waits.{starts_trans}
use Rattle.flat_queue.proofs.Misses.{missed_as, misses_keep}
use Rattle.flat_queue.proofs.OwnRequests.{is_ready}

times_none : (p : PenState) → KeepsBatchTimes p p 0
times_none p = record { began = []; number = refl; begins = sym (append-nil p.begins); ends = sym (append-nil p.ends) }

-- serials of two lists of positions, one behind the other
serials_more : (serial : ℕ) (xs ys : List ℕ) → with_serials serial (xs ++ ys) ≡ with_serials serial xs ++ with_serials (serial + length xs) ys
serials_more serial [] ys = let same : serial ≡ serial + 0 = omega arith in ap (λ n. with_serials n ys) same
serials_more serial (x ∷ xs) ys =
    let same : serial + 1 + length xs ≡ serial + length (x ∷ xs) = omega arith in
    ap (λ (l : List (ℕ × ℕ)). (serial, x) ∷ l) (serials_more (serial + 1) xs ys ∙ ap (λ n. with_serials (serial + 1) xs ++ with_serials n ys) same)

-- the marks that a pen keeps behind those of others
marks_more : (first mid last : List (ℕ × ℕ)) (serial then : ℕ) (xs ys : List ℕ) → mid ≡ first ++ with_serials serial xs → last ≡ mid ++ with_serials then ys
    → then ≡ serial + length xs → last ≡ first ++ with_serials serial (xs ++ ys)
marks_more first mid last serial then xs ys e f same =
    f ∙ (ap (λ l. l ++ with_serials then ys) e ∙ (append_assoc first (with_serials serial xs) (with_serials then ys)
    ∙ ap (λ l. first ++ l) (ap (λ n. with_serials serial xs ++ with_serials n ys) same ∙ sym (serials_more serial xs ys))))

times_more : (p m q : PenState) (a b : ℕ) → m.posts ≡ p.posts + a → KeepsBatchTimes p m a → KeepsBatchTimes m q b → KeepsBatchTimes p q (a + b)
times_more p m q a b posts s t =
    let one = s.number in
    let two = t.number in
    let f : ℕ → ℕ = λ n. n + 1 in
    let long : length (map f s.began) ≡ length s.began = length-map s.began f in
    record {
      began = s.began ++ t.began;
      number = omega (arith, length-append s.began t.began, one, two);
      begins = marks_more p.begins m.begins q.begins (p.posts + 1) (m.posts + 1) s.began t.began s.begins t.begins (omega (arith, posts, one));
      ends = marks_more p.ends m.ends q.ends (p.posts + 1) (m.posts + 1) (map f s.began) (map f t.began) s.ends t.ends (omega (arith, posts, one, long))
          ∙ ap (λ l. p.ends ++ with_serials (p.posts + 1) l) (sym (map-append f s.began t.began));
    }

-- what a pen keeps and gains that applies these
pub record Gains (p q : PenState) (calls : ℕ) (told : List Told) : Type 0 where
  pub place : q.place ≡ p.place
  pub room : q.room ≡ p.room
  pub posts : q.posts ≡ p.posts + calls
  pub idle : is_idle p.standing ≡ true → is_idle q.standing ≡ true
  pub mine : q.mine ≡ p.mine ++ batch_calls (length p.hand + 1) (p.posts + 1) told
  pub hand : q.hand ≡ p.hand ++ batch_lines p.place (p.posts + 1) told
  pub times : KeepsBatchTimes p q calls

gains_none : (p : PenState) → Gains p p 0 []
gains_none p = record { place = refl; room = refl; posts = omega arith; idle = λ i. i; mine = sym (append-nil p.mine); hand = sym (append-nil p.hand); times = times_none p }

applied : (limits : Limits) (p q : PenState) (ts : List Told) → AppliesEach limits p ts q → Gains p q (length ts) ts
applied limits p q [] h = subst (λ z. Gains p z 0 []) (sym h) (gains_none p)
applied limits p q (t ∷ ts) h =
    let n = length p.hand + 1 in
    let s = p.posts + 1 in
    let l : Line = line p.place s t.0 t.1 in
    let now = h.0 in
    let u = applied limits (after_apply p t.0 (Entered n t.1) now) q ts h.2 in
    let number = u.times.number in
    let posts = u.posts in
    let longer : length (p.hand ++ l ∷ []) + 1 ≡ n + 1 = omega (arith, length-append p.hand (l ∷ [])) in
    record {
      place = u.place;
      room = u.room;
      posts = omega (arith, posts);
      idle = λ i. u.idle refl;
      mine = u.mine ∙ (append_assoc p.mine (call n s t.0 t.1 ∷ []) (batch_calls (length (p.hand ++ l ∷ []) + 1) (s + 1) ts) ∙ ap (λ k. p.mine ++ call n s t.0 t.1 ∷ batch_calls k (s + 1) ts) longer);
      hand = u.hand ∙ append_assoc p.hand (l ∷ []) (batch_lines p.place (s + 1) ts);
      times = record {
        began = now ∷ u.times.began;
        number = omega (arith, number);
        begins = u.times.begins ∙ append_assoc p.begins ((s, now) ∷ []) (with_serials (s + 1) u.times.began);
        ends = u.times.ends ∙ append_assoc p.ends ((s, now + 1) ∷ []) (with_serials (s + 1) (map (λ n. n + 1) u.times.began));
      };
    }

refused : (limits : Limits) (most : ℕ) (is_next : Request → Type 0) (p q : PenState) (r : Option CallError) → EndsBatch limits most is_next p r q → Gains p q (refusals r) []
refused limits most is_next p q None h = subst (λ z. Gains p z 0 []) (sym h) (gains_none p)
refused limits most is_next p q (Some NoMemory) (request, follows, now, may, same) =
    subst (λ z. Gains p z 1 []) (sym same)
    record { place = refl; room = refl; posts = refl; idle = λ i. refl; mine = refl; hand = sym (append-nil p.hand); times = record { began = now ∷ []; number = refl; begins = refl; ends = refl } }
refused limits most is_next p q (Some BookFull) (request, follows, now, may, same) =
    subst (λ z. Gains p z 1 []) (sym same)
    record { place = refl; room = refl; posts = refl; idle = λ i. refl; mine = refl; hand = sym (append-nil p.hand); times = record { began = now ∷ []; number = refl; begins = refl; ends = refl } }
refused limits most is_next p q (Some (Refused why)) (request, follows, now, may, same) =
    subst (λ z. Gains p z 1 []) (sym same)
    record { place = refl; room = refl; posts = refl; idle = λ i. refl; mine = refl; hand = sym (append-nil p.hand); times = record { began = now ∷ []; number = refl; begins = refl; ends = refl } }
refused limits most is_next p q (Some Spent) h = subst (λ z. Gains p z 0 []) (sym h.1) (gains_none p)
refused limits most is_next p q (Some GaveUp) h = absurd h

-- both, one after another
pub batch_gains : (limits : Limits) (most : ℕ) (is_next : Request → Type 0) (p q : PenState) (ts : List Told) (r : Option CallError) → AppliesBatch limits most is_next p ts r q → Gains p q (length ts + refusals r) ts
batch_gains limits most is_next p q ts r (m, each, ends) =
    let a = applied limits p m ts each in
    let b = refused limits most is_next m q r ends in
    let first = a.posts in
    let then = b.posts in
    record {
      place = b.place ∙ a.place;
      room = b.room ∙ a.room;
      posts = omega (arith, first, then);
      idle = λ i. b.idle (a.idle i);
      mine = b.mine ∙ (append-nil m.mine ∙ a.mine);
      hand = b.hand ∙ (append-nil m.hand ∙ a.hand);
      times = times_more p m q (length ts) (refusals r) first a.times b.times;
    }

-- and whoever was told that the journal is full knows it
batch_full : (limits : Limits) (most : ℕ) (is_next : Request → Type 0) (p q : PenState) (ts : List Told) (r : Option CallError) → AppliesBatch limits most is_next p ts r q → r ≡ Some BookFull → q.told_full ≡ true
batch_full limits most is_next p q ts r (m, each, ends) e =
    let t : EndsBatch limits most is_next m (Some BookFull) q = subst (λ x. EndsBatch limits most is_next m x q) e ends in
    ap (λ (z : PenState). z.told_full) t.4

-- a release of a batch, as the lead's Book may answer each of it
pub releases_batch : (before after : Joined) (told : List Told) (is_next : Request → Type 0) (batch : Batch) (ended : PenState) (book : Volume) → book ≡ book_in_hand before.pen → MeetsTerms before.queue.terms book
    → batch.first ≡ length before.pen.hand + 1 → AppliesBatch (limits_of book) (most_posts before.queue.room) is_next before.pen told batch.refused ended → after ≡ record before { pen = after_release ended } → ReleasesBatch before told is_next batch after
releases_batch before after told is_next batch ended book home meets first applies is =
    let most = most_posts before.queue.room in
    record {
      ended = ended;
      terms = subst (MeetsTerms before.queue.terms) home meets;
      first = first;
      applies = subst (λ (b : Volume). AppliesBatch (limits_of b) most is_next before.pen told batch.refused ended) home applies;
      after_is = is;
    }

-- a member that won the lock, served the others, and released with these, carried them out
pub carries_batch : (words : ℕ) (hinted : Bool) (a b c d : Joined) (book : Volume) (told : List Told) (is_next : Request → Type 0) (batch : Batch) → StaysAtPlace a b → Wins a.pen book b.pen
    → SweepsWhereBy words hinted b c → ReleasesBatch c told is_next batch d → CarriesOutBatchBy words a told is_next batch d
carries_batch words hinted a b c d book told is_next batch stays won sweeps released =
    record { book = book; led = b; ready = c; won = won; stays = stays; hinted = hinted; sweeps = sweeps; released = released }

pub enters_together : (words : ℕ) (a c : Joined) (told : List Told) (is_next : Request → Type 0) (batch : Batch) → is_idle a.pen.standing ≡ true → CarriesOutBatchBy words a told is_next batch c → EntersTogether a told batch c
enters_together words a c told is_next batch free h =
    let r = is_ready words h.hinted a h.led h.ready h.book h.stays h.won h.sweeps in
    let e = h.released in
    let p = h.ready.pen in
    let q = e.ended in
    let most = most_posts h.ready.queue.room in
    let g = batch_gains (limits_in_hand p) most is_next p q told batch.refused e.applies in
    let posts = g.posts in
    let same_posts = r.posts in
    let lines = batch_lines a.pen.place (a.pen.posts + 1) told in
    let hand : q.hand ≡ p.hand ++ lines =
    g.hand ∙ (ap (λ k. p.hand ++ batch_lines k (p.posts + 1) told) r.place ∙ ap (λ n. p.hand ++ batch_lines a.pen.place (n + 1) told) r.posts) in
    let first = e.first in
    let older = ap length r.hand.1 in
    subst (λ z. EntersTogether a told batch z) (sym e.after_is)
    record {
      stays = record {
        queue = r.queue;
        id = r.id;
        turns = r.turns;
        place = g.place ∙ r.place;
        room = g.room ∙ r.room;
        leading = sym r.led_not;
        rest = r.rest;
        known = starts_trans q.hand p.hand a.pen.known (lines, hand) r.hand;
      };
      posts = omega (arith, posts, same_posts);
      idle = g.idle (ap is_idle r.standing ∙ free);
      mine = g.mine ∙ (ap (λ l. l ++ batch_calls (length p.hand + 1) (p.posts + 1) told) r.mine
          ∙ (ap (λ n. a.pen.mine ++ batch_calls n (p.posts + 1) told) (sym e.first) ∙ ap (λ n. a.pen.mine ++ batch_calls batch.first (n + 1) told) r.posts));
      earlier = p.hand;
      first = e.first;
      together = hand;
      beyond = omega (arith, first, older, length-append a.pen.known r.hand.0);
      full = λ f. batch_full (limits_in_hand p) most is_next p q told batch.refused e.applies f;
      times = record {
        began = g.times.began;
        number = g.times.number;
        begins = g.times.begins ∙ (ap (λ l. l ++ with_serials (p.posts + 1) g.times.began) r.begins ∙ ap (λ n. a.pen.begins ++ with_serials (n + 1) g.times.began) r.posts);
        ends = g.times.ends ∙ (ap (λ l. l ++ with_serials (p.posts + 1) (map (λ n. n + 1) g.times.began)) r.ends
            ∙ ap (λ n. a.pen.ends ++ with_serials (n + 1) (map (λ n. n + 1) g.times.began)) r.posts);
      };
    }

-- a batch behind tries that found the lock held is one of the member before them
behind_as : (a c : Joined) (read : Option Word) (steps : ℕ) (told : List Told) (batch : Batch) → EntersTogether (missed_as a read steps) told batch c → EntersTogether a told batch c
behind_as a c read steps told batch h =
    record {
      stays = record {
        queue = h.stays.queue;
        id = h.stays.id;
        turns = h.stays.turns;
        place = h.stays.place;
        room = h.stays.room;
        leading = h.stays.leading;
        rest = h.stays.rest;
        known = h.stays.known;
      };
      posts = h.posts;
      idle = h.idle;
      mine = h.mine;
      earlier = h.earlier;
      first = h.first;
      together = h.together;
      beyond = h.beyond;
      full = h.full;
      times = record { began = h.times.began; number = h.times.number; begins = h.times.begins; ends = h.times.ends };
    }

pub together_behind : (a b c : Joined) (n : ℕ) (told : List Told) (batch : Batch) → Misses n a b → EntersTogether b told batch c → EntersTogether a told batch c
together_behind a b c n told batch misses h =
    behind_as a c b.pen.read b.pen.steps told batch (subst (λ z. EntersTogether z told batch c) (misses_keep n a b misses) h)
