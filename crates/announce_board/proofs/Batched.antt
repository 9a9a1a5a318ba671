-- What a leader comes to that applies several requests of its own, one after another.
use Rattle.std.proofs.Common.{◌≡◌, ◌∙◌, ℕ, ◌+◌, ◌<◌, ◌≤◌, ◌++◌, sym, ap, subst, refl, arith, true, false, List, [], ◌∷◌, length, length-append, ⊎_elim}
use Rattle.std.specs.Prelude.{Option, Some, nat_le, take, get_or, slice_set}
use Rattle.std.proofs.lemmas.Bool.Decides.{nat_tests}
use Rattle.std.proofs.lemmas.Bool.{cases_lt}
use Rattle.std.proofs.lemmas.Option.{slice_get_read}
use Rattle.std.proofs.lemmas.List.{take_more, take_more_set, map-append, length-map, length-take-le}
use Rattle.leftist_heap.specs.Store.{first_of}
use Rattle.pq_types.specs.Queue.{reply_to}
use Rattle.pq_types.specs.Item.{Item}
use Rattle.pq_types.specs.Asked.{Request, Reply, Answer}
use Rattle.pq_types.specs.declared.request.Request.TheVariants.{Push, Pop}
use Rattle.pq_types.specs.declared.answer.Reply.TheVariants.{Pushed, Got}
use Rattle.pq_types.specs.declared.answer.Answer.TheVariants.{Entered}
use Rattle.pq_types.specs.History.{line, Limits, MayAnswer}
use Rattle.desk_core.specs.Calls.{call}
use Rattle.desk_core.specs.Pen.{after_apply}
use Rattle.desk_core.specs.declared.model.Call.{Call}
use Rattle.desk_core.specs.declared.model.PenState.{PenState}
use Rattle.announce_board.specs.Asking.{IsAnswerTo, IsAboveAll}
use Rattle.announce_board.specs.Batches.{Told, pushes_of, pops_of, is_first_due, IsPushAt, AppliesEach, IsRefusedAs, AreAnswersTo, IsAnswerToNext, AreAboveAll}

-- one request more
pub applies_more : (limits : Limits) (p q : PenState) (ts : List Told) (t : Told) (now : ℕ) → AppliesEach limits p ts q → MayAnswer limits q.hand t.0 (Entered (length q.hand + 1) t.1)
    → AppliesEach limits p (ts ++ t ∷ []) (after_apply q t.0 (Entered (length q.hand + 1) t.1) now)
applies_more limits p q [] t now h may =
    (now, subst (λ (z : PenState). MayAnswer limits z.hand t.0 (Entered (length z.hand + 1) t.1)) h may, ap (λ (z : PenState). after_apply z t.0 (Entered (length z.hand + 1) t.1) now) h)
applies_more limits p q (s ∷ ts) t now h may = (h.0, h.1, applies_more limits (after_apply p s.0 (Entered (length p.hand + 1) s.1) h.0) q ts t now h.2 may)

-- the first so many pushes, or pops, and the next one
pushes_longer : (xs : List Item) (k : ℕ) (x : Item) → k < length xs → x ≡ get_or xs k x → pushes_of (take (k + 1) xs) ≡ pushes_of (take k xs) ++ (Push x, Pushed) ∷ []
pushes_longer xs k x lt read =
    let longer : take (k + 1) xs ≡ take k xs ++ x ∷ [] = take_more xs k x lt ∙ ap (λ (y : Item). take k xs ++ y ∷ []) (sym read) in
    ap pushes_of longer ∙ map-append (λ (y : Item). (Push y, Pushed)) (take k xs) (x ∷ [])

pops_longer : (xs : List Item) (k : ℕ) (x : Item) → k < length xs → pops_of (take (k + 1) (slice_set xs k x)) ≡ pops_of (take k xs) ++ (Pop, Got x) ∷ []
pops_longer xs k x lt = ap pops_of (take_more_set xs k x lt) ∙ map-append (λ (y : Item). (Pop, Got y)) (take k xs) (x ∷ [])

-- there are so many of them
pub counted_pushes : (xs : List Item) (k : ℕ) → k < length xs → length (pushes_of (take k xs)) ≡ k
counted_pushes xs k lt = length-map (take k xs) (λ (y : Item). (Push y, Pushed)) ∙ length-take-le k xs (omega (arith, lt))

pub counted_pops : (xs : List Item) (k : ℕ) → k < length xs → length (pops_of (take k xs)) ≡ k
counted_pops xs k lt = length-map (take k xs) (λ (y : Item). (Pop, Got y)) ∙ length-take-le k xs (omega (arith, lt))

-- the journal has a line more for each
lines_more : (limits : Limits) (p q : PenState) (ts : List Told) → AppliesEach limits p ts q → length q.hand ≡ length p.hand + length ts
lines_more limits p q [] h = let e = ap (λ (z : PenState). length z.hand) h in omega (arith, e)
lines_more limits p q (t ∷ ts) h =
    let r : PenState = after_apply p t.0 (Entered (length p.hand + 1) t.1) h.0 in
    let e = lines_more limits r q ts h.2 in
    let f = length-append p.hand (line p.place (p.posts + 1) t.0 t.1 ∷ []) in
    omega (arith, e, f)

-- what is behind all calls that the pen has then is behind those that it had
before_all : (n : ℕ) (xs ys : List Call) → IsAboveAll n (xs ++ ys) → IsAboveAll n xs
before_all n [] ys h = tt
before_all n (x ∷ xs) ys h = (h.0, before_all n xs ys h.1)

above_before : (limits : Limits) (p q : PenState) (ts : List Told) (n : ℕ) → AppliesEach limits p ts q → IsAboveAll n q.mine → IsAboveAll n p.mine
above_before limits p q [] n h a = subst (λ (z : PenState). IsAboveAll n z.mine) h a
above_before limits p q (t ∷ ts) n h a =
    let r : PenState = after_apply p t.0 (Entered (length p.hand + 1) t.1) h.0 in
    before_all n p.mine (call (length p.hand + 1) (p.posts + 1) t.0 t.1 ∷ []) (above_before limits r q ts n h.2 a)

-- none of them tells the pen that the journal is full
pub full_before : (limits : Limits) (p q : PenState) (ts : List Told) → AppliesEach limits p ts q → q.told_full ≡ p.told_full
full_before limits p q [] h = ap (λ (z : PenState). z.told_full) h
full_before limits p q (t ∷ ts) h = full_before limits (after_apply p t.0 (Entered (length p.hand + 1) t.1) h.0) q ts h.2

-- one answer more
answers_more : (room lines : ℕ) (ts : List Told) (t : Told) → AreAnswersTo room lines ts → IsAnswerTo room t.0 (Entered (lines + length ts + 1) t.1) → AreAnswersTo room lines (ts ++ t ∷ [])
answers_more room lines [] t h a = (subst (λ n. IsAnswerTo room t.0 (Entered n t.1)) (omega arith) a, tt)
answers_more room lines (s ∷ ts) t h a = (h.0, answers_more room (lines + 1) ts t h.1 (subst (λ n. IsAnswerTo room t.0 (Entered n t.1)) (omega arith) a))

-- one line more behind these calls
above_more : (lines k n : ℕ) (calls : List Call) → AreAboveAll lines k calls → n ≡ lines + 1 + k → IsAboveAll n calls → AreAboveAll lines (k + 1) calls
above_more lines k n calls h e a =
    λ i lt. ⊎_elim (h i) (λ le. subst (λ m. IsAboveAll m calls) (e ∙ omega (arith, le, lt)) a) (cases_lt i k)

-- so it is of the next push, or pop
pub answers_pushed : (limits : Limits) (p q : PenState) (xs : List Item) (k : ℕ) (x : Item) (a : Answer) (n : ℕ) (r : Reply) → k < length xs → x ≡ get_or xs k x → AppliesEach limits p (pushes_of (take k xs)) q
    → MayAnswer limits q.hand (Push x) a → q.room ≡ p.room → AreAnswersTo p.room (length p.hand) (pushes_of (take k xs)) → IsAnswerTo q.room (Push x) a → a ≡ Entered n r
    → AreAnswersTo p.room (length p.hand) (pushes_of (take (k + 1) xs))
answers_pushed limits p q xs k x a n r lt read h may room so fits is =
    let m : MayAnswer limits q.hand (Push x) (Entered n r) = subst (MayAnswer limits q.hand (Push x)) is may in
    let f : IsAnswerTo q.room (Push x) (Entered n Pushed) = subst (λ y. IsAnswerTo q.room (Push x) (Entered n y)) m.2 (subst (IsAnswerTo q.room (Push x)) is fits) in
    let e = lines_more limits p q (pushes_of (take k xs)) h in
    let number : n ≡ length p.hand + length (pushes_of (take k xs)) + 1 = m.1 ∙ ap (λ i. i + 1) e in
    subst (AreAnswersTo p.room (length p.hand)) (sym (pushes_longer xs k x lt read))
    (answers_more p.room (length p.hand) (pushes_of (take k xs)) (Push x, Pushed) so
    (subst (λ i. IsAnswerTo p.room (Push x) (Entered i Pushed)) number (subst (λ i. IsAnswerTo i (Push x) (Entered n Pushed)) room f)))

pub answers_popped : (limits : Limits) (p q : PenState) (xs : List Item) (k : ℕ) (x : Item) (a : Answer) (n : ℕ) → k < length xs → AppliesEach limits p (pops_of (take k xs)) q
    → MayAnswer limits q.hand Pop a → q.room ≡ p.room → AreAnswersTo p.room (length p.hand) (pops_of (take k xs)) → IsAnswerTo q.room Pop a → a ≡ Entered n (Got x)
    → AreAnswersTo p.room (length p.hand) (pops_of (take (k + 1) (slice_set xs k x)))
answers_popped limits p q xs k x a n lt h may room so fits is =
    let m : MayAnswer limits q.hand Pop (Entered n (Got x)) = subst (MayAnswer limits q.hand Pop) is may in
    let f : IsAnswerTo q.room Pop (Entered n (Got x)) = subst (IsAnswerTo q.room Pop) is fits in
    let e = lines_more limits p q (pops_of (take k xs)) h in
    let number : n ≡ length p.hand + length (pops_of (take k xs)) + 1 = m.1 ∙ ap (λ i. i + 1) e in
    subst (AreAnswersTo p.room (length p.hand)) (sym (pops_longer xs k x lt))
    (answers_more p.room (length p.hand) (pops_of (take k xs)) (Pop, Got x) so
    (subst (λ i. IsAnswerTo p.room Pop (Entered i (Got x))) number (subst (λ i. IsAnswerTo i Pop (Entered n (Got x))) room f)))

pub behind_more : (limits : Limits) (p q : PenState) (ts : List Told) (request : Request) (a : Answer) (n : ℕ) (r : Reply) (k : ℕ) → AppliesEach limits p ts q → length ts ≡ k
    → MayAnswer limits q.hand request a → AreAboveAll (length p.hand) k p.mine → ((number : ℕ) (reply : Reply) → a ≡ Entered number reply → IsAboveAll number q.mine) → a ≡ Entered n r
    → AreAboveAll (length p.hand) (k + 1) p.mine
behind_more limits p q ts request a n r k h counted may so behind is =
    let m : MayAnswer limits q.hand request (Entered n r) = subst (MayAnswer limits q.hand request) is may in
    let e = lines_more limits p q ts h in
    let number : n ≡ length p.hand + 1 + k = omega (arith, m.1, e, counted) in
    above_more (length p.hand) k n p.mine so number (above_before limits p q ts n h (behind n r is))

-- the next push of so many
pushes_more : (limits : Limits) (p q : PenState) (xs : List Item) (k : ℕ) (x : Item) (n : ℕ) (r : Reply) (now : ℕ) → k < length xs → x ≡ get_or xs k x → AppliesEach limits p (pushes_of (take k xs)) q
    → MayAnswer limits q.hand (Push x) (Entered n r) → AppliesEach limits p (pushes_of (take (k + 1) xs)) (after_apply q (Push x) (Entered n r) now)
pushes_more limits p q xs k x n r now lt read h may =
    let next : MayAnswer limits q.hand (Push x) (Entered (length q.hand + 1) Pushed) = (may.0, refl, refl) in
    let same : after_apply q (Push x) (Entered (length q.hand + 1) Pushed) now ≡ after_apply q (Push x) (Entered n r) now =
    ap (λ m. after_apply q (Push x) (Entered m Pushed) now) (sym may.1) ∙ ap (λ y. after_apply q (Push x) (Entered n y) now) (sym may.2) in
    subst (λ l. AppliesEach limits p l (after_apply q (Push x) (Entered n r) now)) (sym (pushes_longer xs k x lt read))
    (subst (AppliesEach limits p (pushes_of (take k xs) ++ (Push x, Pushed) ∷ [])) same (applies_more limits p q (pushes_of (take k xs)) (Push x, Pushed) now h next))

pub pushed_on : (limits : Limits) (p q q' : PenState) (xs : List Item) (k : ℕ) (x : Item) (a : Answer) (n : ℕ) (r : Reply) (now : ℕ) → k < length xs → x ≡ get_or xs k x
    → AppliesEach limits p (pushes_of (take k xs)) q → MayAnswer limits q.hand (Push x) a → q' ≡ after_apply q (Push x) a now → a ≡ Entered n r
    → AppliesEach limits p (pushes_of (take (k + 1) xs)) q'
pushed_on limits p q q' xs k x a n r now lt read h may next is =
    subst (AppliesEach limits p (pushes_of (take (k + 1) xs))) (sym (next ∙ ap (λ y. after_apply q (Push x) y now) is))
    (pushes_more limits p q xs k x n r now lt read h (subst (MayAnswer limits q.hand (Push x)) is may))

-- the item that follows so many is the next one to be pushed
pub next_push : (xs : List Item) (k : ℕ) (x : Item) → k < length xs → x ≡ get_or xs k x → IsPushAt xs k (Push x)
next_push xs k x lt read = (x, slice_get_read xs (length xs) k x refl lt read, refl)

-- the next request was refused so
pub refused_on : (limits : Limits) (is_next : Request → Type 0) (p q q' : PenState) (told : List Told) (request : Request) (a b : Answer) (now : ℕ) → is_next request
    → AppliesEach limits p told q → MayAnswer limits q.hand request a → q' ≡ after_apply q request a now → a ≡ b → (m : PenState) × AppliesEach limits p told m × IsRefusedAs limits is_next m b q'
refused_on limits is_next p q q' told request a b now follows h may next is =
    (q, h, (request, follows, now, subst (MayAnswer limits q.hand request) is may, next ∙ ap (λ y. after_apply q request y now) is))

-- and by such an answer
pub refused_by : (is_next : Request → Type 0) (room n : ℕ) (request : Request) (a b : Answer) → is_next request → n ≡ room → IsAnswerTo n request a → a ≡ b → IsAnswerToNext room is_next (Some b)
refused_by is_next room n request a b follows same fits is = (request, follows, subst (IsAnswerTo room request) is (subst (λ k. IsAnswerTo k request a) same fits))

-- the next pop, whose item was written behind those before
pops_more : (limits : Limits) (p q : PenState) (xs : List Item) (k : ℕ) (x : Item) (n now : ℕ) → k < length xs → AppliesEach limits p (pops_of (take k xs)) q
    → MayAnswer limits q.hand Pop (Entered n (Got x)) → AppliesEach limits p (pops_of (take (k + 1) (slice_set xs k x))) (after_apply q Pop (Entered n (Got x)) now)
pops_more limits p q xs k x n now lt h may =
    let next : MayAnswer limits q.hand Pop (Entered (length q.hand + 1) (Got x)) = (may.0, refl, may.2) in
    let same : after_apply q Pop (Entered (length q.hand + 1) (Got x)) now ≡ after_apply q Pop (Entered n (Got x)) now = ap (λ m. after_apply q Pop (Entered m (Got x)) now) (sym may.1) in
    subst (λ l. AppliesEach limits p l (after_apply q Pop (Entered n (Got x)) now)) (sym (pops_longer xs k x lt))
    (subst (AppliesEach limits p (pops_of (take k xs) ++ (Pop, Got x) ∷ [])) same (applies_more limits p q (pops_of (take k xs)) (Pop, Got x) now h next))

pub popped_on : (limits : Limits) (p q q' : PenState) (xs : List Item) (k : ℕ) (x : Item) (a : Answer) (n now : ℕ) → k < length xs → AppliesEach limits p (pops_of (take k xs)) q
    → MayAnswer limits q.hand Pop a → q' ≡ after_apply q Pop a now → a ≡ Entered n (Got x) → AppliesEach limits p (pops_of (take (k + 1) (slice_set xs k x))) q'
popped_on limits p q q' xs k x a n now lt h may next is =
    subst (AppliesEach limits p (pops_of (take (k + 1) (slice_set xs k x)))) (sym (next ∙ ap (λ y. after_apply q Pop y now) is))
    (pops_more limits p q xs k x n now lt h (subst (MayAnswer limits q.hand Pop) is may))

-- the item that such a pop took out, where the first one was due
pub popped_due : (bound : ℕ) (first : Option Item) (xs : List Item) (x : Item) → first ≡ first_of xs → is_first_due bound first ≡ true → Got x ≡ reply_to xs Pop → x.priority ≤ bound
popped_due bound first [] x is due told = absurd (let e : false ≡ true = ap (is_first_due bound) (sym is) ∙ due in cc)
popped_due bound first (y ∷ ys) x is due told =
    let same : x ≡ y = cc in
    let low : nat_le y.priority bound ≡ true = ap (is_first_due bound) (sym is) ∙ due in
    let le : y.priority ≤ bound = grind (arith, nat_tests, low) in
    subst (λ (z : Item). z.priority ≤ bound) (sym same) le
