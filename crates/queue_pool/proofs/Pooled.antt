-- What holds of all in a list holds where its first or its last leaves, or one more comes.
use Rattle.std.proofs.Common.{◌≡◌, ◌≢◌, ◌∙◌, ap, sym, ℕ, false, true, true≢false, List, [], ◌∷◌, ◌++◌, length, ◌-◌, arith, subst, refl}
use Rattle.std.specs.Prelude.{Option, Some, None, IfSome, IfNone, is_some}
use Rattle.std.proofs.lemmas.List.{append-nil, append_assoc}
use Rattle.std.proofs.lemmas.Option.{IfSome_then}
use Rattle.std.specs.Option.{option_to_list}
use Rattle.std.specs.List.{All}
use Rattle.pq_types.specs.Asked.{Answer}
use Rattle.announce_board.specs.Tokens.{is_idle}
use Rattle.announce_board.specs.Asking.{LooksBy}
use Rattle.flat_queue.specs.Members.{QueueName, Coming, Joined, StaysAtPlace}
use Rattle.flat_queue.specs.Turns.{LeadsBy, FindsLockHeld, LooksInVainBy}
use Rattle.flat_queue.specs.TrailSweeping.{MakesTrailRoundBy}
use Rattle.queue_pool.specs.Pool.{IsIdleAt, WaitsAt, FindsAnswerBy, AllInVainBy, FirstInVainBy, FirstAnsweredBy, AskedInVainBy, FirstToldBy, FirstLedBy, FirstFoundHeld}
use Rattle.flat_queue.specs.declared.combining.Round.{Round}
use Rattle.std.proofs.lemmas.List.Elements.{All-append, All-drop, All-push, All-weaker}

-- by the clause of `pop_front` on the items
pub all_pop_front : {X : Type 0} (P : X → Type 0) (xs ys : List X) (r : Option X) → xs ≡ option_to_list r ++ ys → All P xs → All P ys × IfSome r P
all_pop_front P xs ys None e h = (subst (All P) e h, tt)
all_pop_front P xs ys (Some x) e h = let all = subst (All P) e h in (All-drop P 1 (x ∷ ys) all, all 0 x (omega arith))

pub all_rest : {X : Type 0} (P : X → Type 0) (xs ys : List X) (r : Option X) → xs ≡ option_to_list r ++ ys → All P xs → All P ys
all_rest P xs ys r e h = (all_pop_front P xs ys r e h).0

pub all_first : {X : Type 0} (P : X → Type 0) (xs ys : List X) (r : Option X) → xs ≡ option_to_list r ++ ys → All P xs → IfSome r P
all_first P xs ys r e h = (all_pop_front P xs ys r e h).1

pub all_pushed : {X : Type 0} (P : X → Type 0) (new old : List X) (x : X) → new ≡ old ++ x ∷ [] → All P old → P x → All P new
all_pushed P new old x e h p = subst (All P) (sym e) (All-push P old x h p)

-- a member that has looked in vain waits still
none_there : (r : Option Answer) → is_some r ≡ false → r ≡ None
none_there None h = refl
none_there (Some a) h = absurd (cc)

pub waits_on : (words : ℕ) (m m' : Joined) (r : Option Answer) → LooksBy words m.pen r m'.pen → is_some r ≡ false → is_idle m.pen.standing ≡ false → is_idle m'.pen.standing ≡ false
waits_on words m m' r looks none waits = ap is_idle (looks.waits (none_there r none)).0 ∙ waits

-- Those that wait, asked one after another: the first of them looked in vain
pub first_in_vain : (words : ℕ) (xs ys zs : List Joined) (r : Option Joined) (m n : Joined) → xs ≡ option_to_list r ++ ys → r ≡ Some m → LooksInVainBy words m n → zs ≡ ys ++ n ∷ [] → FirstInVainBy words xs zs
first_in_vain words xs ys zs r m n e was looks stand = subst (λ l. FirstInVainBy words l zs) (sym (e ∙ ap (λ o. option_to_list o ++ ys) was)) (n, looks, stand)

-- or it found its answer
pub first_answered : (words : ℕ) (xs ys : List Joined) (r : Option Joined) (m n : Joined) → xs ≡ option_to_list r ++ ys → r ≡ Some m → FindsAnswerBy words m n → FirstAnsweredBy words xs n ys
first_answered words xs ys r m n e was finds = subst (λ l. FirstAnsweredBy words l n ys) (sym (e ∙ ap (λ o. option_to_list o ++ ys) was)) (finds, refl)

-- it has made a round, and found its answer
pub first_led : (words : ℕ) (xs ys : List Joined) (r : Option Joined) (m led n : Joined) → xs ≡ option_to_list r ++ ys → r ≡ Some m → LeadsBy words m led → FindsAnswerBy words led n → FirstLedBy words xs n ys
first_led words xs ys r m led n e was leads finds = subst (λ l. FirstLedBy words l n ys) (sym (e ∙ ap (λ o. option_to_list o ++ ys) was)) (led, leads, finds, refl)

-- or it found the lock held
pub first_held : (xs ys zs : List Joined) (r : Option Joined) (m n : Joined) → xs ≡ option_to_list r ++ ys → r ≡ Some m → FindsLockHeld m n → zs ≡ ys ++ n ∷ [] → FirstFoundHeld xs zs
first_held xs ys zs r m n e was held stand = subst (λ l. FirstFoundHeld l zs) (sym (e ∙ ap (λ o. option_to_list o ++ ys) was)) (n, held, stand)

-- a look that told something found an answer
pub finds_answer : (words : ℕ) (m n : Joined) (r : Option Answer) → StaysAtPlace m n → LooksBy words m.pen r n.pen → is_some r ≡ true → FindsAnswerBy words m n
finds_answer words m n None stays looks some = absurd (true≢false (sym some))
finds_answer words m n (Some answer) stays looks some = (answer, stays, looks)

-- a look that told nothing was in vain
pub looks_in_vain : (words : ℕ) (m n : Joined) (r : Option Answer) → StaysAtPlace m n → LooksBy words m.pen r n.pen → is_some r ≡ false → LooksInVainBy words m n
looks_in_vain words m n r stays looks none = (stays, subst (λ a. LooksBy words m.pen a n.pen) (none_there r none) looks)

-- a round that was made
pub led_by : (words : ℕ) (m n : Joined) (r : Option Round) → is_some r ≡ true → IfSome r (λ round. MakesTrailRoundBy words m round.served round.doors n) → LeadsBy words m n
led_by words m n None some round = absurd (true≢false (sym some))
led_by words m n (Some r) some round = (r.served, r.doors, round)

pub if_none_then : {X : Type 0} (r : Option X) {P Q : Type 0} → IfNone r P → (P → Q) → IfNone r Q
if_none_then None h f = f h
if_none_then (Some x) h f = tt

-- none is left to be asked
pub asked_none : (words : ℕ) (ahead others xs : List Joined) (turns : ℕ) → turns ≡ 0 → xs ≡ ahead ++ others → length ahead ≡ turns → AskedInVainBy words ahead others xs
asked_none words [] others xs turns z e n = record { asked = []; in_vain = tt; stand = e ∙ sym (append-nil others) }
asked_none words (m ∷ ahead) others xs turns z e n = absurd (omega (arith, z, n))

-- the first was asked in vain, and then the others
pub asked_on : (words : ℕ) (ahead others xs ys zs : List Joined) (turns : ℕ) (r : Option Joined) → turns ≢ 0 → FirstInVainBy words xs ys
    → ((a b : List Joined) → ys ≡ a ++ b → length a ≡ turns - 1 → IfNone r (AskedInVainBy words a b zs))
    → xs ≡ ahead ++ others → length ahead ≡ turns → IfNone r (AskedInVainBy words ahead others zs)
asked_on words [] others xs ys zs turns r some first behind e n = absurd (some (sym n))
asked_on words (m ∷ ahead) others xs ys zs turns r some first behind e n =
    let f : FirstInVainBy words (m ∷ (ahead ++ others)) ys = subst (λ l. FirstInVainBy words l ys) e first in
    let one = f.0 in
    if_none_then r (behind ahead (others ++ one ∷ []) (f.2 ∙ append_assoc ahead others (one ∷ [])) (omega (arith, n)))
    (λ h. record { asked = one ∷ h.asked; in_vain = (f.1, h.in_vain); stand = h.stand ∙ append_assoc others (one ∷ []) h.asked })

-- the first found its answer
pub told_first : (words : ℕ) (ahead others xs ys : List Joined) (turns : ℕ) (m : Joined) → turns ≢ 0 → FirstAnsweredBy words xs m ys → xs ≡ ahead ++ others → length ahead ≡ turns → FirstToldBy words ahead others m ys
told_first words [] others xs ys turns m some first e n = absurd (some (sym n))
told_first words (w ∷ ahead) others xs ys turns m some first e n =
    let f : FirstAnsweredBy words (w ∷ (ahead ++ others)) m ys = subst (λ l. FirstAnsweredBy words l m ys) e first in
    record { before = []; waited = w; behind = ahead; asked = []; split = refl; in_vain = tt; finds = f.0; stand = f.1 ∙ ap (λ l. ahead ++ l) (sym (append-nil others)) }

-- the first was asked in vain, and then one of the others found its answer
pub told_on : (words : ℕ) (ahead others xs ys zs : List Joined) (turns : ℕ) (r : Option Joined) → turns ≢ 0 → FirstInVainBy words xs ys
    → ((a b : List Joined) → ys ≡ a ++ b → length a ≡ turns - 1 → IfSome r (λ m. FirstToldBy words a b m zs))
    → xs ≡ ahead ++ others → length ahead ≡ turns → IfSome r (λ m. FirstToldBy words ahead others m zs)
told_on words [] others xs ys zs turns r some first behind e n = absurd (some (sym n))
told_on words (w ∷ ahead) others xs ys zs turns r some first behind e n =
    let f : FirstInVainBy words (w ∷ (ahead ++ others)) ys = subst (λ l. FirstInVainBy words l ys) e first in
    let one = f.0 in
    IfSome_then r (behind ahead (others ++ one ∷ []) (f.2 ∙ append_assoc ahead others (one ∷ [])) (omega (arith, n)))
    (λ m h. record {
      before = w ∷ h.before;
      waited = h.waited;
      behind = h.behind;
      asked = one ∷ h.asked;
      split = ap (λ l. w ∷ l) h.split;
      in_vain = (f.1, h.in_vain);
      finds = h.finds;
      stand = h.stand ∙ ap (λ l. h.behind ++ l) (append_assoc others (one ∷ []) h.asked);
    })

-- all that wait were asked in vain
pub all_asked : (words : ℕ) (xs zs : List Joined) → AskedInVainBy words xs [] zs → AllInVainBy words xs zs
all_asked words xs zs h = subst (AllInVainBy words xs) (sym h.stand) h.in_vain

-- the members of a pool are of its queue, and none of them leads
pub all_members : (here queue : QueueName) (idle waiting members : List Joined) → here ≡ queue → All (IsIdleAt queue) idle → All (WaitsAt queue) waiting
    → members ≡ idle ++ waiting → All (λ (m : Joined). m.queue ≡ here) members × All (λ (m : Joined). m.pen.leading ≡ false) members
all_members here queue idle waiting members same are wait e =
    let of_queue = λ (m : Joined). m.queue ≡ here in
    let led_not = λ (m : Joined). m.pen.leading ≡ false in (
      subst (All of_queue) (sym e)
          (All-append of_queue idle waiting
          (All-weaker (IsIdleAt queue) of_queue (λ m h. h.0 ∙ sym same) idle are) (All-weaker (WaitsAt queue) of_queue (λ m h. h.0 ∙ sym same) waiting wait)),
      subst (All led_not) (sym e)
          (All-append led_not idle waiting (All-weaker (IsIdleAt queue) led_not (λ m h. h.2) idle are) (All-weaker (WaitsAt queue) led_not (λ m h. h.2) waiting wait)),
    )

-- the newcomers of a pool are of its queue, and none comes behind those that have not joined
pub all_newcomers : (here queue : QueueName) (unjoined newcomers all : List Coming) → here ≡ queue → unjoined ≡ [] → All (λ (n : Coming). n.queue ≡ queue) newcomers
    → all ≡ unjoined ++ newcomers → All (λ (n : Coming). n.queue ≡ here) all
all_newcomers here queue unjoined newcomers all same none are e =
    let of_queue = λ (n : Coming). n.queue ≡ here in
    subst (All of_queue) (sym (e ∙ ap (λ l. l ++ newcomers) none)) (All-weaker (λ (n : Coming). n.queue ≡ queue) of_queue (λ n h. h ∙ sym same) newcomers are)
