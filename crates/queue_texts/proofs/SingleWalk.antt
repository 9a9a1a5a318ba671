-- A line of a walk is played in one way, or refused for one reason.
use Rattle.std.proofs.Common.{◌≡◌, ℕ, ◌<◌, ◌⊎◌, inl, inr, true, List, [], ◌∷◌, ◌++◌, get_or, Some, Result, Ok, Err, refl, sym, ◌∙◌, ap, subst, arith}
use Rattle.std.specs.Prelude.{slice_index}
use Rattle.std.specs.Str.Parse.{IsNumeral, digits_value}
use Rattle.split_core.specs.Trails.{Act}
use Rattle.split_core.specs.TrailCalls.{act_seen}
use Rattle.split_core.specs.Ids.{OpenGrid, IsFault, IsFirstFault, IsRepeated}
use Rattle.split_core.specs.declared.ids.IdError.{IdError}
use Rattle.split_core.specs.declared.ids.IdError.TheVariants.{NoComers, TooManyComers, ZeroId, RepeatedId, NoMemory}
use Rattle.split_core.specs.declared.seen.StepError.{StepError}
use Rattle.queue_texts.specs.declared.faults.Refusal.{Refusal}
use Rattle.queue_texts.specs.declared.faults.Refusal.TheVariants.{Comers}
use Rattle.queue_texts.specs.declared.orders.Order.{Order}
use Rattle.queue_texts.specs.declared.orders.OrderError.{OrderError}
use Rattle.queue_texts.specs.declared.orders.OrderError.TheVariants.{UnknownCommand, NotANumber, IdOutOfRange}
use Rattle.queue_texts.specs.declared.orders.ScanKind.{ScanKind}
use Rattle.queue_texts.specs.declared.orders.Move.TheVariants.{Step, Scan}
use Rattle.queue_texts.specs.declared.orders.Verb.{Verb}
use Rattle.queue_texts.specs.declared.orders.Verb.TheVariants.{Comer, Make}
use Rattle.queue_texts.specs.EventText.{event_text}
use Rattle.queue_texts.specs.Orders.{verb_text, BeginsWith, SpellsOrder, IsNoOrderFor}
use Rattle.queue_texts.specs.WalkText.{Schedule, stand_of, PlaysCall, PlaysOrder, RefusesOrder, NoGrid, PlaysWalk, RefusesWalk, EndsWalk, orders}
use Rattle.queue_texts.proofs.OneText.{IsSingle}

-- a line begins with one verb
one_verb : (v v' : Verb) (d d' : List ℕ) → verb_text v ++ d ≡ verb_text v' ++ d' → (v ≡ v') × (d ≡ d')
one_verb Comer Comer d d' e = (refl, cc)
one_verb Comer (Make Step) d d' e = absurd (omega (arith, ap (λ xs. get_or xs 0 0) e))
one_verb Comer (Make Scan) d d' e = absurd (omega (arith, ap (λ xs. get_or xs 0 0) e))
one_verb (Make Step) Comer d d' e = absurd (omega (arith, ap (λ xs. get_or xs 0 0) e))
one_verb (Make Step) (Make Step) d d' e = (refl, cc)
one_verb (Make Step) (Make Scan) d d' e = absurd (omega (arith, ap (λ xs. get_or xs 1 0) e))
one_verb (Make Scan) Comer d d' e = absurd (omega (arith, ap (λ xs. get_or xs 0 0) e))
one_verb (Make Scan) (Make Step) d d' e = absurd (omega (arith, ap (λ xs. get_or xs 1 0) e))
one_verb (Make Scan) (Make Scan) d d' e = (refl, cc)

begins_once : (line : List ℕ) (v v' : Verb) (d d' : List ℕ) → BeginsWith line v d → BeginsWith line v' d' → (v ≡ v') × (d ≡ d')
begins_once line v v' d d' e e' = one_verb v v' d d' (sym e ∙ e')

same_order : (v v' : Verb) (i i' : ℕ) → v ≡ v' → i ≡ i' → ◌≡◌ {A = Order} (record { verb = v; id = i }) (record { verb = v'; id = i' })
same_order v v' i i' e f = cc

spells_once : (line : List ℕ) (o o' : Order) → SpellsOrder line o → SpellsOrder line o' → o ≡ o'
spells_once line o o' (d, begins, numeral, value, small) (d', begins', numeral', value', small') =
    let same = begins_once line o.verb o'.verb d d' begins begins' in
    same_order o.verb o'.verb o.id o'.id same.0 (sym value ∙ ap (digits_value 10) same.1 ∙ value')

not_spelled : (line : List ℕ) (o : Order) (reason : OrderError) → SpellsOrder line o → IsNoOrderFor line reason → ⊥
not_spelled line o UnknownCommand (d, begins, numeral, value, small) none = none o.verb d begins
not_spelled line o NotANumber (d, begins, numeral, value, small) (v, d', begins', no_numeral) =
    let same = begins_once line o.verb v d d' begins begins' in
    no_numeral (subst (IsNumeral 10) same.1 numeral)
not_spelled line o IdOutOfRange (d, begins, numeral, value, small) (v, d', begins', numeral', large) =
    let same = begins_once line o.verb v d d' begins begins' in
    omega (arith, small, large, value, ap (digits_value 10) same.1)

one_reason : (line : List ℕ) (r r' : OrderError) → IsNoOrderFor line r → IsNoOrderFor line r' → r ≡ r'
one_reason line UnknownCommand UnknownCommand h h' = refl
one_reason line UnknownCommand NotANumber none (v, d, begins, h) = absurd (none v d begins)
one_reason line UnknownCommand IdOutOfRange none (v, d, begins, numeral, large) = absurd (none v d begins)
one_reason line NotANumber UnknownCommand (v, d, begins, h) none = absurd (none v d begins)
one_reason line NotANumber NotANumber h h' = refl
one_reason line NotANumber IdOutOfRange (v, d, begins, no_numeral) (v', d', begins', numeral, large) = absurd (no_numeral (subst (IsNumeral 10) (sym (begins_once line v v' d d' begins begins').1) numeral))
one_reason line IdOutOfRange UnknownCommand (v, d, begins, numeral, large) none = absurd (none v d begins)
one_reason line IdOutOfRange NotANumber (v, d, begins, numeral, large) (v', d', begins', no_numeral) = absurd (no_numeral (subst (IsNumeral 10) (begins_once line v v' d d' begins begins').1 numeral))
one_reason line IdOutOfRange IdOutOfRange h h' = refl

-- the first fault of a list of ids is at one position
one_position : (ids : List ℕ) (k j : ℕ) → IsFirstFault ids k → IsFirstFault ids j → (slice_index ids k ≡ 0) ⊎ IsRepeated ids k → (slice_index ids j ≡ 0) ⊎ IsRepeated ids j → k ≡ j
one_position ids k j first first' bad bad' =
    let not_before : k < j → ⊥ = λ less. elim bad [ inl zero ↦ (first'.before k less).0 zero | inr repeated ↦ (first'.before k less).1 repeated ] in
    let not_behind : j < k → ⊥ = λ less. elim bad' [ inl zero ↦ (first.before j less).0 zero | inr repeated ↦ (first.before j less).1 repeated ] in
    omega (arith, not_before, not_behind)

one_fault : (ids : List ℕ) (f f' : IdError) → IsFault ids f → IsFault ids f' → f ≡ f'
one_fault ids NoComers NoComers h h' = refl
one_fault ids NoComers TooManyComers h h' = absurd (omega (arith, h, h'))
one_fault ids NoComers (ZeroId k) h (first, zero) = absurd (omega (arith, h, first.size.some))
one_fault ids NoComers (RepeatedId k) h (first, some, repeated) = absurd (omega (arith, h, first.size.some))
one_fault ids TooManyComers NoComers h h' = absurd (omega (arith, h, h'))
one_fault ids TooManyComers TooManyComers h h' = refl
one_fault ids TooManyComers (ZeroId k) h (first, zero) = absurd (omega (arith, h, first.size.few))
one_fault ids TooManyComers (RepeatedId k) h (first, some, repeated) = absurd (omega (arith, h, first.size.few))
one_fault ids (ZeroId k) NoComers (first, zero) h = absurd (omega (arith, h, first.size.some))
one_fault ids (ZeroId k) TooManyComers (first, zero) h = absurd (omega (arith, h, first.size.few))
one_fault ids (ZeroId k) (ZeroId j) (first, zero) (first', zero') = ap (λ i. ZeroId i) (one_position ids k j first first' (inl zero) (inl zero'))
one_fault ids (ZeroId k) (RepeatedId j) (first, zero) (first', some, repeated) =
    let same = one_position ids k j first first' (inl zero) (inr repeated) in absurd (some (subst (λ i. slice_index ids i ≡ 0) same zero))
one_fault ids (RepeatedId k) NoComers (first, some, repeated) h = absurd (omega (arith, h, first.size.some))
one_fault ids (RepeatedId k) TooManyComers (first, some, repeated) h = absurd (omega (arith, h, first.size.few))
one_fault ids (RepeatedId k) (ZeroId j) (first, some, repeated) (first', zero) =
    let same = one_position ids k j first first' (inr repeated) (inl zero) in absurd (some (subst (λ i. slice_index ids i ≡ 0) (sym same) zero))
one_fault ids (RepeatedId k) (RepeatedId j) (first, some, repeated) (first', some', repeated') = ap (λ i. RepeatedId i) (one_position ids k j first first' (inr repeated) (inr repeated'))
one_fault ids NoMemory f' none h = absurd none
one_fault ids NoComers NoMemory h none = absurd none
one_fault ids TooManyComers NoMemory h none = absurd none
one_fault ids (ZeroId k) NoMemory h none = absurd none
one_fault ids (RepeatedId k) NoMemory h none = absurd none

-- ids that open a grid have no fault
open_or_fault : (ids : List ℕ) (f : IdError) → OpenGrid ids → IsFault ids f → ⊥
open_or_fault ids NoComers opens h = omega (arith, opens.size.some, h)
open_or_fault ids TooManyComers opens h = omega (arith, opens.size.few, h)
open_or_fault ids (ZeroId k) opens (first, zero) = (opens.fine k first.within).0 zero
open_or_fault ids (RepeatedId k) opens (first, some, repeated) = (opens.fine k first.within).1 repeated
open_or_fault ids NoMemory opens none = none

open_or_not : (ids : List ℕ) (r : Refusal) → OpenGrid ids → NoGrid ids r → ⊥
open_or_not ids r opens (f, fault, is) = open_or_fault ids f opens fault

one_no_grid : (ids : List ℕ) (r r' : Refusal) → NoGrid ids r → NoGrid ids r' → r ≡ r'
one_no_grid ids r r' (f, fault, is) (f', fault', is') = is ∙ ap (λ x. Comers x) (one_fault ids f f' fault fault') ∙ sym is'

-- the walk with one more act, over an open grid
abbrev with_act : Schedule → Act → Schedule
with_act p a = record { ids = p.ids; acts = p.acts ++ a ∷ []; open_now = true }

one_call : (p : Schedule) (call : Result Act StepError) (id : ℕ) (text text' : List ℕ) (q q' : Schedule) → PlaysCall p call id text q → PlaysCall p call id text' q' → (text ≡ text') × (q ≡ q')
one_call p call id text text' q q' (act, seen, made, shown, says, next) (act', seen', made', shown', says', next') =
    let same : act ≡ act' = cc in
    let shows : act_seen (stand_of p) act ≡ Some seen' = subst (λ a. act_seen (stand_of p) a ≡ Some seen') (sym same) shown' in
    let told : seen ≡ seen' = cc in (
      says ∙ ap (event_text id) told ∙ sym says',
      next ∙ ap (with_act p) same ∙ sym next',
    )

one_order : (kind : ScanKind) (p : Schedule) (v : Verb) (id : ℕ) (text text' : List ℕ) (q q' : Schedule) → PlaysOrder kind p v id text q → PlaysOrder kind p v id text' q' → (text ≡ text') × (q ≡ q')
one_order kind p Comer id text text' q q' (closed, few, says, next) (closed', few', says', next') = (says ∙ sym says', next ∙ sym next')
one_order kind p (Make move) id text text' q q' (opens, plays) (opens', plays') = one_call p _ id text text' q q' plays plays'

one_refusal : (kind : ScanKind) (p : Schedule) (n : ℕ) (v : Verb) (id : ℕ) (r r' : Refusal) → RefusesOrder kind p n v id r → RefusesOrder kind p n v id r' → r ≡ r'
one_refusal kind p n Comer id r r' (inl (late, is)) (inl (late', is')) = is ∙ sym is'
one_refusal kind p n Comer id r r' (inl (late, is)) (inr (closed, many, is')) = absurd (cc)
one_refusal kind p n Comer id r r' (inr (closed, many, is)) (inl (late, is')) = absurd (cc)
one_refusal kind p n Comer id r r' (inr (closed, many, is)) (inr (closed', many', is')) = is ∙ sym is'
one_refusal kind p n (Make move) id r r' (inl fault) (inl fault') = one_no_grid p.ids r r' fault fault'
one_refusal kind p n (Make move) id r r' (inl fault) (inr (opens, refused)) = absurd (open_or_not p.ids r opens fault)
one_refusal kind p n (Make move) id r r' (inr (opens, refused)) (inl fault) = absurd (open_or_not p.ids r' opens fault)
one_refusal kind p n (Make move) id r r' (inr (opens, (why, call, is))) (inr (opens', (why', call', is'))) =
    let same : why ≡ why' = cc in cc

played_or_refused : (kind : ScanKind) (p : Schedule) (n : ℕ) (v : Verb) (id : ℕ) (text : List ℕ) (q : Schedule) (r : Refusal) → PlaysOrder kind p v id text q → RefusesOrder kind p n v id r → ⊥
played_or_refused kind p n Comer id text q r (closed, few, says, next) (inl (late, is)) = absurd (cc)
played_or_refused kind p n Comer id text q r (closed, few, says, next) (inr (closed', many, is)) = omega (arith, few, many)
played_or_refused kind p n (Make move) id text q r (opens, plays) (inl fault) = open_or_not p.ids r opens fault
played_or_refused kind p n (Make move) id text q r (opens, (act, seen, made, shown, says, next)) (inr (opens', (why, call, is))) = absurd (cc)

one_play : (kind : ScanKind) (p : Schedule) (line text text' : List ℕ) (q q' : Schedule) → PlaysWalk kind p line text q → PlaysWalk kind p line text' q' → (text ≡ text') × (q ≡ q')
one_play kind p line text text' q q' (o, spells, plays) (o', spells', plays') =
    one_order kind p o.verb o.id text text' q q' plays (subst (λ x. PlaysOrder kind p x.verb x.id text' q') (sym (spells_once line o o' spells spells')) plays')

one_refuse : (kind : ScanKind) (p : Schedule) (n : ℕ) (line : List ℕ) (r r' : Refusal) → RefusesWalk kind p n line r → RefusesWalk kind p n line r' → r ≡ r'
one_refuse kind p n line r r' (inl (why, no_order, is)) (inl (why', no_order', is')) =
    let same : why ≡ why' = one_reason line why why' no_order no_order' in cc
one_refuse kind p n line r r' (inl (why, no_order, is)) (inr (o, spells, refused)) = absurd (not_spelled line o why spells no_order)
one_refuse kind p n line r r' (inr (o, spells, refused)) (inl (why, no_order, is)) = absurd (not_spelled line o why spells no_order)
one_refuse kind p n line r r' (inr (o, spells, refused)) (inr (o', spells', refused')) =
    one_refusal kind p n o.verb o.id r r' refused (subst (λ x. RefusesOrder kind p n x.verb x.id r') (sym (spells_once line o o' spells spells')) refused')

play_or_refuse : (kind : ScanKind) (p : Schedule) (n : ℕ) (line text : List ℕ) (q : Schedule) (r : Refusal) → PlaysWalk kind p line text q → RefusesWalk kind p n line r → ⊥
play_or_refuse kind p n line text q r (o, spells, plays) (inl (why, no_order, is)) = not_spelled line o why spells no_order
play_or_refuse kind p n line text q r (o, spells, plays) (inr (o', spells', refused)) =
    played_or_refused kind p n o.verb o.id text q r plays (subst (λ x. RefusesOrder kind p n x.verb x.id r) (sym (spells_once line o o' spells spells')) refused)

one_end : (p : Schedule) (r r' : Result (Unit {0}) Refusal) → EndsWalk p r → EndsWalk p r' → r ≡ r'
one_end p (Ok done) (Ok done') h h' = refl
one_end p (Ok done) (Err r) opens fault = absurd (open_or_not p.ids r opens fault)
one_end p (Err r) (Ok done) fault opens = absurd (open_or_not p.ids r opens fault)
one_end p (Err r) (Err r') h h' = ap (λ x. Err x) (one_no_grid p.ids r r' h h')

pub single_walk : (kind : ScanKind) → IsSingle (orders kind)
single_walk kind = record { plays = one_play kind; refuses = one_refuse kind; either = play_or_refuse kind; ends = one_end }
