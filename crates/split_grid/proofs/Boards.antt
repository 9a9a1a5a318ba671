-- A step of one comer carries the table's words and seats on to the next grid.
use Rattle.std.proofs.Common.{◌≡◌, ◌≢◌, ℕ, zero, suc, ◌<◌, inl, inr, List, [], ◌∷◌, ◌++◌, map, length, slice_get, slice_set, slice_index, Some}
use Rattle.std.proofs.Common.{Option, refl, ap, sym, ◌∙◌, subst, arith, true, false, ◌==◌, if◌then◌else◌, Bool, true≢false}
use Rattle.std.proofs.lemmas.Bool.{cases_eq, cond-true, cond-false, eq-eqb, ne_eqb}
use Rattle.std.proofs.lemmas.List.{length-set, get_or-set_same, get_or-set_other}
use mathlib.Core.Option.{some, some-ne-none, some-injective}
use mathlib.Core.Option as home
use lib.ListN.{get_elem?}
use lib.Seq.{map-set}
use Rattle.atomic_table.specs.Table.{State}
use Rattle.split_core.specs.Places.{place, at}
use Rattle.split_core.specs.Comer.{comer_of, is_stopped}
use Rattle.split_core.specs.Grid.{Grid, Event, Has, put, goes, happens, run, opening}
use Rattle.split_core.specs.declared.model.Comer.{Comer}
use Rattle.split_core.specs.declared.model.Next.{Next}
use Rattle.split_core.specs.declared.model.Next.TheVariants.{WriteLast, ReadDoor, CloseDoor, ReadLast, Stopped}
use Rattle.split_grid.specs.Words.{door_at, last_at, AreWords}
use Rattle.split_grid.specs.DoorLooks.{Moment, Happens, LooksAt, events_in, look, looks_of, OnlyStoppedLook, HasLooked}
use Rattle.split_grid.specs.Rule.{dealer, seated, is_dealt, comer_in, becomes, bare, looks_in, AreValues, Shows, Keeps}
use Rattle.split_grid.specs.Steps.{stepped}
use Rattle.split_grid.specs.declared.rule.View.{View}
use Rattle.split_grid.specs.declared.rule.Look.{Look}
use Rattle.atomic_table.proofs.Lists.{at_map}
use Rattle.split_grid.proofs.Lists.{get_front, set_front, set_self}

pub after_event : (es : List Event) (e : Event) (s : Grid) → run (es ++ e ∷ []) s ≡ happens (run es s) e
after_event [] e s = refl
after_event (x ∷ es) e s = after_event es e (happens s x)

-- one event more, and one look more
pub events_more : (ms : List Moment) (e : Event) → events_in (ms ++ Happens e ∷ []) ≡ events_in ms ++ e ∷ []
events_more [] e = refl
events_more (Happens x ∷ ms) e = ap (λ l. x ∷ l) (events_more ms e)
events_more (LooksAt a p ∷ ms) e = events_more ms e

pub events_same : (ms : List Moment) (a p : ℕ) → events_in (ms ++ LooksAt a p ∷ []) ≡ events_in ms
events_same [] a p = refl
events_same (Happens x ∷ ms) a p = ap (λ l. x ∷ l) (events_same ms a p)
events_same (LooksAt b q ∷ ms) a p = events_same ms a p

pub looks_same : (who : ℕ) (ms : List Moment) (e : Event) (s : Grid) → looks_of who (ms ++ Happens e ∷ []) s ≡ looks_of who ms s
looks_same who [] e s = refl
looks_same who (Happens x ∷ ms) e s = looks_same who ms e (happens s x)
looks_same who (LooksAt a p ∷ ms) e s = ap (λ l. if a == who then look p (s.door p) ∷ l else l) (looks_same who ms e s)

looks_first : (b : Bool) (x : Look) (xs ys : List Look) → (if b then x ∷ (xs ++ ys) else xs ++ ys) ≡ (if b then x ∷ xs else xs) ++ ys
looks_first true x xs ys = refl
looks_first false x xs ys = refl

-- what a look adds, to the looks of its comer and of no other
pub looks_more : (who : ℕ) (ms : List Moment) (a p : ℕ) (s : Grid)
    → looks_of who (ms ++ LooksAt a p ∷ []) s ≡ looks_of who ms s ++ (if a == who then look p ((run (events_in ms) s).door p) ∷ [] else [])
looks_more who [] a p s = refl
looks_more who (Happens x ∷ ms) a p s = looks_more who ms a p (happens s x)
looks_more who (LooksAt b q ∷ ms) a p s =
    ap (λ l. if b == who then look q (s.door q) ∷ l else l) (looks_more who ms a p s) ∙ looks_first (b == who) _ _ _

-- and who looks has stopped
pub stopped_more : (ms : List Moment) (e : Event) (s : Grid) → OnlyStoppedLook ms s → OnlyStoppedLook (ms ++ Happens e ∷ []) s
stopped_more [] e s h = tt
stopped_more (Happens x ∷ ms) e s h = stopped_more ms e (happens s x) h
stopped_more (LooksAt a p ∷ ms) e s h = (h.0, stopped_more ms e s h.1)

pub stopped_looks : (ms : List Moment) (a p : ℕ) (s : Grid) → OnlyStoppedLook ms s → (c : Comer) → Has (run (events_in ms) s) a c → c.next ≡ Stopped
    → OnlyStoppedLook (ms ++ LooksAt a p ∷ []) s
stopped_looks [] a p s h c at e = ((c, at, e), tt)
stopped_looks (Happens x ∷ ms) a p s h c at e = stopped_looks ms a p (happens s x) h c at e
stopped_looks (LooksAt b q ∷ ms) a p s h c at e = (h.0, stopped_looks ms a p s h.1 c at e)

module _ {G : Type 0} where
  -- the looks of a seat, and those of all once one seat has others
  pub looks_at : (vs : List (View G)) (i : ℕ) (v : View G) → get_elem? vs i ≡ some v → looks_in vs i ≡ v.looks
  looks_at [] i v e = absurd (some-ne-none v (sym e))
  looks_at (x ∷ vs) zero v e = ap (λ (u : View G). u.looks) (some-injective x v e)
  looks_at (x ∷ vs) (suc i) v e = looks_at vs i v e

  pub looks_set : (vs : List (View G)) (i : ℕ) (v w : View G) → get_elem? vs i ≡ some v → looks_in (slice_set vs i w) i ≡ w.looks
  looks_set [] i v w e = absurd (some-ne-none v (sym e))
  looks_set (x ∷ vs) zero v w e = refl
  looks_set (x ∷ vs) (suc i) v w e = looks_set vs i v w e

  pub looks_else : (vs : List (View G)) (i j : ℕ) (w : View G) → j ≢ i → looks_in (slice_set vs i w) j ≡ looks_in vs j
  looks_else [] i j w ne = refl
  looks_else (x ∷ vs) zero zero w ne = absurd (ne refl)
  looks_else (x ∷ vs) zero (suc j) w ne = refl
  looks_else (x ∷ vs) (suc i) zero w ne = refl
  looks_else (x ∷ vs) (suc i) (suc j) w ne = looks_else vs i j w (λ e. ne (ap suc e))

  pub looks_kept : (vs : List (View G)) (i : ℕ) (v w : View G) → get_elem? vs i ≡ some v → w.looks ≡ v.looks → (j : ℕ) → looks_in (slice_set vs i w) j ≡ looks_in vs j
  looks_kept vs i v w there e j = elim (cases_eq j i) [
    | inl q ↦ subst (λ k. looks_in (slice_set vs i w) k ≡ looks_in vs k) (sym q) (looks_set vs i v w there ∙ (e ∙ sym (looks_at vs i v there)))
    | inr ne ↦ looks_else vs i j w ne
  ]

put_same : (words : ℕ → ℕ) (p word : ℕ) → put words p word p ≡ word
put_same words p word = cond-true (p == p) word (words p) (eq-eqb p p refl)

put_other : (words : ℕ → ℕ) (p word q : ℕ) → q ≢ p → put words p word q ≡ words q
put_other words p word q ne = cond-false (q == p) word (words q) (ne_eqb q p ne)

module _ (places : ℕ) (words : List ℕ) (last door : ℕ → ℕ) (k : AreWords places words last door) where
  pub unwritten : (i : ℕ) → AreWords places (slice_set words i (slice_index words i)) last door
  unwritten i = subst (λ l. AreWords places l last door) (sym (set_self words i)) k

  last_written : (p w : ℕ) → p < places → AreWords places (slice_set words (last_at places p) w) (put last p w) door
  last_written p w h = record {
    room = length-set words (last_at places p) w ∙ k.room;
    lasts = λ q lt. elim (cases_eq q p) [
      | inl e ↦ subst (λ j. slice_index (slice_set words (last_at places p) w) (last_at places j) ≡ put last p w j) (sym e)
          (get_or-set_same words (last_at places p) w 0 (omega (arith, k.room)) ∙ sym (put_same last p w))
      | inr ne ↦ let d : last_at places q ≢ last_at places p = omega arith in
          get_or-set_other words (last_at places p) (last_at places q) w 0 d ∙ (k.lasts q lt ∙ sym (put_other last p w q ne))
    ];
    doors = λ q lt. let d : door_at q ≢ last_at places p = omega arith in get_or-set_other words (last_at places p) (door_at q) w 0 d ∙ k.doors q lt;
  }

  door_written : (p w : ℕ) → p < places → AreWords places (slice_set words (door_at p) w) last (put door p w)
  door_written p w h = record {
    room = length-set words (door_at p) w ∙ k.room;
    lasts = λ q lt. let d : last_at places q ≢ door_at p = omega arith in get_or-set_other words (door_at p) (last_at places q) w 0 d ∙ k.lasts q lt;
    doors = λ q lt. elim (cases_eq q p) [
      | inl e ↦ subst (λ j. slice_index (slice_set words (door_at p) w) (door_at j) ≡ put door p w j) (sym e)
          (get_or-set_same words (door_at p) w 0 (omega (arith, k.room)) ∙ sym (put_same door p w))
      | inr ne ↦ let d : door_at q ≢ door_at p = omega arith in
          get_or-set_other words (door_at p) (door_at q) w 0 d ∙ (k.doors q lt ∙ sym (put_other door p w q ne))
    ];
  }

-- the word of a step at this place, and what the step leaves there, by the comer's id and the word
-- found; a load is told the same word, and so is a store
abbrev pub word_of : Next → ℕ → ℕ → ℕ
word_of WriteLast places p = last_at places p
word_of ReadDoor places p = door_at p
word_of CloseDoor places p = door_at p
word_of ReadLast places p = last_at places p
word_of Stopped places p = 0

abbrev pub leaves : Next → ℕ → ℕ → ℕ
leaves WriteLast id found = id
leaves ReadDoor id found = found
leaves CloseDoor id found = 1
leaves ReadLast id found = found
leaves Stopped id found = found

module _ (places : ℕ) (words : List ℕ) (g : Grid) (who : ℕ) (c : Comer) (k : AreWords places words g.last g.door) (h : at c.turns < places) where
  abbrev found : Next → ℕ
  found m = leaves m c.id (slice_index words (word_of m places (at c.turns)))

  pub goes_words : (m : Next) → AreWords places (slice_set words (word_of m places (at c.turns))
      (found m)) (goes m g who c).last (goes m g who c).door
  goes_words WriteLast = last_written places words g.last g.door k (at c.turns) c.id h
  goes_words ReadDoor = unwritten places words g.last g.door k (door_at (at c.turns))
  goes_words CloseDoor = door_written places words g.last g.door k (at c.turns) 1 h
  goes_words ReadLast = unwritten places words g.last g.door k (last_at places (at c.turns))
  goes_words Stopped = unwritten places words g.last g.door k 0

  pub goes_comers : (m : Next) → is_stopped m ≡ false → (goes m g who c).comers ≡ slice_set g.comers who (stepped m c (found m))
  goes_comers WriteLast e = refl
  goes_comers ReadDoor e = ap (λ w. slice_set g.comers who (stepped ReadDoor c w)) (sym (k.doors (at c.turns) h))
  goes_comers CloseDoor e = refl
  goes_comers ReadLast e = ap (λ w. slice_set g.comers who (stepped ReadLast c w)) (sym (k.lasts (at c.turns) h))
  goes_comers Stopped e = absurd (true≢false e)

module _ {G : Type 0} (tag : G) (n : ℕ) where
  -- a seat that is dealt stands behind the dealer's, and is that of the comer there
  pub record Seat (dealt : List Comer) (id : ℕ) (v : View G) : Type 0 where
    pub who : ℕ
    pub seat : id ≡ suc who
    pub comer : slice_get dealt who ≡ Some (comer_in v)
    pub view : bare v ≡ seated tag n (comer_in v)

  dealt_at : (l : List Comer) (i : ℕ) (v : View G) → get_elem? (map (seated tag n) l) i ≡ some v → (slice_get l i ≡ Some (comer_in v))
      × (v ≡ seated tag n (comer_in v))
  dealt_at [] i v e = absurd (some-ne-none v (sym e))
  dealt_at (x ∷ xs) zero v e =
      let h = some-injective (seated tag n x) v e in let same : x ≡ comer_in v = ap (λ (u : View G). comer_in u) h in
      (ap Some same, sym h ∙ ap (seated tag n) same)
  dealt_at (x ∷ xs) (suc i) v e = dealt_at xs i v e

  seat_at : (waiting : List ℕ) (l : List Comer) (id : ℕ) (v : View G)
      → get_elem? (dealer tag n waiting ∷ map (seated tag n) l) id ≡ some (bare v) → is_dealt v.role ≡ true → Seat l id v
  seat_at waiting l zero v e d =
      absurd (true≢false (sym d ∙ ap (λ (u : View G). is_dealt u.role) (sym (some-injective (dealer tag n waiting) (bare v) e))))
  seat_at waiting l (suc i) v e d = let k = dealt_at l i (bare v) e in record { who = i; seat = refl; comer = k.0; view = k.1 }

  pub seat_of : (waiting : List ℕ) (l : List Comer) (views : List (View G)) (id : ℕ) (v : View G)
      → map bare views ≡ dealer tag n waiting ∷ map (seated tag n) l → get_elem? views id ≡ some v → is_dealt v.role ≡ true → Seat l id v
  seat_of waiting l views id v are there d =
      seat_at waiting l id v (ap (λ (l : List (View G)). get_elem? l id) (sym are) ∙ at_map bare views id v there) d

  -- what the seat is besides its looks, once its comer is another
  pub bare_becomes : (l : List Comer) (id : ℕ) (v : View G) → Seat l id v → (c : Comer) → bare (becomes v c) ≡ seated tag n c
  bare_becomes l id v f c = ap (λ (u : View G). becomes u c) f.view

module _ {T G : Type 0} (fits : G → ℕ → T → Type 0) (tag : G) (ids : List ℕ) where
  abbrev pub St : Type 0
  St = State (Option T) (View G)

  abbrev pub size : ℕ
  size = place 0 (length ids)

  module _ (s : St) (g : Grid) (k : Shows fits tag ids s g) (id : ℕ) (v : View G) (f : Seat tag (length ids) k.dealt id v) where
    pub has : slice_get g.comers f.who ≡ Some (comer_in v)
    has = ap (λ l. slice_get l f.who) k.comers ∙ get_front k.dealt (map comer_of k.waiting) f.who (comer_in v) f.comer

    -- the comer of that seat becomes c, and no other changes
    pub moved : (g' : Grid) (c : Comer) (view : View G) (words : List ℕ) (homes : List (home.Option (Option T)))
        → bare view ≡ seated tag (length ids) c → g'.comers ≡ slice_set g.comers f.who c
        → AreWords size words g'.last g'.door
        → AreValues fits tag size (slice_set g.comers f.who c) homes
        → Shows fits tag ids record { words = words; homes = homes; views = slice_set s.views id view } g'
    moved g' c view words homes is e w x = record {
      words = w;
      waiting = k.waiting;
      dealt = slice_set k.dealt f.who c;
      comers = e ∙ (ap (λ l. slice_set l f.who c) k.comers ∙ set_front k.dealt (map comer_of k.waiting) f.who c (comer_in v) f.comer);
      views =
          map-set bare s.views id view
          ∙ (ap (slice_set (map bare s.views) id) is
          ∙ (ap (λ (l : List (View G)). slice_set l id (seated tag (length ids) c)) k.views
          ∙ (ap (λ j. slice_set (dealer tag (length ids) k.waiting ∷ map (seated tag (length ids)) k.dealt) j (seated tag (length ids) c)) f.seat
          ∙ ap (λ l. dealer tag (length ids) k.waiting ∷ l) (sym (map-set (seated tag (length ids)) k.dealt f.who c)))));
      values = subst (λ l. AreValues fits tag size l homes) (sym e) x;
    }

  -- one more event
  pub longer : (s s' : St) (k : Keeps fits tag ids s) (e : Event) (g' : Grid) → happens (run (events_in k.moments) (opening ids)) e ≡ g'
      → ((i : ℕ) → looks_in s'.views i ≡ looks_in s.views i) → Shows fits tag ids s' g' → Keeps fits tag ids s'
  longer s s' k e g' is same shows = record {
    differ = k.differ;
    moments = k.moments ++ Happens e ∷ [];
    shows = subst (λ es. Shows fits tag ids s' (run es (opening ids))) (sym (events_more k.moments e))
        (subst (Shows fits tag ids s') (sym (after_event (events_in k.moments) e (opening ids) ∙ is)) shows);
    looked = λ who. looks_same who k.moments e (opening ids) ∙ (k.looked who ∙ sym (same (suc who)));
    stopped = stopped_more k.moments e (opening ids) k.stopped;
  }

  module _ (s : St) (k : Keeps fits tag ids s) (id : ℕ) (v : View G) (there : get_elem? s.views id ≡ some v) (f : Seat tag (length ids) k.shows.dealt id v) where
    -- the looks of the comer of a seat are those that the seat knows
    pub looks_mine : looks_of f.who k.moments (opening ids) ≡ v.looks
    looks_mine = k.looked f.who ∙ (ap (looks_in s.views) (sym f.seat) ∙ looks_at s.views id v there)

    -- and it stands, with these looks, at the end of the run with one more event
    pub ran_longer : (e : Event) (g' : Grid) (c : Comer) → happens (run (events_in k.moments) (opening ids)) e ≡ g' → Has g' f.who c → HasLooked (length ids) c v.looks
    ran_longer e g' c is now = record {
      ids = ids;
      differ = k.differ;
      counted = refl;
      moments = k.moments ++ Happens e ∷ [];
      who = f.who;
      stands = subst (λ es. Has (run es (opening ids)) f.who c) (sym (events_more k.moments e))
          (subst (λ g. Has g f.who c) (sym (after_event (events_in k.moments) e (opening ids) ∙ is)) now);
      looked = looks_same f.who k.moments e (opening ids) ∙ looks_mine;
      stopped = stopped_more k.moments e (opening ids) k.stopped;
    }
