-- What the calls of a trail scan make of it.
use Rattle.std.proofs.Common.{◌≡◌, ℕ, ◌+◌, ◌-◌, ◌*◌, ◌<◌, ◌≤◌, ◌==◌, Bool, true, false, List, [], ◌∷◌, ◌++◌, Some, None, Contains, length, refl, ap}
use Rattle.std.proofs.Common.{sym, ◌∙◌, subst, arith, append-nil, append_assoc, inl, inr}
use Rattle.std.proofs.lemmas.Bool.{cond-true, cond-false}
use Rattle.split_core.specs.Places.{Numbered}
use Rattle.split_core.specs.Places.{place, diagonal}
use Rattle.split_core.specs.Trail.{Spot, spot, Trail, trail_start, follows}
use Rattle.split_core.specs.Scan.{with_found}
use Rattle.split_core.specs.TrailReads.{reads_word, reads_words, trail_by, OnWay, HeedsNext, Heeds, WaysFound, TrailMoment}
use Rattle.split_core.specs.Tracker.{Stores, IsNextRow}
use Rattle.split_core.specs.declared.model.Turn.{Turn}
use Rattle.split_core.specs.declared.tracker.Tracker.{Tracker}
use Rattle.split_grid.specs.Opening.{places_of}
use Rattle.split_grid.specs.Tokens.{Resting}
use Rattle.split_grid.proofs.Deals.{places_are}
use Rattle.split_grid.specs.DoorLooks.{look, look_next, looks_by, HasLooked}
use Rattle.split_grid.specs.Trails.{Following, IsTrail, LooksOnce, ReadsTrail, TrailEnds, FollowsOn}
use Rattle.split_grid.specs.declared.rule.Look.{Look}

-- one word more
heeds_last : (n : ℕ) (turns : List Turn) (z : Trail) (words : List ℕ) (word : ℕ) → Heeds n turns z words
    → HeedsNext turns (reads_words n z words).ahead word → Heeds n turns z (words ++ word ∷ [])
heeds_last n turns z [] word h x = (x, tt)
heeds_last n turns z (w ∷ words) word h x = (h.0, heeds_last n turns (reads_word n z w) words word h.1 x)

reads_last : (n : ℕ) (z : Trail) (words : List ℕ) (word : ℕ) → reads_words n z (words ++ word ∷ []) ≡ reads_word n (reads_words n z words) word
reads_last n z [] word = refl
reads_last n z (w ∷ words) word = reads_last n (reads_word n z w) words word

looks_last : (n : ℕ) (z : Trail) (words : List ℕ) (word : ℕ)
    → looks_by n z (words ++ word ∷ []) ≡ looks_by n z words ++ look_next (reads_words n z words).ahead word
looks_last n z [] word = append-nil (look_next z.ahead word)
looks_last n z (w ∷ words) word =
    ap (λ l. look_next z.ahead w ++ l) (looks_last n (reads_word n z w) words word)
    ∙ sym (append_assoc (look_next z.ahead w) (looks_by n (reads_word n z w) words) (look_next (reads_words n (reads_word n z w) words).ahead word))

-- the looks before those, too
looks_on : (n : ℕ) (z z' : Trail) (words : List ℕ) (word place_read : ℕ) (p : Spot) (rest : List Spot) (before : List Look)
    → z' ≡ reads_words n z words → z'.ahead ≡ p ∷ rest → place_read ≡ place p.row p.column
    → (before ++ looks_by n z words) ++ look place_read word ∷ [] ≡ before ++ looks_by n z (words ++ word ∷ [])
looks_on n z z' words word place_read p rest before is ahead here =
    let next : look_next (reads_words n z words).ahead word ≡ look place_read word ∷ [] =
    ap (λ (y : Trail). look_next y.ahead word) (sym is) ∙ (ap (λ ps. look_next ps word) ahead ∙ ap (λ q. look q word ∷ []) (sym here)) in
    append_assoc before (looks_by n z words) (look place_read word ∷ [])
    ∙ ap (λ l. before ++ l) (sym (looks_last n z words word ∙ ap (λ l. looks_by n z words ++ l) next))

-- the door of a place on a diagonal of the grid is one of its words
pub door_within : (n d row comers slots place_read : ℕ) → ((r c : ℕ) → Numbered r c) → n ≡ comers → d < n → row ≤ d
    → place_read ≡ place row (d - row) → slots ≡ place 0 comers → place_read < slots
door_within n d row comers slots place_read numbered e inside within here sized =
    omega (arith, e, inside, within, here, sized, (numbered row (d - row)).within comers (omega (arith, e, inside, within)))

-- and its number that of a place of the grid
pub place_within : (n d row comers place_read : ℕ) → ((r c : ℕ) → Numbered r c) → n ≡ comers → d < n → row ≤ d
    → place_read ≡ place row (d - row) → place_read < places_of comers
place_within n d row comers place_read numbered e inside within here =
    subst (λ m. place_read < m) (places_are numbered comers)
    (door_within n d row comers (place 0 comers) place_read numbered e inside within here refl)

module _ {G : Type 0} (earlier : List Look) (s : Resting G) where
  -- the comer after one look
  abbrev looked : ℕ → ℕ → Resting G
  looked p word = record s { looks = s.looks ++ look p word ∷ [] }

  -- one door
  reads_here : (f : Following) (t t' : Tracker) (z : Trail) (row place_read word : ℕ) (closed : Bool) → t ≡ f.tracker
      → closed ≡ (word == 1) → IsTrail earlier s f z
      → ((words : List ℕ) → Stores s.comers t (trail_by s.comers words) → IsNextRow t.diagonal row (trail_by s.comers words).ahead)
      → place_read ≡ place row (t.diagonal - row)
      → (OnWay s.comer.turns place_read → word ≡ 1)
      → HasLooked s.comers s.comer (s.looks ++ look place_read word ∷ [])
      → ((words : List ℕ) (word : ℕ) → closed ≡ (word == 1) → Stores s.comers t (trail_by s.comers words)
      → Stores s.comers t' (trail_by s.comers (words ++ word ∷ [])))
      → ReadsTrail earlier s z (place_read, closed) (looked place_read word) record { comers = s.comers; tracker = t' }
  reads_here f t t' z row place_read word closed same told h next here way ran after =
      let st : Stores s.comers t (trail_by s.comers h.words) = subst (λ x. Stores s.comers x (trail_by s.comers h.words)) (sym same)
      (subst (Stores s.comers f.tracker) h.is h.stores) in
      let first = next h.words st in
      let column : t.diagonal - row ≡ first.column = omega (arith, first.on) in
      let spot_is : place_read ≡ place row first.column = here ∙ ap (place row) column in
      let longer : trail_by s.comers (h.words ++ word ∷ []) ≡ reads_word s.comers z word =
      reads_last s.comers trail_start h.words word ∙ ap (λ (y : Trail). reads_word s.comers y word) (sym h.is) in
      let ahead : z.ahead ≡ spot row first.column ∷ first.rest = ap (λ (y : Trail). y.ahead) h.is ∙ first.next in record {
        next = spot row first.column;
        rest = first.rest;
        ahead = ahead;
        at_place = spot_is;
        word = word;
        closed = told;
        looks = refl;
        is = record {
          words = h.words ++ word ∷ [];
          is = sym longer;
          stores = subst (Stores s.comers t') longer (after h.words word told st);
          heeds = heeds_last s.comers s.comer.turns trail_start h.words word h.heeds
              (subst (λ (ps : List Spot). HeedsNext s.comer.turns ps word) (sym first.next)
              (λ on. way (subst (OnWay s.comer.turns) (sym spot_is) on)));
          looks =
              ap (λ l. l ++ look place_read word ∷ []) h.looks
              ∙ looks_on s.comers trail_start z h.words word place_read (spot row first.column) first.rest earlier h.is ahead spot_is;
          run = inr ran;
        };
      }

  abbrev NextIs : Tracker → ℕ → ℕ → Type 0
  NextIs t row n = (words : List ℕ) → Stores n t (trail_by n words) → IsNextRow t.diagonal row (trail_by n words).ahead

  abbrev GoesTo : Tracker → Tracker → Bool → ℕ → Type 0
  GoesTo t t' closed n =
      (words : List ℕ) (word : ℕ) → closed ≡ (word == 1) → Stores n t (trail_by n words) → Stores n t' (trail_by n (words ++ word ∷ []))

  pub reads : (n : ℕ) (f : Following) (t t' : Tracker) (z : Trail) (row place_read word : ℕ) (closed : Bool) (s' : Resting G) → n ≡ s.comers → t ≡ f.tracker
      → closed ≡ (word == 1) → IsTrail earlier s f z
      → ((words : List ℕ) → Stores n t (trail_by n words) → IsNextRow t.diagonal row (trail_by n words).ahead)
      → place_read ≡ place row (t.diagonal - row)
      → (OnWay s.comer.turns place_read → word ≡ 1)
      → HasLooked s.comers s.comer (s.looks ++ look place_read word ∷ [])
      → LooksOnce s (look place_read word) s'
      → ((words : List ℕ) (word : ℕ) → closed ≡ (word == 1) → Stores n t (trail_by n words) → Stores n t' (trail_by n (words ++ word ∷ [])))
      → ReadsTrail earlier s z (place_read, closed) s' record { comers = n; tracker = t' }
  reads n f t t' z row place_read word closed s' many same told h next here way ran looks after =
      subst (λ x. ReadsTrail earlier s z (place_read, closed) x record { comers = n; tracker = t' }) (sym looks)
      (subst (λ m. ReadsTrail earlier s z (place_read, closed) (looked place_read word) record { comers = m; tracker = t' }) (sym many)
      (reads_here f t t' z row place_read word closed same told h (subst (NextIs t row) many next) here way ran (subst (GoesTo t t' closed) many after)))

  -- what was found, after one door
  found_by : (z : Trail) (word : ℕ) (p : Spot) (rest ps : List Spot) → ps ≡ p ∷ rest
      → (follows s.comers (λ _. word) ps z).found ≡ with_found word (place p.row p.column) z.found
  found_by z word p rest ps e = ap (λ (qs : List Spot). (follows s.comers (λ _. word) qs z).found) e

  found_closed : (z : Trail) (told : ℕ × Bool) (s' : Resting G) (f : Following) (r : ReadsTrail earlier s z told s' f) → told.1 ≡ true
      → (reads_word s.comers z r.word).found ≡ z.found ++ told.0 ∷ []
  found_closed z told s' f r e =
      found_by z r.word r.next r.rest z.ahead r.ahead
      ∙ (cond-true (r.word == 1) _ _ (sym r.closed ∙ e) ∙ ap (λ q. z.found ++ q ∷ []) (sym r.at_place))

  found_open : (z : Trail) (told : ℕ × Bool) (s' : Resting G) (f : Following) (r : ReadsTrail earlier s z told s' f) → told.1 ≡ false
      → (reads_word s.comers z r.word).found ≡ z.found
  found_open z told s' f r e = found_by z r.word r.next r.rest z.ahead r.ahead ∙ cond-false (r.word == 1) _ _ (sym r.closed ∙ e)

  -- the end
  ends : (f : Following) (z : Trail) → WaysFound s.comers → ((words : List ℕ) → TrailMoment s.comers (trail_by s.comers words))
      → diagonal s.comer.turns < s.comers → IsTrail earlier s f z → f.tracker.unread ≡ 0
      → TrailEnds s z
  ends f z ways moments inside h none =
      let over : z.ahead ≡ [] = h.stores.over none in
      let over_by : (trail_by s.comers h.words).ahead ≡ [] = ap (λ (y : Trail). y.ahead) (sym h.is) ∙ over in
      let few : z.doors + length z.ahead ≤ 1 + 2 * length z.found =
      subst (λ (y : Trail). y.doors + length y.ahead ≤ 1 + 2 * length y.found) (sym h.is) (moments h.words).few in record {
        over = over;
        way = λ p on. subst (λ (y : Trail). Contains y.found p) (sym h.is) (ways s.comer.turns h.words p inside h.heeds over_by on);
        few = omega (arith, few);
        run = elim h.run [
          | inl none ↦ let q : trail_start.ahead ≡ [] = ap (λ ws. (trail_by s.comers ws).ahead) (sym none) ∙ over_by in cc
          | inr ran ↦ ran
        ];
      }

-- From the trail scan z the comer s has come to s' by the reads of open doors alone, and by these looks.
pub record FoundNone {G : Type 0} (earlier : List Look) (s s' : Resting G) (f : Following) (z : Trail) : Type 0 where
  pub trail : Trail
  pub is : IsTrail earlier s' f trail
  pub words : List ℕ
  pub reads : trail ≡ reads_words s.comers z words
  pub looks : s'.looks ≡ s.looks ++ looks_by s.comers z words
  pub found : trail.found ≡ z.found

module _ {G : Type 0} (s : Resting G) (f : Following) where
  pub begins : Stores s.comers f.tracker trail_start → IsTrail s.looks s f trail_start
  begins h = record { words = []; is = refl; stores = h; heeds = tt; looks = sym (append-nil s.looks); run = inl refl }

  pub none_yet : (earlier : List Look) (z : Trail) → IsTrail earlier s f z → FoundNone earlier s s f z
  none_yet earlier z h = record { trail = z; is = h; words = []; reads = refl; looks = sym (append-nil s.looks); found = refl }

module _ {G : Type 0} (earlier : List Look) (s : Resting G) where
  module _ (s' : Resting G) (e : s' ≡ record s { looks = s'.looks }) (f g : Following) (before : (z : Trail) → IsTrail earlier s f z → FoundNone earlier s s' g z) where
    many : s'.comers ≡ s.comers
    many = ap (λ (x : Resting G). x.comers) e

    module _ (s'' : Resting G) (h : Following) (told : ℕ × Bool) (read : (z : Trail) → IsTrail earlier s' g z → ReadsTrail earlier s' z told s'' h) (z : Trail)
        (k : IsTrail earlier s f z) where
      abbrev b : FoundNone earlier s s' g z
      b = before z k

      abbrev r : ReadsTrail earlier s' b.trail told s'' h
      r = read b.trail b.is

      reads_more : reads_word s'.comers b.trail r.word ≡ reads_words s.comers z (b.words ++ r.word ∷ [])
      reads_more =
          ap (λ n. reads_word n b.trail r.word) many
          ∙ (ap (λ (y : Trail). reads_word s.comers y r.word) b.reads ∙ sym (reads_last s.comers z b.words r.word))

      looks_most : s''.looks ≡ s.looks ++ looks_by s.comers z (b.words ++ r.word ∷ [])
      looks_most =
          ap (λ (x : Resting G). x.looks) r.looks
          ∙ (ap (λ l. l ++ look told.0 r.word ∷ []) b.looks
          ∙ looks_on s.comers z b.trail b.words r.word told.0 r.next r.rest s.looks b.reads r.ahead r.at_place)

      pub still_none : told.1 ≡ false → FoundNone earlier s s'' h z
      still_none open_door = record {
        trail = reads_word s'.comers b.trail r.word;
        is = r.is;
        words = b.words ++ r.word ∷ [];
        reads = reads_more;
        looks = looks_most;
        found = found_open earlier s' b.trail told s'' h r open_door ∙ b.found;
      }

      pub finds : told.1 ≡ true → FollowsOn earlier s z (Some told.0) s'' h
      finds shut = record {
        trail = reads_word s'.comers b.trail r.word;
        is = r.is;
        words = b.words ++ r.word ∷ [];
        reads = reads_more;
        looks = looks_most;
        found = found_closed earlier s' b.trail told s'' h r shut ∙ ap (λ l. l ++ told.0 ∷ []) b.found;
        ended = λ e. cc;
      }

    pub ends_there : ((n : ℕ) → WaysFound n) → ((n : ℕ) (words : List ℕ) → 0 < n → TrailMoment n (trail_by n words))
        → diagonal s.comer.turns < s.comers → g.tracker.unread ≡ 0 → (z : Trail) → IsTrail earlier s f z → FollowsOn earlier s z None s' g
    ends_there ways moments inside none z k =
        let b = before z k in
        let there : diagonal s'.comer.turns < s'.comers = subst (λ (x : Resting G). diagonal x.comer.turns < x.comers) (sym e) inside in
        record {
          trail = b.trail;
          is = b.is;
          words = b.words;
          reads = b.reads;
          looks = b.looks;
          found = b.found;
          ended = λ _. ends earlier s' g b.trail (ways s'.comers) (λ words. moments s'.comers words (omega (arith, there))) there b.is none;
        }
