-- The read of a door keeps the rule, and is one event of the grid.
use Rattle.std.proofs.Common.{◌≡◌, ◌≢◌, ℕ, ◌+◌, ◌<◌, List, [], ◌∷◌, ◌++◌, length, slice_get, slice_set, slice_index, Option, refl, ap, sym, ◌∙◌}
use Rattle.std.proofs.Common.{subst, arith, true, false, ◌==◌, ◌||◌}
use Rattle.std.proofs.lemmas.Bool.{cond-true, cond-false, eq-eqb, ne_eqb}
use lib.ListN.{get_elem?}
use mathlib.Core.Option.{some}
use Rattle.split_grid.specs.DoorLooks.{events_in, HasLooked}
use Rattle.atomic_table.specs.Table.{State, Me, Act, keeps, Valid, carried_after, stepped, Allows}
use Rattle.split_core.specs.Places.{place, Numbered}
use Rattle.split_core.specs.Scan.{fresh, scanned, is_idle}
use Rattle.split_core.specs.Comer.{scans}
use Rattle.split_core.specs.Grid.{Grid, Event, Begins, Scans, Has, acts, begins, reads, happens, run, opening, Different}
use Rattle.split_core.specs.Inside.{Inside}
use Rattle.split_core.specs.Collect.{EndedScan, EndedScans}
use Rattle.split_core.specs.Stored.{cursor_of, cursor_after, CursorsFollow}
use Rattle.split_core.specs.declared.places.TheConstants.{MAX_COMERS, MAX_PLACES}
use Rattle.split_core.specs.declared.model.Comer.{Comer}
use Rattle.split_core.specs.declared.model.Scan.{Scan}
use Rattle.split_core.specs.declared.model.Next.{Next}
use Rattle.split_core.specs.declared.model.Next.TheVariants.{WriteLast, ReadDoor, CloseDoor, ReadLast, Stopped}
use Rattle.split_core.specs.declared.cursor.Cursor.{Cursor}
use Rattle.split_core.specs.declared.walker.Walker.{Walker}
use Rattle.split_grid.specs.Words.{door_at}
use Rattle.split_grid.specs.Rule.{becomes, comer_in, Keeps}
use Rattle.split_grid.specs.Steps.{ReadsDoor, Begun, GoneOn}
use Rattle.split_grid.specs.Tokens.{Rests, scan_at}
use Rattle.split_grid.specs.declared.rule.View.{View}
use Rattle.split_grid.proofs.Lists.{get_set_same}
use Rattle.split_grid.proofs.Boards.{after_event, unwritten, Seat, seat_of, has, moved, longer, size, bare_becomes, looks_kept, ran_longer}
use Rattle.split_grid.proofs.Values.{unmoved}

-- what holds of the scans of the grid at the end of every run
pub record ScanLaws : Type 0 where
  pub inside : (ids : List ℕ) (events : List Event) → Different ids → Inside (length ids) (run events (opening ids))
  pub ended : (ids : List ℕ) (events : List Event) → Different ids → EndedScans (run events (opening ids))
  pub follow : (ids : List ℕ) (events : List Event) → CursorsFollow (length ids) (run events (opening ids))

module _ {T G : Type 0} (fits : G → ℕ → T → Type 0) (tag : G) (ids : List ℕ) (laws : ScanLaws) where
  abbrev n : ℕ
  n = length ids

  abbrev St : Type 0
  St = State (Option T) (View G)

  module _ (s : St) (k : Keeps fits tag ids s) (id : ℕ) (v : View G) (stood : get_elem? s.views id ≡ some v) (f : Seat tag n k.shows.dealt id v) (z : Scan) (e : Event) where
    abbrev es : List Event
    es = events_in k.moments

    abbrev g : Grid
    g = run es (opening ids)

    abbrev c : Comer
    c = comer_in v

    abbrev g' : Grid
    g' = reads z g f.who c

    abbrev door : ℕ
    door = place z.row z.column

    abbrev word : ℕ
    word = slice_index s.words (door_at door)

    abbrev c' : Comer
    c' = scans n z c word

    there : Has g f.who c
    there = has fits tag ids s g k.shows id v f

    module _ (is : happens g e ≡ g') (stopped : c.next ≡ Stopped) (within : door < size fits tag ids)
        (stored : cursor_after n (cursor_of z) (word == 1) ≡ cursor_of (scanned n z word)) (held : List (ℕ × Option T)) where
      comers_are : g'.comers ≡ slice_set g.comers f.who c'
      comers_are =
          ap (λ q. slice_set g.comers f.who (scans q z c (g.door door))) (laws.inside ids es k.differ).comers
          ∙ ap (λ w. slice_set g.comers f.who (scans n z c w)) (sym (k.shows.words.doors door within))

      ends : run (es ++ e ∷ []) (opening ids) ≡ g'
      ends = after_event es e (opening ids) ∙ is

      in_place : Inside n g'
      in_place = subst (Inside n) ends (laws.inside ids (es ++ e ∷ []) k.differ)

      over : EndedScans g'
      over = subst EndedScans ends (laws.ended ids (es ++ e ∷ []) k.differ)

      now : Has g' f.who c'
      now = ap (λ l. slice_get l f.who) comers_are ∙ get_set_same g.comers f.who c' c there

      many : v.comers ≡ n
      many = ap (λ (u : View G). u.comers) f.view

      told : ReadsDoor z (v, held) word (becomes v c', held)
      told = record {
        view = ap (λ q. becomes v (scans q z c word)) (sym many);
        slots = refl;
        run = subst (λ q. HasLooked q c' v.looks) (sym many) (ran_longer fits tag ids s k id v stood f e g' c' is now);
        inside = subst (λ q. (scanned q z word).over ≡ false → place (scanned q z word).row (scanned q z word).column < place 0 q) (sym many)
            (in_place.doors f.who c' now);
        counted = subst (λ q. z.doors + 1 ≡ place (scanned q z word).row (scanned q z word).column) (sym many) (in_place.counted f.who c' now);
        stored = subst (λ q. cursor_after q (cursor_of z) (word == 1) ≡ cursor_of (scanned q z word)) (sym many) stored;
        ended = subst (λ q. (scanned q z word).over ≡ true → EndedScan (scans q z c word)) (sym many) (over f.who c' now);
      }

      abbrev Result : Type 0
      Result =
          (w : View G) × (a : Act (Option T)) × Valid s.homes held a
          × Keeps fits tag ids (stepped s (door_at door) word id held w a) × ReadsDoor z (v, held) word (w, carried_after held a)

      result : Result
      result = (
        becomes v c',
        keeps,
        tt,
        longer fits tag ids s _ k e g' is (looks_kept s.views id v (becomes v c') stood refl)
            (moved fits tag ids s g k.shows id v f g' c' _ _ _ (bare_becomes tag n k.shows.dealt id v f c') comers_are
            (unwritten (size fits tag ids) s.words g.last g.door k.shows.words (door_at door))
            (unmoved fits tag (size fits tag ids) g.comers s.homes k.shows.values f.who c c' there (λ q. (q, refl)) (λ q. (q, refl)))),
        told,
      )

  begins_is : (m : Next) (g : Grid) (who : ℕ) (c : Comer) → m ≡ Stopped → begins m g who c ≡ reads fresh g who c
  begins_is WriteLast g who c e = cc
  begins_is ReadDoor g who c e = cc
  begins_is CloseDoor g who c e = cc
  begins_is ReadLast g who c e = cc
  begins_is Stopped g who c e = refl

  module _ (slots id : ℕ) (m : Me (Option T) (View G)) (w : Walker) (h : Rests slots m w) (counted : m.0.comers ≡ n)
      (more : w.cursor.over ≡ false) where
    abbrev me : Comer
    me = comer_in m.0

    next_is : me.next ≡ Stopped
    next_is = ap (λ (x : Walker). x.next) (sym h.stored) ∙ h.stopped

    cursor_is : w.cursor ≡ cursor_of (scan_at w.cursor.doors me)
    cursor_is = ap (λ (x : Walker). x.cursor) h.stored

    abbrev spot : Cursor → ℕ
    spot x = door_at (place x.row x.column)

    below : spot w.cursor < size fits tag ids
    below = let a = h.next more in omega (arith, a, ap (place 0) counted)

    -- it reads the first door of a new scan
    pub reads_first : w.cursor.doors ≡ 0 → Allows (Keeps fits tag ids) slots id m (spot w.cursor) (λ r. r) (Begun m)
    reads_first none =
        let is : w.cursor ≡ cursor_of fresh = cursor_is
        ∙ ap cursor_of (cond-true (w.cursor.doors == 0) fresh me.scan (eq-eqb w.cursor.doors 0 none)) in
        subst (λ x. Allows (Keeps fits tag ids) slots id m (spot x) (λ r. r) (Begun m)) (sym is)
        (λ s k long there small.
        let f = seat_of tag n k.shows.waiting k.shows.dealt s.views id m.0 k.shows.views there h.dealt in
        let g : Grid = run (events_in k.moments) (opening ids) in
        result s k id m.0 there f fresh (Begins f.who)
        (ap (acts (Begins f.who) g) (has fits tag ids s g k.shows id m.0 f) ∙ begins_is me.next g f.who me next_is)
        next_is (subst (λ x. spot x < size fits tag ids) is below) ((laws.follow ids (events_in k.moments)).first _) m.1)

    -- it reads the next door of the scan under way
    pub reads_next : w.cursor.doors ≢ 0 → Allows (Keeps fits tag ids) slots id m (spot w.cursor) (λ r. r) (GoneOn m)
    reads_next more_than =
        let is : w.cursor ≡ cursor_of me.scan = cursor_is
        ∙ ap cursor_of (cond-false (w.cursor.doors == 0) fresh me.scan (ne_eqb w.cursor.doors 0 more_than)) in
        let open_yet : me.scan.over ≡ false = ap (λ (x : Cursor). x.over) (sym is) ∙ more in
        let begun : me.scan.doors ≢ 0 = λ q. more_than (ap (λ (x : Cursor). x.doors) is ∙ q) in
        let busy : is_idle me.scan ≡ false = ap (λ b. b || me.scan.over) (ne_eqb me.scan.doors 0 begun) ∙ open_yet in
        subst (λ x. Allows (Keeps fits tag ids) slots id m (spot x) (λ r. r) (GoneOn m)) (sym is)
        (λ s k long there small.
        let f = seat_of tag n k.shows.waiting k.shows.dealt s.views id m.0 k.shows.views there h.dealt in
        let g : Grid = run (events_in k.moments) (opening ids) in
        let at_seat = has fits tag ids s g k.shows id m.0 f in
        result s k id m.0 there f me.scan (Scans f.who)
        (ap (acts (Scans f.who) g) at_seat ∙ cond-false (is_idle me.scan) g (reads me.scan g f.who me) busy)
        next_is (subst (λ x. spot x < size fits tag ids) is below) ((laws.follow ids (events_in k.moments)).next f.who me _ at_seat open_yet) m.1)

-- where the next door of a scan stands, and how many were read
pub door_bounds : {S G : Type 0} (slots : ℕ) (m : Me S (View G)) (w : Walker) → ((r c : ℕ) → Numbered r c) → Rests slots m w → w.cursor.over ≡ false
    → (w.cursor.row + w.cursor.column < MAX_COMERS) × (w.cursor.doors < MAX_PLACES) × (place w.cursor.row w.cursor.column < slots)
door_bounds slots m w numbered h more =
    let a = h.next more in
    let b = (numbered w.cursor.row w.cursor.column).inside m.0.comers a in
    let on_grid : w.cursor.row + w.cursor.column < MAX_COMERS = omega (arith, b, h.few) in
    let d = (numbered w.cursor.row w.cursor.column).within MAX_COMERS on_grid in
    let e : place 0 MAX_COMERS ≡ MAX_PLACES = (numbered 0 MAX_COMERS).number in
    (on_grid, omega (arith, d, e, h.counted), omega (arith, a, h.sized))

-- the grid's number of comers is told by its number of slots
pub same_comers : (n m slots : ℕ) → ((r c : ℕ) → Numbered r c) → slots ≡ place 0 n → slots ≡ place 0 m → m ≡ n
same_comers n m slots numbered a b = ((numbered 0 m).alone 0 n (sym b ∙ a)).1

-- what is stored of the scan after the read is the comer's
pub cursor_stored : {S G : Type 0} (slots comers : ℕ) (m m' : Me S (View G)) (w : Walker) (word : ℕ) (x : Cursor) → Rests slots m w
    → comers ≡ m.0.comers
    → ReadsDoor (scan_at w.cursor.doors (comer_in m.0)) m word m' → x ≡ cursor_after comers w.cursor (word == 1) → x ≡ cursor_of (comer_in m'.0).scan
cursor_stored {S} {G} slots comers m m' w word x h counted r e =
    e
    ∙ (ap (λ q. cursor_after q w.cursor (word == 1)) counted
    ∙ (ap (λ y. cursor_after m.0.comers y (word == 1)) (ap (λ (y : Walker). y.cursor) h.stored)
    ∙ (r.stored ∙ ap (λ (v : View G). cursor_of (comer_in v).scan) (sym r.view))))
