-- The machine's scans follow those of the grid.
use Rattle.std.proofs.Common.{◌≡◌, Ok, None, ℕ, ◌+◌, ◌*◌, ◌/◌, ◌<◌, ◌≤◌, inl, inr, List, [], ◌∷◌, ◌++◌, map, length, slice_get, slice_set}
use Rattle.std.proofs.Common.{slice_index_or, Some, Contains, refl, ap, ap₂, sym, ◌∙◌, subst, arith, Bool, true, false, not, ◌&&◌, ◌||◌}
use Rattle.std.proofs.Common.{◌==◌, nat_lt, cond, count_by}
use Rattle.std.proofs.Math.Logic.{∥∥₁_elim, ∥∥₁_map}
use Rattle.std.proofs.Props.{props}
use Rattle.std.proofs.lemmas.Bool.{cases_Bool, cases_eq, or_parts, or_right, cond-true, cond-false, cond_both, eqb-true, eq-eqb, ne_eqb, lt-ltb}
use Rattle.std.proofs.lemmas.List.{length-map}
use Rattle.std.proofs.lemmas.List.Elements.{Contains-push}
use Rattle.std.proofs.lemmas.Option.{slice_get_within, same_Some}
use Rattle.split_core.specs.Grid.{Grid, Event, Begins, Scans, Has, run, opening, reads, begins, acts, actor, happens, started}
use Rattle.split_core.specs.Places.{at, row, column, place}
use Rattle.split_core.specs.Scan.{fresh, with_found, reaches, scanned, is_idle}
use Rattle.split_core.specs.Comer.{scans, comer_of, has_started, has_begun, is_some_turn, is_stopped}
use Rattle.split_core.specs.Calls.{door_seen, seen_by, seen_of, scan_call}
use Rattle.split_core.specs.Stored.{cursor_of, walker_of, Agrees, SomeRun, cursor_after, cursor_now, EndsAs, is_started, started_of, CursorsFollow}
use Rattle.split_core.specs.Ids.{IsFirstWithId}
use Rattle.split_core.specs.declared.places.TheConstants.{MAX_COMERS, MAX_PLACES}
use Rattle.split_core.specs.declared.model.Comer.{Comer}
use Rattle.split_core.specs.declared.model.Scan.{Scan}
use Rattle.split_core.specs.declared.model.Next.{Next}
use Rattle.split_core.specs.declared.model.Next.TheVariants.{WriteLast, ReadDoor, CloseDoor, ReadLast, Stopped}
use Rattle.split_core.specs.declared.model.Turn.{Turn}
use Rattle.split_core.specs.declared.model.Turn.TheVariants.{Right, Down}
use Rattle.split_core.specs.declared.cursor.Cursor.{Cursor}
use Rattle.split_core.specs.declared.walker.Walker.{Walker}
use Rattle.split_core.specs.declared.seen.Seen.{Seen}
use Rattle.split_core.specs.declared.seen.Seen.TheVariants as seen
use Rattle.split_core.proofs.Lists.{get_map, count_cons, bit}
use Rattle.split_core.proofs.Ways.{place_split, first_grows, first_next}
use Rattle.split_core.proofs.ScanFacts.{reaching, reached, found_from, next_row, next_column, at_end, inside, ScanOk, nowhere, ok_fresh}
use Rattle.split_core.proofs.Collects.{all_ok, length_run, law_doors_read}
use Rattle.split_core.proofs.Positions.{found as named, resting, scan_goes}
use Rattle.split_core.proofs.Machines.{stands, made, after_event, pick, place_below}

or_false : (b : Bool) → (b || false) ≡ b
or_false true = refl
or_false false = refl

-- a closed door on the diagonal
hit_now : (d w p : ℕ) (places : List ℕ) → place 0 d ≤ p → reaches d (with_found w p places) ≡ (reaches d places || (w == 1))
hit_now d w p places h =
    elim (cases_Bool (w == 1)) [
      | inl t ↦
          ap (reaches d) (cond-true (w == 1) (places ++ p ∷ []) places t)
          ∙ (reaching d p (places ++ p ∷ []) (Contains-push places p) h ∙ sym (or_right (reaches d places) (w == 1) t))
      | inr f ↦ ap (reaches d) (cond-false (w == 1) (places ++ p ∷ []) places f)
          ∙ (sym (or_false (reaches d places)) ∙ ap (λ (b : Bool). reaches d places || b) (sym f))
    ]

none_behind : (d : ℕ) (places : List ℕ) → ((p : ℕ) → Contains places p → p < place 0 d) → reaches d places ≡ false
none_behind d places h =
    elim (cases_Bool (reaches d places)) [
      | inl t ↦ let k = reached d places t in absurd (omega (arith, h k.0 k.1))
      | inr f ↦ f
    ]

cursor_at : ℕ → ℕ → Bool → ℕ → Bool → Cursor
cursor_at r c h d o = record { row = r; column = c; hit = h; doors = d; over = o }

module _ (n w : ℕ) (z : Scan) (below : (p : ℕ) → Contains z.found p → p < place z.row z.column) where
  abbrev here : ℕ
  here = place z.row z.column

  abbrev now : List ℕ
  now = with_found w here z.found

  hits : reaches (z.row + z.column) now ≡ (reaches (z.row + z.column) z.found || (w == 1))
  hits = hit_now (z.row + z.column) w here z.found (omega (arith, place_split z.row z.column))

  hit_same : reaches (next_row z + next_column z) now ≡ cond (z.column == 0) false (reaches (z.row + z.column) z.found || (w == 1))
  hit_same =
      elim (cases_eq z.column 0) [
        | inl e ↦
            let q = at_end z e in
            let s : next_row z + next_column z ≡ z.row + 1 = omega arith in
            let r : z.row + z.column ≡ z.row = omega arith in
            ap (λ (d : ℕ). reaches d now) s
            ∙ (none_behind (z.row + 1) now (λ p c. elim (found_from w here p z.found c) [
              | inl k ↦ omega (arith, below p k, place_split z.row z.column, first_next z.row, ap (place 0) r)
              | inr k ↦ omega (arith, k.1, place_split z.row z.column, first_next z.row, ap (place 0) r)
            ])
            ∙ sym (cond-true (z.column == 0) false (reaches (z.row + z.column) z.found || (w == 1)) (eq-eqb z.column 0 e)))
        | inr ne ↦
            let q = inside z ne in
            let s : next_row z + next_column z ≡ z.row + z.column = omega arith in
            ap (λ (d : ℕ). reaches d now) s
            ∙ (hits ∙ sym (cond-false (z.column == 0) false (reaches (z.row + z.column) z.found || (w == 1)) (ne_eqb z.column 0 ne)))
      ]

  over_same : (scanned n z w).over ≡ (cursor_after n (cursor_of z) (w == 1)).over
  over_same =
      elim (cases_Bool (z.column == 0)) [
        | inr f ↦ ap (λ (b : Bool). b && (not (reaches z.row now) || ((z.row + 1) == n))) f
            ∙ sym (ap (λ (b : Bool). b && (not (reaches (z.row + z.column) z.found || (w == 1)) || ((z.row + 1) == n))) f)
        | inl t ↦
            let e : z.column ≡ 0 = eqb-true z.column 0 t in
            let s : z.row ≡ z.row + z.column = omega arith in
            ap (λ (b : Bool). (z.column == 0) && (not b || ((z.row + 1) == n))) (ap (λ (d : ℕ). reaches d now) s ∙ hits)
      ]

  pub cursor_follows : cursor_after n (cursor_of z) (w == 1) ≡ cursor_of (scanned n z w)
  unfolding cursor_at
  cursor_follows =
      ap₂ (λ (h o : Bool). cursor_at (next_row z) (next_column z) h (z.doors + 1) o) (sym hit_same) (sym over_same)

-- the stored scans follow those of the grid, at the end of every run
pub law_cursors : (ids : List ℕ) (es : List Event) → CursorsFollow (length ids) (run es (opening ids))
law_cursors ids es = record {
  next = λ a x w h f. cursor_follows (length ids) w x.scan (all_ok ids es a x h).below;
  first = λ w. cursor_follows (length ids) w fresh (λ p c. absurd (nowhere p c));
}

begins_stopped : (m : Next) (s : Grid) (who : ℕ) (c : Comer) → m ≡ Stopped → begins m s who c ≡ reads fresh s who c
begins_stopped WriteLast s who c e = cc
begins_stopped ReadDoor s who c e = cc
begins_stopped CloseDoor s who c e = cc
begins_stopped ReadLast s who c e = cc
begins_stopped Stopped s who c e = refl

-- the event that a read of the next door is, and the scan to which that door belongs
abbrev pub scan_event : ℕ → Scan → Event
scan_event who z = cond (is_idle z) (Begins who) (Scans who)

abbrev pub scan_now : Scan → Scan
scan_now z = cond (is_idle z) fresh z

actor_is : (who : ℕ) (z : Scan) → actor (scan_event who z) ≡ who
actor_is who z = cond_both (is_idle z) (Begins who) (Scans who) (λ (e : Event). actor e ≡ who) (λ _. refl) (λ _. refl)

event_reads : (s : Grid) (who : ℕ) (c : Comer) → c.next ≡ Stopped → acts (scan_event who c.scan) s (Some c) ≡ reads (scan_now c.scan) s who c
event_reads s who c st =
    elim (cases_Bool (is_idle c.scan)) [
      | inl t ↦
          ap (λ (e : Event). acts e s (Some c)) (cond-true (is_idle c.scan) (Begins who) (Scans who) t)
          ∙ (begins_stopped c.next s who c st ∙ sym (ap (λ (z : Scan). reads z s who c) (cond-true (is_idle c.scan) fresh c.scan t)))
      | inr f ↦
          ap (λ (e : Event). acts e s (Some c)) (cond-false (is_idle c.scan) (Begins who) (Scans who) f)
          ∙ (cond-false (is_idle c.scan) s (reads c.scan s who c) f
          ∙ sym (ap (λ (z : Scan). reads z s who c) (cond-false (is_idle c.scan) fresh c.scan f)))
    ]

happens_reads : (s : Grid) (who : ℕ) (c : Comer) → Has s who c → c.next ≡ Stopped
    → happens s (scan_event who c.scan) ≡ reads (scan_now c.scan) s who c
happens_reads s who c h st =
    ap (λ (j : ℕ). acts (scan_event who c.scan) s (slice_get s.comers j)) (actor_is who c.scan)
    ∙ (ap (acts (scan_event who c.scan) s) h ∙ event_reads s who c st)

event_shows : (s : Grid) (who : ℕ) (c : Comer) → c.next ≡ Stopped → seen_by (scan_event who c.scan) s (Some c) ≡ Some (door_seen (scan_now c.scan) s)
event_shows s who c st =
    elim (cases_Bool (is_idle c.scan)) [
      | inl t ↦
          ap (λ (e : Event). seen_by e s (Some c)) (cond-true (is_idle c.scan) (Begins who) (Scans who) t)
          ∙ (cond-true (is_stopped c.next) (Some (door_seen fresh s)) None (resting c.next st)
          ∙ sym (ap (λ (z : Scan). Some (door_seen z s)) (cond-true (is_idle c.scan) fresh c.scan t)))
      | inr f ↦
          ap (λ (e : Event). seen_by e s (Some c)) (cond-false (is_idle c.scan) (Begins who) (Scans who) f)
          ∙ (cond-false (is_idle c.scan) None (Some (door_seen c.scan s)) f
          ∙ sym (ap (λ (z : Scan). Some (door_seen z s)) (cond-false (is_idle c.scan) fresh c.scan f)))
    ]

scan_shows : (s : Grid) (who : ℕ) (c : Comer) → Has s who c → c.next ≡ Stopped
    → seen_of s (scan_event who c.scan) ≡ Some (door_seen (scan_now c.scan) s)
scan_shows s who c h st =
    ap (λ (j : ℕ). seen_by (scan_event who c.scan) s (slice_get s.comers j)) (actor_is who c.scan)
    ∙ (ap (seen_by (scan_event who c.scan) s) h ∙ event_shows s who c st)

now_ok : (n : ℕ) (door : ℕ → ℕ) (c : Comer) → 0 < n → ScanOk n door c.scan c.seen → ScanOk n door (scan_now c.scan) c.seen
    × ((scan_now c.scan).over ≡ false)
now_ok n door c o ok =
    cond_both (is_idle c.scan) fresh c.scan (λ (z : Scan). ScanOk n door z c.seen × (z.over ≡ false))
    (λ _. (ok_fresh n door c.seen o ok.known, refl))
    (λ f. (ok, (or_parts (c.scan.doors == 0) c.scan.over f).1))

same_door : (p p' : ℕ) (b b' o o' : Bool) → p ≡ p' → b ≡ b' → o ≡ o' → seen.Door p b o ≡ seen.Door p' b' o'
same_door p p' b b' o o' x y z = cc

module _ (last : List ℕ) (doors : List Bool) (walkers : List Walker) (who : ℕ) (r : Walker) (h : slice_get walkers who ≡ Some r)
    (ids : List ℕ) (es : List Event) (end : EndsAs ids es last doors walkers) where
  abbrev s : Grid
  s = run es (opening ids)

  pub found : (c : Comer) × (slice_get s.comers who ≡ Some c) × (r ≡ walker_of c)
  found = get_map walker_of s.comers who r (subst (λ (rs : List Walker). slice_get rs who ≡ Some r) end.agrees.comers h)

  size : length walkers ≡ length s.comers
  size = ap length end.agrees.comers ∙ length-map s.comers walker_of

  small : length s.comers ≤ MAX_COMERS
  small = omega (arith, length_run es (opening ids), length-map ids comer_of, end.few)

  ok : ScanOk (length s.comers) s.door (scan_now found.0.scan) found.0.seen × ((scan_now found.0.scan).over ≡ false)
  ok = now_ok (length s.comers) s.door found.0 (omega (arith, slice_get_within s.comers who found.0 found.1)) (all_ok ids es who found.0 found.1)

  same_cursor : cursor_now r.cursor ≡ cursor_of (scan_now found.0.scan)
  same_cursor = ap (λ (q : Walker). cursor_now q.cursor) found.2 ∙ pick cursor_of (is_idle found.0.scan) fresh found.0.scan

  pub cursor_room : ((cursor_now r.cursor).row + (cursor_now r.cursor).column < MAX_COMERS)
      × (place (cursor_now r.cursor).row (cursor_now r.cursor).column < length doors) × ((cursor_now r.cursor).doors < MAX_PLACES)
  unfolding place
  cursor_room =
      let z = scan_now found.0.scan in
      let i = ok.0.inner ok.1 in
      let p = place_below z.row z.column (length s.comers) i in
      let g = first_grows (length s.comers) MAX_COMERS (omega (arith, small)) in
      let d : place z.row z.column < length doors = omega (arith, end.agrees.door_room, ap (place 0) size) in
      subst (λ (q : Cursor). (q.row + q.column < MAX_COMERS) × (place q.row q.column < length doors) × (q.doors < MAX_PLACES)) (sym same_cursor)
      (omega (arith, small), d, omega (arith, ok.0.count))

  module _ (q : Cursor) (r' : Walker) (shut : Bool) (eq : q ≡ cursor_now r.cursor) (es' : shut ≡ slice_index_or doors (place q.row q.column) false)
      (er : r' ≡ record r { cursor = cursor_after (length walkers) q shut }) (st : r.next ≡ Stopped) where
    abbrev w : ℕ
    w = s.door (place (scan_now found.0.scan).row (scan_now found.0.scan).column)

    is_shut : shut ≡ (w == 1)
    is_shut =
        let e = eq ∙ same_cursor in
        es' ∙ (ap (λ (x : Cursor). slice_index_or doors (place x.row x.column) false) e
        ∙ end.agrees.closed (place (scan_now found.0.scan).row (scan_now found.0.scan).column)
        (omega (arith, cursor_room.1, ap (λ (x : Cursor). place x.row x.column) same_cursor)))

    cursor_is : cursor_after (length walkers) q shut ≡ cursor_of (scanned (length s.comers) (scan_now found.0.scan) w)
    cursor_is =
        ap (λ (n : ℕ). cursor_after n q shut) size
        ∙ (ap₂ (λ (x : Cursor) (b : Bool). cursor_after (length s.comers) x b) (eq ∙ same_cursor) is_shut
        ∙ cursor_follows (length s.comers) w (scan_now found.0.scan) ok.0.below)

    new : r' ≡ walker_of (scans (length s.comers) (scan_now found.0.scan) found.0 w)
    new =
        er ∙ (ap (λ (x : Walker). record x { cursor = cursor_after (length walkers) q shut }) found.2
        ∙ ap (λ (x : Cursor). record (walker_of found.0) { cursor = x }) cursor_is)

    stopped : found.0.next ≡ Stopped
    stopped = sym (ap (λ (x : Walker). x.next) found.2) ∙ st

    pub scan_ends : EndsAs ids (es ++ scan_event who found.0.scan ∷ []) last doors (slice_set walkers who r')
    scan_ends =
        let c = found.0 in
        let room = stands last doors walkers who r h (ids, es, end) in
        let at_c : place r.row r.column ≡ at c.turns = ap (λ (x : Walker). place x.row x.column) found.2 in
        let a = made s who c last doors walkers end.agrees (omega arith) (omega arith) r' last doors
        (scans (length s.comers) (scan_now c.scan) c w) new refl refl in
        let e : run (es ++ scan_event who c.scan ∷ []) (opening ids) ≡ reads (scan_now c.scan) s who c =
        after_event es (scan_event who c.scan) (opening ids) ∙ happens_reads s who c found.1 stopped in
        record { differ = end.differ; few = end.few; agrees = subst (λ (g : Grid). Agrees last doors (slice_set walkers who r') g) (sym e) a }

    scan_shown : seen_of s (scan_event who found.0.scan) ≡ Some (seen.Door (place q.row q.column) shut r'.cursor.over)
    scan_shown =
        let c = found.0 in
        scan_shows s who c found.1 stopped
        ∙ ap Some (sym (same_door (place q.row q.column) (place (scan_now c.scan).row (scan_now c.scan).column) shut
        (w == 1) r'.cursor.over (scanned (length s.comers) (scan_now c.scan) w).over
        (ap (λ (x : Cursor). place x.row x.column) (eq ∙ same_cursor)) is_shut (ap (λ (x : Walker). x.cursor.over) new)))

    -- what a read of the next door owes to its contract
    pub scan_made : (id : ℕ) → IsFirstWithId walkers id who r
        → (e : Event) × (scan_call s id ≡ Ok e) × (seen_of s e ≡ Some (seen.Door (place q.row q.column) shut r'.cursor.over))
        × EndsAs ids (es ++ e ∷ []) last doors (slice_set walkers who r')
    scan_made id f =
        let n = named walkers s end.agrees.comers id who r f in
        let one : n.0 ≡ found.0 = same_Some n.0 found.0 (sym n.1 ∙ found.1) in (
          scan_event who found.0.scan,
          scan_goes walkers s end.agrees.comers id who r f st ∙ ap (λ (c : Comer). Ok (scan_event who c.scan)) one,
          scan_shown,
          scan_ends,
        )

-- the number of the comers that have started
same_bit : {X Y : Type 0} (f : X → Y) (p : Y → Bool) (g : X → Bool) (x : X) → p (f x) ≡ g x → bit p (f x) ≡ bit g x
unfolding bit
same_bit f p g x e = ap (λ (b : Bool). cond b 1 0) e

count_map : {X Y : Type 0} (f : X → Y) (p : Y → Bool) (g : X → Bool) (xs : List X) → ((x : X) → p (f x) ≡ g x) → count_by p (map f xs) ≡ count_by g xs
count_map f p g [] h = refl
count_map f p g (x ∷ xs) h = omega (arith, count_cons p (f x) (map f xs), count_cons g x xs, count_map f p g xs h, same_bit f p g x (h x))

some_turn : (ts : List Turn) → nat_lt 0 (row ts + column ts) ≡ is_some_turn ts
some_turn [] = refl
some_turn (Right ∷ ts) = lt-ltb 0 (row ts + (column ts + 1)) (omega arith)
some_turn (Down ∷ ts) = lt-ltb 0 (row ts + 1 + column ts) (omega arith)

pub started_is : (walkers : List Walker) (s : Grid) → walkers ≡ map walker_of s.comers → started_of walkers ≡ started s
started_is walkers s e =
    ap started_of e ∙ count_map walker_of is_started has_started s.comers (λ c. ap (λ (b : Bool). has_begun c.next || b) (some_turn c.turns))

doors_bound : (last : List ℕ) (doors : List Bool) (walkers : List Walker) (who : ℕ) (r : Walker) → slice_get walkers who ≡ Some r
    → SomeRun last doors walkers → r.cursor.doors ≤ (started_of walkers + 1) * (started_of walkers + 2) / 2
doors_bound last doors walkers who r h (ids, es, end) =
    let g = run es (opening ids) in
    let a = end.agrees in
    let f = get_map walker_of g.comers who r (subst (λ (rs : List Walker). slice_get rs who ≡ Some r) a.comers h) in
    let k : started_of walkers ≡ started g = started_is walkers g a.comers in
    subst (λ (m : ℕ). r.cursor.doors ≤ (m + 1) * (m + 2) / 2) (sym k)
    (subst (λ (m : ℕ). m ≤ (started g + 1) * (started g + 2) / 2) (sym (ap (λ (q : Walker). q.cursor.doors) f.2))
    (law_doors_read ids end.differ es who f.0 f.1))

module _ (last : List ℕ) (doors : List Bool) (walkers : List Walker) (who : ℕ) (r : Walker) (h : slice_get walkers who ≡ Some r)
    (now : ∥ SomeRun last doors walkers ∥₁) where
  pub cursor_on_grid : (cursor_now r.cursor).row + (cursor_now r.cursor).column < MAX_COMERS
  cursor_on_grid = ∥∥₁_elim now (search props) (λ z. (cursor_room last doors walkers who r h z.0 z.1 z.2).0)

  pub cursor_in_room : place (cursor_now r.cursor).row (cursor_now r.cursor).column < length doors
  cursor_in_room = ∥∥₁_elim now (search props) (λ z. (cursor_room last doors walkers who r h z.0 z.1 z.2).1)

  pub cursor_count : (cursor_now r.cursor).doors < MAX_PLACES
  cursor_count = ∥∥₁_elim now (search props) (λ z. (cursor_room last doors walkers who r h z.0 z.1 z.2).2)

  pub bound : r.cursor.doors ≤ (started_of walkers + 1) * (started_of walkers + 2) / 2
  bound = ∥∥₁_elim now (search props) (doors_bound last doors walkers who r h)

  pub scan_reached : (q : Cursor) (r' : Walker) (shut : Bool) → q ≡ cursor_now r.cursor → shut ≡ slice_index_or doors (place q.row q.column) false
      → r' ≡ record r { cursor = cursor_after (length walkers) q shut } → r.next ≡ Stopped → ∥ SomeRun last doors (slice_set walkers who r') ∥₁
  scan_reached q r' shut eq es er st = ∥∥₁_map now (λ z.
      let f = found last doors walkers who r h z.0 z.1 z.2 in
      (z.0, z.1 ++ scan_event who f.0.scan ∷ [], scan_ends last doors walkers who r h z.0 z.1 z.2 q r' shut eq es er st))

-- what a read of the next door gives back, told of the machine's own lists
module _ (doors d : List Bool) (walkers : List Walker) (n : ℕ) (q after : Cursor) (ed : d ≡ doors) (en : n ≡ length walkers)
    (ea : after ≡ cursor_after n q (slice_index_or d (place q.row q.column) false)) where
  pub stored_after : (r : Walker)
      → record r { cursor = after } ≡ record r { cursor = cursor_after (length walkers) q (slice_index_or doors (place q.row q.column) false) }
  stored_after r =
      ap (λ (x : Cursor). record r { cursor = x })
      (ea ∙ ap₂ (λ (m : ℕ) (l : List Bool). cursor_after m q (slice_index_or l (place q.row q.column) false)) en ed)

  pub told_of : (w : Seen) → w ≡ seen.Door (place q.row q.column) (slice_index_or d (place q.row q.column) false) after.over
      → seen.Door (place q.row q.column) (slice_index_or doors (place q.row q.column) false) after.over ≡ w
  told_of w e = sym (e ∙ ap (λ (l : List Bool). seen.Door (place q.row q.column) (slice_index_or l (place q.row q.column) false) after.over) ed)
