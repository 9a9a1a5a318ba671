-- Every grid run keeps the facts of its scans, and a scan that is over is whole.
use Rattle.std.proofs.Common.{◌≡◌, ℕ, zero, suc, ◌+◌, ◌*◌, ◌/◌, ◌<◌, ◌≤◌, ◌≢◌, ◌⊎◌, inl, inr, List, [], ◌∷◌, slice_get, slice_set, Option, Some, None}
use Rattle.std.proofs.Common.{Contains, refl, ap, ap₂, sym, ◌∙◌, subst, arith, true, false, ◌||◌, ◌==◌, length}
use Rattle.std.proofs.lemmas.Bool.{cases_eq, cases_lt, cases_Bool, cond_both, cond-true, cond-false, or_parts, both_ways}
use Rattle.std.proofs.lemmas.List.{length-set}
use Rattle.std.proofs.lemmas.Option.{same_Some, slice_get_within}
use Rattle.split_core.specs.Grid.{Grid, Event, Goes, Begins, Scans, Has, put, with_comer, goes, reads, begins, goes_on, acts, actor, happens}
use Rattle.split_core.specs.Grid.{run, opening, started, Different}
use Rattle.split_core.specs.Places.{at, place}
use Rattle.split_core.specs.Splitter.{Left, OneStops, NotAllTurned, WaysClosed}
use Rattle.split_core.specs.Scan.{fresh, with_found}
use Rattle.split_core.specs.Comer.{scans, wrote, closed, comer_of, has_started}
use Rattle.split_core.specs.Collect.{NoneBegins, ScansWhole, DoorsRead}
use Rattle.split_core.specs.Quadrants.{Diagonals, Quadrants}
use Rattle.split_core.specs.declared.model.Comer.{Comer}
use Rattle.split_core.specs.declared.model.Scan.{Scan}
use Rattle.split_core.specs.declared.model.Next.{Next}
use Rattle.split_core.specs.declared.model.Next.TheVariants.{WriteLast, ReadDoor, CloseDoor, ReadLast, Stopped}
use Rattle.split_core.specs.declared.model.Turn.{Turn}
use Rattle.split_core.specs.declared.model.Turn.TheVariants.{Right, Down}
use Rattle.split_core.proofs.Lists.{each_set, get_set_same, get_set_other, get_map}
use Rattle.split_core.proofs.Ways.{place_split, first_next, first_grows, first_zero, first_after, left_below, diagonal_from, crosses}
use Rattle.split_core.proofs.KeptSteps.{put_same, put_other}
use Rattle.split_core.proofs.Kept.{Kept, Passed}
use Rattle.std.proofs.lemmas.List.Sums.{count_by-le-length}
use Rattle.split_core.proofs.KeptRuns.{kept}
use Rattle.split_core.proofs.Splitters.{one_stops, not_all_right, not_all_down, ways_closed, wrote_visits, passed_wrote}
use Rattle.split_core.proofs.Quadrants.{quadrants, diagonals}
use Rattle.split_core.proofs.ScanFacts.{found_before, found_now, found_from, reaching, next_place, ScanOk, one_if}
use Rattle.split_core.proofs.ScanFacts.{nowhere, ok_fresh, ok_stays, ok_scanned}

-- doors stay closed
put_stays : (f : ℕ → ℕ) (i p : ℕ) → f p ≡ 1 → put f i 1 p ≡ 1
put_stays f i p d = elim (cases_eq p i) [ inl q ↦ subst (λ (j : ℕ). put f i 1 j ≡ 1) (sym q) (put_same f i 1) | inr ne ↦ put_other f i 1 p ne ∙ d ]

door_goes : (m : Next) (s : Grid) (i : ℕ) (x : Comer) (p : ℕ) → s.door p ≡ 1 → (goes m s i x).door p ≡ 1
door_goes WriteLast s i x p d = d
door_goes ReadDoor s i x p d = d
door_goes CloseDoor s i x p d = put_stays s.door (at x.turns) p d
door_goes ReadLast s i x p d = d
door_goes Stopped s i x p d = d

door_begins : (m : Next) (s : Grid) (i : ℕ) (x : Comer) (p : ℕ) → s.door p ≡ 1 → (begins m s i x).door p ≡ 1
door_begins WriteLast s i x p d = d
door_begins ReadDoor s i x p d = d
door_begins CloseDoor s i x p d = d
door_begins ReadLast s i x p d = d
door_begins Stopped s i x p d = d

door_acts : (e : Event) (s : Grid) (o : Option Comer) (p : ℕ) → s.door p ≡ 1 → (acts e s o).door p ≡ 1
door_acts e s None p d = d
door_acts (Goes i) s (Some x) p d = door_goes x.next s i x p d
door_acts (Begins i) s (Some x) p d = door_begins x.next s i x p d
door_acts (Scans i) s (Some x) p d =
    cond_both ((x.scan.doors == 0) || x.scan.over) s (reads x.scan s i x) (λ (t : Grid). t.door p ≡ 1) (λ _. d) (λ _. d)

pub door_happens : (s : Grid) (e : Event) (p : ℕ) → s.door p ≡ 1 → (happens s e).door p ≡ 1
door_happens s e p d = door_acts e s (slice_get s.comers (actor e)) p d

pub door_run : (es : List Event) (s : Grid) (p : ℕ) → s.door p ≡ 1 → (run es s).door p ≡ 1
door_run [] s p d = d
door_run (e ∷ es) s p d = door_run es (happens s e) p (door_happens s e p d)

-- the facts of each comer's scan
abbrev pub AllOk : Grid → Type 0
AllOk s = (a : ℕ) (x : Comer) → Has s a x → ScanOk (length s.comers) s.door x.scan x.seen

module _ (s : Grid) (k : AllOk s) (i : ℕ) (x : Comer) (hx : Has s i x) where
  ok_after : (s' : Grid) (x' : Comer) → s'.comers ≡ slice_set s.comers i x' → ((p : ℕ) → s.door p ≡ 1 → s'.door p ≡ 1)
      → ScanOk (length s.comers) s'.door x'.scan x'.seen → AllOk s'
  ok_after s' x' e d o =
      let l : length s.comers ≡ length s'.comers = sym (ap (λ (cs : List Comer). length cs) e ∙ length-set s.comers i x') in
      λ a y h. subst (λ (n : ℕ). ScanOk n s'.door y.scan y.seen) l
      (each_set s.comers i x' (λ (b : ℕ) (z : Comer). ScanOk (length s.comers) s'.door z.scan z.seen) o
      (λ b z ne hz. ok_stays (length s.comers) s.door s'.door z.scan z.seen d (k b z hz))
      a y (subst (λ (cs : List Comer). slice_get cs a ≡ Some y) e h))

  same_scan : (s' : Grid) (x' : Comer) → s'.comers ≡ slice_set s.comers i x' → ((p : ℕ) → s.door p ≡ 1 → s'.door p ≡ 1) → x'.scan ≡ x.scan
      → x'.seen ≡ x.seen → AllOk s'
  same_scan s' x' e d q r =
      ok_after s' x' e d (subst (λ (z : Scan). ScanOk (length s.comers) s'.door z x'.seen) (sym q)
      (subst (λ (ps : List ℕ). ScanOk (length s.comers) s'.door x.scan ps) (sym r)
      (ok_stays (length s.comers) s.door s'.door x.scan x.seen d (k i x hx))))

  same_comer : (x' : Comer) → x'.scan ≡ x.scan → x'.seen ≡ x.seen → AllOk (with_comer s i x')
  same_comer x' q r = same_scan (with_comer s i x') x' refl (λ p d. d) q r

  ok_goes : (m : Next) → AllOk (goes m s i x)
  ok_goes WriteLast = same_scan (goes WriteLast s i x) (wrote x) refl (λ p d. d) refl refl
  ok_goes ReadDoor =
      cond_both (s.door (at x.turns) == 1) _ _ (λ (y : Comer). AllOk (with_comer s i y)) (λ _. same_comer _ refl refl) (λ _. same_comer _ refl refl)
  ok_goes CloseDoor = same_scan (goes CloseDoor s i x) (closed x) refl (put_stays s.door (at x.turns)) refl refl
  ok_goes ReadLast =
      cond_both (s.last (at x.turns) == x.id) _ _ (λ (y : Comer). AllOk (with_comer s i y)) (λ _. same_comer _ refl refl)
      (λ _. same_comer _ refl refl)
  ok_goes Stopped = k

  ok_reads : (z : Scan) → z.over ≡ false → ScanOk (length s.comers) s.door z x.seen → AllOk (reads z s i x)
  ok_reads z f o =
      ok_after (reads z s i x) (scans (length s.comers) z x (s.door (place z.row z.column))) refl (λ p d. d)
      (ok_scanned (length s.comers) s.door z x.seen f o)

  ok_begins : (m : Next) → AllOk (begins m s i x)
  ok_begins WriteLast = k
  ok_begins ReadDoor = k
  ok_begins CloseDoor = k
  ok_begins ReadLast = k
  ok_begins Stopped =
      ok_reads fresh refl (ok_fresh (length s.comers) s.door x.seen (omega (arith, slice_get_within s.comers i x hx)) (k i x hx).known)

  ok_goes_on : AllOk (goes_on s i x)
  ok_goes_on =
      cond_both ((x.scan.doors == 0) || x.scan.over) s (reads x.scan s i x) AllOk (λ _. k)
      (λ f. ok_reads x.scan (or_parts (x.scan.doors == 0) x.scan.over f).1 (k i x hx))

ok_acts : (s : Grid) (e : Event) (o : Option Comer) → slice_get s.comers (actor e) ≡ o → AllOk s → AllOk (acts e s o)
ok_acts s e None h k = k
ok_acts s (Goes i) (Some x) h k = ok_goes s k i x h x.next
ok_acts s (Begins i) (Some x) h k = ok_begins s k i x h x.next
ok_acts s (Scans i) (Some x) h k = ok_goes_on s k i x h

pub ok_run : (es : List Event) (s : Grid) → AllOk s → AllOk (run es s)
ok_run [] s k = k
ok_run (e ∷ es) s k = ok_run es (happens s e) (ok_acts s e (slice_get s.comers (actor e)) refl k)

pub ok_opening : (ids : List ℕ) → AllOk (opening ids)
ok_opening ids a x h =
    let u = get_map comer_of ids a x h in
    subst (λ (c : Comer). ScanOk (length (opening ids).comers) (opening ids).door c.scan c.seen) (sym u.2)
    (ok_fresh (length (opening ids).comers) (opening ids).door [] (omega (arith, slice_get_within (opening ids).comers a x h))
    (λ p c. absurd (nowhere p c)))

-- What a scan that the comer x0 began in s has read since.
pub record Part (s : Grid) (x0 y : Comer) : Type 0 where
  pub turns : y.turns ≡ x0.turns
  pub stopped : y.next ≡ Stopped
  pub read : (p : ℕ) → p < place y.scan.row y.scan.column → s.door p ≡ 1 → Contains y.scan.found p
  pub seen : (p : ℕ) → Contains y.seen p → (s.door p ≡ 1) ⊎ Contains y.scan.found p

part_scans : (s : Grid) (x0 y : Comer) (n w : ℕ) (z : Scan) → y.turns ≡ x0.turns → y.next ≡ Stopped
    → (s.door (place z.row z.column) ≡ 1 → w ≡ 1)
    → ((p : ℕ) → p < place z.row z.column → s.door p ≡ 1 → Contains z.found p)
    → ((p : ℕ) → Contains y.seen p → (s.door p ≡ 1) ⊎ Contains z.found p)
    → Part s x0 (scans n z y w)
part_scans s x0 y n w z t st now read seen = record {
  turns = t;
  stopped = st;
  read = λ p l d. elim (cases_eq p (place z.row z.column)) [
    | inl q ↦ subst (λ (j : ℕ). Contains (with_found w (place z.row z.column) z.found) j) (sym q)
        (found_now w (place z.row z.column) z.found (now (subst (λ (j : ℕ). s.door j ≡ 1) q d)))
    | inr ne ↦ found_before w (place z.row z.column) p z.found (read p (omega (arith, next_place z)) d)
  ];
  seen = λ p c. elim (found_from w (place z.row z.column) p y.seen c) [
    | inl k ↦ elim (seen p k) [ inl d ↦ inl d | inr f ↦ inr (found_before w (place z.row z.column) p z.found f) ]
    | inr k ↦ inr (subst (λ (j : ℕ). Contains (with_found w (place z.row z.column) z.found) j) k.1 (found_now w (place z.row z.column) z.found k.0))
  ];
}

goes_stopped : (m : Next) (s : Grid) (i : ℕ) (x : Comer) → m ≡ Stopped → goes m s i x ≡ s
goes_stopped WriteLast s i x e = cc
goes_stopped ReadDoor s i x e = cc
goes_stopped CloseDoor s i x e = cc
goes_stopped ReadLast s i x e = cc
goes_stopped Stopped s i x e = refl

abbrev Since : Grid → Comer → ℕ → Grid → Type 0
Since s x0 who t = (y : Comer) × Has t who y × Part s x0 y

module _ (s : Grid) (x0 : Comer) (who : ℕ) (t : Grid) (mono : (p : ℕ) → s.door p ≡ 1 → t.door p ≡ 1) where
  since_reads : (y : Comer) → Has t who y → Part s x0 y → Since s x0 who (reads y.scan t who y)
  since_reads y hy p =
      let w = t.door (place y.scan.row y.scan.column) in
      let y' = scans (length t.comers) y.scan y w in (
        y',
        get_set_same t.comers who y' y hy,
        part_scans s x0 y (length t.comers) w y.scan p.turns p.stopped (mono (place y.scan.row y.scan.column)) p.read p.seen,
      )

  since_goes_on : (y : Comer) → Has t who y → Part s x0 y → Since s x0 who (goes_on t who y)
  since_goes_on y hy p =
      cond_both ((y.scan.doors == 0) || y.scan.over) t (reads y.scan t who y) (λ (u : Grid). Since s x0 who u) (λ _. (y, hy, p))
      (λ _. since_reads y hy p)

  module _ (i : ℕ) (x y : Comer) (ne : who ≢ i) (hy : Has t who y) where
    keep : (x' : Comer) → slice_get (slice_set t.comers i x') who ≡ Some y
    keep x' = get_set_other t.comers i who x' y ne hy

    keep_goes : (m : Next) → Has (goes m t i x) who y
    keep_goes WriteLast = keep _
    keep_goes ReadDoor = keep _
    keep_goes CloseDoor = keep _
    keep_goes ReadLast = keep _
    keep_goes Stopped = hy

    keep_begins : (m : Next) → Has (begins m t i x) who y
    keep_begins WriteLast = hy
    keep_begins ReadDoor = hy
    keep_begins CloseDoor = hy
    keep_begins ReadLast = hy
    keep_begins Stopped = keep _

    keep_goes_on : Has (goes_on t i x) who y
    keep_goes_on = cond_both ((x.scan.doors == 0) || x.scan.over) t (reads x.scan t i x) (λ (u : Grid). Has u who y) (λ _. hy) (λ _. keep _)

  same_one : (i : ℕ) (x y : Comer) → who ≡ i → Has t i x → Has t who y → x ≡ y
  same_one i x y q hx hy = same_Some x y (sym hx ∙ (ap (slice_get t.comers) (sym q) ∙ hy))

  since_acts : (e : Event) (o : Option Comer) → slice_get t.comers (actor e) ≡ o → e ≢ Begins who → Since s x0 who t → Since s x0 who (acts e t o)
  since_acts e None h nb k = k
  since_acts (Goes i) (Some x) h nb (y, hy, p) =
      elim (cases_eq who i) [
        | inl q ↦ (let st : x.next ≡ Stopped = ap (λ (c : Comer). c.next) (same_one i x y q h hy) ∙ p.stopped in
            subst (λ (u : Grid). Since s x0 who u) (sym (goes_stopped x.next t i x st)) (y, hy, p))
        | inr ne ↦ (y, keep_goes i x y ne hy x.next, p)
      ]
  since_acts (Begins i) (Some x) h nb (y, hy, p) =
      elim (cases_eq who i) [
        | inl q ↦ absurd (nb (ap Begins (sym q)))
        | inr ne ↦ (y, keep_begins i x y ne hy x.next, p)
      ]
  since_acts (Scans i) (Some x) h nb (y, hy, p) =
      elim (cases_eq who i) [
        | inl q ↦ subst (λ (j : ℕ). Since s x0 who (goes_on t j x)) q
            (subst (λ (z : Comer). Since s x0 who (goes_on t who z)) (sym (same_one i x y q h hy)) (since_goes_on y hy p))
        | inr ne ↦ (y, keep_goes_on i x y ne hy, p)
      ]

since_run : (s : Grid) (x0 : Comer) (who : ℕ) (es : List Event) (t : Grid) → ((p : ℕ) → s.door p ≡ 1 → t.door p ≡ 1) → NoneBegins who es
    → Since s x0 who t → Since s x0 who (run es t)
since_run s x0 who [] t mono nb k = k
since_run s x0 who (e ∷ es) t mono nb k =
    since_run s x0 who es (happens t e) (λ p d. door_happens t e p (mono p d)) nb.1
    (since_acts s x0 who t mono e (slice_get t.comers (actor e)) refl nb.0 k)

-- the first read of a scan
since_begins : (s : Grid) (who : ℕ) (x : Comer) → AllOk s → Has s who x → (o : Option Comer) → slice_get s.comers who ≡ o
    → x.next ≡ Stopped → Since s x who (acts (Begins who) s o)
since_begins s who x k hx None h st = cc
since_begins s who x k hx (Some y) h st =
    let q = same_Some y x (sym h ∙ hx) in
    subst (λ (z : Comer). Since s x who (begins z.next s who z)) (sym q) (at_next x.next refl)
  where
    first : Since s x who (reads fresh s who x)
    first =
        let w = s.door (place 0 0) in
        let x' = scans (length s.comers) fresh x w in (
          x',
          get_set_same s.comers who x' x hx,
          part_scans s x x (length s.comers) w fresh refl st (λ d. d) (λ p l d. absurd (omega (arith, first_zero)))
              (λ p c. inl ((k who x hx).known p c)),
        )

    at_next : (m : Next) → x.next ≡ m → Since s x who (begins m s who x)
    at_next WriteLast e = cc
    at_next ReadDoor e = cc
    at_next CloseDoor e = cc
    at_next ReadLast e = cc
    at_next Stopped e = first

-- the number of comers stays
length_goes : (m : Next) (s : Grid) (i : ℕ) (x : Comer) → length (goes m s i x).comers ≡ length s.comers
length_goes WriteLast s i x = length-set s.comers i _
length_goes ReadDoor s i x = length-set s.comers i _
length_goes CloseDoor s i x = length-set s.comers i _
length_goes ReadLast s i x = length-set s.comers i _
length_goes Stopped s i x = refl

length_begins : (m : Next) (s : Grid) (i : ℕ) (x : Comer) → length (begins m s i x).comers ≡ length s.comers
length_begins WriteLast s i x = refl
length_begins ReadDoor s i x = refl
length_begins CloseDoor s i x = refl
length_begins ReadLast s i x = refl
length_begins Stopped s i x = length-set s.comers i _

pub length_acts : (e : Event) (s : Grid) (o : Option Comer) → length (acts e s o).comers ≡ length s.comers
length_acts e s None = refl
length_acts (Goes i) s (Some x) = length_goes x.next s i x
length_acts (Begins i) s (Some x) = length_begins x.next s i x
length_acts (Scans i) s (Some x) =
    cond_both ((x.scan.doors == 0) || x.scan.over) s (reads x.scan s i x) (λ (t : Grid). length t.comers ≡ length s.comers) (λ _. refl)
    (λ _. length-set s.comers i _)

pub length_run : (es : List Event) (s : Grid) → length (run es s).comers ≡ length s.comers
length_run [] s = refl
length_run (e ∷ es) s = length_run es (happens s e) ∙ length_acts e s (slice_get s.comers (actor e))

passed_below : (p : ℕ) (x : Comer) → Passed p x → p ≤ at x.turns
passed_below p x (inl l) = omega (arith, left_below p x.turns l)
passed_below p x (inr h) = omega (arith, h.0)

-- where a door from diagonal d on is closed, more than d have started
pub closed_below : (s : Grid) → Kept s → Diagonals s → (d p : ℕ) → s.door p ≡ 1 → place 0 d ≤ p → d < started s
closed_below s k g d p c l =
    let w = k.closer p c in
    omega (
      arith,
      diagonal_from d w.1.turns (omega (arith, passed_below p w.1 w.3.0)),
      g w.0 w.1 w.2 (wrote_visits p w.1 (passed_wrote p w.1 w.3.0)).0,
    )

module _ (s : Grid) (k : Kept s) (g : Diagonals s) where
  pub doors_read : AllOk s → DoorsRead s
  doors_read o a x hx =
      let z = x.scan in let ok = o a x hx in
      elim (cases_Bool z.over) [
        | inl t ↦ (let c : one_if z.over ≡ 1 = cond-true z.over 1 0 t in let e = ok.ended t in
            up_to e.0 z.doors (omega (arith, ok.count, ap₂ place e.1 e.2)) (λ d q. ok.hit d (omega arith)) ok.closed)
        | inr f ↦ (let c : one_if z.over ≡ 0 = cond-false z.over 1 0 f in
            up_to (z.row + z.column) z.doors (omega (arith, ok.count, place_split z.row z.column, first_next (z.row + z.column)))
            (λ d q. ok.hit d (omega arith)) ok.closed)
      ]
    where
      up_to : (d n : ℕ) → n ≤ place 0 (d + 1) → ((e : ℕ) → e + 1 ≡ d → (p : ℕ) × Contains x.scan.found p × (place 0 e ≤ p))
          → ((p : ℕ) → Contains x.scan.found p → s.door p ≡ 1) → n ≤ (started s + 1) * (started s + 2) / 2
      up_to zero n b hit shut = omega (arith, first_after (started s), first_grows (0 + 1) (started s + 1) (omega arith))
      up_to (suc d) n b hit shut =
          let w = hit d (omega arith) in
          let l : d < started s = closed_below s k g d w.0 (shut w.0 w.1) w.2 in
          omega (arith, first_after (started s), first_grows (suc d + 1) (started s + 1) (omega arith))

  whole : (n : ℕ) (door : ℕ → ℕ) (x0 y : Comer) → started s ≤ n → Part s x0 y → ScanOk n door y.scan y.seen → y.scan.over ≡ true → (p : ℕ)
      → s.door p ≡ 1 → Contains y.scan.found p
  whole n door x0 y b part ok over p c =
      let e = ok.ended over in
      let f : place y.scan.row y.scan.column ≡ place 0 (e.0 + 1) = ap₂ place e.1 e.2 in
      elim (cases_lt p (place 0 (e.0 + 1))) [
        | inl l ↦ part.read p (omega arith) c
        | inr l ↦ elim e.3 [
          | inl r ↦ (let w = k.closer p c in
              let q = crosses e.0 w.1.turns (omega (arith, diagonal_from (e.0 + 1) w.1.turns (omega (arith, passed_below p w.1 w.3.0)))) in
              let h = part.read q.0 (omega (arith, q.3)) (k.shut w.0 w.1 w.2 q.0 (inl q.1)) in
              absurd (both_ways _ r (reaching e.0 q.0 y.scan.found h q.2)))
          | inr r ↦ absurd (let m = closed_below s k g (e.0 + 1) p c l in omega arith)
        ]
      ]

pub scans_whole : (ids : List ℕ) → Different ids → ScansWhole ids
scans_whole ids d before during who x y nb hx st hy over =
    let s = run before (opening ids) in
    let first = happens s (Begins who) in
    let last = run during first in
    let k = kept ids d before in
    let g = diagonals s (not_all_right s k) (not_all_down s k) in
    let ok = ok_run before (opening ids) (ok_opening ids) in
    let then = ok_run during first (ok_acts s (Begins who) (slice_get s.comers who) refl ok) who y hy in
    let w = since_run s x who during first (door_happens s (Begins who)) nb (since_begins s who x ok hx (slice_get s.comers who) refl st) in
    let part : Part s x y = subst (λ (z : Comer). Part s x z) (same_Some w.0 y (sym w.1 ∙ hy)) w.2 in
    let room : started s ≤ length last.comers = omega (
      arith,
      count_by-le-length has_started s.comers,
      length_run during first,
      length_acts (Begins who) s (slice_get s.comers who),
    ) in
    let all = whole s k g (length last.comers) last.door x y room part then over in record {
      closed = all;
      stops = λ a z hz sz. all (at z.turns) (k.shut a z hz (at z.turns) (inr (refl, inr sz)));
      way =
          λ p v. all p (k.shut who x hx p
          (elim (subst (λ (ts : List Turn). Left p ts ⊎ (at ts ≡ p)) part.turns v) [ inl l ↦ inl l | inr e ↦ inr (e, inr st) ]));
      seen = λ p c. elim (part.seen p c) [ inl e ↦ all p e | inr f ↦ f ];
    }

-- the laws over all runs
module _ (ids : List ℕ) (d : Different ids) (es : List Event) where
  abbrev end : Grid
  end = run es (opening ids)

  facts : Kept end
  facts = kept ids d es

  pub law_one_stops : OneStops end
  law_one_stops = one_stops end facts

  pub law_not_all_right : NotAllTurned Right end
  law_not_all_right = not_all_right end facts

  pub law_not_all_down : NotAllTurned Down end
  law_not_all_down = not_all_down end facts

  pub law_quadrants : Quadrants end
  law_quadrants = quadrants end law_not_all_right law_not_all_down

  pub law_diagonals : Diagonals end
  law_diagonals = diagonals end law_not_all_right law_not_all_down

  pub law_ways_closed : WaysClosed end
  law_ways_closed = ways_closed end facts

  pub law_doors_read : DoorsRead end
  law_doors_read = doors_read end facts law_diagonals (ok_run es (opening ids) (ok_opening ids))

pub all_ok : (ids : List ℕ) (es : List Event) → AllOk (run es (opening ids))
all_ok ids es = ok_run es (opening ids) (ok_opening ids)
