-- Every run with trail scans keeps what they know, and a trail scan that is over is whole.
use Rattle.std.proofs.Common.{◌≡◌, ◌<◌, ◌≢◌, ℕ, ◌+◌, ◌⊎◌, inl, inr, List, [], ◌∷◌, ◌++◌, slice_get, Option, Some, None, Contains, refl, ap, sym, ◌∙◌, subst, arith, ◌==◌, length}
use Rattle.std.proofs.lemmas.Bool.{cases_eq, cond_both, cond-true, cond-false, eq-eqb, ne_eqb}
use Rattle.std.proofs.lemmas.List.Elements.{Contains-append_cases}
use Rattle.std.proofs.lemmas.List.Sums.{count_by-le-length}
use Rattle.split_core.specs.Places.{at, place}
use Rattle.split_core.specs.Grid.{Grid, acts, actor, happens, run, opening, started, Different}
use Rattle.split_core.specs.Quadrants.{Diagonals}
use Rattle.split_core.specs.Comer.{has_started}
use Rattle.split_core.specs.Trail.{Spot, Trail, trail_start, follows}
use Rattle.split_core.specs.Trails.{Trailed, trail_opening, Act, Takes, BeginsTrail, FollowsTrail, events_in, reads_trail, begins_trail, begun_by, does, does_all, NoTrailBegins, TrailsWhole, TrailDoors, InOrder}
use Rattle.split_core.specs.declared.model.Comer.{Comer}
use Rattle.split_core.specs.declared.model.Next.{Next}
use Rattle.split_core.specs.declared.model.Next.TheVariants.{WriteLast, ReadDoor, CloseDoor, ReadLast, Stopped}
use Rattle.split_core.proofs.Ways.{first_after, first_grows}
use Rattle.split_core.proofs.Kept.{Kept}
use Rattle.split_core.proofs.KeptRuns.{kept}
use Rattle.split_core.proofs.Splitters.{not_all_right, not_all_down, wrote_visits, passed_wrote}
use Rattle.split_core.proofs.Quadrants.{diagonals}
use Rattle.split_core.proofs.ScanFacts.{found_before, nowhere}
use Rattle.split_core.proofs.Collects.{AllOk, all_ok, door_happens, closed_below, length_acts}
use Rattle.split_core.specs.TrailRows.{RowsFollow}
use Rattle.split_core.proofs.TrailRows.{listed_from, rows_follow}
use Rattle.split_core.proofs.TrailFacts.{Leads, leads_start, leads_follows, way_found}
use Rattle.split_core.proofs.TrailCounts.{Ascends, OkTrail, trail_stays, none_ok, start_ok, ok_follows}

begins_grid : (m : Next) (s : Trailed) (who : ℕ) → (begins_trail m s who).grid ≡ s.grid
begins_grid WriteLast s who = refl
begins_grid ReadDoor s who = refl
begins_grid CloseDoor s who = refl
begins_grid ReadLast s who = refl
begins_grid Stopped s who = refl

begun_grid : (o : Option Comer) (s : Trailed) (who : ℕ) → (begun_by o s who).grid ≡ s.grid
begun_grid None s who = refl
begun_grid (Some c) s who = begins_grid c.next s who

-- trail scans change nothing of the grid
pub grid_is : (more : List Act) (s : Trailed) → (does_all more s).grid ≡ run (events_in more) s.grid
grid_is [] s = refl
grid_is (Takes e ∷ more) s = grid_is more (does (Takes e) s)
grid_is (BeginsTrail who ∷ more) s = grid_is more (does (BeginsTrail who) s) ∙ ap (run (events_in more)) (begun_grid (slice_get s.grid.comers who) s who)
grid_is (FollowsTrail who ∷ more) s = grid_is more (does (FollowsTrail who) s)

-- what every run keeps of the trails
pub record TrailsOk (s : Trailed) : Type 0 where
  pub trail : (a : ℕ) → OkTrail s.grid.door (s.trail a)
  pub known : (a p : ℕ) → Contains (s.known a) p → s.grid.door p ≡ 1

reads_ok : (z : Trail) (s : Trailed) (who : ℕ) → TrailsOk s → OkTrail s.grid.door z → TrailsOk (reads_trail z s who)
reads_ok z s who k o =
    let after : Trail = follows (length s.grid.comers) s.grid.door z.ahead z in
    let new : OkTrail s.grid.door after = ok_follows (length s.grid.comers) s.grid.door z z.ahead refl o in
    record {
      trail = λ a. cond_both (a == who) after (s.trail a) (λ (y : Trail). OkTrail s.grid.door y) (λ _. new) (λ _. k.trail a);
      known = λ a p. cond_both (a == who) (s.known who ++ after.found) (s.known a) (λ (ps : List ℕ). Contains ps p → s.grid.door p ≡ 1)
          (λ _ c. elim (Contains-append_cases (s.known who) after.found p c) [ inl h ↦ k.known who p h | inr h ↦ new.closed p h ])
          (λ _. k.known a p);
    }

begins_ok : (m : Next) (s : Trailed) (who : ℕ) → TrailsOk s → TrailsOk (begins_trail m s who)
begins_ok WriteLast s who k = k
begins_ok ReadDoor s who k = k
begins_ok CloseDoor s who k = k
begins_ok ReadLast s who k = k
begins_ok Stopped s who k = reads_ok trail_start s who k (start_ok s.grid.door)

begun_ok : (o : Option Comer) (s : Trailed) (who : ℕ) → TrailsOk s → TrailsOk (begun_by o s who)
begun_ok None s who k = k
begun_ok (Some c) s who k = begins_ok c.next s who k

does_ok : (a : Act) (s : Trailed) → TrailsOk s → TrailsOk (does a s)
does_ok (Takes e) s k = record {
  trail = λ a. trail_stays s.grid.door (happens s.grid e).door (s.trail a).found (s.trail a).doors (s.trail a).ahead (door_happens s.grid e) (k.trail a);
  known = λ a p c. door_happens s.grid e p (k.known a p c);
}
does_ok (BeginsTrail who) s k = begun_ok (slice_get s.grid.comers who) s who k
does_ok (FollowsTrail who) s k = reads_ok (s.trail who) s who k (k.trail who)

all_does_ok : (more : List Act) (s : Trailed) → TrailsOk s → TrailsOk (does_all more s)
all_does_ok [] s k = k
all_does_ok (a ∷ more) s k = all_does_ok more (does a s) (does_ok a s k)

pub trails_ok : (ids : List ℕ) (more : List Act) → TrailsOk (does_all more (trail_opening ids))
trails_ok ids more = all_does_ok more (trail_opening ids) (record { trail = λ a. none_ok (opening ids).door; known = λ a p c. absurd (nowhere p c) })

-- what the trail z knows, begun in the grid g, where its comer's trails have found the places `known`
record Knows (g : Grid) (known : List ℕ) (z : Trail) : Type 0 where
  leads : Leads (length g.comers) (λ p. g.door p ≡ 1) z
  seen : (p : ℕ) → Contains known p → (g.door p ≡ 1) ⊎ Contains z.found p

follows_keeps : (n : ℕ) (door : ℕ → ℕ) (ps : List Spot) (z : Trail) (p : ℕ) → Contains z.found p → Contains (follows n door ps z).found p
follows_keeps n door [] z p c = c
follows_keeps n door (q ∷ rest) z p c = found_before (door (place q.row q.column)) (place q.row q.column) p z.found c

knows_read : (g : Grid) (door : ℕ → ℕ) (n : ℕ) → n ≡ length g.comers → ((p : ℕ) → g.door p ≡ 1 → door p ≡ 1) → (known : List ℕ) (z : Trail) → Knows g known z
    → Knows g (known ++ (follows n door z.ahead z).found) (follows n door z.ahead z)
knows_read g door n e mono known z k = record {
  leads = subst (λ (m : ℕ). Leads (length g.comers) (λ p. g.door p ≡ 1) (follows m door z.ahead z)) (sym e) (leads_follows (length g.comers) (λ p. g.door p ≡ 1) door mono z z.ahead refl k.leads);
  seen = λ p c. elim (Contains-append_cases known (follows n door z.ahead z).found p c) [
    | inl h ↦ elim (k.seen p h) [ inl d ↦ inl d | inr f ↦ inr (follows_keeps n door z.ahead z p f) ]
    | inr h ↦ inr h
  ];
}

record Since (g : Grid) (who : ℕ) (t : Trailed) : Type 0 where
  knows : Knows g (t.known who) (t.trail who)
  mono : (p : ℕ) → g.door p ≡ 1 → t.grid.door p ≡ 1
  size : length t.grid.comers ≡ length g.comers

module _ (g : Grid) (who : ℕ) (t : Trailed) where
  -- who reads, of the trail z
  since_own : (z : Trail) → ((p : ℕ) → g.door p ≡ 1 → t.grid.door p ≡ 1) → length t.grid.comers ≡ length g.comers → Knows g (t.known who) z → Since g who (reads_trail z t who)
  since_own z mono size k =
      let after : Trail = follows (length t.grid.comers) t.grid.door z.ahead z in
      let new : Knows g (t.known who ++ after.found) after = knows_read g t.grid.door (length t.grid.comers) size mono (t.known who) z k in
      record {
        knows = subst (λ (y : Trail). Knows g ((reads_trail z t who).known who) y) (sym (cond-true (who == who) after (t.trail who) (eq-eqb who who refl)))
            (subst (λ (ps : List ℕ). Knows g ps after) (sym (cond-true (who == who) (t.known who ++ after.found) (t.known who) (eq-eqb who who refl))) new);
        mono = mono;
        size = size;
      }

  -- another reads
  since_other : (z : Trail) (i : ℕ) → who ≢ i → Since g who t → Since g who (reads_trail z t i)
  since_other z i ne k =
      let after : Trail = follows (length t.grid.comers) t.grid.door z.ahead z in
      record {
        knows = subst (λ (y : Trail). Knows g ((reads_trail z t i).known who) y) (sym (cond-false (who == i) after (t.trail who) (ne_eqb who i ne)))
            (subst (λ (ps : List ℕ). Knows g ps (t.trail who)) (sym (cond-false (who == i) (t.known i ++ after.found) (t.known who) (ne_eqb who i ne))) k.knows);
        mono = k.mono;
        size = k.size;
      }

  since_begins : (m : Next) (i : ℕ) → who ≢ i → Since g who t → Since g who (begins_trail m t i)
  since_begins WriteLast i ne k = k
  since_begins ReadDoor i ne k = k
  since_begins CloseDoor i ne k = k
  since_begins ReadLast i ne k = k
  since_begins Stopped i ne k = since_other trail_start i ne k

  since_begun : (o : Option Comer) (i : ℕ) → who ≢ i → Since g who t → Since g who (begun_by o t i)
  since_begun None i ne k = k
  since_begun (Some c) i ne k = since_begins c.next i ne k

  since_does : (a : Act) → a ≢ BeginsTrail who → Since g who t → Since g who (does a t)
  since_does (Takes e) nb k = record {
    knows = k.knows;
    mono = λ p d. door_happens t.grid e p (k.mono p d);
    size = length_acts e t.grid (slice_get t.grid.comers (actor e)) ∙ k.size;
  }
  since_does (BeginsTrail i) nb k = since_begun (slice_get t.grid.comers i) i (λ q. nb (ap BeginsTrail (sym q))) k
  since_does (FollowsTrail i) nb k =
      elim (cases_eq who i) [
        | inl q ↦ subst (λ (j : ℕ). Since g who (reads_trail (t.trail j) t j)) q (since_own (t.trail who) k.mono k.size k.knows)
        | inr ne ↦ since_other (t.trail i) i ne k
      ]

since_all : (g : Grid) (who : ℕ) (more : List Act) (t : Trailed) → NoTrailBegins who more → Since g who t → Since g who (does_all more t)
since_all g who [] t nb k = k
since_all g who (a ∷ more) t nb k = since_all g who more (does a t) nb.1 (since_does g who t a nb.0 k)

-- a trail that is over has found each door that was closed before it began
pub whole : (g : Grid) → Kept g → Diagonals g → (z : Trail) → Leads (length g.comers) (λ p. g.door p ≡ 1) z → z.ahead ≡ [] → (p : ℕ) → g.door p ≡ 1 → Contains z.found p
whole g k dg z leads over p c =
    let w = k.closer p c in
    let far = dg w.0 w.1 w.2 (wrote_visits p w.1 (passed_wrote p w.1 w.3.0)).0 in
    let way = way_found (length g.comers) (λ p. g.door p ≡ 1) z leads over w.1.turns (λ q v. k.shut w.0 w.1 w.2 q (inl v)) (omega (arith, far, count_by-le-length has_started g.comers)) in
    elim w.3.0 [
      | inl l ↦ way.1 p l
      | inr h ↦ subst (λ (j : ℕ). Contains z.found j) h.0 (way.0 (k.shut w.0 w.1 w.2 (at w.1.turns) (inr (refl, h.1))))
    ]

pub trails_whole : (ids : List ℕ) → Different ids → TrailsWhole ids
trails_whole ids d before during who x nb hx st over =
    let s = does_all before (trail_opening ids) in
    let g = s.grid in
    let e : g ≡ run (events_in before) (opening ids) = grid_is before (trail_opening ids) in
    let k : Kept g = subst Kept (sym e) (kept ids d (events_in before)) in
    let dg : Diagonals g = diagonals g (not_all_right g k) (not_all_down g k) in
    let ok : AllOk g = subst AllOk (sym e) (all_ok ids (events_in before)) in
    let begun : does (BeginsTrail who) s ≡ reads_trail trail_start s who = ap (λ (o : Option Comer). begun_by o s who) hx ∙ ap (λ (m : Next). begins_trail m s who) st in
    let first : Since g who (does (BeginsTrail who) s) = subst (λ (t : Trailed). Since g who t) (sym begun)
    (since_own g who s trail_start (λ p c. c) refl (record { leads = leads_start (length g.comers) (λ p. g.door p ≡ 1); seen = λ p c. inl ((trails_ok ids before).known who p c) })) in
    let last = since_all g who during (does (BeginsTrail who) s) nb first in
    let z = (does_all during (does (BeginsTrail who) s)).trail who in
    let all = whole g k dg z last.knows.leads over in
    record {
      closed = all;
      stops = λ a c hc sc. all (at c.turns) (k.shut a c hc (at c.turns) (inr (refl, inr sc)));
      way = λ p v. all p (k.shut who x hx p (elim v [ inl l ↦ inl l | inr q ↦ inr (q, inr st) ]));
      seen = λ p c. elim c [
        | inl h ↦ all p ((ok who x hx).known p h)
        | inr h ↦ elim (last.knows.seen p h) [ inl q ↦ all p q | inr f ↦ f ]
      ];
    }

pub trail_doors : (ids : List ℕ) → Different ids → (more : List Act) → TrailDoors (does_all more (trail_opening ids))
trail_doors ids d more =
    let s = does_all more (trail_opening ids) in
    let g = s.grid in
    let e : g ≡ run (events_in more) (opening ids) = grid_is more (trail_opening ids) in
    let k : Kept g = subst Kept (sym e) (kept ids d (events_in more)) in
    let dg : Diagonals g = diagonals g (not_all_right g k) (not_all_down g k) in
    let ok = trails_ok ids more in record {
      by_found = λ a. (ok.trail a).pair;
      by_started = λ a. let b = (ok.trail a).bound in elim b.2 [
        | inl q ↦ omega (arith, b.1, first_after (started g), first_grows (b.0 + 1) (started g + 1) (omega arith))
        | inr w ↦
            let l : w.0 < started g = closed_below g k dg w.0 w.1 ((ok.trail a).closed w.1 w.2) w.4 in
            omega (arith, b.1, first_after (started g), first_grows (b.0 + 1) (started g + 1) (omega (arith, w.3)))
      ];
    }

pub in_order : (ids : List ℕ) (acts : List Act) (a : ℕ) → InOrder ((does_all acts (trail_opening ids)).trail a)
in_order ids acts a =
    let z = (does_all acts (trail_opening ids)).trail a in
    let ok = (trails_ok ids acts).trail a in
    let up : (p : Spot) (rest : List Spot) → z.ahead ≡ p ∷ rest → Ascends ok.order.0 (p ∷ rest) = λ p rest e. subst (λ (ps : List Spot). Ascends ok.order.0 ps) e ok.order.2 in record {
      others = λ p rest r c e h. omega (arith, listed_from (place p.row p.column + 1) r c rest (up p rest e).1 h);
      behind = λ p rest q e h. omega (arith, ok.behind q h, (up p rest e).0);
    }

pub trail_rows : (ids : List ℕ) (acts : List Act) (n a : ℕ) → RowsFollow n ((does_all acts (trail_opening ids)).trail a)
trail_rows ids acts n a = let ok = (trails_ok ids acts).trail a in rows_follow n ok.order.0 ((does_all acts (trail_opening ids)).trail a) ok.order.2

pub start_rows : (n : ℕ) → RowsFollow n trail_start
start_rows n = let ok = start_ok (λ _. 0) in rows_follow n ok.order.0 trail_start ok.order.2
