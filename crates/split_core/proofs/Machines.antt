-- What the machine stores follows the grid.
use Rattle.std.proofs.Common.{replicate, Option, Ok, ◌≢◌, ◌≡◌, ℕ, ◌+◌, ◌<◌, List, [], ◌∷◌, ◌++◌, map, length, slice_get, slice_set, slice_index_or}
use Rattle.std.proofs.Common.{Some, refl, ap, ap₂, inl, inr, sym, ◌∙◌, subst, arith, Bool, true, false, ◌==◌, cond, ◌≤◌}
use Rattle.std.proofs.lemmas.Bool.{cases_Bool, cases_eq, or_parts, eq-eqb}
use Rattle.std.proofs.lemmas.List.{length-replicate, get_or-replicate, length-set, length-map, map-set, get_or-set_same, get_or-set_other}
use Rattle.std.proofs.lemmas.List.Sums.{count_by-le-length}
use Rattle.std.proofs.lemmas.Option.{slice_get_within}
use Rattle.std.proofs.Math.Logic.{∥∥₁_elim, ∥∥₁_map}
use Rattle.std.proofs.Props.{props}
use Rattle.split_core.specs.Places.{place, row, column, at}
use Rattle.split_core.specs.Comer.{comer_of, wrote, turned, saw_door, closed, saw_last, has_begun, is_some_turn, has_started}
use Rattle.split_core.specs.Grid.{Grid, Event, Goes, Has, put, with_comer, goes, acts, happens, run, opening, Different}
use Rattle.split_core.specs.Calls.{step_seen, seen_by, seen_of, step_call, stop_of}
use Rattle.split_core.specs.Stored.{walker_of, Agrees, EndsAs, SomeRun, TakesStep}
use Rattle.split_core.specs.Ids.{IsFirstWithId}
use Rattle.split_core.specs.declared.places.TheConstants.{MAX_COMERS}
use Rattle.split_core.specs.declared.model.Comer.{Comer}
use Rattle.split_core.specs.declared.model.Next.{Next}
use Rattle.split_core.specs.declared.model.Next.TheVariants.{WriteLast, ReadDoor, CloseDoor, ReadLast, Stopped}
use Rattle.split_core.specs.declared.model.Turn.{Turn}
use Rattle.split_core.specs.declared.model.Turn.TheVariants.{Right, Down}
use Rattle.split_core.specs.declared.walker.Walker.{Walker}
use Rattle.split_core.specs.declared.seen.Seen.{Seen}
use Rattle.split_core.specs.declared.seen.Seen.TheVariants as seen
use Rattle.split_core.proofs.Lists.{get_map}
use Rattle.split_core.proofs.Positions.{step_goes, stop_at, found}
use Rattle.split_core.proofs.Ways.{place_split, first_next, first_grows}
use Rattle.split_core.proofs.KeptSteps.{put_same, put_other}
use Rattle.split_core.proofs.Collects.{law_diagonals, length_run}

at_start : (ts : List Turn) → is_some_turn ts ≡ false → row ts + column ts ≡ 0
at_start [] h = refl
at_start (t ∷ ts) h = cc

pub place_below : (r c n : ℕ) → r + c < n → place r c < place 0 n
place_below r c n h = omega (arith, place_split r c, first_next (r + c), first_grows (r + c + 1) n (omega arith))

-- a comer stands on a place of the grid
pub within_grid : (ids : List ℕ) (es : List Event) → Different ids → (who : ℕ) (c : Comer) → Has (run es (opening ids)) who c
    → row c.turns + column c.turns < length (run es (opening ids)).comers
within_grid ids es d who c h =
    elim (cases_Bool (has_started c)) [
      | inl t ↦ omega (arith, law_diagonals ids d es who c h t, count_by-le-length has_started (run es (opening ids)).comers)
      | inr f ↦ omega (
        arith,
        at_start c.turns (or_parts (has_begun c.next) (is_some_turn c.turns) f).1,
        slice_get_within (run es (opening ids)).comers who c h,
      )
    ]

-- a walker stands on a place of the grid, for which there are words
pub stands : (last : List ℕ) (doors : List Bool) (walkers : List Walker) (who : ℕ) (r : Walker) → slice_get walkers who ≡ Some r
    → SomeRun last doors walkers → (r.row + r.column < MAX_COMERS) × (place r.row r.column < length last) × (place r.row r.column < length doors)
stands last doors walkers who r h (ids, es, end) =
    let a = end.agrees in
    let s = run es (opening ids) in
    let w = get_map walker_of s.comers who r (subst (λ (rs : List Walker). slice_get rs who ≡ Some r) a.comers h) in
    let n : length walkers ≡ length s.comers = ap length a.comers ∙ length-map s.comers walker_of in
    let m : length s.comers ≡ length ids = length_run es (opening ids) ∙ length-map ids comer_of in
    let c = w.0 in
    let b : row c.turns + column c.turns < length s.comers = within_grid ids es end.differ who c w.1 in
    let e : r.row + r.column ≡ row c.turns + column c.turns = ap (λ (q : Walker). q.row + q.column) w.2 in
    let p = place_below r.row r.column (length walkers) (omega arith) in
    (omega (arith, end.few), omega (arith, a.last_room), omega (arith, a.door_room))

pub after_event : (es : List Event) (e : Event) (s : Grid) → run (es ++ e ∷ []) s ≡ happens (run es s) e
after_event [] e s = refl
after_event (x ∷ es) e s = after_event es e (happens s x)

pub pick : {A B : Type 0} (f : A → B) (b : Bool) (x y : A) → cond b (f x) (f y) ≡ f (cond b x y)
pick f true x y = refl
pick f false x y = refl

module _ (s : Grid) (who : ℕ) (c : Comer) (last : List ℕ) (doors : List Bool) (walkers : List Walker) (a : Agrees last doors walkers s)
    (lr : at c.turns < length last) (dr : at c.turns < length doors) where
  -- a step that changes no word
  pub made : (r' : Walker) (last' : List ℕ) (doors' : List Bool) (c' : Comer) → r' ≡ walker_of c' → last' ≡ last → doors' ≡ doors
      → Agrees last' doors' (slice_set walkers who r') (with_comer s who c')
  made r' last' doors' c' er el ed = record {
    comers = ap₂ (λ (rs : List Walker) (q : Walker). slice_set rs who q) a.comers er ∙ sym (map-set walker_of s.comers who c');
    last_room = ap length el ∙ (a.last_room ∙ ap (place 0) (sym (length-set walkers who r')));
    door_room = ap length ed ∙ (a.door_room ∙ ap (place 0) (sym (length-set walkers who r')));
    lasts = λ p h. ap (λ (l : List ℕ). slice_index_or l p 0) el ∙ a.lasts p (omega (arith, ap length el));
    closed = λ p h. ap (λ (l : List Bool). slice_index_or l p false) ed ∙ a.closed p (omega (arith, ap length ed));
  }

  made_last : (r' : Walker) (last' : List ℕ) (doors' : List Bool) (c' : Comer) → r' ≡ walker_of c'
      → last' ≡ slice_set last (at c.turns) c.id → doors' ≡ doors
      → Agrees last' doors' (slice_set walkers who r')
      (record { last = put s.last (at c.turns) c.id; door = s.door; comers = slice_set s.comers who c' })
  made_last r' last' doors' c' er el ed =
      let b = made r' last doors' c' er refl ed in
      let n : length last' ≡ length last = ap length el ∙ length-set last (at c.turns) c.id in
      record {
        comers = b.comers;
        last_room = n ∙ b.last_room;
        door_room = b.door_room;
        lasts = λ p h. ap (λ (l : List ℕ). slice_index_or l p 0) el ∙ elim (cases_eq p (at c.turns)) [
          | inl q ↦ subst (λ (j : ℕ). slice_index_or (slice_set last (at c.turns) c.id) j 0 ≡ put s.last (at c.turns) c.id j) (sym q)
              (get_or-set_same last (at c.turns) c.id 0 lr ∙ sym (put_same s.last (at c.turns) c.id))
          | inr ne ↦ get_or-set_other last (at c.turns) p c.id 0 ne ∙ (a.lasts p (omega arith) ∙ sym (put_other s.last (at c.turns) c.id p ne))
        ];
        closed = b.closed;
      }

  made_door : (r' : Walker) (last' : List ℕ) (doors' : List Bool) (c' : Comer) → r' ≡ walker_of c' → last' ≡ last
      → doors' ≡ slice_set doors (at c.turns) true
      → Agrees last' doors' (slice_set walkers who r')
      (record { last = s.last; door = put s.door (at c.turns) 1; comers = slice_set s.comers who c' })
  made_door r' last' doors' c' er el ed =
      let b = made r' last' doors c' er el refl in
      let n : length doors' ≡ length doors = ap length ed ∙ length-set doors (at c.turns) true in
      record {
        comers = b.comers;
        last_room = b.last_room;
        door_room = n ∙ b.door_room;
        lasts = b.lasts;
        closed = λ p h. ap (λ (l : List Bool). slice_index_or l p false) ed ∙ elim (cases_eq p (at c.turns)) [
          | inl q ↦ subst (λ (j : ℕ). slice_index_or (slice_set doors (at c.turns) true) j false ≡ (put s.door (at c.turns) 1 j == 1)) (sym q)
              (get_or-set_same doors (at c.turns) true false dr
              ∙ sym (eq-eqb (put s.door (at c.turns) 1 (at c.turns)) 1 (put_same s.door (at c.turns) 1)))
          | inr ne ↦ get_or-set_other doors (at c.turns) p true false ne
              ∙ (a.closed p (omega arith) ∙ ap (λ (w : ℕ). w == 1) (sym (put_other s.door (at c.turns) 1 p ne)))
        ];
      }

  door_test : slice_index_or doors (at c.turns) false ≡ (s.door (at c.turns) == 1)
  door_test = a.closed (at c.turns) dr

  last_test : slice_index_or last (at c.turns) 0 ≡ s.last (at c.turns)
  last_test = a.lasts (at c.turns) lr

  follows : (m : Next) → c.next ≡ m → (r' : Walker) (last' : List ℕ) (doors' : List Bool) (w : Seen)
      → TakesStep m (walker_of c) last doors r' last' doors' w
      → Agrees last' doors' (slice_set walkers who r') (goes m s who c) × (step_seen m s c ≡ Some w)
  follows WriteLast e r' last' doors' w (er, el, ed, ew) = (made_last r' last' doors' (wrote c) er el ed, ap Some (sym ew))
  follows ReadDoor e r' last' doors' w (er, el, ed, ew) = (
    made r' last' doors' (saw_door c (s.door (at c.turns)))
        (er ∙ (ap (λ (b : Bool). cond b (walker_of (turned Right c (s.door (at c.turns)))) (record (walker_of c) { next = CloseDoor }))
        door_test ∙ pick walker_of (s.door (at c.turns) == 1) _ _)) el ed,
    ap Some (sym (ew ∙ ap (λ (b : Bool). cond b (seen.Right (at c.turns) (place (row c.turns) (column c.turns + 1)))
        (seen.SawOpen (at c.turns))) door_test)),
  )
  follows CloseDoor e r' last' doors' w (er, el, ed, ew) = (made_door r' last' doors' (closed c) er el ed, ap Some (sym ew))
  follows ReadLast e r' last' doors' w (er, el, ed, ew) = (
    made r' last' doors' (saw_last c (s.last (at c.turns)))
        (er ∙ (ap (λ (v : ℕ). cond (v == c.id) (record (walker_of c) { next = Stopped }) (walker_of (turned Down c v))) last_test
        ∙ pick walker_of (s.last (at c.turns) == c.id) _ _)) el ed,
    ap Some (sym (ew ∙ ap (λ (v : ℕ). cond (v == c.id) (seen.Stopped (at c.turns))
        (seen.Down (at c.turns) v (place (row c.turns + 1) (column c.turns)))) last_test)),
  )
  follows Stopped e r' last' doors' w h = absurd h

-- one step of the machine is one step of the grid, whatever grid it stands for
pub step_follows : (last : List ℕ) (doors : List Bool) (walkers : List Walker) (who : ℕ) (r : Walker) → slice_get walkers who ≡ Some r
    → place r.row r.column < length last → place r.row r.column < length doors
    → (r' : Walker) (last' : List ℕ) (doors' : List Bool) (w : Seen) → TakesStep r.next r last doors r' last' doors' w
    → (s : Grid) → Agrees last doors walkers s → Agrees last' doors' (slice_set walkers who r') (happens s (Goes who))
    × (seen_of s (Goes who) ≡ Some w)
step_follows last doors walkers who r h lr dr r' last' doors' w k s a =
    let f = get_map walker_of s.comers who r (subst (λ (rs : List Walker). slice_get rs who ≡ Some r) a.comers h) in
    let c = f.0 in
    let p : at c.turns ≡ place r.row r.column = ap (λ (q : Walker). place q.row q.column) (sym f.2) in
    let g = follows s who c last doors walkers a (omega arith) (omega arith) c.next refl r' last' doors' w
    (subst (λ (q : Walker). TakesStep q.next q last doors r' last' doors' w) f.2 k) in
    subst (λ (o : Option Comer). Agrees last' doors' (slice_set walkers who r') (acts (Goes who) s o) × (seen_by (Goes who) s o ≡ Some w)) (sym f.1) g

-- one more event of a run
pub ends_after : (last last' : List ℕ) (doors doors' : List Bool) (walkers walkers' : List Walker) (e : Event)
    → ((s : Grid) → Agrees last doors walkers s → Agrees last' doors' walkers' (happens s e))
    → (ids : List ℕ) (es : List Event) → EndsAs ids es last doors walkers → EndsAs ids (es ++ e ∷ []) last' doors' walkers'
ends_after last last' doors doors' walkers walkers' e h ids es end = record {
  differ = end.differ;
  few = end.few;
  agrees = subst (λ (s : Grid). Agrees last' doors' walkers' s) (sym (after_event es e (opening ids))) (h (run es (opening ids)) end.agrees);
}

module _ (last : List ℕ) (doors : List Bool) (walkers : List Walker) (who : ℕ) (r : Walker) (h : slice_get walkers who ≡ Some r)
    (now : ∥ SomeRun last doors walkers ∥₁) where
  pub on_grid : r.row + r.column < MAX_COMERS
  on_grid = ∥∥₁_elim now (search props) (λ z. (stands last doors walkers who r h z).0)

  pub last_room : place r.row r.column < length last
  last_room = ∥∥₁_elim now (search props) (λ z. (stands last doors walkers who r h z).1)

  pub door_room : place r.row r.column < length doors
  door_room = ∥∥₁_elim now (search props) (λ z. (stands last doors walkers who r h z).2)

  module _ (r0 r' : Walker) (last0 last1 last' : List ℕ) (doors0 doors1 doors' : List Bool) (w : Seen) (er : r0 ≡ r) (el : last0 ≡ last)
      (ed : doors0 ≡ doors)
      (k : TakesStep r0.next r0 last0 doors0 r' last1 doors1 w) (l1 : last' ≡ last1) (d1 : doors' ≡ doors1) where
    pub all_follow : (s : Grid) → Agrees last doors walkers s → Agrees last' doors' (slice_set walkers who r') (happens s (Goes who))
        × (seen_of s (Goes who) ≡ Some w)
    all_follow s a =
        let k1 = subst (λ (q : Walker). TakesStep q.next q last0 doors0 r' last1 doors1 w) er k in
        let k2 = subst (λ (l : List ℕ). TakesStep r.next r l doors0 r' last1 doors1 w) el k1 in
        let k3 = subst (λ (d : List Bool). TakesStep r.next r last d r' last1 doors1 w) ed k2 in
        let k4 = subst (λ (l : List ℕ). TakesStep r.next r last doors r' l doors1 w) (sym l1) k3 in
        let k5 = subst (λ (d : List Bool). TakesStep r.next r last doors r' last' d w) (sym d1) k4 in
        step_follows last doors walkers who r h last_room door_room r' last' doors' w k5 s a

    -- what a step owes to its contract
    pub step_made : (ids : List ℕ) (es : List Event) → EndsAs ids es last doors walkers → (id : ℕ) → IsFirstWithId walkers id who r → r.next ≢ Stopped
        → (step_call (run es (opening ids)) id ≡ Ok (Goes who)) × (seen_of (run es (opening ids)) (Goes who) ≡ Some w)
        × EndsAs ids (es ++ Goes who ∷ []) last' doors' (slice_set walkers who r')
    step_made ids es end id f n = (
      step_goes walkers (run es (opening ids)) end.agrees.comers id who r f n,
      (all_follow (run es (opening ids)) end.agrees).1,
      ends_after last last' doors doors' walkers (slice_set walkers who r') (Goes who) (λ s a. (all_follow s a).0) ids es end,
    )

    pub then_reached : ∥ SomeRun last' doors' (slice_set walkers who r') ∥₁
    then_reached =
        ∥∥₁_map now (λ z. (
          z.0,
          z.1 ++ Goes who ∷ [],
          ends_after last last' doors doors' walkers (slice_set walkers who r') (Goes who) (λ s a. (all_follow s a).0) z.0 z.1 z.2,
        ))

map_twice : {X Y Z : Type 0} (f : X → Y) (g : Y → Z) (xs : List X) → map (λ x. g (f x)) xs ≡ map g (map f xs)
map_twice f g [] = refl
map_twice f g (x ∷ xs) = ap (λ zs. g (f x) ∷ zs) (map_twice f g xs)

-- the words and walkers of an opening
pub opening_ends : (ids : List ℕ) (last : List ℕ) (doors : List Bool) (walkers : List Walker) → Different ids → length ids ≤ MAX_COMERS
    → last ≡ replicate (place 0 (length ids)) 0 → doors ≡ replicate (place 0 (length ids)) false
    → walkers ≡ map (λ id. walker_of (comer_of id)) ids → EndsAs ids [] last doors walkers
opening_ends ids last doors walkers differ few el ed er =
    let n : length walkers ≡ length ids = ap length er ∙ length-map ids (λ (id : ℕ). walker_of (comer_of id)) in
    let l : length last ≡ place 0 (length ids) = ap length el ∙ length-replicate (place 0 (length ids)) 0 in
    let d : length doors ≡ place 0 (length ids) = ap length ed ∙ length-replicate (place 0 (length ids)) false in
    record {
      differ = differ;
      few = few;
      agrees = record {
        comers = er ∙ map_twice comer_of walker_of ids;
        last_room = l ∙ ap (place 0) (sym n);
        door_room = d ∙ ap (place 0) (sym n);
        lasts = λ p h. ap (λ (xs : List ℕ). slice_index_or xs p 0) el ∙ get_or-replicate (place 0 (length ids)) p 0 0 (omega arith);
        closed = λ p h. ap (λ (xs : List Bool). slice_index_or xs p false) ed ∙ get_or-replicate (place 0 (length ids)) p false false (omega arith);
      };
    }

-- the place where a walker has stopped is that of its comer
pub stop_told : (walkers : List Walker) (s : Grid) (e : walkers ≡ map walker_of s.comers) (id k : ℕ) (r : Walker)
    → IsFirstWithId walkers id k r → r.next ≡ Stopped → Some (place r.row r.column) ≡ stop_of s id
stop_told walkers s e id k r f st =
    ap (λ (q : Walker). Some (place q.row q.column)) (found walkers s e id k r f).2 ∙ sym (stop_at walkers s e id k r f st)
