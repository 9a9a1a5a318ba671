-- The seats of comers that have stopped.
use Rattle.std.proofs.Common.{◌≡◌, ℕ, ◌+◌, ◌<◌, ◌∷◌, Some, Option, refl, ap, sym, ◌∙◌, subst, arith, true, false, true≢false, ◌==◌, cond, ◌≤◌}
use Rattle.std.proofs.lemmas.Bool.{cond-true, eq-eqb}
use Rattle.atomic_table.specs.Table.{Me, rest}
use Rattle.split_core.specs.Places.{place, at, row, column, diagonal, Numbered}
use Rattle.split_core.specs.Scan.{fresh}
use Rattle.split_core.specs.Comer.{turned, is_stopped}
use Rattle.split_core.specs.Splitter.{steps_here}
use Rattle.split_core.specs.Stored.{walker_of, cursor_of, fresh_cursor}
use Rattle.split_core.specs.declared.places.TheConstants.{MAX_COMERS}
use Rattle.split_core.specs.declared.model.Comer.{Comer}
use Rattle.split_core.specs.declared.model.Scan.{Scan}
use Rattle.split_core.specs.declared.model.Next.{Next}
use Rattle.split_core.specs.declared.model.Next.TheVariants.{WriteLast, ReadDoor, CloseDoor, ReadLast, Stopped}
use Rattle.split_core.specs.declared.model.Turn.TheVariants.{Right, Down}
use Rattle.split_core.specs.declared.cursor.Cursor.{Cursor}
use Rattle.split_core.specs.declared.walker.Walker.{Walker}
use Rattle.split_grid.specs.Rule.{becomes, is_dealt, comer_in}
use Rattle.split_grid.specs.Steps.{stepped, strode, IsSeatOf}
use Rattle.split_grid.specs.Tokens.{Walks, Rests}
use Rattle.split_grid.specs.declared.rule.View.{View}

stepped_scan : (m : Next) (c : Comer) (word : ℕ) → (stepped m c word).scan ≡ c.scan
stepped_scan WriteLast c word = refl
stepped_scan ReadDoor c word =
    elim (word == 1) as (λ b. (cond b (turned Right c word) (record c { next = CloseDoor; read = word; steps = c.steps + 1 })).scan
    ≡ c.scan) [ true ↦ refl | false ↦ refl ]
stepped_scan CloseDoor c word = refl
stepped_scan ReadLast c word =
    elim (word == c.id) as (λ b. (cond b (record c { next = Stopped; read = word; steps = c.steps + 1 }) (turned Down c word)).scan
    ≡ c.scan) [ true ↦ refl | false ↦ refl ]
stepped_scan Stopped c word = refl

-- a step on the way leaves the scan alone
pub strode_scan : (c : Comer) (word : ℕ) → (strode c word).scan ≡ c.scan
strode_scan c word = stepped_scan c.next c word

stepped_seen : (m : Next) (c : Comer) (word : ℕ) → (stepped m c word).seen ≡ c.seen
stepped_seen WriteLast c word = refl
stepped_seen ReadDoor c word =
    elim (word == 1) as (λ b. (cond b (turned Right c word) (record c { next = CloseDoor; read = word; steps = c.steps + 1 })).seen
    ≡ c.seen) [ true ↦ refl | false ↦ refl ]
stepped_seen CloseDoor c word = refl
stepped_seen ReadLast c word =
    elim (word == c.id) as (λ b. (cond b (record c { next = Stopped; read = word; steps = c.steps + 1 }) (turned Down c word)).seen
    ≡ c.seen) [ true ↦ refl | false ↦ refl ]
stepped_seen Stopped c word = refl

-- a step on the way sees no place closed
pub strode_seen : (c : Comer) (word : ℕ) → (strode c word).seen ≡ c.seen
strode_seen c word = stepped_seen c.next c word

first_door : ((r c : ℕ) → Numbered r c) → 0 ≡ place 0 0
first_door numbered = sym ((numbered 0 0).number)

first_inside : ((r c : ℕ) → Numbered r c) → (d n : ℕ) → d < n → place 0 0 < place 0 n
first_inside numbered d n h = let some : 0 + 0 < n = omega arith in (numbered 0 0).within n some

module _ {S G : Type 0} (slots : ℕ) (numbered : (r c : ℕ) → Numbered r c) where
  -- one that has just stopped
  pub newly_rests : (m : Me S (View G)) (w : Walker) → w ≡ walker_of (comer_in m.0) → w.next ≡ Stopped → is_dealt m.0.role ≡ true
      → (comer_in m.0).scan ≡ fresh → diagonal (comer_in m.0).turns < m.0.comers → m.0.comers ≤ MAX_COMERS → slots ≡ place 0 m.0.comers
      → Rests slots m w
  newly_rests m w stored stopped dealt new inside few sized =
      let is : w.cursor ≡ fresh_cursor = ap (λ (x : Walker). x.cursor) stored ∙ ap cursor_of new in
      let none : w.cursor.doors ≡ 0 = ap (λ (x : Cursor). x.doors) is in
      record {
        dealt = dealt;
        stored =
            stored ∙ ap (λ z. record (walker_of (comer_in m.0)) { cursor = cursor_of z })
            (new ∙ sym (cond-true (w.cursor.doors == 0) fresh (comer_in m.0).scan (eq-eqb w.cursor.doors 0 none)));
        stopped = stopped;
        few = few;
        sized = sized;
        inside = inside;
        counted = none ∙ (first_door numbered ∙ ap (λ (x : Cursor). place x.row x.column) (sym is));
        room = omega (arith, none);
        next =
            λ _. subst (λ (x : Cursor). place x.row x.column < place 0 m.0.comers) (sym is)
            (first_inside numbered (diagonal (comer_in m.0).turns) m.0.comers inside);
        ended = λ o. absurd (true≢false (sym o ∙ ap (λ (x : Cursor). x.over) is));
      }

  -- one that begins a new scan
  pub begins_anew : (m : Me S (View G)) (w : Walker) → Rests slots m w → Rests slots m record w { cursor = fresh_cursor }
  begins_anew m w h = record {
    dealt = h.dealt;
    stored = ap (λ (x : Walker). record x { cursor = fresh_cursor }) h.stored;
    stopped = h.stopped;
    few = h.few;
    sized = h.sized;
    inside = h.inside;
    counted = first_door numbered;
    room = omega arith;
    next = λ _. first_inside numbered (diagonal (comer_in m.0).turns) m.0.comers h.inside;
    ended = λ o. absurd (true≢false (sym o));
  }

-- where a comer that has stopped stands
pub place_inside : {S G : Type 0} (slots : ℕ) (m : Me S (View G)) (w : Walker) → ((r c : ℕ) → Numbered r c) → Rests slots m w
    → place w.row w.column < place 0 m.0.comers
place_inside slots m w numbered h =
    let c = comer_in m.0 in
    subst (λ q. q < place 0 m.0.comers) (ap (λ (x : Walker). place x.row x.column) (sym h.stored))
    ((numbered (row c.turns) (column c.turns)).within m.0.comers h.inside)

module _ {T G : Type 0} (fits : G → ℕ → T → Type 0) where
  abbrev Seated : Type 0
  Seated = Me (Option T) (View G)

  -- the slot of the place where a comer has stopped
  pub home_slot : (m m' : Seated) (w : Walker) (c : Comer) (p : ℕ) → IsSeatOf fits m c m' → w ≡ walker_of (comer_in m'.0)
      → w.next ≡ Stopped → p ≡ place w.row w.column
      → (x : T) × (m'.1 ≡ (p, Some x) ∷ rest m'.1) × fits m.0.tag p x
  home_slot m m' w c p st stored stopped at_p =
      let same : comer_in m'.0 ≡ c = ap (λ (v : View G). comer_in v) st.view in
      let end : c.next ≡ Stopped = ap (λ (x : Comer). x.next) (sym same) ∙ (ap (λ (x : Walker). x.next) (sym stored) ∙ stopped) in
      let spot : at c.turns ≡ p = ap (λ (x : Comer). at x.turns) (sym same) ∙ (ap (λ (x : Walker). place x.row x.column) (sym stored) ∙ sym at_p) in
      let s = st.stopped end in
      let held : m'.1 ≡ (p, Some s.0) ∷ m.1 = s.1 ∙ ap (λ q. (q, Some s.0) ∷ m.1) spot in
      (s.0, held ∙ ap (λ l. (p, Some s.0) ∷ l) (ap rest (sym held)), subst (λ q. fits m.0.tag q s.0) spot s.2)

  -- one that has not stopped goes on
  pub still_walks : (slots : ℕ) (m m' : Seated) (w w' : Walker) (word : ℕ) → Walks slots m w
      → IsSeatOf fits m (strode (comer_in m.0) word) m' → w' ≡ walker_of (comer_in m'.0) → is_stopped w'.next ≡ false
      → Walks slots m' w'
  still_walks slots m m' w w' word h st stored going =
      let same : comer_in m'.0 ≡ strode (comer_in m.0) word = ap (λ (u : View G). comer_in u) st.view in
      let many : m'.0.comers ≡ m.0.comers = ap (λ (u : View G). u.comers) st.view in
      let stands : walker_of (strode (comer_in m.0) word) ≡ w' = ap walker_of (sym same) ∙ sym stored in
      let unscanned : (strode (comer_in m.0) word).scan ≡ fresh = strode_scan (comer_in m.0) word ∙ h.unscanned in
      let bounded = st.bounded (ap (λ (z : Scan). z.doors) unscanned) in
      record {
        dealt = ap (λ (u : View G). is_dealt u.role) st.view;
        stored = stored;
        going = going;
        few = omega (arith, h.few, many);
        sized = h.sized ∙ ap (place 0) (sym many);
        inside = omega (arith, st.inside, many, ap (λ (x : Comer). diagonal x.turns) same);
        unscanned = ap (λ (x : Comer). x.scan) same ∙ unscanned;
        unseen = ap (λ (x : Comer). x.seen) same ∙ (strode_seen (comer_in m.0) word ∙ h.unseen);
        unlooked = ap (λ (u : View G). u.looks) st.view ∙ h.unlooked;
        bounded = omega (
          arith,
          bounded,
          ap (λ (x : Comer). x.steps) same,
          ap (λ (x : Comer). diagonal x.turns) same,
          ap (λ (x : Walker). steps_here x.next) stands,
        );
      }

  pub home_rests : (slots : ℕ) (numbered : (r c : ℕ) → Numbered r c) (m m' m'' : Seated) (w w' : Walker) (word : ℕ) → Walks slots m w
      → IsSeatOf fits m (strode (comer_in m.0) word) m' → m''.0 ≡ m'.0 → w' ≡ walker_of (comer_in m'.0) → w'.next ≡ Stopped
      → Rests slots m'' w'
  home_rests slots numbered m m' m'' w w' word h st kept stored stopped =
      let v : m''.0 ≡ becomes m.0 (strode (comer_in m.0) word) = kept ∙ st.view in
      let same : comer_in m''.0 ≡ strode (comer_in m.0) word = ap (λ (u : View G). comer_in u) v in
      let many : m''.0.comers ≡ m.0.comers = ap (λ (u : View G). u.comers) v in
      newly_rests slots numbered m'' w'
      (stored ∙ ap (λ (u : View G). walker_of (comer_in u)) (sym kept)) stopped (ap (λ (u : View G). is_dealt u.role) v)
      (ap (λ (x : Comer). x.scan) same ∙ (strode_scan (comer_in m.0) word ∙ h.unscanned))
      (omega (arith, st.inside, many, ap (λ (x : Comer). diagonal x.turns) same)) (omega (arith, h.few, many)) (h.sized ∙ ap (place 0) (sym many))
