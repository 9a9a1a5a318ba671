-- A comer that has stopped stays where it is, whatever happens in the grid.
use Rattle.std.proofs.Common.{◌≡◌, ℕ, Bool, true, false, List, [], ◌∷◌, slice_get, slice_set, Some, None, refl, ap, sym, ◌∙◌, subst}
use Rattle.std.specs.Prelude.{Option, length, if◌then◌else◌}
use mathlib.Core.Logic.{dite}
use native.Mathlib.Decide.{ℕ_discrete}
use Rattle.split_core.specs.Places.{at, place}
use Rattle.split_core.specs.Scan.{fresh, is_idle}
use Rattle.split_core.specs.Comer.{wrote, saw_door, closed, saw_last, scans, is_stopped}
use Rattle.split_core.specs.Splitter.{StaysStopped}
use Rattle.split_core.proofs.Lists.{get_set_same, get_set_other}
use Rattle.split_core.specs.Grid.{Grid, Event, Goes, Begins, Scans, Has, goes, begins, reads, acts, actor, happens}
use Rattle.split_core.specs.declared.model.Comer.{Comer}
use Rattle.split_core.specs.declared.model.Scan.{Scan}
use Rattle.split_core.specs.declared.model.Next.{Next}
use Rattle.split_core.specs.declared.model.Next.TheVariants.{WriteLast, ReadDoor, CloseDoor, ReadLast, Stopped}

-- the comer at this position has stopped where the turns of c lead
abbrev StandsStill : List Comer → ℕ → Comer → Type 0
StandsStill comers who c = (c' : Comer) × (slice_get comers who ≡ Some c') × (c'.next ≡ Stopped) × (c'.turns ≡ c.turns)

-- after the comer at w has become v, where v stands still if it is the one at who
set_keeps : (comers : List Comer) (w who : ℕ) (v c : Comer) → slice_get comers who ≡ Some c → c.next ≡ Stopped
    → (w ≡ who → (v.next ≡ Stopped) × (v.turns ≡ c.turns)) → StandsStill (slice_set comers w v) who c
set_keeps comers w who v c h stopped here =
    dite (ℕ_discrete who w)
    (λ e. (let t = here (sym e) in (
      v,
      subst (λ n. slice_get (slice_set comers w v) n ≡ Some v) (sym e)
          (get_set_same comers w v c (subst (λ n. slice_get comers n ≡ Some c) e h)),
      t.0,
      t.1,
    )))
    (λ ne. (c, get_set_other comers w who v c ne h, stopped, refl))

module _ (s : Grid) (who : ℕ) (c : Comer) (h : Has s who c) (stopped : c.next ≡ Stopped) where
  same_comer : (w : ℕ) (y : Comer) → slice_get s.comers w ≡ Some y → w ≡ who → y ≡ c
  same_comer w y b e = let f : Some y ≡ Some c = sym b ∙ (ap (slice_get s.comers) e ∙ h) in cc

  still : StandsStill s.comers who c
  still = (c, h, stopped, refl)

  -- it is another that has yet to go
  goer : (w : ℕ) (y v : Comer) (n : Next) → slice_get s.comers w ≡ Some y → y.next ≡ n → is_stopped n ≡ false → w ≡ who
      → (v.next ≡ Stopped) × (v.turns ≡ c.turns)
  goer w y v n b e f same =
      absurd (let g : n ≡ Stopped = sym e ∙ (ap (λ (x : Comer). x.next) (same_comer w y b same) ∙ stopped) in
      let k : true ≡ false = sym (ap is_stopped g) ∙ f in cc)

  goes_keeps : (n : Next) (w : ℕ) (y : Comer) → slice_get s.comers w ≡ Some y → y.next ≡ n → StandsStill (goes n s w y).comers who c
  goes_keeps WriteLast w y b e = set_keeps s.comers w who (wrote y) c h stopped (goer w y (wrote y) WriteLast b e refl)
  goes_keeps ReadDoor w y b e =
      set_keeps s.comers w who (saw_door y (s.door (at y.turns))) c h stopped (goer w y (saw_door y (s.door (at y.turns))) ReadDoor b e refl)
  goes_keeps CloseDoor w y b e = set_keeps s.comers w who (closed y) c h stopped (goer w y (closed y) CloseDoor b e refl)
  goes_keeps ReadLast w y b e =
      set_keeps s.comers w who (saw_last y (s.last (at y.turns))) c h stopped (goer w y (saw_last y (s.last (at y.turns))) ReadLast b e refl)
  goes_keeps Stopped w y b e = still

  reads_keeps : (z : Scan) (w : ℕ) (y : Comer) → slice_get s.comers w ≡ Some y → StandsStill (reads z s w y).comers who c
  reads_keeps z w y b =
      set_keeps s.comers w who (scans (length s.comers) z y (s.door (place z.row z.column))) c h stopped
      (λ same. (let f = same_comer w y b same in (ap (λ (x : Comer). x.next) f ∙ stopped, ap (λ (x : Comer). x.turns) f)))

  begins_keeps : (n : Next) (w : ℕ) (y : Comer) → slice_get s.comers w ≡ Some y → StandsStill (begins n s w y).comers who c
  begins_keeps WriteLast w y b = still
  begins_keeps ReadDoor w y b = still
  begins_keeps CloseDoor w y b = still
  begins_keeps ReadLast w y b = still
  begins_keeps Stopped w y b = reads_keeps fresh w y b

  goes_on_keeps : (idle : Bool) (w : ℕ) (y : Comer) → slice_get s.comers w ≡ Some y
      → StandsStill (if idle then s else reads y.scan s w y).comers who c
  goes_on_keeps true w y b = still
  goes_on_keeps false w y b = reads_keeps y.scan w y b

  acts_keeps : (e : Event) (o : Option Comer) → slice_get s.comers (actor e) ≡ o → StandsStill (acts e s o).comers who c
  acts_keeps (Goes w) None b = still
  acts_keeps (Begins w) None b = still
  acts_keeps (Scans w) None b = still
  acts_keeps (Goes w) (Some y) b = goes_keeps y.next w y b refl
  acts_keeps (Begins w) (Some y) b = begins_keeps y.next w y b
  acts_keeps (Scans w) (Some y) b = goes_on_keeps (is_idle y.scan) w y b

pub stays_stopped : (more : List Event) (s : Grid) → StaysStopped s more
stays_stopped [] s who c h stopped = (c, h, stopped, refl)
stays_stopped (e ∷ es) s who c h stopped =
    let t = acts_keeps s who c h stopped e (slice_get s.comers (actor e)) refl in
    let u = stays_stopped es (happens s e) who t.0 t.1 t.2 in
    (u.0, u.1, u.2, u.3 ∙ t.3)
