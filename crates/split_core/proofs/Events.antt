-- An event that isn't allowed changes nothing; one that is allowed is one step of its comer.
use Rattle.std.proofs.Common.{◌≡◌, ◌≢◌, ℕ, zero, suc, ◌+◌, ◌<◌, Bool, true, false, ◌==◌, ◌||◌, ◌⊎◌, inl, inr, slice_get, Some, None, Option, refl, ap}
use Rattle.std.proofs.Common.{sym, ◌∙◌, subst, arith, cond}
use Rattle.std.specs.Prelude.{IsSome, length}
use Rattle.std.proofs.lemmas.Bool.{cases_Bool, cond-true, cond-false, ne_eqb}
use Rattle.split_core.specs.Places.{at, place}
use Rattle.split_core.specs.Scan.{fresh, is_idle}
use Rattle.split_core.specs.Comer.{turned, wrote, saw_door, closed, saw_last, scans, is_stopped}
use Rattle.split_core.specs.Grid.{Grid, Event, Goes, Begins, Scans, Has, goes, begins, reads, acts, actor}
use Rattle.split_core.specs.Calls.{step_seen, door_seen, seen_by}
use Rattle.split_core.specs.Allowed.{IsUnderWay, May, TakesOneStep}
use Rattle.split_core.specs.declared.model.Comer.{Comer}
use Rattle.split_core.specs.declared.model.Scan.{Scan}
use Rattle.split_core.specs.declared.model.Next.{Next}
use Rattle.split_core.specs.declared.model.Next.TheVariants.{WriteLast, ReadDoor, CloseDoor, ReadLast, Stopped}
use Rattle.split_core.specs.declared.model.Turn.TheVariants.{Right, Down}
use Rattle.split_core.proofs.Lists.{get_set_same, get_set_others}

-- scans under way
both_false : (a b : Bool) → (a || b) ≡ false → (a ≡ false) × (b ≡ false)
both_false true b h = cc
both_false false b h = (refl, h)

more_than_none : (n : ℕ) → (n == 0) ≡ false → 0 < n
more_than_none zero h = cc
more_than_none (suc n) h = omega arith

under_way : (z : Scan) → is_idle z ≡ false → IsUnderWay z
under_way z h = let both = both_false (z.doors == 0) z.over h in record { begun = more_than_none z.doors both.0; open_yet = both.1 }

busy : (z : Scan) → IsUnderWay z → is_idle z ≡ false
busy z h = ap (λ b. b || z.over) (ne_eqb z.doors 0 (λ e. omega (arith, e, h.begun))) ∙ h.open_yet

-- one step of a comer
abbrev IsOneStep : Comer → Comer → Type 0
IsOneStep c c' = (c'.id ≡ c.id) × (c'.steps ≡ c.steps + 1)

saw_door_one : (c : Comer) (word : ℕ) → IsOneStep c (saw_door c word)
saw_door_one c word =
    elim (word == 1) as (λ b. IsOneStep c
    (cond b (turned Right c word) (record c { next = CloseDoor; read = word; steps = c.steps + 1 }))) [ true ↦ (refl, refl) | false ↦ (refl, refl) ]

saw_last_one : (c : Comer) (word : ℕ) → IsOneStep c (saw_last c word)
saw_last_one c word =
    elim (word == c.id) as (λ b. IsOneStep c
    (cond b (record c { next = Stopped; read = word; steps = c.steps + 1 }) (turned Down c word))) [ true ↦ (refl, refl) | false ↦ (refl, refl) ]

module _ (s : Grid) (who : ℕ) (c : Comer) where
  goes_idle : (n : Next) → ¬ (n ≢ Stopped) → goes n s who c ≡ s
  goes_idle WriteLast denied = absurd (denied (λ e. cc))
  goes_idle ReadDoor denied = absurd (denied (λ e. cc))
  goes_idle CloseDoor denied = absurd (denied (λ e. cc))
  goes_idle ReadLast denied = absurd (denied (λ e. cc))
  goes_idle Stopped denied = refl

  begins_idle : (n : Next) → n ≢ Stopped → begins n s who c ≡ s
  begins_idle WriteLast denied = refl
  begins_idle ReadDoor denied = refl
  begins_idle CloseDoor denied = refl
  begins_idle ReadLast denied = refl
  begins_idle Stopped denied = absurd (denied refl)

  goes_shows : (n : Next) → IsSome (step_seen n s c) → n ≢ Stopped
  goes_shows WriteLast h e = cc
  goes_shows ReadDoor h e = cc
  goes_shows CloseDoor h e = cc
  goes_shows ReadLast h e = cc
  goes_shows Stopped h e = cc

  shows_goes : (n : Next) → n ≢ Stopped → IsSome (step_seen n s c)
  shows_goes WriteLast going = refl
  shows_goes ReadDoor going = refl
  shows_goes CloseDoor going = refl
  shows_goes ReadLast going = refl
  shows_goes Stopped going = absurd (going refl)

  -- the step, where the comer stands at `who`
  abbrev Stepped : Grid → Type 0
  Stepped s' = (c' : Comer) × (slice_get s'.comers who ≡ Some c') × (c'.id ≡ c.id) × (c'.steps ≡ c.steps + 1)

  module _ (h : Has s who c) where
    reads_step : (z : Scan) → Stepped (reads z s who c)
    reads_step z = let c' = scans (length s.comers) z c (s.door (place z.row z.column)) in (c', get_set_same s.comers who c' c h, refl, refl)

    goes_step : (n : Next) → n ≢ Stopped → Stepped (goes n s who c)
    goes_step WriteLast going = (wrote c, get_set_same s.comers who (wrote c) c h, refl, refl)
    goes_step ReadDoor going =
        let c' = saw_door c (s.door (at c.turns)) in
        let one = saw_door_one c (s.door (at c.turns)) in
        (c', get_set_same s.comers who c' c h, one.0, one.1)
    goes_step CloseDoor going = (closed c, get_set_same s.comers who (closed c) c h, refl, refl)
    goes_step ReadLast going =
        let c' = saw_last c (s.last (at c.turns)) in
        let one = saw_last_one c (s.last (at c.turns)) in
        (c', get_set_same s.comers who c' c h, one.0, one.1)
    goes_step Stopped going = absurd (going refl)

    begins_step : (n : Next) → n ≡ Stopped → Stepped (begins n s who c)
    begins_step WriteLast e = cc
    begins_step ReadDoor e = cc
    begins_step CloseDoor e = cc
    begins_step ReadLast e = cc
    begins_step Stopped e = reads_step fresh

  -- the others
  module _ (a : ℕ) (other : a ≢ who) where
    abbrev Same : Grid → Type 0
    Same s' = slice_get s'.comers a ≡ slice_get s.comers a

    goes_same : (n : Next) → Same (goes n s who c)
    goes_same WriteLast = get_set_others s.comers who a (wrote c) other
    goes_same ReadDoor = get_set_others s.comers who a (saw_door c (s.door (at c.turns))) other
    goes_same CloseDoor = get_set_others s.comers who a (closed c) other
    goes_same ReadLast = get_set_others s.comers who a (saw_last c (s.last (at c.turns))) other
    goes_same Stopped = refl

    reads_same : (z : Scan) → Same (reads z s who c)
    reads_same z = get_set_others s.comers who a (scans (length s.comers) z c (s.door (place z.row z.column))) other

    begins_same : (n : Next) → Same (begins n s who c)
    begins_same WriteLast = refl
    begins_same ReadDoor = refl
    begins_same CloseDoor = refl
    begins_same ReadLast = refl
    begins_same Stopped = reads_same fresh

module _ (s : Grid) where
  -- nothing changes where no comer may take the event
  acts_idle : (e : Event) (o : Option Comer) → ((c : Comer) → o ≡ Some c → ¬ May e c) → acts e s o ≡ s
  acts_idle (Goes who) None denied = refl
  acts_idle (Begins who) None denied = refl
  acts_idle (Scans who) None denied = refl
  acts_idle (Goes who) (Some c) denied = goes_idle s who c c.next (denied c refl)
  acts_idle (Begins who) (Some c) denied = begins_idle s who c c.next (denied c refl)
  acts_idle (Scans who) (Some c) denied =
      elim (cases_Bool (is_idle c.scan)) [
        | inl idle ↦ cond-true (is_idle c.scan) s (reads c.scan s who c) idle
        | inr open_yet ↦ absurd (denied c refl (under_way c.scan open_yet))
      ]

  -- what shows something is allowed
  shows : (e : Event) (o : Option Comer) → IsSome (seen_by e s o) → (c : Comer) × (o ≡ Some c) × May e c
  shows (Goes who) None h = cc
  shows (Begins who) None h = cc
  shows (Scans who) None h = cc
  shows (Goes who) (Some c) h = (c, refl, goes_shows s who c c.next h)
  shows (Begins who) (Some c) h = (c, refl, begun c.next h)
    where
      begun : (n : Next) → IsSome (cond (is_stopped n) (Some (door_seen fresh s)) None) → n ≡ Stopped
      begun WriteLast h = cc
      begun ReadDoor h = cc
      begun CloseDoor h = cc
      begun ReadLast h = cc
      begun Stopped h = refl
  shows (Scans who) (Some c) h = (c, refl, on_way (cases_Bool (is_idle c.scan)))
    where
      on_way : (is_idle c.scan ≡ true) ⊎ (is_idle c.scan ≡ false) → IsUnderWay c.scan
      on_way (inl idle) = let e = cond-true (is_idle c.scan) None (Some (door_seen c.scan s)) idle in let k = subst IsSome e h in cc
      on_way (inr open_yet) = under_way c.scan open_yet

  -- what is allowed shows something
  allowed_shows : (e : Event) (c : Comer) → May e c → IsSome (seen_by e s (Some c))
  allowed_shows (Goes who) c may = shows_goes s who c c.next may
  allowed_shows (Begins who) c may = subst (λ n. IsSome (cond (is_stopped n) (Some (door_seen fresh s)) None)) (sym may) refl
  allowed_shows (Scans who) c may = subst IsSome (sym (cond-false (is_idle c.scan) None (Some (door_seen c.scan s)) (busy c.scan may))) refl

  acts_step : (e : Event) (c : Comer) → Has s (actor e) c → May e c → Stepped s (actor e) c (acts e s (Some c))
  acts_step (Goes who) c h may = goes_step s who c h c.next may
  acts_step (Begins who) c h may = begins_step s who c h c.next may
  acts_step (Scans who) c h may =
      subst (Stepped s who c) (sym (cond-false (is_idle c.scan) s (reads c.scan s who c) (busy c.scan may))) (reads_step s who c h c.scan)

  acts_same : (e : Event) (o : Option Comer) (a : ℕ) → a ≢ actor e → slice_get (acts e s o).comers a ≡ slice_get s.comers a
  acts_same (Goes who) None a other = refl
  acts_same (Begins who) None a other = refl
  acts_same (Scans who) None a other = refl
  acts_same (Goes who) (Some c) a other = goes_same s who c a other c.next
  acts_same (Begins who) (Some c) a other = begins_same s who c a other c.next
  acts_same (Scans who) (Some c) a other =
      elim (cases_Bool (is_idle c.scan)) [
        | inl idle ↦ ap (λ (s' : Grid). slice_get s'.comers a) (cond-true (is_idle c.scan) s (reads c.scan s who c) idle)
        | inr open_yet ↦ ap (λ (s' : Grid). slice_get s'.comers a) (cond-false (is_idle c.scan) s (reads c.scan s who c) open_yet)
            ∙ reads_same s who c a other c.scan
      ]

  pub takes_one_step : (e : Event) → TakesOneStep s e
  takes_one_step e = record {
    idle = λ denied. acts_idle e (slice_get s.comers (actor e)) (λ c h may. denied (c, h, may));
    shown = (λ h. shows e (slice_get s.comers (actor e)) h, λ h. subst (λ o. IsSome (seen_by e s o)) (sym h.1) (allowed_shows e h.0 h.2));
    step = λ c h may. subst (λ o. Stepped s (actor e) c (acts e s o)) (sym h) (acts_step e c h may);
    others = λ a other. acts_same e (slice_get s.comers (actor e)) a other;
  }
