-- Every grid run keeps the facts of Kept.
use Rattle.std.proofs.Common.{◌≡◌, ℕ, inl, List, [], ◌∷◌, slice_get, Option, Some, None, refl, ap, sym, ◌∙◌, subst, arith, ◌==◌, ◌||◌, length}
use Rattle.std.proofs.lemmas.Bool.{cond_both, eqb-true, eqb-false}
use Rattle.split_core.specs.Grid.{Grid, Has, Event, Goes, Begins, Scans, goes, reads, begins, goes_on, acts, actor, happens}
use Rattle.split_core.specs.Grid.{run, opening, with_comer, Different}
use Rattle.split_core.specs.Places.{at, place}
use Rattle.split_core.specs.Comer.{wrote, closed, scans, comer_of}
use Rattle.split_core.specs.Scan.{fresh}
use Rattle.split_core.specs.declared.model.Comer.{Comer}
use Rattle.split_core.specs.declared.model.Scan.{Scan}
use Rattle.split_core.specs.declared.model.Next.{Next}
use Rattle.split_core.specs.declared.model.Next.TheVariants.{WriteLast, ReadDoor, CloseDoor, ReadLast, Stopped}
use Rattle.split_core.proofs.Lists.{get_map}
use Rattle.split_core.proofs.Kept.{Passed, Wrote, Kept, Local, kept_after}
use Rattle.split_core.proofs.KeptSteps.{writing, reading_open, turning_right, closing, stopping, turning_down}

scanning : (s : Grid) (cs : List Comer) (x : Comer) (n w : ℕ) (z : Scan) → Local s (record s { comers = cs }) x (scans n z x w)
scanning s cs x n w z = record {
  same = refl;
  stays = λ p d. d;
  shuts = λ p d. inl d;
  lasts = λ p. inl refl;
  passes = λ p h. inl h;
  still = λ p h. h;
  writes = λ p h. inl h;
  owns = λ p h. (h.1, h.2);
  stops = λ h. (refl, inl h);
  claims = λ h. inl (h, refl);
}

module _ (s : Grid) (i : ℕ) (x : Comer) (k : Kept s) (hx : Has s i x) where
  by_comer : (y : Comer) → Local s (with_comer s i y) x y → Kept (with_comer s i y)
  by_comer y l = kept_after s (with_comer s i y) i x y k hx refl l

  kept_reads : (z : Scan) → Kept (reads z s i x)
  kept_reads z =
      by_comer (scans (length s.comers) z x (s.door (place z.row z.column))) (scanning s _ x (length s.comers) (s.door (place z.row z.column)) z)

  kept_goes : (m : Next) → x.next ≡ m → Kept (goes m s i x)
  kept_goes WriteLast e = kept_after s (goes WriteLast s i x) i x (wrote x) k hx refl (writing s _ x e)
  kept_goes ReadDoor e =
      cond_both (s.door (at x.turns) == 1) _ _ (λ (y : Comer). Kept (with_comer s i y))
      (λ t. by_comer _ (turning_right s _ x e (s.door (at x.turns)) (eqb-true _ _ t)))
      (λ f. by_comer _ (reading_open s _ x e (s.door (at x.turns)) (eqb-false _ _ f)))
  kept_goes CloseDoor e = kept_after s (goes CloseDoor s i x) i x (closed x) k hx refl (closing s _ x e)
  kept_goes ReadLast e =
      cond_both (s.last (at x.turns) == x.id) _ _ (λ (y : Comer). Kept (with_comer s i y))
      (λ t. by_comer _ (stopping s _ x e (s.last (at x.turns)) (eqb-true _ _ t)))
      (λ f. by_comer _ (turning_down s _ x e (s.last (at x.turns)) (eqb-false _ _ f)))
  kept_goes Stopped e = k

  kept_begins : (m : Next) → Kept (begins m s i x)
  kept_begins Stopped = kept_reads fresh
  kept_begins WriteLast = k
  kept_begins ReadDoor = k
  kept_begins CloseDoor = k
  kept_begins ReadLast = k

  kept_goes_on : Kept (goes_on s i x)
  kept_goes_on = cond_both ((x.scan.doors == 0) || x.scan.over) s (reads x.scan s i x) Kept (λ _. k) (λ _. kept_reads x.scan)

kept_acts : (s : Grid) (e : Event) (o : Option Comer) → slice_get s.comers (actor e) ≡ o → Kept s → Kept (acts e s o)
kept_acts s e None h k = k
kept_acts s (Goes i) (Some x) h k = kept_goes s i x k h x.next refl
kept_acts s (Begins i) (Some x) h k = kept_begins s i x k h x.next
kept_acts s (Scans i) (Some x) h k = kept_goes_on s i x k h

pub kept_happens : (s : Grid) (e : Event) → Kept s → Kept (happens s e)
kept_happens s e k = kept_acts s e (slice_get s.comers (actor e)) refl k

pub kept_run : (es : List Event) (s : Grid) → Kept s → Kept (run es s)
kept_run [] s k = k
kept_run (e ∷ es) s k = kept_run es (happens s e) (kept_happens s e k)

-- at the opening nobody has done anything
idle : (ids : List ℕ) (a : ℕ) (x : Comer) → Has (opening ids) a x → (id : ℕ) × (slice_get ids a ≡ Some id) × (x ≡ comer_of id)
idle ids a x h = get_map comer_of ids a x h

not_passed : (p : ℕ) (id : ℕ) → ¬ Passed p (comer_of id)
not_passed p id = grind arith

not_wrote : (p : ℕ) (id : ℕ) → ¬ Wrote p (comer_of id)
not_wrote p id = grind arith

pub kept_opening : (ids : List ℕ) → Different ids → Kept (opening ids)
kept_opening ids d = record {
  apart = λ a b x y hx hy e. let u = idle ids a x hx in let v = idle ids b y hy in
      let q : u.0 ≡ v.0 = sym (ap (λ (c : Comer). c.id) u.2) ∙ (e ∙ ap (λ (c : Comer). c.id) v.2) in
      d a b v.0 (u.1 ∙ ap Some q) v.1;
  shut = λ a x hx p h. let u = idle ids a x hx in absurd (not_passed p u.0 (subst (Passed p) u.2 h));
  closer = λ p h. cc;
  owner = λ a x hx p h. let u = idle ids a x hx in absurd (not_wrote p u.0 (subst (Wrote p) u.2 h));
  alone = λ a b x y hx hy h c q. let u = idle ids a x hx in absurd (let z : WriteLast ≡ Stopped = sym (ap (λ (c : Comer). c.next) u.2) ∙ h in cc);
}

pub kept : (ids : List ℕ) → Different ids → (es : List Event) → Kept (run es (opening ids))
kept ids d es = kept_run es (opening ids) (kept_opening ids d)
