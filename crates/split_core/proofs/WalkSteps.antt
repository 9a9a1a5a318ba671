-- How many steps a comer has taken on its way.
use Rattle.std.proofs.Common.{◌≡◌, ℕ, ◌*◌, ◌≤◌, List, [], ◌∷◌, slice_get, Option, Some, None, refl, ap, sym, subst, arith, ◌==◌}
use Rattle.std.proofs.lemmas.Bool.{cond_both}
use Rattle.split_core.specs.Places.{at, diagonal}
use Rattle.split_core.specs.Scan.{fresh, is_idle}
use Rattle.split_core.specs.Comer.{comer_of, wrote, closed}
use Rattle.split_core.specs.Grid.{Grid, Event, Goes, Begins, Scans, Has, with_comer, goes, reads, begins, goes_on, acts, actor, happens, run, opening}
use Rattle.split_core.specs.Splitter.{steps_here}
use Rattle.split_core.specs.Walk.{steps_behind, way_steps, WaySteps}
use Rattle.split_core.specs.declared.model.Comer.{Comer}
use Rattle.split_core.specs.declared.model.Scan.{Scan}
use Rattle.split_core.specs.declared.model.Next.{Next}
use Rattle.split_core.specs.declared.model.Next.TheVariants.{WriteLast, ReadDoor, CloseDoor, ReadLast, Stopped}
use Rattle.split_core.specs.declared.model.Turn.{Turn}
use Rattle.split_core.specs.declared.model.Turn.TheVariants.{Right, Down}
use Rattle.split_core.proofs.Lists.{each_set, get_map}

abbrev Counted : Comer → Type 0
Counted x = x.scan.doors ≡ 0 → x.steps ≡ way_steps x

abbrev AllCounted : Grid → Type 0
AllCounted s = (a : ℕ) (x : Comer) → Has s a x → Counted x

module _ (s : Grid) (k : AllCounted s) (i : ℕ) (x : Comer) (hx : Has s i x) where
  counted_after : (x' : Comer) → Counted x' → AllCounted (with_comer s i x')
  counted_after x' h = each_set s.comers i x' (λ (b : ℕ) (y : Comer). Counted y) h (λ b y ne hy. k b y hy)

  counted_goes : (m : Next) → x.next ≡ m → AllCounted (goes m s i x)
  counted_goes WriteLast e = counted_after (wrote x) (λ z. let h = k i x hx z in omega (arith, ap steps_here e))
  counted_goes ReadDoor e =
      cond_both (s.door (at x.turns) == 1) _ _ (λ (y : Comer). AllCounted (with_comer s i y))
      (λ _. counted_after _ (λ z. let h = k i x hx z in omega (arith, ap steps_here e)))
      (λ _. counted_after _ (λ z. let h = k i x hx z in omega (arith, ap steps_here e)))
  counted_goes CloseDoor e = counted_after (closed x) (λ z. let h = k i x hx z in omega (arith, ap steps_here e))
  counted_goes ReadLast e =
      cond_both (s.last (at x.turns) == x.id) _ _ (λ (y : Comer). AllCounted (with_comer s i y))
      (λ _. counted_after _ (λ z. let h = k i x hx z in omega (arith, ap steps_here e)))
      (λ _. counted_after _ (λ z. let h = k i x hx z in omega (arith, ap steps_here e)))
  counted_goes Stopped e = k

  counted_reads : (z : Scan) → AllCounted (reads z s i x)
  counted_reads z = counted_after _ (λ h. absurd (omega arith))

  counted_begins : (m : Next) → AllCounted (begins m s i x)
  counted_begins WriteLast = k
  counted_begins ReadDoor = k
  counted_begins CloseDoor = k
  counted_begins ReadLast = k
  counted_begins Stopped = counted_reads fresh

  counted_goes_on : AllCounted (goes_on s i x)
  counted_goes_on = cond_both (is_idle x.scan) s (reads x.scan s i x) AllCounted (λ _. k) (λ _. counted_reads x.scan)

counted_acts : (s : Grid) (e : Event) (o : Option Comer) → slice_get s.comers (actor e) ≡ o → AllCounted s → AllCounted (acts e s o)
counted_acts s e None h k = k
counted_acts s (Goes i) (Some x) h k = counted_goes s k i x h x.next refl
counted_acts s (Begins i) (Some x) h k = counted_begins s k i x h x.next
counted_acts s (Scans i) (Some x) h k = counted_goes_on s k i x h

counted_run : (es : List Event) (s : Grid) → AllCounted s → AllCounted (run es s)
counted_run [] s k = k
counted_run (e ∷ es) s k = counted_run es (happens s e) (counted_acts s e (slice_get s.comers (actor e)) refl k)

counted_opening : (ids : List ℕ) → AllCounted (opening ids)
counted_opening ids a x h = let u = get_map comer_of ids a x h in subst Counted (sym u.2) (λ _. refl)

-- at most four steps at each place left behind
few_behind : (ts : List Turn) → steps_behind ts ≤ 4 * diagonal ts
few_behind [] = omega arith
few_behind (Right ∷ ts) = omega (arith, few_behind ts)
few_behind (Down ∷ ts) = omega (arith, few_behind ts)

pub law_way_steps : (ids : List ℕ) (es : List Event) → WaySteps (run es (opening ids))
law_way_steps ids es = record {
  counted = counted_run es (opening ids) (counted_opening ids);
  bounded = λ x. omega (arith, few_behind x.turns);
  stopped = λ a x h st. omega (arith, few_behind x.turns, ap steps_here st);
}
