-- The laws of one splitter, from what every run keeps.
use Rattle.std.proofs.Common.{arith, ◌∙◌, ap, subst, sym, ◌≡◌, ℕ, ◌≢◌, inl, inr, List, [], ◌∷◌, slice_get, refl, true, ◌==◌}
use Rattle.std.proofs.lemmas.Option.{same_Some}
use Rattle.std.proofs.lemmas.Bool.{or_right, or_left, cond-true, eq-eqb}
use Rattle.split_core.specs.Places.{at}
use Rattle.split_core.specs.Comer.{has_begun, is_some_turn}
use Rattle.split_core.specs.Grid.{Grid}
use Rattle.split_core.specs.Splitter.{Left, Turned, Visits, NotAllTurned, OneStops, WaysClosed, VisitsAlone, LoneStops, steps_here, steps_left_at}
use Rattle.split_core.specs.declared.model.Comer.{Comer}
use Rattle.split_core.specs.declared.model.Next.{Next}
use Rattle.split_core.specs.declared.model.Next.TheVariants.{WriteLast, ReadDoor, CloseDoor, ReadLast, Stopped}
use Rattle.split_core.specs.declared.model.Turn.{Turn}
use Rattle.split_core.specs.declared.model.Turn.TheVariants.{Right, Down}
use Rattle.split_core.proofs.Ways.{left_turned, not_left}
use Rattle.split_core.proofs.Kept.{Passed, Wrote, Kept}

-- who has left a place, or is past its first step, has started
left_some : (p : ℕ) (ts : List Turn) → Left p ts → is_some_turn ts ≡ true
left_some p [] h = absurd h
left_some p (t ∷ ts) h = refl

begun : (n : Next) → n ≢ WriteLast → has_begun n ≡ true
begun WriteLast h = absurd (h refl)
begun ReadDoor h = refl
begun CloseDoor h = refl
begun ReadLast h = refl
begun Stopped h = refl

pub wrote_visits : (p : ℕ) (x : Comer) → Wrote p x → Visits p x
wrote_visits p x (inl l) = (or_right (has_begun x.next) (is_some_turn x.turns) (left_some p x.turns l), inr l)
wrote_visits p x (inr h) = (or_left (has_begun x.next) (is_some_turn x.turns) (begun x.next h.1), inl h.0)

pub passed_wrote : (p : ℕ) (x : Comer) → Passed p x → Wrote p x
passed_wrote p x = grind arith

pub one_stops : (s : Grid) → Kept s → OneStops s
one_stops s k a b x y hx hy hs ht e = sym (k.alone a b x y hx hy hs (inl ht) (sym e))

pub ways_closed : (s : Grid) → Kept s → WaysClosed s
ways_closed s k a x hx p (inl l) = k.shut a x hx p (inl l)
ways_closed s k a x hx p (inr h) = k.shut a x hx p (inr (h.0, inr h.1))

pub not_all_right : (s : Grid) → Kept s → NotAllTurned Right s
not_all_right s k p a x hx (st, inl e) = (a, x, hx, (st, inl e), not_left Right p x.turns e)
not_all_right s k p a x hx (st, inr l) =
    let c = k.closer p (k.shut a x hx p (inl l)) in
    (c.0, c.1, c.2, wrote_visits p c.1 (passed_wrote p c.1 c.3.0), c.3.1)

pub not_all_down : (s : Grid) → Kept s → NotAllTurned Down s
not_all_down s k p a x hx (st, inl e) = (a, x, hx, (st, inl e), not_left Down p x.turns e)
not_all_down s k p a x hx (st, inr l) =
    let c = k.owner a x hx p (inl l) in
    (c.0, c.1, c.2, wrote_visits p c.1 c.3.1, c.3.2)

-- the only visitor of a place, if not all turned right there and not all down, stands there still
lone_stays : (s : Grid) → NotAllTurned Right s → NotAllTurned Down s → (p a : ℕ) (x : Comer) → VisitsAlone s p a x → at x.turns ≡ p
lone_stays s nr nd p a x (hx, (st, inl e), only) = e
lone_stays s nr nd p a x (hx, (st, inr l), only) =
    let u = nr p a x hx (st, inr l) in
    let v = nd p a x hx (st, inr l) in
    let eu : u.1 ≡ x = same_Some u.1 x (sym u.2 ∙ (ap (slice_get s.comers) (only u.0 u.1 u.2 u.3) ∙ hx)) in
    let ev : v.1 ≡ x = same_Some v.1 x (sym v.2 ∙ (ap (slice_get s.comers) (only v.0 v.1 v.2 v.3) ∙ hx)) in
    absurd (elim (left_turned p x.turns l) [
      | inl t ↦ u.4 (subst (λ (c : Comer). Turned Right p c.turns) (sym eu) t)
      | inr t ↦ v.4 (subst (λ (c : Comer). Turned Down p c.turns) (sym ev) t)
    ])

four_here : (n : Next) → steps_here n ≡ 4 → n ≡ Stopped
four_here WriteLast h = cc
four_here ReadDoor h = cc
four_here CloseDoor h = cc
four_here ReadLast h = cc
four_here Stopped h = refl

pub lone_stops : (s : Grid) → NotAllTurned Right s → NotAllTurned Down s → LoneStops s
lone_stops s nr nd = record {
  stays = lone_stays s nr nd;
  stops = λ p a x v four.
      let here = lone_stays s nr nd p a x v in
      four_here x.next (sym (cond-true (at x.turns == p) (steps_here x.next) (steps_left_at p x.turns) (eq-eqb (at x.turns) p here)) ∙ four);
}
