-- Who closed a door, and who read it closed: the moments of a run, kept as it grows.
use Rattle.std.proofs.Common.{◌≡◌, ℕ, ◌⊎◌, inl, inr, List, [], ◌∷◌, ◌++◌, slice_get, Option, Some, None, refl, ap, sym, ◌∙◌}
use Rattle.std.proofs.Common.{subst, ◌==◌, append-nil, append_assoc}
use Rattle.std.proofs.lemmas.Bool.{cond_both, eqb-true}
use Rattle.split_core.specs.Places.{at}
use Rattle.split_core.specs.Scan.{is_idle}
use Rattle.split_core.specs.Comer.{comer_of, wrote, closed, turned}
use Rattle.split_core.specs.Grid.{Grid, Event, Goes, Begins, Scans, Has, with_comer, goes, reads, begins, goes_on, acts, actor, run, opening}
use Rattle.split_core.specs.Splitter.{Turned}
use Rattle.split_core.specs.Doors.{Took, ClosedItself, ReadClosed, DoorsMet}
use Rattle.split_core.specs.declared.model.Comer.{Comer}
use Rattle.split_core.specs.declared.model.Next.{Next}
use Rattle.split_core.specs.declared.model.Next.TheVariants.{WriteLast, ReadDoor, CloseDoor, ReadLast, Stopped}
use Rattle.split_core.specs.declared.model.Turn.{Turn}
use Rattle.split_core.specs.declared.model.Turn.TheVariants.{Right, Down}
use Rattle.split_core.proofs.Lists.{each_set, get_map}
use Rattle.split_core.proofs.Machines.{after_event}

module _ (ids : List ℕ) where
  -- a moment of a run is one of each longer run
  abbrev later : (pre : List Event) (e : Event) (who : ℕ) (step : Next) (p : ℕ) → Took ids pre who step p → Took ids (pre ++ e ∷ []) who step p
  later pre e who step p t = record {
    before = t.before;
    later = t.later ++ e ∷ [];
    comer = t.comer;
    moment = ap (λ (l : List Event). l ++ e ∷ []) t.moment ∙ append_assoc t.before (Goes who ∷ t.later) (e ∷ []);
    stood = t.stood;
    next = t.next;
    place = t.place;
  }

  later_read : (pre : List Event) (e : Event) (who p : ℕ) → ReadClosed ids pre who p → ReadClosed ids (pre ++ e ∷ []) who p
  later_read pre e who p r = (later pre e who ReadDoor p r.0, r.1)

  -- the moment that has just come
  abbrev now : (pre : List Event) (who : ℕ) (x : Comer) (step : Next) → Has (run pre (opening ids)) who x → x.next ≡ step
      → Took ids (pre ++ Goes who ∷ []) who step (at x.turns)
  now pre who x step h e = record { before = pre; later = []; comer = x; moment = refl; stood = h; next = e; place = refl }

  -- what one comer has met on its way
  record Met (pre : List Event) (a : ℕ) (x : Comer) : Type 0 where
    right : (p : ℕ) → Turned Right p x.turns → ReadClosed ids pre a p
    down : (p : ℕ) → Turned Down p x.turns → ClosedItself ids pre a p
    here : (x.next ≡ ReadLast) ⊎ (x.next ≡ Stopped) → ClosedItself ids pre a (at x.turns)

  grown : (pre : List Event) (e : Event) (a : ℕ) (x : Comer) → Met pre a x → Met (pre ++ e ∷ []) a x
  grown pre e a x m = record {
    right = λ p t. later_read pre e a p (m.right p t);
    down = λ p t. later pre e a CloseDoor p (m.down p t);
    here = λ h. later pre e a CloseDoor (at x.turns) (m.here h);
  }

  abbrev AllMet : List Event → Grid → Type 0
  AllMet pre s = (a : ℕ) (x : Comer) → Has s a x → Met pre a x

  module _ (pre : List Event) (k : AllMet pre (run pre (opening ids))) (i : ℕ) (x : Comer) (hx : Has (run pre (opening ids)) i x) where
    abbrev s : Grid
    s = run pre (opening ids)

    -- a comer that takes no turn, and does not come past its door
    same_way : (e : Event) (x' : Comer) → x'.turns ≡ x.turns
        → ((x'.next ≡ ReadLast) ⊎ (x'.next ≡ Stopped) → (x.next ≡ ReadLast) ⊎ (x.next ≡ Stopped)) → Met (pre ++ e ∷ []) i x'
    same_way e x' q past =
        let m = grown pre e i x (k i x hx) in record {
          right = λ p t. m.right p (subst (λ (ts : List Turn). Turned Right p ts) q t);
          down = λ p t. m.down p (subst (λ (ts : List Turn). Turned Down p ts) q t);
          here = λ h. subst (λ (ts : List Turn). ClosedItself ids (pre ++ e ∷ []) i (at ts)) (sym q) (m.here (past h));
        }

    met_after : (e : Event) (x' : Comer) → Met (pre ++ e ∷ []) i x' → AllMet (pre ++ e ∷ []) (with_comer s i x')
    met_after e x' m = each_set s.comers i x' (λ (b : ℕ) (y : Comer). Met (pre ++ e ∷ []) b y) m (λ b y ne hy. grown pre e b y (k b y hy))

    went_right : x.next ≡ ReadDoor → s.door (at x.turns) ≡ 1 → (w : ℕ) → Met (pre ++ Goes i ∷ []) i (turned Right x w)
    went_right e d w =
        let m = grown pre (Goes i) i x (k i x hx) in record {
          right = λ p t. elim t [
            | inl h ↦ subst (λ (j : ℕ). ReadClosed ids (pre ++ Goes i ∷ []) i j) h.1 (now pre i x ReadDoor hx e, d)
            | inr h ↦ m.right p h
          ];
          down = λ p t. elim t [ inl h ↦ absurd (let z : Right ≡ Down = h.0 in cc) | inr h ↦ m.down p h ];
          here = λ h. elim h [ inl z ↦ cc | inr z ↦ cc ];
        }

    went_down : x.next ≡ ReadLast → (w : ℕ) → Met (pre ++ Goes i ∷ []) i (turned Down x w)
    went_down e w =
        let m = grown pre (Goes i) i x (k i x hx) in record {
          right = λ p t. elim t [ inl h ↦ absurd (let z : Down ≡ Right = h.0 in cc) | inr h ↦ m.right p h ];
          down = λ p t. elim t [
            | inl h ↦ subst (λ (j : ℕ). ClosedItself ids (pre ++ Goes i ∷ []) i j) h.1 (m.here (inl e))
            | inr h ↦ m.down p h
          ];
          here = λ h. elim h [ inl z ↦ cc | inr z ↦ cc ];
        }

    closes : x.next ≡ CloseDoor → Met (pre ++ Goes i ∷ []) i (closed x)
    closes e =
        let m = grown pre (Goes i) i x (k i x hx) in record { right = m.right; down = m.down; here = λ _. now pre i x CloseDoor hx e }

    met_goes : (n : Next) → x.next ≡ n → AllMet (pre ++ Goes i ∷ []) (goes n s i x)
    met_goes WriteLast e = met_after (Goes i) (wrote x) (same_way (Goes i) (wrote x) refl (λ h. elim h [ inl z ↦ cc | inr z ↦ cc ]))
    met_goes ReadDoor e =
        cond_both (s.door (at x.turns) == 1) _ _ (λ (y : Comer). AllMet (pre ++ Goes i ∷ []) (with_comer s i y))
        (λ t. met_after (Goes i) _ (went_right e (eqb-true _ _ t) (s.door (at x.turns))))
        (λ f. met_after (Goes i) _ (same_way (Goes i) _ refl (λ h. elim h [ inl z ↦ cc | inr z ↦ cc ])))
    met_goes CloseDoor e = met_after (Goes i) (closed x) (closes e)
    met_goes ReadLast e =
        cond_both (s.last (at x.turns) == x.id) _ _ (λ (y : Comer). AllMet (pre ++ Goes i ∷ []) (with_comer s i y))
        (λ t. met_after (Goes i) _ (same_way (Goes i) _ refl (λ _. inl e)))
        (λ f. met_after (Goes i) _ (went_down e (s.last (at x.turns))))
    met_goes Stopped e = λ a y h. grown pre (Goes i) a y (k a y h)

    met_begins : (n : Next) → AllMet (pre ++ Begins i ∷ []) (begins n s i x)
    met_begins WriteLast = λ a y h. grown pre (Begins i) a y (k a y h)
    met_begins ReadDoor = λ a y h. grown pre (Begins i) a y (k a y h)
    met_begins CloseDoor = λ a y h. grown pre (Begins i) a y (k a y h)
    met_begins ReadLast = λ a y h. grown pre (Begins i) a y (k a y h)
    met_begins Stopped = met_after (Begins i) _ (same_way (Begins i) _ refl (λ h. h))

    met_goes_on : AllMet (pre ++ Scans i ∷ []) (goes_on s i x)
    met_goes_on =
        cond_both (is_idle x.scan) s (reads x.scan s i x) (AllMet (pre ++ Scans i ∷ []))
        (λ _. λ a y h. grown pre (Scans i) a y (k a y h))
        (λ _. met_after (Scans i) _ (same_way (Scans i) _ refl (λ h. h)))

  met_acts : (pre : List Event) (e : Event) (o : Option Comer) → slice_get (run pre (opening ids)).comers (actor e) ≡ o
      → AllMet pre (run pre (opening ids)) → AllMet (pre ++ e ∷ []) (acts e (run pre (opening ids)) o)
  met_acts pre e None h k = λ a y hy. grown pre e a y (k a y hy)
  met_acts pre (Goes i) (Some x) h k = met_goes pre k i x h x.next refl
  met_acts pre (Begins i) (Some x) h k = met_begins pre k i x h x.next
  met_acts pre (Scans i) (Some x) h k = met_goes_on pre k i x h

  met_run : (es pre : List Event) → AllMet pre (run pre (opening ids)) → AllMet (pre ++ es) (run (pre ++ es) (opening ids))
  met_run [] pre k = subst (λ (l : List Event). AllMet l (run l (opening ids))) (sym (append-nil pre)) k
  met_run (e ∷ es) pre k =
      subst (λ (l : List Event). AllMet l (run l (opening ids))) (append_assoc pre (e ∷ []) es)
      (met_run es (pre ++ e ∷ []) (subst (λ (t : Grid). AllMet (pre ++ e ∷ []) t) (sym (after_event pre e (opening ids)))
      (met_acts pre e (slice_get (run pre (opening ids)).comers (actor e)) refl k)))

  met_opening : AllMet [] (opening ids)
  met_opening a x h =
      let u = get_map comer_of ids a x h in
      subst (λ (y : Comer). Met [] a y) (sym u.2) (record {
        right = λ p t. absurd t;
        down = λ p t. absurd t;
        here = λ z. elim z [ inl e ↦ cc | inr e ↦ cc ];
      })

  pub law_doors_met : (es : List Event) → DoorsMet ids es
  law_doors_met es =
      let all = met_run es [] met_opening in record {
        right = λ a x h. (all a x h).right;
        down = λ a x h. (all a x h).down;
        stop = λ a x h st. (all a x h).here (inr st);
      }
