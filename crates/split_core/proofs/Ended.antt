-- Each scan that is over was begun, and is whole.
use Rattle.std.proofs.Common.{◌≡◌, ℕ, ◌≢◌, ◌⊎◌, inl, inr, List, [], ◌∷◌, ◌++◌, slice_get, slice_set, Option, Some, None, refl, ap, ap₂, sym, ◌∙◌}
use Rattle.std.proofs.Common.{subst, arith, ◌||◌, ◌==◌, append-nil, append_assoc}
use Rattle.std.proofs.lemmas.Bool.{cases_eq, cond_both, or_parts, eqb-false}
use Rattle.split_core.specs.Grid.{Grid, Event, Goes, Begins, Scans, Has, goes, reads, begins, goes_on, acts, actor, happens, run, opening, Different}
use Rattle.split_core.specs.Places.{at, place}
use Rattle.split_core.specs.Comer.{wrote, closed, comer_of}
use Rattle.split_core.specs.Collect.{NoneBegins, EndedScans}
use Rattle.split_core.specs.declared.model.Comer.{Comer}
use Rattle.split_core.specs.declared.model.Next.{Next}
use Rattle.split_core.specs.declared.model.Next.TheVariants.{WriteLast, ReadDoor, CloseDoor, ReadLast, Stopped}
use Rattle.split_core.proofs.Lists.{each_set, get_map}
use Rattle.split_core.proofs.Ways.{first_next}
use Rattle.split_core.proofs.Collects.{all_ok, scans_whole}
use Rattle.split_core.proofs.Machines.{after_event}

abbrev Fresh : ℕ → Grid → Type 0
Fresh who t = (y : Comer) → Has t who y → y.scan.doors ≡ 0

abbrev Begun : List ℕ → ℕ → Grid → Type 0
Begun ids who t =
    (before : List Event) × (during : List Event) × (x : Comer) × NoneBegins who during × Has (run before (opening ids)) who x
    × (x.next ≡ Stopped) × (t ≡ run during (happens (run before (opening ids)) (Begins who)))

none_more : (who : ℕ) (es : List Event) (e : Event) → NoneBegins who es → e ≢ Begins who → NoneBegins who (es ++ e ∷ [])
none_more who [] e n h = (h, tt)
none_more who (x ∷ es) e n h = (n.0, none_more who es e n.1 h)

module _ (who : ℕ) (s : Grid) (f : Fresh who s) where
  changed : (i : ℕ) (x x' : Comer) → Has s i x → x'.scan.doors ≡ x.scan.doors → (y : Comer)
      → slice_get (slice_set s.comers i x') who ≡ Some y → y.scan.doors ≡ 0
  changed i x x' h q y hy =
      each_set s.comers i x' (λ (b : ℕ) (z : Comer). b ≡ who → z.scan.doors ≡ 0)
      (λ e. q ∙ f x (subst (λ (j : ℕ). slice_get s.comers j ≡ Some x) e h))
      (λ b z ne hz e. f z (subst (λ (j : ℕ). slice_get s.comers j ≡ Some z) e hz)) who y hy refl

  others : (i : ℕ) (x' : Comer) → i ≢ who → (y : Comer) → slice_get (slice_set s.comers i x') who ≡ Some y → y.scan.doors ≡ 0
  others i x' ne y hy =
      each_set s.comers i x' (λ (b : ℕ) (z : Comer). b ≡ who → z.scan.doors ≡ 0) (λ e. absurd (ne e))
      (λ b z n hz e. f z (subst (λ (j : ℕ). slice_get s.comers j ≡ Some z) e hz)) who y hy refl

  fresh_goes : (m : Next) (i : ℕ) (x : Comer) → Has s i x → Fresh who (goes m s i x)
  fresh_goes WriteLast i x h = changed i x (wrote x) h refl
  fresh_goes ReadDoor i x h =
      changed i x _ h (cond_both (s.door (at x.turns) == 1) _ _ (λ (z : Comer). z.scan.doors ≡ x.scan.doors) (λ _. refl) (λ _. refl))
  fresh_goes CloseDoor i x h = changed i x (closed x) h refl
  fresh_goes ReadLast i x h =
      changed i x _ h (cond_both (s.last (at x.turns) == x.id) _ _ (λ (z : Comer). z.scan.doors ≡ x.scan.doors) (λ _. refl) (λ _. refl))
  fresh_goes Stopped i x h = f

  fresh_begins : (m : Next) (i : ℕ) (x : Comer) → i ≢ who → Fresh who (begins m s i x)
  fresh_begins WriteLast i x ne = f
  fresh_begins ReadDoor i x ne = f
  fresh_begins CloseDoor i x ne = f
  fresh_begins ReadLast i x ne = f
  fresh_begins Stopped i x ne = others i _ ne

  fresh_goes_on : (i : ℕ) (x : Comer) → Has s i x → Fresh who (goes_on s i x)
  fresh_goes_on i x h =
      cond_both ((x.scan.doors == 0) || x.scan.over) s (reads x.scan s i x) (λ (t : Grid). Fresh who t) (λ _. f)
      (λ q. others i _ (λ e. eqb-false x.scan.doors 0 (or_parts (x.scan.doors == 0) x.scan.over q).0
      (f x (subst (λ (j : ℕ). slice_get s.comers j ≡ Some x) e h))))

  fresh_acts : (e : Event) (o : Option Comer) → slice_get s.comers (actor e) ≡ o → e ≢ Begins who → Fresh who (acts e s o)
  fresh_acts e None h ne = f
  fresh_acts (Goes i) (Some x) h ne = fresh_goes x.next i x h
  fresh_acts (Begins i) (Some x) h ne = fresh_begins x.next i x (λ q. ne (ap Begins q))
  fresh_acts (Scans i) (Some x) h ne = fresh_goes_on i x h

abbrev Status : List ℕ → ℕ → Grid → Type 0
Status ids who t = Fresh who t ⊎ Begun ids who t

-- a comer that begins a scan, or may not
begins_cases : (m : Next) (s : Grid) (who : ℕ) (x : Comer) → (m ≡ Stopped) ⊎ (begins m s who x ≡ s)
begins_cases WriteLast s who x = inr refl
begins_cases ReadDoor s who x = inr refl
begins_cases CloseDoor s who x = inr refl
begins_cases ReadLast s who x = inr refl
begins_cases Stopped s who x = inl refl

is_begin : (who : ℕ) (e : Event) → (e ≡ Begins who) ⊎ (e ≢ Begins who)
is_begin who (Goes i) = inr (λ q. cc)
is_begin who (Begins i) = elim (cases_eq i who) [
  | inl q ↦ inl (ap Begins q)
  | inr ne ↦ inr (λ q. ne (cc))
]
is_begin who (Scans i) = inr (λ q. cc)

module _ (ids : List ℕ) (who : ℕ) where
  begun_here : (pre : List Event) (o : Option Comer) → slice_get (run pre (opening ids)).comers who ≡ o
      → Status ids who (run pre (opening ids)) → Status ids who (happens (run pre (opening ids)) (Begins who))
  begun_here pre None h st = subst (λ (t : Grid). Status ids who t) (sym (ap (acts (Begins who) (run pre (opening ids))) h)) st
  begun_here pre (Some x) h st =
      elim (begins_cases x.next (run pre (opening ids)) who x) [
        | inl q ↦ inr (pre, [], x, tt, h, q, refl)
        | inr q ↦ subst (λ (t : Grid). Status ids who t) (sym (ap (acts (Begins who) (run pre (opening ids))) h ∙ q)) st
      ]

  one_more : (pre : List Event) (e : Event) → Status ids who (run pre (opening ids)) → Status ids who (happens (run pre (opening ids)) e)
  one_more pre e st =
      elim (is_begin who e) [
        | inl q ↦ subst (λ (x : Event). Status ids who (happens (run pre (opening ids)) x)) (sym q)
            (begun_here pre (slice_get (run pre (opening ids)).comers who) refl st)
        | inr ne ↦ elim st [
          | inl f ↦ inl (fresh_acts who (run pre (opening ids)) f e (slice_get (run pre (opening ids)).comers (actor e)) refl ne)
          | inr b ↦ inr (
            b.0,
            b.1 ++ e ∷ [],
            b.2,
            none_more who b.1 e b.3 ne,
            b.4,
            b.5,
            ap (λ (t : Grid). happens t e) b.6 ∙ sym (after_event b.1 e (happens (run b.0 (opening ids)) (Begins who))),
          )
        ]
      ]

  status : (es pre : List Event) → Status ids who (run pre (opening ids)) → Status ids who (run (pre ++ es) (opening ids))
  status [] pre st = subst (λ (l : List Event). Status ids who (run l (opening ids))) (sym (append-nil pre)) st
  status (e ∷ es) pre st =
      subst (λ (l : List Event). Status ids who (run l (opening ids))) (append_assoc pre (e ∷ []) es)
      (status es (pre ++ e ∷ []) (subst (λ (t : Grid). Status ids who t) (sym (after_event pre e (opening ids))) (one_more pre e st)))

at_opening : (ids : List ℕ) (who : ℕ) → Fresh who (opening ids)
at_opening ids who y h = let u = get_map comer_of ids who y h in ap (λ (c : Comer). c.scan.doors) u.2

pub law_ended : (ids : List ℕ) → Different ids → (es : List Event) → EndedScans (run es (opening ids))
law_ended ids d es a x h over =
    elim (status ids a es [] (inl (at_opening ids a))) [
      | inl f ↦
          let ok = all_ok ids es a x h in
          let e = ok.ended over in
          absurd (omega (arith, f x h, ok.count, ap₂ place e.1 e.2, first_next e.0))
      | inr b ↦
          let w = scans_whole ids d b.0 b.1 a b.2 x b.3 b.4 b.5 (subst (λ (t : Grid). Has t a x) b.6 h) over in
          record { way = w.way; seen = w.seen }
    ]
