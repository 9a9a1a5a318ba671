-- The comer that a call names by its id, and what the call then makes of it.
use Rattle.std.proofs.Common.{◌≡◌, ◌≢◌, ℕ, zero, suc, ◌+◌, ◌<◌, List, [], ◌∷◌, map, slice_get, Some, None, Ok, Err, refl, ap, sym, ◌∙◌, subst, arith, true, false, ◌==◌, cond, add-one}
use Rattle.std.proofs.lemmas.Bool.{cond-true, cond-false, eq-eqb, ne_eqb}
use Rattle.split_core.specs.Places.{at}
use Rattle.split_core.specs.Comer.{is_stopped}
use Rattle.split_core.specs.Scan.{is_idle}
use Rattle.split_core.specs.Grid.{Grid, Goes, Begins, Scans, Has}
use Rattle.split_core.specs.Calls.{position_of, step_for, step_call, scan_for, scan_call, place_for, stop_of}
use Rattle.split_core.specs.TrailCalls.{home_for, home_call}
use Rattle.split_core.specs.Stored.{walker_of}
use Rattle.split_core.specs.Ids.{IsFirstWithId, FindsId}
use Rattle.split_core.specs.declared.model.Comer.{Comer}
use Rattle.split_core.specs.declared.model.Next.{Next}
use Rattle.split_core.specs.declared.model.Next.TheVariants.{WriteLast, ReadDoor, CloseDoor, ReadLast, Stopped}
use Rattle.split_core.specs.declared.walker.Walker.{Walker}
use Rattle.split_core.specs.declared.seen.StepError.TheVariants.{UnknownId, AlreadyStopped, NotStopped}
use Rattle.split_core.proofs.Lists.{get_map, get_of_map}

position_is : (cs : List Comer) (id k : ℕ) (c : Comer) → slice_get cs k ≡ Some c → c.id ≡ id → ((j : ℕ) (y : Comer) → j < k → slice_get cs j ≡ Some y → y.id ≢ id) → position_of id cs ≡ k
position_is [] id k c h e first = cc
position_is (x ∷ cs) id zero c h e first =
    let q : x ≡ c = cc in
    cond-true (x.id == id) 0 (position_of id cs + 1) (eq-eqb x.id id (ap (λ (y : Comer). y.id) q ∙ e))
position_is (x ∷ cs) id (suc k) c h e first =
    cond-false (x.id == id) 0 (position_of id cs + 1) (ne_eqb x.id id (first 0 x (omega arith) refl))
    ∙ (ap (λ n. n + 1) (position_is cs id k c h e (λ j y l g. first (suc j) y (omega arith) g)) ∙ add-one k)

none_has : (cs : List Comer) (id : ℕ) → ((j : ℕ) (y : Comer) → slice_get cs j ≡ Some y → y.id ≢ id) → slice_get cs (position_of id cs) ≡ None
none_has [] id h = refl
none_has (x ∷ cs) id h =
    ap (slice_get (x ∷ cs)) (cond-false (x.id == id) 0 (position_of id cs + 1) (ne_eqb x.id id (h 0 x refl)) ∙ add-one (position_of id cs))
    ∙ none_has cs id (λ j y g. h (suc j) y g)

pub going : (m : Next) → m ≢ Stopped → is_stopped m ≡ false
going WriteLast h = refl
going ReadDoor h = refl
going CloseDoor h = refl
going ReadLast h = refl
going Stopped h = absurd (h refl)

pub resting : (m : Next) → m ≡ Stopped → is_stopped m ≡ true
resting WriteLast h = cc
resting ReadDoor h = cc
resting CloseDoor h = cc
resting ReadLast h = cc
resting Stopped h = refl

module _ (walkers : List Walker) (s : Grid) (e : walkers ≡ map walker_of s.comers) (id : ℕ) where
  unknown : FindsId walkers id None → slice_get s.comers (position_of id s.comers) ≡ None
  unknown f = none_has s.comers id (λ j y h. f j (walker_of y) (subst (λ (rs : List Walker). slice_get rs j ≡ Some (walker_of y)) (sym e) (get_of_map walker_of s.comers j y h)))

  pub step_unknown : FindsId walkers id None → step_call s id ≡ Err UnknownId
  step_unknown f = ap (step_for (position_of id s.comers)) (unknown f)

  pub scan_unknown : FindsId walkers id None → scan_call s id ≡ Err UnknownId
  scan_unknown f = ap (scan_for (position_of id s.comers)) (unknown f)

  pub stop_unknown : FindsId walkers id None → stop_of s id ≡ None
  stop_unknown f = ap place_for (unknown f)

  pub home_unknown : FindsId walkers id None → home_call s id ≡ Err UnknownId
  home_unknown f = ap (home_for (position_of id s.comers)) (unknown f)

  module _ (k : ℕ) (r : Walker) (f : IsFirstWithId walkers id k r) where
    pub found : (c : Comer) × Has s k c × (r ≡ walker_of c)
    found = get_map walker_of s.comers k r (subst (λ (rs : List Walker). slice_get rs k ≡ Some r) e f.there)

    position : position_of id s.comers ≡ k
    position =
        position_is s.comers id k found.0 found.1 (ap (λ (q : Walker). q.id) (sym found.2) ∙ f.named)
        (λ j y l h. f.before j (walker_of y) l (subst (λ (rs : List Walker). slice_get rs j ≡ Some (walker_of y)) (sym e) (get_of_map walker_of s.comers j y h)))

    next_is : found.0.next ≡ r.next
    next_is = ap (λ (q : Walker). q.next) (sym found.2)

    pub step_goes : r.next ≢ Stopped → step_call s id ≡ Ok (Goes k)
    step_goes n =
        ap (λ (j : ℕ). step_for j (slice_get s.comers j)) position
        ∙ (ap (step_for k) found.1 ∙ cond-false (is_stopped found.0.next) _ _ (going found.0.next (λ q. n (sym next_is ∙ q))))

    pub step_stopped : r.next ≡ Stopped → step_call s id ≡ Err AlreadyStopped
    step_stopped q =
        ap (λ (j : ℕ). step_for j (slice_get s.comers j)) position
        ∙ (ap (step_for k) found.1 ∙ cond-true (is_stopped found.0.next) _ _ (resting found.0.next (next_is ∙ q)))

    pub scan_goes : r.next ≡ Stopped → scan_call s id ≡ Ok (cond (is_idle found.0.scan) (Begins k) (Scans k))
    scan_goes q =
        ap (λ (j : ℕ). scan_for j (slice_get s.comers j)) position
        ∙ (ap (scan_for k) found.1 ∙ cond-true (is_stopped found.0.next) _ _ (resting found.0.next (next_is ∙ q)))

    pub scan_moving : r.next ≢ Stopped → scan_call s id ≡ Err NotStopped
    scan_moving n =
        ap (λ (j : ℕ). scan_for j (slice_get s.comers j)) position
        ∙ (ap (scan_for k) found.1 ∙ cond-false (is_stopped found.0.next) _ _ (going found.0.next (λ q. n (sym next_is ∙ q))))

    pub stop_at : r.next ≡ Stopped → stop_of s id ≡ Some (at found.0.turns)
    stop_at q =
        ap (λ (j : ℕ). place_for (slice_get s.comers j)) position
        ∙ (ap place_for found.1 ∙ cond-true (is_stopped found.0.next) _ _ (resting found.0.next (next_is ∙ q)))

    pub stop_none : r.next ≢ Stopped → stop_of s id ≡ None
    stop_none n =
        ap (λ (j : ℕ). place_for (slice_get s.comers j)) position
        ∙ (ap place_for found.1 ∙ cond-false (is_stopped found.0.next) _ _ (going found.0.next (λ q. n (sym next_is ∙ q))))

    pub home_at : r.next ≡ Stopped → home_call s id ≡ Ok k
    home_at q =
        ap (λ (j : ℕ). home_for j (slice_get s.comers j)) position
        ∙ (ap (home_for k) found.1 ∙ cond-true (is_stopped found.0.next) _ _ (resting found.0.next (next_is ∙ q)))

    pub home_moving : r.next ≢ Stopped → home_call s id ≡ Err NotStopped
    home_moving n =
        ap (λ (j : ℕ). home_for j (slice_get s.comers j)) position
        ∙ (ap (home_for k) found.1 ∙ cond-false (is_stopped found.0.next) _ _ (going found.0.next (λ q. n (sym next_is ∙ q))))
