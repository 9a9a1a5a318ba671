-- What all seats weigh: no step, and nothing that testimonies come to, makes it more.
use Rattle.std.proofs.Common.{◌≡◌, ◌≢◌, ℕ, suc, ◌+◌, ◌<◌, ◌≤◌, List, [], ◌∷◌, ◌++◌, length, set, ap, ◌∙◌, refl, arith}
use Rattle.std.specs.Prelude.{Some, slice_get}
use Rattle.std.proofs.lemmas.List.Sums.{sum_by-append, sum_by-cons, sum_by_push}
use mathlib.Core.Option.{some}
use lib.ListN.{get_elem?}
use Rattle.atomic_table.proofs.Lists.{set_else}
use Rattle.desk_core.specs.Desk.{Has}
use Rattle.desk_core.specs.Duties.{one_if_active, one_if_retired, retired_among, weight, weight_of}
use Rattle.desk_core.specs.Pen.{new_pen}
use Rattle.desk_core.specs.Testimonies.{after_retiring, after_sleeping, after_waking}
use Rattle.desk_core.specs.declared.model.Duty.TheVariants.{Active, Retired}
use Rattle.desk_core.specs.declared.model.PenState.{PenState}
use Rattle.desk_core.specs.declared.model.View.{View}
use Rattle.desk_core.specs.declared.model.View.TheVariants.{Dealer, Holder, Testimony}
use Rattle.announce_board.proofs.Sums.{sum_set, sum_both}

module _ (places : ℕ) (views : List View) where
  -- a view becomes another
  pub weighs_set : (id : ℕ) (v w : View) → get_elem? views id ≡ some v → weight_of places (set views id w) + weight places v ≡ weight_of places views + weight places w
  weighs_set id v w at = sum_set (weight places) views id v w at

  -- a view comes behind the others
  pub weighs_more : (w : View) → weight_of places (views ++ w ∷ []) ≡ weight_of places views + weight places w
  weighs_more w = sum_by_push (weight places) views w

  -- a pen that acts takes a step
  pub weighs_on : (id : ℕ) (p w : PenState) → Has views id p → p.duty ≡ Active → w.duty ≡ Active → weight_of places (set views id (Holder w)) ≡ weight_of places views
  weighs_on id p w has active acts =
      let a = weighs_set id (Holder p) (Holder w) has in
      let b : one_if_active p.duty ≡ 1 = ap one_if_active active in
      let c : one_if_active w.duty ≡ 1 = ap one_if_active acts in
      omega (arith, a, b, c)

  -- a dealer gives out a pen
  pub weighs_dealt : (id next room : ℕ) → get_elem? views id ≡ some (Dealer next room) → next < places
      → weight_of places (set views id (Dealer (next + 1) room) ++ Holder (new_pen room next) ∷ []) ≡ weight_of places views
  weighs_dealt id next room at lt =
      let a = weighs_set id (Dealer next room) (Dealer (next + 1) room) at in
      let b = sum_by_push (weight places) (set views id (Dealer (next + 1) room)) (Holder (new_pen room next)) in
      omega (arith, a, b, lt)

  -- a pen that acts retires
  pub weighs_retired : (id : ℕ) (p : PenState) → Has views id p → p.duty ≡ Active
      → weight_of places (set views id (Holder (after_retiring p)) ++ Testimony (after_retiring p ∷ []) 0 ∷ []) ≡ weight_of places views
  weighs_retired id p has active =
      let w = after_retiring p in
      let a = weighs_set id (Holder p) (Holder w) has in
      let b = sum_by_push (weight places) (set views id (Holder w)) (Testimony (w ∷ []) 0) in
      let c : one_if_active p.duty ≡ 1 = ap one_if_active active in
      let e = sum_by-cons (λ (q : PenState). one_if_retired q.duty) w [] in
      omega (arith, a, b, c, e)

  -- a pen that acts falls asleep
  pub weighs_asleep : (id : ℕ) (p : PenState) → Has views id p → p.duty ≡ Active
      → weight_of places (set views id (Holder (after_sleeping p)) ++ Testimony [] 1 ∷ []) ≡ weight_of places views
  weighs_asleep id p has active =
      let a = weighs_set id (Holder p) (Holder (after_sleeping p)) has in
      let b = sum_by_push (weight places) (set views id (Holder (after_sleeping p))) (Testimony [] 1) in
      let c : one_if_active p.duty ≡ 1 = ap one_if_active active in
      omega (arith, a, b, c)

  -- a pen is woken by a licence
  pub weighs_woken : (id other : ℕ) (v : View) (p : PenState) (n : ℕ) → get_elem? views id ≡ some v → weight places v ≡ 0 → get_elem? views other ≡ some (Testimony [] n) → other ≢ id → 0 < n
      → weight_of places (set (set views id (Holder (after_waking p))) other (Testimony [] 0)) ≤ weight_of places views
  weighs_woken id other v p n at asleep there ne some_left =
      let w = Holder (after_waking p) in
      let a = weighs_set id v w at in
      let b = sum_set (weight places) (set views id w) other (Testimony [] n) (Testimony [] 0) (set_else views id other w ne ∙ there) in
      omega (arith, a, b, asleep, some_left)

  -- two testimonies are put together
  pub weighs_gathered : (id other : ℕ) (pens more : List PenState) (n m : ℕ) → get_elem? views id ≡ some (Testimony pens n) → get_elem? views other ≡ some (Testimony more m) → other ≢ id
      → weight_of places (set (set views id (Testimony (pens ++ more) (n + m))) other (Testimony [] 0)) ≡ weight_of places views
  weighs_gathered id other pens more n m at there ne =
      let a = sum_by-append (λ (q : PenState). one_if_retired q.duty) pens more in
      sum_both (weight places) views id other (Testimony pens n) (Testimony more m) (Testimony (pens ++ more) (n + m)) (Testimony [] 0) at there ne (omega (arith, a))

-- a testimony of a pen that acts weighs nothing
pub weighs_all_active : (p : PenState) → p.duty ≡ Active → retired_among (p ∷ []) ≡ 0
weighs_all_active p active =
    let a = sum_by-cons (λ (q : PenState). one_if_retired q.duty) p [] in
    let b : one_if_retired p.duty ≡ 0 = ap one_if_retired active in
    omega (arith, a, b)

-- a testimony of retired pens alone weighs its pens and its licences
pub weighs_all : (pens : List PenState) → ((k : ℕ) (p : PenState) → slice_get pens k ≡ Some p → p.duty ≡ Retired) → retired_among pens ≡ length pens
weighs_all [] gone = refl
weighs_all (p ∷ pens) gone =
    let a = sum_by-cons (λ (q : PenState). one_if_retired q.duty) p pens in
    let b : one_if_retired p.duty ≡ 1 = ap one_if_retired (gone 0 p refl) in
    let c = weighs_all pens (λ k q at. gone (suc k) q at) in
    omega (arith, a, b, c)
