-- What the laws of an exact order say of the test that puts items in order.
use Rattle.std.proofs.Common.{◌≡◌, Bool, true, false, not, refl, sym, ◌∙◌, ap}
use Rattle.std.specs.Ordering.{is_gt, ordering_reverse}
use Rattle.std.specs.Cmp.{IsTotalOrder}
use Rattle.std.specs.declared.cmp.Ordering.{Ordering}
use Rattle.std.specs.declared.cmp.Ordering.TheVariants.{Less, Equal, Greater}
use Rattle.std.proofs.lemmas.Cmp.{upto}
use Rattle.leftist_heap.specs.Order.{not_above_by}

-- of two items one may stand before the other, and so on along a line of them
pub record IsOrder {X : Type 0} (goes_before : X → X → Bool) : Type 0 where
  pub total : (x y : X) → goes_before x y ≡ false → goes_before y x ≡ true
  pub trans : (x y z : X) → goes_before x y ≡ true → goes_before y z ≡ true → goes_before x z ≡ true

-- and each may stand before the other only where they are the same
pub record IsExactOrder {X : Type 0} (goes_before : X → X → Bool) : Type 0 where
  pub total : (x y : X) → goes_before x y ≡ false → goes_before y x ≡ true
  pub trans : (x y z : X) → goes_before x y ≡ true → goes_before y z ≡ true → goes_before x z ≡ true
  pub same : (x y : X) → goes_before x y ≡ true → goes_before y x ≡ true → x ≡ y

pub as_order : {X : Type 0} {goes_before : X → X → Bool} → IsExactOrder goes_before → IsOrder goes_before
as_order o = record { total = o.total; trans = o.trans }

-- either test or the other
pub by_bool : {G : Type 0} (b : Bool) → (b ≡ true → G) → (b ≡ false → G) → G
by_bool true t f = t refl
by_bool false t f = f refl

pub itself : {X : Type 0} (goes_before : X → X → Bool) → IsOrder goes_before → (x : X) → goes_before x x ≡ true
itself goes_before o x = by_bool (goes_before x x) (λ e. e) (λ e. o.total x x e)

module _ {X : Type 0} (cmp : X → X → Ordering) (o : IsTotalOrder cmp) where
  not-true : (b : Bool) → not b ≡ true → b ≡ false
  not-true true e = cc
  not-true false e = refl

  true-not : (b : Bool) → b ≡ false → not b ≡ true
  true-not b e = ap not e

  total_at : (x y : X) (r : Ordering) → cmp x y ≡ r → not (is_gt r) ≡ false → not_above_by cmp y x ≡ true
  total_at x y Less e h = cc
  total_at x y Equal e h = cc
  total_at x y Greater e h = ap (λ (r : Ordering). not (is_gt r)) (o.antisymm y x ∙ ap ordering_reverse e)

  same_at : ((x y : X) → cmp x y ≡ Equal → x ≡ y) → (x y : X) (r : Ordering) → cmp x y ≡ r → not_above_by cmp x y ≡ true
      → not_above_by cmp y x ≡ true → x ≡ y
  same_at exact x y Less e h k =
      let back : cmp y x ≡ Greater = o.antisymm y x ∙ ap ordering_reverse e in
      let no' : false ≡ true = sym (ap (λ (r : Ordering). not (is_gt r)) back) ∙ k in cc
  same_at exact x y Equal e h k = exact x y e
  same_at exact x y Greater e h k = let no' : false ≡ true = sym (ap (λ (r : Ordering). not (is_gt r)) e) ∙ h in cc

  pub exact_order : ((x y : X) → cmp x y ≡ Equal → x ≡ y) → IsExactOrder (not_above_by cmp)
  exact_order exact = record {
    total = λ x y h. total_at x y (cmp x y) refl h;
    trans = λ x y z h k. true-not (is_gt (cmp x z)) (upto o x y z (not-true (is_gt (cmp x y)) h) (not-true (is_gt (cmp y z)) k));
    same = λ x y h k. same_at exact x y (cmp x y) refl h k;
  }
