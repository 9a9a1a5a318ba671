-- What a step of the desk does to posts and places: no pen loses a post or its place.
use Rattle.std.proofs.Common.{◌≡◌, ℕ, zero, suc, ◌+◌, ◌⊎◌, inl, inr, List, ap, sym, ◌∙◌, subst, arith}
use mathlib.Core.Option.{some, some-injective, some-ne-none}
use mathlib.Core.Logic.{dite}
use native.Mathlib.Decide.{ℕ_discrete}
use Rattle.desk_core.specs.Pen.{new_pen}
use Rattle.desk_core.specs.Desk.{Desk, Has, pens_from}
use Rattle.desk_core.specs.Acting.{OneActs}
use Rattle.desk_core.specs.Leads.{HasPosted}
use Rattle.desk_core.specs.declared.model.PenState.{PenState}
use Rattle.desk_core.specs.declared.model.View.{View}
use Rattle.desk_core.specs.declared.model.View.TheVariants.{Holder}

pub same_pen : (views : List View) (i : ℕ) (p q : PenState) → Has views i p → Has views i q → p ≡ q
same_pen views i p q a b = let e : some (Holder p) ≡ some (Holder q) = sym a ∙ b in cc

-- a pen afterwards is the one that acted, or was there before
pub pen_was : (d d' : Desk) (seat : ℕ) (t : OneActs d d' seat) (j : ℕ) (q : PenState) → Has d'.views j q → (q ≡ t.after) ⊎ Has d.views j q
pen_was d d' seat t j q b =
    dite (ℕ_discrete j seat)
    (λ e. inl (same_pen d'.views seat q t.after (subst (λ n. Has d'.views n q) e b) t.is))
    (λ ne. inr ((t.others j q ne).0 b))

-- a post is never taken back
pub posted_stays : (d d' : Desk) (seat : ℕ) (t : OneActs d d' seat) (place serial : ℕ) → HasPosted d place serial → HasPosted d' place serial
posted_stays d d' seat t place serial (some_serial, (j, q, b, at_place, le)) =
    dite (ℕ_discrete j seat)
    (λ e.
    (let f : q ≡ t.before = same_pen d.views seat q t.before (subst (λ n. Has d.views n q) e b) t.was in (
      some_serial,
      (
        seat,
        t.after,
        t.is,
        t.place ∙ (ap (λ (v : PenState). v.place) (sym f) ∙ at_place),
        let g = ap (λ (v : PenState). v.posts) f in let h = t.posts in omega arith,
      ),
    )))
    (λ ne. (some_serial, (j, q, (t.others j q ne).1 b, at_place, le)))

-- at the opening no pen has posted
pub none_posted : (room n k i : ℕ) (p : PenState) → Has (pens_from room n k) i p → p.posts ≡ 0
none_posted room zero k i p a = absurd (some-ne-none (Holder p) (sym a))
none_posted room (suc n) k zero p a = let e : Holder (new_pen room k) ≡ Holder p = some-injective (Holder (new_pen room k)) (Holder p) a in let f : new_pen room k ≡ p = cc in ap (λ (v : PenState). v.posts) (sym f)
none_posted room (suc n) k (suc i) p a = none_posted room n (k + 1) i p a
