-- Each step of a comer meets what Kept asks of it.
use Rattle.std.proofs.Common.{◌≡◌, ℕ, ◌+◌, ◌≢◌, inl, inr, List, refl, sym, ◌∙◌, subst, arith, ◌==◌}
use Rattle.std.proofs.lemmas.Bool.{cases_eq, eq-eqb, ne_eqb, cond-true, cond-false}
use Rattle.split_core.specs.Grid.{Grid, put}
use Rattle.split_core.specs.Places.{at}
use Rattle.split_core.specs.Comer.{wrote, closed, turned}
use Rattle.split_core.specs.declared.model.Comer.{Comer}
use Rattle.split_core.specs.declared.model.Next.TheVariants.{WriteLast, ReadDoor, CloseDoor, ReadLast, Stopped}
use Rattle.split_core.specs.declared.model.Turn.TheVariants.{Right, Down}
use Rattle.split_core.proofs.Kept.{Owns, Local}
use Rattle.split_core.proofs.Ways.{left_below, not_left}

pub put_same : (f : ℕ → ℕ) (i w : ℕ) → put f i w i ≡ w
put_same f i w = cond-true (i == i) w (f i) (eq-eqb i i refl)

pub put_other : (f : ℕ → ℕ) (i w j : ℕ) → j ≢ i → put f i w j ≡ f j
put_other f i w j ne = cond-false (j == i) w (f j) (ne_eqb j i ne)

module _ (s : Grid) (cs : List Comer) (x : Comer) where
  pub owns_here : (p : ℕ) → p ≡ at x.turns → Owns (record { last = put s.last (at x.turns) x.id; door = s.door; comers = cs }) p (wrote x)
  owns_here p q = (
    sym (subst (λ (j : ℕ). put s.last (at x.turns) x.id j ≡ x.id) (sym q) (put_same s.last (at x.turns) x.id)),
    inr (sym q, λ z. cc),
    not_left Down p x.turns (sym q),
  )

  pub shut_here : (p : ℕ) → p ≡ at x.turns → put s.door (at x.turns) 1 p ≡ 1
  shut_here p q = subst (λ (j : ℕ). put s.door (at x.turns) 1 j ≡ 1) (sym q) (put_same s.door (at x.turns) 1)

  pub writing : x.next ≡ WriteLast → Local s (record { last = put s.last (at x.turns) x.id; door = s.door; comers = cs }) x (wrote x)
  writing e = record {
    same = refl;
    stays = λ p d. d;
    shuts = λ p d. inl d;
    lasts = λ p. elim (cases_eq p (at x.turns)) [ inl q ↦ inr (owns_here p q) | inr ne ↦ inl (put_other s.last (at x.turns) x.id p ne) ];
    passes = λ p. grind arith;
    still = λ p. grind arith;
    writes = λ p w. elim w [ inl h ↦ inl (inl h) | inr h ↦ inr (owns_here p (sym h.0)) ];
    owns = λ p. grind arith;
    stops = grind arith;
    claims = grind arith;
  }

  pub reading_open : x.next ≡ ReadDoor → (w : ℕ) → (s.door (at x.turns) ≢ 1)
      → Local s (record s { comers = cs }) x (record x { next = CloseDoor; read = w; steps = x.steps + 1 })
  reading_open e w o = record {
    same = refl;
    stays = λ p d. d;
    shuts = λ p d. inl d;
    lasts = λ p. inl refl;
    passes = λ p. grind arith;
    still = λ p. grind arith;
    writes = λ p. grind arith;
    owns = λ p. grind arith;
    stops = grind arith;
    claims = λ _. inr o;
  }

  pub turning_right : x.next ≡ ReadDoor → (w : ℕ) → (s.door (at x.turns) ≡ 1) → Local s (record s { comers = cs }) x (turned Right x w)
  turning_right e w o = record {
    same = refl;
    stays = λ p d. d;
    shuts = λ p d. inl d;
    lasts = λ p. inl refl;
    passes = λ p. grind (arith, o);
    still = λ p. grind (arith, not_left Right p x.turns, left_below p x.turns);
    writes = λ p. grind arith;
    owns = λ p. grind arith;
    stops = grind arith;
    claims = grind arith;
  }

  pub closing : x.next ≡ CloseDoor → Local s (record { last = s.last; door = put s.door (at x.turns) 1; comers = cs }) x (closed x)
  closing e = record {
    same = refl;
    stays = λ p d. elim (cases_eq p (at x.turns)) [ inl q ↦ shut_here p q | inr ne ↦ put_other s.door (at x.turns) 1 p ne ∙ d ];
    shuts =
        λ p d. elim (cases_eq p (at x.turns)) [
          | inl q ↦ inr (inr (sym q, inl refl), not_left Right p x.turns (sym q))
          | inr ne ↦ inl
              (sym (put_other s.door (at x.turns) 1 p ne) ∙ d)
        ];
    lasts = λ p. inl refl;
    passes = λ p h. elim h [ inl g ↦ inl (inl g) | inr g ↦ inr (shut_here p (sym g.0)) ];
    still = λ p. grind arith;
    writes = λ p. grind arith;
    owns = λ p. grind arith;
    stops = grind arith;
    claims = grind arith;
  }

  pub stopping : x.next ≡ ReadLast → (w : ℕ) → (s.last (at x.turns) ≡ x.id)
      → Local s (record s { comers = cs }) x (record x { next = Stopped; read = w; steps = x.steps + 1 })
  stopping e w o = record {
    same = refl;
    stays = λ p d. d;
    shuts = λ p d. inl d;
    lasts = λ p. inl refl;
    passes = λ p. grind arith;
    still = λ p. grind arith;
    writes = λ p. grind arith;
    owns = λ p. grind arith;
    stops = λ _. (refl, inr (inr e, sym o));
    claims = λ _. inl (inr (inr e, sym o), refl);
  }

  pub turning_down : x.next ≡ ReadLast → (w : ℕ) → (s.last (at x.turns) ≢ x.id) → Local s (record s { comers = cs }) x (turned Down x w)
  turning_down e w o = record {
    same = refl;
    stays = λ p d. d;
    shuts = λ p d. inl d;
    lasts = λ p. inl refl;
    passes = λ p. grind (arith, o);
    still = λ p. grind arith;
    writes = λ p. grind arith;
    owns = λ p. grind arith;
    stops = grind arith;
    claims = grind arith;
  }
