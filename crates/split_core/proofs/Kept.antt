-- What every grid run keeps: the facts, and what one step owes.
use Rattle.std.proofs.Common.{◌≡◌, ℕ, ◌≢◌, ◌⊎◌, inl, inr, List, slice_get, slice_set, Some, refl, ap, sym, ◌∙◌, subst}
use Rattle.std.proofs.lemmas.Bool.{cases_eq}
use Rattle.std.proofs.lemmas.Option.{same_Some}
use Rattle.split_core.specs.Grid.{Grid, Has}
use Rattle.split_core.specs.Places.{at}
use Rattle.split_core.specs.Splitter.{Left, Turned}
use Rattle.split_core.specs.declared.model.Comer.{Comer}
use Rattle.split_core.specs.declared.model.Next.TheVariants.{WriteLast, CloseDoor, ReadLast, Stopped}
use Rattle.split_core.specs.declared.model.Turn.TheVariants.{Right, Down}
use Rattle.split_core.proofs.Lists.{get_set, get_set_same, get_set_other}

-- the comer has closed the door of p, or found it closed
abbrev pub Passed : ℕ → Comer → Type 0
Passed p x = Left p x.turns ⊎ ((at x.turns ≡ p) × ((x.next ≡ ReadLast) ⊎ (x.next ≡ Stopped)))

-- the comer has written LAST of p
abbrev pub Wrote : ℕ → Comer → Type 0
Wrote p x = Left p x.turns ⊎ ((at x.turns ≡ p) × (x.next ≢ WriteLast))

abbrev pub Closer : ℕ → Comer → Type 0
Closer p x = Passed p x × ¬ Turned Right p x.turns

abbrev pub Owns : Grid → ℕ → Comer → Type 0
Owns s p x = (x.id ≡ s.last p) × Wrote p x × ¬ Turned Down p x.turns

-- the comer has stopped at its place, or will if nobody writes LAST there
abbrev pub Claims : Grid → Comer → Type 0
Claims s x = (x.next ≡ Stopped) ⊎ (((x.next ≡ CloseDoor) ⊎ (x.next ≡ ReadLast)) × (x.id ≡ s.last (at x.turns)))

pub record Kept (s : Grid) : Type 0 where
  pub apart : (a b : ℕ) (x y : Comer) → Has s a x → Has s b y → x.id ≡ y.id → a ≡ b
  pub shut : (a : ℕ) (x : Comer) → Has s a x → (p : ℕ) → Passed p x → s.door p ≡ 1
  pub closer : (p : ℕ) → s.door p ≡ 1 → (a : ℕ) × (x : Comer) × Has s a x × Closer p x
  pub owner : (a : ℕ) (x : Comer) → Has s a x → (p : ℕ) → Wrote p x → (b : ℕ) × (y : Comer) × Has s b y × Owns s p y
  pub alone : (a b : ℕ) (x y : Comer) → Has s a x → Has s b y → x.next ≡ Stopped → Claims s y → at y.turns ≡ at x.turns → b ≡ a

-- what a step from s to s', in which the comer x becomes x', owes
pub record Local (s s' : Grid) (x x' : Comer) : Type 0 where
  pub same : x'.id ≡ x.id
  pub stays : (p : ℕ) → s.door p ≡ 1 → s'.door p ≡ 1
  pub shuts : (p : ℕ) → s'.door p ≡ 1 → (s.door p ≡ 1) ⊎ Closer p x'
  pub lasts : (p : ℕ) → (s'.last p ≡ s.last p) ⊎ Owns s' p x'
  pub passes : (p : ℕ) → Passed p x' → Passed p x ⊎ (s'.door p ≡ 1)
  pub still : (p : ℕ) → Closer p x → Closer p x'
  pub writes : (p : ℕ) → Wrote p x' → Wrote p x ⊎ Owns s' p x'
  pub owns : (p : ℕ) → Owns s p x → Wrote p x' × ¬ Turned Down p x'.turns
  pub stops : x'.next ≡ Stopped → (at x'.turns ≡ at x.turns) × Claims s x
  pub claims : Claims s' x' → (Claims s x × (at x'.turns ≡ at x.turns)) ⊎ (s.door (at x'.turns) ≢ 1)

module _ (s s' : Grid) (i : ℕ) (x x' : Comer) (k : Kept s) (hx : Has s i x) (e : s'.comers ≡ slice_set s.comers i x') (l : Local s s' x x') where
  everyone : (P : ℕ → Comer → Type 0) → P i x' → ((b : ℕ) (y : Comer) → b ≢ i → Has s b y → P b y) → (b : ℕ) (y : Comer) → Has s' b y → P b y
  everyone P here there b y h =
      elim (get_set s.comers i b x' y (subst (λ (cs : List Comer). slice_get cs b ≡ Some y) e h)) [
        | inl q ↦ subst (λ (j : ℕ). P j y) (sym q.0) (subst (λ (z : Comer). P i z) (sym q.1) here)
        | inr q ↦ there b y q.0 q.1
      ]

  new : Has s' i x'
  new = subst (λ (cs : List Comer). slice_get cs i ≡ Some x') (sym e) (get_set_same s.comers i x' x hx)

  other : (b : ℕ) (y : Comer) → b ≢ i → Has s b y → Has s' b y
  other b y ne h = subst (λ (cs : List Comer). slice_get cs b ≡ Some y) (sym e) (get_set_other s.comers i b x' y ne h)

  -- a witness in s is one in s'
  carry : (P Q : Comer → Type 0) → (P x → Q x') → ((y : Comer) → P y → Q y) → (b : ℕ) (y : Comer) → Has s b y → P y → (c : ℕ) × (z : Comer)
      × Has s' c z × Q z
  carry P Q here there b y h p =
      elim (cases_eq b i) [
        | inl q ↦ (i, x', new, here (subst P (same_Some y x (sym h ∙ (ap (slice_get s.comers) q ∙ hx))) p))
        | inr ne ↦ (b, y, other b y ne h, there y p)
      ]

  old_owner : (p : ℕ) (a : ℕ) (y : Comer) → Has s a y → Wrote p y → (b : ℕ) × (z : Comer) × Has s' b z × Owns s' p z
  old_owner p a y h w =
      let o = k.owner a y h p w in
      elim (l.lasts p) [
        | inr q ↦ (i, x', new, q)
        | inl q ↦ carry (λ (z : Comer). Owns s p z) (λ (z : Comer). Owns s' p z)
            (λ r. let w' = l.owns p r in (l.same ∙ (r.0 ∙ sym q), w'.0, w'.1))
            (λ z r. (r.0 ∙ sym q, r.1, r.2)) o.0 o.1 o.2 o.3
      ]

  old_claim : (b : ℕ) (y : Comer) → b ≢ i → Has s b y → Claims s' y → Claims s y
  old_claim b y ne h (inl st) = inl st
  old_claim b y ne h (inr q) =
      elim (l.lasts (at y.turns)) [
        | inl r ↦ inr (q.0, q.1 ∙ r)
        | inr r ↦ absurd (ne (k.apart b i y x h hx (q.1 ∙ (sym r.0 ∙ l.same))))
      ]

  stopped_first : (b : ℕ) (y : Comer) → Has s b y → Claims s x → Claims s y → at y.turns ≡ at x.turns → b ≡ i
  stopped_first b y h (inl st) c q = k.alone i b x y hx h st c q
  stopped_first b y h (inr r) (inl st) q = sym (k.alone b i y x h hx st (inr r) (sym q))
  stopped_first b y h (inr r) (inr t) q = k.apart b i y x h hx (t.1 ∙ (ap s.last q ∙ sym r.1))

  pub kept_after : Kept s'
  kept_after =
      record {
        apart = λ a b y z hy hz. everyone (λ (a : ℕ) (y : Comer). (b : ℕ) (z : Comer) → Has s' b z → y.id ≡ z.id → a ≡ b)
            (everyone (λ (b : ℕ) (z : Comer). x'.id ≡ z.id → i ≡ b) (λ _. refl) (λ b z ne h q. k.apart i b x z hx h (sym l.same ∙ q)))
            (λ a y ne h. everyone (λ (b : ℕ) (z : Comer). y.id ≡ z.id → a ≡ b) (λ q. k.apart a i y x h hx (q ∙ l.same))
            (λ b z ne' h' q. k.apart a b y z h h' q))
            a y hy b z hz;
        shut = everyone (λ (a : ℕ) (y : Comer). (p : ℕ) → Passed p y → s'.door p ≡ 1)
            (λ p q. elim (l.passes p q) [ inl r ↦ l.stays p (k.shut i x hx p r) | inr r ↦ r ])
            (λ a y ne h p q. l.stays p (k.shut a y h p q));
        closer = λ p d. elim (l.shuts p d) [
          | inl q ↦ (let c = k.closer p q in carry (λ (z : Comer). Closer p z) (λ (z : Comer). Closer p z) (l.still p) (λ z r. r) c.0 c.1 c.2 c.3)
          | inr q ↦ (i, x', new, q)
        ];
        owner = everyone (λ (a : ℕ) (y : Comer). (p : ℕ) → Wrote p y → (b : ℕ) × (z : Comer) × Has s' b z × Owns s' p z)
            (λ p w. elim (l.writes p w) [ inl q ↦ old_owner p i x hx q | inr q ↦ (i, x', new, q) ])
            (λ a y ne h p w. old_owner p a y h w);
        alone =
            λ a b y z hy hz. everyone (λ (a : ℕ) (y : Comer). (b : ℕ) (z : Comer) → Has s' b z → y.next ≡ Stopped → Claims s' z
            → at z.turns ≡ at y.turns → b ≡ a)
            (everyone (λ (b : ℕ) (z : Comer). x'.next ≡ Stopped → Claims s' z → at z.turns ≡ at x'.turns → b ≡ i) (λ _ _ _. refl)
            (λ b z ne h st c q. let r = l.stops st in stopped_first b z h r.1 (old_claim b z ne h c) (q ∙ r.0)))
            (λ a y ne h. everyone (λ (b : ℕ) (z : Comer). y.next ≡ Stopped → Claims s' z → at z.turns ≡ at y.turns → b ≡ a)
            (λ st c q. elim (l.claims c) [
              | inl r ↦ k.alone a i y x h hx st r.0 (sym r.1 ∙ q)
              | inr open_there ↦ absurd (open_there (k.shut a y h (at x'.turns) (inr (sym q, inr st))))
            ])
            (λ b z ne' h' st c q. k.alone a b y z h h' st (old_claim b z ne' h' c) q))
            a y hy b z hz;
      }
