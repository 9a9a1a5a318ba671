-- What a step makes of the values in the slots.
use Rattle.std.proofs.Common.{◌≡◌, ◌≢◌, ℕ, ◌<◌, ◌⊎◌, inl, inr, List, slice_get, slice_set, Some, Option, refl, ap, sym, ◌∙◌, arith}
use Rattle.std.proofs.lemmas.Bool.{cases_eq}
use Rattle.std.proofs.lemmas.List.{length-set}
use mathlib.Core.Option.{some, none, some-ne-none, some-injective}
use mathlib.Core.Option as home
use lib.ListN.{get_elem?}
use Rattle.atomic_table.proofs.Lists.{at_set, set_here, set_else}
use Rattle.split_core.specs.Places.{at}
use Rattle.split_core.specs.declared.model.Comer.{Comer}
use Rattle.split_core.specs.declared.model.Next.{Next}
use Rattle.split_core.specs.declared.model.Next.TheVariants.{WriteLast, ReadDoor, CloseDoor, ReadLast, Stopped}
use Rattle.split_grid.specs.Rule.{AreValues}
use Rattle.split_grid.proofs.Lists.{get_set, get_set_same, get_set_other}

pub stops? : (m : Next) → (m ≡ Stopped) ⊎ (m ≢ Stopped)
stops? WriteLast = inr (λ e. cc)
stops? ReadDoor = inr (λ e. cc)
stops? CloseDoor = inr (λ e. cc)
stops? ReadLast = inr (λ e. cc)
stops? Stopped = inl refl

module _ {T G : Type 0} (fits : G → ℕ → T → Type 0) (tag : G) (places : ℕ) (cs : List Comer) (homes : List (home.Option (Option T)))
    (k : AreValues fits tag places cs homes)
    (who : ℕ) (c v : Comer) (has : slice_get cs who ≡ Some c) where
  -- the comer at `who` was stopped exactly where it is now
  pub unmoved : (c.next ≡ Stopped → (v.next ≡ Stopped) × (at v.turns ≡ at c.turns))
      → (v.next ≡ Stopped → (c.next ≡ Stopped) × (at v.turns ≡ at c.turns)) → AreValues fits tag places (slice_set cs who v) homes
  unmoved on back = record {
    slots = k.slots;
    home = λ p lt free. k.home p lt (λ a x e s here. elim (cases_eq a who) [
      | inl q ↦
          let same : c ≡ x = let h : Some c ≡ Some x = sym has ∙ (ap (slice_get cs) (sym q) ∙ e) in cc in
          let t = on (ap (λ (y : Comer). y.next) same ∙ s) in
          free who v (get_set_same cs who v c has) t.0 (t.1 ∙ (ap (λ (y : Comer). at y.turns) same ∙ here))
      | inr ne ↦ free a x (get_set_other cs who a v x ne e) s here
    ]);
    out = λ a x e s. elim (get_set cs who a v x e) [
      | inl q ↦
          let t = back (ap (λ (y : Comer). y.next) (sym q.1) ∙ s) in
          ap (get_elem? homes) (ap (λ (y : Comer). at y.turns) q.1 ∙ t.1) ∙ k.out who c has t.0
      | inr q ↦ k.out a x q.1 s
    ];
    fit = k.fit;
  }

  -- nobody else is stopped where the comer stops now
  module _ (going : c.next ≢ Stopped) (ends : v.next ≡ Stopped) (inside : at v.turns < places)
      (alone : (a : ℕ) (x : Comer) → slice_get (slice_set cs who v) a ≡ Some x → x.next ≡ Stopped → at x.turns ≡ at v.turns → a ≡ who) where
    pub kept_there : (x : T) × (get_elem? homes (at v.turns) ≡ some (some (Some x)))
    kept_there = k.home (at v.turns) inside (λ a x e s here. elim (cases_eq a who) [
      | inl q ↦
          let same : c ≡ x = let h : Some c ≡ Some x = sym has ∙ (ap (slice_get cs) (sym q) ∙ e) in cc in
          going (ap (λ (y : Comer). y.next) same ∙ s)
      | inr ne ↦ ne (alone a x (get_set_other cs who a v x ne e) s here)
    ])

    pub taken : AreValues fits tag places (slice_set cs who v) (slice_set homes (at v.turns) none)
    taken = record {
      slots = length-set homes (at v.turns) none ∙ k.slots;
      home = λ p lt free.
          let apart : p ≢ at v.turns = λ e. free who v (get_set_same cs who v c has) ends (sym e) in
          let h = k.home p lt (λ a x e s here. elim (cases_eq a who) [
            | inl q ↦
                let same : c ≡ x = let h : Some c ≡ Some x = sym has ∙ (ap (slice_get cs) (sym q) ∙ e) in cc in
                going (ap (λ (y : Comer). y.next) same ∙ s)
            | inr ne ↦ free a x (get_set_other cs who a v x ne e) s here
          ]) in
          (h.0, set_else homes (at v.turns) p none apart ∙ h.1);
      out = λ a x e s. elim (get_set cs who a v x e) [
        | inl q ↦ ap (get_elem? (slice_set homes (at v.turns) none)) (ap (λ (y : Comer). at y.turns) q.1)
            ∙ set_here homes (at v.turns) none (omega (arith, k.slots))
        | inr q ↦ elim (cases_eq (at x.turns) (at v.turns)) [
          | inl same ↦ ap (get_elem? (slice_set homes (at v.turns) none)) same ∙ set_here homes (at v.turns) none (omega (arith, k.slots))
          | inr apart ↦ set_else homes (at v.turns) (at x.turns) none apart ∙ k.out a x q.1 s
        ]
      ];
      fit = λ p x e. elim (at_set homes (at v.turns) p none (some (Some x)) e) [
        | inl q ↦ absurd (some-ne-none (Some x) (sym q.1))
        | inr q ↦ k.fit p x q.1
      ];
    }
