-- Where nobody is in the list there is nobody to wake.
use Rattle.std.proofs.Common.{◌≡◌, ℕ, List, [], true, false, cond, Option, Some, None, nat_lt, refl, subst, sym}
use Rattle.wait_list.specs.declared.waiter.Waiter.{Waiter}
use Rattle.wait_list.specs.declared.stock.Stock.{Stock}
use Rattle.wait_list.specs.Settled.{settled_for_items, settled_for_room, is_over, settled}

for_items : (items : ℕ) (o : Option ℕ) → settled_for_items items o [] ≡ []
for_items items None = refl
for_items items (Some p) = refl

for_room : (stock : Stock) → settled_for_room stock [] ≡ []
for_room stock =
    elim stock.is_shut as (λ b. ◌≡◌ {A = List Waiter} (cond b [] (cond (nat_lt stock.items stock.bound) [] [])) []) [
      | true ↦ refl
      | false ↦ elim (nat_lt stock.items stock.bound) as (λ b. ◌≡◌ {A = List Waiter} (cond b [] []) []) [ true ↦ refl | false ↦ refl ]
    ]

pub settled_none : (stock : Stock) → settled stock [] ≡ []
settled_none stock =
    elim (is_over stock) as (λ b. cond b [] (settled_for_room stock (settled_for_items stock.items stock.first [])) ≡ []) [
      | true ↦ refl
      | false ↦ subst (λ (ws : List Waiter). settled_for_room stock ws ≡ []) (sym (for_items stock.items stock.first)) (for_room stock)
    ]
