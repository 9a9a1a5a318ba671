use Rattle.std.proofs.Common.{◌≡◌, ℕ, List, [], ◌∷◌, sym, ◌∙◌, ap}
use mathlib.Core.Option.{some, some-injective}
use lib.ListN.{get_elem?}
use Rattle.atomic_table.specs.Table.{State, Final}
use Rattle.flat_queue.proofs.spare.Spare.into_licences.Goals as goal

-- what was at home in the one slot at the end is what was kept there
kept : {S V : Type 0} (x found : S) (words : List ℕ) (slots : List S) → Final (λ (s : State S V). s.homes ≡ some x ∷ []) words slots → get_elem? slots 0 ≡ some found → found ≡ x
kept x found words slots (s, holds, same, long, values) at =
    let there = values 0 x (ap (λ hs. get_elem? hs 0) holds) in
    some-injective found x (sym at ∙ there)

pub returns : goal.returns
returns c = kept _ _ _ _ c.close-closed.ensures.values.2 c.take-licences.ensures.value ∙ c.self.view_is
