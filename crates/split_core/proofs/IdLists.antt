-- Ids that open a grid differ.
use Rattle.std.proofs.Common.{ℕ, List, inl, inr, sym, ◌∙◌}
use Rattle.std.proofs.lemmas.Bool.{cases_order}
use Rattle.std.proofs.lemmas.Option.{slice_get_within, get_or_from_slice_get}
use Rattle.split_core.specs.Grid.{Different}
use Rattle.split_core.specs.Ids.{OpenGrid}

pub ids_differ : (ids : List ℕ) → OpenGrid ids → Different ids
ids_differ ids h a b id e f =
    let u = get_or_from_slice_get ids a id 0 e in
    let v = get_or_from_slice_get ids b id 0 f in
    elim (cases_order a b) [
      | inl q ↦ q
      | inr o ↦ elim o [
        | inl l ↦ absurd ((h.fine b (slice_get_within ids b id f)).1 (a, l, u ∙ sym v))
        | inr l ↦ absurd ((h.fine a (slice_get_within ids a id e)).1 (b, l, v ∙ sym u))
      ]
    ]
