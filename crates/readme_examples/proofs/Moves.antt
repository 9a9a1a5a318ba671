-- What moving items in their order leaves.
use Rattle.std.proofs.Common.{◌≡◌, ◌∙◌, ap, sym, subst, List, [], ◌∷◌, ◌++◌, map, Some}
use Rattle.std.proofs.lemmas.List.{append_assoc}
use Rattle.leftist_heap.specs.Store.{first_of, rest_of}
use Rattle.pq_types.specs.Item.{Item}
use Rattle.pq_types.specs.Queue.{IsAscending, with_item}
use Rattle.pq_types.specs.Entry.{Entry}
use Rattle.pq_types.specs.Entry.{item_of}
use Rattle.readme_examples.proofs.Firsts.{first_is}
use Rattle.readme_examples.proofs.Ordered.{with_last, before_is_low}

-- of an ascending list the next item moves to the end of those that have moved
pub next_moves : (moved whole : List Item) (entries : List Entry) (e : Entry) → first_of entries ≡ Some e
    → moved ++ map item_of entries ≡ whole → IsAscending whole
    → with_item (item_of e) moved ++ map item_of (rest_of entries) ≡ whole
next_moves moved whole entries e first split ascending =
    let behind = map item_of (rest_of entries) in
    let apart : moved ++ item_of e ∷ behind ≡ whole = ap (λ es. moved ++ map item_of es) (sym (first_is e entries first)) ∙ split in
    let low = before_is_low moved (item_of e) behind (subst IsAscending (sym apart) ascending) in
    ap (λ xs. xs ++ behind) (with_last (item_of e) moved low) ∙ append_assoc moved (item_of e ∷ []) behind ∙ apart
