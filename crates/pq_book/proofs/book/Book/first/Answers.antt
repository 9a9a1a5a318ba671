use Rattle.std.proofs.Common.{◌≡◌, ◌∙◌, ap, sym, refl, List, [], ◌∷◌, map}
use Rattle.std.specs.Prelude.{Option, Some, None}
use Rattle.pq_types.specs.Item.{Item}
use Rattle.pq_types.specs.History.{left}
use Rattle.leftist_heap.specs.Store.{first_of}
use Rattle.pq_types.specs.Entry.{Entry}
use Rattle.pq_book.specs.Book.{Volume}
use Rattle.pq_types.specs.Entry.{item_of}
use Rattle.pq_book.proofs.KeptLemmas.{items_left}
use Rattle.pq_book.proofs.book.Book.first.Goals as goal

-- the item of an entry, where there is one
abbrev item_in : Option Entry → Option Item
item_in None = None
item_in (Some e) = Some (item_of e)

first_item : (es : List Entry) → item_in (first_of es) ≡ first_of (map item_of es)
first_item [] = refl
first_item (e ∷ es) = refl

-- the first entry has the first item of what the journal leaves
first_left : (es : List Entry) (xs : List Item) (first : Option Entry) → map item_of es ≡ xs → first_of es ≡ first → item_in first ≡ first_of xs
first_left es xs first items is = sym (ap item_in is) ∙ first_item es ∙ ap first_of items

pub returns-in-Some : goal.returns-in-Some
returns-in-Some g c =
    let items = items_left _ _ _ _ c.self.invariant.0 ∙ ap (λ (b : Volume). left b.journal) c.self.view_is in
    ap Some c.item.ensures ∙ first_left _ _ (Some c.in-Some.entry.now) items c.in-Some.ensures

pub returns-in-None : goal.returns-in-None
returns-in-None g c =
    let items = items_left _ _ _ _ c.self.invariant.0 ∙ ap (λ (b : Volume). left b.journal) c.self.view_is in
    first_left _ _ None items c.in-None.ensures
