use Rattle.std.proofs.Common.{◌∙◌, ap, sym, List, ◌++◌, map, length, arith}
use Rattle.pq_types.specs.Item.{Item}
use Rattle.pq_types.specs.Queue.{with_item}
use Rattle.pq_types.specs.Entry.{Entry}
use Rattle.pq_types.specs.Entry.{item_of}
use Rattle.readme_examples.specs.Agenda.{Held}
use Rattle.readme_examples.proofs.Moves.{next_moves}
use Rattle.readme_examples.proofs.Ordered.{length-with}
use Rattle.readme_examples.proofs.epochs.new_epoch.Goals as goal

-- the first item of the store has moved
pub loop-entry-preserved : goal.loop-entry-preserved
loop-entry-preserved c =
    let now = c.loop-entry in
    let moved = ap (λ (h : Held). h.items) c.in_default-push.ensures.ok ∙ ap (λ x. with_item x now.agenda.items) c.item-item.ensures in
    let next = next_moves now.agenda.items _ now.store.items c.in-Some.entry
    (sym c.pop.ensures.item ∙ c.in-Some.is) now.invariant.whole now.invariant.ascending in
    record {
      whole =
          ap (λ (xs : List Item). xs ++ map item_of c.pop.new.self.items) moved
          ∙ ap (λ (es : List Entry). with_item (item_of c.in-Some.entry) now.agenda.items ++ map item_of es) c.pop.ensures.rest ∙ next;
      ascending = now.invariant.ascending;
      lines =
          let line = ap (λ (h : Held). h.lines) c.in_default-push.ensures.ok in
          let longer = ap (λ (h : Held). length h.items) c.in_default-push.ensures.ok ∙ length-with c.item-item.result now.agenda.items in
          omega (arith, line, longer, now.invariant.lines);
      room = ap (λ (h : Held). h.room) c.in_default-push.ensures.ok ∙ now.invariant.room;
    }
