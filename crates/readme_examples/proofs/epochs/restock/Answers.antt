use Rattle.std.proofs.Common.{◌∙◌, ap, sym, List, ◌++◌, map}
use Rattle.pq_types.specs.Entry.{Entry}
use Rattle.pq_types.specs.Entry.{item_of}
use Rattle.readme_examples.specs.Epochs.{pushed_by}
use Rattle.readme_examples.proofs.Restocking.{next_pushed}
use Rattle.readme_examples.proofs.epochs.restock.Goals as goal

-- the first item of the store was pushed
pub loop-entry-preserved : goal.loop-entry-preserved
loop-entry-preserved g c =
    let push = c.in_default-push.ensures.ok in
    let before = c.loop-entry.invariant in
    record {
      queue = push.member.stays.queue ∙ before.queue;
      whole = ap (λ (es : List Entry). pushed_by c.push.new.self.pen.mine ++ map item_of es) c.pop.ensures.rest
          ∙ next_pushed _ c.loop-entry.store.items c.in-Some.entry push c.item-item.ensures (sym c.pop.ensures.item ∙ c.in-Some.is) before.whole;
    }
