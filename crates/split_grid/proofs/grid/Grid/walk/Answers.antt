use Rattle.std.proofs.Common.{◌∙◌, ap}
use Rattle.split_core.specs.declared.model.Comer.{Comer}
use Rattle.split_grid.proofs.Ways.{goes_on, strode_id}
use Rattle.split_grid.proofs.grid.Grid.walk.Goals as goal

pub loop-next-preserved : goal.loop-next-preserved
loop-next-preserved g c =
    let i = c.loop-next.invariant in
    let e = c.in-Going.ensures.stride in
    record {
      table = e.table ∙ i.table;
      tag = e.tag ∙ i.tag;
      comers = e.comers ∙ i.comers;
      id = ap (λ (x : Comer). x.id) e.step ∙ strode_id c.loop-next.walker.comer c.in-Going.next.comer.read ∙ i.id;
      way = goes_on c.args.newcomer.comer c.loop-next.walker.comer c.in-Going.next.comer i.way c.in-Going.ensures.stood.going e.step;
    }

pub returns-in-Home-clause-way : goal.returns-in-Home-clause-way
returns-in-Home-clause-way g c =
    goes_on c.args.newcomer.comer c.loop-next.walker.comer c.in-Home.stopped.comer c.loop-next.invariant.way c.in-Home.ensures.stood.going
    c.in-Home.ensures.stride.0
