use Rattle.split_grid.proofs.LooksFound.{looks_find}
use Rattle.split_grid.proofs.laws.law_looks.Goals as goal

pub returns : goal.returns
returns c ids differ =
    looks_find ids (c.law_trail_reads.ensures.closed ids differ) (λ events. (c.law_all_runs.ensures.inside ids events differ).comers)
    (c.law_places.ensures 0 0).number
