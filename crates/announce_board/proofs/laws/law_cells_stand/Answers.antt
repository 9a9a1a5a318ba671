use Rattle.announce_board.proofs.ToldLemmas.{cells_stand}
use Rattle.announce_board.proofs.laws.law_cells_stand.Goals as goal

pub returns : goal.returns
returns c = cells_stand c.law_desk_runs.ensures.holds
