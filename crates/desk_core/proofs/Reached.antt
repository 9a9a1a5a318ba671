-- The desks at the ends of runs.
use Rattle.std.proofs.Common.{List, [], ◌∷◌, ◌++◌, refl, sym, subst}
use Rattle.desk_core.specs.Desk.{Desk, dealer_opening}
use Rattle.desk_core.specs.Rule.{MeetsRule}
use Rattle.desk_core.specs.Dealing.{Move, Happens, DealtRun, ReachedMeetRule, MovesReach}
use Rattle.desk_core.proofs.Journals.{QueueLaws}
use Rattle.desk_core.proofs.Runs.{openings_meet}
use Rattle.desk_core.proofs.TakeTurns.{moves_keep}

-- one move more
dealt_more : (o : Desk) (xs : List Move) (d : Desk) (x : Move) (e : Desk) → DealtRun o xs d → Happens d x e → DealtRun o (xs ++ x ∷ []) e
dealt_more o [] d x e run move = (e, subst (λ (y : Desk). Happens y x e) run move, refl)
dealt_more o (y ∷ ys) d x e run move = (run.0, run.1, dealt_more run.0 ys d x e run.2 move)

pub moves_reach : MovesReach
moves_reach places limits d e x (moves, run) move = (moves ++ x ∷ [], dealt_more (dealer_opening places limits) moves d x e run move)

run_meets : QueueLaws → (o : Desk) (xs : List Move) (d : Desk) → MeetsRule o → DealtRun o xs d → MeetsRule d
run_meets laws o [] d m run = subst MeetsRule (sym run) m
run_meets laws o (x ∷ xs) d m run = run_meets laws run.0 xs d (moves_keep laws o x run.0 m run.1) run.2

pub reached_meet : QueueLaws → ReachedMeetRule
reached_meet laws places limits d small (moves, run) = run_meets laws (dealer_opening places limits) moves d (openings_meet.dealer places limits small) run
