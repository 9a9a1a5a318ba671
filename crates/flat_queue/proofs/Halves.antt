-- Each half of a product run is a run of its own.
use Rattle.std.proofs.Common.{◌≡◌, List, [], ◌∷◌, ap, ◌∙◌, subst}
use Rattle.split_core.specs.Grid.{run}
use Rattle.desk_core.specs.Steps.{Run as DeskRun}
use Rattle.flat_queue.specs.Product.{Product, Event, OnGrid, AtDesk, Run, grid_events, desk_events}
use Rattle.flat_queue.specs.Rounds.{HalvesAreRuns}

pub both : (s : Product) (events : List Event) (s' : Product) → Run s events s'
    → (s'.grid ≡ run (grid_events events) s.grid) × DeskRun s.desk (desk_events events) s'.desk
both s [] s' r = (ap (λ (x : Product). x.grid) r, ap (λ (x : Product). x.desk) r)
both s (OnGrid e ∷ es) s' (m, st, r) =
    let h = both m es s' r in
    (h.0 ∙ ap (λ (x : Product). run (grid_events es) x.grid) st, subst (λ (x : Product). DeskRun x.desk (desk_events es) s'.desk) st h.1)
both s (AtDesk who e ∷ es) s' (m, st, r) =
    let h = both m es s' r in
    let t = st.1 in
    (h.0 ∙ ap (λ (x : Product). run (grid_events es) x.grid) t.2, (t.0, t.1, subst (λ (x : Product). DeskRun x.desk (desk_events es) s'.desk) t.2 h.1))

pub halves : HalvesAreRuns
halves ids room events s r = both _ events s r
