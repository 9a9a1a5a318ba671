-- A trail scan beside a run of the grid finds each door that was closed as it began.
use Rattle.std.proofs.Common.{◌≡◌, ℕ, List, [], ◌∷◌, length, refl, sym, ◌∙◌, subst, slice_get}
use Rattle.split_core.specs.Grid.{Grid, actor, happens, run, opening, Different}
use Rattle.split_core.specs.Trail.{Trail, trail_start, follows}
use Rattle.split_core.specs.TrailReads.{Moment, Happens, Reads, trail_beside, FindsClosed}
use Rattle.split_core.proofs.Kept.{Kept}
use Rattle.split_core.proofs.KeptRuns.{kept}
use Rattle.split_core.proofs.Splitters.{not_all_right, not_all_down}
use Rattle.split_core.proofs.Quadrants.{diagonals}
use Rattle.split_core.proofs.Collects.{door_happens, length_acts}
use Rattle.split_core.proofs.TrailFacts.{Leads, leads_start, leads_follows}
use Rattle.split_core.proofs.TrailRuns.{whole}

module _ (n : ℕ) (shut : ℕ → Type 0) where
  beside_leads : (moments : List Moment) (s : Grid) (z : Trail) → length s.comers ≡ n → ((p : ℕ) → shut p → s.door p ≡ 1) → Leads n shut z
      → Leads n shut (trail_beside moments s z)
  beside_leads [] s z e mono k = k
  beside_leads (Happens x ∷ moments) s z e mono k =
      beside_leads moments (happens s x) z (length_acts x s (slice_get s.comers (actor x)) ∙ e) (λ p c. door_happens s x p (mono p c)) k
  beside_leads (Reads ∷ moments) s z e mono k =
      beside_leads moments s (follows (length s.comers) s.door z.ahead z) e mono
      (subst (λ (m : ℕ). Leads n shut (follows m s.door z.ahead z)) (sym e) (leads_follows n shut s.door mono z z.ahead refl k))

pub finds_closed : (ids : List ℕ) → Different ids → FindsClosed ids
finds_closed ids d before moments p closed over =
    let g = run before (opening ids) in
    let k : Kept g = kept ids d before in
    let n = length g.comers in
    let leads = beside_leads n (λ q. g.door q ≡ 1) moments g trail_start refl (λ q c. c) (leads_start n (λ q. g.door q ≡ 1)) in
    whole g k (diagonals g (not_all_right g k) (not_all_down g k)) (trail_beside moments g trail_start) leads over p closed
