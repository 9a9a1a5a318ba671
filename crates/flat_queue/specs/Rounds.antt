-- Rounds of the product machine, and what they and their scans do for requests that were posted
-- before.
use Rattle.std.specs.Prelude.{◌≡◌, ℕ, ◌≤◌, ◌⊎◌, true, false, List, [], ◌∷◌, ◌++◌, length, Contains}
use Rattle.split_core.specs.Grid.{Begins, Different, Has as IsComer, run, opening as grid_opening}
use Rattle.split_core.specs.Collect.{NoneBegins}
use Rattle.split_core.specs.Places.{place}
use Rattle.split_core.specs.declared.model.Comer.{Comer}
use Rattle.split_core.specs.declared.model.Next.TheVariants.{Stopped}
use Rattle.pq_types.specs.Asked.{Answer, Operation}
use Rattle.pq_types.specs.declared.journal.TheConstants.{GREATEST_NUMBER}
use Rattle.pq_types.specs.History.{Limits}
use Rattle.desk_core.specs.Desk.{Has as IsPen, opening as desk_opening}
use Rattle.desk_core.specs.Steps.{Event as DeskEvent, Tries, Releases, ReleasesBy, Run as DeskRun}
use Rattle.desk_core.specs.Leads.{HasPosted, HasAnswer, KnowsAnswer, Serving, places_read}
use Rattle.desk_core.specs.declared.model.PenState.{PenState}
use Rattle.flat_queue.specs.Product.{Product, Event, OnGrid, AtDesk, Step, Run, opening, grid_events, desk_events}

-- the event ends the lead of the pen at the seat: it releases, alone or with an operation of its own: a request, a removal or a
-- move
abbrev pub EndsLead : ℕ → DeskEvent → Type 0
EndsLead seat e = (e ≡ Releases seat) ⊎ ((operation : Operation) × (answer : Answer) × (e ≡ ReleasesBy seat operation answer))

-- A round of the comer at `who`, by the pen at `seat`, from s to s': a lead that begins where the
-- pen wins the lock. Thereafter its comer begins a scan, which is over before the pen releases; in
-- this lead the pen reads the mail at each place that the scan has found, and answers each post
-- that it reads before it reads on or releases, alone or with an operation of its own. Others do
-- meanwhile what they like, and its comer may scan again.
pub record Round (who seat : ℕ) (s : Product) (events : List Event) (s' : Product) : Type 0 where
  pub early : List Event
  pub late : List Event
  pub rest : List Event
  pub led : Product
  pub scanning : Product
  pub scanned : Product
  pub served : Product
  pub last : DeskEvent
  pub ends : EndsLead seat last
  pub in_order : events ≡ AtDesk who (Tries seat) ∷ early ++ OnGrid (Begins who) ∷ late ++ rest ++ AtDesk who last ∷ []
  pub free : s.desk.held ≡ false
  pub wins : Step s (AtDesk who (Tries seat)) led
  pub before_scan : Run led early scanning
  pub scan : Run scanning (OnGrid (Begins who) ∷ late) scanned
  pub one_scan : NoneBegins who (grid_events late)
  pub comer : Comer
  pub is_comer : IsComer scanned.grid who comer
  pub over : comer.scan.over ≡ true
  pub after_scan : Run scanned rest served
  pub reads : (p : ℕ) → Contains comer.scan.found p
      → Contains (places_read seat (desk_events (early ++ OnGrid (Begins who) ∷ late ++ rest))) p
  pub answers : Serving seat led.desk (desk_events (early ++ OnGrid (Begins who) ∷ late ++ rest)) served.desk
  pub release : Step served (AtDesk who last) s'

-- each half of a product run is a run of its own
abbrev pub HalvesAreRuns : Type 0
HalvesAreRuns =
    (ids : List ℕ) (limits : Limits) (events : List Event) (s : Product) → Run (opening ids limits) events s
    → (s.grid ≡ run (grid_events events) (grid_opening ids))
    × DeskRun (desk_opening (place 0 (length ids)) limits) (desk_events events) s.desk

-- a request that was posted before a round began has its answer when the round ends
abbrev pub RoundsAnswer : Type 0
RoundsAnswer =
    (ids : List ℕ) (limits : Limits) (before round : List Event) (s s' : Product) (who seat place serial : ℕ) → Different ids
    → limits.room ≤ GREATEST_NUMBER
    → Run (opening ids limits) before s → Round who seat s round s' → HasPosted s.desk place serial → HasAnswer s'.desk place serial

-- and whoever made the round knows the answers to its own posts then
abbrev pub RoundsTellTheirOwn : Type 0
RoundsTellTheirOwn =
    (ids : List ℕ) (limits : Limits) (before round : List Event) (s s' : Product) (who seat serial : ℕ) (p : PenState) → Different ids
    → limits.room ≤ GREATEST_NUMBER
    → Run (opening ids limits) before s → Round who seat s round s' → IsPen s.desk.views seat p → serial ≤ p.posts
    → KnowsAnswer s'.desk seat serial

-- an announcement that was posted before a scan began is at a place in its answer, once the scan is
-- over
abbrev pub ScansFind : Type 0
ScansFind =
    (ids : List ℕ) (limits : Limits) (before late : List Event) (s s' : Product) (who place serial : ℕ) (x y : Comer) → Different ids
    → limits.room ≤ GREATEST_NUMBER
    → Run (opening ids limits) before s → IsComer s.grid who x → x.next ≡ Stopped
    → Run s (OnGrid (Begins who) ∷ late) s' → NoneBegins who (grid_events late) → IsComer s'.grid who y → y.scan.over ≡ true
    → HasPosted s.desk place serial → Contains y.scan.found place
