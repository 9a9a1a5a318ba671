-- Rounds by a trail scan, of the product machine.
use Rattle.std.specs.Prelude.{◌≡◌, ℕ, ◌≤◌, false, List, [], ◌∷◌, ◌++◌, length, Contains}
use Rattle.split_core.specs.Grid.{Different}
use Rattle.split_core.specs.Trail.{Trail, trail_start, follows}
use Rattle.pq_types.specs.declared.journal.TheConstants.{GREATEST_NUMBER}
use Rattle.pq_types.specs.History.{Limits}
use Rattle.desk_core.specs.Steps.{Event as DeskEvent, Tries}
use Rattle.desk_core.specs.Leads.{HasPosted, HasAnswer, KnowsAnswer, Serving, places_read}
use Rattle.desk_core.specs.Desk.{Has as IsPen}
use Rattle.desk_core.specs.declared.model.PenState.{PenState}
use Rattle.flat_queue.specs.Product.{Product, Event, AtDesk, Step, Run, opening, desk_events}
use Rattle.flat_queue.specs.Rounds.{EndsLead}

-- What happens while a trail scan is made: an event of the product, or a read of its next door.
pub data Moment : Type 0 where
  Happens : (event : Event) → Moment
  ReadsDoor : Moment

-- the events among these, in their order
abbrev pub events_of : List Moment → List Event
events_of [] = []
events_of (Happens e ∷ moments) = e ∷ events_of moments
events_of (ReadsDoor ∷ moments) = events_of moments

-- these moments lead from the first state to the second, and the trail scan z meanwhile to z': each of
-- its reads finds its next door as it stands then
abbrev pub Follows : Product → Trail → List Moment → Product → Trail → Type 0
Follows s z [] s' z' = (s' ≡ s) × (z' ≡ z)
Follows s z (Happens e ∷ moments) s' z' = (m : Product) × Step s e m × Follows m z moments s' z'
Follows s z (ReadsDoor ∷ moments) s' z' = Follows s (follows (length s.grid.comers) s.grid.door z.ahead z) moments s' z'

-- A round of the comer at `who`, by the pen at `seat`, from s to s': a lead that begins where the pen
-- wins the lock. Thereafter it makes a new trail scan, which is over before the pen releases; in this
-- lead the pen reads the mail at each place that the scan has found, and answers each post that it
-- reads before it reads on or releases, alone or with an operation of its own. Others do meanwhile
-- what they like.
pub record TrailRound (who seat : ℕ) (s : Product) (events : List Event) (s' : Product) : Type 0 where
  pub early : List Event
  pub moments : List Moment
  pub rest : List Event
  pub led : Product
  pub scanning : Product
  pub scanned : Product
  pub served : Product
  pub last : DeskEvent
  pub ends : EndsLead seat last
  pub in_order : events ≡ AtDesk who (Tries seat) ∷ early ++ events_of moments ++ rest ++ AtDesk who last ∷ []
  pub free : s.desk.held ≡ false
  pub wins : Step s (AtDesk who (Tries seat)) led
  pub before_scan : Run led early scanning
  pub trail : Trail
  pub scan : Follows scanning trail_start moments scanned trail
  pub over : trail.ahead ≡ []
  pub after_scan : Run scanned rest served
  pub reads : (p : ℕ) → Contains trail.found p → Contains (places_read seat (desk_events (early ++ events_of moments ++ rest))) p
  pub answers : Serving seat led.desk (desk_events (early ++ events_of moments ++ rest)) served.desk
  pub release : Step served (AtDesk who last) s'

-- a request that was posted before such a round began has its answer when the round ends
abbrev pub TrailRoundsAnswer : Type 0
TrailRoundsAnswer =
    (ids : List ℕ) (limits : Limits) (before round : List Event) (s s' : Product) (who seat place serial : ℕ) → Different ids
    → limits.room ≤ GREATEST_NUMBER
    → Run (opening ids limits) before s → TrailRound who seat s round s' → HasPosted s.desk place serial
    → HasAnswer s'.desk place serial

-- and whoever made the round knows the answers to its own posts then
abbrev pub TrailRoundsTellTheirOwn : Type 0
TrailRoundsTellTheirOwn =
    (ids : List ℕ) (limits : Limits) (before round : List Event) (s s' : Product) (who seat serial : ℕ) (p : PenState) → Different ids
    → limits.room ≤ GREATEST_NUMBER
    → Run (opening ids limits) before s → TrailRound who seat s round s' → IsPen s.desk.views seat p → serial ≤ p.posts
    → KnowsAnswer s'.desk seat serial
