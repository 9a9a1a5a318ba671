-- Pens that fall asleep and are woken keep the rule of the table.
use Rattle.std.proofs.Common.{◌≡◌, ℕ, Bool, List, [], ◌∷◌, ◌++◌, set, refl, ap, sym, ◌∙◌, arith}
use mathlib.Core.Option.{some}
use lib.ListN.{get_elem?}
use Rattle.atomic_table.proofs.Lists.{set_else}
use Rattle.desk_core.specs.Dealing.{Sleeps, Wakes, ReachedMeetRule, MovesReach}
use Rattle.desk_core.specs.Pen.{new_pen}
use Rattle.desk_core.specs.Testimonies.{after_sleeping, after_waking, StepsSleep, StepsWake}
use Rattle.desk_core.specs.declared.model.PenState.{PenState}
use Rattle.desk_core.specs.declared.model.View.{View}
use Rattle.desk_core.specs.declared.model.View.TheVariants.{Holder, Testimony}
use Rattle.announce_board.specs.Slots.{first_limits}
use Rattle.announce_board.specs.Rule.{desk_of, pen_of}
use Rattle.announce_board.specs.Allowed.{CutAsMove, JoinAsMove}
use Rattle.announce_board.specs.Sleeping.{SleepAllowedBy, WakeAllowedBy}
use Rattle.announce_board.specs.Steps.{pen_at}
use Rattle.announce_board.specs.Testimonies.{IsTestimony, pens_in, licences_in}
use Rattle.announce_board.specs.Tokens.{pen_in}
use Rattle.announce_board.proofs.Duties.{IsQuiet, quiet_set, quiet_more, pen_quiet, sleeper_quiet, testimony_quiet}
use Rattle.announce_board.proofs.TestimonySteps.{viewed}
use Rattle.announce_board.proofs.Weights.{weighs_asleep, weighs_woken}

-- no pen stands in a testimony of none
pub licence_quiet : (n : ℕ) → IsQuiet (Testimony [] n)
licence_quiet n = testimony_quiet [] n (λ k p at gone. cc at)

pub sleep_allowed : (wide : Bool) (roomy : ℕ → Type 0) → ReachedMeetRule → MovesReach → SleepAllowedBy CutAsMove wide roomy
sleep_allowed wide roomy meet goes room terms places slots id m is new s k at =
    let p = pen_at m in
    let w = after_sleeping p in
    let has = at ∙ ap some is in
    let now = desk_of room places k.held k.control k.cells s.homes s.views in
    let views = set s.views id (Holder w) ++ Testimony [] 1 ∷ [] in
    let same = weighs_asleep places s.views id p has refl in
    let within = k.weight in
    let moved : StepsSleep now id (record now { views = views }) = (p, has, ap (λ (x : PenState). x.leading) new, refl) in (
      viewed wide roomy meet room terms places s k views
          (goes places (first_limits room terms) now (record now { views = views }) (Sleeps id) k.reached moved)
          (quiet_more (set s.views id (Holder w)) (Testimony [] 1)
          (quiet_set s.views id (Holder p) (Holder w) k.duties has (pen_quiet p refl) (sleeper_quiet p new))
          (licence_quiet 1))
          (omega (arith, same, within)),
      moved,
    )

pub wake_allowed : (wide : Bool) (roomy : ℕ → Type 0) → ReachedMeetRule → MovesReach → WakeAllowedBy JoinAsMove wide roomy
wake_allowed wide roomy meet goes room terms places id v other w n is it some_left s k at ne there =
    let p = pen_of v in
    let awake = after_waking p in
    let sleeper = after_sleeping p in
    let has : get_elem? s.views id ≡ some (Holder sleeper) = at ∙ ap some is in
    let licence : get_elem? s.views other ≡ some (Testimony [] n) = sym (set_else s.views id other (Holder awake) ne) ∙ (there ∙ ap some it) in
    let now = desk_of room places k.held k.control k.cells s.homes s.views in
    let views = set (set s.views id (Holder awake)) other (Testimony [] 0) in
    let less = weighs_woken places s.views id other (Holder sleeper) p n has refl licence ne some_left in
    let within = k.weight in
    let as_new : sleeper ≡ after_sleeping (new_pen p.room p.place) = k.duties.new id sleeper has refl in
    let moved : StepsWake now id other (record now { views = views }) = (sleeper, n, has, licence, ne, refl) in (
      viewed wide roomy meet room terms places s k views
          (goes places (first_limits room terms) now (record now { views = views }) (Wakes id other) k.reached moved)
          (quiet_set (set s.views id (Holder awake)) other (Testimony [] n) (Testimony [] 0)
          (quiet_set s.views id (Holder sleeper) (Holder awake) k.duties has
          (sleeper_quiet p (ap after_waking as_new))
          (pen_quiet awake refl))
          (there ∙ ap some it) (licence_quiet n) (licence_quiet 0))
          (omega (arith, less, within)),
      moved,
    )

-- the view of a badge that is a licence's is a testimony of no pen
pub licence_is : (views : List View) (v : View) → IsTestimony views → views ≡ v ∷ [] → pens_in views ≡ [] → v ≡ Testimony [] (licences_in views)
licence_is views v is e none =
    let f : ◌≡◌ {A = List View} (v ∷ []) (Testimony (pens_in views) (licences_in views) ∷ []) = sym e ∙ is in
    let g : v ≡ Testimony (pens_in views) (licences_in views) = cc in
    g ∙ ap (λ (ps : List PenState). Testimony ps (licences_in views)) none

-- the view of a badge that is a sleeper's is a sleeping pen
pub sleeper_is : (views : List View) (v : View) → views ≡ Holder (after_sleeping (pen_in views)) ∷ [] → views ≡ v ∷ [] → v ≡ Holder (after_sleeping (pen_of v))
sleeper_is views v is e =
    let f : ◌≡◌ {A = List View} (v ∷ []) (Holder (after_sleeping (pen_in views)) ∷ []) = sym e ∙ is in
    let g : v ≡ Holder (after_sleeping (pen_in views)) = cc in
    g ∙ ap (λ (vs : List View). Holder (after_sleeping (pen_in vs))) e
