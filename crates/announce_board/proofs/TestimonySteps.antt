-- Testimonies keep the rule of the table, and are true.
use Rattle.std.proofs.Common.{◌≡◌, ℕ, ◌≤◌, Bool, List, [], ◌∷◌, ◌++◌, set, refl, ap, sym, ◌∙◌, subst, arith}
use mathlib.Core.Option.{some}
use lib.ListN.{get_elem?}
use Rattle.atomic_table.specs.Table.{State, keeps}
use Rattle.atomic_table.proofs.Lists.{set_else, set_again}
use Rattle.announce_board.specs.declared.terms.Terms.{Terms}
use Rattle.announce_board.specs.Slots.{Slotted, first_limits}
use Rattle.desk_core.specs.Dealing.{IsReached, Testifies, Retires, Gathers, ReachedMeetRule, MovesReach}
use Rattle.desk_core.specs.Layout.{lock_at, Loaded}
use Rattle.desk_core.specs.Rule.{MeetsRule}
use Rattle.desk_core.specs.Duties.{DutiesAreKept, weight_of}
use Rattle.desk_core.specs.Testimonies.{after_retiring, StepsTestify, StepsRetire, StepsGather}
use Rattle.desk_core.specs.Witnessed.{TestimoniesAreTrue}
use Rattle.desk_core.specs.declared.model.Duty.TheVariants.{Active, Retired}
use Rattle.desk_core.specs.declared.model.PenState.{PenState}
use Rattle.desk_core.specs.declared.model.View.{View}
use Rattle.desk_core.specs.declared.model.View.TheVariants.{Holder, Testimony}
use Rattle.announce_board.specs.Allowed.{AsNothing, CutAsMove, JoinAsMove}
use Rattle.announce_board.specs.Rule.{Keeps, desk_of}
use Rattle.announce_board.specs.Steps.{pen_at}
use Rattle.announce_board.specs.Testimonies.{pens_of, pens_in, licences_of, licences_in, testimony_at, IsTestimony, both_testify, TestifyAllowedBy, RetireAllowedBy, GatherAllowedBy, CompareAllowedBy}
use Rattle.announce_board.proofs.Duties.{IsQuiet, testimony_quiet, quiet_more, retires, gathers}
use Rattle.announce_board.proofs.Retiring.{one_alone}
use Rattle.announce_board.proofs.Weights.{weighs_more, weighs_all_active, weighs_retired, weighs_gathered}

-- the views alone have changed
abbrev pub viewed : (wide : Bool) (roomy : ℕ → Type 0) → ReachedMeetRule → (room : ℕ) (terms : Terms) (places : ℕ) (s : State Slotted View) (k : Keeps wide roomy room terms places s) (views : List View)
    → IsReached places (first_limits room terms) (record (desk_of room places k.held k.control k.cells s.homes s.views) { views = views }) → DutiesAreKept views → weight_of places views ≤ places
    → Keeps wide roomy room terms places record { words = s.words; homes = s.homes; views = views }
viewed wide roomy meet room terms places s k views reached duties weight =
    record {
      held = k.held;
      control = k.control;
      cells = k.cells;
      words = k.words;
      slots = k.slots;
      reached = reached;
      meets = meet places (first_limits room terms) (record (desk_of room places k.held k.control k.cells s.homes s.views) { views = views }) k.meets.2.room_in_range reached;
      duties = duties;
      weight = weight;
      memory = k.memory;
    }

-- a testimony of a pen that acts
active_testimony : (p : PenState) → p.duty ≡ Active → IsQuiet (Testimony (p ∷ []) 0)
active_testimony p active =
    testimony_quiet (p ∷ []) 0
    (λ k q at gone.
    (let same = one_alone p q 0 (p ∷ []) 0 k refl at in
    let f : Active ≡ Retired = sym active ∙ (ap (λ (x : PenState). x.duty) same ∙ gone) in
    cc))

pub testify_allowed : (wide : Bool) (roomy : ℕ → Type 0) → ReachedMeetRule → MovesReach → TestifyAllowedBy CutAsMove wide roomy
testify_allowed wide roomy meet goes room terms places slots id m is s k at =
    let p = pen_at m in
    let has = at ∙ ap some is in
    let now = desk_of room places k.held k.control k.cells s.homes s.views in
    let last : View = Testimony (p ∷ []) 0 in
    let more = weighs_more places (set s.views id m.0) last in
    let none = weighs_all_active p refl in
    let within = k.weight in
    let same : set s.views id m.0 ≡ s.views = set_again s.views id m.0 at in
    let as_before : weight_of places (set s.views id m.0) ≡ weight_of places s.views = ap (weight_of places) same in
    let moved : StepsTestify now id (record now { views = set s.views id m.0 ++ last ∷ [] }) =
    subst (λ (v : View). StepsTestify now id (record now { views = set s.views id v ++ last ∷ [] })) (sym is) (p, has, refl) in (
      viewed wide roomy meet room terms places s k (set s.views id m.0 ++ last ∷ [])
          (goes places (first_limits room terms) now (record now { views = set s.views id m.0 ++ last ∷ [] }) (Testifies id) k.reached moved)
          (quiet_more (set s.views id m.0) last (subst DutiesAreKept (sym same) k.duties) (active_testimony p refl))
          (omega (arith, more, none, within, as_before)),
      moved,
    )

-- a pen may retire that does not lead
pub retire_allowed : (wide : Bool) (roomy : ℕ → Type 0) → ReachedMeetRule → MovesReach → RetireAllowedBy CutAsMove wide roomy
retire_allowed wide roomy meet goes room terms places slots id m is idle s k at =
    let p = pen_at m in
    let w = after_retiring p in
    let has = at ∙ ap some is in
    let now = desk_of room places k.held k.control k.cells s.homes s.views in
    let views = set s.views id (Holder w) ++ Testimony (w ∷ []) 0 ∷ [] in
    let same = weighs_retired places s.views id p has refl in
    let within = k.weight in
    let moved : StepsRetire now id (record now { views = views }) = (p, has, idle, refl) in (
      viewed wide roomy meet room terms places s k views
          (goes places (first_limits room terms) now (record now { views = views }) (Retires id) k.reached moved)
          (retires s.views id p k.duties has refl idle (λ seat q there here. k.meets.2.seated.apart seat id q p there has here))
          (omega (arith, same, within)),
      moved,
    )

pub gather_allowed : (wide : Bool) (roomy : ℕ → Type 0) → ReachedMeetRule → MovesReach → GatherAllowedBy JoinAsMove wide roomy
gather_allowed wide roomy meet goes room terms places id v other w is it s k at ne there =
    let now = desk_of room places k.held k.control k.cells s.homes s.views in
    let both = both_testify v w in
    let views = set (set s.views id both) other (Testimony [] 0) in
    let here : get_elem? s.views id ≡ some (testimony_at v) = at ∙ ap some is in
    let second : get_elem? s.views other ≡ some (testimony_at w) = sym (set_else s.views id other both ne) ∙ (there ∙ ap some it) in
    let same = weighs_gathered places s.views id other (pens_of v) (pens_of w) (licences_of v) (licences_of w) here second ne in
    let within = k.weight in
    let moved : StepsGather now id other (record now { views = views }) =
    (pens_of v, pens_of w, licences_of v, licences_of w, here, second, ne, refl) in (
      viewed wide roomy meet room terms places s k views
          (goes places (first_limits room terms) now (record now { views = views }) (Gathers id other) k.reached moved)
          (gathers s.views id other (pens_of v) (pens_of w) (licences_of v) (licences_of w) k.duties here second ne)
          (omega (arith, same, within)),
      moved,
    )

pub compare_allowed : (wide : Bool) (roomy : ℕ → Type 0) → TestimoniesAreTrue → Loaded → CompareAllowedBy AsNothing wide roomy
compare_allowed wide roomy truth loaded room terms places slots id m is s k long at small =
    let same : set s.views id m.0 ≡ s.views = set_again s.views id m.0 at in (
      m.0,
      keeps,
      tt,
      record {
        held = k.held;
        control = k.control;
        cells = k.cells;
        words = loaded wide places s.words k.held k.control k.cells lock_at k.words;
        slots = k.slots;
        reached = subst (λ v. IsReached places (first_limits room terms) (desk_of room places k.held k.control k.cells s.homes v)) (sym same) k.reached;
        meets = subst (λ v. MeetsRule (desk_of room places k.held k.control k.cells s.homes v)) (sym same) k.meets;
        duties = subst DutiesAreKept (sym same) k.duties;
        weight = subst (λ v. weight_of places v ≤ places) (sym same) k.weight;
        memory = k.memory;
      },
      ap (λ v. desk_of room places k.held k.control k.cells s.homes v) same,
      (
        refl,
        (
          room,
          truth places (first_limits room terms) k.reached.0 (desk_of room places k.held k.control k.cells s.homes s.views) k.meets.2.room_in_range k.reached.1 id (pens_of m.0) (licences_of m.0) (at ∙ ap some is),
        ),
      ),
    )

-- the view of a badge that is a testimony's is the testimony of its pens and licences
pub testimony_is : (views : List View) (v : View) (pens : List PenState) (n : ℕ) → IsTestimony views → views ≡ v ∷ [] → pens_in views ≡ pens → licences_in views ≡ n → v ≡ Testimony pens n
testimony_is views v pens n is e same count =
    let f : ◌≡◌ {A = List View} (v ∷ []) (Testimony (pens_in views) (licences_in views) ∷ []) = sym e ∙ is in
    let g : v ≡ Testimony (pens_in views) (licences_in views) = cc in
    g ∙ (ap (λ ps. Testimony ps (licences_in views)) same ∙ ap (Testimony pens) count)

-- the view of a badge that is a testimony's is a testimony
pub is_testimony : (views : List View) (v : View) → IsTestimony views → views ≡ v ∷ [] → v ≡ testimony_at v
is_testimony views v is e =
    let f : ◌≡◌ {A = List View} (v ∷ []) (Testimony (pens_in views) (licences_in views) ∷ []) = sym e ∙ is in
    let g : v ≡ Testimony (pens_in views) (licences_in views) = cc in
    g ∙ ap (λ vs. Testimony (pens_in vs) (licences_in vs)) e
