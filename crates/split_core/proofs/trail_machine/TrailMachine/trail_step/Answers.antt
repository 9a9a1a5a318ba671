use Rattle.std.proofs.Common.{◌≡◌, ◌<◌, refl, subst, arith, length}
use Rattle.std.proofs.lemmas.Option.{slice_get_read}
use Rattle.split_core.specs.Tracker.{IsTracker}
use Rattle.split_core.proofs.TrailMachines.{lawful_at, trackers_set, follows_on, trail_refused}
use Rattle.split_core.proofs.trail_machine.TrailMachine.trail_step.Goals as goal

pub returns-in-Err-clause-refused : goal.returns-in-Err-clause-refused
returns-in-Err-clause-refused g c = trail_refused c.args.id c.in-Err.error c.args.self.now c.in-Err.ensures.run

pub current-tracker-requires : goal.current-tracker-requires
current-tracker-requires g c =
    let now = c.args.self.now in
    let size : c.len-comers.result ≡ length now.trackers.items = omega arith in
    let within : c.in-Ok.who < length now.trackers.items = omega (arith, c.in-Ok.ensures.within, now.tracked.counted) in
    record { lawful = lawful_at now c.in-Ok.who c.len-comers.result c.index.result.now size (slice_get_read now.trackers.items _ c.in-Ok.who c.index.result.now refl within c.index.ensures) }

pub invariant_of-self : goal.invariant_of-self
invariant_of-self g c =
    let now = c.args.self.now in
    let size : c.len-comers.result ≡ length now.grid.walkers.items = omega (arith, now.tracked.counted) in
    record { tracked = trackers_set _ c.in-Ok.who now.trackers.items c.read_next-seen.result.0 now.tracked (subst (λ n. IsTracker n c.read_next-seen.result.0) size c.read_next-seen.ensures.lawful) }

pub returns-clause-ok : goal.returns-clause-ok
returns-clause-ok g c =
    let now = c.args.self.now in
    let size : c.len-comers.result ≡ length now.trackers.items = omega arith in
    let within : c.in-Ok.who < length now.trackers.items = omega (arith, c.in-Ok.ensures.within, now.tracked.counted) in
    follows_on c.args.id c.in-Ok.who c.len-comers.result c.index.result.now c.current-tracker.result c.read_next-seen.result.0 c.read_next-seen.result.1 now _ c.in-Ok.ensures.run size
    (slice_get_read now.trackers.items _ c.in-Ok.who c.index.result.now refl within c.index.ensures)
    c.current-tracker.ensures.stores c.read_next-seen.ensures.reads refl refl
