-- A trail scan finds what was posted before it, so a round by it answers that.
use Rattle.std.proofs.Common.{◌≡◌, ℕ, ◌≤◌, List, [], ◌∷◌, ◌++◌, refl, ap, sym, ◌∙◌, subst, arith, length}
use Rattle.std.specs.Prelude.{Contains}
use Rattle.split_core.specs.Grid.{Grid, run, Different, Has as IsComer, opening as grid_opening}
use Rattle.split_core.specs.Trail.{Trail, trail_start, follows}
use Rattle.split_core.specs.TrailReads as core
use Rattle.split_core.specs.TrailReads.{trail_beside, FindsClosed}
use Rattle.split_core.specs.declared.model.Comer.{Comer}
use Rattle.split_core.specs.declared.model.Next.TheVariants.{Stopped}
use Rattle.desk_core.specs.Steps.{Event as DeskEvent, Tries}
use Rattle.desk_core.specs.Leads.{HasPosted, HasAnswer, KnowsAnswer}
use Rattle.desk_core.specs.declared.model.PenState.{PenState}
use Rattle.desk_core.specs.Desk.{Desk, Has as IsPen}
use Rattle.split_core.specs.Places.{at}
use Rattle.flat_queue.specs.Product.{Product, Event, OnGrid, AtDesk, Run, desk_events}
use Rattle.flat_queue.specs.TrailRounds.{Moment, Happens, ReadsDoor, events_of, Follows, TrailRound, TrailRoundsAnswer, TrailRoundsTellTheirOwn}
use Rattle.flat_queue.proofs.Desks.{same_pen}
use Rattle.flat_queue.proofs.Posts.{Laws, Kept, step_kept, run_kept, reached, posted_on, still_on, stop_closed}

-- what of it the grid sees
abbrev grid_moments : List Moment → List core.Moment
grid_moments [] = []
grid_moments (Happens (OnGrid e) ∷ moments) = core.Happens e ∷ grid_moments moments
grid_moments (Happens (AtDesk who e) ∷ moments) = grid_moments moments
grid_moments (ReadsDoor ∷ moments) = core.Reads ∷ grid_moments moments

beside : (s : Product) (z : Trail) (moments : List Moment) (s' : Product) (z' : Trail) → Follows s z moments s' z' → z' ≡ trail_beside (grid_moments moments) s.grid z
beside s z [] s' z' f = f.1
beside s z (Happens (OnGrid e) ∷ moments) s' z' (m, st, f) =
    beside m z moments s' z' f ∙ ap (λ (x : Product). trail_beside (grid_moments moments) x.grid z) st
beside s z (Happens (AtDesk who e) ∷ moments) s' z' (m, st, f) =
    let t = st.1 in
    beside m z moments s' z' f ∙ ap (λ (x : Product). trail_beside (grid_moments moments) x.grid z) t.2
beside s z (ReadsDoor ∷ moments) s' z' f = beside s (follows (length s.grid.comers) s.grid.door z.ahead z) moments s' z' f

-- the events are a run
is_run : (s : Product) (z : Trail) (moments : List Moment) (s' : Product) (z' : Trail) → Follows s z moments s' z' → Run s (events_of moments) s'
is_run s z [] s' z' f = f.0
is_run s z (Happens e ∷ moments) s' z' (m, st, f) = (m, st, is_run m z moments s' z' f)
is_run s z (ReadsDoor ∷ moments) s' z' f = is_run s (follows (length s.grid.comers) s.grid.door z.ahead z) moments s' z' f

module _ (laws : Laws) (finds : (ids : List ℕ) → Different ids → FindsClosed ids) (ids : List ℕ) (different : Different ids) (s : Product) (kept : Kept ids s) (round : List Event) (s' : Product) (who seat : ℕ)
    (t : TrailRound who seat s round s') where
  at_led : Kept ids t.led
  at_led = step_kept laws ids different s (AtDesk who (Tries seat)) t.led t.wins kept

  at_scanning : Kept ids t.scanning
  at_scanning = run_kept laws ids different t.led t.early t.scanning t.before_scan at_led

  at_served : Kept ids t.served
  at_served =
      run_kept laws ids different t.scanned t.rest t.served t.after_scan
      (run_kept laws ids different t.scanning (events_of t.moments) t.scanned (is_run t.scanning trail_start t.moments t.scanned t.trail t.scan) at_scanning)

  -- the desk's events between the winning of the lock and the release
  lead : List DeskEvent
  lead = desk_events (t.early ++ events_of t.moments ++ t.rest)

  -- each place whose door was closed as the scan began is found
  found : (p : ℕ) → t.scanning.grid.door p ≡ 1 → Contains t.trail.found p
  found p shut =
      let k = at_scanning in
      let is : t.trail ≡ trail_beside (grid_moments t.moments) (run k.events (grid_opening ids)) trail_start =
      beside t.scanning trail_start t.moments t.scanned t.trail t.scan ∙ ap (λ (g : Grid). trail_beside (grid_moments t.moments) g trail_start) k.grid in
      subst (λ (z : Trail). Contains z.found p) (sym is)
      (finds ids different k.events (grid_moments t.moments) p (subst (λ (g : Grid). g.door p ≡ 1) k.grid shut) (ap (λ (z : Trail). z.ahead) (sym is) ∙ t.over))

  -- its comer, which stands still
  scanner : (c : Comer) × IsComer t.scanning.grid who c × (c.next ≡ Stopped) × (c.turns ≡ t.wins.0.0.turns)
  scanner =
      let own = t.wins.0 in
      still_on laws s (AtDesk who (Tries seat) ∷ t.early) t.scanning (t.led, t.wins, t.before_scan) who own.0 own.2 own.3

  round_answers : (place serial : ℕ) → HasPosted s.desk place serial → HasAnswer s'.desk place serial
  unfolding lead
  round_answers place serial posted =
      let posted_led = posted_on laws s (AtDesk who (Tries seat) ∷ []) t.led (t.led, t.wins, refl) place serial posted in
      let posted_scanning = posted_on laws t.led t.early t.scanning t.before_scan place serial posted_led in
      let read = t.reads place (found place (at_scanning.closed place serial posted_scanning)) in
      let there = laws.answered t.led.desk t.served.desk seat place serial lead at_led.rule t.answers read posted_led in
      subst (λ (x : Product). HasAnswer x.desk place serial) (sym t.release.1.2)
      (laws.stay t.served.desk t.release.1.0 t.last place serial at_served.rule t.release.1.1 there)

  round_tells : (serial : ℕ) (p : PenState) → IsPen s.desk.views seat p → serial ≤ p.posts → KnowsAnswer s'.desk seat serial
  unfolding lead
  round_tells serial p a le =
      let own = t.wins.0 in
      let one = laws.one_acts s.desk t.wins.1.0 (Tries seat) t.wins.1.1 in
      let led_desk : t.led.desk ≡ t.wins.1.0 = ap (λ (x : Product). x.desk) t.wins.1.2 in
      let w = one.after in
      let is_w : IsPen t.led.desk.views seat w = subst (λ (d : Desk). IsPen d.views seat w) (sym led_desk) one.is in
      let f : p ≡ one.before = same_pen s.desk.views seat p one.before a one.was in
      let g : own.1 ≡ one.before = same_pen s.desk.views seat own.1 one.before own.4 one.was in
      let le' : serial ≤ w.posts = (let e = ap (λ (v : PenState). v.posts) f in let h = one.posts in omega (arith, e, h, le)) in
      let here : at scanner.0.turns ≡ w.place = ap at scanner.3 ∙ (own.5 ∙ (ap (λ (v : PenState). v.place) g ∙ sym one.place)) in
      let shut = stop_closed laws ids different t.scanning at_scanning who scanner.0 scanner.1 scanner.2 in
      let read = t.reads w.place (subst (Contains t.trail.found) here (found (at scanner.0.turns) shut)) in
      let there = laws.known t.led.desk t.served.desk seat serial w lead at_led.rule t.answers is_w le' read in
      subst (λ (x : Product). KnowsAnswer x.desk seat serial) (sym t.release.1.2)
      (laws.stay_known t.served.desk t.release.1.0 t.last seat serial at_served.rule t.release.1.1 there)

module _ (laws : Laws) (finds : (ids : List ℕ) → Different ids → FindsClosed ids) where
  pub trail_rounds_answer : TrailRoundsAnswer
  trail_rounds_answer ids room before round s s' who seat place serial different small r t posted =
      round_answers laws finds ids different s (reached laws ids different room small before s r) round s' who seat t place serial posted

  pub trail_rounds_tell : TrailRoundsTellTheirOwn
  trail_rounds_tell ids room before round s s' who seat serial p different small r t a le =
      round_tells laws finds ids different s (reached laws ids different room small before s r) round s' who seat t serial p a le
