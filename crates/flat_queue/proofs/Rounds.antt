-- A scan finds what was posted before it, so a round answers it.
use Rattle.std.proofs.Common.{◌≡◌, ℕ, ◌≤◌, true, List, [], ◌∷◌, ◌++◌, refl, ap, sym, ◌∙◌, subst, arith}
use Rattle.std.specs.Prelude.{Contains}
use Rattle.split_core.specs.Grid.{Grid, Begins, run, happens, Different, Has as IsComer, opening as grid_opening}
use Rattle.split_core.specs.Collect.{NoneBegins, FindsAll}
use Rattle.split_core.specs.declared.model.Comer.{Comer}
use Rattle.split_core.specs.declared.model.Next.TheVariants.{Stopped}
use Rattle.desk_core.specs.Steps.{Event as DeskEvent, Tries}
use Rattle.desk_core.specs.Leads.{HasPosted, HasAnswer, KnowsAnswer}
use Rattle.desk_core.specs.declared.model.PenState.{PenState}
use Rattle.desk_core.specs.Desk.{Desk, Has as IsPen}
use Rattle.split_core.specs.Places.{at}
use Rattle.flat_queue.specs.Product.{Product, Event, OnGrid, AtDesk, Run, grid_events, desk_events}
use Rattle.flat_queue.specs.Rounds.{Round, RoundsAnswer, RoundsTellTheirOwn, ScansFind}
use Rattle.flat_queue.proofs.Desks.{same_pen}
use Rattle.flat_queue.proofs.Halves.{both}
use Rattle.flat_queue.proofs.Posts.{Laws, Kept, step_kept, run_kept, reached, posted_on, still_on}

module _ (laws : Laws) where
  -- what a scan has found that began in a state which a product run reaches
  scan_all : (ids : List ℕ) → Different ids → (s : Product) → Kept ids s → (late : List Event) (s' : Product) (who : ℕ) (x y : Comer) → IsComer s.grid who x
      → x.next ≡ Stopped → Run s (OnGrid (Begins who) ∷ late) s' → NoneBegins who (grid_events late) → IsComer s'.grid who y → y.scan.over ≡ true
      → FindsAll s.grid y
  scan_all ids different s k late s' who x y is_x stopped r none is_y over =
      let after : s'.grid ≡ run (grid_events late) (happens s.grid (Begins who)) = (both s (OnGrid (Begins who) ∷ late) s' r).0 in
      let is_y' : IsComer (run (grid_events late) (happens (run k.events (grid_opening ids)) (Begins who))) who y =
      subst (λ (g : Grid). IsComer (run (grid_events late) (happens g (Begins who))) who y) k.grid (subst (λ (g : Grid). IsComer g who y) after is_y) in
      let is_x' = subst (λ (g : Grid). IsComer g who x) k.grid is_x in
      subst (λ (g : Grid). FindsAll g y) (sym k.grid) (laws.scans ids different k.events (grid_events late) who x y none is_x' stopped is_y' over)

  pub scans_find : ScansFind
  scans_find ids room before late s s' who place serial x y different small r is_x stopped scan none is_y over posted =
      let k = reached laws ids different room small before s r in
      (scan_all ids different s k late s' who x y is_x stopped scan none is_y over).closed place (k.closed place serial posted)

-- A round from a state of a product run.
module _ (laws : Laws) (ids : List ℕ) (different : Different ids) (s : Product) (kept : Kept ids s) (round : List Event) (s' : Product) (who seat : ℕ) (t : Round who seat s round s') where
  at_led : Kept ids t.led
  at_led = step_kept laws ids different s (AtDesk who (Tries seat)) t.led t.wins kept

  at_scanning : Kept ids t.scanning
  at_scanning = run_kept laws ids different t.led t.early t.scanning t.before_scan at_led

  at_served : Kept ids t.served
  at_served =
      run_kept laws ids different t.scanned t.rest t.served t.after_scan
      (run_kept laws ids different t.scanning (OnGrid (Begins who) ∷ t.late) t.scanned t.scan at_scanning)

  -- the desk's events between the winning of the lock and the release
  lead : List DeskEvent
  lead = desk_events (t.early ++ OnGrid (Begins who) ∷ t.late ++ t.rest)

  -- its comer, which stands still, and what its scan has found
  scanner : (c : Comer) × IsComer t.scanning.grid who c × (c.next ≡ Stopped) × (c.turns ≡ t.wins.0.0.turns)
  scanner =
      let own = t.wins.0 in
      still_on laws s (AtDesk who (Tries seat) ∷ t.early) t.scanning (t.led, t.wins, t.before_scan) who own.0 own.2 own.3

  found : FindsAll t.scanning.grid t.comer
  found =
      let c = scanner in
      scan_all laws ids different t.scanning at_scanning t.late t.scanned who c.0 t.comer c.1 c.2 t.scan t.one_scan t.is_comer t.over

  -- what was posted before has its answer when the round ends
  round_answers : (place serial : ℕ) → HasPosted s.desk place serial → HasAnswer s'.desk place serial
  unfolding lead
  round_answers place serial posted =
      let posted_led = posted_on laws s (AtDesk who (Tries seat) ∷ []) t.led (t.led, t.wins, refl) place serial posted in
      let posted_scanning = posted_on laws t.led t.early t.scanning t.before_scan place serial posted_led in
      let read = t.reads place (found.closed place (at_scanning.closed place serial posted_scanning)) in
      let there = laws.answered t.led.desk t.served.desk seat place serial lead at_led.rule t.answers read posted_led in
      subst (λ (x : Product). HasAnswer x.desk place serial) (sym t.release.1.2)
      (laws.stay t.served.desk t.release.1.0 t.last place serial at_served.rule t.release.1.1 there)

  -- and the pen that made it knows its own answers
  round_tells : (serial : ℕ) (p : PenState) → IsPen s.desk.views seat p → serial ≤ p.posts → KnowsAnswer s'.desk seat serial
  unfolding lead
  round_tells serial p a le =
      let own = t.wins.0 in
      let one = laws.one_acts s.desk t.wins.1.0 (Tries seat) t.wins.1.1 in
      let led_desk : t.led.desk ≡ t.wins.1.0 = ap (λ (x : Product). x.desk) t.wins.1.2 in
      let w = one.after in
      let is_w : IsPen t.led.desk.views seat w = subst (λ (d : Desk). IsPen d.views seat w) (sym led_desk) one.is in
      let f : p ≡ one.before = same_pen s.desk.views seat p one.before a one.was in
      let g : own.1 ≡ one.before = same_pen s.desk.views seat own.1 one.before own.4 one.was in
      let le' : serial ≤ w.posts = (let e = ap (λ (v : PenState). v.posts) f in let h = one.posts in omega (arith, e, h, le)) in
      let here : at scanner.0.turns ≡ w.place = ap at scanner.3 ∙ (own.5 ∙ (ap (λ (v : PenState). v.place) g ∙ sym one.place)) in
      let read = t.reads w.place (subst (Contains t.comer.scan.found) here (found.stops who scanner.0 scanner.1 scanner.2)) in
      let there = laws.known t.led.desk t.served.desk seat serial w lead at_led.rule t.answers is_w le' read in
      subst (λ (x : Product). KnowsAnswer x.desk seat serial) (sym t.release.1.2)
      (laws.stay_known t.served.desk t.release.1.0 t.last seat serial at_served.rule t.release.1.1 there)

pub rounds_answer : Laws → RoundsAnswer
rounds_answer laws ids room before round s s' who seat place serial different small r t posted =
    round_answers laws ids different s (reached laws ids different room small before s r) round s' who seat t place serial posted

pub rounds_tell : Laws → RoundsTellTheirOwn
rounds_tell laws ids room before round s s' who seat serial p different small r t a le =
    round_tells laws ids different s (reached laws ids different room small before s r) round s' who seat t serial p a le
