-- What every product run keeps: it is a grid run and a lawful desk, and the door of each place
-- whose pen has posted is closed.
use Rattle.std.proofs.Common.{◌≡◌, ℕ, ◌≤◌, inr, ⊎_elim, List, [], ◌∷◌, ◌++◌, length, refl, ap, sym, ◌∙◌, subst, arith}
use Rattle.split_core.specs.Places.{place, at}
use Rattle.split_core.specs.Grid.{Grid, Event as GridEvent, run, happens, Different, Has as IsComer, opening as grid_opening}
use Rattle.split_core.specs.Splitter.{StaysStopped, WaysClosed}
use Rattle.split_core.specs.Collect.{ScansWhole}
use Rattle.split_core.specs.declared.model.Comer.{Comer}
use Rattle.split_core.specs.declared.model.Next.TheVariants.{Stopped}
use Rattle.pq_types.specs.declared.journal.TheConstants.{GREATEST_NUMBER}
use Rattle.pq_types.specs.History.{Limits}
use Rattle.desk_core.specs.Desk.{Desk, opening as desk_opening}
use Rattle.desk_core.specs.Steps.{actor}
use Rattle.desk_core.specs.Rule.{MeetsRule, EveryRunMeetsRule, EveryStepKeepsRule}
use Rattle.desk_core.specs.Leads.{HasPosted, PostedAreAnswered, AnswersStay, LeadersKnowTheirAnswers, AnswersStayKnown}
use Rattle.desk_core.specs.declared.model.PenState.{PenState}
use Rattle.flat_queue.specs.Product.{Product, Event, OnGrid, AtDesk, Owns, Step, Run, opening, grid_events}
use Rattle.desk_core.specs.Acting.{OneActs, EachStepIsOnePens}
use Rattle.flat_queue.proofs.Desks.{pen_was, posted_stays, none_posted, same_pen}
use Rattle.flat_queue.proofs.Halves.{both}

-- of the core theorem
abbrev pub DoorsStay : Type 0
DoorsStay = (ids : List ℕ) (events more : List GridEvent) (p : ℕ) → (run events (grid_opening ids)).door p ≡ 1 → (run more (run events (grid_opening ids))).door p ≡ 1

abbrev pub DoorsBehind : Type 0
DoorsBehind = (ids : List ℕ) (events : List GridEvent) → Different ids → WaysClosed (run events (grid_opening ids))

run_snoc : (es : List GridEvent) (e : GridEvent) (s : Grid) → run (es ++ e ∷ []) s ≡ happens (run es s) e
run_snoc [] e s = refl
run_snoc (x ∷ es) e s = run_snoc es e (happens s x)

-- at the end of this grid run, with a lawful desk, and with closed doors wherever a pen has posted
pub record Kept (ids : List ℕ) (s : Product) : Type 0 where
  pub events : List GridEvent
  pub grid : s.grid ≡ run events (grid_opening ids)
  pub rule : MeetsRule s.desk
  pub closed : (n serial : ℕ) → HasPosted s.desk n serial → s.grid.door n ≡ 1

-- what the laws of the two machines say
pub record Laws : Type 0 where
  pub doors_stay : DoorsStay
  pub doors_behind : DoorsBehind
  pub scans : (ids : List ℕ) → Different ids → ScansWhole ids
  pub stopped : (g : Grid) (more : List GridEvent) → StaysStopped g more
  pub keeps : EveryStepKeepsRule
  pub rule : EveryRunMeetsRule
  pub one_acts : EachStepIsOnePens
  pub answered : PostedAreAnswered
  pub stay : AnswersStay
  pub known : LeadersKnowTheirAnswers
  pub stay_known : AnswersStayKnown

module _ (laws : Laws) (ids : List ℕ) (different : Different ids) where
  -- the door of the place where a comer has stopped is closed
  pub stop_closed : (s : Product) → Kept ids s → (who : ℕ) (c : Comer) → IsComer s.grid who c → c.next ≡ Stopped → s.grid.door (at c.turns) ≡ 1
  stop_closed s k who c a stopped =
      subst (λ (g : Grid). g.door (at c.turns) ≡ 1) (sym k.grid)
      (laws.doors_behind ids k.events different who c (subst (λ (g : Grid). IsComer g who c) k.grid a) (at c.turns) (inr (refl, stopped)))

  grid_keeps : (s : Product) (e : GridEvent) → Kept ids s → Kept ids record s { grid = happens s.grid e }
  grid_keeps s e k =
      let same : happens s.grid e ≡ happens (run k.events (grid_opening ids)) e = ap (λ (g : Grid). happens g e) k.grid in
      record {
        events = k.events ++ e ∷ [];
        grid = same ∙ sym (run_snoc k.events e (grid_opening ids));
        rule = k.rule;
        closed = λ n serial h.
            subst (λ (g : Grid). g.door n ≡ 1) (sym same)
            (laws.doors_stay ids k.events (e ∷ []) n (subst (λ (g : Grid). g.door n ≡ 1) k.grid (k.closed n serial h)));
      }

  desk_closed : (s : Product) (d : Desk) (seat : ℕ) → Kept ids s → (who : ℕ) → Owns s who seat → OneActs s.desk d seat → (n serial : ℕ)
      → HasPosted d n serial → s.grid.door n ≡ 1
  desk_closed s d seat k who (c, p, a, stopped, b, same) t n serial (some_serial, (j, q, h, at_place, le)) =
      ⊎_elim
      (λ u.
      (let f : p ≡ t.before = same_pen s.desk.views seat p t.before b t.was in
      let e : at c.turns ≡ n = same ∙ (ap (λ (v : PenState). v.place) f ∙ (sym t.place ∙ (ap (λ (v : PenState). v.place) (sym u) ∙ at_place))) in
      subst (λ m. s.grid.door m ≡ 1) e (stop_closed s k who c a stopped)))
      (λ u. k.closed n serial (some_serial, (j, q, u, at_place, le)))
      (pen_was s.desk d seat t j q h)

  pub step_kept : (s : Product) (e : Event) (s' : Product) → Step s e s' → Kept ids s → Kept ids s'
  step_kept s (OnGrid e) s' same k = subst (Kept ids) (sym same) (grid_keeps s e k)
  step_kept s (AtDesk who e) s' st k =
      let d = st.1.0 in
      subst (Kept ids) (sym st.1.2)
      record {
        events = k.events;
        grid = k.grid;
        rule = laws.keeps s.desk d e k.rule st.1.1;
        closed = desk_closed s d (actor e) k who st.0 (laws.one_acts s.desk d e st.1.1);
      }

  pub run_kept : (s : Product) (es : List Event) (s' : Product) → Run s es s' → Kept ids s → Kept ids s'
  run_kept s [] s' r k = subst (Kept ids) (sym r) k
  run_kept s (e ∷ es) s' (m, st, r) k = run_kept m es s' r (step_kept s e m st k)

  opening_kept : (limits : Limits) → limits.room ≤ GREATEST_NUMBER → Kept ids (opening ids limits)
  opening_kept limits small =
      record {
        events = [];
        grid = refl;
        rule = laws.rule (place 0 (length ids)) limits [] (desk_opening (place 0 (length ids)) limits) small refl;
        closed = λ n serial h. absurd (let e = none_posted limits.room (place 0 (length ids)) 0 h.1.0 h.1.1 h.1.2 in let le = h.1.4 in let lt = h.0 in omega arith);
      }

  -- every state that a product run reaches is such
  pub reached : (limits : Limits) → limits.room ≤ GREATEST_NUMBER → (events : List Event) (s : Product) → Run (opening ids limits) events s → Kept ids s
  reached limits small events s r = run_kept (opening ids limits) events s r (opening_kept limits small)

module _ (laws : Laws) where
  -- a post made before a product run has been made after it
  pub posted_on : (s : Product) (es : List Event) (s' : Product) → Run s es s' → (n serial : ℕ) → HasPosted s.desk n serial → HasPosted s'.desk n serial
  posted_on s [] s' r n serial h = subst (λ (x : Product). HasPosted x.desk n serial) (sym r) h
  posted_on s (OnGrid e ∷ es) s' (m, st, r) n serial h = posted_on m es s' r n serial (subst (λ (x : Product). HasPosted x.desk n serial) (sym st) h)
  posted_on s (AtDesk who e ∷ es) s' (m, st, r) n serial h =
      let one = laws.one_acts s.desk st.1.0 e st.1.1 in
      posted_on m es s' r n serial (subst (λ (x : Product). HasPosted x.desk n serial) (sym st.1.2) (posted_stays s.desk st.1.0 (actor e) one n serial h))

  -- a comer that has stopped before a product run stands still after it
  pub still_on : (s : Product) (es : List Event) (s' : Product) → Run s es s' → (who : ℕ) (c : Comer) → IsComer s.grid who c → c.next ≡ Stopped
      → (c' : Comer) × IsComer s'.grid who c' × (c'.next ≡ Stopped) × (c'.turns ≡ c.turns)
  still_on s es s' r who c h stopped =
      subst (λ (g : Grid). (c' : Comer) × IsComer g who c' × (c'.next ≡ Stopped) × (c'.turns ≡ c.turns)) (sym (both s es s' r).0)
      (laws.stopped s.grid (grid_events es) who c h stopped)
