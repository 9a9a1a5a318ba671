-- A trace of a table is one run of its desk's machine.
use Rattle.std.proofs.Common.{◌≡◌, ℕ, inl, inr, Bool, List, [], ◌∷◌, ◌++◌, refl, ap, sym, ◌∙◌, subst}
use Rattle.desk_core.specs.Dealing.{Move, DealtRun, DealtOrderStays, dealt_history}
use Rattle.desk_core.specs.Desk.{Desk, acts_number, dealer_opening}
use Rattle.desk_core.specs.Linearizable.{Act}
use Rattle.desk_core.specs.Looking.{Sight, LooksAreMore, EveryDealtRunLinearizesLooks, LinearizesLooks, acts_among, move_sights_of, dealt_sights}
use Rattle.desk_core.specs.Times.{IsWhole, AreTimed, EveryDealtRunIsTimed, EveryDealtRunIsWhole}
use Rattle.announce_board.specs.declared.terms.Terms.{Terms}
use Rattle.announce_board.specs.Slots.{first_limits}
use Rattle.announce_board.specs.Traces.{TableStep, MovesOrStays, seen_of, taker, after_step, Table, desk_at, Trace, seen_in, TracesAreRuns, JournalsGrow}

-- from the one desk to the other there is a run of which just this is seen
abbrev pub RunSeen : Desk → Desk → List Sight → Type 0
RunSeen d d' seen = (moves : List Move) × (run : DealtRun d moves d') × (dealt_sights d moves d' run ≡ seen)

-- a step, and the run that follows it
led_by : (seat : ℕ) (d m d' : Desk) (seen : List Sight) (step : MovesOrStays seat d m) → RunSeen m d' seen → RunSeen d d' (seen_of seat d m step ++ seen)
led_by seat d m d' seen (inl moves) rest =
    (moves.0 ∷ rest.0, (m, moves.2, rest.1), ap (λ (l : List Sight). move_sights_of d moves.0 m moves.2 ++ l) rest.2)
led_by seat d m d' seen (inr stays) rest = subst (λ x. RunSeen x d' seen) stays rest

module _ (wide : Bool) (roomy : ℕ → Type 0) (room : ℕ) (terms : Terms) (places : ℕ) where
  abbrev At : Type 0
  At = Table wide roomy room terms places

  abbrev at : At → Desk
  at = desk_at wide roomy room terms places

  run_seen : (t t' : At) (steps : List TableStep) (trace : Trace wide roomy room terms places t steps t') → RunSeen (at t) (at t') (seen_in wide roomy room terms places t steps t' trace)
  run_seen t t' [] trace = ([], ap at trace, refl)
  run_seen t t' (x ∷ xs) trace =
      led_by (taker x) (at t) (at (after_step t.0 x, trace.1)) (at t') (seen_in wide roomy room terms places (after_step t.0 x, trace.1) xs t' trace.3) trace.2
      (run_seen (after_step t.0 x, trace.1) t' xs trace.3)

  pub traces_are_runs : EveryDealtRunLinearizesLooks → LooksAreMore → EveryDealtRunIsTimed → EveryDealtRunIsWhole → TracesAreRuns wide roomy room terms places
  traces_are_runs linearized more timed whole t t' steps opens trace =
      let first = first_limits room terms in
      let opening : Desk = dealer_opening places first in
      let seen = seen_in wide roomy room terms places t steps t' trace in
      let r : RunSeen opening (at t') seen = subst (λ d. RunSeen d (at t') seen) opens (run_seen t t' steps trace) in
      let small = t'.1.meets.2.room_in_range in
      let l = linearized places first r.0 (at t') small r.1 in
      let same : acts_among seen ≡ dealt_history opening r.0 (at t') r.1 = ap acts_among (sym r.2) ∙ more.dealt opening (at t') r.0 r.1 in
      record {
        moves = r.0;
        run = r.1;
        sees = r.2;
        journal = l.0;
        lock = l.1;
        looks = subst (λ (s : List Sight). LinearizesLooks room s l.0) r.2 l.2;
        timed = subst (λ (h : List Act). AreTimed t'.0.views h) (sym same) (timed places first r.0 (at t') r.1);
        whole = λ i p has. subst (λ (h : List Act). IsWhole h (acts_number t'.0.views) p) (sym same) (whole places first r.0 (at t') small r.1 i p has);
      }

  pub journals_grow : DealtOrderStays → JournalsGrow wide roomy room terms places
  journals_grow stays t m t' before after journal journal' opens past here rest there =
      let first = first_limits room terms in
      let opening : Desk = dealer_opening places first in
      let p = subst (λ d. RunSeen d (at m) (seen_in wide roomy room terms places t before m past)) opens (run_seen t m before past) in
      let r = run_seen m t' after rest in
      stays places first p.0 r.0 (at m) (at t') journal journal' t'.1.meets.2.room_in_range p.1 here r.1 there
