-- Histories in full: what callers see of a run, and a history that a journal doesn't linearize.
use Rattle.std.specs.Prelude.{◌≡◌, ℕ, false, List, [], ◌∷◌, Some}
use Rattle.pq_types.specs.Operation.{Asked}
use Rattle.pq_types.specs.declared.request.Request.TheVariants.{Push, Pop}
use Rattle.pq_types.specs.declared.answer.Reply.TheVariants.{Pushed, Got, Empty}
use Rattle.pq_types.specs.declared.answer.Answer.TheVariants.{Entered}
use Rattle.pq_types.specs.Asked.{Line}
use Rattle.pq_types.specs.Item.{item}
use Rattle.pq_types.specs.History.{line, IsLegal, SerialsRise}
use Rattle.desk_core.specs.Desk.{Desk, volume, opening, dealer_opening, plain}
use Rattle.desk_core.specs.Steps.{Event, Posts, Tries, Reads, LaysItem, Answers, Applies, Releases, ReleasesWith, Looks, TakesItem, Run}
use Rattle.desk_core.specs.Dealing.{Move, Deals, Takes, DealtRun, dealt_history}
use Rattle.desk_core.specs.Linearizable.{Act, Begins, Ends, TakeTurns, Linearizes, history}

-- The pen at 0 posts a pop. The pen at 1 enters a push by a request of its own, leads again and answers the pop, of
-- which the pen at 0 learns afterwards.
abbrev pub overtaking : List Event
overtaking =
    Posts 0 Pop ∷ Tries 1 ∷ ReleasesWith 1 (Push (item 5 7)) (Entered 1 Pushed)
    ∷ Tries 1 ∷ Reads 1 0 ∷ LaysItem 1 (item 5 7) ∷ Answers 1 (Entered 2 (Got (item 5 7))) ∷ Releases 1 ∷ Looks 0
    ∷ TakesItem 0 ∷ []

-- the run can be made; the push begins and ends while the pop is under way, which takes its item out, and the journal
-- has the push first
pub record Overtaking : Type 0 where
  pub done : Desk
  pub run : Run (opening 2 (plain 4)) overtaking done
  pub seen :
      history (opening 2 (plain 4)) overtaking done run
      ≡ Begins 0 1 (Asked Pop) ∷ Begins 1 1 (Asked (Push (item 5 7))) ∷ Ends 1 1 (Entered 1 Pushed) ∷ Ends 0 1 (Entered 2 (Got (item 5 7))) ∷ []
  pub journal : done.home ≡ Some (volume (plain 4) (line 1 1 (Push (item 5 7)) Pushed ∷ line 0 1 Pop (Got (item 5 7)) ∷ []))

-- The pen at 0 posts a pop. The pen at 1 leads, applies two pushes of its own, and releases: a batch of two.
abbrev pub together : List Event
together =
    Posts 0 Pop ∷ Tries 1 ∷ Applies 1 (Push (item 5 7)) (Entered 1 Pushed) ∷ Applies 1 (Push (item 3 8)) (Entered 2 Pushed)
    ∷ Releases 1 ∷ []

-- the run can be made; each push is a call of its own, and their lines stand together in the journal, while the pop is under way
pub record Together : Type 0 where
  pub done : Desk
  pub run : Run (opening 2 (plain 4)) together done
  pub seen :
      history (opening 2 (plain 4)) together done run
      ≡ Begins 0 1 (Asked Pop) ∷ Begins 1 1 (Asked (Push (item 5 7))) ∷ Ends 1 1 (Entered 1 Pushed)
      ∷ Begins 1 2 (Asked (Push (item 3 8))) ∷ Ends 1 2 (Entered 2 Pushed) ∷ []
  pub journal : done.home ≡ Some (volume (plain 4) (line 1 1 (Push (item 5 7)) Pushed ∷ line 1 2 (Push (item 3 8)) Pushed ∷ []))

-- A dealer gives out the pen of place 0, which posts a pop, and then that of place 1, which enters a push by a request of its
-- own.
abbrev pub coming_out : List Move
coming_out =
    Deals 0 ∷ Takes (Posts 1 Pop) ∷ Deals 0 ∷ Takes (Tries 2) ∷ Takes (ReleasesWith 2 (Push (item 5 7)) (Entered 1 Pushed)) ∷ []

-- the run can be made; callers see nothing of the dealer, and the journal has the push
pub record ComingOut : Type 0 where
  pub done : Desk
  pub run : DealtRun (dealer_opening 2 (plain 4)) coming_out done
  pub seen :
      dealt_history (dealer_opening 2 (plain 4)) coming_out done run
      ≡ Begins 0 1 (Asked Pop) ∷ Begins 1 1 (Asked (Push (item 5 7))) ∷ Ends 1 1 (Entered 1 Pushed) ∷ []
  pub journal : done.home ≡ Some (volume (plain 4) (line 1 1 (Push (item 5 7)) Pushed ∷ []))

-- a push that has ended, and then a pop that finds the queue empty
abbrev pub stale : List Act
stale = Begins 0 1 (Asked (Push (item 5 7))) ∷ Ends 0 1 (Entered 2 Pushed) ∷ Begins 1 1 (Asked Pop) ∷ Ends 1 1 (Entered 1 Empty) ∷ []

-- the journal that would make it so, with the pop in front of the push
abbrev pub stale_lines : List Line
stale_lines = line 1 1 Pop Empty ∷ line 0 1 (Push (item 5 7)) Pushed ∷ []

-- the calls take turns, and that journal is a legal history with each call once; but it doesn't linearize that, and no other does
pub record StaleIsRefused : Type 0 where
  pub turns : TakeTurns (λ _. 0) (λ _. false) stale
  pub legal : IsLegal stale_lines
  pub once : SerialsRise stale_lines
  pub refused : (room : ℕ) (journal : List Line) → Linearizes room stale journal → ⊥
