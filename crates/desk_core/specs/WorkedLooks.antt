-- A look in full: it comes between a push that has ended and one that begins later.
use Rattle.std.specs.Prelude.{◌≡◌, List, [], ◌∷◌, Some}
use Rattle.pq_types.specs.Operation.{Asked}
use Rattle.pq_types.specs.declared.request.Request.TheVariants.{Push}
use Rattle.pq_types.specs.declared.answer.Reply.TheVariants.{Pushed}
use Rattle.pq_types.specs.declared.answer.Answer.TheVariants.{Entered}
use Rattle.pq_types.specs.Asked.{Line}
use Rattle.pq_types.specs.Item.{item}
use Rattle.pq_types.specs.History.{line, left}
use Rattle.desk_core.specs.Desk.{Desk, volume, opening, plain}
use Rattle.desk_core.specs.Steps.{Event, Tries, Releases, ReleasesWith, Run}
use Rattle.desk_core.specs.Linearizable.{Begins, Ends}
use Rattle.desk_core.specs.Looking.{Called, Looked, sights}

-- The pen at 0 enters a push by a request of its own, and later another one. Between them the pen at 1 leads, and releases
-- without a request.
abbrev pub looking : List Event
looking =
    Tries 0 ∷ ReleasesWith 0 (Push (item 5 7)) (Entered 1 Pushed) ∷ Tries 1 ∷ Releases 1
    ∷ Tries 0 ∷ ReleasesWith 0 (Push (item 3 8)) (Entered 2 Pushed) ∷ []

-- the first push
abbrev pub first_push : Line
first_push = line 0 1 (Push (item 5 7)) Pushed

-- the second
abbrev pub second_push : Line
second_push = line 0 2 (Push (item 3 8)) Pushed

-- The run can be made. The look finds the line of the first push alone, whose item is first then; in the end that of the second is.
pub record LooksBetween : Type 0 where
  pub done : Desk
  pub run : Run (opening 2 (plain 4)) looking done
  pub seen :
      sights (opening 2 (plain 4)) looking done run
      ≡ Called (Begins 0 1 (Asked (Push (item 5 7)))) ∷ Called (Ends 0 1 (Entered 1 Pushed)) ∷ Looked 1 (first_push ∷ [])
      ∷ Called (Begins 0 2 (Asked (Push (item 3 8)))) ∷ Called (Ends 0 2 (Entered 2 Pushed)) ∷ []
  pub found : left (first_push ∷ []) ≡ item 5 7 ∷ []
  pub journal : done.home ≡ Some (volume (plain 4) (first_push ∷ second_push ∷ []))
  pub later : left (first_push ∷ second_push ∷ []) ≡ item 3 8 ∷ item 5 7 ∷ []
