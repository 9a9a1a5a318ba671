-- Why a leader may release with a request of its own only while it is idle and nothing is due to
-- it: the same step from any other standing breaks a clause of the rule.
use Rattle.std.specs.Prelude.{◌≡◌, ℕ, ◌+◌, true, List, [], ◌∷◌}
use Rattle.pq_types.specs.Asked.{Request}
use Rattle.pq_types.specs.declared.request.Request.TheVariants.{Pop}
use Rattle.pq_types.specs.declared.answer.Reply.TheVariants.{Empty}
use Rattle.pq_types.specs.Asked.{Answer}
use Rattle.pq_types.specs.declared.answer.Answer.TheVariants.{Entered}
use Rattle.pq_types.specs.Asked.{Line}
use Rattle.pq_types.specs.History.{journal_after}
use Rattle.desk_core.specs.Pen.{after_release_with, book_with}
use Rattle.desk_core.specs.Desk.{Desk, Has, time, freed, with_pen, opening, plain}
use Rattle.desk_core.specs.Steps.{Event, Posts, Tries, Reads, Run}
use Rattle.desk_core.specs.Clauses.{ControlClause}
use Rattle.desk_core.specs.Guards.{BreaksDue}
use Rattle.desk_core.specs.declared.model.PenState.{PenState}

-- the step of any leader, whatever is due to it and whether it waits
abbrev pub ReleasesAnyway : Desk → ℕ → Request → Answer → Desk → Type 0
ReleasesAnyway d seat request answer d' =
    (p : PenState) × Has d.views seat p × (p.leading ≡ true)
    × (d' ≡ with_pen (freed d (book_with p (journal_after p.hand p.place (p.posts + 1) request answer))) seat
    (after_release_with p request answer (time d)))

-- whatever the journal, the controls of a desk are not those of its pens
abbrev pub HasNoJournal : Desk → Type 0
HasNoJournal d =
    (journal : List Line) → ((i : ℕ) (p : PenState) → Has d.views i p → ControlClause d.room journal (d.control p.place) p) → ⊥

-- a pen posts, and leads while it waits
abbrev pub waits_and_leads : List Event
waits_and_leads = Posts 0 Pop ∷ Tries 0 ∷ []

-- the pen at 1 posts, and the pen at 0 leads and reads that
abbrev pub reads_and_owes : List Event
reads_and_owes = Posts 1 Pop ∷ Tries 0 ∷ Reads 0 1 ∷ []

-- the runs can be made, and so could the step then: the first breaks the clause of the controls, the
-- second that of what is due
pub record OwnRequestNeeds : Type 0 where
  pub waiting : Desk
  pub posted_twice : Desk
  pub waits : Run (opening 1 (plain 4)) waits_and_leads waiting
  pub while_waiting : ReleasesAnyway waiting 0 Pop (Entered 1 Empty) posted_twice
  pub controls : HasNoJournal posted_twice
  pub owing : Desk
  pub left_due : Desk
  pub owes : Run (opening 2 (plain 4)) reads_and_owes owing
  pub while_due : ReleasesAnyway owing 0 Pop (Entered 1 Empty) left_due
  pub due : BreaksDue left_due
