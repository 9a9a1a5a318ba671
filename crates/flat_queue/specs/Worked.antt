-- Rounds in full: of two comers the second posts a push, and the first, which never heard of it,
-- finds and answers it; then the first makes a round in which it scans twice. And a round by a trail
-- scan, which ends with a request of its own.
use Rattle.std.specs.Prelude.{◌≡◌, List, [], ◌∷◌, Some}
use Rattle.pq_types.specs.declared.request.Request.TheVariants.{Push, Pop}
use Rattle.pq_types.specs.declared.answer.Reply.TheVariants.{Pushed, Got}
use Rattle.pq_types.specs.declared.answer.Answer.TheVariants.{Entered}
use Rattle.pq_types.specs.Item.{item}
use Rattle.pq_types.specs.History.{line}
use Rattle.split_core.specs.Grid.{Goes, Begins, Scans}
use Rattle.desk_core.specs.Desk.{volume, plain}
use Rattle.desk_core.specs.Steps.{Drafts, Posts, Tries, Reads, ReadsItem, Answers, Releases, ReleasesWith}
use Rattle.desk_core.specs.Leads.{HasPosted}
use Rattle.flat_queue.specs.Product.{Product, Event, OnGrid, AtDesk, Run, opening}
use Rattle.flat_queue.specs.Rounds.{Round}
use Rattle.flat_queue.specs.TrailRounds.{TrailRound}

-- the first comer stops at place 0; the second finds that door closed, stops at place 1, and drafts
-- and posts a push there
abbrev pub arrivals : List Event
arrivals =
    OnGrid (Goes 0) ∷ OnGrid (Goes 0) ∷ OnGrid (Goes 0) ∷ OnGrid (Goes 0)
    ∷ OnGrid (Goes 1) ∷ OnGrid (Goes 1) ∷ OnGrid (Goes 1) ∷ OnGrid (Goes 1) ∷ OnGrid (Goes 1) ∷ OnGrid (Goes 1)
    ∷ AtDesk 1 (Drafts 1 (item 6 2)) ∷ AtDesk 1 (Posts 1 (Push (item 6 2))) ∷ []

-- the first comer wins the lock, scans the three doors, reads the mail at the two places found, and
-- at the second reads the item and answers
abbrev pub round_of_first : List Event
round_of_first =
    AtDesk 0 (Tries 0) ∷ OnGrid (Begins 0) ∷ OnGrid (Scans 0) ∷ OnGrid (Scans 0)
    ∷ AtDesk 0 (Reads 0 0) ∷ AtDesk 0 (Reads 0 1) ∷ AtDesk 0 (ReadsItem 0) ∷ AtDesk 0 (Answers 0 (Entered 1 Pushed))
    ∷ AtDesk 0 (Releases 0) ∷ []

-- it leads again: once its scan is over it reads the mail at the first place found, begins another
-- scan, and reads the mail at the second before it releases
abbrev pub round_of_two_scans : List Event
round_of_two_scans =
    AtDesk 0 (Tries 0) ∷ OnGrid (Begins 0) ∷ OnGrid (Scans 0) ∷ OnGrid (Scans 0)
    ∷ AtDesk 0 (Reads 0 0) ∷ OnGrid (Begins 0) ∷ AtDesk 0 (Reads 0 1) ∷ AtDesk 0 (Releases 0) ∷ []

-- the run can be made, its second part is a round that answers the post, the journal has its line,
-- and the third part is a round too
pub record RoundOfTwo : Type 0 where
  pub met : Product
  pub done : Product
  pub again : Product
  pub arrive : Run (opening (1 ∷ 2 ∷ []) (plain 1)) arrivals met
  pub posted : HasPosted met.desk 1 1
  pub round : Round 0 0 met round_of_first done
  pub journal : done.desk.home ≡ Some (volume (plain 1) (line 1 1 (Push (item 6 2)) Pushed ∷ []))
  pub second : Round 0 0 done round_of_two_scans again

-- The first comer makes a trail scan of its own beside a lead: it reads the mail at both places that it has found, answers
-- the push, and releases with a pop of its own, which takes that item out.
abbrev pub round_with_pop : List Event
round_with_pop =
    AtDesk 0 (Tries 0) ∷ AtDesk 0 (Reads 0 0) ∷ AtDesk 0 (Reads 0 1) ∷ AtDesk 0 (ReadsItem 0)
    ∷ AtDesk 0 (Answers 0 (Entered 1 Pushed))
    ∷ AtDesk 0 (ReleasesWith 0 Pop (Entered 2 (Got (item 6 2)))) ∷ []

-- the run can be made, its second part is a round by a trail scan that answers the post, and the journal
-- has the two lines
pub record TrailRoundOfTwo : Type 0 where
  pub met : Product
  pub done : Product
  pub arrive : Run (opening (1 ∷ 2 ∷ []) (plain 2)) arrivals met
  pub posted : HasPosted met.desk 1 1
  pub round : TrailRound 0 0 met round_with_pop done
  pub journal : done.desk.home ≡ Some (volume (plain 2) (line 1 1 (Push (item 6 2)) Pushed ∷ line 0 1 Pop (Got (item 6 2)) ∷ []))
