-- Runs of the desk in full: the definitions admit what they are meant for.
use Rattle.std.specs.Prelude.{◌≡◌, true, List, [], ◌∷◌, Some, None}
use Rattle.pq_types.specs.declared.request.Request.TheVariants.{Push, Pop, Least}
use Rattle.pq_types.specs.declared.answer.Reply.TheVariants.{Pushed, Got, Empty}
use Rattle.pq_types.specs.declared.answer.Answer.TheVariants.{Entered, BookFull}
use Rattle.pq_types.specs.declared.control.Control.TheVariants.{Nothing}
use Rattle.pq_types.specs.Asked.{Line}
use Rattle.pq_types.specs.Item.{item}
use Rattle.pq_types.specs.History.{line}
use Rattle.desk_core.specs.Calls.{call}
use Rattle.desk_core.specs.Desk.{Desk, Has, volume, opening, plain}
use Rattle.desk_core.specs.Steps.{Event, Drafts, Posts, Tries, Reads, ReadsItem, LaysItem}
use Rattle.desk_core.specs.Steps.{Answers, Releases, ReleasesWith, Looks, TakesItem, Run}
use Rattle.desk_core.specs.declared.model.Call.{Call}
use Rattle.desk_core.specs.declared.model.Standing.TheVariants.{Idle, Waiting}
use Rattle.desk_core.specs.declared.model.PenState.{PenState}

-- Three pens: push (4, 8) at 3, pop at 0, push (9, 9) at 1; the pen at 3 looks and finds no answer;
-- then the pen at 0 leads and answers at 0, 1 and 3.
abbrev pub three_pens : List Event
three_pens =
    Drafts 3 (item 4 8) ∷ Posts 3 (Push (item 4 8)) ∷ Posts 0 Pop ∷ Drafts 1 (item 9 9) ∷ Posts 1 (Push (item 9 9)) ∷ Looks 3
    ∷ Tries 0 ∷ Reads 0 0 ∷ Answers 0 (Entered 1 Empty)
    ∷ Reads 0 1 ∷ ReadsItem 0 ∷ Answers 0 (Entered 2 Pushed)
    ∷ Reads 0 3 ∷ ReadsItem 0 ∷ Answers 0 (Entered 3 Pushed) ∷ Releases 0
    ∷ []

-- their journal: pop on the empty queue, then the two pushes, each under its place and its first
-- serial
abbrev pub three_lines : List Line
three_lines = line 0 1 Pop Empty ∷ line 1 1 (Push (item 9 9)) Pushed ∷ line 3 1 (Push (item 4 8)) Pushed ∷ []

-- the run can be made, on a desk of 6 places with room for 4 lines; afterwards the Book is at home
-- with that journal, and the pen at 3 still waits, since it has not looked again
abbrev pub ThreePens : Type 0
ThreePens =
    (d : Desk) × Run (opening 6 (plain 4)) three_pens d × (d.home ≡ Some (volume (plain 4) three_lines))
    × ((p : PenState) × Has d.views 3 p × (p.standing ≡ Waiting (Push (item 4 8))))

-- A half-written record: the pen at 1 drafts an item, the pen at 0 leads and reads the mail there.
abbrev pub half_written : List Event
half_written = Drafts 1 (item 9 0) ∷ Tries 0 ∷ Reads 0 1 ∷ []

-- Then the pen at 1 posts a pop after all; the pen at 0 reads the mail there again and answers it,
-- and the pen at 1 looks.
abbrev pub written : List Event
written = Posts 1 Pop ∷ Reads 0 1 ∷ Answers 0 (Entered 1 Empty) ∷ Releases 0 ∷ Looks 1 ∷ []

-- the runs can be made; after the first nothing is due to the pen at 0, and after the second the
-- pen at 1 is idle and has its answered call
pub record HalfWritten : Type 0 where
  pub met : Desk
  pub done : Desk
  pub half : Run (opening 2 (plain 4)) half_written met
  pub nothing_due : (p : PenState) × Has met.views 0 p × (p.leading ≡ true) × (p.due ≡ None)
  pub whole : Run met written done
  pub idle : (p : PenState) × Has done.views 1 p × (p.standing ≡ Idle None) × (p.mine ≡ call 1 1 Pop Empty ∷ [])

-- One pen by itself, on a desk with room for 2 lines: it pushes (5, 7), and leads for it.
abbrev pub pushes : List Event
pushes =
    Drafts 0 (item 5 7) ∷ Posts 0 (Push (item 5 7)) ∷ Tries 0 ∷ Reads 0 0 ∷ ReadsItem 0 ∷ Answers 0 (Entered 1 Pushed)
    ∷ Releases 0 ∷ Looks 0 ∷ []

-- It pops: the item is laid before the answer, and taken after it.
abbrev pub pops : List Event
pops =
    Posts 0 Pop ∷ Tries 0 ∷ Reads 0 0 ∷ LaysItem 0 (item 5 7) ∷ Answers 0 (Entered 2 (Got (item 5 7))) ∷ Releases 0 ∷ Looks 0 ∷ []

-- It asks for the least item, of a full journal.
abbrev pub asks : List Event
asks = Posts 0 Least ∷ Tries 0 ∷ Reads 0 0 ∷ Answers 0 BookFull ∷ Releases 0 ∷ Looks 0 ∷ []

-- its calls after the push, and after the pop
abbrev pub first_call : List Call
first_call = call 1 1 (Push (item 5 7)) Pushed ∷ []

abbrev pub both_calls : List Call
both_calls = call 1 1 (Push (item 5 7)) Pushed ∷ call 2 2 Pop (Got (item 5 7)) ∷ []

-- The runs can be made. After the push it is idle with that call; after the pop it has seen the
-- answer and waits until it takes the item, which makes it idle with both calls; after the third
-- post, which is refused, it is idle with no other call, and the journal has the two lines.
pub record FullJournal : Type 0 where
  pub pushed : Desk
  pub popped : Desk
  pub took : Desk
  pub refused : Desk
  pub push : Run (opening 1 (plain 2)) pushes pushed
  pub first : (p : PenState) × Has pushed.views 0 p × (p.standing ≡ Idle None) × (p.mine ≡ first_call)
  pub pop : Run pushed pops popped
  pub waits : (p : PenState) × Has popped.views 0 p × (p.standing ≡ Waiting Pop) × (p.mine ≡ first_call)
  pub take : Run popped (TakesItem 0 ∷ []) took
  pub second : (p : PenState) × Has took.views 0 p × (p.standing ≡ Idle None) × (p.mine ≡ both_calls)
  pub ask : Run took asks refused
  pub third : (p : PenState) × Has refused.views 0 p × (p.standing ≡ Idle None) × (p.posts ≡ 3) × (p.mine ≡ both_calls)
  pub journal : refused.home ≡ Some (volume (plain 2) (line 0 1 (Push (item 5 7)) Pushed ∷ line 0 2 Pop (Got (item 5 7)) ∷ []))

-- The same three by requests of its own: it posts nothing.
abbrev pub carries_out : List Event
carries_out =
    Tries 0 ∷ ReleasesWith 0 (Push (item 5 7)) (Entered 1 Pushed) ∷ Tries 0 ∷ ReleasesWith 0 Pop (Entered 2 (Got (item 5 7)))
    ∷ Tries 0 ∷ ReleasesWith 0 Least BookFull ∷ []

-- The run can be made. The pen has used three serials and has both calls; the journal has their
-- lines, and its record is empty.
pub record OwnRequests : Type 0 where
  pub done : Desk
  pub run : Run (opening 1 (plain 2)) carries_out done
  pub pen : (p : PenState) × Has done.views 0 p × (p.standing ≡ Idle None) × (p.posts ≡ 3) × (p.mine ≡ both_calls)
  pub empty : done.control 0 ≡ Nothing
  pub journal : done.home ≡ Some (volume (plain 2) (line 0 1 (Push (item 5 7)) Pushed ∷ line 0 2 Pop (Got (item 5 7)) ∷ []))
