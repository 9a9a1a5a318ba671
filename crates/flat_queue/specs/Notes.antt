-- Notes, by which one member tells another what it knows: order in time between threads.
use Rattle.std.specs.Prelude.{◌≡◌, ℕ, ◌<◌, List, ◌++◌}
use Rattle.pq_types.specs.Asked.{Request}
use Rattle.pq_types.specs.Asked.{Reply}
use Rattle.pq_types.specs.Asked.{Line}
use Rattle.desk_core.specs.Knows.{Knows}
use Rattle.desk_core.specs.Rule.{StartsWith}
use Rattle.desk_core.specs.declared.model.Call.{Call}
use Rattle.announce_board.specs.Notes.{after_note, after_hearing_all, HasItsCalls}
use Rattle.flat_queue.specs.Members.{Joined}
use Rattle.flat_queue.specs.Calling.{IsCalled}

-- The member wrote a note that tells this journal, and nothing of the member has changed but that it knows this journal now. It
-- is lawful, begins with what the member knew, and has all calls that the member was told of.
pub record WritesNote (before : Joined) (told : List Line) (after : Joined) : Type 0 where
  pub after_is : after ≡ record before { pen = after_note before.pen told }
  pub knows : Knows before.pen.room before.pen told
  pub calls : HasItsCalls before.pen told

-- The member heard a note that tells this journal, and nothing of the member has changed but that it knows the whole journal now.
-- It is lawful, and begins with what the member knew, and with what the note tells.
pub record HearsNote (before : Joined) (told : List Line) (after : Joined) : Type 0 where
  pub after_is : after ≡ record before { pen = after_hearing_all before.pen told after.pen.known }
  pub knows : Knows before.pen.room before.pen after.pen.known
  pub tells : StartsWith after.pen.known told

-- Of two calls of different members the first was answered, and then its member wrote a note. The other member heard the note,
-- and then made the second call, with anything between. So the first has the earlier line.
abbrev pub NotesKeepOrder : Type 0
NotesKeepOrder =
    (a b c d : Joined) (first : Request) (number : ℕ) (reply : Reply) (between : List Call) (told : List Line)
    → IsCalled a first number reply b → c.pen.mine ≡ b.pen.mine ++ between → WritesNote c told d
    → (e f g h : Joined) (second : Request) (number' : ℕ) (reply' : Reply)
    → HearsNote e told f → StartsWith g.pen.known f.pen.known → IsCalled g second number' reply' h
    → number < number'
