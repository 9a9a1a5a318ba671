-- What the steps on all words of an item make of a pen, one for each word.
use Rattle.std.specs.Prelude.{ℕ, ◌+◌, [], ◌∷◌, ◌++◌, Some, None}
use Rattle.pq_types.specs.Item.{Item}
use Rattle.pq_types.specs.Asked.{Request}
use Rattle.pq_types.specs.declared.control.Notice.{Notice}
use Rattle.pq_types.specs.Control.{answer_with}
use Rattle.desk_core.specs.Calls.{gained}
use Rattle.desk_core.specs.Pen.{with_known}
use Rattle.desk_core.specs.declared.model.Due.{Due}
use Rattle.desk_core.specs.declared.model.Standing.TheVariants.{Idle}
use Rattle.desk_core.specs.declared.model.Word.TheVariants as found
use Rattle.desk_core.specs.declared.model.PenState.{PenState}

-- the pen after it has drafted this item, of so many words
abbrev pub drafted_by : ℕ → PenState → Item → PenState
drafted_by words p x = record p { standing = Idle (Some x); steps = p.steps + words }

-- the leader after it has read it of what is due; and after it has laid it there
abbrev pub read_by : ℕ → PenState → Due → Item → PenState
read_by words p due x = record p { due = Some (with_known due x); read = Some (found.Item x); steps = p.steps + words }

abbrev pub laid_by : ℕ → PenState → Due → Item → PenState
laid_by words p due x = record p { due = Some (with_known due x); steps = p.steps + words }

-- the pen after it has taken it, as that of its answer, at this position of the history
abbrev pub taken_by : ℕ → PenState → Request → Notice → Item → ℕ → PenState
taken_by words p request notice x now =
    record p {
      standing = Idle None;
      mine = p.mine
          ++ gained p.posts request (answer_with notice x);
      seen = None;
      read = Some (found.Item x);
      ends = p.ends ++ (p.posts, now) ∷ [];
      steps = p.steps + words;
    }
