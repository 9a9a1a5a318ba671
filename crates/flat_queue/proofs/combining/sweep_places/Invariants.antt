use Rattle.std.proofs.Common.{◌≡◌, ◌+◌, ◌-◌, ◌≤◌}
use Rattle.split_grid.specs.Calls.{IsStill}
use Rattle.split_grid.specs.Opening.{places_of}
use Rattle.desk_core.specs.Words.{word_number}
use Rattle.pq_book.specs.Book.{limits_of}
use Rattle.announce_board.specs.Tokens.{IsLeadOf}
use Rattle.flat_queue.specs.Sweeping.{IsServedBy}
use Rattle.flat_queue.proofs.combining.sweep_places.Given as goal

abbrev pub invariant-loop-place : goal.invariant-loop-place
invariant-loop-place g l = record {
  still : IsStill l.fn.stopped l.stopped;
  steps : l.stopped.comer.steps ≡ l.fn.stopped.comer.steps + l.stopped.scan.doors;
  table : l.pen.table ≡ l.fn.pen.table;
  lead : IsLeadOf l.pen l.lead;
  limits : limits_of l.lead.book ≡ limits_of l.fn.lead.book;
  served : IsServedBy (word_number g.P.Part.wide) l.stopped.scan.found l.served l.fn.pen.state l.pen.state;
  few : l.served ≤ l.stopped.scan.doors;
}

abbrev pub decreases-loop-place : goal.decreases-loop-place
decreases-loop-place g l = places_of l.stopped.comers - l.stopped.scan.doors
