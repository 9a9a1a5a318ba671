use Rattle.std.proofs.Common.{◌≡◌, ◌-◌, ◌≤◌}
use Rattle.split_core.specs.Trail.{Trail}
use Rattle.split_grid.specs.Opening.{places_of}
use Rattle.split_grid.specs.Trails.{IsTrail}
use Rattle.desk_core.specs.Words.{word_number}
use Rattle.pq_book.specs.Book.{limits_of}
use Rattle.announce_board.specs.Tokens.{IsLeadOf}
use Rattle.flat_queue.specs.Sweeping.{IsServedBy}
use Rattle.flat_queue.proofs.following.follow_places.Given as goal

abbrev pub invariant-loop-place : goal.invariant-loop-place
invariant-loop-place g l = record {
  still : l.stopped ≡ record l.fn.stopped { looks = l.stopped.looks };
  comers : l.trail.comers ≡ l.fn.stopped.comers;
  table : l.pen.table ≡ l.fn.pen.table;
  lead : IsLeadOf l.pen l.lead;
  limits : limits_of l.lead.book ≡ limits_of l.fn.lead.book;
  trail : Trail;
  is : IsTrail l.fn.stopped.looks l.stopped l.trail trail;
  served : IsServedBy (word_number g.P.Part.wide) trail.found l.served l.fn.pen.state l.pen.state;
  few : l.served ≤ l.trail.tracker.doors;
}

abbrev pub decreases-loop-place : goal.decreases-loop-place
decreases-loop-place g l = places_of l.stopped.comers - l.trail.tracker.doors
