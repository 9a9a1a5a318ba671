use Rattle.std.proofs.Common.{◌≡◌, ◌+◌, ◌-◌, ◌≤◌, length}
use Rattle.std.specs.Prelude.{take}
use Rattle.std.specs.List.{All}
use Rattle.desk_core.specs.Pen.{limits_in_hand}
use Rattle.announce_board.specs.Asking.{IsFullFor}
use Rattle.announce_board.specs.Batches.{IsLent, AppliesEach, AreAnswersTo, AreAboveAll, pops_of}
use Rattle.announce_board.specs.Steps.{pen_at}
use Rattle.announce_board.proofs.batching.pop_each.Given as goal

abbrev pub invariant-loop-done : goal.invariant-loop-done
invariant-loop-done g l = record {
  table : l.seat.table_id ≡ l.fn.seat.table_id;
  slots : length l.into ≡ length l.fn.into;
  lent : IsLent l.board.table_id l.place l.posts l.seat.me;
  limits : limits_in_hand (pen_at l.seat.me) ≡ limits_in_hand (pen_at l.fn.seat.me);
  counted : l.posts ≡ l.fn.posts + l.done;
  applies : AppliesEach (limits_in_hand (pen_at l.fn.seat.me)) (pen_at l.fn.seat.me) (pops_of (take l.done l.into)) (pen_at l.seat.me);
  answers : AreAnswersTo (pen_at l.fn.seat.me).room (length (pen_at l.fn.seat.me).hand) (pops_of (take l.done l.into));
  behind : AreAboveAll (length (pen_at l.fn.seat.me).hand) l.done (pen_at l.fn.seat.me).mine;
  barred : IsFullFor (pen_at l.fn.seat.me) → l.done ≡ 0;
  due : All (λ x. x.priority ≤ g.P.Part.number l.priority) (take l.done l.into);
  few : l.done ≤ l.end;
}

abbrev pub decreases-loop-done : goal.decreases-loop-done
decreases-loop-done g l = l.end - l.done
