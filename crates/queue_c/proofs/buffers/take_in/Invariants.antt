use Rattle.std.proofs.Common.{◌≡◌, length, map, take}
use Rattle.queue_c.specs.Plain.{plain_item}
use Rattle.queue_c.proofs.buffers.take_in.Given as goal

abbrev pub invariant-loop-i : goal.invariant-loop-i
invariant-loop-i l = record {
  counted : length l.slots ≡ length l.items;
  copied : take l.i l.slots ≡ map plain_item (take l.i l.items);
}
