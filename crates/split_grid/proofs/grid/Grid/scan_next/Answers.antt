use Rattle.std.proofs.Common.{rules}
use Rattle.split_grid.proofs.ScanReads.{read_open, read_up_to}
use Rattle.split_grid.proofs.grid.Grid.scan_next.Goals as goal

pub returns-then-read_door-clause-reads : goal.returns-then-read_door-clause-reads
returns-then-read_door-clause-reads g c =
    read_up_to c.args.stopped.now c.loop-stopped.stopped c.read_door.new.stopped c.read_door.result c.next_place-place.result
    c.loop-stopped.invariant.reads c.next_place-place.ensures c.read_door.ensures c.if-read_door.true

pub loop-stopped-preserved : goal.loop-stopped-preserved
loop-stopped-preserved g c =
    record {
      still = search rules;
      found = search rules;
      seen = search rules;
      steps = search rules;
      onward = search rules;
      reads =
          read_open c.args.stopped.now c.loop-stopped.stopped c.read_door.new.stopped c.read_door.result
          c.loop-stopped.invariant.reads c.read_door.ensures c.if-read_door.false;
      again = search rules;
    }
