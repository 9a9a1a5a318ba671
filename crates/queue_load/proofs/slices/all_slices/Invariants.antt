use Rattle.std.proofs.Common.{◌-◌}
use Rattle.std.specs.Prelude.{vec_items}
use Rattle.program_words.specs.Lines.{each_of}
use Rattle.queue_load.proofs.Slicing.{HaveMadeSlices}
use Rattle.queue_load.proofs.slices.all_slices.Given as goal

abbrev pub invariant-loop-made : goal.invariant-loop-made
invariant-loop-made g l =
    let contents = g.W.Write.contents in
    HaveMadeSlices g.P.Part.wide l.load.queue.now l.load.plan l.load.slice l.made (vec_items l.fn.states) (vec_items l.worked) l.fn.writing l.writing (contents l.fn.writer) (contents l.writer)

abbrev pub decreases-loop-made : goal.decreases-loop-made
decreases-loop-made g l = each_of l.load.plan - l.made
