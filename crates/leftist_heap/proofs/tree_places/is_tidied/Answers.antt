use Rattle.leftist_heap.proofs.Levels.{tables_still}
use Rattle.leftist_heap.proofs.tree_places.is_tidied.Goals as goal

pub returns-clause-still : goal.returns-clause-still
returns-clause-still g c span =
    tables_still g.L.Places.table span c.args.levels.now.items c.args.place c.index_mut.result.now c.tidy.new.self c.requires
    c.index_mut.ensures.value c.tidy.ensures
