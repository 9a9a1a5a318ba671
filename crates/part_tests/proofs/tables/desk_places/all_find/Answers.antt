use Rattle.std.proofs.Common.{◌≡◌}
use Rattle.std.proofs.lemmas.List.Elements.{All-rest}
use Rattle.announce_board.specs.Tokens.{AtDesk}
use Rattle.part_tests.proofs.tables.desk_places.all_find.Goals as goal

pub loop-pen-preserved : goal.loop-pen-preserved
loop-pen-preserved g c =
    let P : AtDesk → Type 0 = λ p. p.table ≡ c.args.desk.now.table in
    All-rest P c.in-Some.pen c.next.new.self.rest.items _ c.in-Some.ensures.steps.0 c.loop-pen.invariant
