use Rattle.std.proofs.Common.{◌≡◌}
use Rattle.std.proofs.lemmas.List.Elements.{All-push, All-rest, All-same}
use Rattle.announce_board.specs.Tokens.{AtDesk}
use Rattle.part_tests.proofs.tables.desk_places.all_posted.Goals as goal

pub loop-pen-preserved : goal.loop-pen-preserved
loop-pen-preserved g c =
    let P : AtDesk → Type 0 = λ p. p.table ≡ c.args.desk.now.table in
    record {
      made =
          All-same P _ _ c.in_ok-push.ensures.items
          (All-push P c.loop-pen.made.items c.posted.result c.loop-pen.invariant.made c.posted.ensures);
      rest = All-rest P c.in-Some.pen c.next.new.self.rest.items _ c.in-Some.ensures.steps.0 c.loop-pen.invariant.rest;
    }
