use Rattle.std.proofs.Common.{◌≡◌}
use Rattle.std.proofs.lemmas.List.Sorted.{All-permutation}
use Rattle.announce_board.specs.Tokens.{AtDesk}
use Rattle.part_tests.proofs.tables.desk_places.turned_round.Goals as goal

-- the same pens in another order
pub returns : goal.returns
returns g c = All-permutation (λ (p : AtDesk). p.table ≡ c.args.desk.now.table) _ _ c.reverse.ensures.permutation c.requires
