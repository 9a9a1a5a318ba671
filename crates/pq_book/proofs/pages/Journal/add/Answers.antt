use Rattle.std.proofs.Common.{arith}
use Rattle.pq_book.proofs.pages.Journal.add.Goals as goal

-- a full page has lines, of which one is the oldest
pub put_in_turn-next-requires : goal.put_in_turn-next-requires
put_in_turn-next-requires g c = omega (arith, c.self.invariant.inside (omega (arith, c.self.invariant.roomy, c.if-len-capacity.false, c.len.ensures, c.capacity.ensures)))
