use Rattle.std.proofs.Common.{arith, refl, ap, length, length-append, ℕ, [], ◌∷◌}
use Rattle.line_script.proofs.Pieces.{byte_goes, byte_stops}
use Rattle.line_script.proofs.script.take_byte.Goals as goal

pub returns-then-byte-eq-LINE_FEED-clause-ok : goal.returns-then-byte-eq-LINE_FEED-clause-ok
returns-then-byte-eq-LINE_FEED-clause-ok g c = rw c.if-byte-eq-LINE_FEED.true c.end_line.ensures.ok

pub returns-then-byte-eq-LINE_FEED-clause-err : goal.returns-then-byte-eq-LINE_FEED-clause-err
returns-then-byte-eq-LINE_FEED-clause-err g c = rw c.if-byte-eq-LINE_FEED.true c.end_line.ensures.err

pub returns-then-len-longest-clause-err : goal.returns-then-len-longest-clause-err
returns-then-len-longest-clause-err g c start before text rest read =
    byte_stops g.P.Player.kind start before text rest _ _ _ _ c.if-byte-eq-LINE_FEED.false c.saturating_add.ensures
    (omega (arith, c.if-len-longest.true, c.len.ensures, c.longest.ensures.value)) read

pub returns-clause-ok : goal.returns-clause-ok
returns-clause-ok g c start before text read =
    byte_goes g.P.Player.kind start before text _ _ _ _ c.if-byte-eq-LINE_FEED.false refl refl c.push.ensures.items
    (omega (
      arith,
      c.if-len-longest.false,
      c.len.ensures,
      c.longest.ensures.value,
      ap length c.push.ensures.items,
      length-append {A = ℕ} c.args.run.now.line.items (c.args.byte ∷ []),
    )) read
