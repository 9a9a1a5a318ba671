use Rattle.std.proofs.Common.{arith, ap, take, length, length-take, ℕ}
use Rattle.line_script.proofs.Between.{between_fault, between_gives_up, between_more, between_stops, between_ends, between_ends_not}
use Rattle.line_script.proofs.script.play_script.Goals as goal

pub returns-in_default : goal.returns-in_default
returns-in_default g c input known =
    between_fault g.P.Player.kind _ _ input _ _ _ _ (c.loop-turn.invariant.2 input known) c.in_default.ensures.bytes

pub loop-turn-preserved : goal.loop-turn-preserved
loop-turn-preserved g c = (
  c.in_default-answer_bytes.ensures.cleared,
  omega (arith, c.read.auto.buf, c.loop-turn.invariant.1),
  λ input known.
      between_more g.P.Player.kind _ _ _ input _ _ _ _ _ _
      (c.loop-turn.invariant.2 input known) c.in-Ok.ensures.bytes.0 c.in_default-answer_bytes.ensures.ok,
)

pub returns : goal.returns
returns g c input known =
    between_gives_up g.P.Player.kind _ _ input _ _ _ (c.loop-turn.invariant.2 input known)

pub returns-in-Err : goal.returns-in-Err
returns-in-Err g c input known =
    between_ends_not g.P.Player.kind _ _ input _ _ _ _ _ _ _ (c.loop-turn.invariant.2 input known)
    (omega (arith, ap length (ap (λ n. take n c.read.new.buf) c.if-count-eq0.true))) c.in-Ok.ensures.bytes.0
    (ap (λ n. take n c.read.new.buf) c.if-count-eq0.true)
    (c.in-Ok.ensures.bytes.1 c.if-count-eq0.true (omega (arith, c.read.auto.buf, c.loop-turn.invariant.1))) c.in-Err.ensures.err

pub returns-then-count-eq0 : goal.returns-then-count-eq0
returns-then-count-eq0 g c input known =
    between_ends g.P.Player.kind _ _ c.answer_end.new.run input _ _ _ _ _ _ (c.loop-turn.invariant.2 input known) c.in-Ok.ensures.bytes.0
    (ap (λ n. take n c.read.new.buf) c.if-count-eq0.true)
    (c.in-Ok.ensures.bytes.1 c.if-count-eq0.true (omega (arith, c.read.auto.buf, c.loop-turn.invariant.1))) c.in_default-answer_end.ensures.ok

pub returns-in-Err-answer_bytes : goal.returns-in-Err-answer_bytes
returns-in-Err-answer_bytes g c input known =
    between_stops g.P.Player.kind _ _ input _ _ _ _ _ _ _ (c.loop-turn.invariant.2 input known)
    (omega (arith, length-take {A = ℕ}, c.read.auto.buf, c.loop-turn.invariant.1)) c.in-Ok.ensures.bytes.0 c.in-Err-answer_bytes.ensures.err
