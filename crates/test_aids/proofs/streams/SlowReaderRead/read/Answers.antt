use Rattle.std.proofs.Common.{ℕ, arith, Some, List, ◌<◌, ◌++◌, length, length-append, length-drop}
use Rattle.std.proofs.Math.ListN.{drop}
use Rattle.test_aids.proofs.ReadFront.{ReadConsumes-front}
use Rattle.test_aids.proofs.streams.SlowReaderRead.read.Goals as goal

pub returns-clause-bytes : goal.returns-clause-bytes
returns-clause-bytes c =
    let rest : List ℕ = drop c.min-count.result c.args.buf.now in
    let e = length-append c.read.new.buf rest in
    let d = length-drop c.min-count.result c.args.buf.now in
    let fills : 0 < length (c.read.new.buf ++ rest) → 0 < length c.read.new.buf = λ room. omega arith in
    ReadConsumes-front (Some c.args.self.now.bytes.now) (Some c.read.new.self.now) c.read.result c.read.new.buf rest
    c.read.ensures.bound fills c.read.ensures.bytes
