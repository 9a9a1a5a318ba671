-- How the workers of a load make their requests.
use Rattle.std.specs.Prelude.{ℕ}
use Rattle.flat_queue.specs.declared.gate.Turn.{Turn}
use Rattle.flat_queue.specs.declared.gate.Turn.TheVariants.{GiveUp}
use Rattle.queue_load.specs.declared.asks.Asks.{Asks}
use Rattle.queue_load.specs.declared.asks.Asks.TheVariants.{AtOnce, By}

-- a worker of this id may give up where its gate may say so: by an ordinary call never
abbrev pub may_give_up : {G : Type 0} → (may_answer : G → ℕ → Turn → Type 0) → Asks G → ℕ → Type 0
may_give_up may_answer AtOnce id = ⊥
may_give_up may_answer (By gate) id = may_answer gate.now id GiveUp
