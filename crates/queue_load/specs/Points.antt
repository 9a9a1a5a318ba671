-- How far a worker has come, and which request it makes next.
use Rattle.std.specs.Prelude.{◌≡◌, ℕ, ◌+◌, ◌*◌, ◌<◌, ◌≤◌, ◌⊎◌, Bool}
use Rattle.pq_types.specs.Item.{Item}
use Rattle.pq_types.specs.Asked.{Request}
use Rattle.pq_types.specs.declared.request.Request.TheVariants.{Push, Pop}
use Rattle.program_words.specs.Plan.{load_item, part_factor}
use Rattle.program_words.specs.declared.plan.Plan.{Plan}
use Rattle.queue_load.specs.declared.points.Point.{Point}

-- the point between rounds
abbrev pub at_round : ℕ → Point
at_round rounds = record { rounds = rounds; pushed = 0; popped = 0 }

-- A round is begun and not whole: pops come behind all pushes.
pub record IsWithin (plan : Plan) (p : Point) : Type 0 where
  pub pushes : p.pushed ≤ plan.pushes
  pub pops : p.popped ≤ plan.pops
  pub order : (p.popped ≡ 0) ⊎ (p.pushed ≡ plan.pushes)
  pub unfinished : p.pushed + p.popped < plan.pushes + plan.pops

-- the same point, where its round isn't whole, else the beginning of the next
abbrev pub IsPast : Plan → Point → Point → Type 0
IsPast plan p after =
    ((p.pushed + p.popped < plan.pushes + plan.pops) × (after ≡ p))
    ⊎ ((plan.pushes + plan.pops ≤ p.pushed + p.popped) × (after ≡ at_round (p.rounds + 1)))

-- the worker's next request is a push of its next item, or a pop where all are pushed; and the point behind it
abbrev pub IsNext : Bool → ℕ → Plan → Point → Request → Point → Type 0
IsNext wide worker plan p request after =
    ((x : Item) × (p.pushed < plan.pushes) × (request ≡ Push x) × (x ≡ load_item wide worker p.pushed)
    × (x.priority < part_factor wide * 1000003)
    × IsPast plan (record { rounds = p.rounds; pushed = p.pushed + 1; popped = p.popped }) after)
    ⊎ ((plan.pushes ≤ p.pushed) × (request ≡ Pop)
    × IsPast plan (record { rounds = p.rounds; pushed = p.pushed; popped = p.popped + 1 }) after)
