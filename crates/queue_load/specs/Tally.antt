-- What a worker's calls add up to.
use Rattle.std.specs.Prelude.{ℕ, ◌+◌, ◌^◌, ◌<◌, List}
use Rattle.std.specs.List.{fold}
use Rattle.pq_types.specs.Asked.{Request}
use Rattle.pq_types.specs.declared.request.Request.TheVariants.{Push, Pop, Least}
use Rattle.pq_types.specs.Asked.{Reply}
use Rattle.pq_types.specs.Operation.{request_of}
use Rattle.pq_types.specs.declared.answer.Reply.TheVariants.{Pushed, Got, Empty, Least as LeastIs}
use Rattle.desk_core.specs.declared.model.Call.{Call}
use Rattle.queue_load.specs.declared.tally.Tally.{Tally}

-- the tally of no calls
abbrev pub nothing : Tally
nothing = record { pushed = 0; got = 0; empty = 0; sum_in = 0; sum_out = 0 }

-- the tally with one more request and its reply
abbrev pub counted : Tally → Request → Reply → Tally
counted t (Push x) reply = record t { pushed = t.pushed + 1; sum_in = t.sum_in + x.priority }
counted t Pop (Got x) = record t { got = t.got + 1; sum_out = t.sum_out + x.priority }
counted t Pop Empty = record t { empty = t.empty + 1 }
counted t Pop Pushed = t
counted t Pop (LeastIs x) = t
counted t Least reply = t

-- the tally of these calls
abbrev pub tally_of : List Call → Tally
tally_of calls = fold (λ t c. counted t (request_of c.operation) c.reply) nothing calls

-- two tallies together
abbrev pub both : Tally → Tally → Tally
both t u =
    record {
      pushed = t.pushed + u.pushed;
      got = t.got + u.got;
      empty = t.empty + u.empty;
      sum_in = t.sum_in + u.sum_in;
      sum_out = t.sum_out + u.sum_out;
    }

-- all of these tallies together
abbrev pub all_together : List Tally → Tally
all_together tallies = fold both nothing tallies

-- each of its numbers is below this one, and each of its sums below that
pub record IsBelow (number sum : ℕ) (t : Tally) : Type 0 where
  pub pushed : t.pushed < number
  pub got : t.got < number
  pub empty : t.empty < number
  pub sum_in : t.sum_in < sum
  pub sum_out : t.sum_out < sum

-- far less than a tally has room for
abbrev pub IsSmall : Tally → Type 0
IsSmall t = IsBelow (2 ^ 60) (2 ^ 120) t

-- so little that it is small after the pops of a round
abbrev pub IsLow : Tally → Type 0
IsLow t = IsBelow (2 ^ 50) (2 ^ 110) t

-- so little that it is low after the pushes of a round
abbrev pub IsVeryLow : Tally → Type 0
IsVeryLow t = IsBelow (2 ^ 40) (2 ^ 100) t
