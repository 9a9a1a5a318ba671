use Rattle.queue_load.proofs.Calling.{same_refusal}
use Rattle.queue_load.proofs.asks.make_at_once.Goals as goal

pub returns-in-Err : goal.returns-in-Err
returns-in-Err g c =
    let call = c.push.ensures in
    let refused = same_refusal c.push.result c.in-Err.error c.in-Err.is in
    record { ok = tt; spent = λ e. call.spent.0 (refused _ e); gave_up = λ e. call.never_gives_up (refused _ e); memory = λ room e. call.memory room (refused _ e) }

pub returns-in-Err-pop : goal.returns-in-Err-pop
returns-in-Err-pop g c =
    let call = c.pop.ensures in
    let refused = same_refusal c.pop.result c.in-Err-pop.error c.in-Err-pop.is in
    record { ok = tt; spent = λ e. call.spent.0 (refused _ e); gave_up = λ e. call.never_gives_up (refused _ e); memory = λ room e. call.memory tt (refused _ e) }

pub returns-in-Err-least : goal.returns-in-Err-least
returns-in-Err-least g c =
    let call = c.least.ensures in
    let refused = same_refusal c.least.result c.in-Err-least.error c.in-Err-least.is in
    record { ok = tt; spent = λ e. call.spent.0 (refused _ e); gave_up = λ e. call.never_gives_up (refused _ e); memory = λ room e. call.memory tt (refused _ e) }
