use Rattle.std.proofs.Common.{◌≤◌, ap, subst, ◌∙◌, arith}
use Rattle.std.specs.Prelude.{Err}
use Rattle.split_core.specs.Ids.{IsFault}
use Rattle.split_core.specs.declared.places.TheConstants.{MAX_COMERS}
use Rattle.queue_c.specs.Threads.{AreThreads}
use Rattle.queue_c.specs.Calls.{Opening}
use Rattle.queue_c.proofs.FineIds.{no_fault, first_ids}
use Rattle.queue_c.proofs.opening.pool_for.Goals as goal

-- these ids have no fault
pub unreachable-requires : goal.unreachable-requires
unreachable-requires c =
    let n = c.args.threads in
    let few : n ≤ MAX_COMERS = omega (arith, c.if-count-gt-MAX_COMERS.false) in
    let are : AreThreads n = (omega (arith, c.if-count-eq0.false), few) in
    let fault = c.in-Err-Comers.field-0-0 in
    let met = (c.new_pool.ensures.comers fault).0 (c.in-Err-Comers.is ∙ ap (λ e. Err e) c.in-Err-Comers.field-0-is) in
    no_fault n are fault (subst (λ ids. IsFault ids fault) (first_ids n c.all_ids-ids.result few c.all_ids-ids.ensures) met)

-- the queue was opened with these ids
pub returns-in-Ok-clause-opened : goal.returns-in-Ok-clause-opened
returns-in-Ok-clause-opened c =
    let n = c.args.threads in
    let few : n ≤ MAX_COMERS = omega (arith, c.if-count-gt-MAX_COMERS.false) in
    subst (λ ids. Opening ids c.args.length c.args.bound c.in-Ok.pool) (first_ids n c.all_ids-ids.result few c.all_ids-ids.ensures)
    (c.in-Ok.ensures.opens.0, c.in-Ok.ensures.ok)
