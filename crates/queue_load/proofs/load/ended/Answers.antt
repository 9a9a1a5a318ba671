use Rattle.std.proofs.Common.{◌≡◌, ◌<◌, length, map, slice_get, Some, rules, sym, ◌∙◌, ap, subst}
use Rattle.flat_queue.specs.Closing.{LinearizesMembers}
use Rattle.queue_load.specs.Load.{IsTotal, AreAnswered, LeavesFirst}
use Rattle.queue_load.specs.Tally.{all_together}
use Rattle.queue_load.specs.declared.worker.EndedWorker.{EndedWorker}
use Rattle.queue_load.proofs.Leaving.{first_of_some, has_exactly, calls_stand, leaves_first, audit_is_ok, knew_first}
use Rattle.queue_load.proofs.Members.{are_answered, first_member}
use Rattle.queue_load.proofs.Opening.{all_done}
use Rattle.queue_load.proofs.load.ended.Goals as goal

pub total_of-total-requires-clause-shares : goal.total_of-total-requires-clause-shares
total_of-total-requires-clause-shares g c i w at =
    (all_done c.args.queue c.args.plan c.args.worked.items c.requires.come i w (subst (λ xs. slice_get xs i ≡ Some w) c.as_slice.ensures.value at)).share

pub closed-requires-clause-made : goal.closed-requires-clause-made
closed-requires-clause-made g c = all_done c.args.queue c.args.plan c.args.worked.items c.requires.come

pub report_of-report-requires-clause-room : goal.report_of-report-requires-clause-room
report_of-report-requires-clause-room g c = c.in_ok-book.ensures.ok.home.room_is ∙ c.requires.room

pub returns-clause-ok : goal.returns-clause-ok
returns-clause-ok g c =
    let worked = c.args.worked.items in
    let book = c.in_ok-book.book in
    let items = c.as_slice.ensures.value in
    let done = all_done c.args.queue c.args.plan worked c.requires.come in
    let closes = c.in_ok-book.ensures.ok in
    let some : 0 < length worked = subst (λ n. 0 < n) (sym c.requires.count) c.args.plan.fits.some_workers in
    let first = first_of_some worked some in
    let added = subst (λ ws. c.total_of-total.result ≡ all_together (map (λ (w : EndedWorker _ _). w.tally) ws)) items c.total_of-total.ensures.added in
    let total : IsTotal g.P.Part.wide c.args.plan.workers c.args.plan c.total_of-total.result =
    subst (λ n. IsTotal g.P.Part.wide n c.args.plan c.total_of-total.result) (ap length items ∙ c.requires.count) c.total_of-total.ensures.total in
    let answered = are_answered c.args.queue c.args.plan worked c.total_of-total.result done added in (
      book,
      record {
        members = map (λ (w : EndedWorker _ _). w.member) worked;
        total = c.total_of-total.result;
        answered = subst (λ n. AreAnswered g.P.Part.wide n c.args.plan (map (λ (w : EndedWorker _ _). w.member) worked) c.total_of-total.result) c.requires.count answered;
        first = first.0.member;
        is_first = first_member worked first.0 first.1;
        total_is = total;
        report = c.report_of-report.ensures.report;
        linearized = subst (λ n. LinearizesMembers n (map (λ (w : EndedWorker _ _). w.member) worked) book.journal) c.requires.room closes.linearized;
        stand = calls_stand c.args.queue c.args.plan worked book done closes c.law_calls_are_lines.ensures.lines;
        leaves = subst (λ n. LeavesFirst g.P.Part.wide n c.args.plan first.0.member book) c.requires.room (leaves_first c.args.queue c.args.plan worked book done closes first.0 first.1);
        exact = has_exactly c.args.queue c.args.plan worked book done closes;
        only = closes.only;
        ok = audit_is_ok c.args.queue c.args.plan worked book done closes first.0 first.1 c.total_of-total.result answered.added total c.report_of-report.result c.report_of-report.ensures.report;
      },
      c.report_of-report.ensures.book,
      knew_first c.args.queue worked book closes,
      search rules,
    )
