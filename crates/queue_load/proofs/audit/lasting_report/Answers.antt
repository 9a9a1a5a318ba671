use Rattle.std.proofs.Common.{◌≡◌, ◌∙◌, List, length, ap, subst, arith}
use Rattle.std.specs.Prelude.{IfSome}
use Rattle.std.specs.List.{sum_by}
use Rattle.pq_types.specs.Item.{Item}
use Rattle.pq_types.specs.History.{left}
use Rattle.queue_load.specs.Audit.{Reports}
use Rattle.queue_load.proofs.Reporting.{reports}
use Rattle.queue_load.proofs.Widths.{little}
use Rattle.queue_load.proofs.audit.lasting_report.Goals as goal

pub told-requires : goal.told-requires
told-requires g c =
    let count : c.leftover_in.result.count ≡ length (left c.in-Some.book.journal) = c.leftover_in.ensures.count ∙ ap (λ (xs : List Item). length xs) c.take_parts-store.ensures.content in
    record {
      small = c.requires.small;
      little = little g.P.Part.wide c.leftover_in.result.sum c.leftover_in.result.count c.leftover_in.ensures.small
          (omega (arith, count, c.law_one_more_line.ensures.length c.in-Some.book.journal, c.take_parts-store.ensures.room, c.len-lines.ensures.in_range.1));
    }

pub returns : goal.returns
returns g c =
    let content = c.take_parts-store.ensures.content in
    record {
      report = subst (λ place. IfSome place (λ book. Reports c.args.plan c.args.total.now book.journal c.told.result)) c.in-Some.ensures.value
          (reports c.args.plan c.args.total.now c.leftover_in.result c.len-lines.result c.in-Some.book.journal c.told.result c.told.ensures
          (c.leftover_in.ensures.count ∙ ap (λ (xs : List Item). length xs) content) (c.leftover_in.ensures.sum ∙ ap (λ xs. sum_by (λ (x : Item). x.priority) xs) content) c.len-lines.ensures.count);
      none = c.take.ensures.after;
    }
