use Rattle.std.proofs.Common.{◌∙◌, List, length, ap, sym, subst, arith}
use Rattle.std.specs.List.{sum_by}
use Rattle.pq_types.specs.Item.{Item}
use Rattle.pq_types.specs.Asked.{Line}
use Rattle.pq_types.specs.History.{left, IsLegal}
use Rattle.pq_types.specs.declared.journal.TheConstants.{MOST_LINES}
use Rattle.queue_load.proofs.Reporting.{reports}
use Rattle.queue_load.proofs.Widths.{little}
use Rattle.queue_load.proofs.audit.short_report.Goals as goal

pub leftover_of-leftover-requires : goal.leftover_of-leftover-requires
leftover_of-leftover-requires g c =
    let whole = c.lines.ensures.whole c.requires.short in
    record { legal = subst IsLegal (sym whole) c.lines.ensures.legal; few = omega (arith, ap (λ (ls : List Line). length ls) whole, c.lines.ensures.room, c.requires.short) }

pub told-requires : goal.told-requires
told-requires g c =
    record { small = c.requires.small; little = little g.P.Part.wide c.leftover_of-leftover.result.sum MOST_LINES c.leftover_of-leftover.ensures.small (omega arith) }

pub returns : goal.returns
returns g c =
    let leftover = c.leftover_of-leftover.ensures in
    let whole = c.lines.ensures.whole c.requires.short in
    reports c.args.plan c.args.total.now c.leftover_of-leftover.result c.len.result c.args.book.now.journal c.told.result c.told.ensures (leftover.count ∙ ap (λ ls. length (left ls)) whole)
    (leftover.sum ∙ ap (λ ls. sum_by (λ (x : Item). x.priority) (left ls)) whole) c.len.ensures.count
