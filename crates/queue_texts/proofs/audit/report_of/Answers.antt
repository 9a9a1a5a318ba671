use Rattle.std.proofs.Common.{arith}
use Rattle.queue_texts.proofs.Contents.{few_left}
use Rattle.queue_texts.proofs.audit.report_of.Goals as goal

-- a journal has so few lines, and leaves so few items, that their priorities added up have 128 bits
pub overflow_add-result : goal.overflow_add-result
overflow_add-result g c =
    omega (
      arith,
      c.in-Some.audit.counted.sums.few_out,
      c.in-Some.audit.counted.few,
      c.sum_of-sum_left.ensures.small,
      few_left c.law_one_more_line.ensures.length c.in-Some.audit.replay.value.journal _ c.take_parts-store.ensures.items,
    )
