use Rattle.std.proofs.Common.{◌∙◌, ap}
use Rattle.pq_types.specs.Asked.{Line}
use Rattle.queue_texts.specs.Sums.{counted}
use Rattle.queue_texts.proofs.Entries.{counts_entered}
use Rattle.queue_texts.proofs.audit.AuditPlayer.play.Goals as goal

pub invariant_of-self : goal.invariant_of-self
invariant_of-self g c =
    let ok = c.in-Ok.ensures.ok in
    let sums = c.count.ensures.counted ∙ ap (λ (l : Line). counted c.args.self.now.sums c.in-Ok.played.is_new_place l.operation l.reply) c.line.view_is in
    record {
      counted =
          counts_entered c.law_one_more_line.ensures.last_serial g.P.Part.wide c.args.line.now _ _ _ _ _ _ c.args.self.now.counted ok.0
          c.count.ensures.small_in c.count.ensures.small_out ok.2 ok.1 sums;
    }
