use Rattle.std.proofs.Common.{rules, ◌≢◌, ◌∙◌, ap, subst}
use Rattle.pq_types.specs.Asked.{Line}
use Rattle.pq_types.specs.Entry.{reply_by}
use Rattle.pq_types.specs.History.{entries_of}
use Rattle.queue_texts.proofs.Replays.{breaks_by}
use Rattle.queue_texts.proofs.replay.reply_breach.Goals as goal

pub returns-then-ne-clause-some : goal.returns-then-ne-clause-some
returns-then-ne-clause-some g c =
    let journal = c.args.book.now.journal in
    let found = c.args.found.now in
    let line = c.line.inside in
    let other : line.reply ≢ c.due_reply-reply.result = search rules in
    breaks_by journal found.number found.line c.due_reply-reply.result c.wrong_reply.result c.requires.kind c.requires.due c.requires.serial
    (c.due_reply-reply.ensures ∙ ap (λ (l : Line). reply_by (entries_of journal) l.operation) c.line.view_is)
    (subst (λ (l : Line). l.reply ≢ c.due_reply-reply.result) c.line.view_is other) c.wrong_reply.ensures
