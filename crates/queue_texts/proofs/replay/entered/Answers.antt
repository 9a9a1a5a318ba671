use Rattle.std.proofs.Common.{rules, ◌≡◌, ◌<◌, ◌∙◌, ◌∷◌, ◌++◌, [], ap, slice_set}
use Rattle.pq_types.specs.Asked.{Line}
use Rattle.pq_types.specs.Entry.{reply_by}
use Rattle.pq_types.specs.History.{entries_of, line_of}
use Rattle.queue_texts.specs.declared.replay.TheConstants.{PLACES}
use Rattle.queue_texts.proofs.Replays.{replayed_more}
use Rattle.queue_texts.proofs.replay.entered.Goals as goal

pub returns-clause-kept : goal.returns-clause-kept
returns-clause-kept g c =
    let line = c.args.line.now in
    let journal = c.args.book.now.journal in
    let last = c.args.last.now.items in
    let reply = c.in-Entered.field-1 in
    let there : c.from.result ≡ line.place = c.from.ensures ∙ ap (λ (l : Line). l.place) c.line.view_is in
    let within : line.place < PLACES = search rules in
    let law = c.law_one_more_line.ensures in
    let carried = c.in-Entered.ensures in
    replayed_more law.last_serial law.legal law.rise c.law_shut.ensures.heeds _ _ _ _ (line_of line.place line.serial line.operation reply)
    c.requires.kept within c.requires.next.serial
    (carried.answer.2 ∙ ap (λ (l : Line). reply_by (entries_of journal) l.operation) c.line.view_is)
    c.requires.next.heard carried.terms carried.allowed
    (carried.journal ∙ ap (λ (l : Line). journal ++ line_of l.place l.serial l.operation reply ∷ []) c.line.view_is)
    (ap (λ p. slice_set last p c.line.inside.serial) there ∙ ap (λ (l : Line). slice_set last line.place l.serial) c.line.view_is)
