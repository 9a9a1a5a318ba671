use Rattle.std.proofs.Common.{subst}
use Rattle.desk_core.specs.Words.{word_number}
use Rattle.announce_board.specs.ItemWords.{drafted_by}
use Rattle.announce_board.specs.Steps.{pen_at, Becomes}
use Rattle.announce_board.proofs.ItemSteps.{push_drafted}
use Rattle.announce_board.proofs.asking.store_item.Goals as goal

pub returns-clause-drafted : goal.returns-clause-drafted
returns-clause-drafted g c =
    let m = c.args.seat.now.me in
    let after = subst (λ x. Becomes m (drafted_by (word_number g.P.Part.wide) (pen_at m) x) c.draft_words.new.seat.me) c.parts-priority.ensures.parts c.draft_words.ensures.after in
    λ request is. push_drafted (word_number g.P.Part.wide) m c.draft_words.new.seat.me request c.args.item is after
