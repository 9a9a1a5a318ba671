use Rattle.std.proofs.Common.{arith, ap, refl, sym, subst, length, ◌∙◌, ◌++◌, ◌∷◌, []}
use Rattle.pq_types.specs.Operation.{Asked}
use Rattle.pq_types.specs.Queue.{reply_to}
use Rattle.pq_types.specs.History.{line_of, left, IsAdmitted}
use Rattle.pq_book.specs.Book.{Volume, limits_of}
use Rattle.pq_book.proofs.KeptLemmas.{items_left, next_is_later, few_entries, as_many_left, reply_in_range, kept_entered, paged_entered, with_line, no_room}
use Rattle.pq_book.proofs.KeptLemmas.{shut_still}
use Rattle.pq_book.proofs.Peak.{peak_entered}
use Rattle.pq_book.proofs.book.Book.apply.Goals as goal

pub carried_out_within-requires : goal.carried_out_within-requires
carried_out_within-requires g c = record { lines = next_is_later _ _ _ _ c.self.invariant.0 _ (omega (arith, c.len-number.ensures)) }

pub invariant_of-self-2 : goal.invariant_of-self-2
invariant_of-self-2 g c =
    let line = c.law_one_more_line.ensures in
    let open_to = subst (λ o. IsAdmitted (limits_of c.args.self.now) c.args.self.now.journal o) c.asked.ensures c.in_default.ensures.admitted in
    let admitted = subst (λ (b : Volume). IsAdmitted (limits_of b) b.journal (Asked c.args.request)) (sym c.self.view_is) open_to in
    let grown = with_line _ _ _ _ _ _ _ c.asked-2.ensures c.add.ensures.lines in
    let kept = kept_entered _ _ _ _ c.self.invariant.0 line.legal line.rise c.law_shut.ensures.heeds c.law_items_stay_in_range.ensures.entries _ _ _ _ _ (Asked c.args.request) _ (rw (← c.self.view_is) at c.requires) admitted c.law_request_is_proper.ensures
    (omega (arith, c.len-number.ensures)) c.in-Some-carried_out_within.ensures.reply c.in-Some-carried_out_within.ensures.entries grown in
    let peaked = peak_entered _ _ _ _ _ _ c.self.invariant.2 c.peak_with-self-inside.ensures c.add.ensures.lines (omega (arith, c.len.ensures.len, as_many_left _ _ _ _ kept)) in
    let shut = shut_still c.law_shut.ensures.more _ _ _ _ c.self.invariant.3 refl grown in
    (kept, paged_entered c.self.inside.room c.self.inside.journal c.add.new.self _ c.self.invariant.1 c.add.ensures.page c.add.ensures.kept c.add.ensures.full c.add.ensures.lines c.add.ensures.most, peaked, shut, c.self.invariant.4, c.self.invariant.5)

pub returns-clause-answer : goal.returns-clause-answer
returns-clause-answer g c =
    let journal = ap (λ (b : Volume). length b.journal) c.self.view_is in
    let open_to = subst (λ o. IsAdmitted (limits_of c.args.self.now) c.args.self.now.journal o) c.asked.ensures c.in_default.ensures.admitted in
    let now = items_left _ _ _ _ c.self.invariant.0 ∙ ap (λ (b : Volume). left b.journal) c.self.view_is in
    (open_to, omega (arith, journal, c.len-number.ensures), c.in-Some-carried_out_within.ensures.reply ∙ ap (λ xs. reply_to xs c.args.request) now)

pub returns-clause-proper : goal.returns-clause-proper
returns-clause-proper g c =
    let few = c.in_default.ensures.admitted.space in
    let journal = ap (λ (b : Volume). length b.journal) c.self.view_is in
    let room = ap (λ (b : Volume). b.room) c.self.view_is in
    ((omega arith, omega (arith, c.len-number.ensures, few, journal, room, c.self.invariant.0.room_in_range.1)), reply_in_range _ _ _ _ c.self.invariant.0 c.law_items_stay_in_range.ensures.replies (Asked c.args.request) _ c.in-Some-carried_out_within.ensures.reply)

pub returns-clause-within : goal.returns-clause-within
returns-clause-within g c =
    let journal = ap (λ (b : Volume). length b.journal) c.self.view_is in
    (omega arith, omega (arith, c.len-number.ensures, journal, c.in_default.ensures.admitted.space), reply_in_range _ _ _ _ c.self.invariant.0 c.law_items_stay_in_range.ensures.replies (Asked c.args.request) _ c.in-Some-carried_out_within.ensures.reply)

pub returns-clause-run : goal.returns-clause-run
returns-clause-run g c =
    let journal = ap (λ (b : Volume). b.journal) c.self.view_is in
    let grown = with_line _ _ _ _ _ _ _ c.asked-2.ensures c.add.ensures.lines in
    (c.requires, returns-clause-answer g c, grown ∙ ap (λ ls. ls ++ line_of c.args.place c.args.serial (Asked c.args.request) c.in-Some-carried_out_within.reply ∷ []) journal)

-- the store has fewer items than the journal has room for lines
pub returns-in_default-carried_out_within-clause-memory : goal.returns-in_default-carried_out_within-clause-memory
returns-in_default-carried_out_within-clause-memory g c all is =
    let line = c.law_one_more_line.ensures in
    let journal = ap (λ (b : Volume). length b.journal) c.self.view_is in
    no_room _ _ _ _ c.in_default-carried_out_within.ensures.full (all.1 c.self.inside.store) all.0 (omega (arith, few_entries _ _ _ _ c.self.invariant.0 line.length, journal, c.in_default.ensures.admitted.space))

-- and as many as the journal leaves
pub returns-in_default-carried_out_within-clause-spare : goal.returns-in_default-carried_out_within-clause-spare
returns-in_default-carried_out_within-clause-spare g c all is =
    let now = ap (λ (b : Volume). length (left b.journal)) c.self.view_is in
    no_room _ _ _ _ c.in_default-carried_out_within.ensures.full (all.1 c.self.inside.store) all.0 (omega (arith, as_many_left _ _ _ _ c.self.invariant.0, now))
