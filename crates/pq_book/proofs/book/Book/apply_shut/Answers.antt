use Rattle.std.proofs.Common.{arith, ap, refl, sym, subst, ◌+◌, length, map, ◌∙◌}
use Rattle.pq_types.specs.declared.answer.Reply.TheVariants.{Empty}
use Rattle.pq_types.specs.Operation.{Shuts}
use Rattle.pq_types.specs.Entry.{item_of}
use Rattle.pq_types.specs.History.{line_of, entries_of, IsAdmitted}
use Rattle.pq_book.specs.Book.{Volume, limits_of}
use Rattle.pq_book.proofs.KeptLemmas.{kept_entered, paged_entered, with_line, shut_then}
use Rattle.pq_book.specs.Pages.{all}
use Rattle.pq_book.proofs.Peak.{peak_stays}
use Rattle.pq_book.proofs.book.Book.apply_shut.Goals as goal

pub invariant_of-self : goal.invariant_of-self
invariant_of-self g c =
    let line = c.law_one_more_line.ensures in
    let open_to = subst (λ o. IsAdmitted (limits_of c.args.self.now) c.args.self.now.journal o) c.shut.ensures c.in_default.ensures.admitted in
    let admitted = subst (λ (b : Volume). IsAdmitted (limits_of b) b.journal Shuts) (sym c.self.view_is) open_to in
    let grown = with_line _ _ _ _ _ _ _ c.shut-2.ensures c.add.ensures.lines in
    let kept = kept_entered _ _ _ _ c.self.invariant.0 line.legal line.rise c.law_shut.ensures.heeds c.law_items_stay_in_range.ensures.entries (g.S.Store.content c.self.inside.store) _ (c.len-number.result + 1) _ _ Shuts Empty (rw (← c.self.view_is) at c.requires) admitted tt
    (omega (arith, c.len-number.ensures)) refl refl grown in
    let same = ap (map item_of) (ap entries_of grown ∙ c.law_shut.ensures.unchanged (all c.self.inside.journal) (line_of c.args.place c.args.serial Shuts Empty) refl) in (
      kept,
      paged_entered c.self.inside.room c.self.inside.journal c.add.new.self _ c.self.invariant.1 c.add.ensures.page c.add.ensures.kept c.add.ensures.full c.add.ensures.lines c.add.ensures.most,
      peak_stays _ _ _ _ c.self.invariant.2 c.add.ensures.lines (ap (λ xs. length xs) same),
      shut_then c.law_shut.ensures.more _ _ _ refl grown,
      c.self.invariant.4,
      refl,
    )
