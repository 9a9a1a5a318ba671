use Rattle.std.proofs.Common.{◌≡◌, ◌∙◌, ◌++◌, ◌-◌, ◌≤◌, List, length, ap, sym, subst}
use Rattle.pq_types.specs.Asked.{Line}
use Rattle.pq_types.specs.declared.journal.TheConstants.{MOST_LINES}
use Rattle.pq_types.specs.History.{IsLegal, SerialsRise}
use Rattle.pq_book.specs.Book.{IsLongRoom, Volume}
use Rattle.pq_book.specs.Pages.{AreLast, page_of}
use Rattle.pq_book.proofs.KeptLemmas.{last_kept, none_forgotten}
use Rattle.pq_book.proofs.book.Book.lines.Goals as goal

pub returns-clause-last : goal.returns-clause-last
returns-clause-last g c =
    let lines = c.kept.result.0.now ++ c.kept.result.1.now in
    let forgotten = c.forgotten-forgotten.result in
    subst (λ (b : Volume). AreLast lines forgotten b.journal) c.self.view_is (last_kept c.self.inside.journal lines forgotten c.forgotten-forgotten.ensures c.kept.ensures.lines)

pub returns-clause-page : goal.returns-clause-page
returns-clause-page g c = c.forgotten-forgotten.ensures ∙ c.self.invariant.1.1 ∙ ap (λ (b : Volume). length b.journal - page_of b.room) c.self.view_is

pub returns-clause-whole : goal.returns-clause-whole
returns-clause-whole g c =
    let j = c.self.inside.journal in
    subst (λ (b : Volume). b.room ≤ MOST_LINES → c.kept.result.0.now ≡ b.journal) c.self.view_is
    (λ short.
    let none = none_forgotten c.self.inside.room j c.self.invariant.1 c.self.invariant.0.within short in
    c.kept.ensures.straight none ∙ ap (λ ls. ls ++ j.kept) (sym none))

pub returns-clause-none_before : goal.returns-clause-none_before
returns-clause-none_before g c =
    subst (λ (b : Volume). b.room ≤ MOST_LINES → c.forgotten-forgotten.result ≡ 0) c.self.view_is
    (λ short. c.forgotten-forgotten.ensures ∙ ap (λ (ls : List Line). length ls) (none_forgotten c.self.inside.room c.self.inside.journal c.self.invariant.1 c.self.invariant.0.within short))

pub returns-clause-legal : goal.returns-clause-legal
returns-clause-legal g c = subst (λ (b : Volume). IsLegal b.journal) c.self.view_is c.self.invariant.0.legal

pub returns-clause-rise : goal.returns-clause-rise
returns-clause-rise g c = subst (λ (b : Volume). SerialsRise b.journal) c.self.view_is c.self.invariant.0.rise

pub returns-clause-room : goal.returns-clause-room
returns-clause-room g c = subst (λ (b : Volume). length b.journal ≤ b.room) c.self.view_is c.self.invariant.0.within

pub returns-clause-in_range : goal.returns-clause-in_range
returns-clause-in_range g c = subst (λ (b : Volume). IsLongRoom b.room) c.self.view_is c.self.invariant.0.room_in_range
