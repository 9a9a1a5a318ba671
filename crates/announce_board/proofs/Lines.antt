-- The lines of the journal at home are of the places of pens that have come out.
use Rattle.std.proofs.Common.{◌≡◌, ℕ, ◌+◌, ◌-◌, ◌≤◌, ⊎_elim, List, slice_get, ap, sym, ◌∙◌, subst, arith}
use Rattle.std.specs.Prelude.{Some, None}
use Rattle.std.proofs.lemmas.Option.{slice_get_within}
use Rattle.pq_types.specs.Asked.{Line}
use Rattle.pq_types.specs.declared.journal.TheConstants.{GREATEST_NUMBER}
use Rattle.pq_types.specs.History.{Limits}
use Rattle.pq_book.specs.Book.{Volume}
use Rattle.desk_core.specs.Clauses.{LockClause}
use Rattle.desk_core.specs.Calls.{call_of}
use Rattle.desk_core.specs.CallLines.{IsLineOf}
use Rattle.desk_core.specs.Dealing.{IsReached, EveryDealtRunIsLinearizable, dealt_history}
use Rattle.desk_core.specs.Desk.{Desk, Has, dealer_opening}
use Rattle.desk_core.specs.Linearizable.{Act, Begins, Ends}
use Rattle.desk_core.specs.Times.{KeepsPosition, AreTimed, EveryDealtRunIsTimed}
use Rattle.desk_core.specs.declared.model.PenState.{PenState}

-- the place of an act
abbrev place_of : Act → ℕ
place_of (Begins place serial operation) = place
place_of (Ends place serial answer) = place

line_at : (journal : List Line) (i : ℕ) (l : Line) → slice_get journal i ≡ Some l → IsLineOf journal l.place (call_of (i + 1) l.serial l.operation l.reply)
line_at journal i l e =
    let within = slice_get_within journal i l e in
    let here : i ≡ i + 1 - 1 = omega arith in
    record { some = omega arith; within = omega (arith, within); there = subst (λ n. slice_get journal n ≡ Some l) here e }

one_place : (a b : Act) → Some a ≡ Some b → place_of a ≡ place_of b
one_place a b f = let g : a ≡ b = cc in ap place_of g

-- an act at a position that a pen keeps is one of its place
kept_here : (d : Desk) (history : List Act) → AreTimed d.views history → (j : ℕ) (p : PenState) → Has d.views j p → (n : ℕ) → KeepsPosition p n
    → (a : Act) → slice_get history n ≡ Some a → p.place ≡ place_of a
kept_here d history t j p has n keeps a at =
    ⊎_elim
    (λ u. (let b = (t.pens j p has).begun u.0 n u.1 in one_place (Begins p.place u.0 b.0) a (sym b.1 ∙ at)))
    (λ u. (let b = (t.pens j p has).ended u.0 n u.1 in one_place (Ends p.place u.0 b.0) a (sym b.1 ∙ at)))
    keeps

-- the Book at home has the journal that the lock tells
lock_is : (d : Desk) (a : List Line) (b : Volume) → LockClause d a → d.home ≡ Some b → a ≡ b.journal
lock_is d a b lock home =
    ⊎_elim
    (λ u.
    (let f : Some u.1.book ≡ Some b = sym u.1.is ∙ home in
    let g : u.1.book ≡ b = cc in
    sym u.1.journal_is ∙ ap (λ (v : Volume). v.journal) g))
    (λ u. absurd (let f : None ≡ Some b = sym u.1 ∙ home in cc))
    lock

-- each line of the journal at home is of the place of a pen that has a seat, and keeps a position
pub lines_are_of : EveryDealtRunIsLinearizable → EveryDealtRunIsTimed → (places : ℕ) (limits : Limits) (d : Desk) (book : Volume) → limits.room ≤ GREATEST_NUMBER
    → IsReached places limits d → d.home ≡ Some book → (i : ℕ) (l : Line) → slice_get book.journal i ≡ Some l
    → (j : ℕ) × (p : PenState) × Has d.views j p × (p.place ≡ l.place) × ((n : ℕ) × KeepsPosition p n)
lines_are_of linear timed places limits d book small (moves, run) home i l e =
    let history = dealt_history (dealer_opening places limits) moves d run in
    let z = linear places limits moves d small run in
    let t = timed places limits moves d run in
    let same = lock_is d z.0 book z.1 home in
    let c = call_of (i + 1) l.serial l.operation l.reply in
    let (n, at) = z.2.begun l.place c (subst (λ js. IsLineOf js l.place c) (sym same) (line_at book.journal i l e)) in
    let (j, p, has, keeps) = t.kept n (slice_get_within history n (Begins l.place c.serial c.operation) at) in
    (j, p, has, kept_here d history t j p has n keeps (Begins l.place c.serial c.operation) at, (n, keeps))
