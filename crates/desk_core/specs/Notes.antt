-- Notes, by which one pen tells another what it knows of the journal: a pen catches up with the journal, writes a note of it,
-- and another hears the note. So the calls of the one that were answered before it wrote have their lines before each call that
-- the other makes after it has heard (a causal token; happened before: Lamport 1978).
use Rattle.std.specs.Prelude.{◌≡◌, ℕ, ◌+◌, List, [], ◌∷◌, ◌++◌, length, drop, slice_set}
use mathlib.Core.Option.{some}
use lib.ListN.{get_elem?}
use Rattle.pq_types.specs.Asked.{Line}
use Rattle.desk_core.specs.Clauses.{LockClause}
use Rattle.desk_core.specs.Desk.{Desk, Has, with_pen}
use Rattle.desk_core.specs.Keeping.{OfEachPen}
use Rattle.desk_core.specs.Knows.{Knows}
use Rattle.desk_core.specs.Rule.{MeetsRule}
use Rattle.desk_core.specs.declared.model.PenState.{PenState}
use Rattle.desk_core.specs.declared.model.View.TheVariants.{Holder, Note}

-- it has caught up: it knows the whole journal, as it stands
abbrev pub after_catch_up : PenState → List Line → PenState
after_catch_up p journal = record p { known = journal; steps = p.steps + 1 }

-- it has written a note of the journal that it knows
abbrev pub after_writing : PenState → PenState
after_writing p = record p { steps = p.steps + 1 }

-- the journal that is known, and behind it the lines that the one which was told has more
abbrev pub with_told : List Line → List Line → List Line
with_told known told = known ++ drop (length known) told

-- it has heard a note of this journal
abbrev pub after_hearing : PenState → List Line → PenState
after_hearing p told = record p { known = with_told p.known told; steps = p.steps + 1 }

-- A pen catches up, at one load.
abbrev pub StepsCatchUp : Desk → ℕ → Desk → Type 0
StepsCatchUp d seat d' =
    (p : PenState) × (journal : List Line) × Has d.views seat p × LockClause d journal
    × (d' ≡ with_pen d seat (after_catch_up p journal))

-- A pen writes a note, which gets a seat behind all others.
abbrev pub StepsWrite : Desk → ℕ → Desk → Type 0
StepsWrite d seat d' =
    (p : PenState) × Has d.views seat p
    × (d' ≡ record d { views = slice_set d.views seat (Holder (after_writing p)) ++ Note p.known ∷ [] })

-- A pen hears the note at another seat, which tells nothing from then on.
abbrev pub StepsHear : Desk → ℕ → ℕ → Desk → Type 0
StepsHear d seat other d' =
    (p : PenState) × (told : List Line) × Has d.views seat p × (get_elem? d.views other ≡ some (Note told))
    × (d' ≡ record d { views = slice_set (slice_set d.views seat (Holder (after_hearing p told))) other (Note []) })

-- A note is copied: the copy gets a seat behind all others.
abbrev pub StepsCopy : Desk → ℕ → Desk → Type 0
StepsCopy d seat d' =
    (told : List Line) × (get_elem? d.views seat ≡ some (Note told))
    × (d' ≡ record d { views = slice_set d.views seat (Note told) ++ Note told ∷ [] })

-- A pen that catches up finds some journal, of which it knows what a pen knows of the one that is at home; and the rule holds on.
abbrev pub CatchUpKeeps : Type 0
CatchUpKeeps = OfEachPen (λ d seat p.
    (journal : List Line) × LockClause d journal × Knows d.room p journal
    × MeetsRule (with_pen d seat (after_catch_up p journal)))

-- a pen may write a note at any time
abbrev pub WritingKeeps : Type 0
WritingKeeps = OfEachPen (λ d seat p.
    MeetsRule (record d { views = slice_set d.views seat (Holder (after_writing p)) ++ Note p.known ∷ [] }))

-- and hear any note
abbrev pub HearingKeeps : Type 0
HearingKeeps = OfEachPen (λ d seat p. (other : ℕ) (told : List Line) → get_elem? d.views other ≡ some (Note told)
    → MeetsRule (record d { views = slice_set (slice_set d.views seat (Holder (after_hearing p told))) other (Note []) }))

-- a note may be copied
abbrev pub CopyingKeeps : Type 0
CopyingKeeps = (d : Desk) (seat : ℕ) (told : List Line) → MeetsRule d → get_elem? d.views seat ≡ some (Note told)
    → MeetsRule (record d { views = slice_set d.views seat (Note told) ++ Note told ∷ [] })
