-- Pens that catch up, write notes and hear them keep the rule of the table.
use Rattle.std.proofs.Common.{◌≡◌, ℕ, suc, ◌≤◌, Bool, List, [], ◌∷◌, ◌++◌, set, refl, ap, sym, ◌∙◌, subst, ⊎_elim, append-nil, arith}
use Rattle.std.specs.Prelude.{Some, slice_get}
use Rattle.std.specs.List.{AllByRecursion}
use mathlib.Core.Option.{some}
use lib.ListN.{get_elem?}
use Rattle.atomic_table.specs.Table.{State, keeps}
use Rattle.atomic_table.proofs.Lists.{set_else}
use Rattle.pq_types.specs.Asked.{Line}
use Rattle.announce_board.specs.declared.terms.Terms.{Terms}
use Rattle.announce_board.specs.Slots.{Slotted, first_limits}
use Rattle.desk_core.specs.CallLines.{IsLineOf, CallsAreLines}
use Rattle.desk_core.specs.Calls.{call}
use Rattle.desk_core.specs.Dealing.{IsReached, CatchesUp as MovesUp, Writes, Hears, MovesReach}
use Rattle.desk_core.specs.Desk.{Desk, with_pen}
use Rattle.desk_core.specs.Knows.{Knows}
use Rattle.desk_core.specs.Layout.{lock_at, Loaded}
use Rattle.desk_core.specs.Notes.{after_catch_up, after_writing, after_hearing, StepsCatchUp, StepsWrite, StepsHear, CatchUpKeeps, WritingKeeps, HearingKeeps}
use Rattle.desk_core.specs.Rule.{MeetsRule, StartsWith}
use Rattle.desk_core.specs.Duties.{DutiesAreKept, weight_of}
use Rattle.desk_core.specs.declared.model.Call.{Call}
use Rattle.desk_core.specs.declared.model.View.{View}
use Rattle.desk_core.specs.declared.model.View.TheVariants.{Holder, Note}
use Rattle.announce_board.specs.Allowed.{AsCatchUp, CutAsMove, JoinAsMove}
use Rattle.announce_board.specs.Rule.{Keeps, Seated, desk_of}
use Rattle.announce_board.specs.Steps.{pen_at, Becomes}
use Rattle.announce_board.specs.Notes.{told_of, told_in, IsNote, CatchesUp, after_note, while_hearing, after_hearing_all, CatchUpAllowedBy, WritingAllowedBy, HearingAllowedBy, CallsAreFound}
use Rattle.announce_board.proofs.Agreeing.{longer_in_common, both_begin}
use Rattle.announce_board.proofs.Duties.{acts_on, quiet_set, quiet_more, note_quiet}
use Rattle.announce_board.proofs.Weights.{weighs_set, weighs_more, weighs_on}

module _ (wide : Bool) (roomy : ℕ → Type 0) (room : ℕ) (terms : Terms) (places : ℕ) (s : State Slotted View) (k : Keeps wide roomy room terms places s) where
  abbrev d : Desk
  d = desk_of room places k.held k.control k.cells s.homes s.views

  -- the views alone have changed
  abbrev viewed : (views : List View) → IsReached places (first_limits room terms) (record d { views = views }) → MeetsRule (record d { views = views }) → DutiesAreKept views → weight_of places views ≤ places
      → Keeps wide roomy room terms places record { words = s.words; homes = s.homes; views = views }
  viewed views reached meets duties weight =
      record { held = k.held; control = k.control; cells = k.cells; words = k.words; slots = k.slots; reached = reached; meets = meets; duties = duties; weight = weight; memory = k.memory }

pub catch_up_allowed : (wide : Bool) (roomy : ℕ → Type 0) → MovesReach → CatchUpKeeps → Loaded → CatchUpAllowedBy AsCatchUp wide roomy
catch_up_allowed wide roomy goes kept loaded room terms places slots id m is s k long at small =
    let p = pen_at m in
    let now = d wide roomy room terms places s k in
    let t = kept (d wide roomy room terms places s k) id p k.meets (at ∙ ap some is) in
    let moved : StepsCatchUp now id (with_pen now id (after_catch_up p t.0)) = (p, t.0, at ∙ ap some is, t.1, refl) in (
      Holder (after_catch_up p t.0),
      keeps,
      tt,
      record {
        held = k.held;
        control = k.control;
        cells = k.cells;
        words = loaded wide places s.words k.held k.control k.cells lock_at k.words;
        slots = k.slots;
        reached = goes places (first_limits room terms) now (with_pen now id (after_catch_up p t.0)) (MovesUp id) k.reached moved;
        meets = t.3;
        duties = acts_on s.views id p (after_catch_up p t.0) k.duties (at ∙ ap some is) refl refl;
        weight = (let same = weighs_on places s.views id p (after_catch_up p t.0) (at ∙ ap some is) refl refl in let within = k.weight in omega (arith, same, within));
        memory = k.memory;
      },
      moved,
      (t.0, subst (λ r. Knows r p t.0) (sym (k.meets.2.pens id p (at ∙ ap some is)).told) t.2, refl),
    )

pub writing_allowed : (wide : Bool) (roomy : ℕ → Type 0) → MovesReach → WritingKeeps → WritingAllowedBy CutAsMove wide roomy
writing_allowed wide roomy goes kept room terms places slots id m is s k at =
    let p = pen_at m in
    let now = d wide roomy room terms places s k in
    let writer = set s.views id (Holder (after_writing p)) in
    let views = writer ++ Note p.known ∷ [] in
    let same = weighs_on places s.views id p (after_writing p) (at ∙ ap some is) refl refl in
    let more = weighs_more places writer (Note p.known) in
    let within = k.weight in
    let moved : StepsWrite now id (record now { views = views }) = (p, at ∙ ap some is, refl) in (
      viewed wide roomy room terms places s k views (goes places (first_limits room terms) now (record now { views = views }) (Writes id) k.reached moved) (kept now id p k.meets (at ∙ ap some is))
          (quiet_more writer (Note p.known) (acts_on s.views id p (after_writing p) k.duties (at ∙ ap some is) refl refl) (note_quiet p.known))
          (omega (arith, same, more, within)),
      moved,
    )

pub hearing_allowed : (wide : Bool) (roomy : ℕ → Type 0) → MovesReach → HearingKeeps → HearingAllowedBy JoinAsMove wide roomy
hearing_allowed wide roomy goes kept room terms places slots id m is other note it s k at ne there =
    let p = pen_at m in
    let told = told_of note in
    let w = Holder (while_hearing p told) in
    let here = at ∙ ap some is in
    let was : get_elem? s.views other ≡ some (Note told) = sym (set_else s.views id other w ne) ∙ (there ∙ ap some it) in
    let longer = longer_in_common p.known told k.meets.0 (k.meets.2.pens id p here).known (k.meets.2.notes other told was) in
    let now = d wide roomy room terms places s k in
    let same = weighs_on places s.views id p (while_hearing p told) here refl refl in
    let spent = weighs_set places (set s.views id w) other (Note told) (Note []) (there ∙ ap some it) in
    let within = k.weight in
    let heard : List Line → Desk =
    λ known. record now { views = set (set s.views id (Holder (record (after_hearing p told) { known = known }))) other (Note []) } in
    let moved : StepsHear now id other (heard (while_hearing p told).known) =
    subst (λ known. StepsHear now id other (heard known)) (sym longer) (p, told, here, was, refl) in (
      viewed wide roomy room terms places s k (set (set s.views id w) other (Note []))
          (goes places (first_limits room terms) now (heard (while_hearing p told).known) (Hears id other) k.reached moved)
          (subst (λ known. MeetsRule (heard known)) (sym longer) (kept now id p k.meets here other told was))
          (quiet_set (set s.views id w) other (Note told) (Note []) (acts_on s.views id p (while_hearing p told) k.duties here refl refl)
          (there ∙ ap some it) (note_quiet told) (note_quiet []))
          (omega (arith, same, spent, within)),
      moved,
    )

all_at : (P : Call → Type 0) (xs ys : List Call) → ((i : ℕ) (c : Call) → slice_get (xs ++ ys) i ≡ Some c → P c) → AllByRecursion P xs
all_at P [] ys f = tt
all_at P (x ∷ xs) ys f = (f 0 x refl, all_at P xs ys (λ i c e. f (suc i) c e))

pub calls_are_found : CallsAreLines → CallsAreFound
calls_are_found lines p journal k =
    ⊎_elim
    (λ e. all_at (IsLineOf journal p.place) p.mine [] (lines p.place journal (p.mine ++ []) (e ∙ sym (append-nil p.mine))))
    (λ u. all_at (IsLineOf journal p.place) p.mine (call u.1 p.posts u.0 u.2 ∷ []) (lines p.place journal (p.mine ++ call u.1 p.posts u.0 u.2 ∷ []) u.4))
    k.lines

-- a pen that has caught up, and then written a note, has written one of the journal with which it caught up
pub wrote_whole : (before between after : Seated) (h : CatchesUp before between) (told : List Line) → told ≡ (pen_at between).known → Becomes between (after_writing (pen_at between)) after
    → (told ≡ h.0) × Becomes before (after_note (pen_at before) h.0) after
wrote_whole before between after h told same next = (
  same ∙ ap (λ (m : Seated). (pen_at m).known) h.2,
  next ∙ ap (λ (m : Seated). (Holder (after_writing (pen_at m)), m.1)) h.2,
)

-- a pen that has heard a note, and then caught up, knows a journal that begins with what it knew and with what the note tells
pub heard_whole : (before between after : Seated) (told : List Line) → Becomes before (while_hearing (pen_at before) told) between → CatchesUp between after
    → Becomes before (after_hearing_all (pen_at before) told (pen_at after).known) after × Knows (pen_at before).room (pen_at before) (pen_at after).known
    × StartsWith (pen_at after).known told
heard_whole before between after told heard caught =
    let p = pen_at before in
    let h = subst (λ (m : Seated). CatchesUp m after) heard caught in
    let known : (pen_at after).known ≡ h.0 = ap (λ (m : Seated). (pen_at m).known) h.2 in
    let both = both_begin p.known told h.0 h.1.legal h.1.known in
    let knows : Knows p.room p h.0 = record {
      legal = h.1.legal;
      rise = h.1.rise;
      within = h.1.within;
      known = both.0;
      lines = h.1.lines;
      idle = h.1.idle;
      serials = h.1.serials;
      used = h.1.used;
      filled = h.1.filled;
    } in (
      subst (λ journal. Becomes before (after_hearing_all p told journal) after) (sym known) h.2,
      subst (Knows p.room p) (sym known) knows,
      subst (λ journal. StartsWith journal told) (sym known) both.1,
    )

-- the view of a badge that is a note's is a note
pub note_at : (views : List View) (v : View) → IsNote views → views ≡ v ∷ [] → v ≡ Note (told_of v)
note_at views v is e =
    let f : ◌≡◌ {A = List View} (v ∷ []) (Note (told_in views) ∷ []) = sym e ∙ is in
    let g : v ≡ Note (told_in views) = cc in
    g ∙ ap (λ vs. Note (told_in vs)) e
