-- Each step of a comer on its way keeps the rule, and is one event of the grid.
use Rattle.std.proofs.Common.{◌≡◌, ◌≢◌, ℕ, ◌+◌, ◌*◌, ◌<◌, ◌≤◌, inl, inr, List, [], ◌∷◌, ◌++◌, length, slice_get, slice_set, slice_index, Some, Option}
use Rattle.std.proofs.Common.{refl, ap, sym, ◌∙◌, subst, arith, false, true≢false}
use lib.ListN.{get_elem?}
use mathlib.Core.Option.{some}
use Rattle.split_grid.specs.DoorLooks.{events_in}
use Rattle.atomic_table.specs.Table.{State, Me, Act, keeps, takes, Valid, carried_after, stepped, Allows}
use Rattle.atomic_table.specs.Seated.{TableId}
use Rattle.split_core.specs.Places.{place, at, diagonal, row, column, Numbered}
use Rattle.split_core.specs.Comer.{is_stopped}
use Rattle.split_core.specs.Grid.{Grid, Event, Goes, Has, acts, goes, happens, run, opening, Different}
use Rattle.split_core.specs.Inside.{Inside}
use Rattle.split_core.specs.Splitter.{OneStops, steps_here}
use Rattle.split_core.specs.Walk.{WaySteps}
use Rattle.split_core.specs.declared.model.Comer.{Comer}
use Rattle.split_core.specs.declared.model.Next.{Next}
use Rattle.split_core.specs.declared.model.Next.TheVariants.{Stopped}
use Rattle.split_core.specs.declared.walker.Walker.{Walker}
use Rattle.split_grid.specs.Rule.{becomes, comer_in, Keeps}
use Rattle.split_grid.specs.Steps as steps
use Rattle.split_grid.specs.Steps.{IsSeatOf, Strode, strode}
use Rattle.split_grid.specs.Tokens.{Walks, Sized}
use Rattle.split_grid.specs.declared.rule.View.{View}
use Rattle.split_grid.proofs.Lists.{get_set_same}
use Rattle.split_grid.proofs.Boards.{after_event, word_of, leaves, goes_words, goes_comers, Seat, seat_of, has, moved, longer, size, bare_becomes, looks_kept}
use Rattle.split_grid.proofs.Values.{stops?, unmoved, kept_there, taken}

-- what holds of the grid at the end of every run
pub record Laws : Type 0 where
  pub stops : (ids : List ℕ) (events : List Event) → Different ids → OneStops (run events (opening ids))
  pub inside : (ids : List ℕ) (events : List Event) → Different ids → Inside (length ids) (run events (opening ids))
  pub ways : (ids : List ℕ) (events : List Event) → WaySteps (run events (opening ids))

not_stopped : (m : Next) → is_stopped m ≡ false → m ≢ Stopped
not_stopped m e q = true≢false (ap is_stopped (sym q) ∙ e)

module _ {T G : Type 0} (fits : G → ℕ → T → Type 0) (tag : G) (ids : List ℕ) (laws : Laws) where
  abbrev n : ℕ
  n = length ids

  abbrev St : Type 0
  St = State (Option T) (View G)

  module _ (s : St) (k : Keeps fits tag ids s) (id : ℕ) (v : View G) (stood : get_elem? s.views id ≡ some v) (f : Seat tag n k.shows.dealt id v) (next : Next)
      (is : (comer_in v).next ≡ next) (on : is_stopped next ≡ false) where
    abbrev es : List Event
    es = events_in k.moments

    abbrev g : Grid
    g = run es (opening ids)

    abbrev c : Comer
    c = comer_in v

    there : slice_get g.comers f.who ≡ Some c
    there = has fits tag ids s g k.shows id v f

    here : at c.turns < size fits tag ids
    here = (laws.inside ids es k.differ).places f.who c there

    abbrev word : ℕ
    word = leaves next c.id (slice_index s.words (word_of next (size fits tag ids) (at c.turns)))

    abbrev c' : Comer
    c' = steps.stepped next c word

    abbrev g' : Grid
    g' = goes next g f.who c

    event_is : happens g (Goes f.who) ≡ g'
    event_is = ap (acts (Goes f.who) g) there ∙ ap (λ m. goes m g f.who c) is

    ends : run (es ++ Goes f.who ∷ []) (opening ids) ≡ g'
    ends = after_event es (Goes f.who) (opening ids) ∙ event_is

    comers_are : g'.comers ≡ slice_set g.comers f.who c'
    comers_are = goes_comers (size fits tag ids) s.words g f.who c k.shows.words here next on

    in_place : Inside n g'
    in_place = subst (Inside n) ends (laws.inside ids (es ++ Goes f.who ∷ []) k.differ)

    now : Has g' f.who c'
    now = ap (λ l. slice_get l f.who) comers_are ∙ get_set_same g.comers f.who c' c there

    inside : diagonal c'.turns < n
    inside = in_place.diagonals f.who c' now

    at_place : at c'.turns < size fits tag ids
    at_place = in_place.places f.who c' now

    bounded : c'.scan.doors ≡ 0 → c'.steps ≤ 4 * diagonal c'.turns + steps_here c'.next
    bounded z =
        let ways : WaySteps g' = subst WaySteps ends (laws.ways ids (es ++ Goes f.who ∷ [])) in
        let a = ways.counted f.who c' now z in
        let b = ways.bounded c' in
        omega (arith, a, b)

    alone : (a : ℕ) (x : Comer) → slice_get (slice_set g.comers f.who c') a ≡ Some x → c'.next ≡ Stopped → x.next ≡ Stopped
        → at x.turns ≡ at c'.turns → a ≡ f.who
    alone a x e end s same =
        let one : OneStops g' = subst OneStops ends (laws.stops ids (es ++ Goes f.who ∷ []) k.differ) in
        one a f.who x c' (ap (λ l. slice_get l a) comers_are ∙ e) now s end same

    was_going : c.next ≢ Stopped
    was_going = not_stopped c.next (ap is_stopped is ∙ on)

    -- what the seat is then, and that the rule is kept
    module _ (held : List (ℕ × Option T)) where
      abbrev before : Me (Option T) (View G)
      before = (v, held)

      abbrev Result : Type 0
      Result =
          (w : View G) × (a : Act (Option T)) × Valid s.homes held a
          × Keeps fits tag ids (stepped s (word_of next (size fits tag ids) (at c.turns)) word id held w a)
          × IsSeatOf fits before c' (w, carried_after held a)

      tag_is : v.tag ≡ tag
      tag_is = ap (λ (u : View G). u.tag) f.view

      comers_is : v.comers ≡ n
      comers_is = ap (λ (u : View G). u.comers) f.view

      result : Result
      result = elim (stops? c'.next) [
        | inl end ↦
            let only = λ (a : ℕ) (x : Comer) (e : slice_get (slice_set g.comers f.who c') a ≡ Some x) (z : x.next ≡ Stopped)
            (q : at x.turns ≡ at c'.turns). alone a x e end z q in
            let x = kept_there fits tag (size fits tag ids) g.comers s.homes k.shows.values f.who c c' there was_going end at_place only in (
              becomes v c',
              takes (at c'.turns) (Some x.0),
              x.1,
              longer fits tag ids s _ k (Goes f.who) g' event_is (looks_kept s.views id v (becomes v c') stood refl)
                  (moved fits tag ids s g k.shows id v f g' c' _ _ _ (bare_becomes tag n k.shows.dealt id v f c') comers_are
                  (goes_words (size fits tag ids) s.words g f.who c k.shows.words here next)
                  (taken fits tag (size fits tag ids) g.comers s.homes k.shows.values f.who c c' there was_going end at_place only)),
              record {
                view = refl;
                going = λ ne. absurd (ne end);
                stopped = λ _. (x.0, refl, subst (λ t. fits t (at c'.turns) x.0) (sym tag_is) (k.shows.values.fit (at c'.turns) x.0 x.1));
                inside = subst (λ q. diagonal c'.turns < q) (sym comers_is) inside;
                bounded = bounded;
              },
            )
        | inr ne ↦ (
          becomes v c',
          keeps,
          tt,
          longer fits tag ids s _ k (Goes f.who) g' event_is (looks_kept s.views id v (becomes v c') stood refl)
              (moved fits tag ids s g k.shows id v f g' c' _ _ _ (bare_becomes tag n k.shows.dealt id v f c') comers_are (goes_words (size fits tag ids) s.words g f.who c k.shows.words here next)
              (unmoved fits tag (size fits tag ids) g.comers s.homes k.shows.values f.who c c' there (λ e. absurd (was_going e))
              (λ e. absurd (ne e)))),
          record {
            view = refl;
            going = λ _. refl;
            stopped = λ e. absurd (ne e);
            inside = subst (λ q. diagonal c'.turns < q) (sym comers_is) inside;
            bounded = bounded;
          },
        )
      ]

  -- a comer on its way takes its next step
  pub strides : (slots id : ℕ) (m : Me (Option T) (View G)) (w : Walker) (places p : ℕ) (next : Next) → Walks slots m w → w.next ≡ next
      → places ≡ size fits tag ids → p ≡ place w.row w.column
      → Allows (Keeps fits tag ids) slots id m (word_of next places p) (leaves next w.id) (λ r m'. Strode fits m (leaves next w.id r) m')
  strides slots id m w places p next h is sized at_p =
      let c = comer_in m.0 in
      let e : c.next ≡ next = ap (λ (x : Walker). x.next) (sym h.stored) ∙ is in
      let on : is_stopped next ≡ false = ap is_stopped (sym is) ∙ h.going in
      let name : w.id ≡ c.id = ap (λ (x : Walker). x.id) h.stored in
      let spot : p ≡ at c.turns = at_p ∙ ap (λ (x : Walker). place x.row x.column) h.stored in
      subst (λ z. Allows (Keeps fits tag ids) slots id m (word_of next z p) (leaves next w.id)
      (λ r m'. Strode fits m (leaves next w.id r) m')) (sym sized)
      (subst (λ z. Allows (Keeps fits tag ids) slots id m (word_of next (size fits tag ids) z) (leaves next w.id)
      (λ r m'. Strode fits m (leaves next w.id r) m')) (sym spot)
      (subst (λ z. Allows (Keeps fits tag ids) slots id m (word_of next (size fits tag ids) (at c.turns)) (leaves next z)
      (λ r m'. Strode fits m (leaves next z r) m')) (sym name)
      (λ s k long there small.
      let f = seat_of tag n k.shows.waiting k.shows.dealt s.views id m.0 k.shows.views there h.dealt in
      let r = result s k id m.0 there f next e on m.1 in (
        r.0,
        r.1,
        r.2,
        r.3,
        subst (λ x. IsSeatOf fits m
            (steps.stepped x c (leaves next c.id (slice_index s.words (word_of next (size fits tag ids) (at c.turns)))))
            (r.0, carried_after m.1 r.1)) (sym e) r.4,
      ))))

-- a comer on its way stands at a place of the grid
pub inside_words : {S G : Type 0} (table : TableId) (n places : ℕ) (m : Me S (View G)) (w : Walker) → ((r c : ℕ) → Numbered r c)
    → Sized table n → places ≡ place 0 n → Walks table.slots m w
    → (place w.row w.column < places) × (places + places ≡ table.words)
inside_words table n places m w numbered sized counted h =
    let c = comer_in m.0 in
    let spot : place w.row w.column ≡ at c.turns = ap (λ (x : Walker). place x.row x.column) h.stored in
    let a = (numbered (row c.turns) (column c.turns)).within m.0.comers h.inside in
    (omega (arith, a, spot, h.sized, sized.slots), omega (arith, sized.words))
