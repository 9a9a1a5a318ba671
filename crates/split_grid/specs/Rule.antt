-- The rule of a grid's table, which holds between any two atomic steps.
use Rattle.std.specs.Prelude.{◌≡◌, ◌≢◌, ℕ, zero, suc, ◌<◌, Bool, true, false, List, [], ◌∷◌, ◌++◌, map, length, slice_get}
use Rattle.std.specs.Prelude.{Option, Some}
use mathlib.Core.Option.{some, none}
use mathlib.Core.Option as home
use lib.ListN.{get_elem?}
use Rattle.atomic_table.specs.Table.{State}
use Rattle.split_core.specs.Places.{place, at}
use Rattle.split_core.specs.Comer.{comer_of}
use Rattle.split_core.specs.Grid.{Grid, run, opening, Different}
use Rattle.split_core.specs.declared.model.Comer.{Comer}
use Rattle.split_core.specs.declared.model.Next.TheVariants.{Stopped}
use Rattle.split_grid.specs.Words.{AreWords}
use Rattle.split_grid.specs.DoorLooks.{Moment, events_in, looks_of, OnlyStoppedLook}
use Rattle.split_grid.specs.declared.rule.Look.{Look}
use Rattle.split_grid.specs.declared.rule.Role.{Role}
use Rattle.split_grid.specs.declared.rule.Role.TheVariants.{Dealer, Dealt}
use Rattle.split_grid.specs.declared.rule.View.{View}

module _ {G : Type 0} (tag : G) (comers : ℕ) where
  -- what the first seat knows while the comers of these ids have no seats
  abbrev pub dealer : List ℕ → View G
  dealer ids = record { tag = tag; comers = comers; role = Dealer ids; looks = [] }

  -- what the seat of a comer knows that has looked at no door
  abbrev pub seated : Comer → View G
  seated c = record { tag = tag; comers = comers; role = Dealt c; looks = [] }

abbrev pub is_dealt : Role → Bool
is_dealt (Dealer ids) = false
is_dealt (Dealt c) = true

abbrev pub comer_by : Role → Comer
comer_by (Dealer ids) = comer_of 0
comer_by (Dealt c) = c

-- the comer of a seat
abbrev pub comer_in : {G : Type 0} → View G → Comer
comer_in v = comer_by v.role

module _ {G : Type 0} where
  -- the seat of the same looks, whose comer is now this one
  abbrev pub becomes : View G → Comer → View G
  becomes v c = record v { role = Dealt c }

  -- what a seat knows besides its looks
  abbrev pub bare : View G → View G
  bare v = record v { looks = [] }

  -- the looks of the seat at this position; none where there is no seat
  abbrev pub looks_in : List (View G) → ℕ → List Look
  looks_in [] i = []
  looks_in (v ∷ views) zero = v.looks
  looks_in (v ∷ views) (suc i) = looks_in views i

-- none of these comers has stopped at the place p
abbrev pub NoneStopped : List Comer → ℕ → Type 0
NoneStopped comers p = (a : ℕ) (c : Comer) → slice_get comers a ≡ Some c → c.next ≡ Stopped → at c.turns ≢ p

module _ {T G : Type 0} (fits : G → ℕ → T → Type 0) (tag : G) where
  -- Each place has a slot. It is at home with a value where no comer has stopped at the place, and
  -- out with the one that has stopped there; a value at home fits its place.
  pub record AreValues (places : ℕ) (comers : List Comer) (homes : List (home.Option (Option T))) : Type 0 where
    pub slots : length homes ≡ places
    pub home : (p : ℕ) → p < places → NoneStopped comers p → (x : T) × (get_elem? homes p ≡ some (some (Some x)))
    pub out : (a : ℕ) (c : Comer) → slice_get comers a ≡ Some c → c.next ≡ Stopped → get_elem? homes (at c.turns) ≡ some none
    pub fit : (p : ℕ) (x : T) → get_elem? homes p ≡ some (some (Some x)) → fits tag p x

  -- The table stands as this grid: its words are the grid's, its seats are the dealer's, for the
  -- comers still to come, and then those of the comers dealt, in order, and its slots have the
  -- values.
  pub record Shows (ids : List ℕ) (s : State (Option T) (View G)) (g : Grid) : Type 0 where
    pub words : AreWords (place 0 (length ids)) s.words g.last g.door
    pub waiting : List ℕ
    pub dealt : List Comer
    pub comers : g.comers ≡ dealt ++ map comer_of waiting
    pub views : map bare s.views ≡ dealer tag (length ids) waiting ∷ map (seated tag (length ids)) dealt
    pub values : AreValues (place 0 (length ids)) g.comers s.homes

  -- The ids differ, and the table stands as the grid at the end of some run from the opening, with
  -- looks: each seat knows those of its comer, and that each word was then that of its door; and only
  -- a comer that has stopped looks.
  pub record Keeps (ids : List ℕ) (s : State (Option T) (View G)) : Type 0 where
    pub differ : Different ids
    pub moments : List Moment
    pub shows : Shows ids s (run (events_in moments) (opening ids))
    pub looked : (who : ℕ) → looks_of who moments (opening ids) ≡ looks_in s.views (suc who)
    pub stopped : OnlyStoppedLook moments (opening ids)
