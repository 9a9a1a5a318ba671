-- A look at a door keeps the rule, and is one moment more of the run.
use Rattle.std.proofs.Common.{◌≡◌, ◌≢◌, ℕ, zero, suc, ◌<◌, ◌==◌, inl, inr, List, [], ◌∷◌, ◌++◌, length, map, slice_set, slice_index, Option, refl, ap}
use Rattle.std.proofs.Common.{sym, ◌∙◌, subst, arith, append-nil, if◌then◌else◌}
use Rattle.std.proofs.lemmas.Bool.{cases_eq, eq-eqb, ne_eqb}
use mathlib.Core.Option.{some, some-injective}
use lib.ListN.{get_elem?}
use lib.Seq.{map-set}
use Rattle.atomic_table.specs.Table.{State, Me, keeps, Allows}
use Rattle.atomic_table.proofs.Lists.{at_map}
use Rattle.split_core.specs.Splitter.{WaysClosed}
use Rattle.split_core.specs.Grid.{Grid, Event, Has, Different, run, opening}
use Rattle.split_core.specs.declared.model.Next.TheVariants.{Stopped}
use Rattle.split_core.specs.declared.walker.Walker.{Walker}
use Rattle.split_grid.specs.Words.{door_at}
use Rattle.split_grid.specs.DoorLooks.{Moment, LooksAt, events_in, look, looks_of, OnlyStoppedLook, HasLooked}
use Rattle.split_grid.specs.Rule.{comer_in, bare, looks_in, Shows, Keeps}
use Rattle.split_grid.specs.Tokens.{Resting, Rests, scan_at}
use Rattle.atomic_table.specs.Seated.{TableId}
use Rattle.split_grid.specs.Trails.{SeesDoor, LooksOnce}
use Rattle.split_grid.specs.declared.rule.View.{View}
use Rattle.split_grid.proofs.Boards.{Seat, seat_of, has, size, unwritten, events_same, looks_more, looks_mine, looks_set, looks_else, stopped_looks}

-- an element that is put where it stands
set_same : {X : Type 0} → (xs : List X) (i : ℕ) (x : X) → get_elem? xs i ≡ some x → slice_set xs i x ≡ xs
set_same [] i x e = refl
set_same (y ∷ ys) zero x e = ap (λ q. q ∷ ys) (sym (some-injective y x e))
set_same (y ∷ ys) (suc i) x e = ap (λ l. y ∷ l) (set_same ys i x e)

module _ {T G : Type 0} (fits : G → ℕ → T → Type 0) (tag : G) (ids : List ℕ) (s : State (Option T) (View G)) (k : Keeps fits tag ids s)
    (id : ℕ) (v : View G) (there : get_elem? s.views id ≡ some v) (f : Seat tag (length ids) k.shows.dealt id v)
    (stopped : (comer_in v).next ≡ Stopped) (p : ℕ) (within : p < size fits tag ids) where
  abbrev g : Grid
  g = run (events_in k.moments) (opening ids)

  abbrev word : ℕ
  word = slice_index s.words (door_at p)

  abbrev then_is : View G
  then_is = record v { looks = v.looks ++ look p word ∷ [] }

  abbrev longer : List Moment
  longer = k.moments ++ LooksAt f.who p ∷ []

  abbrev after : State (Option T) (View G)
  after = record { words = slice_set s.words (door_at p) word; homes = s.homes; views = slice_set s.views id then_is }

  door_is : word ≡ g.door p
  door_is = k.shows.words.doors p within

  shows_on : Shows fits tag ids after g
  shows_on = record {
    words = unwritten (size fits tag ids) s.words g.last g.door k.shows.words (door_at p);
    waiting = k.shows.waiting;
    dealt = k.shows.dealt;
    comers = k.shows.comers;
    views = map-set bare s.views id then_is ∙ (set_same (map bare s.views) id (bare v) (at_map bare s.views id v there) ∙ k.shows.views);
    values = k.shows.values;
  }

  -- the looks of that seat's comer, before and now
  mine : looks_of f.who k.moments (opening ids) ≡ v.looks
  mine = looks_mine fits tag ids s k id v there f

  mine_now : looks_in (slice_set s.views id then_is) (suc f.who) ≡ then_is.looks
  mine_now = ap (looks_in (slice_set s.views id then_is)) (sym f.seat) ∙ looks_set s.views id v then_is there

  abbrev Joined : ℕ → Type 0
  Joined who =
      looks_of who k.moments (opening ids) ++ (if f.who == who then look p (g.door p) ∷ [] else []) ≡ looks_in (slice_set s.views id then_is) (suc who)

  joined_mine : Joined f.who
  joined_mine =
      ap (λ b. looks_of f.who k.moments (opening ids) ++ (if b then look p (g.door p) ∷ [] else [])) (eq-eqb f.who f.who refl)
      ∙ (ap (λ l. l ++ look p (g.door p) ∷ []) mine ∙ (ap (λ d. v.looks ++ look p d ∷ []) (sym door_is) ∙ sym mine_now))

  joined_other : (who : ℕ) → f.who ≢ who → Joined who
  joined_other who ne =
      ap (λ b. looks_of who k.moments (opening ids) ++ (if b then look p (g.door p) ∷ [] else [])) (ne_eqb f.who who ne)
      ∙ (append-nil (looks_of who k.moments (opening ids))
      ∙ (k.looked who ∙ sym (looks_else s.views id (suc who) then_is (λ e. let q : suc who ≡ suc f.who = e ∙ f.seat in ne (omega (arith, q))))))

  looked_on : (who : ℕ) → looks_of who longer (opening ids) ≡ looks_in (slice_set s.views id then_is) (suc who)
  looked_on who =
      looks_more who k.moments f.who p (opening ids)
      ∙ elim (cases_eq f.who who) [ inl e ↦ subst Joined e joined_mine | inr ne ↦ joined_other who ne ]

  only_stopped : OnlyStoppedLook longer (opening ids)
  only_stopped = stopped_looks k.moments f.who p (opening ids) k.stopped (comer_in v) (has fits tag ids s g k.shows id v f) stopped

  pub kept : Keeps fits tag ids after
  kept = record {
    differ = k.differ;
    moments = longer;
    shows = subst (λ es. Shows fits tag ids after (run es (opening ids))) (sym (events_same k.moments f.who p)) shows_on;
    looked = looked_on;
    stopped = only_stopped;
  }

  pub ran : HasLooked v.comers (comer_in v) then_is.looks
  ran = record {
    ids = ids;
    differ = k.differ;
    counted = sym (ap (λ (u : View G). u.comers) f.view);
    moments = longer;
    who = f.who;
    stands = subst (λ es. Has (run es (opening ids)) f.who (comer_in v)) (sym (events_same k.moments f.who p)) (has fits tag ids s g k.shows id v f);
    looked = looked_on f.who ∙ mine_now;
    stopped = only_stopped;
  }

module _ {T G : Type 0} (fits : G → ℕ → T → Type 0) (tag : G) (ids : List ℕ)
    (closed : (ids : List ℕ) (events : List Event) → Different ids → WaysClosed (run events (opening ids)))
    (slots id : ℕ) (m : Me (Option T) (View G)) (w : Walker) (h : Rests slots m w) where
  next_is : (comer_in m.0).next ≡ Stopped
  next_is = ap (λ (x : Walker). x.next) (sym h.stored) ∙ h.stopped

  pub sees : (p : ℕ) → p < size fits tag ids
      → Allows (Keeps fits tag ids) slots id m (door_at p) (λ n. n) (λ word after. (q : ℕ) → door_at p ≡ door_at q → SeesDoor q m word after)
  sees p within s k long there small =
      let f = seat_of tag (length ids) k.shows.waiting k.shows.dealt s.views id m.0 k.shows.views there h.dealt in
      let at_seat = has fits tag ids s (run (events_in k.moments) (opening ids)) k.shows id m.0 f in (
        then_is fits tag ids s k id m.0 there f next_is p within,
        keeps,
        tt,
        kept fits tag ids s k id m.0 there f next_is p within,
        λ q e. subst (λ r. SeesDoor r m (slice_index s.words (door_at p)) (then_is fits tag ids s k id m.0 there f next_is p within, m.1)) e record {
          looks = refl;
          run = ran fits tag ids s k id m.0 there f next_is p within;
          way = λ on.
              let shut = closed ids (events_in k.moments) k.differ f.who (comer_in m.0) at_seat p (elim on [ inl l ↦ inl l | inr q ↦ inr (q, next_is) ]) in
              k.shows.words.doors p within ∙ shut;
        },
      )

module _ {S G : Type 0} (p word : ℕ) (m m' : Me S (View G)) (w : Walker) (k : SeesDoor p m word m') where
  -- the seat is still that of a comer that has stopped
  pub still_rests : (slots : ℕ) → Rests slots m w → Rests slots m' w
  still_rests slots h = subst (λ x. Rests slots x w) (sym k.looks) record {
    dealt = h.dealt;
    stored = h.stored;
    stopped = h.stopped;
    few = h.few;
    sized = h.sized;
    inside = h.inside;
    counted = h.counted;
    room = h.room;
    next = h.next;
    ended = h.ended;
  }

  -- what a contract sees of it
  abbrev seen_as : TableId → Me S (View G) → Resting G
  seen_as table x = record {
    table = table;
    tag = x.0.tag;
    comers = x.0.comers;
    comer = comer_in x.0;
    scan = scan_at w.cursor.doors (comer_in x.0);
    looks = x.0.looks;
  }

  pub looked_once : (table table' : TableId) (s : Resting G) → seen_as table m ≡ s → table' ≡ table → LooksOnce s (look p word) (seen_as table' m')
  looked_once table table' s is same =
      ap (seen_as table') k.looks
      ∙ (ap (λ t. record (seen_as t m) { looks = m.0.looks ++ look p word ∷ [] }) same
      ∙ ap (λ (x : Resting G). record x { looks = x.looks ++ look p word ∷ [] }) is)
