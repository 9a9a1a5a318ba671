-- A machine with trail scans goes on by acts.
use Rattle.std.proofs.Common.{◌≡◌, ◌<◌, ◌≤◌, ℕ, inl, inr, List, [], ◌∷◌, ◌++◌, map, length, slice_get, slice_set, slice_index_or, Option, Some, None, Result, Ok, Err, refl, ap, sym, ◌∙◌, subst, arith, Bool, true, false, ◌==◌, cond}
use Rattle.std.proofs.lemmas.Bool.{cases_Bool, cond-true, cond-false, eq-eqb, ne_eqb}
use Rattle.std.proofs.lemmas.List.{length-map, length-set}
use Rattle.std.specs.Prelude.{IfOk, OnErr}
use Rattle.std.proofs.Math.Logic.{∥∥₁_elim}
use Rattle.std.proofs.Props.{props}
use Rattle.split_core.specs.Places.{place}
use Rattle.split_core.specs.Comer.{comer_of, is_stopped}
use Rattle.split_core.specs.Grid.{Grid, Event, run, opening}
use Rattle.split_core.specs.Calls.{position_of, comer_with, seen_of}
use Rattle.split_core.specs.Trail.{Spot, spot, Trail, trail_start, led_to, follows}
use Rattle.split_core.specs.Trails.{Trailed, Act, Takes, BeginsTrail, FollowsTrail, events_in, reads_trail, begins_trail, begun_by, does, does_all, trail_opening}
use Rattle.split_core.specs.TrailReads.{trail_by}
use Rattle.split_core.specs.TrailCalls.{is_done, trail_now, ahead_seen, trail_seen, begun_seen, act_seen, taken, home_for, home_call, trail_for, trail_act}
use Rattle.split_core.specs.Tracker.{IsTracker, Stores, ReadsNext, Tracks, AreTrackers, no_tracker}
use Rattle.split_core.specs.Stored.{EndsAs, SomeRun}
use Rattle.split_core.specs.Machine.{Stands, CallGoesOn}
use Rattle.split_core.specs.TrailMachine.{CallActsOn, ActIsRefused}
use Rattle.split_core.specs.declared.machine.Machine.{Machine}
use Rattle.split_core.specs.declared.trail_machine.TrailMachine.{TrailMachine}
use Rattle.split_core.specs.declared.model.Comer.{Comer}
use Rattle.split_core.specs.declared.model.Next.{Next}
use Rattle.split_core.specs.declared.model.Next.TheVariants.{WriteLast, ReadDoor, CloseDoor, ReadLast, Stopped}
use Rattle.split_core.specs.declared.places.TheConstants.{MAX_COMERS}
use Rattle.split_core.specs.declared.seen.Seen.{Seen}
use Rattle.split_core.specs.declared.seen.Seen.TheVariants as seen
use Rattle.split_core.specs.declared.seen.StepError.{StepError}
use Rattle.split_core.specs.declared.seen.StepError.TheVariants.{NotStopped}
use Rattle.split_core.specs.declared.tracker.Tracker.{Tracker}
use Rattle.split_core.specs.declared.walker.Walker.{Walker}
use Rattle.split_core.proofs.Collects.{length_run}
use Rattle.split_core.proofs.Lists.{get_set, get_map}
use Rattle.split_core.proofs.TrailReads.{reads_last}
use Rattle.split_core.proofs.TrailRuns.{grid_is}
use Rattle.split_core.proofs.Trackers.{none_lawful, stores_none}

-- one act more
pub does_last : (acts : List Act) (a : Act) (s : Trailed) → does_all (acts ++ a ∷ []) s ≡ does a (does_all acts s)
does_last [] a s = refl
does_last (b ∷ acts) a s = does_last acts a (does b s)

pub takes_last : (acts : List Act) (e : Event) → events_in (acts ++ Takes e ∷ []) ≡ events_in acts ++ e ∷ []
takes_last [] e = refl
takes_last (Takes x ∷ acts) e = ap (λ es. x ∷ es) (takes_last acts e)
takes_last (BeginsTrail who ∷ acts) e = takes_last acts e
takes_last (FollowsTrail who ∷ acts) e = takes_last acts e

pub begins_last : (acts : List Act) (who : ℕ) → events_in (acts ++ BeginsTrail who ∷ []) ≡ events_in acts
begins_last [] who = refl
begins_last (Takes x ∷ acts) who = ap (λ es. x ∷ es) (begins_last acts who)
begins_last (BeginsTrail w ∷ acts) who = begins_last acts who
begins_last (FollowsTrail w ∷ acts) who = begins_last acts who

pub follows_last : (acts : List Act) (who : ℕ) → events_in (acts ++ FollowsTrail who ∷ []) ≡ events_in acts
follows_last [] who = refl
follows_last (Takes x ∷ acts) who = ap (λ es. x ∷ es) (follows_last acts who)
follows_last (BeginsTrail w ∷ acts) who = follows_last acts who
follows_last (FollowsTrail w ∷ acts) who = follows_last acts who

-- how many comers there are
pub comers_of : (ids : List ℕ) (es : List Event) → length (run es (opening ids)).comers ≡ length ids
comers_of ids es = length_run es (opening ids) ∙ length-map ids comer_of

pub count_of : (ids : List ℕ) (es : List Event) (last : List ℕ) (doors : List Bool) (walkers : List Walker) → EndsAs ids es last doors walkers → length walkers ≡ length ids
count_of ids es last doors walkers end = ap length end.agrees.comers ∙ (length-map (run es (opening ids)).comers _ ∙ comers_of ids es)

pub count_stays : (last last' : List ℕ) (doors doors' : List Bool) (walkers walkers' : List Walker) → ∥ SomeRun last doors walkers ∥₁
    → ((ids : List ℕ) (es : List Event) → EndsAs ids es last doors walkers → (es' : List Event) × EndsAs ids es' last' doors' walkers')
    → length walkers' ≡ length walkers
count_stays last last' doors doors' walkers walkers' now on =
    ∥∥₁_elim now (search props) (λ z. let k = on z.0 z.1 z.2 in count_of z.0 k.0 last' doors' walkers' k.1 ∙ sym (count_of z.0 z.1 last doors walkers z.2))

-- a door of the grid
pub door_is : (ids : List ℕ) (es : List Event) (last : List ℕ) (doors : List Bool) (walkers : List Walker) → EndsAs ids es last doors walkers
    → (p : ℕ) → p < length doors → slice_index_or doors p false ≡ ((run es (opening ids)).door p == 1)
door_is ids es last doors walkers end p l = end.agrees.closed p l

pub door_within : (ids : List ℕ) (es : List Event) (last : List ℕ) (doors : List Bool) (walkers : List Walker) → EndsAs ids es last doors walkers
    → (p : ℕ) → p < place 0 (length ids) → p < length doors
door_within ids es last doors walkers end p l = omega (arith, l, end.agrees.door_room, ap (place 0) (count_of ids es last doors walkers end))

-- the next door of a trail scan
module _ (n : ℕ) (door : ℕ → ℕ) (words : List ℕ) (row column : ℕ) (rest : List Spot) (next : (trail_by n words).ahead ≡ spot row column ∷ rest) where
  abbrev z : Trail
  z = trail_by n words

  abbrev word : ℕ
  word = door (place row column)

  pub follows_word : follows n door z.ahead z ≡ trail_by n (words ++ word ∷ [])
  follows_word = ap (λ ps. follows n door ps z) next ∙ (sym (ap (λ ps. follows n (λ _. word) ps z) next) ∙ sym (reads_last n trail_start words word))

  pub read_next_is : (after : Tracker) (p : ℕ) (closed over : Bool) → p ≡ place row column → closed ≡ (word == 1) → Stores n after (trail_by n (words ++ word ∷ []))
      → ((y : Trail) → Stores n after y → over ≡ is_done y.ahead) → ReadsNext n door z after (seen.Door p closed over)
  read_next_is after p closed over at told st ends = record {
    stores = subst (λ y. Stores n after y) (sym follows_word) st;
    shown =
        let e : over ≡ is_done (led_to n (spot row column) word rest) =
        ends (trail_by n (words ++ word ∷ [])) st ∙ (ap (λ (y : Trail). is_done y.ahead) (sym follows_word) ∙ ap (λ ps. is_done (follows n door ps z).ahead) next) in
        ap (ahead_seen n door) next ∙ cc;
  }

-- the trail by words goes on as one by words
pub by_words : (n : ℕ) (door : ℕ → ℕ) (words : List ℕ) (ps : List Spot) → (trail_by n words).ahead ≡ ps → (more : List ℕ) × (follows n door ps (trail_by n words) ≡ trail_by n more)
by_words n door words [] e = (words, refl)
by_words n door words (p ∷ rest) e = (words ++ door (place p.row p.column) ∷ [], ap (λ ps. follows n door ps (trail_by n words)) (sym e) ∙ follows_word n door words p.row p.column rest e)

-- who has stopped
home_next : (s : Grid) (who k : ℕ) (c : Comer) (m : Next) → c.next ≡ m → slice_get s.comers k ≡ Some c
    → ◌≡◌ {A = Result ℕ StepError} (cond (is_stopped m) (Ok k) (Err NotStopped)) (Ok who)
    → (x : Comer) × (slice_get s.comers who ≡ Some x) × (x.next ≡ Stopped)
home_next s who k c Stopped q e h = (let same : k ≡ who = cc in (c, subst (λ j. slice_get s.comers j ≡ Some c) same e, q))
home_next s who k c WriteLast q e h = absurd (cc)
home_next s who k c ReadDoor q e h = absurd (cc)
home_next s who k c CloseDoor q e h = absurd (cc)
home_next s who k c ReadLast q e h = absurd (cc)

home_in : (s : Grid) (who k : ℕ) (o : Option Comer) → slice_get s.comers k ≡ o → home_for k o ≡ Ok who → (x : Comer) × (slice_get s.comers who ≡ Some x) × (x.next ≡ Stopped)
home_in s who k None e h = absurd (cc)
home_in s who k (Some c) e h = home_next s who k c c.next refl e h

pub home_stopped : (s : Grid) (id who : ℕ) → home_call s id ≡ Ok who → (x : Comer) × (slice_get s.comers who ≡ Some x) × (x.next ≡ Stopped)
home_stopped s id who h = home_in s who (position_of id s.comers) (comer_with s id) refl h

begins_reads : (m : Next) (s : Trailed) (who : ℕ) → m ≡ Stopped → begins_trail m s who ≡ reads_trail trail_start s who
begins_reads Stopped s who q = refl
begins_reads WriteLast s who q = absurd (cc)
begins_reads ReadDoor s who q = absurd (cc)
begins_reads CloseDoor s who q = absurd (cc)
begins_reads ReadLast s who q = absurd (cc)

-- the trail scan to which the next door belongs
pub now_over : (z : Trail) → true ≡ is_done z.ahead → trail_now z ≡ trail_start
now_over z e = cond-true (is_done z.ahead) trail_start z (sym e)

pub now_on : (z : Trail) → false ≡ is_done z.ahead → trail_now z ≡ z
now_on z e = cond-false (is_done z.ahead) trail_start z (sym e)

now_by : (n : ℕ) (words : List ℕ) → (more : List ℕ) × (trail_now (trail_by n words) ≡ trail_by n more)
now_by n words = elim (cases_Bool (is_done (trail_by n words).ahead)) [
  | inl t ↦ ([], now_over (trail_by n words) (sym t))
  | inr f ↦ (words, now_on (trail_by n words) (sym f))
]

-- The call reads the next door of the trail scan to which that belongs.
pub record Reading (ids : List ℕ) (acts : List Act) (call : Result Act StepError) (who : ℕ) (z : Trail) : Type 0 where
  pub act : Act
  pub made : call ≡ Ok act
  pub does : does act (does_all acts (trail_opening ids)) ≡ reads_trail z (does_all acts (trail_opening ids)) who
  pub shown : act_seen (does_all acts (trail_opening ids)) act ≡ trail_seen (does_all acts (trail_opening ids)).grid z.ahead
  pub events : events_in (acts ++ act ∷ []) ≡ events_in acts

module _ (ids : List ℕ) (acts : List Act) (id who : ℕ) (home : home_call (does_all acts (trail_opening ids)).grid id ≡ Ok who) where
  abbrev s : Trailed
  s = does_all acts (trail_opening ids)

  call_is : trail_act s id ≡ Ok (cond (is_done (s.trail who).ahead) (BeginsTrail who) (FollowsTrail who))
  call_is = ap (trail_for s) home

  pub reading : Reading ids acts (trail_act s id) who (trail_now (s.trail who))
  reading = elim (cases_Bool (is_done (s.trail who).ahead)) [
    | inl t ↦
        let at = home_stopped s.grid id who home in
        subst (λ z. Reading ids acts (trail_act s id) who z) (sym (now_over (s.trail who) (sym t))) (record {
          act = BeginsTrail who;
          made = call_is ∙ ap (λ b. Ok (cond b (BeginsTrail who) (FollowsTrail who))) t;
          does = ap (λ o. begun_by o s who) at.1 ∙ begins_reads at.0.next s who at.2;
          shown = ap (λ o. begun_seen o s.grid) at.1 ∙ ap (λ (m : Next). cond (is_stopped m) (trail_seen s.grid trail_start.ahead) None) at.2;
          events = begins_last acts who;
        })
    | inr f ↦
        subst (λ z. Reading ids acts (trail_act s id) who z) (sym (now_on (s.trail who) (sym f))) (record {
          act = FollowsTrail who;
          made = call_is ∙ ap (λ b. Ok (cond b (BeginsTrail who) (FollowsTrail who))) f;
          does = refl;
          shown = refl;
          events = follows_last acts who;
        })
  ]

  -- what was read, and what is stored then
  module _ (trackers : List Tracker) (tracked : (a : ℕ) (t : Tracker) → slice_get trackers a ≡ Some t → Tracks (length ids) t (s.trail a)) (t : Tracker) (there : slice_get trackers who ≡ Some t)
      (after : Tracker) (told : Seen) (grid : s.grid ≡ run (events_in acts) (opening ids))
      (reads : (words : List ℕ) → trail_now (s.trail who) ≡ trail_by (length ids) words → ReadsNext (length ids) (run (events_in acts) (opening ids)).door (trail_by (length ids) words) after told) where
    abbrev many : ℕ
    many = length ids

    abbrev now : Trail
    now = trail_now (s.trail who)

    size : length s.grid.comers ≡ many
    size = ap (λ (x : Grid). length x.comers) grid ∙ comers_of ids (events_in acts)

    read_now : ReadsNext many s.grid.door now after told
    read_now =
        let k = tracked who t there in
        let by = reads k.words k.is in
        subst (λ y. ReadsNext many s.grid.door y after told) (sym k.is) (subst (λ (x : Grid). ReadsNext many x.door (trail_by many k.words) after told) (sym grid) by)

    pub was_shown : act_seen s reading.act ≡ Some told
    was_shown = reading.shown ∙ (ap (λ m. ahead_seen m s.grid.door now.ahead) size ∙ read_now.shown)

    own : Tracks many after (follows (length s.grid.comers) s.grid.door now.ahead now)
    own =
        let k = tracked who t there in
        let by = by_words many s.grid.door k.words (trail_by many k.words).ahead refl in
        let same : follows (length s.grid.comers) s.grid.door now.ahead now ≡ trail_by many by.0 =
        ap (λ m. follows m s.grid.door now.ahead now) size ∙ (ap (λ (y : Trail). follows many s.grid.door y.ahead y) k.is ∙ by.1) in
        let later = now_by many by.0 in
        record {
          stores = subst (λ m. Stores many after (follows m s.grid.door now.ahead now)) (sym size) read_now.stores;
          words = later.0;
          is = ap trail_now same ∙ later.1;
        }

    -- who reads is at `who`
    after_read : (a : ℕ) (x : Tracker) → slice_get (slice_set trackers who after) a ≡ Some x → Tracks many x ((reads_trail now s who).trail a)
    after_read a x h = elim (get_set trackers who a after x h) [
      | inl e ↦ subst (λ y. Tracks many y ((reads_trail now s who).trail a)) (sym e.1)
          (subst (λ y. Tracks many after y) (sym (cond-true (a == who) _ (s.trail a) (eq-eqb a who e.0))) own)
      | inr ne ↦ subst (λ y. Tracks many x y) (sym (cond-false (a == who) (follows (length s.grid.comers) s.grid.door now.ahead now) (s.trail a) (ne_eqb a who ne.0))) (tracked a x ne.1)
    ]

    pub then_tracked : (a : ℕ) (x : Tracker) → slice_get (slice_set trackers who after) a ≡ Some x → Tracks many x ((does_all (acts ++ reading.act ∷ []) (trail_opening ids)).trail a)
    then_tracked a x h = subst (λ (y : Trailed). Tracks many x (y.trail a)) (sym (does_last acts reading.act (trail_opening ids) ∙ reading.does)) (after_read a x h)

-- at the opening no trail scan was begun
pub none_tracked : (ids : List ℕ) (a : ℕ) (t : Tracker) → slice_get (map (λ _. no_tracker) ids) a ≡ Some t → t ≡ no_tracker
none_tracked ids a t h = (get_map (λ _. no_tracker) ids a t h).2

pub opening_tracked : (ids : List ℕ) (a : ℕ) (t : Tracker) → slice_get (map (λ _. no_tracker) ids) a ≡ Some t → Tracks (length ids) t ((trail_opening ids).trail a)
opening_tracked ids a t h = subst (λ x. Tracks (length ids) x ((trail_opening ids).trail a)) (sym (none_tracked ids a t h)) (record { stores = stores_none (length ids); words = []; is = refl })

opening_lawful : (ids : List ℕ) → 0 < length ids → length ids ≤ MAX_COMERS → AreTrackers (length ids) (map (λ _. no_tracker) ids)
opening_lawful ids some few = record {
  counted = length-map ids (λ _. no_tracker);
  lawful = λ a t h. subst (λ x. IsTracker (length ids) x) (sym (none_tracked ids a t h)) (none_lawful (length ids) some few);
}

pub opening_trails : (ids : List ℕ) (trackers : List Tracker) → trackers ≡ map (λ _. no_tracker) ids → (a : ℕ) (t : Tracker) → slice_get trackers a ≡ Some t → Tracks (length ids) t ((trail_opening ids).trail a)
opening_trails ids trackers e a t h = opening_tracked ids a t (subst (λ ts. slice_get ts a ≡ Some t) e h)

pub opening_trackers : (ids : List ℕ) (trackers : List Tracker) (m : ℕ) → trackers ≡ map (λ _. no_tracker) ids → m ≡ length ids → 0 < length ids → length ids ≤ MAX_COMERS → AreTrackers m trackers
opening_trackers ids trackers m e counted some few = subst (λ (k : ℕ). AreTrackers k trackers) (sym counted) (subst (λ ts. AreTrackers (length ids) ts) (sym e) (opening_lawful ids some few))

-- an event of the grid
module _ (ids : List ℕ) (acts : List Act) (call : Grid → ℕ → Result Event StepError) (id : ℕ) (e : Event) (told : Seen) where
  pub takes_call : call (run (events_in acts) (opening ids)) id ≡ Ok e → taken (call (does_all acts (trail_opening ids)).grid id) ≡ Ok (Takes e)
  takes_call made = ap taken (ap (λ g. call g id) (grid_is acts (trail_opening ids)) ∙ made)

  pub takes_shown : seen_of (run (events_in acts) (opening ids)) e ≡ Some told → act_seen (does_all acts (trail_opening ids)) (Takes e) ≡ Some told
  takes_shown shown = ap (λ g. seen_of g e) (grid_is acts (trail_opening ids)) ∙ shown

pub takes_refused : (ids : List ℕ) (acts : List Act) (call : Grid → ℕ → Result Event StepError) (id : ℕ) (why : StepError)
    → call (run (events_in acts) (opening ids)) id ≡ Err why → taken (call (does_all acts (trail_opening ids)).grid id) ≡ Err why
takes_refused ids acts call id why refused = ap taken (ap (λ g. call g id) (grid_is acts (trail_opening ids)) ∙ refused)

pub takes_tracks : (ids : List ℕ) (acts : List Act) (e : Event) (a : ℕ) (t : Tracker) → Tracks (length ids) t ((does_all acts (trail_opening ids)).trail a)
    → Tracks (length ids) t ((does_all (acts ++ Takes e ∷ []) (trail_opening ids)).trail a)
takes_tracks ids acts e a t k = subst (λ (y : Trailed). Tracks (length ids) t (y.trail a)) (sym (does_last acts (Takes e) (trail_opening ids))) k

pub trackers_set : (n who : ℕ) (trackers : List Tracker) (t : Tracker) → AreTrackers n trackers → IsTracker n t → AreTrackers n (slice_set trackers who t)
trackers_set n who trackers t k lawful = record {
  counted = length-set trackers who t ∙ k.counted;
  lawful = λ a x h. elim (get_set trackers who a t x h) [ inl e ↦ subst (λ y. IsTracker n y) (sym e.1) lawful | inr ne ↦ k.lawful a x ne.1 ];
}

module _ {A : Type 0} where
  -- a call of the grid leaves as many comers
  pub still_tracked : (call : Grid → ℕ → Result Event StepError) (id : ℕ) (r : Result Seen StepError) (old new : Machine A) (trackers : List Tracker)
      → IfOk r (λ told. CallGoesOn call id old told new) → OnErr r (new ≡ old) → AreTrackers (length old.walkers.items) trackers → AreTrackers (length new.walkers.items) trackers
  still_tracked call id (Ok told) old new trackers on same k =
      let counted = count_stays old.last.items new.last.items old.doors.items new.doors.items old.walkers.items new.walkers.items old.stands (λ ids es end. let go = on ids es end in (es ++ go.event ∷ [], go.stands)) in
      subst (λ n. AreTrackers n trackers) (sym counted) k
  still_tracked call id (Err why) old new trackers on same k = subst (λ (m : Machine A). AreTrackers (length m.walkers.items) trackers) (sym same) k

  tracked_once : (g : Machine A) (trackers : List Tracker) → IsProp (AreTrackers (length g.walkers.items) trackers)
  tracked_once g trackers = hlevel props

  -- one with the same grid is the same
  pub unchanged : (m : TrailMachine A) (g : Machine A) → g ≡ m.grid → (k : AreTrackers (length g.walkers.items) m.trackers.items) → record { grid = g; trackers = m.trackers; tracked = k } ≡ m
  unchanged m g e =
      subst (λ (x : Machine A). (k : AreTrackers (length x.walkers.items) m.trackers.items) → record { grid = x; trackers = m.trackers; tracked = k } ≡ m) (sym e)
      (λ k. ap (λ (q : AreTrackers (length m.grid.walkers.items) m.trackers.items). record { grid = m.grid; trackers = m.trackers; tracked = q }) (tracked_once m.grid m.trackers.items k m.tracked))

  -- the call took an event
  pub takes_on : (call : Grid → ℕ → Result Event StepError) (id : ℕ) (told : Seen) (old new : TrailMachine A) → CallGoesOn call id old.grid told new.grid → new.trackers.items ≡ old.trackers.items
      → CallActsOn (λ s who. taken (call s.grid who)) id old told new
  takes_on call id told old new on same ids acts end =
      let go = on ids (events_in acts) end.grid in
      record {
        act = Takes go.event;
        made = takes_call ids acts call id go.event told go.made;
        shown = takes_shown ids acts call id go.event told go.shown;
        stands = record {
          grid = subst (λ es. Stands ids es new.grid) (sym (takes_last acts go.event)) go.stands;
          trails = λ a t h. takes_tracks ids acts go.event a t (end.trails a t (subst (λ ts. slice_get ts a ≡ Some t) same h));
        };
      }

  -- a tracker is fit for its grid
  pub lawful_at : (m : TrailMachine A) (who n : ℕ) (t : Tracker) → n ≡ length m.trackers.items → slice_get m.trackers.items who ≡ Some t → IsTracker n t
  lawful_at m who n t counted h = subst (λ k. IsTracker k t) (sym (counted ∙ m.tracked.counted)) (m.tracked.lawful who t h)

  -- the call followed a trail
  pub follows_on : (id who n : ℕ) (t now after : Tracker) (told : Seen) (old new : TrailMachine A) → ((ids : List ℕ) (es : List Event) → Stands ids es old.grid → Ok who ≡ home_call (run es (opening ids)) id)
      → n ≡ length old.trackers.items → slice_get old.trackers.items who ≡ Some t → ((z : Trail) → Stores n t z → Stores n now (trail_now z))
      → ((ids : List ℕ) (es : List Event) (words : List ℕ) → Stands ids es old.grid → length ids ≡ n → Stores n now (trail_by n words) → ReadsNext n (run es (opening ids)).door (trail_by n words) after told)
      → new.grid ≡ old.grid → new.trackers.items ≡ slice_set old.trackers.items who after → CallActsOn trail_act id old told new
  follows_on id who n t now after told old new home counted there stores reads same_grid same ids acts end =
      let grid = grid_is acts (trail_opening ids) in
      let at : home_call (does_all acts (trail_opening ids)).grid id ≡ Ok who = ap (λ g. home_call g id) grid ∙ sym (home ids (events_in acts) end.grid) in
      let size : n ≡ length ids = counted ∙ (old.tracked.counted ∙ count_of ids (events_in acts) old.grid.last.items old.grid.doors.items old.grid.walkers.items end.grid) in
      let tracks : Tracks n t ((does_all acts (trail_opening ids)).trail who) = subst (λ m. Tracks m t ((does_all acts (trail_opening ids)).trail who)) (sym size) (end.trails who t there) in
      let read : (words : List ℕ) → trail_now ((does_all acts (trail_opening ids)).trail who) ≡ trail_by (length ids) words
      → ReadsNext (length ids) (run (events_in acts) (opening ids)).door (trail_by (length ids) words) after told =
      subst (λ m. (words : List ℕ) → trail_now ((does_all acts (trail_opening ids)).trail who) ≡ trail_by m words → ReadsNext m (run (events_in acts) (opening ids)).door (trail_by m words) after told) size
      (λ words is. reads ids (events_in acts) words end.grid (sym size) (subst (λ z. Stores n now z) is (stores ((does_all acts (trail_opening ids)).trail who) tracks.stores))) in
      let r = reading ids acts id who at in
      record {
        act = r.act;
        made = r.made;
        shown = was_shown ids acts id who at old.trackers.items end.trails t there after told grid read;
        stands = record {
          grid = subst (λ es. Stands ids es new.grid) (sym r.events) (subst (λ (g : Machine A). Stands ids (events_in acts) g) (sym same_grid) end.grid);
          trails = λ a x h. then_tracked ids acts id who at old.trackers.items end.trails t there after told grid read a x (subst (λ ts. slice_get ts a ≡ Some x) same h);
        };
      }

  pub trail_refused : (id : ℕ) (why : StepError) (old : TrailMachine A) → ((ids : List ℕ) (es : List Event) → Stands ids es old.grid → Err why ≡ home_call (run es (opening ids)) id) → ActIsRefused trail_act id old why
  trail_refused id why old home ids acts end = ap (trail_for (does_all acts (trail_opening ids))) (ap (λ g. home_call g id) (grid_is acts (trail_opening ids)) ∙ sym (home ids (events_in acts) end.grid))
