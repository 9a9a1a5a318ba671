-- The workers between two slices, and what the first of them knows of the journal.
use Rattle.std.proofs.Common.{◌≡◌, ℕ, Bool, zero, suc, ◌+◌, ◌<◌, ◌≤◌, ◌⊎◌, List, [], ◌∷◌, length, map, slice_get, slice_set, slice_index_or, Option, Some, refl, sym, ◌∙◌, ap, subst, arith}
use Rattle.desk_core.specs.declared.model.Call.{Call}
use Rattle.announce_board.specs.Tokens.{is_idle}
use Rattle.flat_queue.specs.Members.{QueueName, Joined}
use Rattle.program_words.specs.Lines.{each_of}
use Rattle.queue_load.specs.Load.{AreStates, HaveCome, known_before, known_then}
use Rattle.queue_load.specs.JournalWriter.{GoesOn, StaysIdle}
use Rattle.queue_load.specs.Tally.{tally_of}
use Rattle.queue_load.specs.Watched.{AreOf, IsSliceEnd, StillCome}
use Rattle.queue_load.specs.Worker.{HasCome, StandsAt}
use Rattle.queue_load.specs.declared.journal_writer.JournalWriter.{JournalWriter}
use Rattle.program_words.specs.declared.plan.Plan.{Plan}
use Rattle.queue_load.specs.declared.points.Point.{Point}
use Rattle.queue_load.specs.declared.tally.Tally.{Tally}
use Rattle.queue_load.specs.declared.worker.EndedWorker.{EndedWorker}
use Rattle.queue_load.specs.declared.worker.WorkerState.{WorkerState}
use Rattle.queue_load.specs.declared.worker.WorkerState.TheVariants as state
use Rattle.queue_load.proofs.Failing.{first_end, next_end}
use Rattle.queue_load.proofs.JournalWriting.{goes_trans}
use Rattle.queue_load.proofs.Opening.{image_at}

-- the first of some is the one at the first index
pub first_of : {X : Type 0} (xs : List X) (x : X) → x ≡ slice_index_or xs 0 x → 0 < length xs → slice_get xs 0 ≡ Some x
first_of [] x e some = absurd (omega (arith, some))
first_of (y ∷ ys) x e some = ap Some (sym e)

-- what the first worker knows
pub known_first : {S P : Type 0} (worked : List (EndedWorker S P)) (first : EndedWorker S P) → slice_get worked 0 ≡ Some first → known_then worked ≡ first.member.pen.known
known_first [] first at = absurd (cc)
known_first {S = S} {P = P} (w ∷ ws) first at = let same : w ≡ first = cc in ap (λ (x : EndedWorker S P). x.member.pen.known) same

-- a worker that goes on knows what it knew
pub known_still : {S P : Type 0} (worked : List (EndedWorker S P)) (states : List (WorkerState S P)) → states ≡ map state.Here worked → known_before states ≡ known_then worked
known_still {S = S} {P = P} worked states e = ap known_before e ∙ here worked
  where
    here : (ws : List (EndedWorker S P)) → known_before {S = S} {P = P} (map state.Here ws) ≡ known_then ws
    here [] = refl
    here (w ∷ ws) = refl

-- workers that have come so far may go on
pub may_go_on : {wide : Bool} → {S P : Type 0} (queue : QueueName) (plan : Plan) (made until : ℕ) (worked : List (EndedWorker S P)) (states : List (WorkerState S P)) → HaveCome wide queue plan made worked → states ≡ map state.Here worked → made ≤ until → AreStates wide queue plan until states
may_go_on {wide = wide} {S = S} {P = P} queue plan made until worked states come e more i s at =
    let (w, there, is) = image_at {Y = WorkerState S P} state.Here worked i s (subst (λ xs. slice_get xs i ≡ Some s) e at) in
    let h = come i w there in
    let posts = h.1 in
    subst (λ x. StandsAt wide queue (i + 1) plan until x) is (h.0, omega (arith, posts, more))

-- a worker whose member leads and releases has come as far
come_still : {wide : Bool} → (queue : QueueName) (worker : ℕ) (plan : Plan) (at : Point) (m m' : Joined) (t : Tally) → HasCome wide queue worker plan at m t → StaysIdle m m' → HasCome wide queue worker plan at m' t
come_still {wide = wide} queue worker plan at m m' t h s =
    let j = h.more in
    record {
      before = h.before;
      tally = h.tally;
      whole = h.whole;
      more = record {
        queue_is = s.queue ∙ j.queue_is;
        id = ap (λ c. c.id) s.comer ∙ j.id;
        idle = ap is_idle s.standing ∙ j.idle;
        leads_not = s.leading ∙ j.leads_not;
        posts = s.posts ∙ j.posts;
        requests = ap (map (λ (c : Call). c.operation)) s.mine ∙ j.requests;
        tally_is = j.tally_is ∙ sym (ap tally_of s.mine);
        counted = j.counted;
      };
      within = h.within;
    }

-- so have all where the first one's does so
pub come_after : {wide : Bool} → {S P : Type 0} (queue : QueueName) (before after : List (EndedWorker S P)) (w w' : EndedWorker S P) → slice_get before 0 ≡ Some w → after ≡ slice_set before 0 w' → w'.point ≡ w.point → w'.tally ≡ w.tally → StaysIdle w.member w'.member → StillCome wide queue before after
come_after {wide = wide} queue [] after w w' at e point tally stays = absurd (cc)
come_after {wide = wide} {S = S} {P = P} queue (v ∷ vs) after w w' at e point tally stays = record { come = λ plan until come i x there. told plan until x come i (subst (λ xs. slice_get xs i ≡ Some x) e there) }
  where
    told : (plan : Plan) (until : ℕ) (x : EndedWorker S P) → HaveCome wide queue plan until (v ∷ vs) → (i : ℕ) → slice_get (w' ∷ vs) i ≡ Some x → HasCome wide queue (i + 1) plan x.point x.member x.tally × (x.member.pen.posts ≡ until)
    told plan until x come zero here =
        let same : w' ≡ x = cc in
        let h = come 0 w at in
        subst (λ (y : EndedWorker S P). HasCome wide queue 1 plan y.point y.member y.tally × (y.member.pen.posts ≡ until)) same (
          subst (λ p. HasCome wide queue 1 plan p w'.member w'.tally) (sym point) (subst (λ t. HasCome wide queue 1 plan w.point w'.member t) (sym tally) (come_still queue 1 plan w.point w.member w'.member w.tally h.0 stays)),
          stays.posts ∙ h.1,
        )
    told plan until x come (suc i) here = come (suc i) x here

-- where there is none, none has another
pub come_none : {wide : Bool} → {S P : Type 0} (queue : QueueName) (worked : List (EndedWorker S P)) → StillCome wide queue worked worked
come_none {wide = wide} queue worked = record { come = λ plan until come. come }

-- workers that have come so far are of their queue
pub come_are_of : {wide : Bool} → {S P : Type 0} (queue : QueueName) (plan : Plan) (until : ℕ) (worked : List (EndedWorker S P)) → HaveCome wide queue plan until worked → AreOf queue worked
come_are_of {wide = wide} queue plan until worked come = record { each = λ i w at. let h = (come i w at).0 in h.more.queue_is ∙ h.whole.queue_is }

-- So many requests of each worker have been made, behind some whole slices, and the journal is written as far as it goes.
pub record HaveMadeSlices {S P : Type 0} (wide : Bool) (queue : QueueName) (plan : Plan) (slice made : ℕ) (states : List (WorkerState S P)) (worked : List (EndedWorker S P)) (first writing : JournalWriter) (old new : Option (List ℕ)) : Type 0 where
  pub len : length worked ≡ length states
  pub come : HaveCome wide queue plan made worked
  pub end : IsSliceEnd plan slice made
  pub writes : GoesOn first writing old new (known_before states) (known_then worked)

module _ {S P : Type 0} (queue : QueueName) (plan : Plan) (slice : ℕ) (states : List (WorkerState S P)) (first : JournalWriter) (old : Option (List ℕ)) where
  -- the first slice is made
  pub first_made : {wide : Bool} → (made : ℕ) (worked : List (EndedWorker S P)) (writing : JournalWriter) (new : Option (List ℕ)) → length worked ≡ length states → HaveCome wide queue plan made worked
      → (made ≡ each_of plan) ⊎ ((made ≡ 0 + slice) × (made < each_of plan)) → GoesOn first writing old new (known_before states) (known_then worked)
      → HaveMadeSlices wide queue plan slice made states worked first writing old new
  first_made {wide = wide} made worked writing new len come end writes = record { len = len; come = come; end = first_end plan slice made end; writes = writes }

  -- and another one
  pub next_made : {wide : Bool} → (made until : ℕ) (worked worked' : List (EndedWorker S P)) (writing writing' : JournalWriter) (mid new : Option (List ℕ)) → HaveMadeSlices wide queue plan slice made states worked first writing old mid → made < each_of plan
      → length worked' ≡ length worked → HaveCome wide queue plan until worked' → (until ≡ each_of plan) ⊎ ((until ≡ made + slice) × (until < each_of plan))
      → GoesOn writing writing' mid new (known_then worked) (known_then worked')
      → HaveMadeSlices wide queue plan slice until states worked' first writing' old new
  next_made {wide = wide} made until worked worked' writing writing' mid new h more len come end writes =
      record {
        len = len ∙ h.len;
        come = come;
        end = next_end plan slice made until h.end more end;
        writes = goes_trans first writing writing' old mid new (known_before states) (known_then worked) (known_then worked') h.writes writes;
      }
