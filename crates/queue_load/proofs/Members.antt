-- The members of workers that have made all their requests, and their tallies.
use Rattle.std.proofs.Common.{◌≡◌, ℕ, Bool, zero, suc, ◌+◌, List, [], ◌∷◌, length, map, slice_get, Some, refl, ◌∙◌, ap, subst}
use Rattle.std.proofs.lemmas.List.{length-map}
use Rattle.flat_queue.specs.Members.{QueueName, Joined}
use Rattle.queue_load.specs.Load.{AreDone, AreMembers, AreAnswered}
use Rattle.queue_load.specs.Tally.{tally_of, all_together}
use Rattle.queue_load.specs.Worker.{HasMade}
use Rattle.program_words.specs.declared.plan.Plan.{Plan}
use Rattle.queue_load.specs.declared.tally.Tally.{Tally}
use Rattle.queue_load.specs.declared.worker.EndedWorker.{EndedWorker}

module _ {S P : Type 0} where
  abbrev member : EndedWorker S P → Joined
  member w = w.member

  -- the member at an index is that of the worker there
  member_at : (worked : List (EndedWorker S P)) (i : ℕ) (m : Joined) → slice_get (map member worked) i ≡ Some m → (w : EndedWorker S P) × (slice_get worked i ≡ Some w) × (w.member ≡ m)
  member_at [] zero m h = absurd (cc)
  member_at [] (suc i) m h = absurd (cc)
  member_at (w ∷ ws) zero m h = (w, refl, cc)
  member_at (w ∷ ws) (suc i) m h = member_at ws i m h

  -- the first member is that of the first worker
  pub first_member : (worked : List (EndedWorker S P)) (w : EndedWorker S P) → slice_get worked 0 ≡ Some w → slice_get (map member worked) 0 ≡ Some w.member
  first_member [] w h = absurd (cc)
  first_member (x ∷ xs) w h = cc

  -- each tally is that of its member's calls
  tallies_are : (worked : List (EndedWorker S P)) → ((i : ℕ) (w : EndedWorker S P) → slice_get worked i ≡ Some w → w.tally ≡ tally_of w.member.pen.mine)
      → map (λ (w : EndedWorker S P). w.tally) worked ≡ map (λ (m : Joined). tally_of m.pen.mine) (map member worked)
  tallies_are [] h = refl
  tallies_are (w ∷ ws) h = ap (λ t. t ∷ map (λ (x : EndedWorker S P). x.tally) ws) (h 0 w refl) ∙ ap (λ ts. tally_of w.member.pen.mine ∷ ts) (tallies_are ws (λ i x at. h (suc i) x at))

  pub are_members : {wide : Bool} → (queue : QueueName) (plan : Plan) (worked : List (EndedWorker S P)) → AreDone wide queue plan worked → AreMembers wide queue plan (map member worked)
  are_members {wide = wide} queue plan worked done i m at =
      let (w, there, same) = member_at worked i m at in
      let made = done i w there in
      subst (λ (x : Joined). HasMade wide queue (i + 1) plan plan.rounds x (tally_of x.pen.mine)) same (subst (λ (t : Tally). HasMade wide queue (i + 1) plan plan.rounds w.member t) made.tally made)

  pub are_answered : {wide : Bool} → (queue : QueueName) (plan : Plan) (worked : List (EndedWorker S P)) (t : Tally) → AreDone wide queue plan worked → t ≡ all_together (map (λ (w : EndedWorker S P). w.tally) worked)
      → AreAnswered wide (length worked) plan (map member worked) t
  are_answered {wide = wide} queue plan worked t done e =
      record {
        queue = queue;
        made = are_members queue plan worked done;
        count = length-map worked member;
        added = e ∙ ap all_together (tallies_are worked (λ i w at. (done i w at).tally));
      }
