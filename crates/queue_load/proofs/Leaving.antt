-- What a queue leaves that is closed with the members of all workers of a load.
use Rattle.std.proofs.Common.{◌≡◌, ℕ, suc, ◌<◌, Bool, false, IsTrue, List, [], ◌∷◌, length, map, get_or, slice_get, Some, refl, arith}
use Rattle.std.specs.List.{All, AllByRecursion}
use Rattle.std.proofs.lemmas.List.Elements.{All-map}
use Rattle.std.proofs.lemmas.Option.{slice_get-get_or}
use Rattle.pq_types.specs.Asked.{Line}
use Rattle.pq_types.specs.History.{IsLegal}
use Rattle.pq_book.specs.Book.{Volume}
use Rattle.desk_core.specs.CallLines.{IsLineOf, CallsAreLines}
use Rattle.desk_core.specs.Calls.{calls_of}
use Rattle.desk_core.specs.Rule.{StartsWith}
use Rattle.desk_core.specs.declared.model.Call.{Call}
use Rattle.flat_queue.specs.Closing.{ClosesAll}
use Rattle.flat_queue.specs.Members.{QueueName, Joined}
use Rattle.program_words.specs.declared.plan.Plan.{Plan}
use Rattle.queue_load.specs.Audit.{Reports}
use Rattle.queue_load.specs.Load.{AreDone, AreMembers, IsTotal, StandIn, HaveExactly, LeavesFirst, known_then}
use Rattle.queue_load.specs.Tally.{tally_of, all_together}
use Rattle.queue_load.specs.declared.report.Report.{Report}
use Rattle.queue_load.specs.declared.tally.Tally.{Tally}
use Rattle.queue_load.specs.declared.worker.EndedWorker.{EndedWorker}
use Rattle.queue_load.proofs.AddingUp.{adds_up}
use Rattle.queue_load.proofs.Members.{are_members, first_member}

-- the calls that a journal has of a place stand in it
own_calls : CallsAreLines → (place : ℕ) (journal : List Line) (mine : List Call) → calls_of place journal ≡ mine → AllByRecursion (IsLineOf journal place) mine
own_calls lines place journal mine e = all mine (lines place journal mine e)
  where
    all : (calls : List Call) → ((i : ℕ) (c : Call) → slice_get calls i ≡ Some c → IsLineOf journal place c) → AllByRecursion (IsLineOf journal place) calls
    all [] f = tt
    all (c ∷ cs) f = (f 0 c refl, all cs (λ i x at. f (suc i) x at))

-- where there is a worker, there is a first one
pub first_of_some : {X : Type 0} (xs : List X) → 0 < length xs → (x : X) × (slice_get xs 0 ≡ Some x)
first_of_some [] some = absurd (omega (arith, some))
first_of_some (x ∷ xs) some = (x, refl)

-- all these members are of the queue, and none leads
pub all_of_queue : {S P : Type 0} {wide : Bool} (queue : QueueName) (plan : Plan) (worked : List (EndedWorker S P)) → AreDone wide queue plan worked
    → All (λ (m : Joined). m.queue ≡ queue) (map (λ (w : EndedWorker S P). w.member) worked)
all_of_queue queue plan worked done =
    All-map (λ (m : Joined). m.queue ≡ queue) (λ (w : EndedWorker _ _). w.member) worked
    (λ i d within. (done i (get_or worked i d) (slice_get-get_or worked i d within)).queue_is)

pub all_lead_not : {S P : Type 0} {wide : Bool} (queue : QueueName) (plan : Plan) (worked : List (EndedWorker S P)) → AreDone wide queue plan worked
    → All (λ (m : Joined). m.pen.leading ≡ false) (map (λ (w : EndedWorker S P). w.member) worked)
all_lead_not queue plan worked done =
    All-map (λ (m : Joined). m.pen.leading ≡ false) (λ (w : EndedWorker _ _). w.member) worked
    (λ i d within. (done i (get_or worked i d) (slice_get-get_or worked i d within)).leads_not)

module _ {S P : Type 0} {wide : Bool} (queue : QueueName) (plan : Plan) (worked : List (EndedWorker S P)) (book : Volume) (done : AreDone wide queue plan worked)
    (closes : ClosesAll queue (map (λ (w : EndedWorker S P). w.member) worked) book) where
  abbrev members : List Joined
  members = map (λ (w : EndedWorker S P). w.member) worked

  made : AreMembers wide queue plan members
  made = are_members queue plan worked done

  -- each worker's place has exactly its calls
  pub has_exactly : HaveExactly book.journal members
  has_exactly i m at = closes.idle i m at (made i m at).idle

  -- which stand on the lines of their numbers
  pub calls_stand : CallsAreLines → StandIn book.journal members
  calls_stand lines i m at = own_calls lines m.pen.place book.journal m.pen.mine (has_exactly i m at)

  -- the first worker's are its requests
  pub leaves_first : (w : EndedWorker S P) → slice_get worked 0 ≡ Some w → LeavesFirst wide queue.room plan w.member book
  leaves_first w at =
      let here = first_member worked w at in
      record { room_is = closes.home.room_is; calls = has_exactly 0 w.member here; requests = (made 0 w.member here).requests }

  -- and the audit is ok
  pub audit_is_ok : (w : EndedWorker S P) → slice_get worked 0 ≡ Some w → (t : Tally) → t ≡ all_together (map (λ (m : Joined). tally_of m.pen.mine) members)
      → IsTotal wide plan.workers plan t → (r : Report) → Reports plan t book.journal r → IsTrue r.audit
  audit_is_ok w at t added total r told =
      let legal : IsLegal book.journal = (closes.knows 0 w.member (first_member worked w at)).legal in
      told.audit.1 (adds_up queue plan members book.journal made has_exactly closes.apart closes.only legal t added total r told)

-- the journal begins with what the first worker knew
pub knew_first : {S P : Type 0} (queue : QueueName) (worked : List (EndedWorker S P)) (book : Volume) → ClosesAll queue (map (λ (w : EndedWorker S P). w.member) worked) book
    → StartsWith book.journal (known_then worked)
knew_first queue [] book closes = (book.journal, refl)
knew_first queue (w ∷ ws) book closes = (closes.knows 0 w.member refl).known
