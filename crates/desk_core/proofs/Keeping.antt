-- The facts of the steps, as the statements of specs/Keeping have them.
use Rattle.std.proofs.Common.{true, ◌≡◌, ℕ, ◌<◌, ◌≤◌, ⊎_elim, List, ap, sym, ◌∙◌, subst, arith}
use Rattle.std.specs.Prelude.{Some}
use Rattle.pq_types.specs.Asked.{Request}
use Rattle.pq_types.specs.Queue.{IsProperRequestOf, IsProperReplyOf, AreItemsOf}
use Rattle.pq_types.specs.Mail.{IsSerial, IsLineNumber, IsProperAnswerOf, IsProperControl}
use Rattle.desk_core.specs.declared.model.Standing.TheVariants.{Waiting}
use Rattle.pq_types.specs.Control.{kind_of, request_item, answered, Carries}
use Rattle.pq_types.specs.History.{left}
use Rattle.pq_types.specs.Asked.{Answer}
use Rattle.pq_types.specs.declared.answer.Answer.TheVariants.{Entered, BookFull, NoMemory, Refused}
use Rattle.pq_types.specs.Asked.{Line}
use Rattle.pq_types.specs.declared.journal.TheConstants.{GREATEST_NUMBER}
use Rattle.desk_core.specs.declared.model.Due.{Due}
use Rattle.desk_core.specs.declared.model.PenState.{PenState}
use Rattle.pq_types.specs.Operation.{Asked}
use Rattle.desk_core.specs.Pen.{IsKept, limits_in_hand}
use Rattle.desk_core.specs.Desk.{Desk, Has}
use Rattle.desk_core.specs.Rule.{MeetsRule}
use Rattle.desk_core.specs.Keeping.{DraftKeeps, PostKeeps, LeadKeeps, MissKeeps, ReadKeeps, ReadItemKeeps, LayItemKeeps, AnswerKeeps, ApplyKeeps, ArchiveKeeps, ChangeKeeps, HandOutKeeps, ReleaseKeeps, ReleaseByKeeps, LookKeeps, SeeItemKeeps, TakeItemKeeps, PensAreSeated, IsNew, DueIsNew}
use Rattle.desk_core.proofs.Loose.{MayTellOf, loosely}
use Rattle.desk_core.proofs.Records.{kept_carries, same_request}
use Rattle.desk_core.proofs.Journals.{QueueLaws}
use Rattle.desk_core.proofs.Views.{same_pen}
use Rattle.desk_core.proofs.StepFacts.{not_both_locks, draft_keeps, post_keeps, lead_keeps, miss_keeps, read_keeps, read_item_keeps, lay_keeps, answer_keeps, apply_keeps, archive_keeps, change_keeps, hand_out_keeps, release_keeps, release_by_keeps, look_keeps, see_keeps, take_keeps, poster, hand_below}

pub draft : DraftKeeps
draft d i p m a x free = (m.0, m.1, draft_keeps d m.0 m.1 m.2 i p a x free)

pub post : PostKeeps
post d i p m a q draft now free few proper drafted = (m.0, m.1, post_keeps d m.0 m.1 m.2 i p a now q draft free few proper drafted)

pub lead : LeadKeeps
lead d i p m a free =
    let t = ⊎_elim (λ t. t.1) (λ t. absurd (not_both_locks d.held free t.0)) m.2.lock in
    (t.book, t.is, t.room_is, (m.0, i, lead_keeps d m.0 m.1 m.2 i p a t.book free t.is))

pub miss : MissKeeps
miss d i p m a = (m.0, m.1, miss_keeps d m.0 m.1 m.2 i p a)

pub read : ReadKeeps
read d i p m a k leads = (m.0, m.1, read_keeps d m.0 m.1 m.2 i p a k leads)

pub read_item : ReadItemKeeps
read_item d i p m a due is_due = (m.0, m.1, read_item_keeps d m.0 m.1 m.2 i p a due is_due)

pub lay : LayItemKeeps
lay d i p m a due x is_due plain = (m.0, m.1, lay_keeps d m.0 m.1 m.2 i p a due x is_due plain)

pub answer : QueueLaws → AnswerKeeps
answer laws d i p m a due q x is_due is_kind known laid may = (_, m.1, answer_keeps d m.0 m.1 m.2 i p a laws due q x is_due is_kind known laid may)

pub apply : QueueLaws → ApplyKeeps
apply laws d i p m a q x now leads free few proper may = (_, m.1, apply_keeps d m.0 m.1 m.2 i p a now laws q x leads free few proper may)

pub hand_out : HandOutKeeps
hand_out d i p m a = (m.0, m.1, hand_out_keeps d m.0 m.1 m.2 i p a)

pub change : ChangeKeeps
change d i p m a c leads = (m.0, m.1, change_keeps d m.0 m.1 m.2 i p a c)

pub archive : ArchiveKeeps
archive d i p m a n leads = (m.0, m.1, archive_keeps d m.0 m.1 m.2 i p a n)

pub release : ReleaseKeeps
release d i p m a leads = (m.0, m.1, release_keeps d m.0 m.1 m.2 i p a leads)

pub release_by : QueueLaws → ReleaseByKeeps
release_by laws d i p m a q x now leads none free few proper may = (_, m.1, release_by_keeps d m.0 m.1 m.2 i p a now laws q x leads none free few proper may)

pub look : LookKeeps
look d i p m a q now waits = (m.0, m.1, look_keeps d m.0 m.1 m.2 i p a now q waits)

pub see : SeeItemKeeps
see d i p m a q waits own = (m.0, m.1, see_keeps d m.0 m.1 m.2 i p a q waits own)

pub take : TakeItemKeeps
take d i p m a q n now waits own = (m.0, m.1, take_keeps d m.0 m.1 m.2 i p a now q n waits own)

-- an answer that a Book may give is proper
may_proper : QueueLaws → (room : ℕ) (hand : List Line) (q : Request) (x : Answer) → room ≤ GREATEST_NUMBER → AreItemsOf true (left hand) → MayTellOf room hand q x
    → IsProperAnswerOf true x × IsProperControl (answered x)
may_proper laws room hand q (Entered l r) small items may =
    let n : IsLineNumber l = (omega (arith, may.1), omega (arith, small, may.0, may.1)) in
    ((n, subst (IsProperReplyOf true) (sym may.2) (laws.reply true (left hand) q items)), n)
may_proper laws room hand q BookFull small items may = (tt, tt)
may_proper laws room hand q NoMemory small items may = (tt, tt)
may_proper laws room hand q (Refused why) small items may = (tt, tt)

-- what is due is a new post, of the pen that waits there for this request
module _ (d : Desk) (i : ℕ) (p : PenState) (m : MeetsRule d) (a : Has d.views i p) (due : Due) (is_due : p.due ≡ Some due) where
  pub who_waits : (q : Request) → kind_of q ≡ due.kind → IsKept (request_item q) due.item
      → (j : ℕ) × (v : PenState) × Has d.views j v × (v.place ≡ due.place) × (v.posts ≡ due.serial) × (v.standing ≡ Waiting q) × IsProperRequestOf true q
  who_waits q is_kind known =
      let t = m.2.due i p a due is_due in
      let o = poster d m.0 m.1 m.2 i p a due.place due.serial due.kind t.1 in
      let v = o.1 in
      let u = o.4 in
      let has : Carries (request_item q) (d.item due.place) = kept_carries (request_item q) due.item (d.item due.place) known t.2 in
      let same : u.request ≡ q = same_request (d.item due.place) u.request q (subst (λ k. Carries (request_item u.request) (d.item k)) o.3 u.item) has (u.kind ∙ sym is_kind) in
      (o.0, v, o.2, o.3, u.serial, u.waits ∙ ap Waiting same, subst (IsProperRequestOf true) same u.proper)

  is_new : QueueLaws → IsNew d p due
  is_new laws =
      let t = m.2.due i p a due is_due in
      let o = poster d m.0 m.1 m.2 i p a due.place due.serial due.kind t.1 in
      let v = o.1 in
      let u = o.4 in
      record {
        inside = subst (λ k. k < d.places) o.3 (m.2.seated.inside o.0 v o.2);
        serial = subst IsSerial u.serial (u.some, (m.2.pens o.0 v o.2).counted);
        above = hand_below d m.0 m.1 m.2 i p a due.place due.serial due.kind t.0 t.1;
        own = λ e.
            (let there : o.0 ≡ i = m.2.seated.apart o.0 i v p o.2 a (o.3 ∙ e) in
            sym u.serial ∙ ap (λ (y : PenState). y.posts) (same_pen d.views i v p (subst (λ n. Has d.views n v) there o.2) a));
        proper = λ q is_kind known. (who_waits q is_kind known).6;
        answers = λ q x may. may_proper laws d.room p.hand q x m.2.room_in_range (subst (λ js. AreItemsOf true (left js)) (sym (m.2.led i p a t.0).2) m.2.lawful.items) (loosely (limits_in_hand p) d.room p.hand (Asked q) x (m.2.pens i p a).told may);
      }

pub due_is_new : QueueLaws → DueIsNew
due_is_new laws d i p m a due is_due = is_new d i p m a due is_due laws

pub seated : PensAreSeated
seated d i p m a = (let k = m.2.pens i p a in record { inside = m.2.seated.inside i p a; room = k.told; posts = k.counted })
