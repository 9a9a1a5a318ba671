-- What a look comes to, in its one or two steps.
use Rattle.std.proofs.Common.{◌≡◌, ◌≢◌, ℕ, ◌⊎◌, inl, inr, ⊎_elim, true, false, true≢false, ◌++◌, refl, ap, sym, ◌∙◌, subst}
use Rattle.std.specs.Prelude.{Option, Some, None}
use Rattle.pq_types.specs.Item.{Item}
use Rattle.pq_types.specs.Asked.{Request}
use Rattle.pq_types.specs.Asked.{Reply}
use Rattle.pq_types.specs.declared.answer.Reply.TheVariants as reply
use Rattle.pq_types.specs.Asked.{Answer}
use Rattle.pq_types.specs.declared.answer.Answer.TheVariants as answer
use Rattle.pq_types.specs.declared.control.Outcome.{Outcome}
use Rattle.pq_types.specs.declared.control.Outcome.TheVariants as outcome
use Rattle.pq_types.specs.declared.control.Notice.{Notice}
use Rattle.pq_types.specs.declared.control.Notice.TheVariants as notice
use Rattle.pq_types.specs.declared.control.Control.{Control}
use Rattle.pq_types.specs.declared.control.Control.TheVariants.{Nothing, Posted, Answered}
use Rattle.pq_types.specs.Control.{answer_item, answer_with, notice_of, notice_has_item, posted, answered, is_answer, Carries}
use Rattle.desk_core.specs.Beyond.{IsBeyond}
use Rattle.desk_core.specs.Calls.{gained}
use Rattle.desk_core.specs.Desk.{Desk}
use Rattle.desk_core.specs.Pen.{after_look}
use Rattle.desk_core.specs.declared.model.Standing.TheVariants.{Idle, Waiting}
use Rattle.desk_core.specs.declared.model.Duty.TheVariants.{Active}
use Rattle.desk_core.specs.declared.model.PenState.{PenState}
use Rattle.desk_core.specs.declared.model.View.TheVariants.{Holder}
use Rattle.announce_board.specs.Rule.{Seated}
use Rattle.announce_board.specs.Steps.{pen_at, StandsAt}
use Rattle.announce_board.specs.ItemWords.{taken_by}
use Rattle.announce_board.specs.Asking.{notice_in, answer_in, taken_if, seen_by, IsAnswerTo, IsAboveAll, IsFullFor, LooksBy}
use Rattle.announce_board.specs.Loads.{LoadsOwn, TakesOwn}
use Rattle.announce_board.specs.Told.{WaiterIsTold, WaitersAreTold}

-- an answer, by its notice and its item
with_notice : (a : Answer) (x : Item) → Carries (answer_item a) x → answer_with (notice_of a) x ≡ a
with_notice (answer.Entered n reply.Pushed) x h = refl
with_notice (answer.Entered n (reply.Got y)) x h = ap (λ z. answer.Entered n (reply.Got z)) h
with_notice (answer.Entered n (reply.Least y)) x h = ap (λ z. answer.Entered n (reply.Least z)) h
with_notice (answer.Entered n reply.Empty) x h = refl
with_notice answer.BookFull x h = refl
with_notice answer.NoMemory x h = refl
with_notice (answer.Refused why) x h = refl

-- without an item, whatever stands in the cell
any_item : (n : Notice) (x y : Item) → notice_has_item n ≡ false → answer_with n x ≡ answer_with n y
any_item (notice.Entered n outcome.Pushed) x y h = refl
any_item (notice.Entered n outcome.Got) x y h = absurd (true≢false h)
any_item (notice.Entered n outcome.Least) x y h = absurd (true≢false h)
any_item (notice.Entered n outcome.Empty) x y h = refl
any_item notice.BookFull x y h = refl
any_item notice.NoMemory x y h = refl
any_item (notice.Refused why) x y h = refl

-- the control that tells BookFull, and that of an entered answer
full_there : (c : Control) (cell : Item) → answer_in c cell ≡ Some answer.BookFull → c ≡ answered answer.BookFull
full_there Nothing cell e = absurd (cc e)
full_there (Posted s k) cell e = absurd (cc e)
full_there (Answered (notice.Entered l o)) cell e = absurd (cc e)
full_there (Answered notice.BookFull) cell e = refl
full_there (Answered notice.NoMemory) cell e = absurd (cc e)
full_there (Answered (notice.Refused why)) cell e = absurd (cc e)

entered_there : (c : Control) (cell : Item) (number : ℕ) (reply : Reply) → answer_in c cell ≡ Some (answer.Entered number reply)
    → (o : Outcome) × (c ≡ Answered (notice.Entered number o))
entered_there Nothing cell number reply e = absurd (cc e)
entered_there (Posted s k) cell number reply e = absurd (cc e)
entered_there (Answered (notice.Entered l o)) cell number reply e =
    let f : l ≡ number = cc in (o, ap (λ n. Answered (notice.Entered n o)) f)
entered_there (Answered notice.BookFull) cell number reply e = absurd (cc e)
entered_there (Answered notice.NoMemory) cell number reply e = absurd (cc e)
entered_there (Answered (notice.Refused why)) cell number reply e = absurd (cc e)

module _ (words : ℕ) (p : PenState) (request : Request) (cell : Item) (now : ℕ) where
  idle_seen : (n : Notice) → (seen_by words p request (Answered n) cell now).standing ≡ Idle None
  idle_seen (notice.Entered n outcome.Pushed) = refl
  idle_seen (notice.Entered n outcome.Got) = refl
  idle_seen (notice.Entered n outcome.Least) = refl
  idle_seen (notice.Entered n outcome.Empty) = refl
  idle_seen notice.BookFull = refl
  idle_seen notice.NoMemory = refl
  idle_seen (notice.Refused why) = refl

  mine_seen : (n : Notice) → (seen_by words p request (Answered n) cell now).mine ≡ p.mine ++ gained p.posts request (answer_with n cell)
  mine_seen (notice.Entered n outcome.Pushed) = refl
  mine_seen (notice.Entered n outcome.Got) = refl
  mine_seen (notice.Entered n outcome.Least) = refl
  mine_seen (notice.Entered n outcome.Empty) = refl
  mine_seen notice.BookFull = refl
  mine_seen notice.NoMemory = refl
  mine_seen (notice.Refused why) = refl

  standing_seen : (c : Control) → p.standing ≡ Waiting request → answer_in c cell ≡ None → ((seen_by words p request c cell now).standing ≡ p.standing) × ((seen_by words p request c cell now).mine ≡ p.mine)
  standing_seen Nothing w e = (sym w, refl)
  standing_seen (Posted s k) w e = (sym w, refl)
  standing_seen (Answered n) w e = absurd (cc e)

  told_seen : (c : Control) (a : Answer) → answer_in c cell ≡ Some a → ((n : Notice) → c ≡ Answered n → IsAnswerTo p.room request (answer_with n cell))
      → IsAnswerTo p.room request a × ((seen_by words p request c cell now).standing ≡ Idle None) × ((seen_by words p request c cell now).mine ≡ p.mine ++ gained p.posts request a)
  told_seen Nothing a e h = absurd (cc e)
  told_seen (Posted s k) a e h = absurd (cc e)
  told_seen (Answered n) a e h =
      let f : answer_with n cell ≡ a = cc in
      (subst (IsAnswerTo p.room request) f (h n refl), idle_seen n, mine_seen n ∙ ap (λ b. p.mine ++ gained p.posts request b) f)

  looks : (c : Control) (result : Option Answer) (p' : PenState) → p.standing ≡ Waiting request → (c ≡ posted p.posts request) ⊎ (is_answer c ≡ true) → (is_answer p.own ≡ true → c ≡ p.own)
      → result ≡ answer_in c cell → p' ≡ seen_by words p request c cell now → ((n : Notice) → c ≡ Answered n → IsAnswerTo p.room request (answer_with n cell))
      → ((l : ℕ) (o : Outcome) → c ≡ Answered (notice.Entered l o) → IsAboveAll l p.mine)
      → ((l : ℕ) (o : Outcome) → c ≡ Answered (notice.Entered l o) → IsBeyond p l)
      → (IsFullFor p → (l : ℕ) (o : Outcome) → c ≢ Answered (notice.Entered l o)) → LooksBy words p result p'
  looks c result p' waited found known tells next fits behind beyond bars = record {
    request = request;
    waited = waited;
    control = c;
    cell = cell;
    found = found;
    known = known;
    answer = tells;
    now = now;
    next = next;
    waits = λ e. subst (λ (q : PenState). (q.standing ≡ p.standing) × (q.mine ≡ p.mine)) (sym next) (standing_seen c waited (sym tells ∙ e));
    told = λ a e. subst (λ (q : PenState). IsAnswerTo p.room request a × (q.standing ≡ Idle None) × (q.mine ≡ p.mine ++ gained p.posts request a)) (sym next) (told_seen c a (sym tells ∙ e) fits);
    behind = λ number reply e. let t = entered_there c cell number reply (sym tells ∙ e) in behind number t.0 t.1;
    beyond = λ number reply e. let t = entered_there c cell number reply (sym tells ∙ e) in beyond number t.0 t.1;
    barred = λ f number reply e. let t = entered_there c cell number reply (sym tells ∙ e) in bars f number t.0 t.1;
    full = λ e.
        let is : c ≡ answered answer.BookFull = full_there c cell (sym tells ∙ e) in
        ap (λ (q : PenState). q.told_full) (next ∙ ap (λ k. seen_by words p request k cell now) is);
  }

-- a notice other than NoMemory tells another answer
other_answer : (n : Notice) (x : Item) → Some n ≢ Some notice.NoMemory → answer_with n x ≢ answer.NoMemory
other_answer (notice.Entered l o) x ne e = absurd (cc e)
other_answer notice.BookFull x ne e = absurd (cc e)
other_answer notice.NoMemory x ne e = ne refl
other_answer (notice.Refused why) x ne e = absurd (cc e)

pub told_other : (n : Notice) (x : Item) (a : Answer) → Some n ≢ Some notice.NoMemory → a ≡ answer_with n x → Some a ≢ Some answer.NoMemory
told_other n x a ne e f = let g : a ≡ answer.NoMemory = cc in other_answer n x ne (sym e ∙ g)

-- the pen of a seat that became this one, which acts
pub pen_is : (before after : Seated) (p : PenState) → after ≡ (Holder p, before.1) → pen_at after ≡ record p { duty = Active }
pen_is before after p e = let f : Seated → PenState = pen_at in ap f e

answer_found : (d : Desk) (p : PenState) (request : Request) → WaiterIsTold d p request → (d.control p.place ≡ posted p.posts request) ⊎ (is_answer (d.control p.place) ≡ true)
answer_found d p request t = ⊎_elim (λ u. inl u.0) (λ u. inr (ap is_answer u.1)) t.found

same_notice_of : (n : Notice) (a : Answer) → Answered n ≡ answered a → notice_of a ≡ n
same_notice_of n a e = cc

-- an answer that stands in the record of a waiting pen
answer_there : (d : Desk) (p : PenState) (request : Request) (n : Notice) → WaiterIsTold d p request → d.control p.place ≡ Answered n → IsAnswerTo p.room request (answer_with n (d.item p.place))
answer_there d p request n t e =
    ⊎_elim
    (λ u. let f : Answered n ≡ posted p.posts request = sym e ∙ u.0 in absurd (cc f))
    (λ u.
    let f : notice_of u.0 ≡ n = same_notice_of n u.0 (sym e ∙ u.1) in
    subst (IsAnswerTo p.room request) (sym (with_notice u.0 (d.item p.place) u.3) ∙ ap (λ m. answer_with m (d.item p.place)) f) u.2)
    t.found

no_notice : (c : Control) (cell : Item) → None ≡ notice_in c → None ≡ answer_in c cell
no_notice Nothing cell e = refl
no_notice (Posted s k) cell e = refl
no_notice (Answered n) cell e = absurd (cc e)

pub notice_is : (n : Notice) (c : Control) → Some n ≡ notice_in c → c ≡ Answered n
notice_is n Nothing e = absurd (cc e)
notice_is n (Posted s k) e = absurd (cc e)
notice_is n (Answered m) e = let f : n ≡ m = cc in ap Answered (sym f)

seen_none : (words : ℕ) (p : PenState) (request : Request) (c : Control) (cell : Item) (now : ℕ) → None ≡ notice_in c → after_look p request c now ≡ seen_by words p request c cell now
seen_none words p request Nothing cell now e = refl
seen_none words p request (Posted s k) cell now e = refl
seen_none words p request (Answered n) cell now e = absurd (cc e)

-- a look that finds an answer with an item is no act yet
any_time : (p : PenState) (q : Request) (n : Notice) (now then : ℕ) → notice_has_item n ≡ true → after_look p q (Answered n) now ≡ after_look p q (Answered n) then
any_time p q (notice.Entered l outcome.Pushed) now then e = absurd (true≢false (sym e))
any_time p q (notice.Entered l outcome.Got) now then e = refl
any_time p q (notice.Entered l outcome.Least) now then e = refl
any_time p q (notice.Entered l outcome.Empty) now then e = absurd (true≢false (sym e))
any_time p q notice.BookFull now then e = absurd (true≢false (sym e))
any_time p q notice.NoMemory now then e = absurd (true≢false (sym e))
any_time p q (notice.Refused why) now then e = absurd (true≢false (sym e))

module _ (words : ℕ) (told : WaitersAreTold) where
  told_at : (d : Desk) (p : PenState) (request : Request) → StandsAt d p → p.standing ≡ Waiting request → WaiterIsTold d p request
  told_at d p request s waits = told d s.seat p s.meets s.has request waits

  pub looks_none : (before after : Seated) → LoadsOwn before None after → LooksBy words (pen_at before) None (pen_at after)
  looks_none before after h =
      let p = pen_at before in
      let d = h.looked.desk in
      let t = told_at d p h.request h.looked.stands h.waited in
      let cell = d.item p.place in
      looks words p h.request cell h.looked.now (d.control p.place) None (pen_at after) h.waited (answer_found d p h.request t) t.own (no_notice (d.control p.place) cell h.notice)
      (pen_is before after (after_look p h.request (d.control p.place) h.looked.now) h.looked.next ∙ seen_none words p h.request (d.control p.place) cell h.looked.now h.notice)
      (λ n e. answer_there d p h.request n t e) t.behind t.beyond t.barred

  pub looks_plain : (before after : Seated) (n : Notice) (x : Item) → LoadsOwn before (Some n) after → notice_has_item n ≡ false → LooksBy words (pen_at before) (Some (answer_with n x)) (pen_at after)
  looks_plain before after n x h plain =
      let p = pen_at before in
      let d = h.looked.desk in
      let t = told_at d p h.request h.looked.stands h.waited in
      let is = notice_is n (d.control p.place) h.notice in
      let cell = d.item p.place in
      looks words p h.request cell h.looked.now (Answered n) (Some (answer_with n x)) (pen_at after) h.waited (inr refl) (λ e. sym is ∙ t.own e) (ap Some (any_item n x cell plain))
      (pen_is before after (after_look p h.request (d.control p.place) h.looked.now) h.looked.next
      ∙ (ap (λ k. after_look p h.request k h.looked.now) is
      ∙ sym (ap (λ b. taken_if words b (after_look p h.request (Answered n) h.looked.now) h.request n cell h.looked.now) plain)))
      (λ m e. answer_there d p h.request m t (is ∙ e)) (λ l o e. t.behind l o (is ∙ e)) (λ l o e. t.beyond l o (is ∙ e)) (λ f l o e. t.barred f l o (is ∙ e))

  -- the standing and the own control of a pen that has seen an answer with an item
  pub still_waits : (before after : Seated) (n : Notice) → LoadsOwn before (Some n) after → notice_has_item n ≡ true
      → ((request : Request) × ((pen_at before).standing ≡ Waiting request) × ((pen_at after).standing ≡ Waiting request)) × ((pen_at after).own ≡ Answered n)
  still_waits before after n h item =
      let p = pen_at before in
      let d = h.looked.desk in
      let is = notice_is n (d.control p.place) h.notice in
      let next : pen_at after ≡ after_look p h.request (Answered n) h.looked.now =
      pen_is before after (after_look p h.request (d.control p.place) h.looked.now) h.looked.next ∙ ap (λ k. after_look p h.request k h.looked.now) is in
      ((h.request, h.waited, ap (λ (q : PenState). q.standing) next ∙ untold n item), ap (λ (q : PenState). q.own) next)
    where
      untold : (m : Notice) → notice_has_item m ≡ true → (after_look (pen_at before) h.request (Answered m) h.looked.now).standing ≡ Waiting h.request
      untold (notice.Entered l outcome.Pushed) e = absurd (true≢false (sym e))
      untold (notice.Entered l outcome.Got) e = refl
      untold (notice.Entered l outcome.Least) e = refl
      untold (notice.Entered l outcome.Empty) e = absurd (true≢false (sym e))
      untold notice.BookFull e = absurd (true≢false (sym e))
      untold notice.NoMemory e = absurd (true≢false (sym e))
      untold (notice.Refused why) e = absurd (true≢false (sym e))

  pub looks_item : (before between after : Seated) (n : Notice) (x : Item) → LoadsOwn before (Some n) between → notice_has_item n ≡ true → TakesOwn words n between x after
      → LooksBy words (pen_at before) (Some (answer_with n x)) (pen_at after)
  looks_item before between after n x h item k =
      let p = pen_at before in
      let q = pen_at between in
      let d = h.looked.desk in
      let e = k.desk in
      let t = told_at d p h.request h.looked.stands h.waited in
      let is = notice_is n (d.control p.place) h.notice in
      let went = still_waits before between n h item in
      let same : Waiting k.request ≡ Waiting h.request = sym k.waited ∙ (went.0.2 ∙ same_wait went.0.0 (went.0.1)) in
      let request_is : k.request ≡ h.request = cc in
      let u = told_at e q k.request k.stands k.waited in
      let there : e.control q.place ≡ Answered n = u.own (ap is_answer went.1) ∙ went.1 in
      let next : q ≡ after_look p h.request (Answered n) k.now =
      pen_is before between (after_look p h.request (d.control p.place) h.looked.now) h.looked.next
      ∙ (ap (λ c. after_look p h.request c h.looked.now) is ∙ any_time p h.request n h.looked.now k.now item) in
      let room_is : q.room ≡ p.room = ap (λ (o : PenState). o.room) next in
      let asked : IsAnswerTo q.room h.request (answer_with n x) = subst (λ r. IsAnswerTo q.room r (answer_with n x)) request_is (subst (λ y. IsAnswerTo q.room k.request (answer_with n y)) (sym k.item) (answer_there e q k.request n u there)) in
      let fits : IsAnswerTo p.room h.request (answer_with n x) = subst (λ m. IsAnswerTo m h.request (answer_with n x)) room_is asked in
      looks words p h.request x k.now (Answered n) (Some (answer_with n x)) (pen_at after) h.waited (inr refl) (λ f. sym is ∙ t.own f) refl
      (pen_is between after (taken_by words q k.request n x k.now) k.next
      ∙ (ap (λ r. taken_by words q r n x k.now) request_is
      ∙ (ap (λ o. taken_by words o h.request n x k.now) next ∙ sym (ap (λ b. taken_if words b (after_look p h.request (Answered n) k.now) h.request n x k.now) item))))
      (λ m f. let g : n ≡ m = cc in subst (λ y. IsAnswerTo p.room h.request (answer_with y x)) g fits)
      (λ l o f. t.behind l o (is ∙ f)) (λ l o f. t.beyond l o (is ∙ f)) (λ b l o f. t.barred b l o (is ∙ f))
    where
      same_wait : (r : Request) → (pen_at before).standing ≡ Waiting r → Waiting r ≡ Waiting h.request
      same_wait r w = sym w ∙ h.waited
