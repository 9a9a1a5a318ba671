-- What a member does that takes its entry out of those who wait, and looks or pushes, and enters again.
use Rattle.std.proofs.Common.{◌≡◌, ◌∙◌, ℕ, ◌<◌, sym, ap, subst, refl, Bool, List, [], ◌∷◌, length}
use Rattle.std.specs.Prelude.{Option, Some, None, ◌≢◌}
use Rattle.pq_types.specs.Item.{Item}
use Rattle.pq_types.specs.declared.request.Request.TheVariants.{Push, Pop}
use Rattle.pq_types.specs.Asked.{Request, Reply, Answer, Line}
use Rattle.pq_types.specs.Operation.{Asked}
use Rattle.pq_types.specs.declared.answer.Reply.TheVariants.{Got}
use Rattle.pq_types.specs.declared.answer.Answer.TheVariants.{Entered}
use Rattle.pq_types.specs.declared.answer.Answer.TheVariants as answer
use Rattle.pq_types.specs.declared.answer.Refusal.TheVariants.{Full}
use Rattle.pq_types.specs.Queue.{reply_to}
use Rattle.pq_types.specs.History.{Limits, MayDo, left, is_shut}
use Rattle.wait_list.specs.declared.waiter.Waiter.{Waiter}
use Rattle.wait_list.specs.declared.waiter.Wants.{Wants}
use Rattle.wait_list.specs.Waiters.{Change, Leaves, Waits as EntersList}
use Rattle.pq_book.specs.Book.{Volume, limits_of}
use Rattle.leftist_heap.specs.Store.{first_of}
use Rattle.desk_core.specs.Pen.{after_change, after_release, book_in_hand, limits_in_hand}
use Rattle.desk_core.specs.declared.model.PenState.{PenState}
use Rattle.announce_board.specs.Asking.{IsAnswerTo}
use Rattle.announce_board.specs.Serving.{Wins}
use Rattle.flat_queue.specs.Members.{Joined, StaysAtPlace}
use Rattle.flat_queue.specs.OwnRequest.{SweepsWhereBy, ReleasesWith}
use Rattle.flat_queue.specs.Looking.{IsFirstWanted, IsLeft, looked_by, MakesNoRequest}
use Rattle.flat_queue.specs.Looking.{Looked}
use Rattle.flat_queue.specs.declared.looking.Wanted.{Wanted}
use Rattle.flat_queue.specs.declared.looking.Looked.TheVariants as looked
use Rattle.flat_queue.specs.declared.wait_steps.Patience.{Patience}
use Rattle.flat_queue.specs.declared.wait_steps.Entry.{Entry}
use Rattle.flat_queue.specs.declared.wait_steps.Entry.TheVariants.{Out}
use Rattle.flat_queue.specs.declared.wait_steps.RoomWait.{RoomWait}
use Rattle.flat_queue.specs.declared.wait_steps.PushedOr.TheVariants as pushed
use Rattle.flat_queue.specs.WaitSteps.{StandsReady, LeavesAndLeadsBy, LeavesAndCarriesOutBy, LeavesAndWaitsBy, LeavesItThereBy, TakesOrWaitsBy, PushesOrWaitsBy}
use Rattle.flat_queue.specs.WaitSteps.{IsJustFull, entered_for, wants_left, entry_for, room_wants}
use Rattle.flat_queue.proofs.OwnRequests.{is_ready, IsReady}
use Rattle.flat_queue.proofs.Lookings.{releases_none}

-- a leader that changes who waits is ready as it was
changed_ready : (a c d : Joined) (change : Change) → IsReady a c → d ≡ record c { pen = after_change c.pen change } → IsReady a d
changed_ready a c d change h is =
    subst (IsReady a) (sym is)
    record {
      queue = h.queue;
      id = h.id;
      turns = h.turns;
      place = h.place;
      room = h.room;
      posts = h.posts;
      standing = h.standing;
      mine = h.mine;
      begins = h.begins;
      ends = h.ends;
      led_not = h.led_not;
      rest = h.rest;
      hand = h.hand;
      due = h.due;
    }

-- the member that took its entry out leads still, and nothing is due to it
out_ready : (words number : ℕ) (hinted : Bool) (a b c d : Joined) (book : Volume) → StaysAtPlace a b → Wins a.pen book b.pen → SweepsWhereBy words hinted b c
    → d ≡ record c { pen = after_change c.pen (Leaves number) } → IsReady a d
out_ready words number hinted a b c d book stays won sweeps leaves = changed_ready a c d (Leaves number) (is_ready words hinted a b c book stays won sweeps) leaves

leads_ready : (words number : ℕ) (a d : Joined) → LeavesAndLeadsBy words number a d → IsReady a d
leads_ready words number a d h = out_ready words number h.hinted a h.led h.served d h.book h.stays h.won h.sweeps h.leaves

-- so it stands as it stood
pub stands_ready : (words number : ℕ) (a d : Joined) → LeavesAndLeadsBy words number a d → StandsReady a d
stands_ready words number a d h =
    let r = leads_ready words number a d h in
    record { queue = r.queue; room = r.room; posts = r.posts; standing = r.standing; due = r.due }

-- one that enters for this, or for nothing, and releases, makes no request
enters_none : (a c d : Joined) (number : ℕ) (wants : Option Wants) → IsReady a c → d ≡ record c { pen = after_release (entered_for number wants c.pen) } → MakesNoRequest a d
enters_none a c d number None h is = releases_none a c d h is
enters_none a c d number (Some wants) h is =
    let entered : Joined = record c { pen = after_change c.pen (EntersList number wants) } in
    releases_none a entered d (changed_ready a c entered (EntersList number wants) h refl) is

-- so it waits
pub waits_by : (words number : ℕ) (wants : List Waiter → Option Wants) (a c d : Joined) → LeavesAndLeadsBy words number a c
    → d ≡ record c { pen = after_release (entered_for number (wants c.pen.waiters) c.pen) } → LeavesAndWaitsBy words number wants a d
waits_by words number wants a c d leads release =
    record { ready = c; leads = leads; release = release; none = enters_none a c d number (wants c.pen.waiters) (leads_ready words number a c leads) release }

-- what such a look tells is what it leaves there
pub left_waits : (words number : ℕ) (wanted : Wanted) (patience : Patience) (a d : Joined) (told : Looked) (entry : Entry) → LeavesItThereBy words number wanted patience a told entry d
    → TakesOrWaitsBy words number wanted patience a told entry d
left_waits words number wanted patience a d (looked.Taken line x) entry h = absurd h.left_there
left_waits words number wanted patience a d (looked.Stays x) entry h = h
left_waits words number wanted patience a d looked.Nothing entry h = h
left_waits words number wanted patience a d looked.Over entry h = h
left_waits words number wanted patience a d looked.BookFull entry h = absurd h.left_there
left_waits words number wanted patience a d (looked.Refused why) entry h = absurd h.left_there

-- a pop where the first item is wanted takes that out
pop_takes : (words number : ℕ) (wanted : Wanted) (patience : Patience) (a c : Joined) (line : ℕ) (reply : Reply) (xs : List Item) → LeavesAndCarriesOutBy words number a Pop (Entered line reply) c
    → reply ≡ reply_to xs Pop → IsFirstWanted wanted (first_of xs) → TakesOrWaitsBy words number wanted patience a (looked_by (Entered line reply)) Out c
pop_takes words number wanted patience a c line reply [] h is first = absurd first
pop_takes words number wanted patience a c line reply (x ∷ xs) h is first =
    let moved : LeavesAndCarriesOutBy words number a Pop (Entered line (Got x)) c = subst (λ r. LeavesAndCarriesOutBy words number a Pop (Entered line r) c) is h in
    subst (λ r. TakesOrWaitsBy words number wanted patience a (looked_by (Entered line r)) Out c) (sym is) ((moved, refl), first)

-- what a look comes to that made a pop
pub popped_takes : (words number : ℕ) (wanted : Wanted) (patience : Patience) (a c : Joined) (x : Answer) (h : LeavesAndCarriesOutBy words number a Pop x c)
    → (length h.ready.pen.hand < h.ready.pen.room → IsFirstWanted wanted (first_of (left h.ready.pen.hand))) → TakesOrWaitsBy words number wanted patience a (looked_by x) Out c
popped_takes words number wanted patience a c (Entered line reply) h first =
    let may = h.released.may in
    pop_takes words number wanted patience a c line reply (left h.ready.pen.hand) h may.2 (first may.0.space)
popped_takes words number wanted patience a c answer.BookFull h first = (h, refl)
popped_takes words number wanted patience a c answer.NoMemory h first = absurd h.fits
popped_takes words number wanted patience a c (answer.Refused why) h first = (h, refl)

-- the journal that it knows then is the one that it had in its hand
entered_knows : (number : ℕ) (wants : Option Wants) (p : PenState) → (after_release (entered_for number wants p)).known ≡ p.hand
entered_knows number None p = refl
entered_knows number (Some wants) p = refl

-- What such a step comes to whose look leaves this there, by the Book in the leader's hand.
pub waits_told : (words number room : ℕ) (wanted : Wanted) (patience : Patience) (a r d : Joined) (book : Volume) (told : Looked) (wants : Option Wants) (entry : Entry)
    → LeavesAndLeadsBy words number a r → book ≡ book_in_hand r.pen → room ≡ a.queue.room
    → IsLeft wanted (first_of (left book.journal)) (is_shut book.journal) told → length book.journal < room → wants ≡ wants_left patience told book.waiters
    → d ≡ record r { pen = after_release (entered_for number wants r.pen) } → entry ≡ entry_for wants → TakesOrWaitsBy words number wanted patience a told entry d
waits_told words number room wanted patience a r d book told wants entry leads home here there spare is release says =
    let same : wants ≡ wants_left patience told r.pen.waiters = is ∙ ap (λ (v : Volume). wants_left patience told v.waiters) home in
    let released : d ≡ record r { pen = after_release (entered_for number (wants_left patience told r.pen.waiters) r.pen) } =
    release ∙ ap (λ w. record r { pen = after_release (entered_for number w r.pen) }) same in
    let journal : book.journal ≡ r.pen.hand = ap (λ (v : Volume). v.journal) home in
    let knows : d.pen.known ≡ book.journal = ap (λ (m : Joined). m.pen.known) release ∙ (entered_knows number wants r.pen ∙ sym journal) in
    left_waits words number wanted patience a d told entry
    record {
      waits = record {
        ready = r;
        leads = leads;
        release = released;
        none = enters_none a r d number (wants_left patience told r.pen.waiters) (leads_ready words number a r leads) released;
      };
      entry_is = says ∙ ap entry_for same;
      spare = subst (λ n. length d.pen.known < n) here (subst (λ l. length l < room) (sym knows) spare);
      left_there = subst (λ l. IsLeft wanted (first_of (left l)) (is_shut l) told) (sym knows) there;
    }

-- And one whose look found what is wanted, or a full journal, and that made a pop.
pub pops_told : (words number room : ℕ) (wanted : Wanted) (patience : Patience) (a r d : Joined) (book : Volume) (x : Answer) (told : Looked)
    → LeavesAndLeadsBy words number a r → book ≡ book_in_hand r.pen → r.pen.room ≡ room → (length book.journal < room → IsFirstWanted wanted (first_of (left book.journal)))
    → ReleasesWith r Pop x d → IsAnswerTo a.queue.room Pop x → told ≡ looked_by x → TakesOrWaitsBy words number wanted patience a told Out d
pops_told words number room wanted patience a r d book x told leads home here first released fits is =
    let journal : book.journal ≡ r.pen.hand = ap (λ (v : Volume). v.journal) home in
    let carried : LeavesAndCarriesOutBy words number a Pop x d = record { ready = r; leads = leads; released = released; fits = fits } in
    let wants_it : length r.pen.hand < r.pen.room → IsFirstWanted wanted (first_of (left r.pen.hand)) =
    λ some. subst (λ l. IsFirstWanted wanted (first_of (left l))) journal (first (subst (λ n. length book.journal < n) here (subst (λ l. length l < r.pen.room) (sym journal) some))) in
    subst (λ t. TakesOrWaitsBy words number wanted patience a t Out d) (sym is) (popped_takes words number wanted patience a d x carried wants_it)

-- What a push comes to that waits, at a queue that is just full.
pub push_waits : (words number : ℕ) (x : Item) (wait : RoomWait) (a r d : Joined) (book : Volume) (wants : Wants) → LeavesAndLeadsBy words number a r → book ≡ book_in_hand r.pen
    → IsJustFull (limits_of book) book.journal → wants ≡ room_wants wait → d ≡ record r { pen = after_release (entered_for number (Some wants) r.pen) }
    → PushesOrWaitsBy words number x wait a pushed.Waits d
push_waits words number x wait a r d book wants leads home full is release =
    let released : d ≡ record r { pen = after_release (entered_for number (Some (room_wants wait)) r.pen) } =
    release ∙ ap (λ w. record r { pen = after_release (entered_for number (Some w) r.pen) }) is in
    let in_hand : IsJustFull (limits_in_hand r.pen) r.pen.hand = subst (λ (v : Volume). IsJustFull (limits_of v) v.journal) home full in
    (waits_by words number (λ _. Some (room_wants wait)) a r d leads released, subst (λ (m : Joined). IsJustFull (limits_in_hand m.pen) m.pen.known) (sym released) in_hand)

-- And one that was carried out, where it was not just full.
pub push_answered : (words number : ℕ) (x : Item) (wait : RoomWait) (a r d : Joined) (book : Volume) (told : Answer) → LeavesAndLeadsBy words number a r → book ≡ book_in_hand r.pen
    → ¬ IsJustFull (limits_of book) book.journal → ReleasesWith r (Push x) told d → IsAnswerTo a.queue.room (Push x) told
    → PushesOrWaitsBy words number x wait a (pushed.Answered told) d
push_answered words number x wait a r d book told leads home room released fits =
    (record { ready = r; leads = leads; released = released; fits = fits }, subst (λ (v : Volume). ¬ IsJustFull (limits_of v) v.journal) home room)

-- a push that is refused as Full is one that nothing else refuses
just_full : (limits : Limits) (lines : List Line) (x : Item) → MayDo limits lines (Asked (Push x)) (answer.Refused Full) → IsJustFull limits lines
just_full limits lines x may = record { space = may.0; kept = may.1; is_open = may.4 tt; full = may.3 }

-- so one that is made where the queue is not just full is not refused so
pub never_full : (a c : Joined) (x : Item) (told : Answer) → ReleasesWith a (Push x) told c → ¬ IsJustFull (limits_in_hand a.pen) a.pen.hand → told ≢ answer.Refused Full
never_full a c x told h room is =
    room (just_full (limits_in_hand a.pen) a.pen.hand x (subst (MayDo (limits_in_hand a.pen) a.pen.hand (Asked (Push x))) is h.may))
