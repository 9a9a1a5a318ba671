-- What a waiting member keeps while it looks and makes rounds, and what its call comes to.
use Rattle.std.proofs.Common.{◌≡◌, ◌∙◌, ℕ, ◌++◌, ⊎_elim, sym, ap, subst, refl, true, false, Bool, List, [], ◌∷◌}
use Rattle.std.specs.Prelude.{Option, Some, None}
use Rattle.std.proofs.lemmas.List.{append-nil, append_assoc}
use Rattle.pq_types.specs.Item.{Item}
use Rattle.pq_types.specs.Asked.{Request, Operation}
use Rattle.pq_types.specs.declared.request.Request.TheVariants.{Push, Pop, Least}
use Rattle.pq_types.specs.Asked.{Answer}
use Rattle.pq_types.specs.declared.answer.Answer.TheVariants.{Entered, BookFull, NoMemory, Refused}
use Rattle.pq_types.specs.declared.control.Notice.{Notice}
use Rattle.pq_types.specs.declared.control.Notice.TheVariants as notice
use Rattle.pq_types.specs.declared.control.Outcome.TheVariants as outcome
use Rattle.pq_types.specs.declared.control.Control.{Control}
use Rattle.pq_types.specs.declared.control.Control.TheVariants.{Nothing, Posted, Answered}
use Rattle.pq_types.specs.Asked.{Line}
use Rattle.pq_types.specs.Control.{notice_has_item}
use Rattle.pq_types.specs.History.{journal_after, journal_by, line_of}
use Rattle.pq_types.specs.Operation.{Asked}
use Rattle.pq_book.specs.Book.{Volume}
use Rattle.desk_core.specs.Calls.{gained}
use Rattle.desk_core.specs.Clauses.{HasNo}
use Rattle.desk_core.specs.Pen.{after_look, after_miss}
use Rattle.desk_core.specs.Rule.{StartsWith}
use Rattle.desk_core.specs.declared.model.PenState.{PenState}
use Rattle.announce_board.specs.Asking.{answer_in, seen_by, taken_if, IsAnswerTo, IsAboveAll, LooksBy}
use Rattle.announce_board.specs.Serving.{ServesWhereBy, found_posted_by, laid_and_answered_by, due_of}
use Rattle.flat_queue.specs.Members.{QueueName, Joined, StaysAtPlace}
use Rattle.flat_queue.specs.Sweeping.{SweepsBy}
use Rattle.flat_queue.specs.TrailSweeping.{MakesTrailRoundBy}
use Rattle.flat_queue.specs.Calling.{StaysMember, WaitsOn, IsTold}
use Rattle.flat_queue.specs.Turns.{TakesBy}
use Rattle.flat_queue.specs.declared.gate.Turn.{Turn}
use Rattle.flat_queue.specs.declared.gate.Turn.TheVariants.{Lead, Look, GiveUp}

pub starts_refl : (journal : List Line) → StartsWith journal journal
starts_refl journal = ([], sym (append-nil journal))

pub starts_trans : (a b c : List Line) → StartsWith a b → StartsWith b c → StartsWith a c
starts_trans a b c (r, e) (s, f) = (s ++ r, e ∙ (ap (λ l. l ++ r) f ∙ append_assoc c s r))

pub starts_by : (journal : List Line) (place serial : ℕ) (operation : Operation) (answer : Answer) → StartsWith (journal_by journal place serial operation answer) journal
starts_by journal place serial operation (Entered number told) = (line_of place serial operation told ∷ [], refl)
starts_by journal place serial operation BookFull = starts_refl journal
starts_by journal place serial operation NoMemory = starts_refl journal
starts_by journal place serial operation (Refused why) = starts_refl journal

pub starts_after : (journal : List Line) (place serial : ℕ) (request : Request) (answer : Answer) → StartsWith (journal_after journal place serial request answer) journal
starts_after journal place serial request answer = starts_by journal place serial (Asked request) answer

-- what an answer makes of the journal in hand
hand_served : (words : ℕ) (p : PenState) (place serial : ℕ) (request : Request) (answer : Answer) (x : Option Item) → (laid_and_answered_by words x (found_posted_by words p place serial request) (due_of place serial request) request answer).hand ≡ journal_after p.hand place serial request answer
hand_served words p place serial (Push y) answer None = refl
hand_served words p place serial (Push y) answer (Some x) = refl
hand_served words p place serial Pop answer None = refl
hand_served words p place serial Pop answer (Some x) = refl
hand_served words p place serial Least answer None = refl
hand_served words p place serial Least answer (Some x) = refl

pub hand_starts : (words : ℕ) (b : Bool) (place : ℕ) (p q : PenState) (book : Volume) → ServesWhereBy words b place p q book → StartsWith q.hand p.hand
hand_starts words true place p q book s =
    subst (λ (z : PenState). StartsWith z.hand p.hand) (sym s.next)
    (subst (λ l. StartsWith l p.hand) (sym (hand_served words p place s.serial s.request s.answer _)) (starts_after p.hand place s.serial s.request s.answer))
hand_starts words false place p q book s = subst (λ (z : PenState). StartsWith z.hand p.hand) (sym s.next) (starts_refl p.hand)

-- while a leader sweeps, the journal in its hand only grows
pub sweeps_start : (words : ℕ) (places : List ℕ) (n : ℕ) (p q : PenState) → SweepsBy words places n p q → StartsWith q.hand p.hand
sweeps_start words [] n p q h = subst (λ (z : PenState). StartsWith z.hand p.hand) (sym h.1) (starts_refl p.hand)
sweeps_start words (place ∷ places) n p q (b, m, book, rest, s, e, more) =
    starts_trans q.hand m.hand p.hand (sweeps_start words places rest m q more) (hand_starts words b place p m book s)

-- what a look leaves of a pen
record KeepsPost (p q : PenState) : Type 0 where
  pub place : q.place ≡ p.place
  pub room : q.room ≡ p.room
  pub posts : q.posts ≡ p.posts
  pub leading : q.leading ≡ p.leading
  pub known : q.known ≡ p.known
  pub begins : q.begins ≡ p.begins

keeps_taken : (words : ℕ) (b : Bool) (p : PenState) (request : Request) (control : Control) (n : Notice) (cell : Item) (now : ℕ) → KeepsPost p (taken_if words b (after_look p request control now) request n cell now)
keeps_taken words true p request control n cell now = record { place = refl; room = refl; posts = refl; leading = refl; known = refl; begins = refl }
keeps_taken words false p request control n cell now = record { place = refl; room = refl; posts = refl; leading = refl; known = refl; begins = refl }

keeps_seen : (words : ℕ) (p : PenState) (request : Request) (control : Control) (cell : Item) (now : ℕ) → KeepsPost p (seen_by words p request control cell now)
keeps_seen words p request Nothing cell now = record { place = refl; room = refl; posts = refl; leading = refl; known = refl; begins = refl }
keeps_seen words p request (Posted serial kind) cell now = record { place = refl; room = refl; posts = refl; leading = refl; known = refl; begins = refl }
keeps_seen words p request (Answered n) cell now = keeps_taken words (notice_has_item n) p request (Answered n) n cell now

looks_keep : (words : ℕ) (p q : PenState) (result : Option Answer) → LooksBy words p result q → KeepsPost p q
looks_keep words p q result h = subst (KeepsPost p) (sym h.next) (keeps_seen words p h.request h.control h.cell h.now)

-- a look that finds no answer ends no call, and one that does ends one
ends_in : (words : ℕ) (p : PenState) (request : Request) (c : Control) (cell : Item) (now : ℕ) → None ≡ answer_in c cell → (seen_by words p request c cell now).ends ≡ p.ends
ends_in words p request Nothing cell now e = refl
ends_in words p request (Posted serial kind) cell now e = refl
ends_in words p request (Answered n) cell now e = absurd (cc e)

none_ended : (words : ℕ) (p q : PenState) → LooksBy words p None q → q.ends ≡ p.ends
none_ended words p q h = ap (λ (z : PenState). z.ends) h.next ∙ ends_in words p h.request h.control h.cell h.now h.answer

ends_by : (words : ℕ) (p : PenState) (request : Request) (n : Notice) (cell : Item) (now : ℕ) → (seen_by words p request (Answered n) cell now).ends ≡ p.ends ++ (p.posts, now) ∷ []
ends_by words p request (notice.Entered l outcome.Pushed) cell now = refl
ends_by words p request (notice.Entered l outcome.Got) cell now = refl
ends_by words p request (notice.Entered l outcome.Least) cell now = refl
ends_by words p request (notice.Entered l outcome.Empty) cell now = refl
ends_by words p request notice.BookFull cell now = refl
ends_by words p request notice.NoMemory cell now = refl
ends_by words p request (notice.Refused why) cell now = refl

ends_with : (words : ℕ) (p : PenState) (request : Request) (c : Control) (cell : Item) (now : ℕ) (x : Answer) → Some x ≡ answer_in c cell → (seen_by words p request c cell now).ends ≡ p.ends ++ (p.posts, now) ∷ []
ends_with words p request Nothing cell now x e = absurd (cc e)
ends_with words p request (Posted serial kind) cell now x e = absurd (cc e)
ends_with words p request (Answered n) cell now x e = ends_by words p request n cell now

one_ended : (words : ℕ) (p q : PenState) (x : Answer) → (h : LooksBy words p (Some x) q) → q.ends ≡ p.ends ++ (p.posts, h.now) ∷ []
one_ended words p q x h = ap (λ (z : PenState). z.ends) h.next ∙ ends_with words p h.request h.control h.cell h.now x h.answer

pub stays_trans : (a b c : Joined) → StaysMember a b → StaysMember b c → StaysMember a c
stays_trans a b c h k =
    record {
      queue = k.queue ∙ h.queue;
      id = k.id ∙ h.id;
      turns = k.turns ∙ h.turns;
      place = k.place ∙ h.place;
      room = k.room ∙ h.room;
      leading = k.leading ∙ h.leading;
      rest = k.rest ∙ h.rest;
      known = starts_trans c.pen.known b.pen.known a.pen.known k.known h.known;
    }

stays_still : (a b : Joined) → StaysAtPlace a b → KeepsPost a.pen b.pen → StaysMember a b
stays_still a b h k =
    record {
      queue = h.queue;
      id = ap (λ x. x.id) h.comer;
      turns = ap (λ x. x.turns) h.comer;
      place = k.place;
      room = k.room;
      leading = k.leading;
      rest = h.rest;
      known = subst (λ l. StartsWith l a.pen.known) (sym k.known) (starts_refl a.pen.known);
    }

pub at_first : (a : Joined) → WaitsOn a a
at_first a =
    record {
      stays = record { queue = refl; id = refl; turns = refl; place = refl; room = refl; leading = refl; rest = refl; known = starts_refl a.pen.known };
      posts = refl;
      standing = refl;
      mine = refl;
      begins = refl;
      ends = refl;
    }

pub waits_trans : (a b c : Joined) → WaitsOn a b → WaitsOn b c → WaitsOn a c
waits_trans a b c h k =
    record { stays = stays_trans a b c h.stays k.stays; posts = k.posts ∙ h.posts; standing = k.standing ∙ h.standing; mine = k.mine ∙ h.mine; begins = k.begins ∙ h.begins; ends = k.ends ∙ h.ends }

-- a look that found no answer
pub looked_on : (words : ℕ) (a b : Joined) → StaysAtPlace a b → LooksBy words a.pen None b.pen → WaitsOn a b
looked_on words a b h k =
    let still = looks_keep words a.pen b.pen None k in
    record { stays = stays_still a b h still; posts = still.posts; standing = (k.waits refl).0; mine = (k.waits refl).1; begins = still.begins; ends = none_ended words a.pen b.pen k }

-- a look that found one
pub looked_up : (words : ℕ) (a b c : Joined) (queue : QueueName) (answer : Answer) → a.queue ≡ queue → b.pen.room ≡ queue.room → WaitsOn a b → StaysAtPlace b c → LooksBy words b.pen (Some answer) c.pen
    → IsTold a answer c
looked_up words a b c queue answer here named w h k =
    let still = looks_keep words b.pen c.pen (Some answer) k in
    let told = k.told answer refl in
    record {
      request = k.request;
      waited = sym w.standing ∙ k.waited;
      stays = stays_trans a b c w.stays (stays_still b c h still);
      posts = still.posts ∙ w.posts;
      standing = told.1;
      mine = told.2 ∙ (ap (λ l. l ++ gained b.pen.posts k.request answer) w.mine ∙ ap (λ n. a.pen.mine ++ gained n k.request answer) w.posts);
      answers = subst (λ room. IsAnswerTo room k.request answer) (named ∙ sym (ap (λ q. q.room) here)) told.0;
      behind = λ number reply e. subst (IsAboveAll number) w.mine (k.behind number reply (ap Some e));
      beyond = λ number reply e knew s none.
          k.beyond number reply (ap Some e) knew (starts_trans b.pen.known a.pen.known knew w.stays.known s)
          (subst (λ n. HasNo knew n b.pen.posts) (sym w.stays.place) (subst (λ n. HasNo knew a.pen.place n) (sym w.posts) none));
      full = λ e. k.full (ap Some e);
      begins = still.begins ∙ w.begins;
      ended = k.now;
      ends = one_ended words b.pen c.pen answer k ∙ (ap (λ (l : List (ℕ × ℕ)). l ++ (b.pen.posts, k.now) ∷ []) w.ends ∙ ap (λ n. a.pen.ends ++ (n, k.now) ∷ []) w.posts);
    }

-- a try that found the lock held
missed_on : (a b : Joined) → b ≡ record a { pen = after_miss a.pen } → WaitsOn a b
missed_on a b e =
    subst (WaitsOn a) (sym e)
    record {
      stays = record { queue = refl; id = refl; turns = refl; place = refl; room = refl; leading = refl; rest = refl; known = starts_refl a.pen.known };
      posts = refl;
      standing = refl;
      mine = refl;
      begins = refl;
      ends = refl;
    }

-- a round
round_on : (words : ℕ) (a b : Joined) (answers doors : ℕ) → MakesTrailRoundBy words a answers doors b → WaitsOn a b
round_on words a b answers doors h =
    let led = h.led in
    let swept = h.swept in
    let served = h.sweep.served in
    subst (WaitsOn a) (sym h.release)
    record {
      stays = record {
        queue = h.sweep.stays.queue ∙ h.stays.queue;
        id = ap (λ x. x.id) (h.sweep.stays.comer ∙ h.stays.comer);
        turns = ap (λ x. x.turns) (h.sweep.stays.comer ∙ h.stays.comer);
        place = served.keeps.place ∙ ap (λ (z : PenState). z.place) h.won.next;
        room = served.keeps.room ∙ ap (λ (z : PenState). z.room) h.won.next;
        leading = sym h.won.led_not;
        rest = h.sweep.stays.rest ∙ h.stays.rest;
        known = starts_trans swept.pen.hand led.pen.hand a.pen.known
            (sweeps_start words h.sweep.trail.found answers led.pen swept.pen served.sweeps)
            (subst (λ (z : PenState). StartsWith z.hand a.pen.known) (sym h.won.next) h.won.knows.known);
      };
      posts = served.keeps.posts ∙ ap (λ (z : PenState). z.posts) h.won.next;
      standing = served.keeps.standing ∙ ap (λ (z : PenState). z.standing) h.won.next;
      mine = served.keeps.mine ∙ ap (λ (z : PenState). z.mine) h.won.next;
      begins = served.keeps.begins ∙ ap (λ (z : PenState). z.begins) h.won.next;
      ends = served.keeps.ends ∙ ap (λ (z : PenState). z.ends) h.won.next;
    }

-- a turn
pub took : (words : ℕ) (turn : Turn) (a b : Joined) → TakesBy words turn a b → WaitsOn a b
took words Lead a b h = ⊎_elim (λ u. round_on words a b u.0 u.1 u.2) (missed_on a b) h
took words Look a b h = subst (WaitsOn a) (sym h) (at_first a)
took words GiveUp a b h = subst (WaitsOn a) (sym h) (at_first a)
