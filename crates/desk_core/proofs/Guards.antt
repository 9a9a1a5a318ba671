-- The short runs, the wrong steps, and what they break.
use Rattle.std.proofs.Common.{◌≡◌, ℕ, ◌-◌, ◌<◌, ◌⊎◌, ⊎_elim, arith, true, false, true≢false, List, [], ◌∷◌, ◌++◌, refl, sym, ◌∙◌, ap, subst, inl, inr, lit<}
use Rattle.std.specs.Prelude.{Option, Some, None, slice_get}
use mathlib.Core.Option.{some-injective}
use lib.ListN.{get_elem?}
use Rattle.pq_types.specs.Item.{Item}
use Rattle.pq_types.specs.Asked.{Request}
use Rattle.pq_types.specs.declared.request.Request.TheVariants.{Push, Pop, Least}
use Rattle.pq_types.specs.Asked.{Reply}
use Rattle.pq_types.specs.declared.answer.Reply.TheVariants.{Pushed, Got, Empty, Least as LeastIs}
use Rattle.pq_types.specs.Asked.{Answer}
use Rattle.pq_types.specs.declared.answer.Answer.TheVariants.{Entered, BookFull, NoMemory, Refused}
use Rattle.pq_types.specs.declared.control.Kind.TheVariants as kind
use Rattle.pq_types.specs.declared.control.Outcome.TheVariants as outcome
use Rattle.pq_types.specs.declared.control.Notice.TheVariants as notice
use Rattle.pq_types.specs.Asked.{Line}
use Rattle.pq_types.specs.Item.{item}
use Rattle.pq_types.specs.Control.{posted, answered, is_answer, request_item}
use Rattle.pq_types.specs.Operation.{request_of}
use Rattle.pq_types.specs.History.{line, SerialsRise}
use Rattle.pq_book.specs.Book.{Volume}
use Rattle.desk_core.specs.Calls.{call, calls_of}
use Rattle.desk_core.specs.Clauses.{LockClause, AnswerClause, CallsClause}
use Rattle.desk_core.specs.Desk.{Desk, Has, volume, with_control, with_cell, locked, freed, with_pen, plain, opening}
use Rattle.desk_core.specs.declared.model.Call.{Call}
use Rattle.desk_core.specs.declared.model.PenState.{PenState}
use Rattle.desk_core.specs.declared.model.Standing.TheVariants.{Idle, Waiting}
use Rattle.desk_core.specs.declared.model.View.TheVariants.{Holder}
use Rattle.desk_core.specs.Pen.{IsIdle, new_pen, after_draft, after_post, after_lead, due_to, after_read, after_read_item, after_lay, after_answer, after_release, after_look, after_see, after_take, book_with, book_in_hand}
use Rattle.desk_core.specs.Guards.{AskingNeedsGuards, LeadingNeedsGuards}

same_pen : (d : Desk) (i j : ℕ) (p q : PenState) → Has d.views i p → Has d.views j q → i ≡ j → p ≡ q
same_pen d i j p q a b e =
    let f : Holder p ≡ Holder q = some-injective (Holder p) (Holder q) (sym a ∙ (ap (λ k. get_elem? d.views k) e ∙ b)) in cc

not_same : item 9 9 ≡ item 5 7 → ⊥
not_same e = let f : 9 ≡ 5 = ap (λ (x : Item). x.priority) e in omega (arith, f)

nothing_there : {X : Type 0} (x : X) → None ≡ Some x → ⊥
nothing_there x e = absurd (cc)

abbrev priority_of : Option Item → ℕ
priority_of None = 0
priority_of (Some x) = x.priority

-- the priority of the item that a line's request has
abbrev priority_in : Option Line → ℕ
priority_in None = 0
priority_in (Some l) = priority_of (request_item (request_of l.operation))

not_blank : item 0 0 ≡ item 5 7 → ⊥
not_blank e = let f : 0 ≡ 5 = ap (λ (x : Item). x.priority) e in omega (arith, f)

-- while the lock is held the journal is the one in the leader's hand
in_hand : (d : Desk) (journal : List Line) (seat : ℕ) (p : PenState) → d.held ≡ true → Has d.views seat p → p.leading ≡ true → LockClause d journal → p.hand ≡ journal
in_hand d journal seat p held has leads (inl (free, home, none)) = absurd (true≢false (sym held ∙ free))
in_hand d journal seat p held has leads (inr (locked, out, (i, q, there, q_leads, hand, only))) =
    ap (λ (x : PenState). x.hand) (same_pen d seat i p q has there (only seat p has leads)) ∙ hand

abbrev journal_in : Option Volume → List Line
journal_in None = []
journal_in (Some book) = book.journal

-- while it is free the journal is that of the Book at home
at_home : (d : Desk) (journal : List Line) (book : Volume) → d.held ≡ false → d.home ≡ Some book → LockClause d journal → book.journal ≡ journal
at_home d journal book free home (inl (is_free, there, none)) = ap journal_in (sym home ∙ there.is) ∙ there.journal_is
at_home d journal book free home (inr (locked, out, more)) = absurd (true≢false (sym locked ∙ free))

-- a pen that posted again has no call of its first post, which the journal has
lost_answer : (journal : List Line) (p : PenState) → p.place ≡ 0 → p.mine ≡ [] → p.standing ≡ Waiting Least → line 0 1 Pop Empty ∷ [] ≡ journal → CallsClause journal (posted 2 Least) p → ⊥
lost_answer journal p place mine waits hand c =
    ⊎_elim
    (λ t. let e : call 1 1 Pop Empty ∷ [] ≡ [] = subst (λ k. calls_of k (line 0 1 Pop Empty ∷ []) ≡ []) place (subst (λ j. calls_of p.place j ≡ []) (sym hand) (t ∙ mine)) in cc)
    (λ t. let e : posted 2 Least ≡ answered (Entered t.1 t.2) = t.4 in cc)
    c.lines

-- a pen whose request was entered twice misses a call
missed_call : (journal : List Line) (p : PenState) → p.place ≡ 0 → p.mine ≡ [] → line 0 1 Pop Empty ∷ line 0 1 Pop Empty ∷ [] ≡ journal → CallsClause journal (answered (Entered 2 Empty)) p → ⊥
missed_call journal p place mine hand c =
    let two = line 0 1 Pop Empty ∷ line 0 1 Pop Empty ∷ [] in
    ⊎_elim
    (λ t. let e : call 1 1 Pop Empty ∷ call 2 1 Pop Empty ∷ [] ≡ [] = subst (λ k. calls_of k two ≡ []) place (subst (λ j. calls_of p.place j ≡ []) (sym hand) (t ∙ mine)) in cc)
    (λ t.
    let one = call t.1 p.posts t.0 t.2 ∷ [] in
    let e : call 1 1 Pop Empty ∷ call 2 1 Pop Empty ∷ [] ≡ one =
    subst (λ k. calls_of k two ≡ one) place (subst (λ j. calls_of p.place j ≡ one) (sym hand) (t.5 ∙ ap (λ (ls : List Call). ls ++ one) mine)) in cc)
    c.lines

-- and its serial stands in the journal twice
same_serial : (journal : List Line) → line 0 1 Pop Empty ∷ line 0 1 Pop Empty ∷ [] ≡ journal → SerialsRise journal → ⊥
same_serial journal hand rise = let risen : SerialsRise (line 0 1 Pop Empty ∷ line 0 1 Pop Empty ∷ []) = subst SerialsRise (sym hand) rise in omega (arith, risen.0.0 refl)

-- an idle pen has a call that the empty journal lacks
made_up : (journal : List Line) (p : PenState) → p.place ≡ 0 → p.mine ≡ call 1 1 Pop (Got (item 0 0)) ∷ [] → p.standing ≡ Idle None → [] ≡ journal → CallsClause journal (posted 1 Pop) p → ⊥
made_up journal p place mine idle home c =
    ⊎_elim
    (λ t. let e : [] ≡ call 1 1 Pop (Got (item 0 0)) ∷ [] = subst (λ j. calls_of p.place j ≡ p.mine) (sym home) t ∙ mine in cc)
    (λ t. let e : Idle None ≡ Waiting t.0 = sym idle ∙ t.3 in cc)
    c.lines

-- the answer in the control is the one that its notice tells
line_of : (journal : List Line) (room : ℕ) (p : PenState) (request : Request) (reply : Reply) (a : Answer) → answered (Entered 1 reply) ≡ answered a → (reply ≡ Pushed) ⊎ (reply ≡ Empty) → AnswerClause room journal p request a
    → slice_get journal 0 ≡ Some (line p.place p.posts request reply)
line_of journal room p request reply (Entered n Pushed) e (inl r) c =
    let f : n ≡ 1 = cc in subst (λ x. slice_get journal 0 ≡ Some (line p.place p.posts request x)) (sym r) (subst (λ m. slice_get journal (m - 1) ≡ Some (line p.place p.posts request Pushed)) f c.1)
line_of journal room p request reply (Entered n Empty) e (inr r) c =
    let f : n ≡ 1 = cc in subst (λ x. slice_get journal 0 ≡ Some (line p.place p.posts request x)) (sym r) (subst (λ m. slice_get journal (m - 1) ≡ Some (line p.place p.posts request Empty)) f c.1)
line_of journal room p request reply (Entered n Empty) e (inl r) c = let f : answered (Entered 1 Pushed) ≡ answered (Entered n Empty) = subst (λ x. answered (Entered 1 x) ≡ answered (Entered n Empty)) r e in absurd (cc)
line_of journal room p request reply (Entered n Pushed) e (inr r) c = let f : answered (Entered 1 Empty) ≡ answered (Entered n Pushed) = subst (λ x. answered (Entered 1 x) ≡ answered (Entered n Pushed)) r e in absurd (cc)
line_of journal room p request reply (Entered n (Got x)) e (inl r) c = let f : answered (Entered 1 Pushed) ≡ answered (Entered n (Got x)) = subst (λ y. answered (Entered 1 y) ≡ answered (Entered n (Got x))) r e in absurd (cc)
line_of journal room p request reply (Entered n (Got x)) e (inr r) c = let f : answered (Entered 1 Empty) ≡ answered (Entered n (Got x)) = subst (λ y. answered (Entered 1 y) ≡ answered (Entered n (Got x))) r e in absurd (cc)
line_of journal room p request reply (Entered n (LeastIs x)) e (inl r) c = let f : answered (Entered 1 Pushed) ≡ answered (Entered n (LeastIs x)) = subst (λ y. answered (Entered 1 y) ≡ answered (Entered n (LeastIs x))) r e in absurd (cc)
line_of journal room p request reply (Entered n (LeastIs x)) e (inr r) c = let f : answered (Entered 1 Empty) ≡ answered (Entered n (LeastIs x)) = subst (λ y. answered (Entered 1 y) ≡ answered (Entered n (LeastIs x))) r e in absurd (cc)
line_of journal room p request reply BookFull e r c = absurd (cc)
line_of journal room p request reply NoMemory e r c = absurd (cc)
line_of journal room p request reply (Refused why) e r c = absurd (cc)

-- no answer to a pop says that memory was refused
not_refused : (a : Answer) (room : ℕ) (journal : List Line) (p : PenState) → answered NoMemory ≡ answered a → AnswerClause room journal p Pop a → ⊥
not_refused (Entered n reply) room journal p e c = absurd (cc)
not_refused BookFull room journal p e c = absurd (cc)
not_refused NoMemory room journal p e c = c.0
not_refused (Refused why) room journal p e c = absurd (cc)

-- the pen at 0 drafts the first of two words
abbrev half_drafted : PenState
half_drafted = after_draft (new_pen 4 0) (item 5 0)

not_half : item 5 0 ≡ item 5 7 → ⊥
not_half e = let f : 0 ≡ 7 = ap (λ (x : Item). x.value) e in omega (arith, f)

-- the pen at 0 pushes, and leads and reads that
abbrev drafted : PenState
drafted = after_draft (new_pen 4 0) (item 5 7)

abbrev pushed : PenState
pushed = after_post drafted (Push (item 5 7)) 0

abbrev push_led : PenState
push_led = after_lead pushed (volume (plain 4) [])

abbrev push_read : PenState
push_read = after_read push_led 0 (posted 1 (Push (item 5 7)))

-- it pops, leads, reads, answers, releases and looks
abbrev popped : PenState
popped = after_post (new_pen 4 0) Pop 0

abbrev pop_led : PenState
pop_led = after_lead popped (volume (plain 4) [])

abbrev pop_read : PenState
pop_read = after_read pop_led 0 (posted 1 Pop)

abbrev pop_answered : PenState
pop_answered = after_answer pop_read (due_to 0 1 kind.Pop None) Pop (Entered 1 Empty)

abbrev pop_released : PenState
pop_released = after_release pop_answered

abbrev pop_over : PenState
pop_over = after_look pop_released Pop (answered (Entered 1 Empty)) 1

-- the pen at 1 leads, reads that pop and answers it
abbrev other_led : PenState
other_led = after_lead (new_pen 4 1) (volume (plain 4) [])

abbrev other_read : PenState
other_read = after_read other_led 0 (posted 1 Pop)

abbrev other_answered : PenState
other_answered = after_answer other_read (due_to 0 1 kind.Pop None) Pop (Entered 1 Empty)

abbrev led_after : PenState
led_after = after_lead popped (volume (plain 4) (line 0 1 Pop Empty ∷ []))

-- it answers that pop again
abbrev other_again : PenState
other_again = after_answer other_answered (due_to 0 1 kind.Pop None) Pop (Entered 2 Empty)

-- the pen at 1 pushes, and the pen at 0 answers that and reads its own pop
abbrev other_drafted : PenState
other_drafted = after_draft (new_pen 4 1) (item 5 7)

abbrev other_pushed : PenState
other_pushed = after_post other_drafted (Push (item 5 7)) 0

abbrev popped_then : PenState
popped_then = after_post (new_pen 4 0) Pop 1

abbrev led_then : PenState
led_then = after_lead popped_then (volume (plain 4) [])

abbrev first_read : PenState
first_read = after_read led_then 1 (posted 1 (Push (item 5 7)))

abbrev first_item : PenState
first_item = after_read_item first_read (due_to 1 1 kind.Push None) (item 5 7)

abbrev first_answered : PenState
first_answered = after_answer first_item (due_to 1 1 kind.Push (Some (item 5 7))) (Push (item 5 7)) (Entered 1 Pushed)

abbrev second_read : PenState
second_read = after_read first_answered 0 (posted 1 Pop)

abbrev second_answered : PenState
second_answered = after_answer second_read (due_to 0 1 kind.Pop None) Pop (Entered 2 (Got (item 5 7)))

-- the desks to which the runs and the wrong steps lead
abbrev asked_pop : Desk
asked_pop = with_pen (with_control (opening 2 (plain 4)) 0 (posted 1 Pop)) 0 popped

abbrev other_is_done : Desk
other_is_done = with_pen (with_control (with_pen (with_pen (locked asked_pop) 1 other_led) 1 other_read) 0 (answered (Entered 1 Empty))) 1 other_answered

abbrev asked_again : Desk
asked_again = with_pen (with_control other_is_done 0 (posted 2 Least)) 0 (after_post popped Least 1)

abbrev done_again : Desk
done_again = with_pen (with_control other_is_done 0 (answered (Entered 2 Empty))) 1 other_again

abbrev got_nothing : PenState
got_nothing = after_take popped Pop (notice.Entered 1 outcome.Got) (item 0 0) 1

-- it reads a word of the item before it has seen the answer
abbrev seen_early : PenState
seen_early = after_see popped (item 0 0)

abbrev called_falsely : Desk
called_falsely = with_pen asked_pop 0 got_nothing

abbrev asked_push : Desk
asked_push = with_pen (with_control (with_pen (with_cell (opening 2 (plain 4)) 0 (item 5 7)) 0 drafted) 0 (posted 1 (Push (item 5 7)))) 0 pushed

abbrev seen_push : Desk
seen_push = with_pen (with_pen (locked asked_push) 0 push_led) 0 push_read

abbrev answered_falsely : PenState
answered_falsely = after_answer push_read (due_to 0 1 kind.Push None) (Push (item 9 9)) (Entered 1 Pushed)

abbrev entered_falsely : Desk
entered_falsely = with_pen (with_control seen_push 0 (answered (Entered 1 Pushed))) 0 answered_falsely

abbrev both_asked : Desk
both_asked =
    with_pen (with_control (with_pen (with_control (with_pen (with_cell (opening 2 (plain 4)) 1 (item 5 7)) 1 other_drafted) 1 (posted 1 (Push (item 5 7)))) 1 other_pushed) 0 (posted 1 Pop)) 0 popped_then

abbrev first_done : Desk
first_done = with_pen (with_control (with_pen (with_pen (with_pen (locked both_asked) 0 led_then) 0 first_read) 0 first_item) 1 (answered (Entered 1 Pushed))) 0 first_answered

abbrev shown_falsely : Desk
shown_falsely = with_pen (with_control (with_pen first_done 0 second_read) 0 (answered (Entered 2 (Got (item 5 7))))) 0 second_answered

abbrev pop_is_done : Desk
pop_is_done = with_pen (with_control (with_pen (with_pen (locked asked_pop) 0 pop_led) 0 pop_read) 0 (answered (Entered 1 Empty))) 0 pop_answered

abbrev left_empty : Desk
left_empty = with_pen (freed pop_is_done (book_with pop_answered [])) 0 pop_released

abbrev read_unnoted : PenState
read_unnoted = record (after_read led_after 0 (answered (Entered 1 Empty))) { own = led_after.own }

abbrev not_noted : Desk
not_noted = with_pen (with_pen (locked (with_pen (freed other_is_done (book_in_hand other_answered)) 1 (after_release other_answered))) 0 led_after) 0 read_unnoted

knows_not : (p q : PenState) → p ≡ q → q.posts ≡ 1 → q.standing ≡ Waiting Pop → is_answer q.own ≡ false → (1 < p.posts) ⊎ (IsIdle p.standing ⊎ (is_answer p.own ≡ true)) → ⊥
knows_not p q e posts waits own (inl more) = let f = ap (λ (x : PenState). x.posts) e in omega (arith, f, posts, more)
knows_not p q e posts waits own (inr (inl (draft, idle))) = let f : Waiting Pop ≡ Idle draft = sym waits ∙ (sym (ap (λ (x : PenState). x.standing) e) ∙ idle) in absurd (cc)
knows_not p q e posts waits own (inr (inr known)) = absurd (true≢false (sym known ∙ (ap (λ (x : PenState). is_answer x.own) e ∙ own)))

pub asking_needs : AskingNeedsGuards
asking_needs =
    record {
      pushed = _;
      overwritten = _;
      push = (_, (new_pen 4 0, refl, (None, refl), (lit< tt, lit< tt), refl), (_, (drafted, Some (item 5 7), refl, refl, lit< tt, (lit< tt, lit< tt), refl, refl), refl));
      draft = (pushed, refl, (lit< tt, lit< tt), refl);
      item_lost = λ journal lock h. not_same ((h 0 (record pushed { steps = 3 }) refl).posted (Push (item 5 7)) refl refl);
      answered = _;
      posted_twice = _;
      answer = (
        _,
        (new_pen 4 0, None, refl, refl, lit< tt, tt, tt, refl),
        (
          _,
          (new_pen 4 1, refl, inl (refl, (_, refl, refl))),
          (_, (other_led, refl, refl, lit< tt, refl), (_, (other_read, due_to 0 1 kind.Pop None, Pop, refl, refl, refl, refl, tt, tt, (record { space = lit< tt; kept = lit< tt; heard = λ ends. refl; below = λ adds. lit< tt }, refl, refl), refl), refl)),
        ),
      );
      post = (popped, refl, lit< tt, tt, refl);
      answer_lost = λ journal lock h.
          lost_answer journal (after_post popped Least 1) refl refl refl (in_hand asked_again journal 1 other_answered refl refl refl lock) (h 0 (after_post popped Least 1) refl);
      undrafted = _;
      post_first = (new_pen 4 0, None, refl, refl, lit< tt, (lit< tt, lit< tt), refl);
      item_missing = λ journal lock h. not_blank ((h 0 (after_post (new_pen 4 0) (Push (item 5 7)) 0) refl).posted (Push (item 5 7)) refl refl);
      half = _;
      post_half = _;
      draft_half = (_, (new_pen 4 0, refl, (None, refl), (lit< tt, lit< tt), refl), refl);
      post_between = (half_drafted, Some (item 5 0), refl, refl, lit< tt, (lit< tt, lit< tt), refl);
      word_missing = λ journal lock h. not_half ((h 0 (after_post half_drafted (Push (item 5 7)) 0) refl).posted (Push (item 5 7)) refl refl);
      over = _;
      kept = _;
      pop = (
        _,
        (new_pen 4 0, None, refl, refl, lit< tt, tt, tt, refl),
        (
          _,
          (popped, refl, inl (refl, (_, refl, refl))),
          (
            _,
            (pop_led, refl, refl, lit< tt, refl),
            (
              _,
              (pop_read, due_to 0 1 kind.Pop None, Pop, refl, refl, refl, refl, tt, tt, (record { space = lit< tt; kept = lit< tt; heard = λ ends. refl; below = λ adds. lit< tt }, refl, refl), refl),
              (_, (pop_answered, refl, refl, refl), (_, (pop_released, Pop, refl, refl, refl), refl)),
            ),
          ),
        ),
      );
      keep = (pop_over, None, refl, refl, lit< tt, tt, tt, refl);
      answer_stale = λ h. (let e : posted 2 Pop ≡ answered (Entered 1 Empty) = h 0 (record (after_post pop_over Pop 2) { own = pop_over.own }) refl refl in cc);
      popped = _;
      taken = _;
      ask = (_, (new_pen 4 0, None, refl, refl, lit< tt, tt, tt, refl), refl);
      take = (popped, Pop, notice.Entered 1 outcome.Got, refl, refl, refl, refl);
      call_made_up = λ journal lock h.
          made_up journal got_nothing refl refl refl (at_home called_falsely journal (volume (plain 4) []) refl refl lock) (h 0 got_nothing refl);
      seen = _;
      changed = _;
      see = (popped, Pop, notice.Entered 1 outcome.Got, refl, refl, refl, refl);
      lay = (
        _,
        (new_pen 4 1, refl, inl (refl, (_, refl, refl))),
        (_, (other_led, refl, refl, lit< tt, refl), (_, (other_read, due_to 0 1 kind.Pop None, refl, refl, refl, (λ e. cc e), (lit< tt, lit< tt), refl), refl)),
      );
      other_seen = λ journal lock h. not_blank (sym ((h 0 seen_early refl).seen (item 0 0) refl));
    }

pub leading_needs : LeadingNeedsGuards
leading_needs =
    record {
      pushed = _;
      laid = _;
      push = (
        _,
        (new_pen 4 1, refl, (None, refl), (lit< tt, lit< tt), refl),
        (_, (other_drafted, Some (item 5 7), refl, refl, lit< tt, (lit< tt, lit< tt), refl, refl), (_, (new_pen 4 0, refl, inl (refl, (_, refl, refl))), refl)),
      );
      lay = (after_lead (new_pen 4 0) (volume (plain 4) []), due_to 1 1 kind.Pop None, refl, refl, (lit< tt, lit< tt), refl);
      item_lost = λ journal lock h. not_same ((h 1 other_pushed refl).posted (Push (item 5 7)) refl refl);
      read = _;
      laid_at_push = _;
      read_push = (
        _,
        (new_pen 4 0, refl, (None, refl), (lit< tt, lit< tt), refl),
        (
          _,
          (drafted, Some (item 5 7), refl, refl, lit< tt, (lit< tt, lit< tt), refl, refl),
          (_, (pushed, refl, inl (refl, (_, refl, refl))), (_, (push_led, refl, refl, lit< tt, refl), refl)),
        ),
      );
      lay_at_push = (push_read, due_to 0 1 kind.Push None, refl, refl, refl, (lit< tt, lit< tt), refl);
      pushed_item_lost = λ journal lock h.
          not_same ((h 0 (after_lay push_read (due_to 0 1 kind.Push None) (item 9 9)) refl).posted (Push (item 5 7)) refl refl);
      entered = _;
      answer_unread = (push_read, due_to 0 1 kind.Push None, Push (item 9 9), refl, refl, refl, refl, tt, (record { space = lit< tt; kept = lit< tt; heard = λ ends. refl; below = λ adds. lit< tt }, refl, refl), refl);
      other_entered = λ journal lock h.
          (let hand = in_hand entered_falsely journal 0 answered_falsely refl refl refl lock in
          ⊎_elim
          (λ t. let e : answered (Entered 1 Pushed) ≡ posted 1 (Push (item 5 7)) = t in cc)
          (λ t.
          let there : slice_get journal 0 ≡ Some (line 0 1 (Push (item 5 7)) Pushed) = line_of journal 4 answered_falsely (Push (item 5 7)) Pushed t.0 t.1 (inl refl) t.2 in
          let e : Some (line 0 1 (Push (item 9 9)) Pushed) ≡ Some (line 0 1 (Push (item 5 7)) Pushed) = ap (λ (j : List Line). slice_get j 0) hand ∙ there in
          let f : 9 ≡ 5 = ap priority_in e in omega (arith, f))
          ((h 0 answered_falsely refl).waits (Push (item 5 7)) refl));
      asked = _;
      unlaid = _;
      read_pop = (
        _,
        (new_pen 4 1, refl, (None, refl), (lit< tt, lit< tt), refl),
        (
          _,
          (other_drafted, Some (item 5 7), refl, refl, lit< tt, (lit< tt, lit< tt), refl, refl),
          (
            _,
            (new_pen 4 0, None, refl, refl, lit< tt, tt, tt, refl),
            (
              _,
              (popped_then, refl, inl (refl, (_, refl, refl))),
              (
                _,
                (led_then, refl, refl, lit< tt, refl),
                (
                  _,
                  (first_read, due_to 1 1 kind.Push None, refl, refl, refl, refl, refl),
                  (
                    _,
                    (first_item, due_to 1 1 kind.Push (Some (item 5 7)), Push (item 5 7), refl, refl, refl, refl, refl, tt, (record { space = lit< tt; kept = lit< tt; heard = λ ends. refl; below = λ adds. lit< tt }, refl, refl), refl),
                    (_, (first_answered, refl, refl, lit< tt, refl), refl),
                  ),
                ),
              ),
            ),
          ),
        ),
      );
      answer_unlaid = (second_read, due_to 0 1 kind.Pop None, Pop, refl, refl, refl, refl, tt, (record { space = lit< tt; kept = lit< tt; heard = λ ends. refl; below = λ adds. lit< tt }, refl, refl), refl);
      other_shown = λ journal lock h.
          (let hand = in_hand shown_falsely journal 0 second_answered refl refl refl lock in
          let at : slice_get journal 1 ≡ Some (line 0 1 Pop (Got (item 5 7))) = ap (λ (j : List Line). slice_get j 1) (sym hand) in
          not_blank ((h 0 second_answered refl).answered Pop 2 (Got (item 5 7)) refl refl at));
      popped = _;
      refused = _;
      owed = _;
      read_own = (_, (new_pen 4 0, None, refl, refl, lit< tt, tt, tt, refl), (_, (popped, refl, inl (refl, (_, refl, refl))), (_, (pop_led, refl, refl, lit< tt, refl), refl)));
      refuse = (pop_read, due_to 0 1 kind.Pop None, Pop, refl, refl, refl, refl, tt, tt, refl);
      pop_refused = λ journal lock h.
          ⊎_elim
          (λ t. let e : answered NoMemory ≡ posted 1 Pop = t in cc)
          (λ t. not_refused t.0 4 journal (after_answer pop_read (due_to 0 1 kind.Pop None) Pop NoMemory) t.1 t.2)
          ((h 0 (after_answer pop_read (due_to 0 1 kind.Pop None) Pop NoMemory) refl).waits Pop refl);
      answer_and_owe = (pop_read, due_to 0 1 kind.Pop None, Pop, refl, refl, refl, refl, tt, tt, (record { space = lit< tt; kept = lit< tt; heard = λ ends. refl; below = λ adds. lit< tt }, refl, refl), refl);
      due_twice = λ h.
          (let e : answered (Entered 1 Empty) ≡ posted 1 Pop = (h 0 (record pop_answered { due = Some (due_to 0 1 kind.Pop None) }) refl (due_to 0 1 kind.Pop None) refl).1 in cc);
      answered = _;
      entered_again = _;
      answer_other = (
        _,
        (new_pen 4 0, None, refl, refl, lit< tt, tt, tt, refl),
        (
          _,
          (new_pen 4 1, refl, inl (refl, (_, refl, refl))),
          (_, (other_led, refl, refl, lit< tt, refl), (_, (other_read, due_to 0 1 kind.Pop None, Pop, refl, refl, refl, refl, tt, tt, (record { space = lit< tt; kept = lit< tt; heard = λ ends. refl; below = λ adds. lit< tt }, refl, refl), refl), refl)),
        ),
      );
      answer_again = (other_answered, popped, 0, Pop, refl, refl, refl, refl, refl, (record { space = lit< tt; kept = lit< tt; heard = λ ends. refl; below = λ adds. lit< tt }, refl, refl), refl);
      call_missed = λ journal lock h. missed_call journal popped refl refl (in_hand done_again journal 1 other_again refl refl refl lock) (h 0 popped refl);
      serial_repeated = λ journal lock h. same_serial journal (in_hand done_again journal 1 other_again refl refl refl lock) h.rise;
      led = _;
      unnoted = _;
      lead = (
        _,
        (new_pen 4 0, None, refl, refl, lit< tt, tt, tt, refl),
        (
          _,
          (new_pen 4 1, refl, inl (refl, (_, refl, refl))),
          (
            _,
            (other_led, refl, refl, lit< tt, refl),
            (
              _,
              (other_read, due_to 0 1 kind.Pop None, Pop, refl, refl, refl, refl, tt, tt, (record { space = lit< tt; kept = lit< tt; heard = λ ends. refl; below = λ adds. lit< tt }, refl, refl), refl),
              (_, (other_answered, refl, refl, refl), (_, (popped, refl, inl (refl, (_, refl, refl))), refl)),
            ),
          ),
        ),
      );
      reads = (led_after, refl, refl, lit< tt, refl);
      has_answer = (0, read_unnoted, refl, refl, omega arith, inr (inr refl));
      knows_nothing = λ k. knows_not _ _ (same_pen not_noted 0 0 k.0 read_unnoted k.1 refl refl) refl refl refl k.3;
      leads = _;
      bookless = _;
      try = (_, (new_pen 4 0, refl, inl (refl, (_, refl, refl))), refl);
      leave_out = (after_lead (new_pen 4 0) (volume (plain 4) []), refl, refl, refl);
      book_gone = λ journal lock. ⊎_elim (λ t. let e : None ≡ Some t.1.book = t.1.is in cc) (λ t. let e : false ≡ true = t.0 in cc) lock;
      done = _;
      emptied = _;
      answers = (
        _,
        (new_pen 4 0, None, refl, refl, lit< tt, tt, tt, refl),
        (
          _,
          (popped, refl, inl (refl, (_, refl, refl))),
          (
            _,
            (pop_led, refl, refl, lit< tt, refl),
            (_, (pop_read, due_to 0 1 kind.Pop None, Pop, refl, refl, refl, refl, tt, tt, (record { space = lit< tt; kept = lit< tt; heard = λ ends. refl; below = λ adds. lit< tt }, refl, refl), refl), refl),
          ),
        ),
      );
      empty = (pop_answered, refl, refl, refl);
      line_gone = λ journal lock h.
          (let none = at_home left_empty journal (volume (plain 4) []) refl refl lock in
          ⊎_elim
          (λ t. let e : answered (Entered 1 Empty) ≡ posted 1 Pop = t in cc)
          (λ t.
          let there : slice_get journal 0 ≡ Some (line 0 1 Pop Empty) = line_of journal 4 pop_released Pop Empty t.0 t.1 (inr refl) t.2 in
          nothing_there (line 0 1 Pop Empty) (ap (λ (j : List Line). slice_get j 0) none ∙ there))
          ((h 0 pop_released refl).waits Pop refl));
    }
