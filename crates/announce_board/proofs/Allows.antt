-- Each step keeps the rule of the table.
use Rattle.std.proofs.Common.{◌≡◌, ◌≢◌, ℕ, ◌+◌, ◌<◌, ◌≤◌, ◌⊎◌, inl, inr, Bool, true, false, true≢false, List, [], ◌∷◌, length, set, refl, ap, sym, ◌∙◌, subst, arith}
use Rattle.std.specs.Prelude.{Option, Some, None, slice_index, slice_set, ◌==◌}
use Rattle.std.proofs.lemmas.List.{length-set}
use mathlib.Core.Option.{some, none}
use mathlib.Core.Option as home
use lib.ListN.{get_elem?}
use mathlib.Core.Logic.{dite}
use native.Mathlib.Decide.{ℕ_discrete}
use prog.Atomic.{either}
use Rattle.atomic_table.specs.Table.{State, Act, Valid, keeps, takes, gives, step, stepped, put_back, carried_after, rest}
use Rattle.atomic_table.proofs.Lists.{exchanged, set_here, set_again}
use Rattle.pq_types.specs.Item.{Item, IsItemOf}
use Rattle.pq_types.specs.Asked.{Request, Operation}
use Rattle.pq_types.specs.Entry.{IsProperOperationOf}
use Rattle.pq_types.specs.Asked.{Answer}
use Rattle.pq_types.specs.declared.answer.Answer.TheVariants.{NoMemory}
use Rattle.pq_types.specs.declared.answer.Answer.TheVariants as answer
use Rattle.pq_types.specs.declared.control.Notice.{Notice}
use Rattle.pq_types.specs.declared.control.Control.TheVariants.{Answered}
use Rattle.desk_core.specs.Words.{word_number, word_of, mixed}
use Rattle.pq_types.specs.Control.{kind_of, request_item, answer_item, notice_has_item, posted, answered, is_answer}
use Rattle.pq_types.specs.Mail.{IsProperControl, control_word}
use Rattle.pq_types.specs.declared.control.Kind.TheVariants as kind
use Rattle.pq_types.specs.declared.journal.TheConstants.{GREATEST_NUMBER}
use Rattle.pq_types.specs.Queue.{IsProperRequestOf}
use Rattle.pq_types.specs.History.{journal_after, journal_by, MayDo, MayAnswer}
use Rattle.pq_book.specs.Book.{Volume}
use Rattle.wait_list.specs.Waiters.{Change}
use Rattle.pq_book.specs.Stock.{settled_book}
use Rattle.desk_core.specs.Dealing.{IsReached, Takes}
use Rattle.desk_core.specs.Desk.{Desk, Has, time, put, locked, freed, with_control, with_cell, with_pen}
use Rattle.desk_core.specs.Steps.{Event, actor, Drafts, Posts, Tries, Reads, ReadsItem, LaysItem, Answers, Applies, Archives, Changes, HandsOut, Releases, ReleasesBy, Looks, SeesItem, TakesItem, Step}
use Rattle.desk_core.specs.Looking as looking
use Rattle.desk_core.specs.Knows.{Knows}
use Rattle.desk_core.specs.Layout.{lock_at, control_at, item_at}
use Rattle.desk_core.specs.Pen.{IsIdle, IsKept, after_draft, after_post, after_lead, after_miss, after_read, after_read_item, after_lay, after_answer, after_apply, after_archive, after_change, after_hand_out, after_release, after_release_by, after_look, after_see, after_take, book_with, book_in_hand, limits_in_hand}
use Rattle.desk_core.specs.Rule.{MeetsRule}
use Rattle.desk_core.specs.Duties.{DutiesAreKept, weight_of}
use Rattle.desk_core.specs.declared.model.Duty.TheVariants.{Active}
use Rattle.desk_core.specs.declared.model.Standing.TheVariants.{Idle, Waiting}
use Rattle.desk_core.specs.declared.model.Due.{Due}
use Rattle.desk_core.specs.declared.model.PenState.{PenState}
use Rattle.desk_core.specs.declared.model.View.{View}
use Rattle.desk_core.specs.declared.model.View.TheVariants.{Holder}
use Rattle.announce_board.specs.Allowed.{AsTo, AsMove, AsLook, StepsOrStays, Plainly, desk_in}
use Rattle.announce_board.specs.Rule.{Keeps, Seated, desk_of, book_in, book_at_home}
use Rattle.announce_board.specs.declared.terms.Terms.{Terms}
use Rattle.announce_board.specs.Slots.{MeetsTerms, Slotted, with_book, says, first_limits}
use Rattle.announce_board.specs.Steps.{pen_at, StandsAt, WordDrafted, Drafted, PostStored, LockRead, LockTried, ControlRead, MailRead, CellRead, ItemRead, WordLaid, ItemLaid, AnswerStored, Released, HasInSlot, KeepsInSlot, BringsHomeBy, Applied, Archived, Changed, HandedOut, ReleasedWith, Looked, AnswerLooked, WordSeen, ItemSeen, Taken, ItemTaken}
use Rattle.announce_board.proofs.Duties.{acts_on}
use Rattle.announce_board.proofs.Sums.{length_at}
use Rattle.announce_board.proofs.Weights.{weighs_on}
use Rattle.announce_board.proofs.Same.{same_request, same_answer, kind_posted, same_draft, same_waiting, same_due, same_notice, not_true, refused_alone, none_refused, same_applied, same_ended, same_archived, same_changed, same_book}
use Rattle.announce_board.proofs.StepLaws.{Laws, at_both, book_there, book_bounded}

-- the terms that are said
one_said : (a b : Terms) → ◌≡◌ {A = home.Option Slotted} (some (says a)) (some (says b)) → a ≡ b
one_said a b e = cc

-- an item of either width is in the range of wide ones
wider : (wide : Bool) (x : Item) → IsItemOf wide x → IsItemOf true x
wider true x h = h
wider false x h = (omega (arith, h.0), omega (arith, h.1))

module _ (laws : Laws) (wide : Bool) (roomy : ℕ → Type 0) (room : ℕ) (terms : Terms) (places slots id : ℕ) (m : Seated) (is : m.0 ≡ Holder (pen_at m)) where
  abbrev p : PenState
  p = pen_at m

  abbrev St : Type 0
  St = State Slotted View

  module _ (s : St) (k : Keeps wide roomy room terms places s) (at : get_elem? s.views id ≡ some m.0) where
    abbrev d : Desk
    d = desk_of room places k.held k.control k.cells s.homes s.views

    has : Has d.views id p
    has = at ∙ ap some is

    stands : StandsAt d p
    stands = record { first = first_limits room terms; room = refl; reached = k.reached; meets = k.meets; seat = id; has = has }

    -- the step of the machine leads to a desk that is reached too
    goes : (x : Event) (e : Desk) → Step d x e → IsReached places (first_limits room terms) e
    goes x e move = laws.goes_on places (first_limits room terms) d e (Takes x) k.reached move

    -- duties stay kept, while this pen takes a step and acts on
    stays : (w : PenState) → w.duty ≡ Active → DutiesAreKept (slice_set s.views id (Holder w))
    stays w acts = acts_on s.views id p w k.duties has refl acts

    -- and nothing weighs more
    weighs : (w : PenState) → w.duty ≡ Active → weight_of places (slice_set s.views id (Holder w)) ≤ places
    weighs w acts = let same = weighs_on places s.views id p w has refl acts in let within = k.weight in omega (arith, same, within)

    inside : p.place < places
    inside = (laws.seated d id p k.meets has).inside

    -- nothing was stored, and the pen is now this one
    abbrev unchanged : (i : ℕ) (q : PenState) → q.duty ≡ Active → IsReached places (first_limits room terms) (with_pen d id q) → MeetsRule (desk_of room places k.held k.control k.cells s.homes (slice_set s.views id (Holder q)))
        → Keeps wide roomy room terms places record { words = slice_set s.words i (slice_index s.words i); homes = s.homes; views = slice_set s.views id (Holder q) }
    unchanged i q acts reached meets = record { held = k.held; control = k.control; cells = k.cells; words = laws.loaded wide places s.words k.held k.control k.cells i k.words; slots = k.slots; reached = reached; meets = meets; duties = stays q acts; weight = weighs q acts; memory = k.memory }

    -- the Book in the slots is this one
    home_is : (P : Desk → Type 0) (held : Bool) (homes : List (home.Option Slotted)) (views : List View) (book : Option Volume) → book_at_home homes ≡ book
        → P (record { room = room; places = places; held = held; control = k.control; item = k.cells; home = book; views = views })
        → P (desk_of room places held k.control k.cells homes views)
    home_is P held homes views book e h =
        subst (λ b. P (record { room = room; places = places; held = held; control = k.control; item = k.cells; home = b; views = views })) (sym e) h

    -- a try in vain
    missed : k.held ≡ true → IsReached places (first_limits room terms) (with_pen d id (after_miss p))
    missed held = goes (Tries id) (with_pen d id (after_miss p)) (p, has, inr (held, refl))

  pub draft_allowed : (index word j : ℕ) (x : Item) → index ≡ item_at p.place + j → word ≡ word_of wide j x → j < word_number wide → IsIdle p.standing → IsItemOf wide x
      → AsMove wide roomy room terms places slots id m index (λ _. word) (λ _. Drafted wide (step slots index word 0 none) m word)
  draft_allowed index word j x ei ew small idle range =
      at_both (λ i n. AsMove wide roomy room terms places slots id m i (λ _. n) (λ _. Drafted wide (step slots i n 0 none) m n)) index (item_at p.place + j) word (word_of wide j x) ei ew
      (λ s k long at small_word.
      let y = k.cells p.place in
      let z = mixed wide j x y in (
        Holder (after_draft p z),
        keeps,
        tt,
        record {
          held = k.held;
          control = k.control;
          cells = put k.cells p.place z;
          words = laws.item_stored wide places s.words k.held k.control k.cells p.place j x k.words (inside s k at) small range;
          slots = k.slots;
          reached = goes s k at (Drafts id z) (with_pen (with_cell (d s k at) p.place z) id (after_draft p z))
              (p, has s k at, idle, wider wide z (laws.mix.fits wide j x y range (k.words.ranges p.place (inside s k at))), refl);
          meets = laws.draft (d s k at) id p k.meets (has s k at) z idle;
          duties = stays s k at (after_draft p z) refl;
          weight = weighs s k at (after_draft p z) refl;
          memory = k.memory;
        },
        inl (Drafts id z, refl, (p, has s k at, idle, wider wide z (laws.mix.fits wide j x y range (k.words.ranges p.place (inside s k at))), refl)),
        λ i x' range' e f.
            let same : j ≡ i = omega (arith, e) in
            subst (λ h. WordDrafted wide h x' m (Holder (after_draft p z), m.1)) same
            record {
              desk = d s k at;
              stands = stands s k at;
              range = k.words.ranges p.place (inside s k at);
              next = ap (λ u. (Holder (after_draft p u), m.1)) (laws.by_word wide j x x' y range range' (f ∙ ap (λ h. word_of wide h x') (sym same)));
            },
      ))

  pub post_allowed : (index word : ℕ) (request : Request) (draft : Option Item) → index ≡ control_at p.place → word ≡ control_word (posted (p.posts + 1) request)
      → p.standing ≡ Idle draft → p.posts < GREATEST_NUMBER → IsProperRequestOf true request → IsKept (request_item request) draft
      → AsMove wide roomy room terms places slots id m index (λ _. word) (λ _. PostStored (step slots index word 0 none) m word)
  post_allowed index word request draft ei ew idle few proper kept =
      let new : IsProperControl (posted (p.posts + 1) request) = (omega arith, omega (arith, few)) in
      at_both (λ i n. AsMove wide roomy room terms places slots id m i (λ _. n) (λ _. PostStored (step slots i n 0 none) m n)) index (control_at p.place) word (control_word (posted (p.posts + 1) request)) ei ew
      (λ s k long at small. (
        Holder (after_post p request (time (d s k at))),
        keeps,
        tt,
        record {
          held = k.held;
          control = put k.control p.place (posted (p.posts + 1) request);
          cells = k.cells;
          words = laws.control_stored wide places s.words k.held k.control k.cells p.place (posted (p.posts + 1) request) k.words (inside s k at) new;
          slots = k.slots;
          reached = goes s k at (Posts id request) (with_pen (with_control (d s k at) p.place (posted (p.posts + 1) request)) id (after_post p request (time (d s k at))))
              (p, draft, has s k at, idle, few, proper, kept, refl);
          meets = laws.post (d s k at) id p k.meets (has s k at) request draft (time (d s k at)) idle few proper kept;
          duties = stays s k at (after_post p request (time (d s k at))) refl;
          weight = weighs s k at (after_post p request (time (d s k at))) refl;
          memory = λ all. none_refused k.control p.place (posted (p.posts + 1) request) (k.memory all) (λ e. absurd (cc e));
        },
        inl (Posts id request, refl, (p, draft, has s k at, idle, few, proper, kept, refl)),
        λ q other stood known proper' e.
            let kind = kind_posted (p.posts + 1) request q (laws.controls_differ (posted (p.posts + 1) request) (posted (p.posts + 1) q) new proper' e) in
            let same = same_draft other draft p.standing stood idle in (
              (time (d s k at), ap (λ r. (Holder (after_post p r (time (d s k at))), m.1)) (same_request request q draft kind kept (subst (IsKept (request_item q)) same known))),
              laws.unknown (d s k at) id p k.meets (has s k at),
            ),
      ))

  pub read_lock_allowed : AsMove wide roomy room terms places slots id m lock_at (λ n. n) (LockRead (step slots lock_at 0 0 none) m)
  read_lock_allowed s k long at small =
      let n = slice_index s.words lock_at in
      let read = laws.read_back wide places s.words k.held k.control k.cells k.words in
      dite (ℕ_discrete n 0)
      (λ e. (
        m.0,
        keeps,
        tt,
        record {
          held = k.held;
          control = k.control;
          cells = k.cells;
          words = laws.loaded wide places s.words k.held k.control k.cells lock_at k.words;
          slots = k.slots;
          reached = subst (λ v. IsReached places (first_limits room terms) (desk_of room places k.held k.control k.cells s.homes v)) (sym (set_again s.views id m.0 at)) k.reached;
          meets = subst (λ v. MeetsRule (desk_of room places k.held k.control k.cells s.homes v)) (sym (set_again s.views id m.0 at)) k.meets;
          duties = subst DutiesAreKept (sym (set_again s.views id m.0 at)) k.duties;
          weight = subst (λ v. weight_of places v ≤ places) (sym (set_again s.views id m.0 at)) k.weight;
          memory = k.memory;
        },
        inr (ap (λ v. desk_of room places k.held k.control k.cells s.homes v) (set_again s.views id m.0 at)),
        (λ _. refl, λ ne. absurd (ne e)),
      ))
      (λ ne. (
        Holder (after_miss p),
        keeps,
        tt,
        unchanged s k at lock_at (after_miss p) refl (missed s k at (read.lock_held ne).0) (laws.miss (d s k at) id p k.meets (has s k at)),
        inl (Tries id, refl, (p, has s k at, inr ((read.lock_held ne).0, refl))),
        (λ e. absurd (ne e), λ _. ((read.lock_held ne).1, refl)),
      ))

  module _ (s : St) (k : Keeps wide roomy room terms places s) (at : get_elem? s.views id ≡ some m.0) (e : slice_index s.words lock_at ≡ 0) where
    free : k.held ≡ false
    free = (laws.read_back wide places s.words k.held k.control k.cells k.words).lock_free.0 e

    lead : (book : Volume) × (book_at_home s.homes ≡ Some book) × (book.room ≡ room) × MeetsRule (with_pen (locked (d s k at)) id (after_lead p book))
    lead = laws.lead (d s k at) id p k.meets (has s k at) free

    room_is : p.room ≡ room
    room_is = (laws.seated (d s k at) id p k.meets (has s k at)).room

    abbrev book : Volume
    book = lead.0

    there : get_elem? s.homes 0 ≡ some (some (with_book book))
    there = book_there (get_elem? s.homes 0) book lead.1

    empty : get_elem? (set s.homes 0 none) 0 ≡ some none
    empty = set_here s.homes 0 none (length_at s.homes 0 (some (with_book book)) there)

    out : book_at_home (set s.homes 0 none) ≡ None
    out = ap book_in empty

    led_not : p.leading ≡ false
    led_not = not_true p.leading (λ l. true≢false (sym (k.meets.2.led id p (has s k at) l).1 ∙ free))

    won : (said : home.Option Slotted) → said ≡ some (says terms) → (v : View) × (a : Act Slotted) × Valid s.homes m.1 a × (k' : Keeps wide roomy room terms places (stepped s lock_at 1 id m.1 v a))
        × (((e : Event) × (actor e ≡ id) × Step (desk_in k) e (desk_in k')) ⊎ (desk_in k' ≡ desk_in k))
        × LockTried (step slots lock_at 0 1 said) m (slice_index s.words lock_at) (v, carried_after m.1 a)
    won said said_is = (
      Holder (after_lead p book),
      takes 0 (with_book book),
      there,
      record {
        held = true;
        control = k.control;
        cells = k.cells;
        words = laws.lock_stored wide places s.words k.held true k.control k.cells k.words;
        slots = length-set s.homes 0 none ∙ k.slots;
        reached = home_is s k at (IsReached places (first_limits room terms)) true (set s.homes 0 none) (slice_set s.views id (Holder (after_lead p book))) None out
            (goes s k at (Tries id) (with_pen (locked (d s k at)) id (after_lead p book)) (p, has s k at, inl (free, (book, lead.1, refl))));
        meets = home_is s k at MeetsRule true (set s.homes 0 none) (slice_set s.views id (Holder (after_lead p book))) None out lead.3;
        duties = stays s k at (after_lead p book) refl;
        weight = weighs s k at (after_lead p book) refl;
        memory = k.memory;
      },
      inl (
        Tries id,
        refl,
        home_is s k at (λ y. Step (d s k at) (Tries id) y) true (set s.homes 0 none) (slice_set s.views id (Holder (after_lead p book))) None out
            (p, has s k at, inl (free, (book, lead.1, refl))),
      ),
      (
        λ _ b e. record {
          book = book;
          room = lead.2 ∙ sym room_is;
          bounded = subst (λ u. MeetsTerms u book) (one_said terms b (sym said_is ∙ e)) (book_bounded laws.limited laws.rise room terms places (d s k at) k.meets.2.room_in_range k.reached book lead.1);
          settled = ((laws.waited places (first_limits room terms) k.reached.0 (d s k at) k.meets.2.room_in_range k.reached.1).home book lead.1).1;
          knows = subst (λ r. Knows r p book.journal) (sym room_is) (laws.home (d s k at) id p book k.meets (has s k at) lead.1).1;
          led_not = led_not;
          next = refl;
        },
        λ ne. absurd (ne e),
      ),
    )

  pub try_allowed : (said : home.Option Slotted) → said ≡ some (says terms) → AsMove wide roomy room terms places slots id m lock_at (λ n. either (n == 0) 1 n) (LockTried (step slots lock_at 0 1 said) m)
  try_allowed said said_is s k long at small =
      let n = slice_index s.words lock_at in
      exchanged n 0 1 (λ w. (v : View) × (a : Act Slotted) × Valid s.homes m.1 a × (k' : Keeps wide roomy room terms places (stepped s lock_at w id m.1 v a)) × (((e : Event) × (actor e ≡ id) × Step (desk_in k) e (desk_in k')) ⊎ (desk_in k' ≡ desk_in k)) × LockTried (step slots lock_at 0 1 said) m n (v, carried_after m.1 a))
      (λ e. won s k at e said said_is)
      (λ ne. (
        Holder (after_miss p),
        keeps,
        tt,
        unchanged s k at lock_at (after_miss p) refl (missed s k at ((laws.read_back wide places s.words k.held k.control k.cells k.words).lock_held ne).0) (laws.miss (d s k at) id p k.meets (has s k at)),
        inl (Tries id, refl, (p, has s k at, inr (((laws.read_back wide places s.words k.held k.control k.cells k.words).lock_held ne).0, refl))),
        (λ e. absurd (ne e), λ _. (((laws.read_back wide places s.words k.held k.control k.cells k.words).lock_held ne).1, refl)),
      ))

  pub read_mail_allowed : (index place : ℕ) → index ≡ control_at place → place < places → p.leading ≡ true
      → AsMove wide roomy room terms places slots id m index (λ n. n) (MailRead (step slots index 0 0 none) m)
  read_mail_allowed index place ei lt leads =
      subst (λ i. AsMove wide roomy room terms places slots id m i (λ n. n) (MailRead (step slots i 0 0 none) m)) (sym ei)
      (λ s k long at small. (
        Holder (after_read p place (k.control place)),
        keeps,
        tt,
        unchanged s k at (control_at place) (after_read p place (k.control place)) refl
            (goes s k at (Reads id place) (with_pen (d s k at) id (after_read p place (k.control place))) (p, has s k at, leads, lt, refl)) (laws.read (d s k at) id p k.meets (has s k at) place leads),
        inl (Reads id place, refl, (p, has s k at, leads, lt, refl)),
        λ other e.
            let same : place ≡ other = omega (arith, e) in
            subst (λ o. ControlRead o m (slice_index s.words (control_at place)) (Holder (after_read p place (k.control place)), m.1)) same
            record { desk = d s k at; stands = stands s k at; proper = k.words.proper place lt; word_is = k.words.controls place lt; next = refl },
      ))

  pub read_item_allowed : (index j : ℕ) (due : Due) → index ≡ item_at due.place + j → j < word_number wide → due.place < places → p.due ≡ Some due → due.kind ≡ kind.Push
      → AsMove wide roomy room terms places slots id m index (λ n. n) (ItemRead wide (step slots index 0 0 none) m)
  read_item_allowed index j due ei small lt is_due push =
      subst (λ i. AsMove wide roomy room terms places slots id m i (λ n. n) (ItemRead wide (step slots i 0 0 none) m)) (sym ei)
      (λ s k long at small_word. (
        Holder (after_read_item p due (k.cells due.place)),
        keeps,
        tt,
        unchanged s k at (item_at due.place + j) (after_read_item p due (k.cells due.place)) refl
            (goes s k at (ReadsItem id) (with_pen (d s k at) id (after_read_item p due (k.cells due.place))) (p, due, has s k at, (k.meets.2.due id p (has s k at) due is_due).0, is_due, push, refl))
            (laws.read_item (d s k at) id p k.meets (has s k at) due is_due),
        inl (ReadsItem id, refl, (p, due, has s k at, (k.meets.2.due id p (has s k at) due is_due).0, is_due, push, refl)),
        λ i other e f.
            let dues = same_due due other p.due is_due e in
            let same : j ≡ i = omega (arith, f, ap (λ (o : Due). o.place) dues) in
            subst (λ h. CellRead wide h other m (slice_index s.words (item_at due.place + j)) (Holder (after_read_item p due (k.cells due.place)), m.1)) same
            (subst (λ o. CellRead wide j o m (slice_index s.words (item_at due.place + j)) (Holder (after_read_item p due (k.cells due.place)), m.1)) dues
            record { desk = d s k at; stands = stands s k at; range = k.words.ranges due.place lt; word_is = k.words.items due.place j lt small; next = refl }),
      ))

  pub lay_item_allowed : (index word j : ℕ) (due : Due) (x : Item) → index ≡ item_at due.place + j → word ≡ word_of wide j x → j < word_number wide → due.place < places → p.due ≡ Some due
      → due.kind ≢ kind.Push → IsItemOf wide x
      → AsMove wide roomy room terms places slots id m index (λ _. word) (λ _. ItemLaid wide (step slots index word 0 none) m word)
  lay_item_allowed index word j due x ei ew small lt is_due no_push range =
      at_both (λ i n. AsMove wide roomy room terms places slots id m i (λ _. n) (λ _. ItemLaid wide (step slots i n 0 none) m n)) index (item_at due.place + j) word (word_of wide j x) ei ew
      (λ s k long at small_word.
      let y = k.cells due.place in
      let z = mixed wide j x y in (
        Holder (after_lay p due z),
        keeps,
        tt,
        record {
          held = k.held;
          control = k.control;
          cells = put k.cells due.place z;
          words = laws.item_stored wide places s.words k.held k.control k.cells due.place j x k.words lt small range;
          slots = k.slots;
          reached = goes s k at (LaysItem id z) (with_pen (with_cell (d s k at) due.place z) id (after_lay p due z))
              (p, due, has s k at, (k.meets.2.due id p (has s k at) due is_due).0, is_due, no_push, wider wide z (laws.mix.fits wide j x y range (k.words.ranges due.place lt)), refl);
          meets = laws.lay_item (d s k at) id p k.meets (has s k at) due z is_due no_push;
          duties = stays s k at (after_lay p due z) refl;
          weight = weighs s k at (after_lay p due z) refl;
          memory = k.memory;
        },
        inl (LaysItem id z, refl, (p, due, has s k at, (k.meets.2.due id p (has s k at) due is_due).0, is_due, no_push, wider wide z (laws.mix.fits wide j x y range (k.words.ranges due.place lt)), refl)),
        λ i other x' e range' g f.
            let dues = same_due due other p.due is_due e in
            let same : j ≡ i = omega (arith, g, ap (λ (o : Due). o.place) dues) in
            subst (λ o. WordLaid wide i o x' m (Holder (after_lay p due z), m.1)) dues
            (subst (λ h. WordLaid wide h due x' m (Holder (after_lay p due z), m.1)) same
            record {
              desk = d s k at;
              stands = stands s k at;
              range = k.words.ranges due.place lt;
              next = ap (λ u. (Holder (after_lay p due u), m.1)) (laws.by_word wide j x x' y range range' (f ∙ ap (λ h. word_of wide h x') (sym same)));
            }),
      ))

  pub answer_allowed : (index word : ℕ) (due : Due) (request : Request) (answer : Answer) → index ≡ control_at due.place → word ≡ control_word (answered answer) → due.place < places → p.due ≡ Some due
      → kind_of request ≡ due.kind → IsKept (request_item request) due.item → IsKept (answer_item answer) due.item → MayAnswer (limits_in_hand p) p.hand request answer
      → (roomy p.room → answer ≢ NoMemory) → AsMove wide roomy room terms places slots id m index (λ _. word) (λ _. AnswerStored (step slots index word 0 none) m word)
  answer_allowed index word due request answer ei ew lt is_due kind known laid may unrefused =
      at_both (λ i n. AsMove wide roomy room terms places slots id m i (λ _. n) (λ _. AnswerStored (step slots i n 0 none) m n)) index (control_at due.place) word (control_word (answered answer)) ei ew
      (λ s k long at small.
      let proper = ((laws.due (d s k at) id p k.meets (has s k at) due is_due).answers request answer may).1 in (
        Holder (after_answer p due request answer),
        keeps,
        tt,
        record {
          held = k.held;
          control = put k.control due.place (answered answer);
          cells = k.cells;
          words = laws.control_stored wide places s.words k.held k.control k.cells due.place (answered answer) k.words lt proper;
          slots = k.slots;
          reached = goes s k at (Answers id answer) (with_pen (with_control (d s k at) due.place (answered answer)) id (after_answer p due request answer))
              (p, due, request, has s k at, (k.meets.2.due id p (has s k at) due is_due).0, is_due, kind, known, laid, may, refl);
          meets = laws.answer (d s k at) id p k.meets (has s k at) due request answer is_due kind known laid may;
          duties = stays s k at (after_answer p due request answer) refl;
          weight = weighs s k at (after_answer p due request answer) refl;
          memory = λ all. none_refused k.control due.place (answered answer) (k.memory all) (λ e. unrefused (subst roomy (sym (laws.seated (d s k at) id p k.meets (has s k at)).room) all) (refused_alone answer e));
        },
        inl (Answers id answer, refl, (p, due, request, has s k at, (k.meets.2.due id p (has s k at) due is_due).0, is_due, kind, known, laid, may, refl)),
        λ other q a e kind' known' laid' proper' f.
            let dues = same_due other due p.due e is_due in
            let q_is = same_request request q due.item (kind ∙ sym (kind' ∙ ap (λ (x : Due). x.kind) dues)) known (subst (λ (x : Due). IsKept (request_item q) x.item) dues known') in
            let a_is = same_answer answer a due.item (laws.controls_differ (answered answer) (answered a) proper proper' f) laid (subst (λ (x : Due). IsKept (answer_item a) x.item) dues laid') in
            ap (λ x. (Holder (after_answer p x request answer), m.1)) (sym dues)
            ∙ (ap (λ x. (Holder (after_answer p other x answer), m.1)) q_is ∙ ap (λ x. (Holder (after_answer p other q x), m.1)) a_is),
      ))

  pub apply_allowed : (others : List (ℕ × Slotted)) (request : Request) (answer : Answer) → KeepsInSlot m request answer others
      → p.leading ≡ true → IsIdle p.standing → p.posts < GREATEST_NUMBER → IsProperRequestOf true request → MayAnswer (limits_in_hand p) p.hand request answer
      → AsMove wide roomy room terms places slots id m lock_at (λ n. n) (Applied (step slots lock_at 0 0 none) m)
  apply_allowed others request answer held leads idle few proper may s k long at small =
      let now = time (d s k at) in
      let w = after_apply p request answer now in
      let room_is = (laws.seated (d s k at) id p k.meets (has s k at)).room in (
        Holder w,
        keeps,
        tt,
        unchanged s k at lock_at w refl (goes s k at (Applies id request answer) (with_pen (d s k at) id w) (p, has s k at, leads, idle, few, proper, may, refl))
            (laws.apply (d s k at) id p k.meets (has s k at) request answer now leads idle few proper may),
        inl (Applies id request answer, refl, (p, has s k at, leads, idle, few, proper, may, refl)),
        λ q a other home. (
          (now, ap (λ v. (Holder v, m.1)) (same_applied now p request q answer a may other (ap (λ (b : Volume). b.journal) (same_book m (book_with p (journal_after p.hand p.place (p.posts + 1) request answer)) (book_with p (journal_after p.hand p.place (p.posts + 1) q a)) others (rest m.1) held home)))),
          subst (λ r. Knows r p p.hand) (sym room_is) (laws.leaders (d s k at) id p k.meets (has s k at) leads),
        ),
      )

  pub archive_allowed : (others : List (ℕ × Slotted)) (lines : ℕ) → HasInSlot m (book_in_hand (after_archive p lines)) others → p.leading ≡ true
      → AsMove wide roomy room terms places slots id m lock_at (λ n. n) (Archived (step slots lock_at 0 0 none) m)
  archive_allowed others lines held leads s k long at small =
      let w = after_archive p lines in (
        Holder w,
        keeps,
        tt,
        unchanged s k at lock_at w refl (goes s k at (Archives id lines) (with_pen (d s k at) id w) (p, has s k at, leads, refl)) (laws.archive (d s k at) id p k.meets (has s k at) lines leads),
        inl (Archives id lines, refl, (p, has s k at, leads, refl)),
        λ other home. ap (λ v. (Holder v, m.1)) (same_archived p lines other (same_book m (book_in_hand w) (book_in_hand (after_archive p other)) others (rest m.1) held home)),
      )

  pub change_allowed : (others : List (ℕ × Slotted)) (change : Change) → HasInSlot m (book_in_hand (after_change p change)) others → p.leading ≡ true
      → AsMove wide roomy room terms places slots id m lock_at (λ n. n) (Changed (step slots lock_at 0 0 none) m)
  change_allowed others change held leads s k long at small =
      let w = after_change p change in (
        Holder w,
        keeps,
        tt,
        unchanged s k at lock_at w refl (goes s k at (Changes id change) (with_pen (d s k at) id w) (p, has s k at, leads, refl)) (laws.change (d s k at) id p k.meets (has s k at) change leads),
        inl (Changes id change, refl, (p, has s k at, leads, refl)),
        λ other home. ap (λ v. (Holder v, m.1)) (same_changed p change other (same_book m (book_in_hand w) (book_in_hand (after_change p other)) others (rest m.1) held home)),
      )

  pub hand_out_allowed : AsMove wide roomy room terms places slots id m lock_at (λ n. n) (HandedOut (step slots lock_at 0 0 none) m)
  hand_out_allowed s k long at small =
      let w = after_hand_out p in (
        Holder w,
        keeps,
        tt,
        unchanged s k at lock_at w refl (goes s k at (HandsOut id) (with_pen (d s k at) id w) (p, has s k at, refl)) (laws.hand_out (d s k at) id p k.meets (has s k at)),
        inl (HandsOut id, refl, (p, has s k at, refl)),
        refl,
      )

  pub release_looks : (others : List (ℕ × Slotted)) → HasInSlot m (settled_book (book_in_hand p)) others → p.leading ≡ true
      → AsLook wide roomy room terms places slots id m lock_at (λ _. 0) (λ _. Released (step slots lock_at 0 0 none) m 0)
  release_looks others held leads s k long at small =
      let book = settled_book (book_in_hand p) in
      let homes_are : put_back s.homes m.1 ≡ set s.homes 0 (some (with_book book)) = ap (put_back s.homes) held in
      let slot_is : get_elem? (put_back s.homes m.1) 0 ≡ some (some (with_book book)) =
      ap (λ hs. get_elem? hs 0) homes_are ∙ set_here s.homes 0 (some (with_book book)) (let e = k.slots in omega arith) in
      let back : book_at_home (put_back s.homes m.1) ≡ Some book = ap book_in slot_is in (
        Holder (after_release p),
        gives,
        tt,
        record {
          held = false;
          control = k.control;
          cells = k.cells;
          words = laws.lock_stored wide places s.words k.held false k.control k.cells k.words;
          slots = ap length homes_are ∙ (length-set s.homes 0 (some (with_book book)) ∙ k.slots);
          reached = home_is s k at (IsReached places (first_limits room terms)) false (put_back s.homes m.1) (slice_set s.views id (Holder (after_release p))) (Some book) back
              (goes s k at (Releases id) (with_pen (freed (d s k at) (book_in_hand p)) id (after_release p)) (p, has s k at, leads, refl));
          meets = home_is s k at MeetsRule false (put_back s.homes m.1) (slice_set s.views id (Holder (after_release p))) (Some book) back
              (laws.release (d s k at) id p k.meets (has s k at) leads);
          duties = stays s k at (after_release p) refl;
          weight = weighs s k at (after_release p) refl;
          memory = k.memory;
        },
        home_is s k at (λ y. (step : Step (d s k at) (Releases id) y) × (looking.sights_of (d s k at) (Releases id) y step ≡ looking.Looked p.place p.hand ∷ [])) false (put_back s.homes m.1) (slice_set s.views id (Holder (after_release p))) (Some book) back
            ((p, has s k at, leads, refl), refl),
        refl,
      )

  pub release_allowed : (others : List (ℕ × Slotted)) → HasInSlot m (settled_book (book_in_hand p)) others → p.leading ≡ true
      → AsMove wide roomy room terms places slots id m lock_at (λ _. 0) (λ _. Released (step slots lock_at 0 0 none) m 0)
  release_allowed others held leads s k long at small =
      let t = release_looks others held leads s k long at small in
      (t.0, t.1, t.2, t.3, inl (Releases id, refl, t.4.0), t.5)

  pub release_with_allowed : (others : List (ℕ × Slotted)) (operation : Operation) (answer : Answer) → BringsHomeBy m operation answer others
      → p.leading ≡ true → p.due ≡ None → IsIdle p.standing → p.posts < GREATEST_NUMBER → IsProperOperationOf true operation → MayDo (limits_in_hand p) p.hand operation answer
      → AsMove wide roomy room terms places slots id m lock_at (λ _. 0) (λ _. ReleasedWith (step slots lock_at 0 0 none) m 0)
  release_with_allowed others operation answer held leads none_due idle few proper may s k long at small =
      let raw = book_with p (journal_by p.hand p.place (p.posts + 1) operation answer) in
      let book = settled_book raw in
      let w = after_release_by p operation answer (time (d s k at)) in
      let room_is = (laws.seated (d s k at) id p k.meets (has s k at)).room in
      let homes_are : put_back s.homes m.1 ≡ set s.homes 0 (some (with_book book)) = ap (put_back s.homes) held in
      let slot_is : get_elem? (put_back s.homes m.1) 0 ≡ some (some (with_book book)) =
      ap (λ hs. get_elem? hs 0) homes_are ∙ set_here s.homes 0 (some (with_book book)) (let e = k.slots in omega arith) in
      let back : book_at_home (put_back s.homes m.1) ≡ Some book = ap book_in slot_is in (
        Holder w,
        gives,
        tt,
        record {
          held = false;
          control = k.control;
          cells = k.cells;
          words = laws.lock_stored wide places s.words k.held false k.control k.cells k.words;
          slots = ap length homes_are ∙ (length-set s.homes 0 (some (with_book book)) ∙ k.slots);
          reached = home_is s k at (IsReached places (first_limits room terms)) false (put_back s.homes m.1) (slice_set s.views id (Holder w)) (Some book) back
              (goes s k at (ReleasesBy id operation answer) (with_pen (freed (d s k at) raw) id w) (p, has s k at, leads, none_due, idle, few, proper, may, refl));
          meets = home_is s k at MeetsRule false (put_back s.homes m.1) (slice_set s.views id (Holder w)) (Some book) back
              (laws.release_by (d s k at) id p k.meets (has s k at) operation answer (time (d s k at)) leads none_due idle few proper may);
          duties = stays s k at w refl;
          weight = weighs s k at w refl;
          memory = k.memory;
        },
        inl (
          ReleasesBy id operation answer,
          refl,
          home_is s k at (λ y. Step (d s k at) (ReleasesBy id operation answer) y) false (put_back s.homes m.1) (slice_set s.views id (Holder w)) (Some book) back
              (p, has s k at, leads, none_due, idle, few, proper, may, refl),
        ),
        λ q a other home. (
          (time (d s k at), ap (λ v. (Holder v, rest m.1)) (same_ended (time (d s k at)) p operation q answer a may other (ap (λ (b : Volume). b.journal) (same_book m book (settled_book (book_with p (journal_by p.hand p.place (p.posts + 1) q a))) others (rest m.1) held home)))),
          subst (λ r. Knows r p p.hand) (sym room_is) (laws.leaders (d s k at) id p k.meets (has s k at) leads),
        ),
      )

  pub look_allowed : (index : ℕ) (request : Request) → index ≡ control_at p.place → p.standing ≡ Waiting request
      → AsMove wide roomy room terms places slots id m index (λ n. n) (AnswerLooked roomy (step slots index 0 0 none) m)
  look_allowed index request ei waits =
      subst (λ i. AsMove wide roomy room terms places slots id m i (λ n. n) (AnswerLooked roomy (step slots i 0 0 none) m)) (sym ei)
      (λ s k long at small. (
        Holder (after_look p request (k.control p.place) (time (d s k at))),
        keeps,
        tt,
        unchanged s k at (control_at p.place) (after_look p request (k.control p.place) (time (d s k at))) refl
            (goes s k at (Looks id) (with_pen (d s k at) id (after_look p request (k.control p.place) (time (d s k at)))) (p, request, has s k at, waits, refl)) (laws.look (d s k at) id p k.meets (has s k at) request (time (d s k at)) waits),
        inl (Looks id, refl, (p, request, has s k at, waits, refl)),
        λ other e. (
          subst (λ o. Looked o m (slice_index s.words (control_at p.place)) (Holder (after_look p request (k.control p.place) (time (d s k at))), m.1)) (same_waiting request other p.standing waits e)
              record { desk = d s k at; stands = stands s k at; proper = k.words.proper p.place (inside s k at); word_is = k.words.controls p.place (inside s k at); now = time (d s k at); next = refl },
          λ all is_refused. k.memory (subst roomy (laws.seated (d s k at) id p k.meets (has s k at)).room all) p.place
              (laws.controls_differ (k.control p.place) (answered answer.NoMemory) (k.words.proper p.place (inside s k at)) tt (sym (k.words.controls p.place (inside s k at)) ∙ is_refused)),
        ),
      ))

  pub see_allowed : (index j : ℕ) (request : Request) (notice : Notice) → index ≡ item_at p.place + j → j < word_number wide → p.standing ≡ Waiting request → p.own ≡ Answered notice → notice_has_item notice ≡ true
      → AsMove wide roomy room terms places slots id m index (λ n. n) (ItemSeen wide (step slots index 0 0 none) m)
  see_allowed index j request notice ei small waits own item =
      subst (λ i. AsMove wide roomy room terms places slots id m i (λ n. n) (ItemSeen wide (step slots i 0 0 none) m)) (sym ei)
      (λ s k long at small_word. (
        Holder (after_see p (k.cells p.place)),
        keeps,
        tt,
        unchanged s k at (item_at p.place + j) (after_see p (k.cells p.place)) refl
            (goes s k at (SeesItem id) (with_pen (d s k at) id (after_see p (k.cells p.place))) (p, request, notice, has s k at, waits, own, item, refl))
            (laws.see_item (d s k at) id p k.meets (has s k at) request waits (ap is_answer own)),
        inl (SeesItem id, refl, (p, request, notice, has s k at, waits, own, item, refl)),
        λ i e.
            let same : j ≡ i = omega (arith, e) in
            subst (λ h. WordSeen wide h m (slice_index s.words (item_at p.place + j)) (Holder (after_see p (k.cells p.place)), m.1)) same
            record { desk = d s k at; stands = stands s k at; range = k.words.ranges p.place (inside s k at); word_is = k.words.items p.place j (inside s k at) small; next = refl },
      ))

  pub take_allowed : (index j : ℕ) (request : Request) (notice : Notice) → index ≡ item_at p.place + j → j < word_number wide → p.standing ≡ Waiting request → p.own ≡ Answered notice → notice_has_item notice ≡ true
      → AsMove wide roomy room terms places slots id m index (λ n. n) (ItemTaken wide (step slots index 0 0 none) m)
  take_allowed index j request notice ei small waits own item =
      subst (λ i. AsMove wide roomy room terms places slots id m i (λ n. n) (ItemTaken wide (step slots i 0 0 none) m)) (sym ei)
      (λ s k long at small_word. (
        Holder (after_take p request notice (k.cells p.place) (time (d s k at))),
        keeps,
        tt,
        unchanged s k at (item_at p.place + j) (after_take p request notice (k.cells p.place) (time (d s k at))) refl
            (goes s k at (TakesItem id) (with_pen (d s k at) id (after_take p request notice (k.cells p.place) (time (d s k at)))) (p, request, notice, has s k at, waits, own, item, refl))
            (laws.take_item (d s k at) id p k.meets (has s k at) request notice (time (d s k at)) waits own),
        inl (TakesItem id, refl, (p, request, notice, has s k at, waits, own, item, refl)),
        λ i q n e f g.
            let same : j ≡ i = omega (arith, g) in
            let word = slice_index s.words (item_at p.place + j) in
            subst (λ h. Taken wide h q n m word (Holder (after_take p request notice (k.cells p.place) (time (d s k at))), m.1)) same
            (subst (λ x. Taken wide j x n m word (Holder (after_take p request notice (k.cells p.place) (time (d s k at))), m.1)) (same_waiting request q p.standing waits e)
            (subst (λ x. Taken wide j request x m word (Holder (after_take p request notice (k.cells p.place) (time (d s k at))), m.1)) (same_notice notice n p.own own f)
            record { desk = d s k at; stands = stands s k at; range = k.words.ranges p.place (inside s k at); word_is = k.words.items p.place j (inside s k at) small; now = time (d s k at); next = refl })),
      ))

-- what is allowed as a move is allowed as the table asks
pub plainly_of : (R : ℕ → Seated → Desk → Desk → Type 0) (wide : Bool) (roomy : ℕ → Type 0) (room : ℕ) (terms : Terms) (places slots id : ℕ) (m : Seated) (i : ℕ) (f : ℕ → ℕ) (then : ℕ → Seated → Type 0)
    → AsTo R wide roomy room terms places slots id m i f then → Plainly wide roomy room terms places slots id m i f then
plainly_of R wide roomy room terms places slots id m i f then h s k long at small = let t = h s k long at small in (t.0, t.1, t.2, t.3, t.5)

pub plainly : (wide : Bool) (roomy : ℕ → Type 0) (room : ℕ) (terms : Terms) (places slots id : ℕ) (m : Seated) (i : ℕ) (f : ℕ → ℕ) (then : ℕ → Seated → Type 0)
    → AsMove wide roomy room terms places slots id m i f then → Plainly wide roomy room terms places slots id m i f then
plainly = plainly_of StepsOrStays
