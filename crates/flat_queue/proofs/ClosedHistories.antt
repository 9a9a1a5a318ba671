-- What the members keep with whom a queue is closed is of one history, which the Book's journal linearizes.
use Rattle.std.proofs.Common.{◌≡◌, ℕ, ◌≤◌, inl, inr, true, List, length, map, slice_get, refl, sym, ap, ◌∙◌, subst}
use Rattle.std.specs.Prelude.{Some, None}
use Rattle.std.proofs.lemmas.Option.{slice_get_within}
use Rattle.pq_types.specs.Asked.{Line, Request}
use Rattle.pq_types.specs.declared.answer.Answer.TheVariants.{Entered}
use Rattle.pq_types.specs.declared.journal.TheConstants.{GREATEST_NUMBER}
use Rattle.pq_book.specs.Book.{Volume}
use Rattle.desk_core.specs.Calls.{call_of, calls_of}
use Rattle.desk_core.specs.CallLines.{CallsAreLines}
use Rattle.desk_core.specs.Clauses.{LockClause}
use Rattle.desk_core.specs.Dealing.{EveryDealtRunIsLinearizable, dealt_history}
use Rattle.desk_core.specs.Desk.{Desk, dealer_opening}
use Rattle.desk_core.specs.Linearizable.{Act, Linearizes}
use Rattle.desk_core.specs.Rule.{Lock}
use Rattle.desk_core.specs.Testimonies.{after_retiring}
use Rattle.desk_core.specs.Times.{EveryDealtRunIsTimed, EveryDealtRunIsWhole, IsTimed, IsWhole}
use Rattle.desk_core.specs.Witnessed.{IsWitnessed}
use Rattle.desk_core.specs.declared.model.PenState.{PenState}
use Rattle.desk_core.specs.declared.model.Standing.{Standing}
use Rattle.desk_core.specs.declared.model.Standing.TheVariants.{Idle, Waiting}
use Rattle.desk_core.proofs.CallLines.{line_is_call}
use Rattle.announce_board.specs.declared.terms.Terms.{Terms}
use Rattle.announce_board.specs.Opening.{IsHomeWithAll}
use Rattle.announce_board.specs.Slots.{first_limits}
use Rattle.announce_board.specs.Tokens.{is_idle}
use Rattle.flat_queue.specs.Closing.{ClosedAreLinearized, retired_pen}
use Rattle.flat_queue.specs.Members.{Joined}
use Rattle.flat_queue.proofs.Closes.{retires_at}
use Rattle.flat_queue.proofs.Idle.{idle_known}

-- what a retired pen keeps, it kept before
timed_before : (history : List Act) (p : PenState) → IsTimed history (after_retiring p) → IsTimed history p
timed_before history p t = record { begun = t.begun; ended = t.ended }

whole_before : (history : List Act) (until : ℕ) (p : PenState) → IsWhole history until (after_retiring p) → IsWhole history until p
whole_before history until p w = record { begun = w.begun; ended = w.ended }

-- the room of the desk is that of the Book at home, and so is its journal
home_room : (d : Desk) (journal : List Line) (chief : ℕ) (book : Volume) → Lock d journal chief → d.home ≡ Some book → d.room ≡ book.room
home_room d journal chief book (inl (free, home)) at =
    let some : Some home.book ≡ Some book = sym home.is ∙ at in
    let same : home.book ≡ book = cc in sym home.room_is ∙ ap (λ (b : Volume). b.room) same
home_room d journal chief book (inr (held, home, led)) at = absurd (let none : None ≡ Some book = sym home ∙ at in cc)

home_journal : (d : Desk) (journal : List Line) (book : Volume) → LockClause d journal → d.home ≡ Some book → journal ≡ book.journal
home_journal d journal book (inl (free, home, none)) at =
    let some : Some home.book ≡ Some book = sym home.is ∙ at in
    let same : home.book ≡ book = cc in sym home.journal_is ∙ ap (λ (b : Volume). b.journal) same
home_journal d journal book (inr (held, home, led)) at = absurd (let none : None ≡ Some book = sym home ∙ at in cc)

room_is : (room : ℕ) (terms : Terms) (pens : List PenState) (book : Volume) → (h : IsHomeWithAll room terms pens book) → h.desk.room ≡ room
room_is room terms pens book h = let (journal, chief, rule) = h.meets in home_room h.desk journal chief book rule.lock h.at_home ∙ h.room_is

room_in_range : (room : ℕ) (terms : Terms) (pens : List PenState) (book : Volume) → IsHomeWithAll room terms pens book → room ≤ GREATEST_NUMBER
room_in_range room terms pens book h = let (journal, chief, rule) = h.meets in subst (λ n. n ≤ GREATEST_NUMBER) (room_is room terms pens book h) rule.room_in_range

-- an idle pen waits for nothing
not_waiting : (s : Standing) (request : Request) → is_idle s ≡ true → s ≡ Waiting request → ⊥
not_waiting (Idle draft) request idle e = cc e
not_waiting (Waiting other) request idle e = cc idle

-- an idle pen, whose calls are those that the journal has of its place, is witnessed
idle_witnessed : CallsAreLines → (room : ℕ) (history : List Act) (journal : List Line) (p : PenState) → Linearizes room history journal → p.room ≡ room → IsTimed history p
    → IsWhole history (length history) p → calls_of p.place journal ≡ p.mine → is_idle p.standing ≡ true → IsWitnessed room history journal p
idle_witnessed lines room history journal p fits here timed whole exact idle =
    record {
      room_is = here;
      timed = timed;
      whole = λ until kept.
          record {
            begun = λ serial n operation before at. whole.begun serial n operation (slice_get_within history n _ at) at;
            ended = λ serial n answer before at. whole.ended serial n answer (slice_get_within history n _ at) at;
          };
      calls = lines p.place journal p.mine exact;
      read = λ serial n number reply ended at.
          let (operation, stands) = fits.ended p.place serial (Entered number reply) (n, at) in
          let c = call_of number serial operation reply in
          let (k, there) = line_is_call journal p.place c stands in (k, c, subst (λ cs. slice_get cs k ≡ Some c) exact there, refl);
      asked = λ request waits. absurd (not_waiting p.standing request idle waits);
    }

module _ (lines : CallsAreLines) (linearizable : EveryDealtRunIsLinearizable) (are_timed : EveryDealtRunIsTimed) (are_whole : EveryDealtRunIsWhole) where
  pub closed_are_linearized : ClosedAreLinearized
  closed_are_linearized room terms members book h rooms knows =
      let (moves, run) = h.reached in
      let places = h.desk.places in
      let first = first_limits room terms in
      let small = room_in_range room terms (map retired_pen members) book h in
      let seen = dealt_history (dealer_opening places first) moves h.desk run in
      let (journal, lock, fits) = linearizable places first moves h.desk small run in
      let linearizes = subst (Linearizes room seen) (home_journal h.desk journal book lock h.at_home) fits in
      let all = are_timed places first moves h.desk run in
      let timed : (i : ℕ) (m : Joined) → slice_get members i ≡ Some m → IsTimed seen m.pen =
      λ i m at. let (seat, has) = h.seated i (retired_pen m) (retires_at members i m at) in timed_before seen m.pen (all.pens seat (retired_pen m) has) in
      let whole : (i : ℕ) (m : Joined) → slice_get members i ≡ Some m → IsWhole seen (length seen) m.pen =
      λ i m at.
      let (seat, has) = h.seated i (retired_pen m) (retires_at members i m at) in
      whole_before seen (length seen) m.pen
      (subst (λ n. IsWhole seen n (retired_pen m)) (sym all.counted) (are_whole places first moves h.desk small run seat (retired_pen m) has)) in
      record {
        history = seen;
        linearizes = linearizes;
        timed = timed;
        whole = whole;
        witnessed = λ i m at idle.
            idle_witnessed lines room seen book.journal m.pen linearizes (rooms i m at) (timed i m at) (whole i m at) (idle_known room m.pen book.journal (knows i m at) idle) idle;
      }
