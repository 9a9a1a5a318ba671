-- Runs of requests, removals and moves on a Book, by induction over them.
use Rattle.std.proofs.Common.{◌≡◌, ℕ, ◌+◌, ◌<◌, List, [], ◌∷◌, ◌++◌, length, map, length-append, refl, sym, ◌∙◌, ap, subst, arith}
use Rattle.pq_types.specs.Asked.{Operation, Answer, Line}
use Rattle.pq_types.specs.declared.answer.Answer.TheVariants.{Entered, BookFull, NoMemory, Refused}
use Rattle.pq_types.specs.Operation.{Asked}
use Rattle.pq_types.specs.Entry.{entries_after, reply_by}
use Rattle.pq_types.specs.History.{line_of, entries_of, IsLegal, SerialsRise, last_serial, journal_by, MayDo}
use Rattle.pq_types.specs.Laws.{EntersOneMore, StaysLegal, StillRises}
use Rattle.pq_book.specs.Book.{Dealing, limits, MayDeal, with_entered, with_reply}
use Rattle.pq_book.specs.Runs.{Doing, as_doing, MayRun, DoingsJoin, entered_operations, done_replies, entries_after_all, replies_by_from}
use Rattle.pq_book.proofs.Serials.{above_each}

-- One operation, by its answer, before others of which the claim holds.
module _ (enters : EntersOneMore) (legal_more : StaysLegal) (rise_more : StillRises) (room bound allowed : ℕ) (journal : List Line) (place serial : ℕ) (o : Operation) where
  abbrev after_it : Answer → List Line
  after_it a = journal_by journal place serial o a

  replies_of_one : (a : Answer) (ds : List Doing) → MayDo (limits room bound allowed) journal o a
      → done_replies ds ≡ replies_by_from (entries_of (after_it a)) (length (after_it a) + 1) (entered_operations ds)
      → with_reply a (done_replies ds) ≡ replies_by_from (entries_of journal) (length journal + 1) (with_entered a o (entered_operations ds))
  replies_of_one (Entered n r) ds may rest =
      let l = line_of place serial o r in
      let size : length (journal ++ l ∷ []) ≡ length journal + 1 = omega (arith, length-append {A = Line} journal (l ∷ [])) in
      ap (λ x. x ∷ done_replies ds) may.2
      ∙ ap (λ xs. reply_by (entries_of journal) o ∷ xs)
      (rest ∙ ap (λ es. replies_by_from es (length (journal ++ l ∷ []) + 1) (entered_operations ds)) (enters journal l)
      ∙ ap (λ m. replies_by_from (entries_after (entries_of journal) (length journal + 1) o) (m + 1) (entered_operations ds)) size)
  replies_of_one BookFull ds may rest = rest
  replies_of_one NoMemory ds may rest = rest
  replies_of_one (Refused why) ds may rest = rest

  entries_of_one : (a : Answer) (ds : List Doing) (after : List Line)
      → entries_of after ≡ entries_after_all (entries_of (after_it a)) (length (after_it a) + 1) (entered_operations ds)
      → entries_of after ≡ entries_after_all (entries_of journal) (length journal + 1) (with_entered a o (entered_operations ds))
  entries_of_one (Entered n r) ds after rest =
      let l = line_of place serial o r in
      let size : length (journal ++ l ∷ []) ≡ length journal + 1 = omega (arith, length-append {A = Line} journal (l ∷ [])) in
      rest ∙ ap (λ es. entries_after_all es (length (journal ++ l ∷ []) + 1) (entered_operations ds)) (enters journal l)
      ∙ ap (λ m. entries_after_all (entries_after (entries_of journal) (length journal + 1) o) (m + 1) (entered_operations ds)) size
  entries_of_one BookFull ds after rest = rest
  entries_of_one NoMemory ds after rest = rest
  entries_of_one (Refused why) ds after rest = rest

  lines_of_one : (a : Answer) (ds : List Doing) (after : List Line) → length after ≡ length (after_it a) + length (entered_operations ds)
      → length after ≡ length journal + length (with_entered a o (entered_operations ds))
  lines_of_one (Entered n r) ds after rest = omega (arith, rest, length-append {A = Line} journal (line_of place serial o r ∷ []))
  lines_of_one BookFull ds after rest = rest
  lines_of_one NoMemory ds after rest = rest
  lines_of_one (Refused why) ds after rest = rest

  legal_of_one : (a : Answer) → MayDo (limits room bound allowed) journal o a → IsLegal journal → IsLegal (after_it a)
  legal_of_one (Entered n r) may legal = legal_more journal (line_of place serial o r) legal may.2
  legal_of_one BookFull may legal = legal
  legal_of_one NoMemory may legal = legal
  legal_of_one (Refused why) may legal = legal

  rise_of_one : (a : Answer) → last_serial place journal < serial → SerialsRise journal → SerialsRise (after_it a)
  rise_of_one (Entered n r) above rise = rise_more journal (line_of place serial o r) rise (above_each place serial journal above)
  rise_of_one BookFull above rise = rise
  rise_of_one NoMemory above rise = rise
  rise_of_one (Refused why) above rise = rise

-- runs one after another
pub doings_join : DoingsJoin
doings_join room bound journal middle after [] then h k = subst (λ j. MayRun room bound j then after) h k
doings_join room bound journal middle after (d ∷ ds) then h k =
    (h.0, h.1, doings_join room bound (journal_by journal d.place d.serial d.operation d.answer) middle after ds then h.2 k)

-- a run of requests is one
pub requests_run : (room bound : ℕ) (journal : List Line) (ds : List Dealing) (after : List Line) → MayDeal room bound journal ds after
    → MayRun room bound journal (map as_doing ds) after
requests_run room bound journal [] after h = h
requests_run room bound journal (d ∷ ds) after h = (h.0, h.1, requests_run room bound (journal_by journal d.place d.serial (Asked d.request) d.answer) ds after h.2)

-- what a run keeps of its first journal, by induction
pub record Ran (journal : List Line) (ds : List Doing) (after : List Line) : Type 0 where
  pub replies : done_replies ds ≡ replies_by_from (entries_of journal) (length journal + 1) (entered_operations ds)
  pub entries : entries_of after ≡ entries_after_all (entries_of journal) (length journal + 1) (entered_operations ds)
  pub lines : length after ≡ length journal + length (entered_operations ds)
  pub legal : IsLegal journal → IsLegal after
  pub rise : SerialsRise journal → SerialsRise after

module _ (enters : EntersOneMore) (legal_more : StaysLegal) (rise_more : StillRises) where
  one_before : (room bound : ℕ) (journal : List Line) (d : Doing) (ds : List Doing) (after : List Line)
      → last_serial d.place journal < d.serial → MayDo (limits room bound d.allowed) journal d.operation d.answer
      → Ran (journal_by journal d.place d.serial d.operation d.answer) ds after → Ran journal (d ∷ ds) after
  one_before room bound journal d ds after above may rest = record {
    replies = replies_of_one enters legal_more rise_more room bound d.allowed journal d.place d.serial d.operation d.answer ds may rest.replies;
    entries = entries_of_one enters legal_more rise_more room bound d.allowed journal d.place d.serial d.operation d.answer ds after rest.entries;
    lines = lines_of_one enters legal_more rise_more room bound d.allowed journal d.place d.serial d.operation d.answer ds after rest.lines;
    legal = λ h. rest.legal (legal_of_one enters legal_more rise_more room bound d.allowed journal d.place d.serial d.operation d.answer may h);
    rise = λ h. rest.rise (rise_of_one enters legal_more rise_more room bound d.allowed journal d.place d.serial d.operation d.answer above h);
  }

  pub ran : (room bound : ℕ) (journal : List Line) (ds : List Doing) (after : List Line) → MayRun room bound journal ds after → Ran journal ds after
  ran room bound journal [] after h = record {
    replies = refl;
    entries = ap entries_of h;
    lines = omega (arith, ap length h);
    legal = λ legal. subst IsLegal (sym h) legal;
    rise = λ rise. subst SerialsRise (sym h) rise;
  }
  ran room bound journal (d ∷ ds) after h =
      one_before room bound journal d ds after h.0 h.1 (ran room bound (journal_by journal d.place d.serial d.operation d.answer) ds after h.2)
