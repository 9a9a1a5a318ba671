-- The players of `seq` keep the serials at the journal's length, and are seen as their journals.
use Rattle.std.proofs.Common.{◌≡◌, ℕ, ◌+◌, ◌≤◌, Bool, false, List, [], ◌∷◌, length, length-append, Option, Result, Ok, Err, refl, sym, ◌∙◌, ap, subst, arith}
use Rattle.std.specs.Prelude.{◌||◌}
use Rattle.pq_types.specs.Asked.{Request}
use Rattle.pq_types.specs.Asked.{Answer}
use Rattle.pq_types.specs.declared.answer.Answer.TheVariants.{Entered, BookFull, NoMemory, Refused}
use Rattle.pq_types.specs.Asked.{Line}
use Rattle.pq_types.specs.Operation.{Asked}
use Rattle.pq_types.specs.History.{line, last_serial, journal_after, is_shut, MayAnswer, MayDo}
use Rattle.pq_types.specs.Laws.{SerialOfOneMore, ShutByOneMore, PlainRefuseNothing, MayDoPlainly, plain}
use Rattle.pq_book.specs.Book.{Volume, limits, limits_of, IsPlain, KeepsTerms}
use Rattle.line_script.specs.declared.error.RunError.{RunError}
use Rattle.line_script.specs.declared.lines.TheConstants.{LONGEST_LINE}
use Rattle.line_script.specs.Lines.{lines_of}
use Rattle.line_script.specs.Script.{Kind, PlaysAll, WritesAs}
use Rattle.queue_texts.specs.declared.faults.Refusal.{Refusal}
use Rattle.queue_texts.specs.SeqText.{TakesCommands, PlaysCommand, RefusesCommand, commands, SeqWrites}
use Rattle.queue_texts.proofs.Follow.{Follows, all_follow, writes_follow}

numbered_after : SerialOfOneMore → (journal : List Line) (q : Request) (a : Answer) → last_serial 0 journal ≤ length journal
    → last_serial 0 (journal_after journal 0 (length journal + 1) q a) ≤ length (journal_after journal 0 (length journal + 1) q a)
numbered_after last_serial-snoc journal q (Entered n r) h =
    let l = line 0 (length journal + 1) q r in
    omega (arith, last_serial-snoc 0 journal l, length-append {A = Line} journal (l ∷ []), h)
numbered_after last_serial-snoc journal q BookFull h = h
numbered_after last_serial-snoc journal q NoMemory h = h
numbered_after last_serial-snoc journal q (Refused why) h = h

-- a request shuts no queue
unshut_after : ShutByOneMore → (journal : List Line) (serial : ℕ) (q : Request) (a : Answer) → is_shut journal ≡ false
    → is_shut (journal_after journal 0 serial q a) ≡ false
unshut_after shut-snoc journal serial q (Entered n r) h = shut-snoc journal (line 0 serial q r) ∙ ap (λ b. b || false) h
unshut_after shut-snoc journal serial q BookFull h = h
unshut_after shut-snoc journal serial q NoMemory h = h
unshut_after shut-snoc journal serial q (Refused why) h = h

-- with one line more the Book still takes commands
pub still_ready : SerialOfOneMore → ShutByOneMore → (book after : Volume) (serial : ℕ) (q : Request) (a : Answer) → serial ≡ length book.journal + 1
    → after.journal ≡ journal_after book.journal 0 serial q a → KeepsTerms book after → after.allowed ≡ book.allowed
    → TakesCommands book → TakesCommands after
still_ready last_serial-snoc shut-snoc book after serial q a next e terms allowed h = record {
  plain = (terms.1 ∙ h.plain.0 ∙ ap (λ n. n + 1) (sym terms.0), allowed ∙ h.plain.1 ∙ sym terms.0);
  unshut = ap is_shut e ∙ unshut_after shut-snoc book.journal serial q a h.unshut;
  numbered =
      subst (λ ls. last_serial 0 ls ≤ length ls) (sym (e ∙ ap (λ n. journal_after book.journal 0 n q a) next))
      (numbered_after last_serial-snoc book.journal q a h.numbered);
}

pub ready_none : (book : Volume) → book.journal ≡ [] → IsPlain book → TakesCommands book
ready_none book e plain = record {
  plain = plain;
  unshut = ap is_shut e;
  numbered = subst (λ ls. last_serial 0 ls ≤ length ls) (sym e) (omega arith);
}

-- such a Book answers as if there were no refusals but for room and memory
pub answered_plainly : PlainRefuseNothing → (book : Volume) (q : Request) (a : Answer) → TakesCommands book
    → MayAnswer (limits_of book) book.journal q a → MayDoPlainly book.room book.journal (Asked q) a
answered_plainly law book q a h may =
    let same : limits_of book ≡ plain book.room =
    ap (λ n. limits book.room n book.allowed) h.plain.0 ∙ ap (λ n. limits book.room (book.room + 1) n) h.plain.1 in
    (law book.room book.journal (Asked q) a h.unshut).0 (subst (λ x. MayDo x book.journal (Asked q) a) same may)

-- players with a Book, seen as its journal
module _ {S : Type 0} (wide : Bool) (book : S → Volume) where
  abbrev over_book : Kind S Refusal
  over_book = record {
    longest = LONGEST_LINE;
    plays = λ s line text t. ((book t).room ≡ (book s).room) × PlaysCommand wide (book s).room (book s).journal line text (book t).journal;
    refuses = λ s. RefusesCommand wide;
    ends = λ s r. r ≡ Ok tt;
  }

  -- a player stands for its Book's journal, with this room
  abbrev HasJournal : ℕ → S → List Line → Type 0
  HasJournal room s journal = ((book s).room ≡ room) × ((book s).journal ≡ journal)

  follows : (room : ℕ) → Follows over_book (commands wide room) (HasJournal room)
  follows room = record {
    longest = refl;
    plays = λ s t journal line text h p. ((book t).journal, (p.0 ∙ h.0, refl), subst (λ n. PlaysCommand wide n journal line text (book t).journal) h.0 (subst (λ j. PlaysCommand wide (book s).room j line text (book t).journal) h.1 p.1));
    refuses = λ s journal n line reason h p. p;
    ends = λ s journal r h p. p;
  }

  -- the whole script is played, and the player that is handed back has the journal of it
  pub seq_finishes : (room : ℕ) (s t : S) (input : List ℕ) (unread : Option (List ℕ)) (r : Result S (RunError Refusal)) (text : List ℕ) → (book s).room ≡ room → (book s).journal ≡ [] → WritesAs over_book s input unread r text → r ≡ Ok t → SeqWrites wide room input unread (Ok (book t)) text
  seq_finishes room s t input unread (Ok t') text h empty ((plays, ends), at_end) e =
      let all = all_follow over_book (commands wide room) (HasJournal room) (follows room) s t' [] (lines_of input) text (h, empty) plays in
      let same : t' ≡ t = cc in
      subst (λ x. SeqWrites wide room input unread (Ok (book x)) text) same ((subst (λ j. PlaysAll (commands wide room) [] (lines_of input) text j) (sym all.1.1) all.2, refl), at_end)
  seq_finishes room s t input unread (Err why) text h empty p e = absurd (cc)

  -- the run ends before its script does
  pub seq_stops : (room : ℕ) (s : S) (input : List ℕ) (unread : Option (List ℕ)) (r : Result S (RunError Refusal)) (why : RunError Refusal) (text : List ℕ) → (book s).room ≡ room → (book s).journal ≡ [] → WritesAs over_book s input unread r text → r ≡ Err why → SeqWrites wide room input unread (Err why) text
  seq_stops room s input unread (Ok t) why text h empty p e = absurd (cc)
  seq_stops room s input unread (Err why') why text h empty p e =
      let same : why' ≡ why = cc in
      subst (λ x. SeqWrites wide room input unread (Err x) text) same (writes_follow over_book (commands wide room) (HasJournal room) (follows room) s [] input unread (Err why') text (h, empty) p)
