-- No line of a lawful journal is refused.
use Rattle.std.proofs.Common.{◌≡◌, ℕ, ◌+◌, ◌<◌, Bool, true, false, inl, inr, List, [], ◌∷◌, ◌++◌, length, Ok, Err, refl, sym, ◌∙◌, ap, subst, arith}
use Rattle.std.specs.Prelude.{◌||◌}
use Rattle.std.specs.List.{AllByRecursion}
use Rattle.std.proofs.lemmas.Bool.Decides.{nat_tests}
use Rattle.pq_types.specs.Asked.{Line}
use Rattle.pq_types.specs.Entry.{Entry, entries_after, reply_by}
use Rattle.pq_types.specs.History.{entries_from, entries_of, IsLegal, IsLegalFrom, SerialsRise, last_serial}
use Rattle.pq_types.specs.History.{shuts, is_shut, EndsAtShut, IsHeard, HeedsShut}
use Rattle.queue_texts.specs.Laws.{LinesAreReadOnce}
use Rattle.queue_texts.specs.LineText.{IsLineText}
use Rattle.line_script.specs.declared.error.RunError.{RunError}
use Rattle.line_script.specs.declared.error.RunError.TheVariants.{Refused, TooLong, NoMemory, Input, Output}
use Rattle.line_script.specs.Lines.{lines_of, without_return}
use Rattle.queue_texts.specs.declared.refusal.Breach.{Breach}
use Rattle.queue_texts.specs.declared.refusal.Breach.TheVariants.{WrongNumber, SerialFalls, BehindShut, WrongReply, WrongRemoval, WrongMove}
use Rattle.queue_texts.specs.declared.refusal.Unlawful.{Unlawful}
use Rattle.queue_texts.specs.declared.refusal.Unlawful.TheVariants.{NoLine, Broken}
use Rattle.queue_texts.specs.declared.refusal.AuditRefusal.{AuditRefusal}
use Rattle.queue_texts.specs.Replay.{Follows, MayFollow}
use Rattle.queue_texts.specs.Audit.{SpellsFrom, IsLawful, Breaks, IsUnlawful, IsRefused, IsFirst, LawfulIsNotRefused}

-- the reply of a line in a legal history
reply_at : (es : List Entry) (n : ℕ) (before : List Line) (l : Line) (behind : List Line) → IsLegalFrom es n (before ++ l ∷ behind)
    → l.reply ≡ reply_by (entries_from es n before) l.operation
reply_at es n [] l behind h = h.0
reply_at es n (m ∷ before) l behind h = reply_at (entries_after es n m.operation) (n + 1) before l behind h.1

member : (P : Line → Type 0) (before : List Line) (l : Line) (behind : List Line) → AllByRecursion P (before ++ l ∷ behind) → P l
member P [] l behind h = h.0
member P (m ∷ before) l behind h = member P before l behind h.1

-- the serial of a line where serials rise
serial_at : (before : List Line) (l : Line) (behind : List Line) → 0 < l.serial → SerialsRise (before ++ l ∷ behind)
    → last_serial l.place before < l.serial
serial_at [] l behind some h = some
serial_at (m ∷ before) l behind some h =
    let here = member (λ k. k.place ≡ m.place → m.serial < k.serial) before l behind h.0 in
    grind (arith, nat_tests, here, serial_at before l behind some h.1)

-- no shut refuses a line of a journal that heeds its shut
heard_at : (before : List Line) (l : Line) (behind : List Line) → HeedsShut (before ++ l ∷ behind) → IsHeard before l.operation
heard_at [] l behind h = λ ends. refl
heard_at (m ∷ before) l behind h = λ ends. by (heard_at before l behind h.1) (shuts m.operation) refl ends where
  by : IsHeard before l.operation → (b : Bool) → shuts m.operation ≡ b → EndsAtShut l.operation → (shuts m.operation || is_shut before) ≡ false
  by rest true e ends = absurd (member (λ k. EndsAtShut k.operation → ⊥) before l behind (h.0 e) ends)
  by rest false e ends = ap (λ b. b || is_shut before) e ∙ rest ends

module _ (wide : Bool) (once : LinesAreReadOnce) where
  -- what the rest of the texts spell, where the first ones spell this journal
  record SpellsRest (n : ℕ) (texts : List (List ℕ)) (all journal : List Line) : Type 0 where
    rest : List Line
    whole : all ≡ journal ++ rest
    spelled : SpellsFrom wide (n + length journal) texts rest

  spells_rest : (n : ℕ) (before : List (List ℕ)) (texts : List (List ℕ)) (all journal : List Line) → SpellsFrom wide n (before ++ texts) all
      → SpellsFrom wide n before journal → SpellsRest n texts all journal
  spells_rest n [] texts all journal h none =
      record { rest = all; whole = ap (λ j. j ++ all) (sym none); spelled = subst (λ m. SpellsFrom wide m texts all) (omega (arith, ap length none)) h }
  spells_rest n (text ∷ before) texts all journal (short, inl (none, h)) (short', inl (none', g)) = spells_rest n before texts all journal h g
  spells_rest n (text ∷ before) texts all journal (short, inl (none, h)) (short', inr (l, ls, filled, is, line, g)) =
      absurd (omega (arith, ap length none, filled))
  spells_rest n (text ∷ before) texts all journal (short, inr (l, ls, filled, is, line, h)) (short', inl (none, g)) =
      absurd (omega (arith, ap length none, filled))
  spells_rest n (text ∷ before) texts all journal (short, inr (l, ls, filled, is, line, h)) (short', inr (k, ks, filled', is', line', g)) =
      let r = spells_rest (n + 1) before texts ls ks h g in
      let same : l ≡ k = ((once wide (without_return text) n l line).0 n k line').1 in
      record {
        rest = r.rest;
        whole = is ∙ ap (λ x. x ∷ ls) same ∙ ap (λ xs. k ∷ xs) r.whole ∙ ap (λ xs. xs ++ r.rest) (sym is');
        spelled = subst (λ m. SpellsFrom wide m texts r.rest) (omega (arith, ap length is')) r.spelled;
      }

  -- the line that is due breaks no law
  no_breach : (journal : List Line) (number : ℕ) (l : Line) (b : Breach) → Follows journal number l → ¬ (Breaks journal number l b)
  no_breach journal number l (WrongNumber told due) h (t, d, other) = other (t ∙ h.number_is ∙ sym d)
  no_breach journal number l (SerialFalls place serial last) h (m, p, s, at, falls) = omega (arith, s, at, falls, h.serial)
  no_breach journal number l (BehindShut again) h (m, rises, ends, shut, a) =
      let unshut : is_shut journal ≡ false = h.heard ends in absurd (cc)
  no_breach journal number l (WrongReply told due) h (m, rises, t, (q, o, d), other) =
      other (t ∙ h.reply ∙ ap (λ x. reply_by (entries_of journal) x) o ∙ sym d)
  no_breach journal number l (WrongRemoval ticket told due) h (m, rises, o, t, d, other) = other (t ∙ h.reply ∙ sym d)
  no_breach journal number l (WrongMove ticket priority told due) h (m, rises, o, t, d, other) = other (t ∙ h.reply ∙ sym d)

  not_unlawful : (journal : List Line) (text : List ℕ) (l : Line) (why : Unlawful) → MayFollow wide journal text l
      → ¬ (IsUnlawful wide journal text why)
  not_unlawful journal text l (NoLine e) (line, h) why = (once wide text (length journal + 1) l line).1 e why
  not_unlawful journal text l (Broken b) (line, h) (number, k, line', breaks) =
      let same = (once wide text (length journal + 1) l line).0 number k line' in
      no_breach journal (length journal + 1) l b h
      (subst (λ x. Breaks journal (length journal + 1) x b) (sym same.1) (subst (λ m. Breaks journal m k b) (sym same.0) breaks))

  -- a line that spells one of a lawful journal is not refused
  not_refused : (n : ℕ) (all journal rest : List Line) (text : List ℕ) (behind : List (List ℕ)) (e : RunError AuditRefusal) → IsLawful all
      → all ≡ journal ++ rest → SpellsFrom wide (1 + length journal) (text ∷ behind) rest → ¬ (IsRefused wide journal n text e)
  not_refused n all journal rest text behind (Refused refusal) law whole (short, inl (none, h)) (short', filled, at, why) =
      omega (arith, ap length none, filled)
  not_refused n all journal rest text behind (Refused refusal) law whole (short, inr (l, ls, filled', is, line, h)) (short', filled, at, why) =
      let split : all ≡ journal ++ l ∷ ls = whole ∙ ap (λ xs. journal ++ xs) is in
      let follows : Follows journal (length journal + 1) l = record {
        number_is = refl;
        serial = serial_at journal l ls line.1.serial_range.0 (subst SerialsRise split law.rise);
        reply = reply_at [] 1 journal l ls (subst IsLegal split law.legal);
        heard = heard_at journal l ls (subst HeedsShut split law.heeds);
      } in
      not_unlawful journal (without_return text) l refusal.reason
      (subst (λ m. IsLineText wide (without_return text) m l) (omega arith) line, follows) why
  not_refused n all journal rest text behind (TooLong number) law whole (short, spelled) (long, at) = omega (arith, short, long)
  not_refused n all journal rest text behind NoMemory law whole spelled none = none
  not_refused n all journal rest text behind Input law whole spelled none = none
  not_refused n all journal rest text behind Output law whole spelled none = none

  not_first : (input : List ℕ) (e : RunError AuditRefusal) (all : List Line) → IsFirst wide input e → SpellsFrom wide 1 (lines_of input) all → IsLawful all → ⊥
  not_first input e all f spelled law =
      let r = spells_rest 1 f.before (f.text ∷ f.behind) all f.journal (subst (λ texts. SpellsFrom wide 1 texts all) f.lines spelled) f.spelled in
      not_refused _ all f.journal r.rest f.text f.behind e law r.whole r.spelled f.refused

pub lawful_is_not_refused : LinesAreReadOnce → LawfulIsNotRefused
lawful_is_not_refused once wide input (Ok report) all audits spelled law refused = refused
lawful_is_not_refused once wide input (Err (Refused refusal)) all audits spelled law refused = not_first wide once input (Refused refusal) all audits spelled law
lawful_is_not_refused once wide input (Err (TooLong line)) all audits spelled law refused = not_first wide once input (TooLong line) all audits spelled law
lawful_is_not_refused once wide input (Err NoMemory) all audits spelled law refused = refused
lawful_is_not_refused once wide input (Err Input) all audits spelled law refused = refused
lawful_is_not_refused once wide input (Err Output) all audits spelled law refused = refused
