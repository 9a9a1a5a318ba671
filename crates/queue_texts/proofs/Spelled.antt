-- The lines that a run has played are those of a lawful journal.
use Rattle.std.proofs.Common.{◌≡◌, ℕ, ◌+◌, ◌<◌, ◌≤◌, ◌⊎◌, Bool, inl, inr, List, [], ◌∷◌, ◌++◌, length, length-append, append_assoc, append-nil, Option, Ok}
use Rattle.std.proofs.Common.{Err, refl, sym, ◌∙◌, ap, subst, arith}
use Rattle.pq_types.specs.Asked.{Line}
use Rattle.pq_types.specs.Laws.{StaysLegal, StillRises, StillHeeds}
use Rattle.line_script.specs.declared.error.RunError.{RunError}
use Rattle.line_script.specs.declared.error.RunError.TheVariants.{Refused, TooLong, NoMemory, Input, Output}
use Rattle.line_script.specs.Lines.{lines_of, without_return}
use Rattle.line_script.specs.Script.{Kind, WritesAs}
use Rattle.line_script.specs.Script as script
use Rattle.queue_texts.specs.declared.line_text.TheConstants.{LONGEST_ENTRY}
use Rattle.queue_texts.specs.declared.refusal.AuditRefusal.{AuditRefusal}
use Rattle.queue_texts.specs.Audit.{SpellsFrom, IsLawful, IsFirst, IsRefused, Audits, PlaysEntry, RefusesEntry}
use Rattle.queue_texts.proofs.Replays.{lawful_none, lawful_more}

module _ {S : Type 0} (wide : Bool) (journal : S → List Line) (legal_more : StaysLegal) (rise_more : StillRises) (heeds_more : StillHeeds) where
  abbrev over_journal : Kind S AuditRefusal
  over_journal = record {
    longest = LONGEST_ENTRY;
    plays = λ s line text t. PlaysEntry wide (journal s) line text (journal t);
    refuses = λ s n line refusal. RefusesEntry wide (journal s) n line refusal;
    ends = λ s r. r ≡ Ok tt;
  }

  -- a line of the script is empty, or enters a line
  one_line : (s t : S) (line out : List ℕ) → script.PlaysUnlessEmpty over_journal s line out t → ((line ≡ []) × (t ≡ s))
      ⊎ ((0 < length line) × PlaysEntry wide (journal s) line out (journal t))
  one_line s t [] out (none, same) = inl (refl, same)
  one_line s t (byte ∷ bytes) out plays = inr (omega arith, plays)

  -- these texts spell what the journal has gained
  record Spelled (s : S) (texts : List (List ℕ)) (t : S) : Type 0 where
    new : List Line
    gained : journal t ≡ journal s ++ new
    spelled : SpellsFrom wide (length (journal s) + 1) texts new
    lawful : IsLawful (journal t)

  step : (s mid t : S) (text out others : List ℕ) (texts : List (List ℕ))
      → ((m : S) → script.PlaysAll over_journal m texts others t → IsLawful (journal m) → Spelled m texts t) → length text ≤ LONGEST_ENTRY
      → ((without_return text ≡ []) × (mid ≡ s))
      ⊎ ((0 < length (without_return text)) × PlaysEntry wide (journal s) (without_return text) out (journal mid))
      → script.PlaysAll over_journal mid texts others t → IsLawful (journal s) → Spelled s (text ∷ texts) t
  step s mid t text out others texts rec short (inl (none, same)) rest law =
      let there = rec s (subst (λ m. script.PlaysAll over_journal m texts others t) same rest) law in
      record { new = there.new; gained = there.gained; spelled = (short, inl (none, there.spelled)); lawful = there.lawful }
  step s mid t text out others texts rec short (inr (filled, (l, is, reply, above, none, after, heard))) rest law =
      let there = rec mid rest (subst IsLawful (sym after) (lawful_more legal_more rise_more heeds_more (journal s) l reply above heard law)) in
      let longer : length (journal mid) + 1 ≡ length (journal s) + 1 + 1 =
      omega (arith, ap length after, length-append {A = Line} (journal s) (l ∷ [])) in
      record {
        new = l ∷ there.new;
        gained = there.gained ∙ ap (λ j. j ++ there.new) after ∙ append_assoc (journal s) (l ∷ []) there.new;
        spelled = (short, inr (l, there.new, filled, refl, is, subst (λ n. SpellsFrom wide n texts there.new) longer there.spelled));
        lawful = there.lawful;
      }

  spell : (s t : S) (texts : List (List ℕ)) (out : List ℕ) → script.PlaysAll over_journal s texts out t → IsLawful (journal s) → Spelled s texts t
  spell s t [] out (none, same) law =
      record {
        new = [];
        gained = ap journal same ∙ sym (append-nil (journal s));
        spelled = refl;
        lawful = subst (λ x. IsLawful (journal x)) (sym same) law;
      }
  spell s t (text ∷ texts) out (mid, first, others, (short, one), rest, split) law =
      step s mid t text first others texts (λ m plays h. spell m t texts others plays h) short
      (one_line s mid (without_return text) first one) rest law

  -- from no lines on the texts spell the whole journal
  from_none : (s t : S) (texts : List (List ℕ)) → journal s ≡ [] → Spelled s texts t → SpellsFrom wide 1 texts (journal t)
  from_none s t texts none h =
      let whole : journal t ≡ h.new = h.gained ∙ ap (λ j. j ++ h.new) none in
      let from_one : SpellsFrom wide 1 texts h.new = subst (λ n. SpellsFrom wide n texts h.new) (omega (arith, ap length none)) h.spelled in
      subst (λ j. SpellsFrom wide 1 texts j) (sym whole) from_one

  -- an input whose lines are all played is a lawful journal
  pub all_spelled : (s t : S) (input text : List ℕ) (unread : Option (List ℕ)) → journal s ≡ []
      → WritesAs over_journal s input unread (Ok t) text → SpellsFrom wide 1 (lines_of input) (journal t)
  all_spelled s t input text unread none ((plays, ends), all) =
      from_none s t (lines_of input) none (spell s t (lines_of input) text plays (subst IsLawful (sym none) lawful_none))

  refused_so : (t : S) (n : ℕ) (line : List ℕ) (e : RunError AuditRefusal) → script.RefusesLine over_journal t n line e
      → IsRefused wide (journal t) n line e
  refused_so t n line (Refused refusal) (short, filled, (at, unlawful)) = (short, filled, at, unlawful)
  refused_so t n line (TooLong number) h = h
  refused_so t n line NoMemory h = h
  refused_so t n line Input h = h
  refused_so t n line Output h = h

  first_at : (s : S) (input text : List ℕ) (e : RunError AuditRefusal) → journal s ≡ [] → script.RefusedAtLine over_journal s input text e
      → IsFirst wide input e
  first_at s input text e none (before, line, behind, t, split, plays, refused) =
      let h = spell s t before text plays (subst IsLawful (sym none) lawful_none) in
      record {
        before = before;
        text = line;
        behind = behind;
        lines = split;
        journal = journal t;
        spelled = from_none s t before none h;
        lawful = h.lawful;
        refused = refused_so t _ line e refused;
      }

  -- an input of which a line is refused
  pub audited : (s : S) (input text : List ℕ) (unread : Option (List ℕ)) (e : RunError AuditRefusal) → journal s ≡ []
      → WritesAs over_journal s input unread (Err e) text → Audits wide input (Err e)
  audited s input text unread (Refused refusal) none (inl refused, reading) = first_at s input text (Refused refusal) none refused
  audited s input text unread (Refused refusal) none (inr (t, plays, ends), reading) = absurd (cc)
  audited s input text unread (TooLong line) none (refused, reading) = first_at s input text (TooLong line) none refused
  audited s input text unread NoMemory none h = tt
  audited s input text unread Input none h = tt
  audited s input text unread Output none h = tt
