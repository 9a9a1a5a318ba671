-- What the laws about texts say, for whoever builds on them (src/laws.rt proves them).
use Rattle.std.specs.Prelude.{◌≡◌, ℕ, ◌+◌, Bool, List, [], ◌∷◌, ◌++◌, codes, Option, Result, Ok, Err}
use Rattle.line_script.specs.declared.error.RunError.{RunError}
use Rattle.line_script.specs.declared.error.RunError.TheVariants.{Refused, TooLong, NoMemory, Input, Output}
use Rattle.queue_texts.specs.declared.faults.Refusal.{Refusal}
use Rattle.queue_texts.specs.declared.orders.ScanKind.{ScanKind}
use Rattle.queue_texts.specs.WalkText.{WalkWrites}
use Rattle.pq_types.specs.Item.{Item, IsItemOf}
use Rattle.pq_types.specs.Asked.{Line}
use Rattle.pq_types.specs.declared.request.Request.TheVariants.{Push}
use Rattle.queue_texts.specs.declared.line_reading.LineError.{LineError}
use Rattle.queue_texts.specs.ItemText.{item_text}
use Rattle.queue_texts.specs.Command.{Spells}
use Rattle.line_script.specs.Lines.{lines_of}
use Rattle.queue_texts.specs.LineText.{line_text, journal_text, IsInRange, HasReplyOfItsKind, IsLineText, IsNoLineFor}
use Rattle.pq_types.specs.History.{IsLegal}
use Rattle.queue_texts.specs.declared.report.AuditReport.{AuditReport}
use Rattle.queue_texts.specs.Report.{IsReportOf}
use Rattle.queue_texts.specs.Audit.{SpellsFrom, IsLawful}

-- the run ended as its script says: no fault came, and memory was not refused
abbrev pub IsPlayedOrRefused : {R : Type 0} → Result (Unit {0}) (RunError R) → Type 0
IsPlayedOrRefused (Ok done) = Unit {0}
IsPlayedOrRefused (Err (Refused reason)) = Unit {0}
IsPlayedOrRefused (Err (TooLong line)) = Unit {0}
IsPlayedOrRefused (Err NoMemory) = ⊥
IsPlayedOrRefused (Err Input) = ⊥
IsPlayedOrRefused (Err Output) = ⊥

-- with scans of one kind the same input has the same ending and the same text, whichever of its bytes are read
abbrev pub OneTextOfAWalk : Type 0
OneTextOfAWalk =
    (kind : ScanKind) (input : List ℕ) (unread unread' : Option (List ℕ)) (ended ended' : Result (Unit {0}) (RunError Refusal))
    → (text text' : List ℕ)
    → WalkWrites kind input unread ended text → WalkWrites kind input unread' ended' text' → IsPlayedOrRefused ended
    → IsPlayedOrRefused ended' → (ended ≡ ended') × (text ≡ text')

-- the text of an item is read back: `push ` and its text push this item
abbrev pub ItemsAreReadBack : Type 0
ItemsAreReadBack = (wide : Bool) (x : Item) → IsItemOf wide x → Spells wide (codes "push " ++ item_text x) (Push x)

-- the text of a line in range, with a reply that such an operation may have, is read back as that line
abbrev pub LinesAreReadBack : Type 0
LinesAreReadBack = (wide : Bool) (number : ℕ) (l : Line) → IsInRange wide number l → HasReplyOfItsKind l
    → IsLineText wide (line_text number l) number l

-- a text is that of one line at most, under one number, and then it is refused for no reason
abbrev pub LinesAreReadOnce : Type 0
LinesAreReadOnce = (wide : Bool) (text : List ℕ) (m : ℕ) (l : Line) → IsLineText wide text m l
    → ((n : ℕ) (k : Line) → IsLineText wide text n k → (m ≡ n) × (l ≡ k)) × ((e : LineError) → ¬ (IsNoLineFor wide text e))

-- each line is in range, of which the first has this number, and has a reply that its operation may have
abbrev pub AreWritable : Bool → ℕ → List Line → Type 0
AreWritable wide n [] = Unit {0}
AreWritable wide n (l ∷ ls) = IsInRange wide n l × HasReplyOfItsKind l × AreWritable wide (n + 1) ls

-- what is written of a journal spells it: no line is too long for it, either
abbrev pub WrittenIsSpelled : Type 0
WrittenIsSpelled = (wide : Bool) (n : ℕ) (journal : List Line) → AreWritable wide n journal
    → SpellsFrom wide n (lines_of (journal_text n journal)) journal

-- In the report of a legal history the two sums are equal, and each item that was pushed was popped, removed or left.
abbrev pub SumsAgree : Type 0
SumsAgree = (journal : List Line) (r : AuditReport) → IsLegal journal → IsReportOf journal r
    → (r.sum_in ≡ r.sum_out_and_left) × (r.pushed ≡ r.got + r.left)

-- the first lines of a lawful journal, however many, are a lawful one
abbrev pub PrefixIsLawful : Type 0
PrefixIsLawful = (first others : List Line) → IsLawful (first ++ others) → IsLawful first
