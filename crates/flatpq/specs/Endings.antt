-- How the program ends: what a job writes, the exit status, and which output tells of it.
use Rattle.std.specs.Prelude.{◌≡◌, ◌≢◌, ℕ, ◌⊎◌, List, [], Bool, true, false, Option, Some, None, Result, Ok, Err}
use Rattle.std.specs.Io.KnownBytes.{Appends}
use Rattle.byte_writer.specs.Bytes.{AppendsPart}
use Rattle.pq_book.specs.Book.{Volume}
use Rattle.line_script.specs.declared.error.RunError.{RunError}
use Rattle.line_script.specs.declared.error.RunError.TheVariants as run
use Rattle.queue_texts.specs.declared.faults.Refusal.{Refusal}
use Rattle.queue_texts.specs.declared.refusal.AuditRefusal.{AuditRefusal}
use Rattle.queue_texts.specs.declared.report.AuditReport.{AuditReport}
use Rattle.queue_texts.specs.Audit.{Audits}
use Rattle.queue_texts.specs.Refusals.{refusal_status}
use Rattle.queue_texts.specs.Report.{audit_text}
use Rattle.queue_load.specs.declared.load_faults.LoadError.{LoadError}
use Rattle.queue_load.specs.declared.report.Report.{Report}
use Rattle.program_words.specs.declared.words.Asked.{Asked}
use Rattle.program_words.specs.declared.words.Job.{Job}
use Rattle.program_words.specs.declared.words.Job.TheVariants.{Seq, Walk, Load, Audit}
use Rattle.program_words.specs.declared.words.Usage.TheVariants.{Help, Refused, PopsExceedPushes}
use Rattle.program_words.specs.declared.words.Usage.TheVariants.{LinesOfLasting, JournalOfLasting, NoMemory}
use Rattle.flatpq.specs.declared.journals.Left.{Left}
use Rattle.flatpq.specs.declared.journals.Left.TheVariants.{Narrow, Wide}
use Rattle.flatpq.specs.declared.endings.Ending.{Ending}
use Rattle.flatpq.specs.declared.endings.Ending.TheVariants.{NoJob, Ran, Loaded, Audited}
use Rattle.queue_texts.specs.Faults.{run_status}
use Rattle.queue_load.specs.Load.{EndsLoad}
use Rattle.queue_load.specs.LoadFaults.{load_status}
use Rattle.queue_load.specs.Report.{report_text}
use Rattle.program_words.specs.Words.{usage_status}
use Rattle.queue_texts.specs.SeqText.{SeqWrites}
use Rattle.queue_texts.specs.WalkText.{WalkWrites}

-- the Book that is left, whatever the width of its items
abbrev pub book_of : Left → Volume
book_of (Narrow book) = book
book_of (Wide book) = book

-- how a run ended that leaves a Book
abbrev pub books : Result Left (RunError Refusal) → Result Volume (RunError Refusal)
books (Ok left) = Ok (book_of left)
books (Err e) = Err e

-- a Book of wide items, or of narrow ones, if any
abbrev pub left_of : Bool → Option Volume → Option Left
left_of wide None = None
left_of true (Some book) = Some (Wide book)
left_of false (Some book) = Some (Narrow book)

-- a run of `seq` ended so, and left its Book where the whole script was played
abbrev pub PlayedWith : Result Left (RunError Refusal) → Ending → Option Left → Type 0
PlayedWith (Ok book) ending left = (ending ≡ Ran (Ok tt)) × (left ≡ Some book)
PlayedWith (Err e) ending left = (ending ≡ Ran (Err e)) × (left ≡ None)

-- a load of wide items, or of narrow ones, ended so, and left the Book that it hands back beside its report, if any
abbrev pub LoadedWith : Bool → Result (Report × Option Volume) LoadError → Ending → Option Left → Type 0
LoadedWith wide (Ok made) ending left = (ending ≡ Loaded (Ok made.0)) × (left ≡ left_of wide made.1)
LoadedWith wide (Err e) ending left = (ending ≡ Loaded (Err e)) × (left ≡ None)

-- a load that was watched ended so, and left the Book that it hands back beside its report, if any; and where it has a report, it
-- told whether its journal is written
abbrev pub WatchedWith : Bool → Result (Report × Option Volume × Bool) LoadError → Result Report LoadError → Option Left
    → Option Bool → Type 0
WatchedWith wide (Ok made) loaded left written =
    (loaded ≡ Ok made.0) × (left ≡ left_of wide made.1) × (written ≡ Some made.2)
WatchedWith wide (Err e) loaded left written = (loaded ≡ Err e) × (left ≡ None) × (written ≡ None)

-- How a job may end over this input, of which the last bytes are unread then, which Book it leaves, and what it writes: a
-- script its text, and a load, which reads nothing, no text: its report comes at its end.
abbrev pub JobEnds : Job → List ℕ → Option (List ℕ) → Ending → Option Left → List ℕ → Type 0
JobEnds (Seq lines store wide) input unread ending left text =
    (result : Result Left (RunError Refusal)) × PlayedWith result ending left
    × SeqWrites wide lines input unread (books result) text
JobEnds (Walk scans) input unread ending left text =
    (result : Result (Unit {0}) (RunError Refusal)) × (ending ≡ Ran result) × (left ≡ None)
    × WalkWrites scans input unread result text
JobEnds (Load plan store wide) input unread ending left text =
    (result : Result (Report × Option Volume) LoadError) × LoadedWith wide result ending left × EndsLoad wide plan result
    × (text ≡ []) × (unread ≡ Some input)
JobEnds (Audit wide) input unread ending left text =
    (result : Result AuditReport (RunError AuditRefusal)) × (ending ≡ Audited result) × (left ≡ None) × Audits wide input result
    × (text ≡ [])

-- the words ask for a job alone: for no journal, and not to be told how far it is
abbrev pub IsPlain : Asked → Type 0
IsPlain asked = (asked.journal ≡ None) × (asked.progress ≡ false)

-- the exit status of a run: 0 where the whole script is played
abbrev pub ran_status : Result (Unit {0}) (RunError Refusal) → ℕ
ran_status (Ok done) = 0
ran_status (Err e) = run_status e

-- 0 where the audit is ok, else 5
abbrev pub audit_status : Bool → ℕ
audit_status true = 0
audit_status false = 5

-- the exit status of a report
abbrev pub report_status : Report → ℕ
report_status report = audit_status report.audit

-- the exit status of a load
abbrev pub loaded_status : Result Report LoadError → ℕ
loaded_status (Ok report) = report_status report
loaded_status (Err e) = load_status e

-- the exit status of an audit: 0 where the journal is lawful
abbrev pub audited_status : Result AuditReport (RunError AuditRefusal) → ℕ
audited_status (Ok report) = 0
audited_status (Err (run.Refused refusal)) = refusal_status refusal
audited_status (Err (run.TooLong line)) = 3
audited_status (Err run.NoMemory) = 4
audited_status (Err run.Input) = 6
audited_status (Err run.Output) = 6

-- the exit status of an ending
abbrev pub ending_status : Ending → ℕ
ending_status (NoJob usage) = usage_status usage
ending_status (Ran result) = ran_status result
ending_status (Loaded result) = loaded_status result
ending_status (Audited result) = audited_status result

-- there is a report
abbrev pub IsReported : Result Report LoadError → Type 0
IsReported (Ok report) = Unit {0}
IsReported (Err e) = ⊥

-- the audit has a report
abbrev pub IsAudited : Result AuditReport (RunError AuditRefusal) → Type 0
IsAudited (Ok report) = Unit {0}
IsAudited (Err e) = ⊥

-- help was asked for, or there is a report: what is told goes to the output
abbrev pub IsTold : Ending → Type 0
IsTold (NoJob (Help text)) = Unit {0}
IsTold (NoJob (Refused text)) = ⊥
IsTold (NoJob PopsExceedPushes) = ⊥
IsTold (NoJob LinesOfLasting) = ⊥
IsTold (NoJob JournalOfLasting) = ⊥
IsTold (NoJob NoMemory) = ⊥
IsTold (Ran result) = ⊥
IsTold (Loaded result) = IsReported result
IsTold (Audited result) = IsAudited result

-- the ending's own status is answered, or 6 where help or a report could not be written
abbrev pub Answers : Ending → ℕ → Type 0
Answers ending status = (status ≡ ending_status ending) ⊎ (IsTold ending × (status ≡ 6))

-- the output has a whole report more, or, where the status is 6, a beginning of it
abbrev pub PrintsReport : Option (List ℕ) → Option (List ℕ) → Result Report LoadError → ℕ → Type 0
PrintsReport old new (Ok report) status =
    (status ≢ 6 → Appends old new (report_text report)) × (status ≡ 6 → AppendsPart old new (report_text report))
PrintsReport old new (Err e) status = Appends old new []

-- the same of the report of an audit
abbrev pub PrintsAudit : Option (List ℕ) → Option (List ℕ) → Result AuditReport (RunError AuditRefusal) → ℕ → Type 0
PrintsAudit old new (Ok report) status =
    (status ≢ 6 → Appends old new (audit_text report)) × (status ≡ 6 → AppendsPart old new (audit_text report))
PrintsAudit old new (Err e) status = Appends old new []

-- what the output has more once a job that wrote this text has ended so, with this status
abbrev pub Prints : Option (List ℕ) → Option (List ℕ) → Ending → List ℕ → ℕ → Type 0
Prints old new (NoJob usage) text status = Appends old new text
Prints old new (Ran result) text status = Appends old new text
Prints old new (Loaded result) text status = PrintsReport old new result status
Prints old new (Audited result) text status = PrintsAudit old new result status
