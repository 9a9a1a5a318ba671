-- What the output has more once a job has ended and its ending is told.
use Rattle.std.proofs.Common.{◌≡◌, ◌≢◌, ℕ, ◌⊎◌, inl, inr, List, [], Option, Result, Ok, Err, refl, sym, ap, subst}
use Rattle.std.specs.Io.KnownBytes.{Appends}
use Rattle.std.proofs.KnownBytes.{Appends-nil, Appends-trans}
use Rattle.byte_writer.specs.Bytes.{AppendsPart}
use Rattle.flatpq.specs.declared.journals.Left.{Left}
use Rattle.line_script.specs.declared.error.RunError.{RunError}
use Rattle.queue_texts.specs.declared.refusal.AuditRefusal.{AuditRefusal}
use Rattle.queue_texts.specs.declared.report.AuditReport.{AuditReport}
use Rattle.queue_texts.specs.Report.{audit_text}
use Rattle.queue_load.specs.declared.load_faults.LoadError.{LoadError}
use Rattle.queue_load.specs.declared.report.Report.{Report}
use Rattle.program_words.specs.declared.words.Job.{Job}
use Rattle.program_words.specs.declared.words.Job.TheVariants.{Seq, Walk, Load, Audit}
use Rattle.program_words.specs.declared.words.Usage.{Usage}
use Rattle.flatpq.specs.declared.endings.Ending.{Ending}
use Rattle.flatpq.specs.declared.endings.Ending.TheVariants.{NoJob, Ran, Loaded, Audited}
use Rattle.flatpq.specs.Endings.{JobEnds, IsTold, Prints, PrintsReport}
use Rattle.queue_load.specs.Report.{report_text}

-- a job that is run does not end as one whose words were refused
no_job : (job : Job) (read : List ℕ) (unread : Option (List ℕ)) (usage : Usage) (left : Option Left) (text : List ℕ) → JobEnds job read unread (NoJob usage) left text → ⊥
no_job (Seq lines store wide) read unread usage left text (Ok book, (e, some), w) = absurd (cc)
no_job (Seq lines store wide) read unread usage left text (Err why, (e, none), w) = absurd (cc)
no_job (Walk scans) read unread usage left text (result, e, no_book, w) = absurd (cc)
no_job (Load plan store wide) read unread usage left text (Ok made, (e, some), w, none, all) = absurd (cc)
no_job (Load plan store wide) read unread usage left text (Err why, (e, no_book), w, none, all) = absurd (cc)
no_job (Audit wide) read unread usage left text (result, e, no_book, w, none) = absurd (cc)

-- a load writes nothing before its report
loaded_text : (job : Job) (read : List ℕ) (unread : Option (List ℕ)) (loaded : Result Report LoadError) (left : Option Left) (text : List ℕ) → JobEnds job read unread (Loaded loaded) left text → text ≡ []
loaded_text (Seq lines store wide) read unread loaded left text (Ok book, (e, some), w) = absurd (cc)
loaded_text (Seq lines store wide) read unread loaded left text (Err why, (e, none), w) = absurd (cc)
loaded_text (Walk scans) read unread loaded left text (result, e, no_book, w) = absurd (cc)
loaded_text (Load plan store wide) read unread loaded left text (result, e, w, none, all) = none
loaded_text (Audit wide) read unread loaded left text (result, e, no_book, w, none) = none

-- nor does an audit
audited_text : (job : Job) (read : List ℕ) (unread : Option (List ℕ)) (audited : Result AuditReport (RunError AuditRefusal)) (left : Option Left) (text : List ℕ) → JobEnds job read unread (Audited audited) left text → text ≡ []
audited_text (Seq lines store wide) read unread audited left text (Ok book, (e, some), w) = absurd (cc)
audited_text (Seq lines store wide) read unread audited left text (Err why, (e, none), w) = absurd (cc)
audited_text (Walk scans) read unread audited left text (result, e, no_book, w) = absurd (cc)
audited_text (Load plan store wide) read unread audited left text (result, e, w, none, all) = none
audited_text (Audit wide) read unread audited left text (result, e, no_book, w, none) = none

part_trans : (old mid new : Option (List ℕ)) (text : List ℕ) → Appends old mid [] → AppendsPart mid new text → AppendsPart old new text
part_trans old mid new text a (part, rest, e, some, b) = (part, rest, e, some, Appends-trans old mid new [] part a b)

-- a writer that is the same holds the same
pub same_contents : {W : Type 0} (contents : W → Option (List ℕ)) (before after : W) (told : Type 0) → told ⊎ (after ≡ before) → told ⊎ (contents after ≡ contents before)
same_contents contents before after told (inl h) = inl h
same_contents contents before after told (inr e) = inr (ap contents e)

-- so the output has the text of the run, or the report, and nothing else
pub prints : (old mid new : Option (List ℕ)) (job : Job) (read : List ℕ) (unread : Option (List ℕ)) (ending : Ending) (left : Option Left) (text : List ℕ) (status : ℕ) → JobEnds job read unread ending left text → Appends old mid text → (IsTold ending ⊎ (new ≡ mid)) → ((report : Report) → ending ≡ Loaded (Ok report) → status ≢ 6 → Appends mid new (report_text report)) → ((report : Report) → ending ≡ Loaded (Ok report) → status ≡ 6 → AppendsPart mid new (report_text report)) → ((report : AuditReport) → ending ≡ Audited (Ok report) → status ≢ 6 → Appends mid new (audit_text report)) → ((report : AuditReport) → ending ≡ Audited (Ok report) → status ≡ 6 → AppendsPart mid new (audit_text report)) → Prints old new ending text status
prints old mid new job read unread (NoJob usage) left text status ends wrote told whole cut audit audit_cut = absurd (no_job job read unread usage left text ends)
prints old mid new job read unread (Ran result) left text status ends wrote (inl told) whole cut audit audit_cut = absurd told
prints old mid new job read unread (Ran result) left text status ends wrote (inr same) whole cut audit audit_cut = subst (λ x. Appends old x text) (sym same) wrote
prints old mid new job read unread (Loaded (Ok report)) left text status ends wrote told whole cut audit audit_cut =
    let nothing = subst (λ t. Appends old mid t) (loaded_text job read unread (Ok report) left text ends) wrote in
    (λ fine. Appends-trans old mid new [] (report_text report) nothing (whole report refl fine), λ bad. part_trans old mid new (report_text report) nothing (cut report refl bad))
prints old mid new job read unread (Loaded (Err e)) left text status ends wrote (inl told) whole cut audit audit_cut = absurd told
prints old mid new job read unread (Loaded (Err e)) left text status ends wrote (inr same) whole cut audit audit_cut =
    subst (λ x. Appends old x []) (sym same) (subst (λ t. Appends old mid t) (loaded_text job read unread (Err e) left text ends) wrote)
prints old mid new job read unread (Audited (Ok report)) left text status ends wrote told whole cut audit audit_cut =
    let nothing = subst (λ t. Appends old mid t) (audited_text job read unread (Ok report) left text ends) wrote in
    (λ fine. Appends-trans old mid new [] (audit_text report) nothing (audit report refl fine), λ bad. part_trans old mid new (audit_text report) nothing (audit_cut report refl bad))
prints old mid new job read unread (Audited (Err e)) left text status ends wrote (inl told) whole cut audit audit_cut = absurd told
prints old mid new job read unread (Audited (Err e)) left text status ends wrote (inr same) whole cut audit audit_cut =
    subst (λ x. Appends old x []) (sym same) (subst (λ t. Appends old mid t) (audited_text job read unread (Err e) left text ends) wrote)

-- the output has the report of a load, or nothing, once it is told how the load ended
pub prints_report : (old new : Option (List ℕ)) (loaded : Result Report LoadError) (status : ℕ) → (IsTold (Loaded loaded) ⊎ (new ≡ old)) → ((report : Report) → Loaded loaded ≡ Loaded (Ok report) → status ≢ 6 → Appends old new (report_text report)) → ((report : Report) → Loaded loaded ≡ Loaded (Ok report) → status ≡ 6 → AppendsPart old new (report_text report)) → PrintsReport old new loaded status
prints_report old new (Ok report) status told whole cut = (whole report refl, cut report refl)
prints_report old new (Err e) status (inl told) whole cut = absurd told
prints_report old new (Err e) status (inr same) whole cut = subst (λ x. Appends old x []) (sym same) (Appends-nil old)
