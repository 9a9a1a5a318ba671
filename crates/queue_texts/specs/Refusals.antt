-- The number and the exit status of each reason for which a text is no lawful journal.
use Rattle.std.specs.Prelude.{ℕ}
use Rattle.queue_texts.specs.LineText.{line_code}
use Rattle.queue_texts.specs.declared.refusal.Unlawful.{Unlawful}
use Rattle.queue_texts.specs.declared.refusal.Unlawful.TheVariants.{NoLine, Broken}
use Rattle.queue_texts.specs.declared.refusal.AuditRefusal.{AuditRefusal}

-- the number of each refusal
abbrev pub unlawful_code : Unlawful → ℕ
unlawful_code (NoLine error) = line_code error
unlawful_code (Broken breach) = 35

-- the exit status: 3 where a line is none, 5 where one breaks the law
abbrev pub unlawful_status : Unlawful → ℕ
unlawful_status (NoLine error) = 3
unlawful_status (Broken breach) = 5

abbrev pub refusal_status : AuditRefusal → ℕ
refusal_status refusal = unlawful_status refusal.reason
