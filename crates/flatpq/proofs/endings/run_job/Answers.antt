use Rattle.std.proofs.Common.{[], None, refl, sym, ◌∙◌, ap, subst}
use Rattle.std.proofs.KnownBytes.{Appends-nil}
use Rattle.program_words.specs.declared.words.Job.TheVariants.{Audit}
use Rattle.flatpq.specs.declared.endings.Ending.TheVariants.{Audited}
use Rattle.flatpq.specs.Endings.{JobEnds}
use Rattle.flatpq.proofs.endings.run_job.Goals as goal

pub returns-in-Load : goal.returns-in-Load
returns-in-Load g c read known = (
  [],
  Appends-nil (g.O.Write.contents c.args.output.now),
  subst (λ job. JobEnds job read (g.I.Read.remaining c.args.input.now) c.load_ending.result.0 c.load_ending.result.1 []) (sym c.in-Load.is) (
    c.load_ending.ensures.0,
    c.load_ending.ensures.1,
    c.load_ending.ensures.2,
    refl,
    known,
  ),
)

pub returns-in-Audit-true : goal.returns-in-Audit-true
returns-in-Audit-true g c read known = (
  [],
  Appends-nil (g.O.Write.contents c.args.output.now),
  subst (λ job. JobEnds job read (g.I.Read.remaining c.run_audit.new.reader) (Audited c.run_audit.result) None [])
      (sym (c.in-Audit-true.is ∙ ap (λ wide. Audit wide) c.in-Audit-true.wide-test))
      (c.run_audit.result, refl, refl, c.run_audit.ensures read known, refl),
)

pub returns-in-Audit-false : goal.returns-in-Audit-false
returns-in-Audit-false g c read known = (
  [],
  Appends-nil (g.O.Write.contents c.args.output.now),
  subst (λ job. JobEnds job read (g.I.Read.remaining c.run_audit-in-Audit-false.new.reader) (Audited c.run_audit-in-Audit-false.result) None [])
      (sym (c.in-Audit-false.is ∙ ap (λ wide. Audit wide) c.in-Audit-false.wide-test))
      (c.run_audit-in-Audit-false.result, refl, refl, c.run_audit-in-Audit-false.ensures read known, refl),
)
