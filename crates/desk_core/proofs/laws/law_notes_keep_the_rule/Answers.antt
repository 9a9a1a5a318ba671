use Rattle.desk_core.proofs.Notes.{catch_up_keeps, writing_keeps, hearing_keeps, copying_keeps}
use Rattle.desk_core.proofs.laws.law_notes_keep_the_rule.Goals as goal

pub returns : goal.returns
returns c = record { catch_up = catch_up_keeps; writing = writing_keeps; hearing = hearing_keeps; copying = copying_keeps }
