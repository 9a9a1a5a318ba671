use Rattle.std.proofs.Common.{sym, subst}
use Rattle.desk_core.specs.Knows.{Knows}
use Rattle.announce_board.specs.Notes.{after_note, HasItsCalls}
use Rattle.announce_board.specs.Steps.{pen_at, Becomes}
use Rattle.announce_board.proofs.NoteSteps.{wrote_whole}
use Rattle.announce_board.proofs.notes.write_whole.Goals as goal

pub returns-clause-after : goal.returns-clause-after
returns-clause-after g c =
    let t = wrote_whole c.args.seat.now.me c.catch_up.new.seat.me c.write_note.new.seat.me c.catch_up.ensures.caught_up c.write_note.result.told c.write_note.ensures.told c.write_note.ensures.after in
    subst (λ told. Becomes c.args.seat.now.me (after_note (pen_at c.args.seat.now.me) told) c.write_note.new.seat.me) (sym t.0) t.1

pub returns-clause-knows : goal.returns-clause-knows
returns-clause-knows g c =
    let h = c.catch_up.ensures.caught_up in
    let t = wrote_whole c.args.seat.now.me c.catch_up.new.seat.me c.write_note.new.seat.me h c.write_note.result.told c.write_note.ensures.told c.write_note.ensures.after in
    subst (Knows (pen_at c.args.seat.now.me).room (pen_at c.args.seat.now.me)) (sym t.0) h.1

pub returns-clause-calls : goal.returns-clause-calls
returns-clause-calls g c =
    let p = pen_at c.args.seat.now.me in
    let h = c.catch_up.ensures.caught_up in
    let t = wrote_whole c.args.seat.now.me c.catch_up.new.seat.me c.write_note.new.seat.me h c.write_note.result.told c.write_note.ensures.told c.write_note.ensures.after in
    subst (HasItsCalls p) (sym t.0) (c.law_notes_are_allowed.ensures.calls p h.0 h.1)
