use Rattle.std.proofs.Common.{ap, ◌∙◌}
use Rattle.announce_board.specs.Notes.{Noted}
use Rattle.announce_board.proofs.NoteSteps.{note_at}
use Rattle.announce_board.proofs.notes.hear_note.Goals as goal

pub join_seat-requires : goal.join_seat-requires
join_seat-requires g c = (
  c.requires.here,
  c.into_seat.ensures.0 ∙ (ap (λ (n : Noted). n.table) c.note.view_is ∙ c.requires.note),
  c.into_seat.ensures.3,
  c.requires.lock,
  c.law_notes_are_allowed.ensures.hearing _ _ _ 0 _ c.args.seat.now.me c.requires.is c.into_seat.result.id c.into_seat.result.me.0
      (note_at c.note.inside.badge.views c.into_seat.result.me.0 c.note.invariant c.into_seat.ensures.2),
)
