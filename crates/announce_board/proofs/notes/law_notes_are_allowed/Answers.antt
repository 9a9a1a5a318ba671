use mathlib.Core.Option.{none}
use Rattle.atomic_table.specs.Table.{step}
use Rattle.pq_book.specs.Book.{AllHaveRoom}
use Rattle.desk_core.specs.Layout.{lock_at}
use Rattle.announce_board.specs.Allowed.{CatchesUpThere}
use Rattle.announce_board.specs.Notes.{CaughtUp}
use Rattle.announce_board.proofs.Allows.{plainly_of}
use Rattle.announce_board.proofs.NoteSteps.{catch_up_allowed, writing_allowed, hearing_allowed, calls_are_found}
use Rattle.announce_board.proofs.notes.law_notes_are_allowed.Goals as goal

pub returns : goal.returns
returns g c =
    let kept = c.law_notes_keep_the_rule.ensures in
    let goes = c.law_reached_desks.ensures.goes_on in
    let loaded = c.law_words_show_the_desk.ensures.loaded in
    record {
      catch_up = λ room terms places slots id m is. plainly_of CatchesUpThere g.P.Part.wide (AllHaveRoom g.S.Store.room) room terms places slots id m lock_at (λ n. n) (CaughtUp (step slots lock_at 0 0 none) m) (catch_up_allowed _ _ goes kept.catch_up loaded room terms places slots id m is);
      writing = λ room terms places slots id m is s k at. (writing_allowed _ _ goes kept.writing room terms places slots id m is s k at).0;
      hearing = λ room terms places slots id m is other note it s k at ne there. (hearing_allowed _ _ goes kept.hearing room terms places slots id m is other note it s k at ne there).0;
      calls = calls_are_found c.law_calls_are_lines.ensures.lines;
    }
