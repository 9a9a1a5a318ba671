use mathlib.Core.Option.{none}
use Rattle.atomic_table.specs.Table.{step}
use Rattle.pq_book.specs.Book.{AllHaveRoom}
use Rattle.desk_core.specs.Layout.{lock_at}
use Rattle.announce_board.specs.Allowed.{Stays}
use Rattle.announce_board.specs.Testimonies.{Compared}
use Rattle.announce_board.proofs.Allows.{plainly_of}
use Rattle.announce_board.proofs.TestimonySteps.{testify_allowed, retire_allowed, gather_allowed, compare_allowed}
use Rattle.announce_board.proofs.testimony.law_testimonies_are_allowed.Goals as goal

pub returns : goal.returns
returns g c =
    let reached = c.law_reached_desks.ensures in
    let loaded = c.law_words_show_the_desk.ensures.loaded in
    record {
      testify = λ room terms places slots id m is s k at. (testify_allowed _ _ reached.rule reached.goes_on room terms places slots id m is s k at).0;
      retire = λ room terms places slots id m is idle s k at. (retire_allowed _ _ reached.rule reached.goes_on room terms places slots id m is idle s k at).0;
      gather = λ room terms places id v other w is it s k at ne there. (gather_allowed _ _ reached.rule reached.goes_on room terms places id v other w is it s k at ne there).0;
      compare = λ room terms places slots id m is. plainly_of Stays g.P.Part.wide (AllHaveRoom g.S.Store.room) room terms places slots id m lock_at (λ n. n) (Compared (step slots lock_at 0 0 none) m) (compare_allowed _ _ c.law_testimonies.ensures.witnessed loaded room terms places slots id m is);
    }
