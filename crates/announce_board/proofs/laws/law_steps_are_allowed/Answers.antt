use Rattle.std.specs.Prelude.{◌==◌}
use mathlib.Core.Option.{none}
use prog.Atomic.{either}
use Rattle.atomic_table.specs.Table.{step}
use Rattle.pq_book.specs.Book.{AllHaveRoom}
use Rattle.desk_core.specs.Layout.{lock_at}
use Rattle.announce_board.specs.Steps.{Drafted, PostStored, LockRead, LockTried, MailRead, ItemRead, ItemLaid, AnswerStored, Applied, Archived, Changed, HandedOut, Released, ReleasedWith, AnswerLooked, ItemSeen, ItemTaken}
use Rattle.announce_board.proofs.Allows.{plainly}
use Rattle.announce_board.proofs.laws.law_steps_are_allowed.Goals as goal

pub returns : goal.returns
returns g c =
    let moves = c.law_steps_are_moves.ensures in
    record {
      draft = λ room terms places slots id m is i w j x a b d e f. plainly g.P.Part.wide (AllHaveRoom g.S.Store.room) room terms places slots id m i (λ _. w) (λ _. Drafted g.P.Part.wide (step slots i w 0 none) m w) (moves.draft room terms places slots id m is i w j x a b d e f);
      post = λ room terms places slots id m is i w q o a b d e f h. plainly g.P.Part.wide (AllHaveRoom g.S.Store.room) room terms places slots id m i (λ _. w) (λ _. PostStored (step slots i w 0 none) m w) (moves.post room terms places slots id m is i w q o a b d e f h);
      read_lock = λ room terms places slots id m is. plainly g.P.Part.wide (AllHaveRoom g.S.Store.room) room terms places slots id m lock_at (λ n. n) (LockRead (step slots lock_at 0 0 none) m) (moves.read_lock room terms places slots id m is);
      try_lock = λ room terms places slots id m is said e. plainly g.P.Part.wide (AllHaveRoom g.S.Store.room) room terms places slots id m lock_at (λ n. either (n == 0) 1 n) (LockTried (step slots lock_at 0 1 said) m) (moves.try_lock room terms places slots id m is said e);
      read_mail = λ room terms places slots id m is i k a b d. plainly g.P.Part.wide (AllHaveRoom g.S.Store.room) room terms places slots id m i (λ n. n) (MailRead (step slots i 0 0 none) m) (moves.read_mail room terms places slots id m is i k a b d);
      read_item = λ room terms places slots id m is i j due a b d e f. plainly g.P.Part.wide (AllHaveRoom g.S.Store.room) room terms places slots id m i (λ n. n) (ItemRead g.P.Part.wide (step slots i 0 0 none) m) (moves.read_item room terms places slots id m is i j due a b d e f);
      lay_item = λ room terms places slots id m is i w j due x a b d e f h o. plainly g.P.Part.wide (AllHaveRoom g.S.Store.room) room terms places slots id m i (λ _. w) (λ _. ItemLaid g.P.Part.wide (step slots i w 0 none) m w) (moves.lay_item room terms places slots id m is i w j due x a b d e f h o);
      answer = λ room terms places slots id m is i w due q x a b d e f h o u v. plainly g.P.Part.wide (AllHaveRoom g.S.Store.room) room terms places slots id m i (λ _. w) (λ _. AnswerStored (step slots i w 0 none) m w) (moves.answer room terms places slots id m is i w due q x a b d e f h o u v);
      apply = λ room terms places slots id m is others q x a b d e f h. plainly g.P.Part.wide (AllHaveRoom g.S.Store.room) room terms places slots id m lock_at (λ n. n) (Applied (step slots lock_at 0 0 none) m) (moves.apply room terms places slots id m is others q x a b d e f h);
      archive = λ room terms places slots id m is others n a b. plainly g.P.Part.wide (AllHaveRoom g.S.Store.room) room terms places slots id m lock_at (λ k. k) (Archived (step slots lock_at 0 0 none) m) (moves.archive room terms places slots id m is others n a b);
      change = λ room terms places slots id m is others n a b. plainly g.P.Part.wide (AllHaveRoom g.S.Store.room) room terms places slots id m lock_at (λ k. k) (Changed (step slots lock_at 0 0 none) m) (moves.change room terms places slots id m is others n a b);
      hand_out = λ room terms places slots id m is. plainly g.P.Part.wide (AllHaveRoom g.S.Store.room) room terms places slots id m lock_at (λ k. k) (HandedOut (step slots lock_at 0 0 none) m) (moves.hand_out room terms places slots id m is);
      release = λ room terms places slots id m is others a b. plainly g.P.Part.wide (AllHaveRoom g.S.Store.room) room terms places slots id m lock_at (λ _. 0) (λ _. Released (step slots lock_at 0 0 none) m 0) (moves.release room terms places slots id m is others a b);
      release_with = λ room terms places slots id m is others q x a b d e f h o. plainly g.P.Part.wide (AllHaveRoom g.S.Store.room) room terms places slots id m lock_at (λ _. 0) (λ _. ReleasedWith (step slots lock_at 0 0 none) m 0) (moves.release_with room terms places slots id m is others q x a b d e f h o);
      look = λ room terms places slots id m is i q a b. plainly g.P.Part.wide (AllHaveRoom g.S.Store.room) room terms places slots id m i (λ n. n) (AnswerLooked (AllHaveRoom g.S.Store.room) (step slots i 0 0 none) m) (moves.look room terms places slots id m is i q a b);
      see_item = λ room terms places slots id m is i j q n a b d e f. plainly g.P.Part.wide (AllHaveRoom g.S.Store.room) room terms places slots id m i (λ n. n) (ItemSeen g.P.Part.wide (step slots i 0 0 none) m) (moves.see_item room terms places slots id m is i j q n a b d e f);
      take_item = λ room terms places slots id m is i j q n a b d e f. plainly g.P.Part.wide (AllHaveRoom g.S.Store.room) room terms places slots id m i (λ n. n) (ItemTaken g.P.Part.wide (step slots i 0 0 none) m) (moves.take_item room terms places slots id m is i j q n a b d e f);
    }
