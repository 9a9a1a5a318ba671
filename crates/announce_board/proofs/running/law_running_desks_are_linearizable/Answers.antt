use Rattle.std.proofs.Common.{List, refl, subst}
use Rattle.desk_core.specs.Desk.{Desk, dealer_opening}
use Rattle.desk_core.specs.Linearizable.{Act, Linearizes}
use Rattle.announce_board.specs.Rule.{desk_of}
use Rattle.announce_board.specs.Slots.{first_limits}
use Rattle.announce_board.proofs.running.law_running_desks_are_linearizable.Goals as goal

pub returns-clause-linearized : goal.returns-clause-linearized
returns-clause-linearized g c = λ room terms places s k.
    let first = first_limits room terms in
    let d : Desk = desk_of room places k.held k.control k.cells s.homes s.views in
    let small = k.meets.2.room_in_range in
    let t = c.law_looks_are_within.ensures.dealt places first k.reached.0 d small k.reached.1 in
    let same = c.law_looks_are_within.ensures.more.dealt (dealer_opening places first) d k.reached.0 k.reached.1 in
    record {
      desk = d;
      words = k.words;
      home = refl;
      views = refl;
      moves = k.reached.0;
      run = k.reached.1;
      journal = t.0;
      lock = t.1;
      linearizes = subst (λ (h : List Act). Linearizes room h t.0) same t.2.calls;
      looks = t.2;
      timed = c.law_times.ensures.timed places first k.reached.0 d k.reached.1;
      whole = c.law_times.ensures.whole places first k.reached.0 d small k.reached.1;
      follow = c.law_times.ensures.order places first k.reached.0 d small k.reached.1;
      limited = c.law_archiving.ensures.runs places first k.reached.0 d small k.reached.1;
      waited = c.law_nobody_sleeps_beside_an_item.ensures.runs places first k.reached.0 d small k.reached.1;
    }

pub returns-clause-forced : goal.returns-clause-forced
returns-clause-forced g c = λ room terms places s s' seat p w k k' has same more.
    let d : Desk = desk_of room places k.held k.control k.cells s.homes s.views in
    let d' : Desk = desk_of room places k'.held k'.control k'.cells s'.homes s'.views in
    c.law_positions_are_forced.ensures places (first_limits room terms) d d' seat p w k.meets.2.room_in_range k.reached k'.reached has same more
