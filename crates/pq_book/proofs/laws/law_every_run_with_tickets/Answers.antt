use Rattle.std.proofs.Common.{[], arith}
use Rattle.pq_book.proofs.Bounds.{run_bounded, run_heeds, none_bounded}
use Rattle.pq_book.proofs.Doings.{ran, requests_run, doings_join}
use Rattle.pq_book.proofs.laws.law_every_run_with_tickets.Goals as goal

pub returns : goal.returns
returns c =
    let line = c.law_one_more_line.ensures in
    let new = ran line.entries line.legal line.rise in
    record {
      replies = λ room bound ds after h. (new room bound [] ds after h).replies;
      entries = λ room bound ds after h. (new room bound [] ds after h).entries;
      lines = λ room bound ds after h. omega (arith, (new room bound [] ds after h).lines);
      legal = λ room bound ds after h. (new room bound [] ds after h).legal tt;
      rise = λ room bound ds after h. (new room bound [] ds after h).rise tt;
      shut = λ room bound ds after h. run_heeds c.law_shut.ensures.heeds room bound [] ds after h tt;
      bounded = λ room bound ds after h. run_bounded room bound [] ds after h (none_bounded bound);
      join = doings_join;
      requests = requests_run;
    }
