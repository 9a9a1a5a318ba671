-- The rounds of two comers, step by step.
use Rattle.std.proofs.Common.{◌≡◌, [], ◌∷◌, refl, ap, sym, ◌∙◌, inl, inr, lit<, lit≤}
use Rattle.std.specs.Prelude.{Some, None}
use mathlib.Core.Option.{some}
use Rattle.pq_types.specs.declared.request.Request.TheVariants.{Push}
use Rattle.pq_types.specs.declared.answer.Reply.TheVariants.{Pushed}
use Rattle.pq_types.specs.declared.answer.Answer.TheVariants.{Entered}
use Rattle.pq_types.specs.declared.control.Kind.TheVariants as kind
use Rattle.pq_types.specs.declared.control.Control.TheVariants.{Nothing}
use Rattle.pq_types.specs.Item.{item}
use Rattle.pq_types.specs.Control.{posted, answered}
use Rattle.pq_types.specs.History.{line}
use Rattle.split_core.specs.Places.{place}
use Rattle.split_core.specs.Grid.{Scans, Begins}
use Rattle.desk_core.specs.Desk.{volume, plain}
use Rattle.desk_core.specs.Pen.{new_pen, after_draft, after_post, after_lead, due_to, after_read, after_read_item, after_answer, after_release}
use Rattle.desk_core.specs.declared.model.PenState.{PenState}
use Rattle.desk_core.specs.declared.model.View.TheVariants.{Holder}
use Rattle.flat_queue.specs.Product.{OnGrid, AtDesk}
use Rattle.flat_queue.specs.TrailRounds.{Happens, ReadsDoor}
use Rattle.flat_queue.specs.Worked.{RoundOfTwo, TrailRoundOfTwo}

-- a pen that is this one owes nothing, if this one does not
owes_nothing : (v p : PenState) → some (Holder v) ≡ some (Holder p) → v.due ≡ None → p.due ≡ None
owes_nothing v p same free = let e : v ≡ p = cc in ap (λ (x : PenState). x.due) (sym e) ∙ free

-- the second pen after its draft
abbrev drafted : PenState
drafted = after_draft (new_pen 1 1) (item 6 2)

-- the first pen with the lock, and what it reads and answers
abbrev leader : PenState
leader = after_lead (new_pen 1 0) (volume (plain 1) [])

abbrev read_own : PenState
read_own = after_read leader 0 Nothing

abbrev read_other : PenState
read_other = after_read read_own 1 (posted 1 (Push (item 6 2)))

abbrev item_read : PenState
item_read = after_read_item read_other (due_to 1 1 kind.Push None) (item 6 2)

abbrev answered_other : PenState
answered_other = after_answer item_read (due_to 1 1 kind.Push (Some (item 6 2))) (Push (item 6 2)) (Entered 1 Pushed)

-- and in its second lead
abbrev leads_again : PenState
leads_again = after_lead (after_release answered_other) (volume (plain 1) (line 1 1 (Push (item 6 2)) Pushed ∷ []))

abbrev own_again : PenState
own_again = after_read leads_again 0 Nothing

abbrev other_again : PenState
other_again = after_read own_again 1 (answered (Entered 1 Pushed))

pub round_of_two : RoundOfTwo
unfolding place
round_of_two =
    record {
      met = _;
      done = _;
      again = _;
      arrive = (
        _,
        refl,
        (
          _,
          refl,
          (
            _,
            refl,
            (
              _,
              refl,
              (
                _,
                refl,
                (
                  _,
                  refl,
                  (
                    _,
                    refl,
                    (
                      _,
                      refl,
                      (
                        _,
                        refl,
                        (
                          _,
                          refl,
                          (
                            _,
                            ((_, new_pen 1 1, refl, refl, refl, refl), (_, (new_pen 1 1, refl, (None, refl), (lit< tt, lit< tt), refl), refl)),
                            (
                              _,
                              ((_, drafted, refl, refl, refl, refl), (_, (drafted, Some (item 6 2), refl, refl, lit< tt, (lit< tt, lit< tt), refl, refl), refl)),
                              refl,
                            ),
                          ),
                        ),
                      ),
                    ),
                  ),
                ),
              ),
            ),
          ),
        ),
      );
      posted = (lit< tt, (1, after_post drafted (Push (item 6 2)) 0, refl, refl, lit≤ tt));
      round = record {
        early = [];
        late = OnGrid (Scans 0) ∷ OnGrid (Scans 0) ∷ [];
        rest = AtDesk 0 _ ∷ AtDesk 0 _ ∷ AtDesk 0 _ ∷ AtDesk 0 _ ∷ [];
        led = _;
        scanning = _;
        scanned = _;
        served = _;
        last = _;
        ends = inl refl;
        in_order = refl;
        free = refl;
        wins = ((_, new_pen 1 0, refl, refl, refl, refl), (_, (new_pen 1 0, refl, inl (refl, (_, refl, refl))), refl));
        before_scan = refl;
        scan = (_, refl, (_, refl, (_, refl, refl)));
        one_scan = ((λ e. cc e), ((λ e. cc e), tt));
        comer = _;
        is_comer = refl;
        over = refl;
        after_scan = (
          _,
          ((_, leader, refl, refl, refl, refl), (_, (leader, refl, refl, lit< tt, refl), refl)),
          (
            _,
            ((_, read_own, refl, refl, refl, refl), (_, (read_own, refl, refl, lit< tt, refl), refl)),
            (
              _,
              ((_, read_other, refl, refl, refl, refl), (_, (read_other, due_to 1 1 kind.Push None, refl, refl, refl, refl, refl), refl)),
              (
                _,
                ((_, item_read, refl, refl, refl, refl), (_, (item_read, due_to 1 1 kind.Push (Some (item 6 2)), Push (item 6 2), refl, refl, refl, refl, refl, tt, (record { space = lit< tt; kept = lit< tt; heard = λ ends. refl; below = λ adds. lit< tt }, refl, refl), refl), refl)),
                refl,
              ),
            ),
          ),
        );
        reads = λ p h. h;
        answers = (
          _,
          (leader, refl, refl, lit< tt, refl),
          (λ e p a. owes_nothing leader p a refl),
          (
            _,
            (read_own, refl, refl, lit< tt, refl),
            (λ e p a. owes_nothing read_own p a refl),
            (
              _,
              (read_other, due_to 1 1 kind.Push None, refl, refl, refl, refl, refl),
              tt,
              (
                _,
                (item_read, due_to 1 1 kind.Push (Some (item 6 2)), Push (item 6 2), refl, refl, refl, refl, refl, tt, (record { space = lit< tt; kept = lit< tt; heard = λ ends. refl; below = λ adds. lit< tt }, refl, refl), refl),
                tt,
                (refl, (λ p a. owes_nothing answered_other p a refl)),
              ),
            ),
          ),
        );
        release = ((_, answered_other, refl, refl, refl, refl), (_, (answered_other, refl, refl, refl), refl));
      };
      journal = refl;
      second = record {
        early = [];
        late = OnGrid (Scans 0) ∷ OnGrid (Scans 0) ∷ [];
        rest = AtDesk 0 _ ∷ OnGrid (Begins 0) ∷ AtDesk 0 _ ∷ [];
        led = _;
        scanning = _;
        scanned = _;
        served = _;
        last = _;
        ends = inl refl;
        in_order = refl;
        free = refl;
        wins = ((_, after_release answered_other, refl, refl, refl, refl), (_, (after_release answered_other, refl, inl (refl, (_, refl, refl))), refl));
        before_scan = refl;
        scan = (_, refl, (_, refl, (_, refl, refl)));
        one_scan = ((λ e. cc e), ((λ e. cc e), tt));
        comer = _;
        is_comer = refl;
        over = refl;
        after_scan = (
          _,
          ((_, leads_again, refl, refl, refl, refl), (_, (leads_again, refl, refl, lit< tt, refl), refl)),
          (
            _,
            refl,
            (
              _,
              ((_, own_again, refl, refl, refl, refl), (_, (own_again, refl, refl, lit< tt, refl), refl)),
              refl,
            ),
          ),
        );
        reads = λ p h. h;
        answers = (
          _,
          (leads_again, refl, refl, lit< tt, refl),
          (λ e p a. owes_nothing leads_again p a refl),
          (
            _,
            (own_again, refl, refl, lit< tt, refl),
            (λ e p a. owes_nothing own_again p a refl),
            (refl, (λ p a. owes_nothing other_again p a refl)),
          ),
        );
        release = ((_, other_again, refl, refl, refl, refl), (_, (other_again, refl, refl, refl), refl));
      };
    }

-- the same in a queue whose journal has room for two lines, by a trail scan and with a pop of its own
abbrev drafted_in_two : PenState
drafted_in_two = after_draft (new_pen 2 1) (item 6 2)

abbrev two_leads : PenState
two_leads = after_lead (new_pen 2 0) (volume (plain 2) [])

abbrev two_read_own : PenState
two_read_own = after_read two_leads 0 Nothing

abbrev two_read_other : PenState
two_read_other = after_read two_read_own 1 (posted 1 (Push (item 6 2)))

abbrev two_item_read : PenState
two_item_read = after_read_item two_read_other (due_to 1 1 kind.Push None) (item 6 2)

abbrev two_answered : PenState
two_answered = after_answer two_item_read (due_to 1 1 kind.Push (Some (item 6 2))) (Push (item 6 2)) (Entered 1 Pushed)

pub trail_round_of_two : TrailRoundOfTwo
unfolding place
trail_round_of_two =
    record {
      met = _;
      done = _;
      arrive = (
        _,
        refl,
        (
          _,
          refl,
          (
            _,
            refl,
            (
              _,
              refl,
              (
                _,
                refl,
                (
                  _,
                  refl,
                  (
                    _,
                    refl,
                    (
                      _,
                      refl,
                      (
                        _,
                        refl,
                        (
                          _,
                          refl,
                          (
                            _,
                            ((_, new_pen 2 1, refl, refl, refl, refl), (_, (new_pen 2 1, refl, (None, refl), (lit< tt, lit< tt), refl), refl)),
                            (
                              _,
                              ((_, drafted_in_two, refl, refl, refl, refl), (_, (drafted_in_two, Some (item 6 2), refl, refl, lit< tt, (lit< tt, lit< tt), refl, refl), refl)),
                              refl,
                            ),
                          ),
                        ),
                      ),
                    ),
                  ),
                ),
              ),
            ),
          ),
        ),
      );
      posted = (lit< tt, (1, after_post drafted_in_two (Push (item 6 2)) 0, refl, refl, lit≤ tt));
      round = record {
        early = [];
        moments = ReadsDoor ∷ Happens (AtDesk 0 _) ∷ ReadsDoor ∷ ReadsDoor ∷ [];
        rest = AtDesk 0 _ ∷ AtDesk 0 _ ∷ AtDesk 0 _ ∷ [];
        led = _;
        scanning = _;
        scanned = _;
        served = _;
        last = _;
        ends = inr (_, _, refl);
        in_order = refl;
        free = refl;
        wins = ((_, new_pen 2 0, refl, refl, refl, refl), (_, (new_pen 2 0, refl, inl (refl, (_, refl, refl))), refl));
        before_scan = refl;
        trail = _;
        scan = (
          _,
          ((_, two_leads, refl, refl, refl, refl), (_, (two_leads, refl, refl, lit< tt, refl), refl)),
          (refl, refl),
        );
        over = refl;
        after_scan = (
          _,
          ((_, two_read_own, refl, refl, refl, refl), (_, (two_read_own, refl, refl, lit< tt, refl), refl)),
          (
            _,
            ((_, two_read_other, refl, refl, refl, refl), (_, (two_read_other, due_to 1 1 kind.Push None, refl, refl, refl, refl, refl), refl)),
            (
              _,
              ((_, two_item_read, refl, refl, refl, refl), (_, (two_item_read, due_to 1 1 kind.Push (Some (item 6 2)), Push (item 6 2), refl, refl, refl, refl, refl, tt, (record { space = lit< tt; kept = lit< tt; heard = λ ends. refl; below = λ adds. lit< tt }, refl, refl), refl), refl)),
              refl,
            ),
          ),
        );
        reads = λ p h. h;
        answers = (
          _,
          (two_leads, refl, refl, lit< tt, refl),
          (λ e p a. owes_nothing two_leads p a refl),
          (
            _,
            (two_read_own, refl, refl, lit< tt, refl),
            (λ e p a. owes_nothing two_read_own p a refl),
            (
              _,
              (two_read_other, due_to 1 1 kind.Push None, refl, refl, refl, refl, refl),
              tt,
              (
                _,
                (two_item_read, due_to 1 1 kind.Push (Some (item 6 2)), Push (item 6 2), refl, refl, refl, refl, refl, tt, (record { space = lit< tt; kept = lit< tt; heard = λ ends. refl; below = λ adds. lit< tt }, refl, refl), refl),
                tt,
                (refl, (λ p a. owes_nothing two_answered p a refl)),
              ),
            ),
          ),
        );
        release = (
          (_, two_answered, refl, refl, refl, refl),
          (_, (two_answered, refl, refl, refl, (None, refl), lit< tt, tt, (record { space = lit< tt; kept = lit< tt; heard = λ ends. refl; below = λ adds. lit< tt }, refl, refl), refl), refl),
        );
      };
      journal = refl;
    }
