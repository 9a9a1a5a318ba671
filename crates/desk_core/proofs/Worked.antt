-- The worked runs, step by step.
use Rattle.std.proofs.Common.{[], ◌∷◌, refl, inl, lit<}
use Rattle.std.specs.Prelude.{Some, None}
use Rattle.pq_types.specs.declared.request.Request.TheVariants.{Push, Pop, Least}
use Rattle.pq_types.specs.declared.answer.Reply.TheVariants.{Pushed, Got, Empty}
use Rattle.pq_types.specs.declared.answer.Answer.TheVariants.{Entered, BookFull}
use Rattle.pq_types.specs.declared.control.Kind.TheVariants as kind
use Rattle.pq_types.specs.declared.control.Outcome.TheVariants as outcome
use Rattle.pq_types.specs.declared.control.Notice.TheVariants as notice
use Rattle.pq_types.specs.declared.control.Control.TheVariants.{Nothing}
use Rattle.pq_types.specs.Item.{item}
use Rattle.pq_types.specs.Control.{posted, answered}
use Rattle.pq_types.specs.History.{line}
use Rattle.desk_core.specs.declared.model.PenState.{PenState}
use Rattle.desk_core.specs.Desk.{volume, plain}
use Rattle.desk_core.specs.Pen.{new_pen, after_draft, after_post, after_lead, due_to, after_read, after_read_item, after_lay, after_answer, after_release, after_release_with, after_look, after_take}
use Rattle.desk_core.specs.Worked.{ThreePens, HalfWritten, FullJournal, OwnRequests}

-- three pens: the pens at 3 and 1, each after its draft and its post
abbrev drafted_3 : PenState
drafted_3 = after_draft (new_pen 4 3) (item 4 8)

abbrev waits_3 : PenState
waits_3 = after_post drafted_3 (Push (item 4 8)) 0

abbrev drafted_1 : PenState
drafted_1 = after_draft (new_pen 4 1) (item 9 9)

-- the pen at 0 with the lock, and after each of its reads and answers
abbrev leads_0 : PenState
leads_0 = after_lead (after_post (new_pen 4 0) Pop 1) (volume (plain 4) [])

abbrev read_0 : PenState
read_0 = after_read leads_0 0 (posted 1 Pop)

abbrev answered_0 : PenState
answered_0 = after_answer read_0 (due_to 0 1 kind.Pop None) Pop (Entered 1 Empty)

abbrev read_1 : PenState
read_1 = after_read answered_0 1 (posted 1 (Push (item 9 9)))

abbrev item_1 : PenState
item_1 = after_read_item read_1 (due_to 1 1 kind.Push None) (item 9 9)

abbrev answered_1 : PenState
answered_1 = after_answer item_1 (due_to 1 1 kind.Push (Some (item 9 9))) (Push (item 9 9)) (Entered 2 Pushed)

abbrev read_3 : PenState
read_3 = after_read answered_1 3 (posted 1 (Push (item 4 8)))

abbrev item_3 : PenState
item_3 = after_read_item read_3 (due_to 3 1 kind.Push None) (item 4 8)

abbrev answered_3 : PenState
answered_3 = after_answer item_3 (due_to 3 1 kind.Push (Some (item 4 8))) (Push (item 4 8)) (Entered 3 Pushed)

abbrev looked_3 : PenState
looked_3 = after_look waits_3 (Push (item 4 8)) (posted 1 (Push (item 4 8))) 3

pub three_pens_run : ThreePens
three_pens_run = (
  _,
  (
    _,
    (new_pen 4 3, refl, (None, refl), (lit< tt, lit< tt), refl),
    (
      _,
      (drafted_3, Some (item 4 8), refl, refl, lit< tt, (lit< tt, lit< tt), refl, refl),
      (
        _,
        (new_pen 4 0, None, refl, refl, lit< tt, tt, tt, refl),
        (
          _,
          (new_pen 4 1, refl, (None, refl), (lit< tt, lit< tt), refl),
          (
            _,
            (drafted_1, Some (item 9 9), refl, refl, lit< tt, (lit< tt, lit< tt), refl, refl),
            (
              _,
              (waits_3, Push (item 4 8), refl, refl, refl),
              (
                _,
                (after_post (new_pen 4 0) Pop 1, refl, inl (refl, (_, refl, refl))),
                (
                  _,
                  (leads_0, refl, refl, lit< tt, refl),
                  (
                    _,
                    (read_0, due_to 0 1 kind.Pop None, Pop, refl, refl, refl, refl, tt, tt, (record { space = lit< tt; kept = lit< tt; heard = λ ends. refl; below = λ adds. lit< tt }, refl, refl), refl),
                    (
                      _,
                      (answered_0, refl, refl, lit< tt, refl),
                      (
                        _,
                        (read_1, due_to 1 1 kind.Push None, refl, refl, refl, refl, refl),
                        (
                          _,
                          (item_1, due_to 1 1 kind.Push (Some (item 9 9)), Push (item 9 9), refl, refl, refl, refl, refl, tt, (record { space = lit< tt; kept = lit< tt; heard = λ ends. refl; below = λ adds. lit< tt }, refl, refl), refl),
                          (
                            _,
                            (answered_1, refl, refl, lit< tt, refl),
                            (
                              _,
                              (read_3, due_to 3 1 kind.Push None, refl, refl, refl, refl, refl),
                              (
                                _,
                                (item_3, due_to 3 1 kind.Push (Some (item 4 8)), Push (item 4 8), refl, refl, refl, refl, refl, tt, (record { space = lit< tt; kept = lit< tt; heard = λ ends. refl; below = λ adds. lit< tt }, refl, refl), refl),
                                (_, (answered_3, refl, refl, refl), refl),
                              ),
                            ),
                          ),
                        ),
                      ),
                    ),
                  ),
                ),
              ),
            ),
          ),
        ),
      ),
    ),
  ),
  refl,
  (looked_3, refl, refl),
)

-- the half-written record: the pen at 1 after its draft and its post, and the pen at 0
abbrev half_drafted : PenState
half_drafted = after_draft (new_pen 4 1) (item 9 0)

abbrev half_posted : PenState
half_posted = after_post half_drafted Pop 0

abbrev half_leads : PenState
half_leads = after_lead (new_pen 4 0) (volume (plain 4) [])

abbrev half_read : PenState
half_read = after_read half_leads 1 Nothing

abbrev whole_read : PenState
whole_read = after_read half_read 1 (posted 1 Pop)

abbrev whole_answered : PenState
whole_answered = after_answer whole_read (due_to 1 1 kind.Pop None) Pop (Entered 1 Empty)

pub half_written_run : HalfWritten
half_written_run =
    record {
      met = _;
      done = _;
      half = (
        _,
        (new_pen 4 1, refl, (None, refl), (lit< tt, lit< tt), refl),
        (
          _,
          (new_pen 4 0, refl, inl (refl, (_, refl, refl))),
          (_, (half_leads, refl, refl, lit< tt, refl), refl),
        ),
      );
      nothing_due = (half_read, refl, refl, refl);
      whole = (
        _,
        (half_drafted, Some (item 9 0), refl, refl, lit< tt, tt, tt, refl),
        (
          _,
          (half_read, refl, refl, lit< tt, refl),
          (
            _,
            (whole_read, due_to 1 1 kind.Pop None, Pop, refl, refl, refl, refl, tt, tt, (record { space = lit< tt; kept = lit< tt; heard = λ ends. refl; below = λ adds. lit< tt }, refl, refl), refl),
            (_, (whole_answered, refl, refl, refl), (_, (half_posted, Pop, refl, refl, refl), refl)),
          ),
        ),
      );
      idle = (after_look half_posted Pop (answered (Entered 1 Empty)) 1, refl, refl, refl);
    }

-- one pen by itself: its push
abbrev first_drafted : PenState
first_drafted = after_draft (new_pen 2 0) (item 5 7)

abbrev first_posted : PenState
first_posted = after_post first_drafted (Push (item 5 7)) 0

abbrev first_leads : PenState
first_leads = after_lead first_posted (volume (plain 2) [])

abbrev first_read : PenState
first_read = after_read first_leads 0 (posted 1 (Push (item 5 7)))

abbrev first_item : PenState
first_item = after_read_item first_read (due_to 0 1 kind.Push None) (item 5 7)

abbrev first_answered : PenState
first_answered = after_answer first_item (due_to 0 1 kind.Push (Some (item 5 7))) (Push (item 5 7)) (Entered 1 Pushed)

abbrev first_released : PenState
first_released = after_release first_answered

abbrev first_looked : PenState
first_looked = after_look first_released (Push (item 5 7)) (answered (Entered 1 Pushed)) 1

-- its pop
abbrev second_posted : PenState
second_posted = after_post first_looked Pop 2

abbrev second_leads : PenState
second_leads = after_lead second_posted (volume (plain 2) (line 0 1 (Push (item 5 7)) Pushed ∷ []))

abbrev second_read : PenState
second_read = after_read second_leads 0 (posted 2 Pop)

abbrev second_laid : PenState
second_laid = after_lay second_read (due_to 0 2 kind.Pop None) (item 5 7)

abbrev second_answered : PenState
second_answered = after_answer second_laid (due_to 0 2 kind.Pop (Some (item 5 7))) Pop (Entered 2 (Got (item 5 7)))

abbrev second_released : PenState
second_released = after_release second_answered

abbrev second_looked : PenState
second_looked = after_look second_released Pop (answered (Entered 2 (Got (item 5 7)))) 3

abbrev second_taken : PenState
second_taken = after_take second_looked Pop (notice.Entered 2 outcome.Got) (item 5 7) 3

-- its least, which is refused
abbrev third_posted : PenState
third_posted = after_post second_taken Least 4

abbrev third_leads : PenState
third_leads = after_lead third_posted (volume (plain 2) (line 0 1 (Push (item 5 7)) Pushed ∷ line 0 2 Pop (Got (item 5 7)) ∷ []))

abbrev third_read : PenState
third_read = after_read third_leads 0 (posted 3 Least)

abbrev third_answered : PenState
third_answered = after_answer third_read (due_to 0 3 kind.Least None) Least BookFull

abbrev third_released : PenState
third_released = after_release third_answered

abbrev third_looked : PenState
third_looked = after_look third_released Least (answered BookFull) 5

pub full_journal_run : FullJournal
full_journal_run =
    record {
      pushed = _;
      popped = _;
      took = _;
      refused = _;
      push = (
        _,
        (new_pen 2 0, refl, (None, refl), (lit< tt, lit< tt), refl),
        (
          _,
          (first_drafted, Some (item 5 7), refl, refl, lit< tt, (lit< tt, lit< tt), refl, refl),
          (
            _,
            (first_posted, refl, inl (refl, (_, refl, refl))),
            (
              _,
              (first_leads, refl, refl, lit< tt, refl),
              (
                _,
                (first_read, due_to 0 1 kind.Push None, refl, refl, refl, refl, refl),
                (
                  _,
                  (first_item, due_to 0 1 kind.Push (Some (item 5 7)), Push (item 5 7), refl, refl, refl, refl, refl, tt, (record { space = lit< tt; kept = lit< tt; heard = λ ends. refl; below = λ adds. lit< tt }, refl, refl), refl),
                  (
                    _,
                    (first_answered, refl, refl, refl),
                    (_, (first_released, Push (item 5 7), refl, refl, refl), refl),
                  ),
                ),
              ),
            ),
          ),
        ),
      );
      first = (first_looked, refl, refl, refl);
      pop = (
        _,
        (first_looked, None, refl, refl, lit< tt, tt, tt, refl),
        (
          _,
          (second_posted, refl, inl (refl, (_, refl, refl))),
          (
            _,
            (second_leads, refl, refl, lit< tt, refl),
            (
              _,
              (second_read, due_to 0 2 kind.Pop None, refl, refl, refl, (λ e. cc e), (lit< tt, lit< tt), refl),
              (
                _,
                (second_laid, due_to 0 2 kind.Pop (Some (item 5 7)), Pop, refl, refl, refl, refl, tt, refl, (record { space = lit< tt; kept = lit< tt; heard = λ ends. refl; below = λ adds. lit< tt }, refl, refl), refl),
                (_, (second_answered, refl, refl, refl), (_, (second_released, Pop, refl, refl, refl), refl)),
              ),
            ),
          ),
        ),
      );
      waits = (second_looked, refl, refl, refl);
      take = (_, (second_looked, Pop, notice.Entered 2 outcome.Got, refl, refl, refl, refl, refl), refl);
      second = (second_taken, refl, refl, refl);
      ask = (
        _,
        (second_taken, None, refl, refl, lit< tt, tt, tt, refl),
        (
          _,
          (third_posted, refl, inl (refl, (_, refl, refl))),
          (
            _,
            (third_leads, refl, refl, lit< tt, refl),
            (
              _,
              (third_read, due_to 0 3 kind.Least None, Least, refl, refl, refl, refl, tt, tt, refl, refl),
              (_, (third_answered, refl, refl, refl), (_, (third_released, Least, refl, refl, refl), refl)),
            ),
          ),
        ),
      );
      third = (third_looked, refl, refl, refl, refl);
      journal = refl;
    }

-- the same by its own requests
abbrev own_first : PenState
own_first = after_release_with (after_lead (new_pen 2 0) (volume (plain 2) [])) (Push (item 5 7)) (Entered 1 Pushed) 0

abbrev own_leads : PenState
own_leads = after_lead own_first (volume (plain 2) (line 0 1 (Push (item 5 7)) Pushed ∷ []))

abbrev own_second : PenState
own_second = after_release_with own_leads Pop (Entered 2 (Got (item 5 7))) 2

abbrev own_again : PenState
own_again = after_lead own_second (volume (plain 2) (line 0 1 (Push (item 5 7)) Pushed ∷ line 0 2 Pop (Got (item 5 7)) ∷ []))

pub own_requests_run : OwnRequests
own_requests_run =
    record {
      done = _;
      run = (
        _,
        (new_pen 2 0, refl, inl (refl, (_, refl, refl))),
        (
          _,
          (after_lead (new_pen 2 0) (volume (plain 2) []), refl, refl, refl, (None, refl), lit< tt, (lit< tt, lit< tt), (record { space = lit< tt; kept = lit< tt; heard = λ ends. refl; below = λ adds. lit< tt }, refl, refl), refl),
          (
            _,
            (own_first, refl, inl (refl, (_, refl, refl))),
            (
              _,
              (own_leads, refl, refl, refl, (None, refl), lit< tt, tt, (record { space = lit< tt; kept = lit< tt; heard = λ ends. refl; below = λ adds. lit< tt }, refl, refl), refl),
              (
                _,
                (own_second, refl, inl (refl, (_, refl, refl))),
                (_, (own_again, refl, refl, refl, (None, refl), lit< tt, tt, refl, refl), refl),
              ),
            ),
          ),
        ),
      );
      pen = (after_release_with own_again Least BookFull 4, refl, refl, refl, refl);
      empty = refl;
      journal = refl;
    }
