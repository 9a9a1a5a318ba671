-- The worked histories, step by step.
use Rattle.std.proofs.Common.{[], ◌∷◌, ◌<◌, refl, inl, lit<, arith}
use Rattle.std.specs.Prelude.{Some, None}
use Rattle.pq_types.specs.Operation.{Asked}
use Rattle.pq_types.specs.declared.request.Request.TheVariants.{Push, Pop}
use Rattle.pq_types.specs.declared.answer.Reply.TheVariants.{Pushed, Got, Empty}
use Rattle.pq_types.specs.declared.answer.Answer.TheVariants.{Entered}
use Rattle.pq_types.specs.declared.control.Kind.TheVariants as kind
use Rattle.pq_types.specs.declared.control.Outcome.TheVariants as outcome
use Rattle.pq_types.specs.declared.control.Notice.TheVariants as notice
use Rattle.pq_types.specs.Item.{item}
use Rattle.pq_types.specs.Control.{posted, answered}
use Rattle.pq_types.specs.History.{line}
use Rattle.desk_core.specs.declared.model.PenState.{PenState}
use Rattle.desk_core.specs.Calls.{call_of}
use Rattle.desk_core.specs.Desk.{volume, plain}
use Rattle.desk_core.specs.Pen.{new_pen, after_post, after_lead, due_to, after_read, after_lay, after_answer, after_apply, after_release_with, after_look}
use Rattle.desk_core.specs.Linearizable.{Precedes}
use Rattle.desk_core.specs.WorkedHistories.{ComingOut, Overtaking, Together, StaleIsRefused, stale}

abbrev waits_0 : PenState
waits_0 = after_post (new_pen 4 0) Pop 0

abbrev leads_1 : PenState
leads_1 = after_lead (new_pen 4 1) (volume (plain 4) [])

abbrev entered_1 : PenState
entered_1 = after_release_with leads_1 (Push (item 5 7)) (Entered 1 Pushed) 1

abbrev again_1 : PenState
again_1 = after_lead entered_1 (volume (plain 4) (line 1 1 (Push (item 5 7)) Pushed ∷ []))

abbrev read_1 : PenState
read_1 = after_read again_1 0 (posted 1 Pop)

abbrev laid_1 : PenState
laid_1 = after_lay read_1 (due_to 0 1 kind.Pop None) (item 5 7)

abbrev answered_1 : PenState
answered_1 = after_answer laid_1 (due_to 0 1 kind.Pop (Some (item 5 7))) Pop (Entered 2 (Got (item 5 7)))

abbrev looked_0 : PenState
looked_0 = after_look waits_0 Pop (answered (Entered 2 (Got (item 5 7)))) 3

pub overtaking_run : Overtaking
overtaking_run =
    record {
      done = _;
      run = (
        _,
        (new_pen 4 0, None, refl, refl, lit< tt, tt, tt, refl),
        (
          _,
          (new_pen 4 1, refl, inl (refl, (_, refl, refl))),
          (
            _,
            (leads_1, refl, refl, refl, (None, refl), lit< tt, (lit< tt, lit< tt), (record { space = lit< tt; kept = lit< tt; heard = λ ends. refl; below = λ adds. lit< tt }, refl, refl), refl),
            (
              _,
              (entered_1, refl, inl (refl, (_, refl, refl))),
              (
                _,
                (again_1, refl, refl, lit< tt, refl),
                (
                  _,
                  (read_1, due_to 0 1 kind.Pop None, refl, refl, refl, (λ e. cc e), (lit< tt, lit< tt), refl),
                  (
                    _,
                    (laid_1, due_to 0 1 kind.Pop (Some (item 5 7)), Pop, refl, refl, refl, refl, tt, refl, (record { space = lit< tt; kept = lit< tt; heard = λ ends. refl; below = λ adds. lit< tt }, refl, refl), refl),
                    (
                      _,
                      (answered_1, refl, refl, refl),
                      (
                        _,
                        (waits_0, Pop, refl, refl, refl),
                        (_, (looked_0, Pop, notice.Entered 2 outcome.Got, refl, refl, refl, refl, refl), refl),
                      ),
                    ),
                  ),
                ),
              ),
            ),
          ),
        ),
      );
      seen = refl;
      journal = refl;
    }

abbrev applied_1 : PenState
applied_1 = after_apply leads_1 (Push (item 5 7)) (Entered 1 Pushed) 1

abbrev applied_2 : PenState
applied_2 = after_apply applied_1 (Push (item 3 8)) (Entered 2 Pushed) 3

pub together_run : Together
together_run =
    record {
      done = _;
      run = (
        _,
        (new_pen 4 0, None, refl, refl, lit< tt, tt, tt, refl),
        (
          _,
          (new_pen 4 1, refl, inl (refl, (_, refl, refl))),
          (
            _,
            (leads_1, refl, refl, (None, refl), lit< tt, (lit< tt, lit< tt), (record { space = lit< tt; kept = lit< tt; heard = λ ends. refl; below = λ adds. lit< tt }, refl, refl), refl),
            (
              _,
              (applied_1, refl, refl, (None, refl), lit< tt, (lit< tt, lit< tt), (record { space = lit< tt; kept = lit< tt; heard = λ ends. refl; below = λ adds. lit< tt }, refl, refl), refl),
              (_, (applied_2, refl, refl, refl), refl),
            ),
          ),
        ),
      );
      seen = refl;
      journal = refl;
    }

pub coming_out_run : ComingOut
coming_out_run =
    record {
      done = _;
      run = (
        _,
        (0, 4, refl, lit< tt, refl),
        (
          _,
          (new_pen 4 0, None, refl, refl, lit< tt, tt, tt, refl),
          (
            _,
            (1, 4, refl, lit< tt, refl),
            (
              _,
              (new_pen 4 1, refl, inl (refl, (_, refl, refl))),
              (_, (leads_1, refl, refl, refl, (None, refl), lit< tt, (lit< tt, lit< tt), (record { space = lit< tt; kept = lit< tt; heard = λ ends. refl; below = λ adds. lit< tt }, refl, refl), refl), refl),
            ),
          ),
        ),
      );
      seen = refl;
      journal = refl;
    }

pub stale_is_refused : StaleIsRefused
stale_is_refused =
    record {
      turns = (refl, lit< tt, (refl, refl, (refl, lit< tt, (refl, refl, tt))));
      legal = (refl, (refl, tt));
      once = (((λ e. absurd (cc e)), tt), (tt, tt));
      refused = λ room journal h.
          (let push = h.ended 0 1 (Entered 2 Pushed) (1, refl) in
          let pop = h.ended 1 1 (Entered 1 Empty) (3, refl) in
          let first : Precedes stale 0 1 1 1 =
          record { end = 1; begin = 2; answer = Entered 2 Pushed; operation = Asked Pop; before = lit< tt; ends = refl; begins = refl } in
          let wrong : 2 < 1 = h.order 0 1 (call_of 2 1 push.0 Pushed) (call_of 1 1 pop.0 Empty) push.1 pop.1 first in
          omega (arith, wrong));
    }
