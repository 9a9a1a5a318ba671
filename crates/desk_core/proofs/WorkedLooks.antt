-- The worked look, step by step.
use Rattle.std.proofs.Common.{[], ◌∷◌, refl, inl, lit<}
use Rattle.std.specs.Prelude.{None}
use Rattle.pq_types.specs.declared.request.Request.TheVariants.{Push}
use Rattle.pq_types.specs.declared.answer.Reply.TheVariants.{Pushed}
use Rattle.pq_types.specs.declared.answer.Answer.TheVariants.{Entered}
use Rattle.pq_types.specs.Item.{item}
use Rattle.desk_core.specs.declared.model.PenState.{PenState}
use Rattle.desk_core.specs.Desk.{volume, plain}
use Rattle.desk_core.specs.Pen.{new_pen, after_lead, after_release_with}
use Rattle.desk_core.specs.WorkedLooks.{LooksBetween, first_push}

abbrev leads_0 : PenState
leads_0 = after_lead (new_pen 4 0) (volume (plain 4) [])

abbrev entered_0 : PenState
entered_0 = after_release_with leads_0 (Push (item 5 7)) (Entered 1 Pushed) 0

abbrev leads_1 : PenState
leads_1 = after_lead (new_pen 4 1) (volume (plain 4) (first_push ∷ []))

abbrev again_0 : PenState
again_0 = after_lead entered_0 (volume (plain 4) (first_push ∷ []))

pub looks_between : LooksBetween
looks_between =
    record {
      done = _;
      run = (
        _,
        (new_pen 4 0, refl, inl (refl, (_, refl, refl))),
        (
          _,
          (leads_0, refl, refl, refl, (None, refl), lit< tt, (lit< tt, lit< tt), (record { space = lit< tt; kept = lit< tt; heard = λ ends. refl; below = λ adds. lit< tt }, refl, refl), refl),
          (
            _,
            (new_pen 4 1, refl, inl (refl, (_, refl, refl))),
            (
              _,
              (leads_1, refl, refl, refl),
              (
                _,
                (entered_0, refl, inl (refl, (_, refl, refl))),
                (_, (again_0, refl, refl, refl, (None, refl), lit< tt, (lit< tt, lit< tt), (record { space = lit< tt; kept = lit< tt; heard = λ ends. refl; below = λ adds. lit< tt }, refl, refl), refl), refl),
              ),
            ),
          ),
        ),
      );
      seen = refl;
      found = refl;
      journal = refl;
      later = refl;
    }
