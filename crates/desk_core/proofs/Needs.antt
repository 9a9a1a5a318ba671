-- The step that would break the rule, where it is not allowed.
use Rattle.std.proofs.Common.{◌≡◌, ⊎_elim, true, false, [], refl, ap, inl, lit<}
use Rattle.std.specs.Prelude.{None}
use Rattle.pq_types.specs.declared.request.Request.TheVariants.{Pop}
use Rattle.pq_types.specs.declared.answer.Reply.TheVariants.{Empty}
use Rattle.pq_types.specs.declared.answer.Answer.TheVariants.{Entered}
use Rattle.pq_types.specs.declared.control.Kind.TheVariants as kind
use Rattle.pq_types.specs.declared.control.Control.TheVariants.{Nothing, Posted}
use Rattle.pq_types.specs.Control.{posted, is_answer}
use Rattle.desk_core.specs.declared.model.PenState.{PenState}
use Rattle.desk_core.specs.Desk.{volume, plain}
use Rattle.desk_core.specs.Pen.{new_pen, due_to, after_post, after_lead, after_read, after_release_with}
use Rattle.desk_core.specs.Needs.{OwnRequestNeeds}

abbrev leads_waiting : PenState
leads_waiting = after_lead (after_post (new_pen 4 0) Pop 0) (volume (plain 4) [])

abbrev leads_owing : PenState
leads_owing = after_read (after_lead (new_pen 4 0) (volume (plain 4) [])) 1 (posted 1 Pop)

pub own_request_needs : OwnRequestNeeds
own_request_needs =
    record {
      waiting = _;
      posted_twice = _;
      waits = (_, (new_pen 4 0, None, refl, refl, lit< tt, tt, tt, refl), (_, (after_post (new_pen 4 0) Pop 0, refl, inl (refl, (_, refl, refl))), refl));
      while_waiting = (leads_waiting, refl, refl, refl);
      controls = λ journal h.
          ⊎_elim
          (λ t. let e : Posted 1 kind.Pop ≡ Nothing = t.0 in cc)
          (λ t. let e : false ≡ true = ap is_answer t.1 in cc)
          ((h 0 (after_release_with leads_waiting Pop (Entered 1 Empty) 1) refl).idle (None, refl));
      owing = _;
      left_due = _;
      owes = (
        _,
        (new_pen 4 1, None, refl, refl, lit< tt, tt, tt, refl),
        (_, (new_pen 4 0, refl, inl (refl, (_, refl, refl))), (_, (after_lead (new_pen 4 0) (volume (plain 4) []), refl, refl, lit< tt, refl), refl)),
      );
      while_due = (leads_owing, refl, refl, refl);
      due = λ h.
          (let e : false ≡ true = (h 0 (after_release_with leads_owing Pop (Entered 1 Empty) 1) refl (due_to 1 1 kind.Pop None) refl).0 in cc);
    }
