use Rattle.std.proofs.Common.{◌<◌, ap, sym, ◌∙◌, subst}
use Rattle.announce_board.specs.Testimonies.{Testified}
use Rattle.announce_board.specs.Tokens.{AtDesk}
use Rattle.announce_board.proofs.SleepSteps.{licence_is, sleeper_is}
use Rattle.announce_board.proofs.sleeping.wake_up.Goals as goal

pub join_seat-requires : goal.join_seat-requires
join_seat-requires g c = (
  c.into_seat-seat.ensures.0 ∙ (ap (λ (s : AtDesk). s.table) c.sleeper.view_is ∙ c.requires.sleeper),
  c.into_seat.ensures.0 ∙ (ap (λ (t : Testified). t.table) c.licence.view_is ∙ c.requires.licence),
  c.into_seat.ensures.3,
  c.requires.lock,
  c.law_sleep_is_allowed.ensures.wake _ _ _ _ c.into_seat-seat.result.me.0 c.into_seat.result.id c.into_seat.result.me.0 _
      (sleeper_is c.sleeper.inside.badge.views c.into_seat-seat.result.me.0 c.sleeper.invariant.one c.into_seat-seat.ensures.2)
      (licence_is c.licence.inside.badge.views c.into_seat.result.me.0 c.licence.invariant c.into_seat.ensures.2 (ap (λ (t : Testified). t.pens) c.licence.view_is ∙ c.requires.no_pen))
      (subst (λ n. 0 < n) (sym (ap (λ (t : Testified). t.licences) c.licence.view_is)) c.requires.counts),
)
