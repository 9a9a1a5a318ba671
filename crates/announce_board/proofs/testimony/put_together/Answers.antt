use Rattle.std.proofs.Common.{◌≡◌, ap, sym, ◌∙◌}
use Rattle.announce_board.specs.Rule.{Seated}
use Rattle.announce_board.specs.Testimonies.{Testified, testimony_at, both_testify}
use Rattle.announce_board.proofs.TestimonySteps.{is_testimony}
use Rattle.announce_board.proofs.testimony.put_together.Goals as goal

pub join_seat-requires : goal.join_seat-requires
join_seat-requires g c = (
  c.into_seat-seat.ensures.0 ∙ (ap (λ (n : Testified). n.table) c.one.view_is ∙ c.requires.one),
  c.into_seat.ensures.0 ∙ (ap (λ (n : Testified). n.table) c.other.view_is ∙ c.requires.other),
  c.into_seat.ensures.3,
  c.requires.lock,
  c.law_testimonies_are_allowed.ensures.gather _ _ _ _ c.into_seat-seat.result.me.0 c.into_seat.result.id c.into_seat.result.me.0
      (is_testimony c.one.inside.badge.views c.into_seat-seat.result.me.0 c.one.invariant c.into_seat-seat.ensures.2)
      (is_testimony c.other.inside.badge.views c.into_seat.result.me.0 c.other.invariant c.into_seat.ensures.2),
)

pub load-requires : goal.load-requires
load-requires g c =
    let now : c.join_seat.new.seat.me.0 ≡ both_testify c.into_seat-seat.result.me.0 c.into_seat.result.me.0 = ap (λ (m : Seated). m.0) c.join_seat.ensures.2 in (
      c.join_seat.ensures.0 ∙ (c.into_seat-seat.ensures.0 ∙ (ap (λ (n : Testified). n.table) c.one.view_is ∙ c.requires.one)),
      c.requires.lock,
      c.law_testimonies_are_allowed.ensures.compare _ _ _ _ _ c.join_seat.new.seat.me (now ∙ ap testimony_at (sym now)),
    )
