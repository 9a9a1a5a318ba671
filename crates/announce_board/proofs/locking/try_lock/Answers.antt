use Rattle.std.proofs.Common.{◌≡◌, sym, ap, ◌∙◌, subst}
use mathlib.Core.Option.{some}
use Rattle.desk_core.specs.declared.model.View.TheVariants.{Holder}
use Rattle.announce_board.specs.Rule.{Seated}
use Rattle.announce_board.specs.Slots.{says}
use Rattle.announce_board.specs.Steps.{pen_at}
use Rattle.announce_board.proofs.locking.try_lock.Goals as goal

pub load-requires : goal.load-requires
load-requires g c = (c.requires.here, c.requires.lock, c.law_steps_are_allowed.ensures.read_lock _ _ _ _ _ _ c.requires.is)

pub compare_exchange_with-requires : goal.compare_exchange_with-requires
compare_exchange_with-requires g c =
    let same = c.load.ensures.2.0 c.if-load-ne0.false in
    (c.load.ensures.0 ∙ c.requires.here, c.requires.lock, c.law_steps_are_allowed.ensures.try_lock _ _ _ _ _ _ (subst (λ (m : Seated). m.0 ≡ Holder (pen_at m)) (sym same) c.requires.is) _ (ap some (c.saying-said.ensures ∙ ap says c.requires.terms)))
