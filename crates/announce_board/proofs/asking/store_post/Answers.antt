use Rattle.std.proofs.Common.{ap, ◌∙◌, arith}
use Rattle.pq_types.specs.declared.control.Control.TheVariants.{Posted}
use Rattle.pq_types.specs.Control.{posted}
use Rattle.pq_types.specs.Mail.{control_word}
use Rattle.desk_core.specs.Layout.{control_at}
use Rattle.announce_board.proofs.ItemSteps.{wider_request}
use Rattle.announce_board.proofs.asking.store_post.Goals as goal

pub store-requires : goal.store-requires
store-requires g c =
    let proper = wider_request g.P.Part.wide c.args.request c.law_request_is_proper.ensures in
    let at = c.requires.pen in
    let draft = c.requires.drafted in (
      c.requires.here,
      omega (arith, c.control_index.ensures, at.inside, ap control_at at.here),
      c.law_steps_are_allowed.ensures.post _ _ _ _ _ _ at.is _ _ c.args.request draft.0 (c.control_index.ensures ∙ ap control_at at.here)
          (c.word.ensures ∙ (ap (λ k. control_word (Posted c.args.serial k)) c.kind.ensures ∙ ap (λ n. control_word (posted n c.args.request)) c.requires.serial)) draft.1 (omega (arith, c.requires.serial, c.requires.few)) proper draft.2,
    )
