use Rattle.split_core.proofs.Masks.{without_from, without_old}
use Rattle.split_core.proofs.tracker.without_least.Goals as goal

pub returns : goal.returns
returns c r = (
  λ b. without_from c.args.mask c.args.row r c.requires.set c.requires.least b,
  λ h. without_old c.args.mask c.args.row r c.requires.set c.requires.least h.0 h.1,
)
