use Rattle.split_core.proofs.IdLists.{ids_differ}
use Rattle.split_core.proofs.laws.law_ids.Goals as goal

pub returns : goal.returns
returns c ids opens = ids_differ ids opens
