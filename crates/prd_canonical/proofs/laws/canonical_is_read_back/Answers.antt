use Rattle.prd_canonical.proofs.ReadBackLemmas.{canonical_is_read_back}
use Rattle.prd_canonical.proofs.laws.canonical_is_read_back.Goals as goal

pub returns : goal.returns
returns c = canonical_is_read_back
