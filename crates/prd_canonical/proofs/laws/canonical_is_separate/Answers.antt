use Rattle.prd_canonical.proofs.SeparateLaws.{canonical_is_separate}
use Rattle.prd_canonical.proofs.laws.canonical_is_separate.Goals as goal

pub returns : goal.returns
returns c = canonical_is_separate
