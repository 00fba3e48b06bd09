use Rattle.prd_limits.proofs.PlacingRuleLemmas.{places}
use Rattle.prd_limits.proofs.laws.variables_are_places.Goals as goal

pub returns : goal.returns
returns c = places
