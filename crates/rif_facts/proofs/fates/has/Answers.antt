use Rattle.std.proofs.Common.{◌∙◌}
use Rattle.rif_facts.proofs.FatesLemmas.{any_same}
use Rattle.rif_facts.proofs.fates.has.Goals as goal

pub returns : goal.returns
returns c = c.contains.ensures ∙ any_same c.args.retraction.now c.args.retractions.now.keys
