use Rattle.rif_builtins.proofs.PatternLemmas.{matching_exact}
use Rattle.rif_builtins.proofs.laws.a_match_is_the_one_binding.Goals as goal

pub returns : goal.returns
returns c = matching_exact
