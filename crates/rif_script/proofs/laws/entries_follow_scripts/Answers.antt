use Rattle.rif_script.proofs.ScriptLemmas.{entries_follow_scripts}
use Rattle.rif_script.proofs.laws.entries_follow_scripts.Goals as goal

pub returns : goal.returns
returns c = entries_follow_scripts
