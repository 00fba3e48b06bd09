use Rattle.rif_script.proofs.TraceLemmas.{same_text_same_run}
use Rattle.rif_script.proofs.laws.same_text_same_run.Goals as goal

pub returns : goal.returns
returns c = same_text_same_run
