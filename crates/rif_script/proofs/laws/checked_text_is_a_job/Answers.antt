use Rattle.rif_script.proofs.CallerLemmas.{jobs_have_one_outcome}
use Rattle.rif_script.proofs.CheckedTextLemmas.{checked_text_is_a_job}
use Rattle.rif_script.proofs.laws.checked_text_is_a_job.Goals as goal

pub returns : goal.returns
returns c = checked_text_is_a_job jobs_have_one_outcome
