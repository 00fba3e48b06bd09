use Rattle.prd_reader.proofs.CallerLemmas.{one_document}
use Rattle.prd_leaves.proofs.CallerLemmas.{not_both, one_refusal}
use Rattle.rif_script.proofs.OutcomeLemmas.{one_outcome}
use Rattle.rif_script.proofs.laws.one_outcome.Goals as goal

pub returns : goal.returns
returns c = one_outcome (record { one_document = one_document; one_refusal = one_refusal; not_both = not_both })
