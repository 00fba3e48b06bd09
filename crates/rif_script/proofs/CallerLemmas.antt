-- What the crates above may cite: the laws of jobs.
use Rattle.prd_leaves.specs.Documents.{OneOutcome as OneDocumentOutcome}
use Rattle.prd_reader.proofs.CallerLemmas.{one_document}
use Rattle.prd_leaves.proofs.CallerLemmas.{one_refusal, not_both}
use Rattle.rif_script.specs.Jobs.{OneOutcome}
use Rattle.rif_script.proofs.OutcomeLemmas.{one_outcome}

documents_have_one_outcome : OneDocumentOutcome
documents_have_one_outcome = record { one_document = one_document; one_refusal = one_refusal; not_both = not_both }

pub jobs_have_one_outcome : OneOutcome
jobs_have_one_outcome = one_outcome documents_have_one_outcome
