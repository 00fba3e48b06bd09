use Rattle.prd_reader.proofs.OneDocumentLemmas.{one_document}
use Rattle.prd_leaves.proofs.CallerLemmas.{one_refusal, not_both}
use Rattle.prd_reader.proofs.laws.one_outcome.Goals as goal

pub returns : goal.returns
returns c = record { one_document = one_document; one_refusal = one_refusal; not_both = not_both }
