-- The canonical spelling of a document that was read is tokens of which each ends before the next.
use Rattle.std.proofs.Common.{subst}
use Rattle.rif_tree.specs.declared.rule.Doc.{Doc}
use Rattle.rif_lex.specs.Spelling.{AreSeparate}
use Rattle.prd_writing.specs.Canonical.{canonical_spelling}
use Rattle.prd_canonical.specs.Separate.{CanonicalIsSeparate}
use Rattle.prd_canonical.proofs.SeparateRuleLemmas.{separate_document}
use Rattle.prd_canonical.proofs.WritableDocumentLemmas.{read_is_writable}

pub canonical_is_separate : CanonicalIsSeparate
canonical_is_separate bytes tokens doc prefixes lexes read =
    subst (λ (d : Doc). AreSeparate (canonical_spelling d)) read.value
    (separate_document read.tree (read_is_writable bytes tokens read.tree lexes read.spelled))
