use Rattle.prd_reader.proofs.DocumentLemmas.{built_always, keeps_limits, keeps_places, read_by}
use Rattle.prd_reader.proofs.document.read_parts.Goals as goal

pub returns-in-Some-clause-read : goal.returns-in-Some-clause-read
returns-in-Some-clause-read c =
    read_by _ _ _ _ _ _ _ _ _ _ _ c.as_slice.ensures c.in_ok-leaves.ensures c.as_slice-2.ensures.value
    c.as_slice-in-Document.ensures.value c.as_slice-in-Document-2.ensures c.in_ok-place.ensures c.in-Document.is
    c.in_ok-doc-in-Document.ensures _ c.in-Some.is

pub returns-in-Some-clause-limits : goal.returns-in-Some-clause-limits
returns-in-Some-clause-limits c = keeps_limits _ _ _ _ (returns-in-Some-clause-read c)

pub returns-in-Some-clause-places : goal.returns-in-Some-clause-places
returns-in-Some-clause-places c = keeps_places _ _ _ _ (returns-in-Some-clause-read c)

pub unreachable-requires : goal.unreachable-requires
unreachable-requires c =
    built_always _ _ _ _ _ _ _ _ _ _ _ c.as_slice.ensures c.in_ok-leaves.ensures c.as_slice-2.ensures.value
    c.as_slice-in-Document.ensures.value c.as_slice-in-Document-2.ensures c.in_ok-place.ensures c.in-Document.is
    c.in_ok-doc-in-Document.ensures c.in-None.is
