-- The grammar and what may come are one: the documents are what may come whole, and each front of one has an end.
use Rattle.prd_recognition.specs.Following.{GrammarIsFollowed}
use Rattle.prd_recognition.proofs.ComingDocumentLemmas.{comes}
use Rattle.prd_recognition.proofs.EndingLemmas.{ends}
use Rattle.prd_recognition.proofs.GoingDocumentLemmas.{goes}

pub machine_laws : GrammarIsFollowed
machine_laws = record { goes = goes; comes = comes; ends = ends }
