use Rattle.std.proofs.lemmas.Result.{err_from_is_err_and}
use Rattle.rif_script.proofs.JobLemmas.{document_of, document_refused, job_of, numbers_fit, rules_refuse}
use Rattle.rif_script.proofs.JobLemmas.{script_refuses}
use Rattle.rif_script.proofs.ScriptReadingLemmas.{script_clients, script_read}
use Rattle.rif_script.proofs.job.read_doc_and_job.Goals as goal

pub returns-in_err-doc-clause-refused : goal.returns-in_err-doc-clause-refused
returns-in_err-doc-clause-refused c =
    let p = err_from_is_err_and c.from_residual-in_err-doc.result c.from_residual-in_err-doc.ensures.1 in
    rw (p.1, p.2) (document_refused c.args.bytes.now _ c.in_err-doc.field-0.0 c.parts_of-parts.ensures.document
    c.in_ok-is_text.ensures.text c.in_err-doc.ensures.refused)

pub returns-in_err-rules-clause-refused : goal.returns-in_err-rules-clause-refused
returns-in_err-rules-clause-refused c =
    let p = err_from_is_err_and c.from_residual-in_err-rules.result c.from_residual-in_err-rules.ensures.1 in
    let document =
    document_of c.args.bytes.now _ c.in_ok-doc.doc c.in_ok-doc.prefixes c.parts_of-parts.ensures.document
    c.in_ok-doc.ensures.read in
    rw (p.1, p.2) (rules_refuse c.args.bytes.now c.in_ok-doc.doc c.in_ok-doc.prefixes c.in_err-rules.field-0.0
    c.in_ok-is_text.ensures.text document c.in_err-rules.ensures.refused)

pub read_script-requires : goal.read_script-requires
read_script-requires c =
    numbers_fit c.args.bytes.now _ _ c.parts_of-parts.ensures.last.0 c.in_ok-is_text.ensures.text.short
    c.parts_of-parts.ensures.first c.parts_of-parts.ensures.last.1

pub returns-in_err-script-clause-refused : goal.returns-in_err-script-clause-refused
returns-in_err-script-clause-refused c =
    let p = err_from_is_err_and c.from_residual-in_err-script.result c.from_residual-in_err-script.ensures.1 in
    let document =
    document_of c.args.bytes.now _ c.in_ok-doc.doc c.in_ok-doc.prefixes c.parts_of-parts.ensures.document
    c.in_ok-doc.ensures.read in
    rw (p.1, p.2) (script_refuses c.args.bytes.now _ _ c.in_ok-doc.doc c.in_ok-doc.prefixes c.in_ok-rules.rules
    c.in_err-script.field-0.0 c.parts_of-parts.ensures.script c.parts_of-parts.ensures.first
    c.in_ok-is_text.ensures.text document c.in_ok-rules.ensures.safe c.in_err-script.ensures)

pub returns-clause-clients : goal.returns-clause-clients
returns-clause-clients c =
    let script = c.in_ok-script.script in
    script_clients c.in_ok-doc.prefixes _ script.names script.items
    (script_read c.in_ok-doc.prefixes _ _ script c.in_ok-script.ensures)

pub returns-clause-read : goal.returns-clause-read
returns-clause-read c =
    let script = c.in_ok-script.script in
    let document =
    document_of c.args.bytes.now _ c.in_ok-doc.doc c.in_ok-doc.prefixes c.parts_of-parts.ensures.document
    c.in_ok-doc.ensures.read in
    job_of c.args.bytes.now _ _ c.in_ok-doc.doc c.in_ok-doc.prefixes c.in_ok-rules.rules script
    c.parts_of-parts.ensures.script c.in_ok-is_text.ensures.text document c.in_ok-rules.ensures.safe
    c.in_ok-script.ensures
