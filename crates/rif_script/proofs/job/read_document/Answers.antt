use Rattle.std.proofs.lemmas.Result.{err_from_is_err_and}
use Rattle.rif_script.proofs.JobLemmas.{text_read, text_refused, unlexed}
use Rattle.rif_script.proofs.job.read_document.Goals as goal

pub returns-in_err-found-clause-refused : goal.returns-in_err-found-clause-refused
returns-in_err-found-clause-refused c =
    let p = err_from_is_err_and c.from_residual.result c.from_residual.ensures.1 in
    rw (p.1, p.2) (unlexed c.args.text.now c.in_err-found.field-0.0 c.in_err-found.ensures)

pub returns-clause-read : goal.returns-clause-read
returns-clause-read c =
    text_read c.args.text.now _ c.read_parts.result c.in_ok-found.ensures c.read_parts.ensures.read

pub returns-clause-refused : goal.returns-clause-refused
returns-clause-refused c =
    text_refused c.args.text.now _ c.read_parts.result c.in_ok-found.ensures c.read_parts.ensures.refused
