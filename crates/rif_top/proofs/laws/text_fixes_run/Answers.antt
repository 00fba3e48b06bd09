use Rattle.rif_top.proofs.TextLemmas.{text_fixes_run}
use Rattle.rif_top.proofs.laws.text_fixes_run.Goals as goal

pub returns : goal.returns
returns c = text_fixes_run c.jobs_have_clients.ensures c.same_text_same_run.ensures
