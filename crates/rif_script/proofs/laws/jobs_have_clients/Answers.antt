use Rattle.rif_script.proofs.JobClientLemmas.{jobs_have_clients}
use Rattle.rif_script.proofs.laws.jobs_have_clients.Goals as goal

pub returns : goal.returns
returns c = jobs_have_clients
