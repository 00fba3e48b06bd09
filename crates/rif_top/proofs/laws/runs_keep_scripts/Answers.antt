use Rattle.rif_top.proofs.ClientLemmas.{runs_keep_scripts}
use Rattle.rif_top.proofs.laws.runs_keep_scripts.Goals as goal

pub returns : goal.returns
returns c =
    runs_keep_scripts c.cut_keeps_all.ensures c.entries_follow_scripts.ensures c.cut_leaves_behind_dispose.ensures
    c.jobs_have_clients.ensures
