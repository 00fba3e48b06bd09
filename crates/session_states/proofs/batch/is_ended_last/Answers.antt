use Rattle.session_states.proofs.EndingLemmas.{ended_where}
use Rattle.session_states.proofs.batch.is_ended_last.Goals as goal

pub returns-in-Some : goal.returns-in-Some
returns-in-Some c =
    ended_where c.in-Some.before.now c.args.entries.now _ c.has_ending.result c.in-Some.ensures.cases.0
    c.has_ending.ensures
