use Rattle.rif_top.proofs.AnswerLemmas.{one_answer}
use Rattle.rif_top.proofs.laws.one_answer.Goals as goal

pub returns : goal.returns
returns c = one_answer c.one_outcome.ensures c.one_replay.ensures
