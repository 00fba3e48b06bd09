use Rattle.rif_lex.proofs.RefusalLemmas.{inputs_are_refused}
use Rattle.rif_lex.proofs.laws.inputs_are_refused.Goals as goal

pub returns : goal.returns
returns c = inputs_are_refused
