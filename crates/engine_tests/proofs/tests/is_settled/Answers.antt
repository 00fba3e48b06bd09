use Rattle.std.proofs.Common.{◌∙◌, ap, not, sym}
use Rattle.engine_tests.proofs.EnteringLemmas.{none_owed}
use Rattle.engine_tests.proofs.tests.is_settled.Goals as goal

pub returns : goal.returns
returns c = λ is. none_owed c.args.engine.now.owed (sym (ap not c.owes.ensures) ∙ is)
