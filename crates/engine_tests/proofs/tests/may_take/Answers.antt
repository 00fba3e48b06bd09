use Rattle.std.proofs.Common.{◌∙◌, sym}
use Rattle.engine_tests.proofs.EnteringLemmas.{enters}
use Rattle.engine_tests.proofs.tests.may_take.Goals as goal

pub returns : goal.returns
returns c = λ is.
    enters c.args.engine.now c.args.batch.now c.is_settled.result c.is_live.result c.follows.result is
    c.is_settled.ensures c.is_live.ensures c.follows.ensures
