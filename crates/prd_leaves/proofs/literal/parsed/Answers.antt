use Rattle.prd_leaves.proofs.IntegerLemmas.{integer_missed}
use Rattle.prd_leaves.proofs.literal.parsed.Goals as goal

pub returns-in-Err : goal.returns-in-Err
returns-in-Err c = integer_missed c.args.digits.now c.in-Err.field-0 c.requires c.in-Err.ensures.value.0
