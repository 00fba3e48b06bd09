use Rattle.rif_script.proofs.FirstLeafLemmas.{const_first, first_seen}
use Rattle.rif_script.proofs.constants.read_const.Goals as goal

pub returns : goal.returns
returns c =
    let rest = c.in-Some.rest in
    let leaf = c.in-Some.leaf in
    let front = first_seen c.args.at rest leaf c.in_ok-leaf.field-0 c.in-Some.is c.in_ok-leaf.ensures in
    rw (const_first c.args.at rest leaf front) c.const_behind.ensures
