use Rattle.rif_match.proofs.MembershipLemmas.{instances_of_rows}
use Rattle.rif_match.proofs.laws.instances_are_rules_with_their_rows.Goals as goal

pub returns : goal.returns
returns c = instances_of_rows
