use Rattle.std.proofs.Common.{sym}
use Rattle.rif_builtins.proofs.MatchingLemmas.{none_of_lengths}
use Rattle.rif_builtins.proofs.matching.terms_match.Goals as goal

pub returns-then-terms-constants : goal.returns-then-terms-constants
returns-then-terms-constants c =
    sym (none_of_lengths c.args.terms.now c.args.row.now c.args.constants.now c.if-terms-constants.true)
