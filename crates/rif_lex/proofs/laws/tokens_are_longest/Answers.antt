use Rattle.rif_lex.proofs.LongestLemmas.{tokens_are_longest}
use Rattle.rif_lex.proofs.laws.tokens_are_longest.Goals as goal

pub returns : goal.returns
returns c = tokens_are_longest
