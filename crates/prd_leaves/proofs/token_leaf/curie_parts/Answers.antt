use Rattle.std.proofs.lemmas.Str.{IsUtf8-append}
use Rattle.prd_leaves.proofs.TokenLemmas.{colon_utf8}
use Rattle.prd_leaves.proofs.token_leaf.curie_parts.Goals as goal

pub returns-in-Some-clause-utf8 : goal.returns-in-Some-clause-utf8
returns-in-Some-clause-utf8 c = λ text.
    rw c.behind_colon.ensures (IsUtf8-append _ _ c.in-Some.ensures.utf8 (colon_utf8 c.args.text.now text))
