use Rattle.rif_script.proofs.FirstLeafLemmas.{close_square_first, first_seen}
use Rattle.rif_script.proofs.sent_tokens.SentTokens.past_close_square.Goals as goal

pub returns : goal.returns
returns c =
    let rest = c.in-Some.rest in
    let leaf = c.in-Some.leaf in
    let front = first_seen c.args.self rest leaf c.in_ok-leaf.field-0 c.in-Some.is c.in_ok-leaf.ensures in
    rw (close_square_first c.args.self rest leaf front) c.behind_close_square.ensures
