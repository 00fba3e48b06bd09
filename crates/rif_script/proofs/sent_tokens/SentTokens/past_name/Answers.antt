use Rattle.std.proofs.Common.{◌∙◌, sym}
use Rattle.rif_script.specs.SentLeaves.{leaves_past, texts_left}
use Rattle.prd_grammar.specs.declared.leaf.Leaf.TheVariants.{Carets}
use Rattle.std.proofs.Common.{◌∷◌, []}
use Rattle.rif_script.proofs.SentLeafLemmas.{name_passed}
use Rattle.rif_script.proofs.sent_tokens.SentTokens.past_name.Goals as goal

pub returns-then-is_known_type : goal.returns-then-is_known_type
returns-then-is_known_type c =
    let self = c.args.self in
    let next = c.in_ok-leaf.ensures in
    name_passed self.prefixes.now c.in_ok-leaf.rest.prefixes.now (leaves_past (Carets ∷ []) self) c.in_ok-leaf.leaf
    (texts_left c.in_ok-leaf.rest) next.0 next.1 (sym c.is_known_type.ensures ∙ c.if-is_known_type.true)
