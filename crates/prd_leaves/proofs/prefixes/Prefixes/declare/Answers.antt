use Rattle.std.proofs.Common.{◌∙◌, ap}
use Rattle.prd_grammar.specs.Prefixes.{Prefixes, with_prefix}
use Rattle.prd_leaves.proofs.PrefixMapLemmas.{declared_is}
use Rattle.prd_leaves.proofs.prefixes.Prefixes.declare.Goals as goal

pub returns-clause-declared : goal.returns-clause-declared
returns-clause-declared c =
    c.in_ok-insert.ensures.entries
    ∙ (declared_is _ c.args.name c.args.iri ∙ ap (λ
    (p : Prefixes). with_prefix p c.args.name c.args.iri) c.self.view_is)
