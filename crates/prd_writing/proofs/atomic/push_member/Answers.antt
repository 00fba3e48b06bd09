use Rattle.std.proofs.Common.{◌∙◌, ◌∷◌, codes}
use Rattle.rif_lex.specs.declared.token.Kind.TheVariants.{Hash}
use Rattle.rif_lex.specs.Spelling.{space}
use Rattle.prd_writing.specs.Canonical.{spelled, term_spelling}
use Rattle.prd_writing.proofs.atomic.push_member.Goals as goal

pub returns : goal.returns
returns c = λ gap rest.
    c.in_ok-push_term-2.ensures gap rest
    ∙ (c.in_ok-push_bytes.ensures _
    ∙ c.in_ok-push_term.ensures space
    (spelled Hash (codes "#") space ∷ term_spelling c.args.names.now c.args.class.now gap rest))
