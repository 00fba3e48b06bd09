use Rattle.std.proofs.Common.{◌++◌, ◌∙◌, sym, ap}
use Rattle.rif_lex.specs.Spelling.{spelled_text, joined}
use Rattle.rif_tree.specs.declared.rule.Action.{Action}
use Rattle.prd_writing.specs.Canonical.{acted_spelling}
use Rattle.prd_writing.proofs.action.push_acted.Goals as goal

pub returns-in_ok-push_term-in-RetractObject : goal.returns-in_ok-push_term-in-RetractObject
returns-in_ok-push_term-in-RetractObject c = λ rest.
    c.in_ok-push_term-in-RetractObject.ensures joined rest
    ∙ ap (λ (a : Action). c.args.out.now.items ++ spelled_text (acted_spelling c.args.names.now a rest))
    (sym c.in-RetractObject.is)
