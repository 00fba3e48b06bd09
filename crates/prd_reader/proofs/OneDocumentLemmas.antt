-- Tokens are one document at most.
use Rattle.std.proofs.Common.{◌≡◌, ◌∙◌, ℕ, List, sym}
use Rattle.rif_tree.specs.declared.rule.Doc.{Doc}
use Rattle.rif_lex.specs.declared.token.Token.{Token}
use Rattle.prd_leaves.specs.Documents.{IsRead}
use Rattle.prd_grammar.specs.Prefixes.{Prefixes}
use Rattle.prd_grammar.specs.Trees.{spell_document}
use Rattle.prd_building.proofs.CallerLemmas.{one_value, one_list_of_prefixes}

pub one_document : (tokens : List Token) (bytes : List ℕ) (a b : Doc) (p q : Prefixes) →
    IsRead tokens bytes a p → IsRead tokens bytes b q → (a ≡ b) × (p ≡ q)
one_document tokens bytes a b p q x y =
    let e : spell_document x.tree ≡ spell_document y.tree = x.spelled ∙ sym y.spelled in (
      sym x.value ∙ (one_value x.tree y.tree e ∙ y.value),
      sym x.declared
          ∙ (one_list_of_prefixes x.tree y.tree e ∙ y.declared),
    )
