-- The canonical tree of a document stands for the same document.
use Rattle.std.proofs.Common.{◌≡◌, ℕ, ℤ, pos, List, ◌∷◌, ◌++◌, refl, ap, ◌∙◌, sym, append_assoc, append-nil}
use Rattle.std.specs.declared.option.Option.{Option}
use Rattle.rif_tree.specs.declared.tree.Formula.{Formula}
use Rattle.rif_tree.specs.declared.tree.Level.{Level}
use Rattle.rif_tree.specs.declared.rule.Action.{Action}
use Rattle.rif_tree.specs.declared.rule.Decl.{Decl}
use Rattle.rif_tree.specs.declared.rule.Rule.{Rule}
use Rattle.rif_tree.specs.declared.rule.Doc.{Doc}
use Rattle.prd_grammar.specs.Trees.{BlockTree, RuleTree, GroupTree, group, MemberTrees, no_members, rule_member}
use Rattle.prd_grammar.specs.Trees.{group_member, PrefixTrees, no_group, one_group, prefix, DocumentTree, document}
use Rattle.prd_grammar.specs.Values.{rule_names, rule_levels, rule_condition, rule_block, block_decls, block_actions}
use Rattle.prd_grammar.specs.Values.{rule_value, priority_in, group_rules, member_rules, rules_behind, document_value}
use Rattle.prd_canonical.specs.CanonicalTrees.{canonical_rule, canonical_block, canonical_group, canonical_members}
use Rattle.prd_canonical.specs.CanonicalTrees.{around_members, canonical_prefixes, canonical_document}
use Rattle.prd_canonical.proofs.CanonicalValueLemmas.{same_levels, same_condition, same_block, same_decls}
use Rattle.prd_canonical.proofs.CanonicalValueLemmas.{same_actions}
use Rattle.prd_canonical.proofs.CanonicalRuleLemmas.{same_names}

abbrev made : ℤ → List (List ℕ) → List Level → Option Formula → List Decl → List Action → Rule
made p ns levels condition decls actions = record {
  priority = p;
  names = ns;
  levels = levels;
  condition = condition;
  decls = decls;
  actions = actions;
}

same_rule : (p : ℤ) (r : RuleTree) → rule_value p (canonical_rule r) ≡ rule_value p r
same_rule p r =
    let c = canonical_rule r in
    let ns = rule_names r in
    let b = canonical_block (rule_block r) in
    ap (λ (x : List (List ℕ)). made p x (rule_levels x c) (rule_condition x c) (block_decls x (rule_block c))
    (block_actions x (rule_block c))) (same_names r)
    ∙ (ap (λ (x : BlockTree). made p ns (rule_levels ns c) (rule_condition ns c) (block_decls ns x)
    (block_actions ns x))
    (same_block r)
    ∙ (ap (λ (x : List Level). made p ns x (rule_condition ns c) (block_decls ns b) (block_actions ns b))
    (same_levels ns r)
    ∙ (ap (λ (x : Option Formula). made p ns (rule_levels ns r) x (block_decls ns b) (block_actions ns b))
    (same_condition ns r)
    ∙ (ap (λ (x : List Decl). made p ns (rule_levels ns r) (rule_condition ns r) x (block_actions ns b))
    (same_decls ns (rule_block r))
    ∙ ap (λ (x : List Action). made p ns (rule_levels ns r) (rule_condition ns r) (block_decls ns (rule_block r)) x)
    (same_actions ns (rule_block r))))))

mutual
  rules_of_group : (p q : ℤ) (g : GroupTree) (rest : MemberTrees) →
      member_rules q (canonical_group p g rest) ≡ group_rules p g ++ member_rules q rest
  rules_of_group p q (group s z ms) rest = rules_of_members (priority_in p z) q ms rest

  rules_of_members : (p q : ℤ) (ms : MemberTrees) (rest : MemberTrees) →
      member_rules q (canonical_members p ms rest) ≡ member_rules p ms ++ member_rules q rest
  rules_of_members p q no_members rest = refl
  rules_of_members p q (rule_member r ms) rest =
      ap (λ (x : Rule). x ∷ member_rules q (canonical_members p ms rest)) (same_rule p r)
      ∙ ap (λ (x : List Rule). rule_value p r ∷ x) (rules_of_members p q ms rest)
  rules_of_members p q (group_member g ms) rest =
      rules_of_group p q g (canonical_members p ms rest)
      ∙ (ap (λ (x : List Rule). group_rules p g ++ x) (rules_of_members p q ms rest)
      ∙ sym (append_assoc (group_rules p g) (member_rules p ms) (member_rules q rest)))

rules_around : (ms : MemberTrees) → rules_behind (around_members ms) ≡ member_rules (pos 0) ms
rules_around no_members = refl
rules_around (rule_member r ms) = refl
rules_around (group_member g ms) = refl

rules_of_prefixes : (ps : PrefixTrees) → rules_behind (canonical_prefixes ps) ≡ rules_behind ps
rules_of_prefixes no_group = refl
rules_of_prefixes (one_group g) =
    rules_around (canonical_group (pos 0) g no_members)
    ∙ (rules_of_group (pos 0) (pos 0) g no_members ∙ append-nil (group_rules (pos 0) g))
rules_of_prefixes (prefix name iri ps) = rules_of_prefixes ps

abbrev doc_of : List Rule → Doc
doc_of rules = record { rules = rules }

pub same_document : (t : DocumentTree) → document_value (canonical_document t) ≡ document_value t
same_document (document ps) = ap doc_of (rules_of_prefixes ps)
