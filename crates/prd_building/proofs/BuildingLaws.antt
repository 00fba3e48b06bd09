-- Leaves are spelled by trees of one value, and of one list of prefixes.
use Rattle.std.proofs.Common.{◌≡◌, ℕ, ◌+◌, ◌-◌, ◌≤◌, zero, suc, ℤ, pos, List, [], ◌∷◌, ◌++◌, length, length-append}
use Rattle.std.proofs.Common.{take, Option, Some, None, refl, ap, ◌∙◌, sym, append_assoc, append-nil, arith, drop}
use Rattle.std.proofs.lemmas.List.{take-append-le, take_all}
use Rattle.rif_tree.specs.declared.rule.Rule.{Rule}
use Rattle.rif_tree.specs.declared.rule.Doc.{Doc}
use Rattle.prd_grammar.specs.declared.leaf.Leaf.{Leaf}
use Rattle.prd_grammar.specs.declared.leaf.Leaf.TheVariants.{Close}
use Rattle.prd_building.specs.declared.signs.MemberSign.TheVariants.{Close as MembersEnd}
use Rattle.prd_building.specs.declared.signs.MemberSign.TheVariants.{Prefix as PrefixMember}
use Rattle.prd_building.specs.declared.signs.MemberSign.TheVariants.{Group as GroupMember, Rule as RuleMember}
use Rattle.prd_grammar.specs.Prefixes.{Prefixes, with_prefix}
use Rattle.prd_grammar.specs.Trees.{spell_rule, StrategyTree, no_strategy, strategy_iri, strategy_curie, PriorityTree}
use Rattle.prd_grammar.specs.Trees.{no_priority, priority, GroupTree, group, MemberTrees, spell_group, spell_members}
use Rattle.prd_grammar.specs.Trees.{no_members, rule_member, group_member, PrefixTrees, no_group, one_group, prefix}
use Rattle.prd_grammar.specs.Trees.{spell_prefixes, DocumentTree, document, spell_document}
use Rattle.prd_building.specs.Signs.{member_sign}
use Rattle.prd_building.specs.Building.{Read, Names, rule_at, behind_strategy, behind_priority, doc_at}
use Rattle.prd_building.proofs.BuildingRuleLemmas.{rule_read}
use Rattle.prd_building.proofs.BuildingDocumentLemmas.{names_of, rule_begins, rule_some, group_length, group_steps}
use Rattle.prd_building.proofs.BuildingDocumentLemmas.{member_steps, prefix_steps, prefix_left, Left, names_both}
use Rattle.prd_building.proofs.BuildingDocumentLemmas.{doc_built}
use Rattle.prd_grammar.specs.Values.{names_from, rule_names, priority_in, group_rules, member_rules, rules_behind}
use Rattle.prd_grammar.specs.Values.{document_value, prefixes_behind, document_prefixes}

same_prefixes : (known : Prefixes) (a b : PrefixTrees) → spell_prefixes a ≡ spell_prefixes b →
    prefixes_behind known a ≡ prefixes_behind known b
same_prefixes known no_group no_group e = refl
same_prefixes known no_group (one_group g) e = refl
same_prefixes known no_group (prefix n i b) e = absurd cc
same_prefixes known (one_group g) no_group e = refl
same_prefixes known (one_group g) (one_group h) e = refl
same_prefixes known (one_group (group s q ms)) (prefix n i b) e = absurd cc
same_prefixes known (prefix n i a) no_group e = absurd cc
same_prefixes known (prefix n i a) (one_group (group s q ms)) e = absurd cc
same_prefixes known (prefix n i a) (prefix m j b) e =
    let name : n ≡ m = cc in
    let iri : i ≡ j = cc in
    let more : spell_prefixes a ≡ spell_prefixes b = cc in
    ap (λ x. prefixes_behind (with_prefix known x i) a) name
    ∙ (ap (λ x. prefixes_behind (with_prefix known m x) a) iri ∙ same_prefixes (with_prefix known m j) a b more)

pub one_list_of_prefixes : (a b : DocumentTree) → spell_document a ≡ spell_document b →
    document_prefixes a ≡ document_prefixes b
one_list_of_prefixes (document a) (document b) e = let more : spell_prefixes a ≡ spell_prefixes b = cc in
    same_prefixes [] a b more

-- the names of rules by their leaves alone, where so many groups are open
abbrev named_rule : Read Rule → List Leaf → (List Leaf → List Names) → List Names
named_rule None ss more = []
named_rule (Some r) ss more = names_from [] (take (length ss - length r.1) ss) ∷ more r.1

abbrev names_at : ℕ → ℕ → ℕ → List Leaf → List Names
names_at most d zero ss = []
names_at most zero (suc n) ss = []
names_at most (suc d) (suc n) ss = elim (member_sign ss) [
  | RuleMember ↦ named_rule (rule_at (pos 0) [] most ss) ss (names_at most (suc d) n)
  | MembersEnd ↦ names_at most d n (drop 1 ss)
  | PrefixMember ↦ names_at most (suc d) n (drop 5 ss)
  | GroupMember ↦ names_at most (suc (suc d)) n (behind_priority (behind_strategy (drop 1 ss)))
]

names_step : (most d n : ℕ) (ss : List Leaf) → member_sign ss ≡ RuleMember →
    names_at most (suc d) (suc n) ss ≡ named_rule (rule_at (pos 0) [] most ss) ss (names_at most (suc d) n)
names_step most d n ss e = rw (e, names_at) refl

front_of : (xs rest : List Leaf) → take (length (xs ++ rest) - length rest) (xs ++ rest) ≡ xs
front_of xs rest =
    let k = length-append xs rest in
    let n : length (xs ++ rest) - length rest ≡ length xs = omega arith in
    ap (λ m. take m (xs ++ rest)) n
    ∙ (take-append-le (length xs) xs rest (omega arith) ∙ take_all (length xs) xs (omega arith))

group_names_step : (most d n : ℕ) (s : StrategyTree) (q : PriorityTree) (ms : MemberTrees) (rest : List Leaf) →
    names_at most (suc d) (suc n) (spell_group (group s q ms) ++ rest)
    ≡ names_at most (suc (suc d)) n (spell_members ms ++ rest)
group_names_step most d n no_strategy no_priority ms rest = refl
group_names_step most d n no_strategy (priority z) ms rest = refl
group_names_step most d n (strategy_iri t) no_priority ms rest = refl
group_names_step most d n (strategy_iri t) (priority z) ms rest = refl
group_names_step most d n (strategy_curie t) no_priority ms rest = refl
group_names_step most d n (strategy_curie t) (priority z) ms rest = refl

mutual
  group_names : (most : ℕ) (g : GroupTree) (p : ℤ) (d m : ℕ) (rest : List Leaf) → length (spell_group g) ≤ most →
      names_at most (suc d) (group_steps g m) (spell_group g ++ rest)
      ≡ names_of (group_rules p g) ++ names_at most (suc d) m rest
  group_names most (group s q ms) p d m rest h =
      let k = group_length s q ms in
      group_names_step most d (member_steps ms m) s q ms rest
      ∙ member_names most ms (priority_in p q) (suc d) m rest (omega arith)

  member_names : (most : ℕ) (ms : MemberTrees) (p : ℤ) (d m : ℕ) (rest : List Leaf) →
      length (spell_members ms) ≤ most →
      names_at most (suc d) (member_steps ms m) (spell_members ms ++ rest)
      ≡ names_of (member_rules p ms) ++ names_at most d m rest
  member_names most no_members p d m rest h = refl
  member_names most (rule_member r ms) p d m rest h =
      let k = length-append (spell_rule r) (spell_members ms) in
      let s = rule_some r in
      ap (names_at most (suc d) (suc (member_steps ms m))) (append_assoc (spell_rule r) (spell_members ms) rest)
      ∙ (names_step most d (member_steps ms m) (spell_rule r ++ (spell_members ms ++ rest))
      (rule_begins r (spell_members ms ++ rest))
      ∙ (ap (λ x. named_rule x (spell_rule r ++ (spell_members ms ++ rest))
      (names_at most (suc d) (member_steps ms m)))
      (rule_read (pos 0) [] r most (spell_members ms ++ rest) (omega arith))
      ∙ (ap (λ x. names_from [] x ∷ names_at most (suc d) (member_steps ms m) (spell_members ms ++ rest))
      (front_of (spell_rule r) (spell_members ms ++ rest))
      ∙ ap (λ more. rule_names r ∷ more) (member_names most ms p d m rest (omega arith)))))
  member_names most (group_member g ms) p d m rest h =
      let k = length-append (spell_group g) (spell_members ms) in
      ap (names_at most (suc d) (group_steps g (member_steps ms m)))
      (append_assoc (spell_group g) (spell_members ms) rest)
      ∙ (group_names most g p d (member_steps ms m) (spell_members ms ++ rest) (omega arith)
      ∙ (ap (λ more. names_of (group_rules p g) ++ more) (member_names most ms p d m rest (omega arith))
      ∙ sym (names_both (group_rules p g) (member_rules p ms) (names_at most d m rest))))

prefix_names : (most : ℕ) (ps : PrefixTrees) (m : ℕ) → length (spell_prefixes ps) ≤ most →
    names_at most 1 (prefix_steps ps m) (spell_prefixes ps) ≡ names_of (rules_behind ps)
prefix_names most no_group m h = refl
prefix_names most (one_group g) m h =
    let k = length-append (spell_group g) (Close ∷ []) in
    group_names most g (pos 0) 0 (suc (suc m)) (Close ∷ []) (omega arith)
    ∙ append-nil (names_of (group_rules (pos 0) g))
prefix_names most (prefix name iri ps) m h = prefix_names most ps m (omega arith)

abbrev leaf_names : List Leaf → List Names
leaf_names ss = names_at (length ss) 1 (length ss) (drop 2 ss)

names_found : (t : DocumentTree) → leaf_names (spell_document t) ≡ names_of (document_value t).rules
names_found (document ps) =
    let l : Left (length (spell_document (document ps))) (length (spell_prefixes ps) + 1) (prefix_steps ps) =
    prefix_left ps (length (spell_document (document ps))) (omega arith) in
    ap (λ n. names_at (length (spell_document (document ps))) 1 n (spell_prefixes ps)) l.is
    ∙ prefix_names (length (spell_document (document ps))) ps l.more (omega arith)

abbrev doc_read : List Leaf → Option Doc
doc_read ss = doc_at (leaf_names ss) ss

doc_found : (t : DocumentTree) → doc_read (spell_document t) ≡ Some (document_value t)
doc_found t = ap (λ all. doc_at all (spell_document t)) (names_found t) ∙ doc_built t

pub one_value : (a b : DocumentTree) → spell_document a ≡ spell_document b → document_value a ≡ document_value b
one_value a b e =
    let same : Some (document_value a) ≡ Some (document_value b) = sym (doc_found a)
    ∙ (ap doc_read e ∙ doc_found b) in
    cc
