-- Along a rule: its conditions lead to its `Do`, and its block to the bracket that closes it.
use Rattle.std.proofs.Common.{◌≡◌, ℕ, suc, false, List, [], ◌∷◌, ◌++◌, refl, ◌∙◌}
use Rattle.prd_grammar.specs.declared.leaf.Keyword.TheVariants.{Such, That, Then, Do}
use Rattle.prd_grammar.specs.declared.leaf.Leaf.{Leaf}
use Rattle.prd_grammar.specs.declared.leaf.Leaf.TheVariants.{Key, Open, Close}
use Rattle.prd_grammar.specs.Trees.{spell_vars, spell_formula, spell_such, spell_block, RuleTree, for_all}
use Rattle.prd_grammar.specs.Trees.{for_all_such, if_then, block, spell_rule}
use Rattle.prd_grammar.specs.Values.{rule_block}
use Rattle.prd_limits.proofs.CountingFolds.{course, meets, signs}
use Rattle.prd_limits.proofs.CountingTermLemmas.{apart, in_turn}
use Rattle.prd_limits.proofs.CountingFormulaLemmas.{vars_course, vars_signs, formula_course, formula_signs}
use Rattle.prd_limits.proofs.CountingFormulaLemmas.{formula_adds, such_course, such_signs, such_adds}
use Rattle.prd_limits.proofs.CountingActionLemmas.{block_course, block_adds}

-- the brackets that are open at a rule's `Do`, and the leaves behind its block, where these follow the rule
abbrev pub depth_in : RuleTree → ℕ → ℕ
depth_in (for_all vs r) d = depth_in r (suc d)
depth_in (for_all_such vs fs r) d = depth_in r (suc d)
depth_in (if_then f b) d = d
depth_in (block b) d = d

abbrev pub behind : RuleTree → List Leaf → List Leaf
behind (for_all vs r) rest = behind r (Close ∷ rest)
behind (for_all_such vs fs r) rest = behind r (Close ∷ rest)
behind (if_then f b) rest = rest
behind (block b) rest = rest

pub rule_meets : (r : RuleTree) (rest : List Leaf) (d a : ℕ) →
    course (spell_rule r ++ rest) d a ≡ meets (depth_in r d) a (Open ∷ (spell_block (rule_block r) ++ behind r rest))
rule_meets (for_all vs r) rest d a = apart (spell_vars vs) (Open ∷ (spell_rule r ++ Close ∷ [])) rest d a
    ∙ (vars_course vs _ d a
    ∙ (apart (spell_rule r) (Close ∷ []) rest (suc d) a ∙ rule_meets r (Close ∷ rest) (suc d) a))
rule_meets (for_all_such vs fs r) rest d a =
    apart (spell_vars vs) (Key Such ∷ Key That ∷ (spell_such fs ++ (spell_rule r ++ Close ∷ []))) rest d a
    ∙ (vars_course vs _ d a
    ∙ (apart (spell_such fs) (spell_rule r ++ Close ∷ []) rest d a
    ∙ (such_course fs _ d a
    ∙ (apart (spell_rule r) (Close ∷ []) rest (suc d) a ∙ rule_meets r (Close ∷ rest) (suc d) a))))
rule_meets (if_then f b) rest d a =
    apart (spell_formula f) (Key Then ∷ Key Do ∷ Open ∷ spell_block b) rest d a ∙ formula_course f _ d a
rule_meets (block b) rest d a = refl

pub rule_falls : (r : RuleTree) (rest : List Leaf) (d a : ℕ) →
    course (spell_block (rule_block r) ++ behind r rest) (depth_in r d) a
    ≡ course (Close ∷ rest) d (block_adds (rule_block r) a)
rule_falls (for_all vs r) rest d a = rule_falls r (Close ∷ rest) (suc d) a
rule_falls (for_all_such vs fs r) rest d a = rule_falls r (Close ∷ rest) (suc d) a
rule_falls (if_then f b) rest d a = block_course b rest d a
rule_falls (block b) rest d a = block_course b rest d a

-- the patterns of a rule's conditions, added to those before
abbrev pub rule_adds : RuleTree → ℕ → ℕ
rule_adds (for_all vs r) n = rule_adds r n
rule_adds (for_all_such vs fs r) n = rule_adds r (such_adds fs n)
rule_adds (if_then f b) n = formula_adds f n
rule_adds (block b) n = n

pub rule_signs : (r : RuleTree) (n : ℕ) (rest : List Leaf) →
    signs false false n (spell_rule r ++ rest) ≡ rule_adds r n
rule_signs (for_all vs r) n rest = in_turn (spell_vars vs) (Open ∷ (spell_rule r ++ Close ∷ [])) rest false false n
    ∙ (vars_signs vs false false n _
    ∙ (in_turn (spell_rule r) (Close ∷ []) rest false false n ∙ rule_signs r n (Close ∷ rest)))
rule_signs (for_all_such vs fs r) n rest =
    in_turn (spell_vars vs) (Key Such ∷ Key That ∷ (spell_such fs ++ (spell_rule r ++ Close ∷ []))) rest false false n
    ∙ (vars_signs vs false false n _
    ∙ (in_turn (spell_such fs) (spell_rule r ++ Close ∷ []) rest false false n
    ∙ (such_signs fs n _
    ∙ (in_turn (spell_rule r) (Close ∷ []) rest false false _ ∙ rule_signs r _ (Close ∷ rest)))))
rule_signs (if_then f b) n rest =
    in_turn (spell_formula f) (Key Then ∷ Key Do ∷ Open ∷ spell_block b) rest false false n ∙ formula_signs f n _
rule_signs (block b) n rest = refl
