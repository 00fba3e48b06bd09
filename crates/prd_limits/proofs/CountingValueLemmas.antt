-- What is counted along a tree's leaves is what the tree's value has.
use Rattle.std.proofs.Common.{◌≡◌, ◌+◌, ℕ, suc, List, [], ◌∷◌, refl, ap, ◌∙◌, sym, arith, length, map}
use Rattle.rif_tree.specs.declared.builtin.Pred.{Pred}
use Rattle.rif_values.specs.declared.constant.Const.{Const}
use Rattle.rif_tree.specs.declared.tree.Term.{Term}
use Rattle.rif_tree.specs.declared.tree.Formula.{Formula}
use Rattle.rif_tree.specs.declared.tree.Formula.TheVariants.{And, Or, Not, Exists, Equal, Member, Frame, Atom, Holds}
use Rattle.rif_tree.specs.declared.tree.Formula.TheVariants.{rolls-And, rolls-Or, rolls-Not, rolls-Exists}
use Rattle.rif_tree.specs.declared.tree.Formula.TheVariants.{rolls-Equal, rolls-Member, rolls-Frame, rolls-Atom}
use Rattle.rif_tree.specs.declared.tree.Formula.TheVariants.{rolls-Holds}
use Rattle.rif_tree.specs.declared.tree.Formula.TheOpen.{And as AndLayer, Or as OrLayer, Not as NotLayer}
use Rattle.rif_tree.specs.declared.tree.Formula.TheOpen.{Exists as ExistsLayer, Equal as EqualLayer}
use Rattle.rif_tree.specs.declared.tree.Formula.TheOpen.{Member as MemberLayer, Frame as FrameLayer}
use Rattle.rif_tree.specs.declared.tree.Formula.TheOpen.{Atom as AtomLayer, Holds as HoldsLayer}
use Rattle.rif_tree.specs.declared.tree.Formula.TheFolds.{fold-roll-Formula}
use Rattle.prd_limits.specs.Limits.{sum_of, patterns_in, pattern_count, patterns_of, level_patterns}
use Rattle.prd_limits.specs.Limits.{condition_patterns}
use Rattle.prd_grammar.specs.Trees.{PairTrees, last_pair, pairs, Tail, equals, member_of, with_pairs, FormulaTree}
use Rattle.prd_grammar.specs.Trees.{conj, disj, neg, some, grouped, holds, compared, atom, FormulaTrees, no_formulas}
use Rattle.prd_grammar.specs.Trees.{formulas, term_of_first, SuchTrees, last_such, more_such, RuleTree, for_all}
use Rattle.prd_grammar.specs.Trees.{for_all_such, if_then, block, ActionTrees, last_action, actions, BlockTree, acts}
use Rattle.prd_grammar.specs.Trees.{new_object, slot_value}
use Rattle.prd_grammar.specs.Values.{pairs_value, tail_value, term_value, terms_value, vars_value, formula_value}
use Rattle.prd_grammar.specs.Values.{formulas_value, name_value, pred_value, such_value, rule_levels, rule_condition}
use Rattle.prd_grammar.specs.Values.{actions_value, block_actions}
use Rattle.prd_limits.proofs.CountingTermLemmas.{pairs_adds}
use Rattle.prd_limits.proofs.CountingFormulaLemmas.{tail_adds, formula_adds, formulas_adds, such_adds}
use Rattle.prd_limits.proofs.CountingActionLemmas.{actions_add, block_adds}
use Rattle.prd_limits.proofs.CountingRuleLemmas.{rule_adds}

sum_counts : (fs : List Formula) → sum_of (map pattern_count fs) ≡ patterns_of fs
sum_counts [] = refl
sum_counts (f ∷ fs) = ap (λ (n : ℕ). pattern_count f + n) (sum_counts fs)

-- the equations of the count, form by form
and_count : (fs : List Formula) → pattern_count (And fs) ≡ patterns_of fs
and_count fs = ap pattern_count (sym (rolls-And fs)) ∙ (fold-roll-Formula ℕ patterns_in (AndLayer fs) ∙ sum_counts fs)

or_count : (fs : List Formula) → pattern_count (Or fs) ≡ patterns_of fs
or_count fs = ap pattern_count (sym (rolls-Or fs)) ∙ (fold-roll-Formula ℕ patterns_in (OrLayer fs) ∙ sum_counts fs)

not_count : (f : Formula) → pattern_count (Not f) ≡ pattern_count f
not_count f = ap pattern_count (sym (rolls-Not f)) ∙ fold-roll-Formula ℕ patterns_in (NotLayer f)

exists_count : (vs : List ℕ) (f : Formula) → pattern_count (Exists vs f) ≡ pattern_count f
exists_count vs f = ap pattern_count (sym (rolls-Exists vs f)) ∙ fold-roll-Formula ℕ patterns_in (ExistsLayer vs f)

equal_count : (t u : Term) → pattern_count (Equal t u) ≡ 0
equal_count t u = ap pattern_count (sym (rolls-Equal t u)) ∙ fold-roll-Formula ℕ patterns_in (EqualLayer t u)

member_count : (t u : Term) → pattern_count (Member t u) ≡ 1
member_count t u = ap pattern_count (sym (rolls-Member t u)) ∙ fold-roll-Formula ℕ patterns_in (MemberLayer t u)

frame_count : (t : Term) (ps : List (Term × Term)) → pattern_count (Frame t ps) ≡ length ps
frame_count t ps = ap pattern_count (sym (rolls-Frame t ps)) ∙ fold-roll-Formula ℕ patterns_in (FrameLayer t ps)

atom_count : (p : Const) (ts : List Term) → pattern_count (Atom p ts) ≡ 1
atom_count p ts = ap pattern_count (sym (rolls-Atom p ts)) ∙ fold-roll-Formula ℕ patterns_in (AtomLayer p ts)

holds_count : (p : Pred) (ts : List Term) → pattern_count (Holds p ts) ≡ 0
holds_count p ts = ap pattern_count (sym (rolls-Holds p ts)) ∙ fold-roll-Formula ℕ patterns_in (HoldsLayer p ts)

pairs_count : (names : List (List ℕ)) (ps : PairTrees) (n : ℕ) → pairs_adds ps n ≡ n + length (pairs_value names ps)
pairs_count names (last_pair s v) n = omega arith
pairs_count names (pairs s v ps) n = omega (arith, pairs_count names ps (suc n))

tail_count : (names : List (List ℕ)) (t : Term) (tail : Tail) (n : ℕ) →
    tail_adds tail n ≡ n + pattern_count (tail_value names t tail)
tail_count names t (equals u) n = omega (arith, equal_count t (term_value names u))
tail_count names t (member_of u) n = omega (arith, member_count t (term_value names u))
tail_count names t (with_pairs ps) n = omega (arith, frame_count t (pairs_value names ps), pairs_count names ps n)

mutual
  formula_count : (names : List (List ℕ)) (f : FormulaTree) (n : ℕ) →
      formula_adds f n ≡ n + pattern_count (formula_value names f)
  formula_count names (conj fs) n = omega (arith, formulas_count names fs n, and_count (formulas_value names fs))
  formula_count names (disj fs) n = omega (arith, formulas_count names fs n, or_count (formulas_value names fs))
  formula_count names (neg w f) n = omega (arith, formula_count names f n, not_count (formula_value names f))
  formula_count names (some vs f) n =
      omega (arith, formula_count names f n, exists_count (vars_value names vs) (formula_value names f))
  formula_count names (grouped f) n = formula_count names f n
  formula_count names (holds p ts) n = omega (arith, holds_count (pred_value p) (terms_value names ts))
  formula_count names (compared t tail) n = tail_count names (term_value names (term_of_first t)) tail n
  formula_count names (atom p ts) n = omega (arith, atom_count (name_value p) (terms_value names ts))

  formulas_count : (names : List (List ℕ)) (fs : FormulaTrees) (n : ℕ) →
      formulas_adds fs n ≡ n + patterns_of (formulas_value names fs)
  formulas_count names no_formulas n = omega arith
  formulas_count names (formulas f fs) n =
      omega (arith, formulas_count names fs (formula_adds f n), formula_count names f n)

such_count : (names : List (List ℕ)) (fs : SuchTrees) (n : ℕ) →
    such_adds fs n ≡ n + patterns_of (such_value names fs)
such_count names (last_such f) n = omega (arith, formula_count names f n)
such_count names (more_such f fs) n = omega (arith, such_count names fs (formula_adds f n), formula_count names f n)

pub rule_count : (names : List (List ℕ)) (r : RuleTree) (n : ℕ) →
    rule_adds r n ≡ n + (level_patterns (rule_levels names r) + condition_patterns (rule_condition names r))
rule_count names (for_all vs r) n = omega (arith, rule_count names r n)
rule_count names (for_all_such vs fs r) n = omega (arith, rule_count names r (such_adds fs n), such_count names fs n)
rule_count names (if_then f b) n = omega (arith, formula_count names f n)
rule_count names (block b) n = omega arith

actions_count : (names : List (List ℕ)) (xs : ActionTrees) (a : ℕ) →
    actions_add xs a ≡ a + length (actions_value names xs)
actions_count names (last_action x) a = omega arith
actions_count names (actions x more) a = omega (arith, actions_count names more (suc a))

pub block_count : (names : List (List ℕ)) (b : BlockTree) (a : ℕ) →
    block_adds b a ≡ a + length (block_actions names b)
block_count names (acts xs) a = actions_count names xs a
block_count names (new_object v b) a = block_count names b a
block_count names (slot_value v o s b) a = block_count names b a
