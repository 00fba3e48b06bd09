-- The canonical tree of a tree stands for the same, where names are given.
use Rattle.std.proofs.Common.{◌≡◌, ℕ, Bool, true, false, List, refl}
use Rattle.rif_values.specs.declared.constant.Const.TheVariants.{Bool as BoolConst}
use Rattle.prd_grammar.specs.declared.leaf.Literal.{Literal}
use Rattle.prd_grammar.specs.declared.leaf.Literal.TheVariants.{Integer, Boolean, String, Iri as IriLiteral}
use Rattle.prd_grammar.specs.declared.leaf.Literal.TheVariants.{Local as LocalLiteral, OfNoType}
use Rattle.prd_grammar.specs.Trees.{ConstTree, const_int, const_string, const_typed, const_iri, const_curie}
use Rattle.prd_grammar.specs.Trees.{const_local, const_true, const_false, NameTree, name_iri, name_curie, name_local}
use Rattle.prd_grammar.specs.Trees.{name_typed_iri, name_typed_local, FirstTerm, first_constant, first_variable}
use Rattle.prd_grammar.specs.Trees.{first_call, term_of_first, TermTree, constant, variable, call, TermTrees}
use Rattle.prd_grammar.specs.Trees.{no_terms}
use Rattle.prd_grammar.specs.Trees.{terms, PairTrees, last_pair, pairs, Tail, equals, member_of, with_pairs}
use Rattle.prd_grammar.specs.Trees.{FormulaTree, conj, disj, neg, some, grouped, holds, compared, atom, FormulaTrees}
use Rattle.prd_grammar.specs.Trees.{no_formulas, formulas, TargetTree, target_member, target_frame, target_atom}
use Rattle.prd_grammar.specs.Trees.{ActionTree, assert, retract, retract_slot, retract_object, modify, ActionTrees}
use Rattle.prd_grammar.specs.Trees.{last_action, actions, BlockTree, acts, new_object, slot_value, SuchTrees}
use Rattle.prd_grammar.specs.Trees.{last_such, more_such, RuleTree, for_all, for_all_such, if_then, block}
use Rattle.prd_grammar.specs.Values.{literal_value, const_value, name_value, term_value, terms_value, pairs_value}
use Rattle.prd_grammar.specs.Values.{tail_value, formula_value, formulas_value, target_value, action_value}
use Rattle.prd_grammar.specs.Values.{actions_value, block_decls, block_actions, such_value, rule_levels}
use Rattle.prd_grammar.specs.Values.{rule_condition, rule_block}
use Rattle.prd_canonical.specs.CanonicalTrees.{const_tree, canonical_name, canonical_first, canonical_term}
use Rattle.prd_canonical.specs.CanonicalTrees.{canonical_terms, canonical_pairs, canonical_tail, canonical_formula}
use Rattle.prd_canonical.specs.CanonicalTrees.{canonical_formulas, canonical_target, canonical_action}
use Rattle.prd_canonical.specs.CanonicalTrees.{canonical_actions}
use Rattle.prd_canonical.specs.CanonicalTrees.{canonical_block, canonical_such, canonical_rule}

truth_value : (b : Bool) → const_value (const_tree (BoolConst b)) ≡ BoolConst b
truth_value true = refl
truth_value false = refl

value_of_literal : (l : Literal) → const_value (const_tree (literal_value l)) ≡ literal_value l
value_of_literal (Integer z) = refl
value_of_literal (Boolean b) = truth_value b
value_of_literal (String t) = refl
value_of_literal (IriLiteral t) = refl
value_of_literal (LocalLiteral t) = refl
value_of_literal OfNoType = refl

value_of_const : (c : ConstTree) → const_value (const_tree (const_value c)) ≡ const_value c
value_of_const (const_int z) = refl
value_of_const (const_string t) = refl
value_of_const (const_typed literal known) = value_of_literal literal
value_of_const (const_iri t) = refl
value_of_const (const_curie t) = refl
value_of_const (const_local t) = refl
value_of_const const_true = refl
value_of_const const_false = refl

value_of_name : (n : NameTree) → name_value (canonical_name n) ≡ name_value n
value_of_name (name_iri t) = refl
value_of_name (name_curie t) = refl
value_of_name (name_local t) = refl
value_of_name (name_typed_iri t known) = refl
value_of_name (name_typed_local t known) = refl

first_term : (t : FirstTerm) → term_of_first (canonical_first t) ≡ canonical_term (term_of_first t)
first_term (first_constant c) = refl
first_term (first_variable v) = refl
first_term (first_call f ts) = refl

mutual
  value_of_term : (ns : List (List ℕ)) (t : TermTree) → term_value ns (canonical_term t) ≡ term_value ns t
  value_of_term ns (constant c) = let e = value_of_const c in cc
  value_of_term ns (variable v) = refl
  value_of_term ns (call f ts) = let e = value_of_terms ns ts in cc

  value_of_terms : (ns : List (List ℕ)) (ts : TermTrees) → terms_value ns (canonical_terms ts) ≡ terms_value ns ts
  value_of_terms ns no_terms = refl
  value_of_terms ns (terms t ts) = let e = value_of_term ns t in let f = value_of_terms ns ts in cc

value_of_pairs : (ns : List (List ℕ)) (ps : PairTrees) → pairs_value ns (canonical_pairs ps) ≡ pairs_value ns ps
value_of_pairs ns (last_pair s v) =
    let e = value_of_term ns s in let f = value_of_term ns v in rw (e, f) refl
value_of_pairs ns (pairs s v ps) =
    let e = value_of_term ns s in let f = value_of_term ns v in let g = value_of_pairs ns ps in rw (e, f, g) refl

value_of_compared : (ns : List (List ℕ)) (t : FirstTerm) (tail : Tail) →
    tail_value ns (term_value ns (term_of_first (canonical_first t))) (canonical_tail tail)
    ≡ tail_value ns (term_value ns (term_of_first t)) tail
value_of_compared ns t (equals u) = let h = first_term t in let e = value_of_term ns (term_of_first t) in
    let f = value_of_term ns u in rw (h, e, f) refl
value_of_compared ns t (member_of u) = let h = first_term t in let e = value_of_term ns (term_of_first t) in
    let f = value_of_term ns u in rw (h, e, f) refl
value_of_compared ns t (with_pairs ps) = let h = first_term t in let e = value_of_term ns (term_of_first t) in
    let f = value_of_pairs ns ps in rw (h, e, f) refl

mutual
  value_of_formula : (ns : List (List ℕ)) (f : FormulaTree) →
      formula_value ns (canonical_formula f) ≡ formula_value ns f
  value_of_formula ns (conj fs) = let e = value_of_formulas ns fs in rw e refl
  value_of_formula ns (disj fs) = let e = value_of_formulas ns fs in rw e refl
  value_of_formula ns (neg w f) = let e = value_of_formula ns f in rw e refl
  value_of_formula ns (some vs f) = let e = value_of_formula ns f in rw e refl
  value_of_formula ns (grouped f) = value_of_formula ns f
  value_of_formula ns (holds p ts) = let e = value_of_terms ns ts in rw e refl
  value_of_formula ns (compared t tail) = value_of_compared ns t tail
  value_of_formula ns (atom n ts) = let d = value_of_name n in let e = value_of_terms ns ts in rw (d, e) refl

  value_of_formulas : (ns : List (List ℕ)) (fs : FormulaTrees) →
      formulas_value ns (canonical_formulas fs) ≡ formulas_value ns fs
  value_of_formulas ns no_formulas = refl
  value_of_formulas ns (formulas f fs) = let e = value_of_formula ns f in let g = value_of_formulas ns fs in
      rw (e, g) refl

value_of_target : (ns : List (List ℕ)) (t : TargetTree) → target_value ns (canonical_target t) ≡ target_value ns t
value_of_target ns (target_member o c) =
    let e = value_of_term ns o in let f = value_of_term ns c in rw (e, f) refl
value_of_target ns (target_frame o ps) =
    let e = value_of_term ns o in let f = value_of_pairs ns ps in rw (e, f) refl
value_of_target ns (target_atom n ts) = let d = value_of_name n in let e = value_of_terms ns ts in rw (d, e) refl

value_of_action : (ns : List (List ℕ)) (a : ActionTree) → action_value ns (canonical_action a) ≡ action_value ns a
value_of_action ns (assert t) = let e = value_of_target ns t in rw e refl
value_of_action ns (retract t) = let e = value_of_target ns t in rw e refl
value_of_action ns (retract_slot o s) =
    let e = value_of_term ns o in let f = value_of_term ns s in rw (e, f) refl
value_of_action ns (retract_object o) = let e = value_of_term ns o in rw e refl
value_of_action ns (modify o ps) = let e = value_of_term ns o in let f = value_of_pairs ns ps in rw (e, f) refl

value_of_actions : (ns : List (List ℕ)) (all : ActionTrees) →
    actions_value ns (canonical_actions all) ≡ actions_value ns all
value_of_actions ns (last_action a) = let e = value_of_action ns a in rw e refl
value_of_actions ns (actions a more) =
    let e = value_of_action ns a in let f = value_of_actions ns more in rw (e, f) refl

pub same_actions : (ns : List (List ℕ)) (b : BlockTree) → block_actions ns (canonical_block b) ≡ block_actions ns b
same_actions ns (acts a) = value_of_actions ns a
same_actions ns (new_object v b) = same_actions ns b
same_actions ns (slot_value v o s b) = same_actions ns b

pub same_decls : (ns : List (List ℕ)) (b : BlockTree) → block_decls ns (canonical_block b) ≡ block_decls ns b
same_decls ns (acts a) = refl
same_decls ns (new_object v b) = let e = same_decls ns b in rw e refl
same_decls ns (slot_value v o s b) = let e = value_of_term ns o in let f = value_of_term ns s in
    let g = same_decls ns b in rw (e, f, g) refl

value_of_such : (ns : List (List ℕ)) (fs : SuchTrees) → such_value ns (canonical_such fs) ≡ such_value ns fs
value_of_such ns (last_such f) = let e = value_of_formula ns f in rw e refl
value_of_such ns (more_such f fs) = let e = value_of_formula ns f in let g = value_of_such ns fs in rw (e, g) refl

pub same_levels : (ns : List (List ℕ)) (r : RuleTree) → rule_levels ns (canonical_rule r) ≡ rule_levels ns r
same_levels ns (for_all vs r) = let e = same_levels ns r in rw e refl
same_levels ns (for_all_such vs fs r) = let d = value_of_such ns fs in let e = same_levels ns r in rw (d, e) refl
same_levels ns (if_then f b) = refl
same_levels ns (block b) = refl

pub same_condition : (ns : List (List ℕ)) (r : RuleTree) → rule_condition ns (canonical_rule r) ≡ rule_condition ns r
same_condition ns (for_all vs r) = same_condition ns r
same_condition ns (for_all_such vs fs r) = same_condition ns r
same_condition ns (if_then f b) = let e = value_of_formula ns f in rw e refl
same_condition ns (block b) = refl

pub same_block : (r : RuleTree) → rule_block (canonical_rule r) ≡ canonical_block (rule_block r)
same_block (for_all vs r) = same_block r
same_block (for_all_such vs fs r) = same_block r
same_block (if_then f b) = refl
same_block (block b) = refl
