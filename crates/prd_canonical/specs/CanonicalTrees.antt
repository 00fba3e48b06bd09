-- The tree of a document's canonical spelling: IRIs in full, no brackets round a formula, one group a rule. No public
-- clause cites this module.
use Rattle.std.specs.Prelude.{ℤ, pos, true, false, [], Some}
use Rattle.rif_values.specs.declared.constant.Const.{Const}
use Rattle.rif_values.specs.declared.constant.Const.TheVariants.{Int, Bool, Str, Iri, Local, Fresh}
use Rattle.prd_grammar.specs.Trees.{ConstTree, const_int, const_string, const_iri, const_local, const_true}
use Rattle.prd_grammar.specs.Trees.{const_false, NameTree, name_iri, name_curie, name_local, name_typed_iri}
use Rattle.prd_grammar.specs.Trees.{name_typed_local, func_known, pred_known, TermTree, constant, variable, call}
use Rattle.prd_grammar.specs.Trees.{TermTrees, no_terms, terms, PairTrees, last_pair, pairs, Tail, equals, member_of}
use Rattle.prd_grammar.specs.Trees.{with_pairs, FirstTerm, first_constant, first_variable, first_call, spelled_not}
use Rattle.prd_grammar.specs.Trees.{FormulaTree, conj, disj, neg, some, grouped, holds, compared, atom, FormulaTrees}
use Rattle.prd_grammar.specs.Trees.{no_formulas, formulas, TargetTree, target_member, target_frame, target_atom}
use Rattle.prd_grammar.specs.Trees.{ActionTree, assert, retract, retract_slot, retract_object, modify, ActionTrees}
use Rattle.prd_grammar.specs.Trees.{last_action, actions, BlockTree, acts, new_object, slot_value, SuchTrees}
use Rattle.prd_grammar.specs.Trees.{last_such, more_such, RuleTree, for_all, for_all_such, if_then, block}
use Rattle.prd_grammar.specs.Trees.{no_strategy}
use Rattle.prd_grammar.specs.Trees.{no_priority, priority, GroupTree, group, MemberTrees, no_members, rule_member}
use Rattle.prd_grammar.specs.Trees.{group_member, PrefixTrees, no_group, one_group, prefix, DocumentTree, document}
use Rattle.prd_grammar.specs.Values.{const_value, func_value, pred_value, priority_in, text_or}

abbrev pub const_tree : Const → ConstTree
const_tree (Int z) = const_int (Some z)
const_tree (Bool true) = const_true
const_tree (Bool false) = const_false
const_tree (Str t) = const_string t
const_tree (Iri t) = const_iri t
const_tree (Local t) = const_local t
const_tree (Fresh k) = const_local []

abbrev pub canonical_name : NameTree → NameTree
canonical_name (name_iri t) = name_iri t
canonical_name (name_curie t) = name_iri (text_or [] t)
canonical_name (name_local t) = name_local t
canonical_name (name_typed_iri t known) = name_iri t
canonical_name (name_typed_local t known) = name_local t

abbrev mutual
  pub canonical_term : TermTree → TermTree
  canonical_term (constant c) = constant (const_tree (const_value c))
  canonical_term (variable v) = variable v
  canonical_term (call f ts) = call (func_known (func_value f)) (canonical_terms ts)

  pub canonical_terms : TermTrees → TermTrees
  canonical_terms no_terms = no_terms
  canonical_terms (terms t ts) = terms (canonical_term t) (canonical_terms ts)

abbrev pub canonical_pairs : PairTrees → PairTrees
canonical_pairs (last_pair s v) = last_pair (canonical_term s) (canonical_term v)
canonical_pairs (pairs s v ps) = pairs (canonical_term s) (canonical_term v) (canonical_pairs ps)

abbrev pub canonical_tail : Tail → Tail
canonical_tail (equals t) = equals (canonical_term t)
canonical_tail (member_of t) = member_of (canonical_term t)
canonical_tail (with_pairs ps) = with_pairs (canonical_pairs ps)

abbrev pub canonical_first : FirstTerm → FirstTerm
canonical_first (first_constant c) = first_constant (const_tree (const_value c))
canonical_first (first_variable v) = first_variable v
canonical_first (first_call f ts) = first_call f (canonical_terms ts)

abbrev mutual
  pub canonical_formula : FormulaTree → FormulaTree
  canonical_formula (conj fs) = conj (canonical_formulas fs)
  canonical_formula (disj fs) = disj (canonical_formulas fs)
  canonical_formula (neg w f) = neg spelled_not (canonical_formula f)
  canonical_formula (some vs f) = some vs (canonical_formula f)
  canonical_formula (grouped f) = canonical_formula f
  canonical_formula (holds p ts) = holds (pred_known (pred_value p)) (canonical_terms ts)
  canonical_formula (compared t tail) = compared (canonical_first t) (canonical_tail tail)
  canonical_formula (atom n ts) = atom (canonical_name n) (canonical_terms ts)

  pub canonical_formulas : FormulaTrees → FormulaTrees
  canonical_formulas no_formulas = no_formulas
  canonical_formulas (formulas f fs) = formulas (canonical_formula f) (canonical_formulas fs)

abbrev pub canonical_target : TargetTree → TargetTree
canonical_target (target_member o c) = target_member (canonical_term o) (canonical_term c)
canonical_target (target_frame o ps) = target_frame (canonical_term o) (canonical_pairs ps)
canonical_target (target_atom n ts) = target_atom (canonical_name n) (canonical_terms ts)

abbrev pub canonical_action : ActionTree → ActionTree
canonical_action (assert t) = assert (canonical_target t)
canonical_action (retract t) = retract (canonical_target t)
canonical_action (retract_slot o s) = retract_slot (canonical_term o) (canonical_term s)
canonical_action (retract_object o) = retract_object (canonical_term o)
canonical_action (modify o ps) = modify (canonical_term o) (canonical_pairs ps)

abbrev pub canonical_actions : ActionTrees → ActionTrees
canonical_actions (last_action a) = last_action (canonical_action a)
canonical_actions (actions a more) = actions (canonical_action a) (canonical_actions more)

abbrev pub canonical_block : BlockTree → BlockTree
canonical_block (acts a) = acts (canonical_actions a)
canonical_block (new_object v b) = new_object v (canonical_block b)
canonical_block (slot_value v o s b) = slot_value v (canonical_term o) (canonical_term s) (canonical_block b)

abbrev pub canonical_such : SuchTrees → SuchTrees
canonical_such (last_such f) = last_such (canonical_formula f)
canonical_such (more_such f fs) = more_such (canonical_formula f) (canonical_such fs)

abbrev pub canonical_rule : RuleTree → RuleTree
canonical_rule (for_all vs r) = for_all vs (canonical_rule r)
canonical_rule (for_all_such vs fs r) = for_all_such vs (canonical_such fs) (canonical_rule r)
canonical_rule (if_then f b) = if_then (canonical_formula f) (canonical_block b)
canonical_rule (block b) = block (canonical_block b)

-- a rule in a group of the priority
abbrev pub canonical_member : ℤ → RuleTree → GroupTree
canonical_member p r = group no_strategy (priority (Some p)) (rule_member (canonical_rule r) no_members)

-- the rules of a group, each in its own, before others
abbrev mutual
  pub canonical_group : ℤ → GroupTree → MemberTrees → MemberTrees
  canonical_group p (group s q ms) rest = canonical_members (priority_in p q) ms rest

  pub canonical_members : ℤ → MemberTrees → MemberTrees → MemberTrees
  canonical_members p no_members rest = rest
  canonical_members p (rule_member r ms) rest = group_member (canonical_member p r) (canonical_members p ms rest)
  canonical_members p (group_member g ms) rest = canonical_group p g (canonical_members p ms rest)

-- a group round those of the rules, where there are any
abbrev pub around_members : MemberTrees → PrefixTrees
around_members no_members = no_group
around_members ms = one_group (group no_strategy no_priority ms)

abbrev pub canonical_prefixes : PrefixTrees → PrefixTrees
canonical_prefixes no_group = no_group
canonical_prefixes (one_group g) = around_members (canonical_group (pos 0) g no_members)
canonical_prefixes (prefix name iri ps) = canonical_prefixes ps

abbrev pub canonical_document : DocumentTree → DocumentTree
canonical_document (document ps) = document (canonical_prefixes ps)
