-- The document that a tree stands for. In it a variable is its place in its rule's names, and what has a refusal of
-- its own stands for some value that is never read.
-- Source: the project's own (docs/FORMATS.md, "The document's tree").
use Rattle.std.specs.Prelude.{ℕ, ℤ, pos, Bool, true, false, if◌then◌else◌, List, [], ◌∷◌, ◌++◌, Option, Some, None}
use Rattle.std.specs.Prelude.{bytes_eq, suc}
use Rattle.std.specs.List.{list_any}
use Rattle.rif_tree.specs.declared.builtin.Func.{Func}
use Rattle.rif_tree.specs.declared.builtin.Func.TheVariants.{NumericAdd}
use Rattle.rif_tree.specs.declared.builtin.Pred.{Pred}
use Rattle.rif_tree.specs.declared.builtin.Pred.TheVariants.{NumericEqual}
use Rattle.rif_values.specs.declared.constant.Const.{Const}
use Rattle.rif_values.specs.declared.constant.Const.TheVariants.{Int, Bool as BoolConst, Str, Iri, Local}
use Rattle.rif_tree.specs.declared.tree.Term.{Term}
use Rattle.rif_tree.specs.declared.tree.Term.TheVariants.{Const as ConstTerm, Var as VarTerm, Call}
use Rattle.rif_tree.specs.declared.tree.Formula.{Formula}
use Rattle.rif_tree.specs.declared.tree.Formula.TheVariants.{And, Or, Not, Exists, Equal, Member, Frame, Atom, Holds}
use Rattle.rif_tree.specs.declared.tree.Level.{Level}
use Rattle.rif_tree.specs.declared.rule.Target.{Target}
use Rattle.rif_tree.specs.declared.rule.Target.TheVariants.{Atom as AtomTarget, Frame as FrameTarget}
use Rattle.rif_tree.specs.declared.rule.Target.TheVariants.{Member as MemberTarget}
use Rattle.rif_tree.specs.declared.rule.Action.{Action}
use Rattle.rif_tree.specs.declared.rule.Action.TheVariants.{Assert, Retract, RetractSlot, RetractObject, Modify}
use Rattle.rif_tree.specs.declared.rule.Decl.{Decl}
use Rattle.rif_tree.specs.declared.rule.Decl.TheVariants.{Slot, New}
use Rattle.rif_tree.specs.declared.rule.Rule.{Rule}
use Rattle.rif_tree.specs.declared.rule.Doc.{Doc}
use Rattle.prd_grammar.specs.declared.leaf.Literal.{Literal}
use Rattle.prd_grammar.specs.declared.leaf.Literal.TheVariants.{Integer, Boolean, String, Iri as IriLiteral}
use Rattle.prd_grammar.specs.declared.leaf.Literal.TheVariants.{Local as LocalLiteral, OfNoType}
use Rattle.prd_grammar.specs.declared.leaf.Leaf.{Leaf}
use Rattle.prd_grammar.specs.declared.leaf.Leaf.TheVariants.{Var as VarLeaf}
use Rattle.prd_grammar.specs.Prefixes.{Prefixes, with_prefix}
use Rattle.prd_grammar.specs.Trees.{ConstTree, const_int, const_string, const_typed, const_iri, const_curie}
use Rattle.prd_grammar.specs.Trees.{const_local, const_true, const_false, NameTree, const_of_name, FuncTree}
use Rattle.prd_grammar.specs.Trees.{func_known, func_unknown, func_undeclared, TermTree, constant, variable, call}
use Rattle.prd_grammar.specs.Trees.{TermTrees, no_terms, terms, PairTrees, last_pair, pairs, Tail, equals, member_of}
use Rattle.prd_grammar.specs.Trees.{with_pairs, Vars, one_var, more_vars, term_of_first, PredTree, pred_known}
use Rattle.prd_grammar.specs.Trees.{pred_unknown, pred_undeclared, FormulaTree, conj, disj, neg, some, grouped, holds}
use Rattle.prd_grammar.specs.Trees.{compared, atom, FormulaTrees, no_formulas, formulas, TargetTree, target_member}
use Rattle.prd_grammar.specs.Trees.{target_frame, target_atom, ActionTree, assert, retract, retract_slot}
use Rattle.prd_grammar.specs.Trees.{retract_object, modify, ActionTrees, last_action, actions, BlockTree, acts}
use Rattle.prd_grammar.specs.Trees.{new_object, slot_value, SuchTrees, last_such, more_such, RuleTree, for_all}
use Rattle.prd_grammar.specs.Trees.{for_all_such, if_then, block, spell_rule, PriorityTree, no_priority, priority}
use Rattle.prd_grammar.specs.Trees.{GroupTree, group, MemberTrees, no_members, rule_member, group_member, PrefixTrees}
use Rattle.prd_grammar.specs.Trees.{no_group, one_group, prefix, DocumentTree, document}

-- whether a name is one of some, and its place among them, counted from 0
abbrev pub has_name : List (List ℕ) → List ℕ → Bool
has_name names v = list_any (λ n. bytes_eq n v) names

abbrev pub place_of : List (List ℕ) → List ℕ → ℕ
place_of [] v = 0
place_of (n ∷ ns) v = if bytes_eq n v then 0 else suc (place_of ns v)

-- the names with one more, where it is none of them
abbrev pub with_name : List (List ℕ) → List ℕ → List (List ℕ)
with_name names v = if has_name names v then names else names ++ v ∷ []

-- the names with that of a leaf, where it is a variable
abbrev pub names_with : List (List ℕ) → Leaf → List (List ℕ)
names_with names (VarLeaf v) = with_name names v
names_with names _ = names

-- the names of variables in the order in which they are first seen, behind some that were seen before
abbrev pub names_from : List (List ℕ) → List Leaf → List (List ℕ)
names_from names [] = names
names_from names (l ∷ ls) = names_from (names_with names l) ls

abbrev pub rule_names : RuleTree → List (List ℕ)
rule_names r = names_from [] (spell_rule r)

abbrev pub integer_or : ℤ → Option ℤ → ℤ
integer_or z None = z
integer_or z (Some y) = y

abbrev pub text_or : List ℕ → Option (List ℕ) → List ℕ
text_or t None = t
text_or t (Some s) = s

abbrev pub literal_value : Literal → Const
literal_value (Integer z) = Int (integer_or (pos 0) z)
literal_value (Boolean b) = BoolConst b
literal_value (String t) = Str t
literal_value (IriLiteral t) = Iri t
literal_value (LocalLiteral t) = Local t
literal_value OfNoType = Str []

abbrev pub const_value : ConstTree → Const
const_value (const_int z) = Int (integer_or (pos 0) z)
const_value (const_string t) = Str t
const_value (const_typed literal known) = literal_value literal
const_value (const_iri t) = Iri t
const_value (const_curie t) = Iri (text_or [] t)
const_value (const_local t) = Local t
const_value const_true = BoolConst true
const_value const_false = BoolConst false

abbrev pub name_value : NameTree → Const
name_value n = const_value (const_of_name n)

abbrev pub func_value : FuncTree → Func
func_value (func_known f) = f
func_value func_unknown = NumericAdd
func_value func_undeclared = NumericAdd

abbrev pub pred_value : PredTree → Pred
pred_value (pred_known p) = p
pred_value pred_unknown = NumericEqual
pred_value pred_undeclared = NumericEqual

abbrev mutual
  pub term_value : List (List ℕ) → TermTree → Term
  term_value names (constant c) = ConstTerm (const_value c)
  term_value names (variable v) = VarTerm (place_of names v)
  term_value names (call f ts) = Call (func_value f) (terms_value names ts)

  pub terms_value : List (List ℕ) → TermTrees → List Term
  terms_value names no_terms = []
  terms_value names (terms t ts) = term_value names t ∷ terms_value names ts

abbrev pub pairs_value : List (List ℕ) → PairTrees → List (Term × Term)
pairs_value names (last_pair s v) = (term_value names s, term_value names v) ∷ []
pairs_value names (pairs s v ps) = (term_value names s, term_value names v) ∷ pairs_value names ps

abbrev pub tail_value : List (List ℕ) → Term → Tail → Formula
tail_value names t (equals u) = Equal t (term_value names u)
tail_value names t (member_of u) = Member t (term_value names u)
tail_value names t (with_pairs ps) = Frame t (pairs_value names ps)

abbrev pub vars_value : List (List ℕ) → Vars → List ℕ
vars_value names (one_var v) = place_of names v ∷ []
vars_value names (more_vars v vs) = place_of names v ∷ vars_value names vs

abbrev mutual
  pub formula_value : List (List ℕ) → FormulaTree → Formula
  formula_value names (conj fs) = And (formulas_value names fs)
  formula_value names (disj fs) = Or (formulas_value names fs)
  formula_value names (neg w f) = Not (formula_value names f)
  formula_value names (some vs f) = Exists (vars_value names vs) (formula_value names f)
  formula_value names (grouped f) = formula_value names f
  formula_value names (holds p ts) = Holds (pred_value p) (terms_value names ts)
  formula_value names (compared t tail) = tail_value names (term_value names (term_of_first t)) tail
  formula_value names (atom n ts) = Atom (name_value n) (terms_value names ts)

  pub formulas_value : List (List ℕ) → FormulaTrees → List Formula
  formulas_value names no_formulas = []
  formulas_value names (formulas f fs) = formula_value names f ∷ formulas_value names fs

abbrev pub target_value : List (List ℕ) → TargetTree → Target
target_value names (target_member o c) = MemberTarget (term_value names o) (term_value names c)
target_value names (target_frame o ps) = FrameTarget (term_value names o) (pairs_value names ps)
target_value names (target_atom n ts) = AtomTarget (name_value n) (terms_value names ts)

abbrev pub action_value : List (List ℕ) → ActionTree → Action
action_value names (assert t) = Assert (target_value names t)
action_value names (retract t) = Retract (target_value names t)
action_value names (retract_slot o s) = RetractSlot (term_value names o) (term_value names s)
action_value names (retract_object o) = RetractObject (term_value names o)
action_value names (modify o ps) = Modify (term_value names o) (pairs_value names ps)

abbrev pub actions_value : List (List ℕ) → ActionTrees → List Action
actions_value names (last_action a) = action_value names a ∷ []
actions_value names (actions a more) = action_value names a ∷ actions_value names more

abbrev pub block_decls : List (List ℕ) → BlockTree → List Decl
block_decls names (acts a) = []
block_decls names (new_object v b) = New (place_of names v) ∷ block_decls names b
block_decls names (slot_value v o s b) =
    Slot (place_of names v) (term_value names o) (term_value names s) ∷ block_decls names b

abbrev pub block_actions : List (List ℕ) → BlockTree → List Action
block_actions names (acts a) = actions_value names a
block_actions names (new_object v b) = block_actions names b
block_actions names (slot_value v o s b) = block_actions names b

abbrev pub such_value : List (List ℕ) → SuchTrees → List Formula
such_value names (last_such f) = formula_value names f ∷ []
such_value names (more_such f fs) = formula_value names f ∷ such_value names fs

abbrev pub level_of : List ℕ → List Formula → Level
level_of vars such_that = record { vars = vars; such_that = such_that }

-- from the outermost
abbrev pub rule_levels : List (List ℕ) → RuleTree → List Level
rule_levels names (for_all vs r) = level_of (vars_value names vs) [] ∷ rule_levels names r
rule_levels names (for_all_such vs fs r) = level_of (vars_value names vs) (such_value names fs) ∷ rule_levels names r
rule_levels names (if_then f b) = []
rule_levels names (block b) = []

abbrev pub rule_condition : List (List ℕ) → RuleTree → Option Formula
rule_condition names (for_all vs r) = rule_condition names r
rule_condition names (for_all_such vs fs r) = rule_condition names r
rule_condition names (if_then f b) = Some (formula_value names f)
rule_condition names (block b) = None

abbrev pub rule_block : RuleTree → BlockTree
rule_block (for_all vs r) = rule_block r
rule_block (for_all_such vs fs r) = rule_block r
rule_block (if_then f b) = b
rule_block (block b) = b

-- a rule in a group of the priority
abbrev pub rule_value : ℤ → RuleTree → Rule
rule_value p r = record {
  priority = p;
  names = rule_names r;
  levels = rule_levels (rule_names r) r;
  condition = rule_condition (rule_names r) r;
  decls = block_decls (rule_names r) (rule_block r);
  actions = block_actions (rule_names r) (rule_block r);
}

-- the priority inside a group, where that around it is p: the nearest group that gives one decides
abbrev pub priority_in : ℤ → PriorityTree → ℤ
priority_in p no_priority = p
priority_in p (priority z) = integer_or p z

abbrev mutual
  pub group_rules : ℤ → GroupTree → List Rule
  group_rules p (group s q ms) = member_rules (priority_in p q) ms

  pub member_rules : ℤ → MemberTrees → List Rule
  member_rules p no_members = []
  member_rules p (rule_member r ms) = rule_value p r ∷ member_rules p ms
  member_rules p (group_member g ms) = group_rules p g ++ member_rules p ms

abbrev pub rules_behind : PrefixTrees → List Rule
rules_behind no_group = []
rules_behind (one_group g) = group_rules (pos 0) g
rules_behind (prefix name iri ps) = rules_behind ps

abbrev pub document_value : DocumentTree → Doc
document_value (document ps) = record { rules = rules_behind ps }

-- the prefixes that are declared, behind some that were declared before
abbrev pub prefixes_behind : Prefixes → PrefixTrees → Prefixes
prefixes_behind prefixes no_group = prefixes
prefixes_behind prefixes (one_group g) = prefixes
prefixes_behind prefixes (prefix name iri ps) = prefixes_behind (with_prefix prefixes name iri) ps

abbrev pub document_prefixes : DocumentTree → Prefixes
document_prefixes (document ps) = prefixes_behind [] ps
