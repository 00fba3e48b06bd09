-- The grammar of documents: one constructor for each alternative, and the leaves that each tree is spelled with. A
-- list is spelled with the bracket that ends it.
-- Source: the project's own (docs/FORMATS.md, "Grammar").
use Rattle.std.specs.Prelude.{ℤ, ℕ, Bool, List, [], ◌∷◌, ◌++◌, Option}
use Rattle.rif_tree.specs.declared.builtin.Func.{Func}
use Rattle.rif_tree.specs.declared.builtin.Pred.{Pred}
use Rattle.prd_grammar.specs.declared.leaf.Keyword.TheVariants.{Document, Prefix, Group, Forall, Such, That, If, Then}
use Rattle.prd_grammar.specs.declared.leaf.Keyword.TheVariants.{Do, New, Assert, Retract, Modify, And, Or, Not, INeg}
use Rattle.prd_grammar.specs.declared.leaf.Keyword.TheVariants.{Exists, External, True, False}
use Rattle.prd_grammar.specs.declared.leaf.Builtin.TheVariants.{Func as FuncBuiltin, Pred as PredBuiltin}
use Rattle.prd_grammar.specs.declared.leaf.BuiltinName.TheVariants.{Known, Unknown, Undeclared}
use Rattle.prd_grammar.specs.declared.leaf.Literal.{Literal}
use Rattle.prd_grammar.specs.declared.leaf.Literal.TheVariants.{Iri as IriLiteral, Local as LocalLiteral}
use Rattle.prd_grammar.specs.declared.leaf.Leaf.{Leaf}
use Rattle.prd_grammar.specs.declared.leaf.Leaf.TheVariants.{Key, Word, Int, Str, Typed, TypeName as TypeLeaf, Iri}
use Rattle.prd_grammar.specs.declared.leaf.Leaf.TheVariants.{Curie, Builtin, Local, Var, Open, Close, OpenSquare}
use Rattle.prd_grammar.specs.declared.leaf.Leaf.TheVariants.{CloseSquare, Equal, Hash, Arrow, Carets}

-- Const = INT | STRING | STRING '^^' (IRI | CURIE) | IRI | CURIE | LOCAL | 'true' | 'false'
pub data ConstTree : Type 0 where
  const_int : Option ℤ → ConstTree
  const_string : List ℕ → ConstTree
  const_typed : Literal → Bool → ConstTree
  const_iri : List ℕ → ConstTree
  const_curie : Option (List ℕ) → ConstTree
  const_local : List ℕ → ConstTree
  const_true const_false : ConstTree

abbrev pub spell_const : ConstTree → List Leaf
spell_const (const_int z) = Int z ∷ []
spell_const (const_string t) = Str t ∷ []
spell_const (const_typed literal known) = Typed literal ∷ Carets ∷ TypeLeaf known ∷ []
spell_const (const_iri t) = Iri t ∷ []
spell_const (const_curie t) = Curie t ∷ []
spell_const (const_local t) = Local t ∷ []
spell_const const_true = Key True ∷ []
spell_const const_false = Key False ∷ []

-- Name = a Const that is an IRI or a local name
pub data NameTree : Type 0 where
  name_iri : List ℕ → NameTree
  name_curie : Option (List ℕ) → NameTree
  name_local : List ℕ → NameTree
  name_typed_iri name_typed_local : List ℕ → Bool → NameTree

abbrev pub const_of_name : NameTree → ConstTree
const_of_name (name_iri t) = const_iri t
const_of_name (name_curie t) = const_curie t
const_of_name (name_local t) = const_local t
const_of_name (name_typed_iri t known) = const_typed (IriLiteral t) known
const_of_name (name_typed_local t known) = const_typed (LocalLiteral t) known

abbrev pub spell_name : NameTree → List Leaf
spell_name n = spell_const (const_of_name n)

-- FuncName: a function's name, or one that isn't known
pub data FuncTree : Type 0 where
  func_known : Func → FuncTree
  func_unknown func_undeclared : FuncTree

abbrev pub func_leaf : FuncTree → Leaf
func_leaf (func_known f) = Builtin (Known (FuncBuiltin f))
func_leaf func_unknown = Builtin Unknown
func_leaf func_undeclared = Builtin Undeclared

-- Term = Const | VAR | 'External' '(' FuncName '(' Term* ')' ')'
mutual
  pub data TermTree : Type 0 where
    constant : ConstTree → TermTree
    variable : List ℕ → TermTree
    call : FuncTree → TermTrees → TermTree

  -- Term* ')'
  pub data TermTrees : Type 0 where
    no_terms : TermTrees
    terms : TermTree → TermTrees → TermTrees

abbrev mutual
  pub spell_term : TermTree → List Leaf
  spell_term (constant c) = spell_const c
  spell_term (variable v) = Var v ∷ []
  spell_term (call f ts) = Key External ∷ Open ∷ func_leaf f ∷ Open ∷ (spell_terms ts ++ Close ∷ [])

  pub spell_terms : TermTrees → List Leaf
  spell_terms no_terms = Close ∷ []
  spell_terms (terms t ts) = spell_term t ++ spell_terms ts

-- Pair+ ']', where a Pair is Term '->' Term
pub data PairTrees : Type 0 where
  last_pair : TermTree → TermTree → PairTrees
  pairs : TermTree → TermTree → PairTrees → PairTrees

abbrev pub spell_pairs : PairTrees → List Leaf
spell_pairs (last_pair s v) = spell_term s ++ Arrow ∷ (spell_term v ++ CloseSquare ∷ [])
spell_pairs (pairs s v ps) = spell_term s ++ Arrow ∷ (spell_term v ++ spell_pairs ps)

-- what makes a formula of its first term: '=' Term | '#' Term | '[' Pair+ ']'
pub data Tail : Type 0 where
  equals : TermTree → Tail
  member_of : TermTree → Tail
  with_pairs : PairTrees → Tail

abbrev pub spell_tail : Tail → List Leaf
spell_tail (equals t) = Equal ∷ spell_term t
spell_tail (member_of t) = Hash ∷ spell_term t
spell_tail (with_pairs ps) = OpenSquare ∷ spell_pairs ps

-- VAR+
pub data Vars : Type 0 where
  one_var : List ℕ → Vars
  more_vars : List ℕ → Vars → Vars

abbrev pub spell_vars : Vars → List Leaf
spell_vars (one_var v) = Var v ∷ []
spell_vars (more_vars v vs) = Var v ∷ spell_vars vs

-- 'Not' | 'INeg'
pub data NotWord : Type 0 where
  spelled_not spelled_ineg : NotWord

abbrev pub not_leaf : NotWord → Leaf
not_leaf spelled_not = Key Not
not_leaf spelled_ineg = Key INeg

-- the first term of a formula; where it is a built-in's, this is a known function: all else is a predicate's name
pub data FirstTerm : Type 0 where
  first_constant : ConstTree → FirstTerm
  first_variable : List ℕ → FirstTerm
  first_call : Func → TermTrees → FirstTerm

abbrev pub term_of_first : FirstTerm → TermTree
term_of_first (first_constant c) = constant c
term_of_first (first_variable v) = variable v
term_of_first (first_call f ts) = call (func_known f) ts

-- PredName: a predicate's name, or one that isn't known
pub data PredTree : Type 0 where
  pred_known : Pred → PredTree
  pred_unknown pred_undeclared : PredTree

abbrev pub pred_leaf : PredTree → Leaf
pred_leaf (pred_known p) = Builtin (Known (PredBuiltin p))
pred_leaf pred_unknown = Builtin Unknown
pred_leaf pred_undeclared = Builtin Undeclared

-- Formula = 'And' '(' Formula* ')' | 'Or' '(' Formula* ')' | ('Not' | 'INeg') '(' Formula ')'
--         | 'Exists' VAR+ '(' Formula ')' | '(' Formula ')' | 'External' '(' PredName '(' Term* ')' ')'
--         | Term '=' Term | Term '#' Term | Term '[' Pair+ ']' | Name '(' Term* ')'
mutual
  pub data FormulaTree : Type 0 where
    conj : FormulaTrees → FormulaTree
    disj : FormulaTrees → FormulaTree
    neg : NotWord → FormulaTree → FormulaTree
    some : Vars → FormulaTree → FormulaTree
    grouped : FormulaTree → FormulaTree
    holds : PredTree → TermTrees → FormulaTree
    compared : FirstTerm → Tail → FormulaTree
    atom : NameTree → TermTrees → FormulaTree

  -- Formula* ')'
  pub data FormulaTrees : Type 0 where
    no_formulas : FormulaTrees
    formulas : FormulaTree → FormulaTrees → FormulaTrees

abbrev mutual
  pub spell_formula : FormulaTree → List Leaf
  spell_formula (conj fs) = Key And ∷ Open ∷ spell_formulas fs
  spell_formula (disj fs) = Key Or ∷ Open ∷ spell_formulas fs
  spell_formula (neg w f) = not_leaf w ∷ Open ∷ (spell_formula f ++ Close ∷ [])
  spell_formula (some vs f) = Key Exists ∷ (spell_vars vs ++ Open ∷ (spell_formula f ++ Close ∷ []))
  spell_formula (grouped f) = Open ∷ (spell_formula f ++ Close ∷ [])
  spell_formula (holds p ts) = Key External ∷ Open ∷ pred_leaf p ∷ Open ∷ (spell_terms ts ++ Close ∷ [])
  spell_formula (compared t tail) = spell_term (term_of_first t) ++ spell_tail tail
  spell_formula (atom n ts) = spell_name n ++ Open ∷ spell_terms ts

  pub spell_formulas : FormulaTrees → List Leaf
  spell_formulas no_formulas = Close ∷ []
  spell_formulas (formulas f fs) = spell_formula f ++ spell_formulas fs

-- Target = Term '#' Term | Term '[' Pair+ ']' | Name '(' Term* ')'
pub data TargetTree : Type 0 where
  target_member : TermTree → TermTree → TargetTree
  target_frame : TermTree → PairTrees → TargetTree
  target_atom : NameTree → TermTrees → TargetTree

abbrev pub spell_target : TargetTree → List Leaf
spell_target (target_member o c) = spell_term o ++ Hash ∷ spell_term c
spell_target (target_frame o ps) = spell_term o ++ OpenSquare ∷ spell_pairs ps
spell_target (target_atom n ts) = spell_name n ++ Open ∷ spell_terms ts

-- Action = 'Assert' '(' Target ')' | 'Retract' '(' Target ')' | 'Retract' '(' Term Term ')' | 'Retract' '(' Term ')'
--        | 'Modify' '(' Term '[' Pair+ ']' ')'
pub data ActionTree : Type 0 where
  assert : TargetTree → ActionTree
  retract : TargetTree → ActionTree
  retract_slot : TermTree → TermTree → ActionTree
  retract_object : TermTree → ActionTree
  modify : TermTree → PairTrees → ActionTree

abbrev pub spell_action : ActionTree → List Leaf
spell_action (assert t) = Key Assert ∷ Open ∷ (spell_target t ++ Close ∷ [])
spell_action (retract t) = Key Retract ∷ Open ∷ (spell_target t ++ Close ∷ [])
spell_action (retract_slot o s) = Key Retract ∷ Open ∷ (spell_term o ++ (spell_term s ++ Close ∷ []))
spell_action (retract_object o) = Key Retract ∷ Open ∷ (spell_term o ++ Close ∷ [])
spell_action (modify o ps) = Key Modify ∷ Open ∷ (spell_term o ++ OpenSquare ∷ (spell_pairs ps ++ Close ∷ []))

-- Action+ ')'
pub data ActionTrees : Type 0 where
  last_action : ActionTree → ActionTrees
  actions : ActionTree → ActionTrees → ActionTrees

abbrev pub spell_actions : ActionTrees → List Leaf
spell_actions (last_action a) = spell_action a ++ Close ∷ []
spell_actions (actions a more) = spell_action a ++ spell_actions more

-- Decl* Action+ ')', where a Decl is '(' VAR 'New' '(' ')' ')' or '(' VAR Term '[' Term '->' VAR ']' ')', whose two
-- variables are the same
pub data BlockTree : Type 0 where
  acts : ActionTrees → BlockTree
  new_object : List ℕ → BlockTree → BlockTree
  slot_value : List ℕ → TermTree → TermTree → BlockTree → BlockTree

abbrev pub spell_block : BlockTree → List Leaf
spell_block (acts a) = spell_actions a
spell_block (new_object v b) = Open ∷ Var v ∷ Key New ∷ Open ∷ Close ∷ Close ∷ spell_block b
spell_block (slot_value v o s b) =
    Open ∷ Var v ∷ (spell_term o ++ OpenSquare
    ∷ (spell_term s ++ Arrow ∷ Var v ∷ CloseSquare ∷ Close ∷ spell_block b))

-- Formula+ '('
pub data SuchTrees : Type 0 where
  last_such : FormulaTree → SuchTrees
  more_such : FormulaTree → SuchTrees → SuchTrees

abbrev pub spell_such : SuchTrees → List Leaf
spell_such (last_such f) = spell_formula f ++ Open ∷ []
spell_such (more_such f fs) = spell_formula f ++ spell_such fs

-- Rule = 'Forall' VAR+ ('such' 'that' Formula+)? '(' Rule ')' | 'If' Formula 'Then' Block | Block, where a Block is
-- 'Do' '(' Decl* Action+ ')'
pub data RuleTree : Type 0 where
  for_all : Vars → RuleTree → RuleTree
  for_all_such : Vars → SuchTrees → RuleTree → RuleTree
  if_then : FormulaTree → BlockTree → RuleTree
  block : BlockTree → RuleTree

abbrev pub spell_rule : RuleTree → List Leaf
spell_rule (for_all vs r) = Key Forall ∷ (spell_vars vs ++ Open ∷ (spell_rule r ++ Close ∷ []))
spell_rule (for_all_such vs fs r) =
    Key Forall ∷ (spell_vars vs ++ Key Such ∷ Key That ∷ (spell_such fs ++ (spell_rule r ++ Close ∷ [])))
spell_rule (if_then f b) = Key If ∷ (spell_formula f ++ Key Then ∷ Key Do ∷ Open ∷ spell_block b)
spell_rule (block b) = Key Do ∷ Open ∷ spell_block b

-- (IRI | CURIE)?
pub data StrategyTree : Type 0 where
  no_strategy : StrategyTree
  strategy_iri : List ℕ → StrategyTree
  strategy_curie : Option (List ℕ) → StrategyTree

abbrev pub spell_strategy : StrategyTree → List Leaf
spell_strategy no_strategy = []
spell_strategy (strategy_iri t) = Iri t ∷ []
spell_strategy (strategy_curie t) = Curie t ∷ []

-- INT?
pub data PriorityTree : Type 0 where
  no_priority : PriorityTree
  priority : Option ℤ → PriorityTree

abbrev pub spell_priority : PriorityTree → List Leaf
spell_priority no_priority = []
spell_priority (priority z) = Int z ∷ []

-- Group = 'Group' (IRI | CURIE)? INT? '(' (Rule | Group)* ')'
mutual
  pub data GroupTree : Type 0 where
    group : StrategyTree → PriorityTree → MemberTrees → GroupTree

  -- (Rule | Group)* ')'
  pub data MemberTrees : Type 0 where
    no_members : MemberTrees
    rule_member : RuleTree → MemberTrees → MemberTrees
    group_member : GroupTree → MemberTrees → MemberTrees

abbrev mutual
  pub spell_group : GroupTree → List Leaf
  spell_group (group s p ms) = Key Group ∷ (spell_strategy s ++ (spell_priority p ++ Open ∷ spell_members ms))

  pub spell_members : MemberTrees → List Leaf
  spell_members no_members = Close ∷ []
  spell_members (rule_member r ms) = spell_rule r ++ spell_members ms
  spell_members (group_member g ms) = spell_group g ++ spell_members ms

-- Prefix* Group? ')', where a Prefix is 'Prefix' '(' WORD IRI ')'
pub data PrefixTrees : Type 0 where
  no_group : PrefixTrees
  one_group : GroupTree → PrefixTrees
  prefix : List ℕ → List ℕ → PrefixTrees → PrefixTrees

abbrev pub spell_prefixes : PrefixTrees → List Leaf
spell_prefixes no_group = Close ∷ []
spell_prefixes (one_group g) = spell_group g ++ Close ∷ []
spell_prefixes (prefix name iri ps) = Key Prefix ∷ Open ∷ Word name ∷ Iri iri ∷ Close ∷ spell_prefixes ps

-- Document = 'Document' '(' Prefix* Group? ')'
pub data DocumentTree : Type 0 where
  document : PrefixTrees → DocumentTree

abbrev pub spell_document : DocumentTree → List Leaf
spell_document (document ps) = Key Document ∷ Open ∷ spell_prefixes ps
