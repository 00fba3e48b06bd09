-- What each want stands for, and the leaves of it.
--     Piece w            what stands for a want: a tree, or what is left of one
--     Pieces ws          a piece for each want
--     Begun ws w ls      the leaves are a piece for the want, and pieces for the others behind it
--     Builds more w l    what a leaf leads to, behind this leaf, is a want's piece
use Rattle.std.proofs.Common.{◌≡◌, ℕ, Bool, List, [], ◌∷◌, ◌++◌, Some, None, refl, ap, ◌∙◌}
use Rattle.std.specs.declared.option.Option.{Option}
use Rattle.prd_grammar.specs.declared.leaf.Keyword.TheVariants.{Such, That as ThatKey, Then as ThenKey, Do as DoKey}
use Rattle.prd_grammar.specs.declared.leaf.Keyword.TheVariants.{New}
use Rattle.prd_grammar.specs.declared.leaf.Builtin.TheVariants.{Func as FuncBuiltin}
use Rattle.prd_grammar.specs.declared.leaf.BuiltinName.TheVariants.{Known}
use Rattle.prd_grammar.specs.declared.leaf.Leaf.{Leaf}
use Rattle.prd_grammar.specs.declared.leaf.Leaf.TheVariants.{Key, Word, TypeName as TypeLeaf, Iri, Builtin, Var}
use Rattle.prd_grammar.specs.declared.leaf.Leaf.TheVariants.{Open as OpenLeaf, Close as CloseLeaf}
use Rattle.prd_grammar.specs.declared.leaf.Leaf.TheVariants.{OpenSquare as OpenSquareLeaf}
use Rattle.prd_grammar.specs.declared.leaf.Leaf.TheVariants.{CloseSquare as CloseSquareLeaf, Hash, Arrow as ArrowLeaf}
use Rattle.prd_grammar.specs.declared.leaf.Leaf.TheVariants.{Carets as CaretsLeaf}
use Rattle.prd_recognition.specs.declared.want.Want.{Want}
use Rattle.prd_recognition.specs.declared.want.Want.TheVariants.{Document, Prefixes, PrefixName, PrefixIri, GroupHead}
use Rattle.prd_recognition.specs.declared.want.Want.TheVariants.{GroupPriority, Members, Rule, Variable, ForallRest}
use Rattle.prd_recognition.specs.declared.want.Want.TheVariants.{SuchRest, SuchBracket, Block, Actions, DeclVariable}
use Rattle.prd_recognition.specs.declared.want.Want.TheVariants.{DeclRest, SameVariable, Target, TargetTail}
use Rattle.prd_recognition.specs.declared.want.Want.TheVariants.{TargetAfterName, Retracted, RetractedTail}
use Rattle.prd_recognition.specs.declared.want.Want.TheVariants.{RetractedAfterName, Formula, Formulas, ExistsRest}
use Rattle.prd_recognition.specs.declared.want.Want.TheVariants.{BuiltinOfFormula, Tail, AfterName, Term, Terms}
use Rattle.prd_recognition.specs.declared.want.Want.TheVariants.{FuncName}
use Rattle.prd_recognition.specs.declared.want.Want.TheVariants.{Pairs, TypeName, Open, Close, OpenSquare}
use Rattle.prd_recognition.specs.declared.want.Want.TheVariants.{CloseSquare}
use Rattle.prd_recognition.specs.declared.want.Want.TheVariants.{Arrow, Carets, That, Then, Do}
use Rattle.rif_tree.specs.declared.builtin.Func.{Func}
use Rattle.prd_recognition.specs.Following.{followed}
use Rattle.prd_grammar.specs.Trees.{NameTree, TermTree, TermTrees, FuncTree, func_leaf, PairTrees, Tail as TailTree}
use Rattle.prd_grammar.specs.Trees.{Vars, PredTree, pred_leaf, FormulaTree, FormulaTrees, TargetTree, ActionTrees}
use Rattle.prd_grammar.specs.Trees.{BlockTree, SuchTrees, RuleTree, PriorityTree, GroupTree, MemberTrees, PrefixTrees}
use Rattle.prd_grammar.specs.Trees.{DocumentTree}
use Rattle.prd_grammar.proofs.CallerLemmas.{put_name, put_term, put_terms, put_pairs, put_tail, put_vars}
use Rattle.prd_grammar.proofs.CallerLemmas.{put_formula, put_formulas}
use Rattle.prd_grammar.proofs.CallerLemmas.{put_target, put_actions, put_block, put_such, put_rule, put_priority}
use Rattle.prd_grammar.proofs.CallerLemmas.{put_group, put_members, put_prefixes, put_document}

-- Pair* ']'
pub data PairsLeft : Type 0 where
  no_pairs : PairsLeft
  some_pairs : PairTrees → PairsLeft

abbrev pub put_pairs_left : PairsLeft → List Leaf → List Leaf
put_pairs_left no_pairs ls = CloseSquareLeaf ∷ ls
put_pairs_left (some_pairs ps) ls = put_pairs ps ls

-- behind a name that begins a formula
pub data NameLeft : Type 0 where
  atom_left : TermTrees → NameLeft
  tail_left : TailTree → NameLeft

abbrev pub put_name_left : NameLeft → List Leaf → List Leaf
put_name_left (atom_left ts) ls = OpenLeaf ∷ put_terms ts ls
put_name_left (tail_left t) ls = put_tail t ls

-- behind `External` `(` that begins a formula
pub data BuiltinLeft : Type 0 where
  pred_left : PredTree → TermTrees → BuiltinLeft
  func_left : Func → TermTrees → TailTree → BuiltinLeft

abbrev pub put_builtin_left : BuiltinLeft → List Leaf → List Leaf
put_builtin_left (pred_left p ts) ls = pred_leaf p ∷ OpenLeaf ∷ put_terms ts (CloseLeaf ∷ ls)
put_builtin_left (func_left f ts t) ls =
    Builtin (Known (FuncBuiltin f)) ∷ OpenLeaf ∷ put_terms ts (CloseLeaf ∷ put_tail t ls)

-- VAR*
pub data VarsLeft : Type 0 where
  no_vars : VarsLeft
  some_vars : Vars → VarsLeft

abbrev pub put_vars_left : VarsLeft → List Leaf → List Leaf
put_vars_left no_vars ls = ls
put_vars_left (some_vars vs) ls = put_vars vs ls

-- VAR* '(' Formula ')'
pub data ExistsLeft : Type 0 where
  exists_left : VarsLeft → FormulaTree → ExistsLeft

abbrev pub put_exists_left : ExistsLeft → List Leaf → List Leaf
put_exists_left (exists_left vs f) ls = put_vars_left vs (OpenLeaf ∷ put_formula f (CloseLeaf ∷ ls))

-- behind the first term of a target
pub data TargetLeft : Type 0 where
  class_left : TermTree → TargetLeft
  frame_left : PairTrees → TargetLeft

abbrev pub put_target_left : TargetLeft → List Leaf → List Leaf
put_target_left (class_left c) ls = Hash ∷ put_term c ls
put_target_left (frame_left ps) ls = OpenSquareLeaf ∷ put_pairs ps ls

-- behind a name that begins a target
pub data TargetNameLeft : Type 0 where
  target_atom_left : TermTrees → TargetNameLeft
  target_left : TargetLeft → TargetNameLeft

abbrev pub put_target_name_left : TargetNameLeft → List Leaf → List Leaf
put_target_name_left (target_atom_left ts) ls = OpenLeaf ∷ put_terms ts ls
put_target_name_left (target_left t) ls = put_target_left t ls

-- what is retracted, and the bracket
pub data RetractedTree : Type 0 where
  retracted_target : TargetTree → RetractedTree
  retracted_slot : TermTree → TermTree → RetractedTree
  retracted_object : TermTree → RetractedTree

abbrev pub put_retracted : RetractedTree → List Leaf → List Leaf
put_retracted (retracted_target t) ls = put_target t (CloseLeaf ∷ ls)
put_retracted (retracted_slot o s) ls = put_term o (put_term s (CloseLeaf ∷ ls))
put_retracted (retracted_object o) ls = put_term o (CloseLeaf ∷ ls)

-- behind its first term
pub data RetractedLeft : Type 0 where
  object_left : RetractedLeft
  slot_left : TermTree → RetractedLeft
  retracted_left : TargetLeft → RetractedLeft

abbrev pub put_retracted_left : RetractedLeft → List Leaf → List Leaf
put_retracted_left object_left ls = CloseLeaf ∷ ls
put_retracted_left (slot_left s) ls = put_term s (CloseLeaf ∷ ls)
put_retracted_left (retracted_left t) ls = put_target_left t (CloseLeaf ∷ ls)

-- behind a name that begins it
pub data RetractedNameLeft : Type 0 where
  retracted_atom_left : TermTrees → RetractedNameLeft
  retracted_other_left : RetractedLeft → RetractedNameLeft

abbrev pub put_retracted_name_left : RetractedNameLeft → List Leaf → List Leaf
put_retracted_name_left (retracted_atom_left ts) ls = OpenLeaf ∷ put_terms ts (CloseLeaf ∷ ls)
put_retracted_name_left (retracted_other_left t) ls = put_retracted_left t ls

-- Action* ')'
pub data ActionsLeft : Type 0 where
  no_actions : ActionsLeft
  some_actions : ActionTrees → ActionsLeft

abbrev pub put_actions_left : ActionsLeft → List Leaf → List Leaf
put_actions_left no_actions ls = CloseLeaf ∷ ls
put_actions_left (some_actions a) ls = put_actions a ls

-- behind the variable of a declaration
pub data DeclLeft : Type 0 where
  new_left : DeclLeft
  value_left : TermTree → TermTree → DeclLeft

abbrev pub put_decl_left : List ℕ → DeclLeft → List Leaf → List Leaf
put_decl_left v new_left ls = Key New ∷ OpenLeaf ∷ CloseLeaf ∷ CloseLeaf ∷ ls
put_decl_left v (value_left o s) ls =
    put_term o (OpenSquareLeaf ∷ put_term s (ArrowLeaf ∷ Var v ∷ CloseSquareLeaf ∷ CloseLeaf ∷ ls))

-- a declaration behind its bracket
pub data DeclTree : Type 0 where
  declared : List ℕ → DeclLeft → DeclTree

abbrev pub put_decl : DeclTree → List Leaf → List Leaf
put_decl (declared v d) ls = Var v ∷ put_decl_left v d ls

-- behind a first formula of `such that`
pub data SuchLeft : Type 0 where
  inner_left : RuleTree → SuchLeft
  such_left : SuchTrees → RuleTree → SuchLeft

abbrev pub put_such_left : SuchLeft → List Leaf → List Leaf
put_such_left (inner_left r) ls = OpenLeaf ∷ put_rule r (CloseLeaf ∷ ls)
put_such_left (such_left fs r) ls = put_such fs (put_rule r (CloseLeaf ∷ ls))

-- the same behind a bracket
pub data BracketLeft : Type 0 where
  rule_in_bracket : RuleTree → BracketLeft
  formula_in_bracket : FormulaTree → SuchLeft → BracketLeft

abbrev pub put_bracket_left : BracketLeft → List Leaf → List Leaf
put_bracket_left (rule_in_bracket r) ls = put_rule r (CloseLeaf ∷ ls)
put_bracket_left (formula_in_bracket f behind) ls = put_formula f (CloseLeaf ∷ put_such_left behind ls)

-- behind a first variable of `Forall`
pub data ForallLeft : Type 0 where
  forall_left : VarsLeft → RuleTree → ForallLeft
  forall_such_left : VarsLeft → SuchTrees → RuleTree → ForallLeft

abbrev pub put_forall_left : ForallLeft → List Leaf → List Leaf
put_forall_left (forall_left vs r) ls = put_vars_left vs (OpenLeaf ∷ put_rule r (CloseLeaf ∷ ls))
put_forall_left (forall_such_left vs fs r) ls =
    put_vars_left vs (Key Such ∷ Key ThatKey ∷ put_such fs (put_rule r (CloseLeaf ∷ ls)))

-- behind a group's strategy
pub data PriorityLeft : Type 0 where
  priority_left : PriorityTree → MemberTrees → PriorityLeft

abbrev pub put_priority_left : PriorityLeft → List Leaf → List Leaf
put_priority_left (priority_left p ms) ls = put_priority p (OpenLeaf ∷ put_members ms ls)

abbrev pub Piece : Want → Type 0
Piece Document = DocumentTree
Piece Prefixes = PrefixTrees
Piece PrefixName = List ℕ
Piece PrefixIri = List ℕ
Piece GroupHead = GroupTree
Piece GroupPriority = PriorityLeft
Piece Members = MemberTrees
Piece Rule = RuleTree
Piece Variable = List ℕ
Piece ForallRest = ForallLeft
Piece SuchRest = SuchLeft
Piece SuchBracket = BracketLeft
Piece Block = BlockTree
Piece Actions = ActionsLeft
Piece DeclVariable = DeclTree
Piece (DeclRest v) = DeclLeft
Piece (SameVariable v) = Unit {0}
Piece Target = TargetTree
Piece TargetTail = TargetLeft
Piece TargetAfterName = TargetNameLeft
Piece Retracted = RetractedTree
Piece RetractedTail = RetractedLeft
Piece RetractedAfterName = RetractedNameLeft
Piece Formula = FormulaTree
Piece Formulas = FormulaTrees
Piece ExistsRest = ExistsLeft
Piece BuiltinOfFormula = BuiltinLeft
Piece Tail = TailTree
Piece AfterName = NameLeft
Piece Term = TermTree
Piece Terms = TermTrees
Piece FuncName = FuncTree
Piece Pairs = PairsLeft
Piece TypeName = Bool
Piece Open = Unit {0}
Piece Close = Unit {0}
Piece OpenSquare = Unit {0}
Piece CloseSquare = Unit {0}
Piece Arrow = Unit {0}
Piece Carets = Unit {0}
Piece That = Unit {0}
Piece Then = Unit {0}
Piece Do = Unit {0}

-- a piece and what is behind it
abbrev pub put_piece : (w : Want) → Piece w → List Leaf → List Leaf
put_piece Document t ls = put_document t ls
put_piece Prefixes ps ls = put_prefixes ps ls
put_piece PrefixName t ls = Word t ∷ ls
put_piece PrefixIri t ls = Iri t ∷ ls
put_piece GroupHead g ls = put_group g ls
put_piece GroupPriority p ls = put_priority_left p ls
put_piece Members ms ls = put_members ms ls
put_piece Rule r ls = put_rule r ls
put_piece Variable v ls = Var v ∷ ls
put_piece ForallRest x ls = put_forall_left x ls
put_piece SuchRest x ls = put_such_left x ls
put_piece SuchBracket x ls = put_bracket_left x ls
put_piece Block b ls = put_block b ls
put_piece Actions a ls = put_actions_left a ls
put_piece DeclVariable d ls = put_decl d ls
put_piece (DeclRest v) d ls = put_decl_left v d ls
put_piece (SameVariable v) x ls = Var v ∷ ls
put_piece Target t ls = put_target t ls
put_piece TargetTail x ls = put_target_left x ls
put_piece TargetAfterName x ls = put_target_name_left x ls
put_piece Retracted t ls = put_retracted t ls
put_piece RetractedTail x ls = put_retracted_left x ls
put_piece RetractedAfterName x ls = put_retracted_name_left x ls
put_piece Formula f ls = put_formula f ls
put_piece Formulas fs ls = put_formulas fs ls
put_piece ExistsRest x ls = put_exists_left x ls
put_piece BuiltinOfFormula x ls = put_builtin_left x ls
put_piece Tail t ls = put_tail t ls
put_piece AfterName x ls = put_name_left x ls
put_piece Term t ls = put_term t ls
put_piece Terms ts ls = put_terms ts ls
put_piece FuncName f ls = func_leaf f ∷ ls
put_piece Pairs ps ls = put_pairs_left ps ls
put_piece TypeName known ls = TypeLeaf known ∷ ls
put_piece Open x ls = OpenLeaf ∷ ls
put_piece Close x ls = CloseLeaf ∷ ls
put_piece OpenSquare x ls = OpenSquareLeaf ∷ ls
put_piece CloseSquare x ls = CloseSquareLeaf ∷ ls
put_piece Arrow x ls = ArrowLeaf ∷ ls
put_piece Carets x ls = CaretsLeaf ∷ ls
put_piece That x ls = Key ThatKey ∷ ls
put_piece Then x ls = Key ThenKey ∷ ls
put_piece Do x ls = Key DoKey ∷ ls

abbrev pub Pieces : List Want → Type 0
Pieces [] = Unit {0}
Pieces (w ∷ ws) = Piece w × Pieces ws

abbrev pub put_all : (ws : List Want) → Pieces ws → List Leaf
put_all [] xs = []
put_all (w ∷ ws) xs = put_piece w xs.0 (put_all ws xs.1)

abbrev pub Begun : List Want → Want → List Leaf → Type 0
Begun ws w ls = (x : Piece w) × (xs : Pieces ws) × (put_piece w x (put_all ws xs) ≡ ls)

abbrev pub Builds : Option (List Want) → Want → Leaf → Type 0
Builds None w l = Unit {0}
Builds (Some more) w l = (ws : List Want) (xs : Pieces (more ++ ws)) → Begun ws w (l ∷ put_all (more ++ ws) xs)

-- a piece of one want and pieces of some others are a piece of the last want
abbrev pub Joins : Want → List Want → Want → Type 0
Joins v others w = (x : Piece v) (ws : List Want) (xs : Pieces (others ++ ws)) →
    Begun ws w (put_piece v x (put_all (others ++ ws) xs))

-- a name and a piece of what comes behind it are a piece
abbrev pub JoinsName : Want → Want → Type 0
JoinsName v w = (n : NameTree) (ws : List Want) (xs : Pieces (v ∷ ws)) →
    Begun ws w (put_name n (put_all (v ∷ ws) xs))

-- some wants, others and all behind them, in two groups of one kind or the other
regrouped : (more others ws : List Want) (xs : Pieces ((more ++ others) ++ ws)) →
    (ys : Pieces (more ++ (others ++ ws)))
    × (put_all (more ++ (others ++ ws)) ys ≡ put_all ((more ++ others) ++ ws) xs)
regrouped [] others ws xs = (xs, refl)
regrouped (w ∷ more) others ws xs =
    let behind = regrouped more others ws xs.1 in ((xs.0, behind.0), ap (λ r. put_piece w xs.0 r) behind.1)

-- what begins a want begins another that the first begins
pub with_others : (m : Option (List Want)) (others : List Want) (v w : Want) (l : Leaf) →
    Builds m v l → Joins v others w → Builds (followed m others) w l
with_others None others v w l builds joins = tt
with_others (Some more) others v w l builds joins = λ ws xs.
    let parts = regrouped more others ws xs in
    let first = builds (others ++ ws) parts.0 in
    let whole = joins first.0 ws first.1 in
    (whole.0, whole.1, whole.2 ∙ (first.2 ∙ ap (λ r. l ∷ r) parts.1))

-- what begins a want begins another that each piece of the first is a piece of
pub as_other : (m : Option (List Want)) (v w : Want) (l : Leaf) → Builds m v l → Joins v [] w → Builds m w l
as_other None v w l builds joins = tt
as_other (Some more) v w l builds joins = λ ws xs.
    let first = builds ws xs in
    let whole = joins first.0 ws first.1 in
    (whole.0, whole.1, whole.2 ∙ first.2)
