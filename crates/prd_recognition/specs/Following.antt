-- What has still to come, as leaves are read from the left: the state of the code.
--     next w l      what comes in place of a want, behind a leaf; nothing where the leaf can't come
--     after ws ls   what has still to come behind some leaves
use Rattle.std.specs.Prelude.{◌≡◌, ℕ, if◌then◌else◌, List, [], ◌∷◌, ◌++◌, Option, Some, None, bytes_eq}
use Rattle.prd_grammar.specs.declared.leaf.Keyword.TheVariants.{Document as DocumentKey, Prefix, Group, Forall, Such}
use Rattle.prd_grammar.specs.declared.leaf.Keyword.TheVariants.{That as ThatKey, If, Then as ThenKey, Do as DoKey}
use Rattle.prd_grammar.specs.declared.leaf.Keyword.TheVariants.{New}
use Rattle.prd_grammar.specs.declared.leaf.Keyword.TheVariants.{Assert, Retract, Modify, And, Or, Not, INeg, Exists}
use Rattle.prd_grammar.specs.declared.leaf.Keyword.TheVariants.{External, True, False}
use Rattle.prd_grammar.specs.declared.leaf.Builtin.TheVariants.{Func as FuncBuiltin, Pred as PredBuiltin}
use Rattle.prd_grammar.specs.declared.leaf.BuiltinName.TheVariants.{Known, Unknown, Undeclared}
use Rattle.prd_grammar.specs.declared.leaf.Literal.TheVariants.{Iri as IriLiteral, Local as LocalLiteral}
use Rattle.prd_grammar.specs.declared.leaf.Leaf.{Leaf}
use Rattle.prd_grammar.specs.declared.leaf.Leaf.TheVariants.{Key, Word, Int, Str, Typed, TypeName as TypeLeaf, Iri}
use Rattle.prd_grammar.specs.declared.leaf.Leaf.TheVariants.{Curie, Builtin, Local, Var, Open as OpenLeaf}
use Rattle.prd_grammar.specs.declared.leaf.Leaf.TheVariants.{Close as CloseLeaf, OpenSquare as OpenSquareLeaf}
use Rattle.prd_grammar.specs.declared.leaf.Leaf.TheVariants.{CloseSquare as CloseSquareLeaf, Equal, Hash}
use Rattle.prd_grammar.specs.declared.leaf.Leaf.TheVariants.{Arrow as ArrowLeaf, Carets as CaretsLeaf}
use Rattle.prd_recognition.specs.declared.want.Want.{Want}
use Rattle.prd_recognition.specs.declared.want.Want.TheVariants.{Document, Prefixes, PrefixName, PrefixIri, GroupHead}
use Rattle.prd_recognition.specs.declared.want.Want.TheVariants.{GroupPriority, Members, Rule, Variable, ForallRest}
use Rattle.prd_recognition.specs.declared.want.Want.TheVariants.{SuchRest, SuchBracket, Block, Actions, DeclVariable}
use Rattle.prd_recognition.specs.declared.want.Want.TheVariants.{DeclRest, SameVariable, Target, TargetTail}
use Rattle.prd_recognition.specs.declared.want.Want.TheVariants.{TargetAfterName, Retracted, RetractedTail}
use Rattle.prd_recognition.specs.declared.want.Want.TheVariants.{RetractedAfterName, Formula, Formulas, ExistsRest}
use Rattle.prd_recognition.specs.declared.want.Want.TheVariants.{BuiltinOfFormula, Tail, AfterName, Term, Terms}
use Rattle.prd_recognition.specs.declared.want.Want.TheVariants.{FuncName}
use Rattle.prd_recognition.specs.declared.want.Want.TheVariants.{Pairs, TypeName, Open, Close, OpenSquare}
use Rattle.prd_recognition.specs.declared.want.Want.TheVariants.{CloseSquare}
use Rattle.prd_recognition.specs.declared.want.Want.TheVariants.{Arrow, Carets, That, Then, Do}
use Rattle.prd_grammar.specs.Refusals.{IsDocument}
use Rattle.prd_grammar.specs.Trees.{DocumentTree, spell_document}

-- with what comes behind
abbrev pub followed : Option (List Want) → List Want → Option (List Want)
followed None ws = None
followed (Some more) ws = Some (more ++ ws)

abbrev pub term_next : Leaf → Option (List Want)
term_next (Key True) = Some []
term_next (Key False) = Some []
term_next (Key External) = Some (Open ∷ FuncName ∷ Open ∷ Terms ∷ Close ∷ [])
term_next (Int z) = Some []
term_next (Str t) = Some []
term_next (Typed literal) = Some (Carets ∷ TypeName ∷ [])
term_next (Iri t) = Some []
term_next (Curie t) = Some []
term_next (Local t) = Some []
term_next (Var v) = Some []
term_next _ = None

-- where a term or a name begins something, this comes behind it: the first where it is a name, else the other
abbrev pub named_next : Want → Want → Leaf → Option (List Want)
named_next name other (Iri t) = Some (name ∷ [])
named_next name other (Curie t) = Some (name ∷ [])
named_next name other (Local t) = Some (name ∷ [])
named_next name other (Typed (IriLiteral t)) = Some (Carets ∷ TypeName ∷ name ∷ [])
named_next name other (Typed (LocalLiteral t)) = Some (Carets ∷ TypeName ∷ name ∷ [])
named_next name other l = followed (term_next l) (other ∷ [])

abbrev pub pairs_next : List Want
pairs_next = Term ∷ Arrow ∷ Term ∷ Pairs ∷ []

abbrev pub tail_next : Leaf → Option (List Want)
tail_next Equal = Some (Term ∷ [])
tail_next Hash = Some (Term ∷ [])
tail_next OpenSquareLeaf = Some pairs_next
tail_next _ = None

abbrev pub target_tail_next : Leaf → Option (List Want)
target_tail_next Hash = Some (Term ∷ [])
target_tail_next OpenSquareLeaf = Some pairs_next
target_tail_next _ = None

abbrev pub retracted_tail_next : Leaf → Option (List Want)
retracted_tail_next CloseLeaf = Some []
retracted_tail_next Hash = Some (Term ∷ Close ∷ [])
retracted_tail_next OpenSquareLeaf = Some (Term ∷ Arrow ∷ Term ∷ Pairs ∷ Close ∷ [])
retracted_tail_next l = followed (term_next l) (Close ∷ [])

abbrev pub formula_next : Leaf → Option (List Want)
formula_next (Key And) = Some (Open ∷ Formulas ∷ [])
formula_next (Key Or) = Some (Open ∷ Formulas ∷ [])
formula_next (Key Not) = Some (Open ∷ Formula ∷ Close ∷ [])
formula_next (Key INeg) = Some (Open ∷ Formula ∷ Close ∷ [])
formula_next (Key Exists) = Some (Variable ∷ ExistsRest ∷ [])
formula_next (Key External) = Some (Open ∷ BuiltinOfFormula ∷ [])
formula_next OpenLeaf = Some (Formula ∷ Close ∷ [])
formula_next l = named_next AfterName Tail l

abbrev pub builtin_next : Leaf → Option (List Want)
builtin_next (Builtin (Known (FuncBuiltin f))) = Some (Open ∷ Terms ∷ Close ∷ Tail ∷ [])
builtin_next (Builtin (Known (PredBuiltin p))) = Some (Open ∷ Terms ∷ Close ∷ [])
builtin_next (Builtin Unknown) = Some (Open ∷ Terms ∷ Close ∷ [])
builtin_next (Builtin Undeclared) = Some (Open ∷ Terms ∷ Close ∷ [])
builtin_next _ = None

abbrev pub func_next : Leaf → Option (List Want)
func_next (Builtin (Known (FuncBuiltin f))) = Some []
func_next (Builtin Unknown) = Some []
func_next (Builtin Undeclared) = Some []
func_next _ = None

abbrev pub action_next : Leaf → Option (List Want)
action_next (Key Assert) = Some (Open ∷ Target ∷ Close ∷ [])
action_next (Key Retract) = Some (Open ∷ Retracted ∷ [])
action_next (Key Modify) = Some (Open ∷ Term ∷ OpenSquare ∷ Term ∷ Arrow ∷ Term ∷ Pairs ∷ Close ∷ [])
action_next _ = None

abbrev pub rule_next : Leaf → Option (List Want)
rule_next (Key Forall) = Some (Variable ∷ ForallRest ∷ [])
rule_next (Key If) = Some (Formula ∷ Then ∷ Do ∷ Open ∷ Block ∷ [])
rule_next (Key DoKey) = Some (Open ∷ Block ∷ [])
rule_next _ = None

-- behind a bracket in the list of `such that`: the inner rule, or a formula
abbrev pub such_next : Leaf → Option (List Want)
such_next (Key Forall) = followed (rule_next (Key Forall)) (Close ∷ [])
such_next (Key If) = followed (rule_next (Key If)) (Close ∷ [])
such_next (Key DoKey) = followed (rule_next (Key DoKey)) (Close ∷ [])
such_next l = followed (formula_next l) (Close ∷ SuchRest ∷ [])

abbrev pub decl_next : List ℕ → Leaf → Option (List Want)
decl_next v (Key New) = Some (Open ∷ Close ∷ Close ∷ [])
decl_next v l = followed (term_next l) (OpenSquare ∷ Term ∷ Arrow ∷ SameVariable v ∷ CloseSquare ∷ Close ∷ [])

abbrev pub same_next : List ℕ → Leaf → Option (List Want)
same_next v (Var u) = if bytes_eq u v then Some [] else None
same_next v _ = None

abbrev pub next : Want → Leaf → Option (List Want)
next Document (Key DocumentKey) = Some (Open ∷ Prefixes ∷ [])
next Document _ = None
next Prefixes CloseLeaf = Some []
next Prefixes (Key Prefix) = Some (Open ∷ PrefixName ∷ PrefixIri ∷ Close ∷ Prefixes ∷ [])
next Prefixes (Key Group) = Some (GroupHead ∷ Close ∷ [])
next Prefixes _ = None
next PrefixName (Word t) = Some []
next PrefixName _ = None
next PrefixIri (Iri t) = Some []
next PrefixIri _ = None
next GroupHead (Iri t) = Some (GroupPriority ∷ [])
next GroupHead (Curie t) = Some (GroupPriority ∷ [])
next GroupHead (Int z) = Some (Open ∷ Members ∷ [])
next GroupHead OpenLeaf = Some (Members ∷ [])
next GroupHead _ = None
next GroupPriority (Int z) = Some (Open ∷ Members ∷ [])
next GroupPriority OpenLeaf = Some (Members ∷ [])
next GroupPriority _ = None
next Members CloseLeaf = Some []
next Members (Key Group) = Some (GroupHead ∷ Members ∷ [])
next Members l = followed (rule_next l) (Members ∷ [])
next Rule l = rule_next l
next Variable (Var v) = Some []
next Variable _ = None
next ForallRest (Var v) = Some (ForallRest ∷ [])
next ForallRest OpenLeaf = Some (Rule ∷ Close ∷ [])
next ForallRest (Key Such) = Some (That ∷ Formula ∷ SuchRest ∷ [])
next ForallRest _ = None
next SuchRest OpenLeaf = Some (SuchBracket ∷ [])
next SuchRest l = followed (formula_next l) (SuchRest ∷ [])
next SuchBracket l = such_next l
next Block OpenLeaf = Some (DeclVariable ∷ Block ∷ [])
next Block l = followed (action_next l) (Actions ∷ [])
next Actions CloseLeaf = Some []
next Actions l = followed (action_next l) (Actions ∷ [])
next DeclVariable (Var v) = Some (DeclRest v ∷ [])
next DeclVariable _ = None
next (DeclRest v) l = decl_next v l
next (SameVariable v) l = same_next v l
next Target l = named_next TargetAfterName TargetTail l
next TargetTail l = target_tail_next l
next TargetAfterName OpenLeaf = Some (Terms ∷ [])
next TargetAfterName l = target_tail_next l
next Retracted l = named_next RetractedAfterName RetractedTail l
next RetractedTail l = retracted_tail_next l
next RetractedAfterName OpenLeaf = Some (Terms ∷ Close ∷ [])
next RetractedAfterName l = retracted_tail_next l
next Formula l = formula_next l
next Formulas CloseLeaf = Some []
next Formulas l = followed (formula_next l) (Formulas ∷ [])
next ExistsRest (Var v) = Some (ExistsRest ∷ [])
next ExistsRest OpenLeaf = Some (Formula ∷ Close ∷ [])
next ExistsRest _ = None
next BuiltinOfFormula l = builtin_next l
next Tail l = tail_next l
next AfterName OpenLeaf = Some (Terms ∷ [])
next AfterName l = tail_next l
next Term l = term_next l
next Terms CloseLeaf = Some []
next Terms l = followed (term_next l) (Terms ∷ [])
next FuncName l = func_next l
next Pairs CloseSquareLeaf = Some []
next Pairs l = followed (term_next l) (Arrow ∷ Term ∷ Pairs ∷ [])
next TypeName (TypeLeaf known) = Some []
next TypeName _ = None
next Open OpenLeaf = Some []
next Open _ = None
next Close CloseLeaf = Some []
next Close _ = None
next OpenSquare OpenSquareLeaf = Some []
next OpenSquare _ = None
next CloseSquare CloseSquareLeaf = Some []
next CloseSquare _ = None
next Arrow ArrowLeaf = Some []
next Arrow _ = None
next Carets CaretsLeaf = Some []
next Carets _ = None
next That (Key ThatKey) = Some []
next That _ = None
next Then (Key ThenKey) = Some []
next Then _ = None
next Do (Key DoKey) = Some []
next Do _ = None

abbrev pub step : Option (List Want) → Leaf → Option (List Want)
step None l = None
step (Some []) l = None
step (Some (w ∷ ws)) l = followed (next w l) ws

abbrev pub after : Option (List Want) → List Leaf → Option (List Want)
after state [] = state
after state (l ∷ ls) = after (step state l) ls

-- before a document
abbrev pub at_first : Option (List Want)
at_first = Some (Document ∷ [])

-- the documents are what may come, and each front of one has an end
pub record GrammarIsFollowed : Type 0 where
  pub goes : (t : DocumentTree) → after at_first (spell_document t) ≡ Some []
  pub comes : (ls : List Leaf) → after at_first ls ≡ Some [] → IsDocument ls
  pub ends : (ws : List Want) → (rest : List Leaf) × (after (Some ws) rest ≡ Some [])
