-- Which constants and terms can be written so that they are read back. No public clause cites this module.
use Rattle.std.specs.Prelude.{◌≡◌, ◌<◌, ◌^◌, ℕ, ℤ, pos, true, List, [], ◌∷◌, ◌++◌, get_or, Some, IsUtf8}
use Rattle.std.specs.Fmt.{signed_decimal}
use lib.Signed.{mag}
use Rattle.std.specs.List.{AllByRecursion}
use Rattle.rif_values.specs.declared.constant.Const.{Const}
use Rattle.rif_values.specs.declared.constant.Const.TheVariants.{Int, Bool, Str, Iri, Local, Fresh}
use Rattle.rif_lex.specs.declared.token.Kind.TheVariants.{Word}
use Rattle.rif_lex.specs.Characters.{is_inside_iri}
use Rattle.rif_lex.specs.Forms.{AreNames}
use Rattle.rif_lex.specs.Spelling.{Gap, gap_text, Spelled, spelled_text, ends_before}
use Rattle.prd_leaves.specs.Literals.{integer_of}
use Rattle.prd_grammar.specs.Trees.{NameTree, TermTree, constant, variable, call, TermTrees, no_terms, terms}
use Rattle.prd_grammar.specs.Trees.{PairTrees, last_pair, pairs, Tail, equals, member_of, with_pairs, Vars, one_var}
use Rattle.prd_grammar.specs.Trees.{more_vars, term_of_first, FormulaTree, conj, disj, neg, some, grouped, holds}
use Rattle.prd_grammar.specs.Trees.{compared, atom, FormulaTrees, no_formulas, formulas, TargetTree, target_member}
use Rattle.prd_grammar.specs.Trees.{target_frame, target_atom, ActionTree, assert, retract, retract_slot}
use Rattle.prd_grammar.specs.Trees.{retract_object, modify, ActionTrees, last_action, actions, BlockTree, acts}
use Rattle.prd_grammar.specs.Trees.{new_object, slot_value, SuchTrees, last_such, more_such, RuleTree, for_all}
use Rattle.prd_grammar.specs.Trees.{for_all_such, if_then, block, GroupTree, group, MemberTrees, no_members}
use Rattle.prd_grammar.specs.Trees.{rule_member, group_member, PrefixTrees, no_group, one_group, prefix, DocumentTree}
use Rattle.prd_grammar.specs.Trees.{document}
use Rattle.prd_grammar.specs.Values.{const_value, name_value, place_of, rule_names, priority_in}

-- any token that may end a term ends where the gap and the rest follow
abbrev pub Ends : Gap → List Spelled → Type 0
Ends gap rest = ends_before Word (gap_text gap ++ spelled_text rest) ≡ true

-- name characters, of which there is one at least
abbrev pub HasNames : List ℕ → Type 0
HasNames [] = ⊥
HasNames (b ∷ bs) = AreNames (b ∷ bs) []

-- a text that may stand behind a name's sign
pub record IsNameText (t : List ℕ) : Type 0 where
  pub names : HasNames t
  pub utf8 : IsUtf8 t

-- a text that may stand between `<` and `>`
pub record IsIriText (t : List ℕ) : Type 0 where
  pub inside : AllByRecursion (λ b. is_inside_iri b ≡ true) t
  pub utf8 : IsUtf8 t

-- an integer of documents, which its text stands for
pub record IsWritableInt (z : ℤ) : Type 0 where
  pub small : mag z < 2 ^ 127
  pub read_back : integer_of (signed_decimal z) ≡ Some z

abbrev pub IsWritableConst : Const → Type 0
IsWritableConst (Int z) = IsWritableInt z
IsWritableConst (Bool b) = Unit {0}
IsWritableConst (Str t) = IsUtf8 t
IsWritableConst (Iri t) = IsIriText t
IsWritableConst (Local t) = IsNameText t
IsWritableConst (Fresh k) = ⊥

-- a variable has a name at its place
abbrev pub IsWritableVar : List (List ℕ) → List ℕ → Type 0
IsWritableVar names v = IsNameText (get_or names (place_of names v) [])

abbrev mutual
  pub IsWritableTerm : List (List ℕ) → TermTree → Type 0
  IsWritableTerm names (constant c) = IsWritableConst (const_value c)
  IsWritableTerm names (variable v) = IsWritableVar names v
  IsWritableTerm names (call f ts) = AreWritableTerms names ts

  pub AreWritableTerms : List (List ℕ) → TermTrees → Type 0
  AreWritableTerms names no_terms = Unit {0}
  AreWritableTerms names (terms t ts) = IsWritableTerm names t × AreWritableTerms names ts

abbrev pub AreWritablePairs : List (List ℕ) → PairTrees → Type 0
AreWritablePairs names (last_pair s v) = IsWritableTerm names s × IsWritableTerm names v
AreWritablePairs names (pairs s v ps) = IsWritableTerm names s × (IsWritableTerm names v × AreWritablePairs names ps)

abbrev pub IsWritableName : NameTree → Type 0
IsWritableName n = IsWritableConst (name_value n)

abbrev pub IsWritableTail : List (List ℕ) → Tail → Type 0
IsWritableTail names (equals t) = IsWritableTerm names t
IsWritableTail names (member_of t) = IsWritableTerm names t
IsWritableTail names (with_pairs ps) = AreWritablePairs names ps

abbrev pub AreWritableVars : List (List ℕ) → Vars → Type 0
AreWritableVars names (one_var v) = IsWritableVar names v
AreWritableVars names (more_vars v vs) = IsWritableVar names v × AreWritableVars names vs

abbrev mutual
  pub IsWritableFormula : List (List ℕ) → FormulaTree → Type 0
  IsWritableFormula names (conj fs) = AreWritableFormulas names fs
  IsWritableFormula names (disj fs) = AreWritableFormulas names fs
  IsWritableFormula names (neg w f) = IsWritableFormula names f
  IsWritableFormula names (some vs f) = AreWritableVars names vs × IsWritableFormula names f
  IsWritableFormula names (grouped f) = IsWritableFormula names f
  IsWritableFormula names (holds p ts) = AreWritableTerms names ts
  IsWritableFormula names (compared t tail) = IsWritableTerm names (term_of_first t) × IsWritableTail names tail
  IsWritableFormula names (atom n ts) = IsWritableName n × AreWritableTerms names ts

  pub AreWritableFormulas : List (List ℕ) → FormulaTrees → Type 0
  AreWritableFormulas names no_formulas = Unit {0}
  AreWritableFormulas names (formulas f fs) = IsWritableFormula names f × AreWritableFormulas names fs

abbrev pub IsWritableTarget : List (List ℕ) → TargetTree → Type 0
IsWritableTarget names (target_member o c) = IsWritableTerm names o × IsWritableTerm names c
IsWritableTarget names (target_frame o ps) = IsWritableTerm names o × AreWritablePairs names ps
IsWritableTarget names (target_atom n ts) = IsWritableName n × AreWritableTerms names ts

abbrev pub IsWritableAction : List (List ℕ) → ActionTree → Type 0
IsWritableAction names (assert t) = IsWritableTarget names t
IsWritableAction names (retract t) = IsWritableTarget names t
IsWritableAction names (retract_slot o s) = IsWritableTerm names o × IsWritableTerm names s
IsWritableAction names (retract_object o) = IsWritableTerm names o
IsWritableAction names (modify o ps) = IsWritableTerm names o × AreWritablePairs names ps

abbrev pub AreWritableActions : List (List ℕ) → ActionTrees → Type 0
AreWritableActions names (last_action a) = IsWritableAction names a
AreWritableActions names (actions a more) = IsWritableAction names a × AreWritableActions names more

abbrev pub IsWritableBlock : List (List ℕ) → BlockTree → Type 0
IsWritableBlock names (acts a) = AreWritableActions names a
IsWritableBlock names (new_object v b) = IsWritableVar names v × IsWritableBlock names b
IsWritableBlock names (slot_value v o s b) =
    IsWritableVar names v × (IsWritableTerm names o × (IsWritableTerm names s × IsWritableBlock names b))

abbrev pub AreWritableSuch : List (List ℕ) → SuchTrees → Type 0
AreWritableSuch names (last_such f) = IsWritableFormula names f
AreWritableSuch names (more_such f fs) = IsWritableFormula names f × AreWritableSuch names fs

abbrev pub IsWritableRule : List (List ℕ) → RuleTree → Type 0
IsWritableRule names (for_all vs r) = AreWritableVars names vs × IsWritableRule names r
IsWritableRule names (for_all_such vs fs r) =
    AreWritableVars names vs × (AreWritableSuch names fs × IsWritableRule names r)
IsWritableRule names (if_then f b) = IsWritableFormula names f × IsWritableBlock names b
IsWritableRule names (block b) = IsWritableBlock names b

-- each rule with the priority that it has
abbrev mutual
  pub IsWritableGroup : ℤ → GroupTree → Type 0
  IsWritableGroup p (group s q ms) = AreWritableMembers (priority_in p q) ms

  pub AreWritableMembers : ℤ → MemberTrees → Type 0
  AreWritableMembers p no_members = Unit {0}
  AreWritableMembers p (rule_member r ms) =
      IsWritableInt p × (IsWritableRule (rule_names r) r × AreWritableMembers p ms)
  AreWritableMembers p (group_member g ms) = IsWritableGroup p g × AreWritableMembers p ms

abbrev pub AreWritablePrefixes : PrefixTrees → Type 0
AreWritablePrefixes no_group = Unit {0}
AreWritablePrefixes (one_group g) = IsWritableGroup (pos 0) g
AreWritablePrefixes (prefix name iri ps) = AreWritablePrefixes ps

-- what the tree stands for can be written
abbrev pub IsWritableDocument : DocumentTree → Type 0
IsWritableDocument (document ps) = AreWritablePrefixes ps
