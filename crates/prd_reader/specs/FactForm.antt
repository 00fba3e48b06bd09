-- Constants, facts and numbers as the lines of a script have them.
--     IsConstForm ls c        the leaves spell this constant, and nothing refuses one of them
--     IsConstsForm ls c d     the leaves spell these two, one behind the other
--     IsFactForm ls fact      the leaves spell this fact: a target without variables and `External`, a frame with one
--                             pair
--     IsNumberForm ls n       the leaves are one integer, which is this number
-- Source: the project's own (docs/FORMATS.md, "Jobs").
use Rattle.std.specs.Prelude.{◌≡◌, ℕ, pos, ◌||◌, Bool, true, false, List, [], ◌∷◌, ◌++◌, Some}
use Rattle.std.specs.List.{list_any}
use Rattle.rif_values.specs.declared.constant.Const.{Const}
use Rattle.rif_values.specs.declared.fact.Fact.{Fact}
use Rattle.rif_values.specs.declared.fact.Fact.TheVariants.{Atom, Frame, Member}
use Rattle.prd_grammar.specs.declared.leaf.Literal.TheVariants.{OfNoType}
use Rattle.prd_grammar.specs.declared.leaf.Leaf.{Leaf}
use Rattle.prd_grammar.specs.declared.leaf.Leaf.TheVariants.{Int, Typed}
use Rattle.prd_grammar.specs.Refusals.{is_refused_type, is_undeclared, is_wide}
use Rattle.prd_grammar.specs.Trees.{ConstTree, spell_const, NameTree, TermTrees, no_terms, terms, constant, last_pair}
use Rattle.prd_grammar.specs.Trees.{TargetTree, target_member, target_frame, target_atom, spell_target}
use Rattle.prd_grammar.specs.Values.{const_value, name_value}

-- the string of a typed literal whose type is refused itself
abbrev pub is_of_no_type : Leaf → Bool
is_of_no_type (Typed OfNoType) = true
is_of_no_type _ = false

-- a leaf that is refused wherever it stands: the type of a typed literal that is none of the five, and the string
-- before it; an integer out of range; a CURIE whose prefix isn't declared
abbrev pub is_refused : Leaf → Bool
is_refused l = is_refused_type l || (is_of_no_type l || (is_wide l || is_undeclared l))

abbrev pub HasNoRefusal : List Leaf → Type 0
HasNoRefusal ls = list_any is_refused ls ≡ false

pub record IsConstForm (ls : List Leaf) (c : Const) : Type 0 where
  pub tree : ConstTree
  pub spelled : spell_const tree ≡ ls
  pub clear : HasNoRefusal ls
  pub value : const_value tree ≡ c

pub record IsConstsForm (ls : List Leaf) (c d : Const) : Type 0 where
  pub first : ConstTree
  pub second : ConstTree
  pub spelled : spell_const first ++ spell_const second ≡ ls
  pub clear : HasNoRefusal ls
  pub first_value : const_value first ≡ c
  pub second_value : const_value second ≡ d

-- Const* ')'
pub data ConstTrees : Type 0 where
  no_consts : ConstTrees
  consts : ConstTree → ConstTrees → ConstTrees

abbrev pub terms_of_consts : ConstTrees → TermTrees
terms_of_consts no_consts = no_terms
terms_of_consts (consts c cs) = terms (constant c) (terms_of_consts cs)

abbrev pub consts_value : ConstTrees → List Const
consts_value no_consts = []
consts_value (consts c cs) = const_value c ∷ consts_value cs

-- Fact = Const '#' Const | Const '[' Const '->' Const ']' | Name '(' Const* ')'
pub data FactTree : Type 0 where
  fact_member : ConstTree → ConstTree → FactTree
  fact_frame : ConstTree → ConstTree → ConstTree → FactTree
  fact_atom : NameTree → ConstTrees → FactTree

-- each is a target
abbrev pub target_of_fact : FactTree → TargetTree
target_of_fact (fact_member o c) = target_member (constant o) (constant c)
target_of_fact (fact_frame o s v) = target_frame (constant o) (last_pair (constant s) (constant v))
target_of_fact (fact_atom n cs) = target_atom n (terms_of_consts cs)

abbrev pub spell_fact : FactTree → List Leaf
spell_fact t = spell_target (target_of_fact t)

abbrev pub fact_value : FactTree → Fact
fact_value (fact_member o c) = Member (const_value o) (const_value c)
fact_value (fact_frame o s v) = Frame (const_value o) (const_value s) (const_value v)
fact_value (fact_atom n cs) = Atom (name_value n) (consts_value cs)

pub record IsFactForm (ls : List Leaf) (fact : Fact) : Type 0 where
  pub tree : FactTree
  pub spelled : spell_fact tree ≡ ls
  pub clear : HasNoRefusal ls
  pub value : fact_value tree ≡ fact

abbrev pub IsNumberForm : List Leaf → ℕ → Type 0
IsNumberForm ls n = ls ≡ Int (Some (pos n)) ∷ []
