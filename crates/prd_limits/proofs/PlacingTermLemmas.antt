-- Each variable of a tree's value is a place among names that know the variables of its leaves.
use Rattle.std.proofs.Common.{◌≡◌, ◌≤◌, max, ℕ, suc, List, [], ◌∷◌, ◌++◌, refl, ap, ◌∙◌, sym, arith, length, map}
use Rattle.rif_tree.specs.declared.builtin.Func.{Func}
use Rattle.rif_values.specs.declared.constant.Const.{Const}
use Rattle.rif_tree.specs.declared.tree.Term.{Term}
use Rattle.rif_tree.specs.declared.tree.Term.TheVariants.{Const as ConstTerm, Var as VarTerm, Call, rolls-Const}
use Rattle.rif_tree.specs.declared.tree.Term.TheVariants.{rolls-Var, rolls-Call}
use Rattle.rif_tree.specs.declared.tree.Term.TheOpen.{Const as ConstLayer, Var as VarLayer, Call as CallLayer}
use Rattle.rif_tree.specs.declared.tree.Term.TheFolds.{fold-roll-Term}
use Rattle.prd_grammar.specs.declared.leaf.Leaf.TheVariants.{Close, CloseSquare, Arrow}
use Rattle.prd_limits.specs.Limits.{most_of, needed_in, term_needs, terms_need, pairs_need, vars_need}
use Rattle.prd_grammar.specs.Trees.{TermTree, constant, variable, call, TermTrees, no_terms, terms, spell_term}
use Rattle.prd_grammar.specs.Trees.{spell_terms, PairTrees, last_pair, pairs, spell_pairs, Vars, one_var, more_vars}
use Rattle.prd_grammar.specs.Trees.{spell_vars}
use Rattle.prd_grammar.specs.Values.{const_value, func_value, term_value, terms_value, pairs_value, vars_value}
use Rattle.prd_grammar.specs.Values.{place_of}
use Rattle.prd_grammar.proofs.CallerLemmas.{Known, known_front, known_back, place_below}

most_needed : (ts : List Term) → most_of (map term_needs ts) ≡ terms_need ts
most_needed [] = refl
most_needed (t ∷ ts) = ap (λ (n : ℕ). max (term_needs t) n) (most_needed ts)

pub const_needs : (c : Const) → term_needs (ConstTerm c) ≡ 0
const_needs c = ap term_needs (sym (rolls-Const c)) ∙ fold-roll-Term ℕ needed_in (ConstLayer c)

pub var_needs : (v : ℕ) → term_needs (VarTerm v) ≡ suc v
var_needs v = ap term_needs (sym (rolls-Var v)) ∙ fold-roll-Term ℕ needed_in (VarLayer v)

pub call_needs : (f : Func) (ts : List Term) → term_needs (Call f ts) ≡ terms_need ts
call_needs f ts = ap term_needs (sym (rolls-Call f ts))
    ∙ (fold-roll-Term ℕ needed_in (CallLayer f ts) ∙ most_needed ts)

mutual
  pub term_place : (names : List (List ℕ)) (t : TermTree) → Known names (spell_term t) →
      term_needs (term_value names t) ≤ length names
  term_place names (constant c) known = omega (arith, const_needs (const_value c))
  term_place names (variable v) known =
      omega (arith, var_needs (place_of names v), place_below names v known.0)
  term_place names (call f ts) known = omega (
    arith,
    call_needs (func_value f) (terms_value names ts),
    terms_place names ts (known_front names (spell_terms ts) (Close ∷ []) known.1.1.1.1),
  )

  pub terms_place : (names : List (List ℕ)) (ts : TermTrees) → Known names (spell_terms ts) →
      terms_need (terms_value names ts) ≤ length names
  terms_place names no_terms known = omega arith
  terms_place names (terms t ts) known = omega (
    arith,
    term_place names t (known_front names (spell_term t) (spell_terms ts) known),
    terms_place names ts (known_back names (spell_term t) (spell_terms ts) known),
  )

pub pairs_place : (names : List (List ℕ)) (ps : PairTrees) → Known names (spell_pairs ps) →
    pairs_need (pairs_value names ps) ≤ length names
pairs_place names (last_pair s v) known =
    let rest = (known_back names (spell_term s) (Arrow ∷ (spell_term v ++ CloseSquare ∷ [])) known).1 in
    omega (
      arith,
      term_place names s (known_front names (spell_term s) _ known),
      term_place names v (known_front names (spell_term v) (CloseSquare ∷ []) rest),
    )
pairs_place names (pairs s v ps) known =
    let rest = (known_back names (spell_term s) (Arrow ∷ (spell_term v ++ spell_pairs ps)) known).1 in
    omega (
      arith,
      term_place names s (known_front names (spell_term s) _ known),
      term_place names v (known_front names (spell_term v) (spell_pairs ps) rest),
      pairs_place names ps (known_back names (spell_term v) (spell_pairs ps) rest),
    )

pub vars_place : (names : List (List ℕ)) (vs : Vars) → Known names (spell_vars vs) →
    vars_need (vars_value names vs) ≤ length names
vars_place names (one_var v) known = omega (arith, place_below names v known.0)
vars_place names (more_vars v vs) known =
    omega (arith, place_below names v known.0, vars_place names vs known.1)
