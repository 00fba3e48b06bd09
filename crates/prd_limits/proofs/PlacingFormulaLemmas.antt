-- Each variable of a formula's value is a place among names that know the variables of its leaves.
use Rattle.std.proofs.Common.{◌≡◌, ◌≤◌, max, ℕ, List, [], ◌∷◌, ◌++◌, refl, ap, ◌∙◌, sym, arith, length, map}
use Rattle.rif_tree.specs.declared.builtin.Pred.{Pred}
use Rattle.rif_values.specs.declared.constant.Const.{Const}
use Rattle.rif_tree.specs.declared.tree.Term.{Term}
use Rattle.rif_tree.specs.declared.tree.Formula.{Formula}
use Rattle.rif_tree.specs.declared.tree.Formula.TheVariants.{And, Or, Not, Exists, Equal, Member, Frame, Atom, Holds}
use Rattle.rif_tree.specs.declared.tree.Formula.TheVariants.{rolls-And, rolls-Or, rolls-Not, rolls-Exists}
use Rattle.rif_tree.specs.declared.tree.Formula.TheVariants.{rolls-Equal, rolls-Member, rolls-Frame, rolls-Atom}
use Rattle.rif_tree.specs.declared.tree.Formula.TheVariants.{rolls-Holds}
use Rattle.rif_tree.specs.declared.tree.Formula.TheOpen.{And as AndLayer, Or as OrLayer, Not as NotLayer}
use Rattle.rif_tree.specs.declared.tree.Formula.TheOpen.{Exists as ExistsLayer, Equal as EqualLayer}
use Rattle.rif_tree.specs.declared.tree.Formula.TheOpen.{Member as MemberLayer, Frame as FrameLayer}
use Rattle.rif_tree.specs.declared.tree.Formula.TheOpen.{Atom as AtomLayer, Holds as HoldsLayer}
use Rattle.rif_tree.specs.declared.tree.Formula.TheFolds.{fold-roll-Formula}
use Rattle.prd_grammar.specs.declared.leaf.Leaf.TheVariants.{Open, Close}
use Rattle.prd_limits.specs.Limits.{most_of, term_needs, terms_need, pairs_need, vars_need, needs_in, formula_needs}
use Rattle.prd_limits.specs.Limits.{formulas_need}
use Rattle.prd_grammar.specs.Trees.{const_of_name, spell_const, spell_term, spell_terms, Tail, equals, member_of}
use Rattle.prd_grammar.specs.Trees.{with_pairs, spell_tail, spell_vars, term_of_first, FormulaTree, conj, disj, neg}
use Rattle.prd_grammar.specs.Trees.{some, grouped, holds, compared, atom, spell_formula, FormulaTrees, no_formulas}
use Rattle.prd_grammar.specs.Trees.{formulas, spell_formulas, SuchTrees, last_such, more_such, spell_such}
use Rattle.prd_grammar.specs.Values.{name_value, term_value, terms_value, pairs_value, vars_value, tail_value}
use Rattle.prd_grammar.specs.Values.{pred_value, formula_value, formulas_value, such_value}
use Rattle.prd_grammar.proofs.CallerLemmas.{Known, known_front, known_back}
use Rattle.prd_limits.proofs.PlacingTermLemmas.{term_place, terms_place, pairs_place, vars_place}

most_needed : (fs : List Formula) → most_of (map formula_needs fs) ≡ formulas_need fs
most_needed [] = refl
most_needed (f ∷ fs) = ap (λ (n : ℕ). max (formula_needs f) n) (most_needed fs)

pub and_needs : (fs : List Formula) → formula_needs (And fs) ≡ formulas_need fs
and_needs fs = ap formula_needs (sym (rolls-And fs)) ∙ (fold-roll-Formula ℕ needs_in (AndLayer fs) ∙ most_needed fs)

pub or_needs : (fs : List Formula) → formula_needs (Or fs) ≡ formulas_need fs
or_needs fs = ap formula_needs (sym (rolls-Or fs)) ∙ (fold-roll-Formula ℕ needs_in (OrLayer fs) ∙ most_needed fs)

pub not_needs : (f : Formula) → formula_needs (Not f) ≡ formula_needs f
not_needs f = ap formula_needs (sym (rolls-Not f)) ∙ fold-roll-Formula ℕ needs_in (NotLayer f)

pub exists_needs : (vs : List ℕ) (f : Formula) → formula_needs (Exists vs f) ≡ max (vars_need vs) (formula_needs f)
exists_needs vs f = ap formula_needs (sym (rolls-Exists vs f)) ∙ fold-roll-Formula ℕ needs_in (ExistsLayer vs f)

pub equal_needs : (t u : Term) → formula_needs (Equal t u) ≡ max (term_needs t) (term_needs u)
equal_needs t u = ap formula_needs (sym (rolls-Equal t u)) ∙ fold-roll-Formula ℕ needs_in (EqualLayer t u)

pub member_needs : (t u : Term) → formula_needs (Member t u) ≡ max (term_needs t) (term_needs u)
member_needs t u = ap formula_needs (sym (rolls-Member t u)) ∙ fold-roll-Formula ℕ needs_in (MemberLayer t u)

pub frame_needs : (t : Term) (ps : List (Term × Term)) →
    formula_needs (Frame t ps) ≡ max (term_needs t) (pairs_need ps)
frame_needs t ps = ap formula_needs (sym (rolls-Frame t ps)) ∙ fold-roll-Formula ℕ needs_in (FrameLayer t ps)

pub atom_needs : (p : Const) (ts : List Term) → formula_needs (Atom p ts) ≡ terms_need ts
atom_needs p ts = ap formula_needs (sym (rolls-Atom p ts)) ∙ fold-roll-Formula ℕ needs_in (AtomLayer p ts)

pub holds_needs : (p : Pred) (ts : List Term) → formula_needs (Holds p ts) ≡ terms_need ts
holds_needs p ts = ap formula_needs (sym (rolls-Holds p ts)) ∙ fold-roll-Formula ℕ needs_in (HoldsLayer p ts)

tail_place : (names : List (List ℕ)) (t : Term) (tail : Tail) → term_needs t ≤ length names →
    Known names (spell_tail tail) → formula_needs (tail_value names t tail) ≤ length names
tail_place names t (equals u) first known =
    omega (arith, equal_needs t (term_value names u), term_place names u known.1)
tail_place names t (member_of u) first known =
    omega (arith, member_needs t (term_value names u), term_place names u known.1)
tail_place names t (with_pairs ps) first known =
    omega (arith, frame_needs t (pairs_value names ps), pairs_place names ps known.1)

mutual
  pub formula_place : (names : List (List ℕ)) (f : FormulaTree) → Known names (spell_formula f) →
      formula_needs (formula_value names f) ≤ length names
  formula_place names (conj fs) known =
      omega (arith, and_needs (formulas_value names fs), formulas_place names fs known.1.1)
  formula_place names (disj fs) known =
      omega (arith, or_needs (formulas_value names fs), formulas_place names fs known.1.1)
  formula_place names (neg w f) known = omega (
    arith,
    not_needs (formula_value names f),
    formula_place names f (known_front names (spell_formula f) (Close ∷ []) known.1.1),
  )
  formula_place names (some vs f) known =
      let inner = (known_back names (spell_vars vs) (Open ∷ (spell_formula f ++ Close ∷ [])) known.1).1 in
      omega (
        arith,
        exists_needs (vars_value names vs) (formula_value names f),
        vars_place names vs (known_front names (spell_vars vs) _ known.1),
        formula_place names f (known_front names (spell_formula f) (Close ∷ []) inner),
      )
  formula_place names (grouped f) known =
      formula_place names f (known_front names (spell_formula f) (Close ∷ []) known.1)
  formula_place names (holds p ts) known = omega (
    arith,
    holds_needs (pred_value p) (terms_value names ts),
    terms_place names ts (known_front names (spell_terms ts) (Close ∷ []) known.1.1.1.1),
  )
  formula_place names (compared t tail) known =
      let first = spell_term (term_of_first t) in
      tail_place names (term_value names (term_of_first t)) tail
      (term_place names (term_of_first t) (known_front names first (spell_tail tail) known))
      (known_back names first (spell_tail tail) known)
  formula_place names (atom p ts) known = omega (
    arith,
    atom_needs (name_value p) (terms_value names ts),
    terms_place names ts (known_back names (spell_const (const_of_name p)) (Open ∷ spell_terms ts) known).1,
  )

  formulas_place : (names : List (List ℕ)) (fs : FormulaTrees) → Known names (spell_formulas fs) →
      formulas_need (formulas_value names fs) ≤ length names
  formulas_place names no_formulas known = omega arith
  formulas_place names (formulas f fs) known = omega (
    arith,
    formula_place names f (known_front names (spell_formula f) (spell_formulas fs) known),
    formulas_place names fs (known_back names (spell_formula f) (spell_formulas fs) known),
  )

pub such_place : (names : List (List ℕ)) (fs : SuchTrees) → Known names (spell_such fs) →
    formulas_need (such_value names fs) ≤ length names
such_place names (last_such f) known =
    omega (arith, formula_place names f (known_front names (spell_formula f) (Open ∷ []) known))
such_place names (more_such f fs) known = omega (
  arith,
  formula_place names f (known_front names (spell_formula f) (spell_such fs) known),
  such_place names fs (known_back names (spell_formula f) (spell_such fs) known),
)
