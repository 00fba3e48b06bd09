-- Where a formula is sound, its canonical tree is.
use Rattle.std.proofs.Common.{◌≡◌, true, false, List, [], ◌∷◌, refl}
use Rattle.prd_grammar.specs.declared.leaf.Keyword.TheVariants.{And, Or, Not, Exists}
use Rattle.prd_grammar.specs.declared.leaf.Builtin.TheVariants.{Pred as PredBuiltin}
use Rattle.prd_grammar.specs.declared.leaf.Leaf.{Leaf}
use Rattle.prd_grammar.specs.declared.leaf.Leaf.TheVariants.{Key, Var, Equal, Hash}
use Rattle.prd_grammar.specs.declared.bracket.Bracket.TheVariants.{Plain}
use Rattle.prd_grammar.specs.Trees.{NameTree, name_iri, name_curie, name_local, name_typed_iri, name_typed_local}
use Rattle.prd_grammar.specs.Trees.{spell_name, Tail, equals, member_of, with_pairs, spell_tail, Vars, one_var}
use Rattle.prd_grammar.specs.Trees.{more_vars, spell_vars, NotWord, spelled_not, spelled_ineg, not_leaf, FirstTerm}
use Rattle.prd_grammar.specs.Trees.{first_constant, first_variable, first_call, term_of_first, func_known, call}
use Rattle.prd_grammar.specs.Trees.{variable, spell_term, pred_known, pred_unknown, pred_undeclared, FormulaTree}
use Rattle.prd_grammar.specs.Trees.{conj}
use Rattle.prd_grammar.specs.Trees.{disj, neg, some, grouped, holds, compared, atom, FormulaTrees, no_formulas}
use Rattle.prd_grammar.specs.Trees.{formulas}
use Rattle.prd_grammar.specs.Trees.{spell_formula, spell_formulas}
use Rattle.prd_canonical.specs.CanonicalTrees.{canonical_name, canonical_first, canonical_tail, canonical_formula}
use Rattle.prd_canonical.specs.CanonicalTrees.{canonical_formulas}
use Rattle.prd_canonical.proofs.SoundLeaves.{StaySound, plain, as_they_are, both, inside, leaf, opens, opens_square}
use Rattle.prd_canonical.proofs.SoundLeaves.{closes, in_brackets, out_of_brackets}
use Rattle.prd_canonical.proofs.SoundTermLemmas.{const_sound, plain_term, arguments_sound, terms_sound, pairs_sound}

-- in a bracket of any but a built-in's
abbrev pub InPlain : List Leaf → List Leaf → Type 0
InPlain = StaySound plain plain

pub name_sound : (n : NameTree) → InPlain (spell_name n) (spell_name (canonical_name n))
name_sound (name_iri x) = record { goes = λ bs rest s. (s.1, λ cs more t. (refl, t)) }
name_sound (name_curie x) = record { goes = λ bs rest s. (s.1, λ cs more t. (refl, t)) }
name_sound (name_local x) = record { goes = λ bs rest s. (s.1, λ cs more t. (refl, t)) }
name_sound (name_typed_iri x known) = record { goes = λ bs rest s. (s.1.1.1, λ cs more t. (refl, t)) }
name_sound (name_typed_local x known) = record { goes = λ bs rest s. (s.1.1.1, λ cs more t. (refl, t)) }

pub vars_sound : (vs : Vars) → InPlain (spell_vars vs) (spell_vars vs)
vars_sound (one_var v) = leaf (Var v) refl
vars_sound (more_vars v vs) = both (leaf (Var v) refl) (vars_sound vs)

tail_sound : (t : Tail) → InPlain (spell_tail t) (spell_tail (canonical_tail t))
tail_sound (equals t) = both (leaf Equal refl) (plain_term t)
tail_sound (member_of t) = both (leaf Hash refl) (plain_term t)
tail_sound (with_pairs ps) = both (inside plain opens_square) (inside plain (pairs_sound ps))

first_sound : (t : FirstTerm) →
    InPlain (spell_term (term_of_first t)) (spell_term (term_of_first (canonical_first t)))
first_sound (first_constant c) = inside plain (const_sound c)
first_sound (first_variable v) = plain_term (variable v)
first_sound (first_call f ts) = plain_term (call (func_known f) ts)

not_sound : (w : NotWord) → InPlain (not_leaf w ∷ []) (Key Not ∷ [])
not_sound spelled_not = leaf (Key Not) refl
not_sound spelled_ineg = record { goes = λ bs rest s. (s.1, λ cs more t. (refl, t)) }

mutual
  pub formula_sound : (f : FormulaTree) → InPlain (spell_formula f) (spell_formula (canonical_formula f))
  formula_sound (conj fs) = both (leaf (Key And) refl) (both (inside plain opens) (inside plain (formulas_sound fs)))
  formula_sound (disj fs) = both (leaf (Key Or) refl) (both (inside plain opens) (inside plain (formulas_sound fs)))
  formula_sound (neg w f) = both (not_sound w) (in_brackets (formula_sound f))
  formula_sound (some vs f) = both (leaf (Key Exists) refl) (both (vars_sound vs) (in_brackets (formula_sound f)))
  formula_sound (grouped f) = out_of_brackets (formula_sound f)
  formula_sound (holds (pred_known p) ts) =
      let inner = both (inside plain (arguments_sound ts (PredBuiltin p) 0)) closes in
      record {
        goes = λ bs rest s.
            let a = inner.goes (Plain ∷ bs) rest s.1.1.1.1 in
            (a.0, λ cs more t. (refl, (refl, (refl, (refl, a.1 (Plain ∷ cs) more t)))));
      }
  formula_sound (holds pred_unknown ts) =
      record { goes = λ bs rest s. let no : true ≡ false = s.1.1.0 in absurd (cc) }
  formula_sound (holds pred_undeclared ts) =
      record { goes = λ bs rest s. let no : true ≡ false = s.1.1.0 in absurd (cc) }
  formula_sound (compared t tail) = both (first_sound t) (tail_sound tail)
  formula_sound (atom n ts) = both (name_sound n) (both (inside plain opens) (inside plain (terms_sound ts)))

  -- with the bracket behind them
  pub formulas_sound : (fs : FormulaTrees) →
      StaySound plain as_they_are (spell_formulas fs) (spell_formulas (canonical_formulas fs))
  formulas_sound no_formulas = closes
  formulas_sound (formulas f fs) = both (formula_sound f) (formulas_sound fs)
