-- Where a term is sound, its canonical tree is.
use Rattle.std.proofs.Common.{◌≡◌, ℕ, suc, Bool, true, false, List, ◌∷◌, refl}
use Rattle.prd_grammar.specs.declared.leaf.Builtin.{Builtin}
use Rattle.prd_grammar.specs.declared.leaf.Builtin.TheVariants.{Func as FuncBuiltin}
use Rattle.prd_grammar.specs.declared.leaf.Literal.{Literal}
use Rattle.prd_grammar.specs.declared.leaf.Literal.TheVariants.{Integer, Boolean, String, Iri as IriLiteral}
use Rattle.prd_grammar.specs.declared.leaf.Literal.TheVariants.{Local as LocalLiteral, OfNoType}
use Rattle.prd_grammar.specs.declared.leaf.Leaf.{Leaf}
use Rattle.prd_grammar.specs.declared.leaf.Leaf.TheVariants.{Arrow}
use Rattle.prd_grammar.specs.declared.bracket.Bracket.{Bracket}
use Rattle.prd_grammar.specs.declared.bracket.Bracket.TheVariants.{Arguments}
use Rattle.prd_grammar.specs.Progress.{with_argument}
use Rattle.prd_grammar.specs.Trees.{ConstTree, const_int, const_string, const_typed, const_iri, const_curie}
use Rattle.prd_grammar.specs.Trees.{const_local}
use Rattle.prd_grammar.specs.Trees.{const_true, const_false, spell_const, func_known, func_unknown, func_undeclared}
use Rattle.prd_grammar.specs.Trees.{TermTree, constant, variable, call, TermTrees, no_terms, terms, spell_term}
use Rattle.prd_grammar.specs.Trees.{spell_terms, PairTrees, last_pair, pairs, spell_pairs}
use Rattle.prd_grammar.specs.Values.{const_value}
use Rattle.prd_canonical.specs.CanonicalTrees.{const_tree, canonical_term, canonical_terms, canonical_pairs}
use Rattle.prd_canonical.proofs.SoundLeaves.{StaySound, plain, as_they_are, both, inside, leaf, closes, closes_square}

-- a term is one argument more, where it stands among arguments
abbrev pub AsTerm : List Leaf → List Leaf → Type 0
AsTerm = StaySound as_they_are with_argument

typed_sound : (l : Literal) (known : Bool) →
    AsTerm (spell_const (const_typed l known)) (spell_const (const_tree (const_value (const_typed l known))))
typed_sound (Integer z) known = record { goes = λ bs rest s. (s.1.1.1, λ cs more t. (refl, t)) }
typed_sound (Boolean true) known = record { goes = λ bs rest s. (s.1.1.1, λ cs more t. (refl, t)) }
typed_sound (Boolean false) known = record { goes = λ bs rest s. (s.1.1.1, λ cs more t. (refl, t)) }
typed_sound (String x) known = record { goes = λ bs rest s. (s.1.1.1, λ cs more t. (refl, t)) }
typed_sound (IriLiteral x) known = record { goes = λ bs rest s. (s.1.1.1, λ cs more t. (refl, t)) }
typed_sound (LocalLiteral x) known = record { goes = λ bs rest s. (s.1.1.1, λ cs more t. (refl, t)) }
typed_sound OfNoType known = record { goes = λ bs rest s. (s.1.1.1, λ cs more t. (refl, t)) }

pub const_sound : (c : ConstTree) → AsTerm (spell_const c) (spell_const (const_tree (const_value c)))
const_sound (const_int z) = record { goes = λ bs rest s. (s.1, λ cs more t. (refl, t)) }
const_sound (const_string x) = record { goes = λ bs rest s. (s.1, λ cs more t. (refl, t)) }
const_sound (const_typed l known) = typed_sound l known
const_sound (const_iri x) = record { goes = λ bs rest s. (s.1, λ cs more t. (refl, t)) }
const_sound (const_curie x) = record { goes = λ bs rest s. (s.1, λ cs more t. (refl, t)) }
const_sound (const_local x) = record { goes = λ bs rest s. (s.1, λ cs more t. (refl, t)) }
const_sound const_true = record { goes = λ bs rest s. (s.1, λ cs more t. (refl, t)) }
const_sound const_false = record { goes = λ bs rest s. (s.1, λ cs more t. (refl, t)) }

-- inside the bracket of arguments of which some have come
abbrev pub among : Builtin → ℕ → List Bracket → List Bracket
among b n bs = Arguments b n ∷ bs

mutual
  pub term_sound : (t : TermTree) → AsTerm (spell_term t) (spell_term (canonical_term t))
  term_sound (constant c) = const_sound c
  term_sound (variable v) = record { goes = λ bs rest s. (s.1, λ cs more t. (refl, t)) }
  term_sound (call (func_known f) ts) =
      let inner = both (inside plain (arguments_sound ts (FuncBuiltin f) 0)) closes in
      record {
        goes = λ bs rest s.
            let a = inner.goes (with_argument bs) rest s.1.1.1.1 in
            (a.0, λ cs more t. (refl, (refl, (refl, (refl, a.1 (with_argument cs) more t)))));
      }
  term_sound (call func_unknown ts) = record { goes = λ bs rest s. let no : true ≡ false = s.1.1.0 in absurd (cc) }
  term_sound (call func_undeclared ts) = record { goes = λ bs rest s. let no : true ≡ false = s.1.1.0 in absurd (cc) }

  -- with the bracket behind them, where the built-in takes so many
  pub arguments_sound : (ts : TermTrees) (b : Builtin) (n : ℕ) →
      StaySound (among b n) as_they_are (spell_terms ts) (spell_terms (canonical_terms ts))
  arguments_sound no_terms b n = record { goes = λ bs rest s. (s.1, λ cs more t. (s.0, t)) }
  arguments_sound (terms t ts) b n = both (inside (among b n) (term_sound t)) (arguments_sound ts b (suc n))

pub plain_term : (t : TermTree) → StaySound plain plain (spell_term t) (spell_term (canonical_term t))
plain_term t = inside plain (term_sound t)

-- in the bracket of an atom
pub terms_sound : (ts : TermTrees) → StaySound plain as_they_are (spell_terms ts) (spell_terms (canonical_terms ts))
terms_sound no_terms = closes
terms_sound (terms t ts) = both (plain_term t) (terms_sound ts)

pub pairs_sound : (ps : PairTrees) → StaySound plain as_they_are (spell_pairs ps) (spell_pairs (canonical_pairs ps))
pairs_sound (last_pair s v) = both (plain_term s) (both (leaf Arrow refl) (both (plain_term v) closes_square))
pairs_sound (pairs s v ps) = both (plain_term s) (both (leaf Arrow refl) (both (plain_term v) (pairs_sound ps)))
