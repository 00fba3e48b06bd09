-- What is spelled may come: the formulas of `such that`, and rules.
use Rattle.std.proofs.Common.{◌≡◌, refl, sym, ap, ◌∙◌, List, [], ◌∷◌, ◌++◌, Some}
use Rattle.prd_grammar.specs.declared.leaf.Keyword.TheVariants.{Such, That as ThatKey, Then as ThenKey, Do as DoKey}
use Rattle.prd_grammar.specs.declared.leaf.Leaf.{Leaf}
use Rattle.prd_grammar.specs.declared.leaf.Leaf.TheVariants.{Key, Typed, TypeName, Carets, Open as OpenLeaf}
use Rattle.prd_grammar.specs.declared.leaf.Leaf.TheVariants.{Close as CloseLeaf}
use Rattle.prd_recognition.specs.declared.want.Want.{Want}
use Rattle.prd_recognition.specs.declared.want.Want.TheVariants.{Rule, Variable, ForallRest, SuchRest, SuchBracket}
use Rattle.prd_recognition.specs.declared.want.Want.TheVariants.{Block}
use Rattle.prd_recognition.specs.declared.want.Want.TheVariants.{Formula, Tail as TailWant, AfterName, Open, Close}
use Rattle.prd_recognition.specs.declared.want.Want.TheVariants.{Then}
use Rattle.prd_recognition.specs.declared.want.Want.TheVariants.{Do}
use Rattle.prd_grammar.specs.Trees.{const_int, const_string, const_typed, const_iri, const_curie, const_local}
use Rattle.prd_grammar.specs.Trees.{const_true, const_false, name_iri, name_curie, name_local, name_typed_iri}
use Rattle.prd_grammar.specs.Trees.{name_typed_local, spell_tail, Vars, spell_vars, spelled_not, spelled_ineg}
use Rattle.prd_grammar.specs.Trees.{first_constant, first_variable, first_call, FormulaTree, conj, disj, neg, some}
use Rattle.prd_grammar.specs.Trees.{grouped, holds, compared, atom, spell_formula, spell_block, SuchTrees, last_such}
use Rattle.prd_grammar.specs.Trees.{more_such, spell_such, RuleTree, for_all, for_all_such, if_then, block}
use Rattle.prd_grammar.specs.Trees.{spell_rule}
use Rattle.prd_recognition.specs.Following.{after, named_next}
use Rattle.prd_recognition.proofs.AfterLemmas.{after_parts}
use Rattle.prd_recognition.proofs.GoingTermLemmas.{going_vars}
use Rattle.prd_recognition.proofs.GoingFormulaLemmas.{StartsWithFormula, followed_twice, going_formula}
use Rattle.prd_recognition.proofs.GoingActionLemmas.{going_block}

-- behind a bracket in the list of `such that`, a formula begins as it does elsewhere
bracketed_starts : StartsWithFormula SuchBracket (Close ∷ SuchRest ∷ [])
bracketed_starts (conj fs) ws rest = refl
bracketed_starts (disj fs) ws rest = refl
bracketed_starts (neg spelled_not f) ws rest = refl
bracketed_starts (neg spelled_ineg f) ws rest = refl
bracketed_starts (some vs f) ws rest = refl
bracketed_starts (grouped f) ws rest = refl
bracketed_starts (holds p ts) ws rest = refl
bracketed_starts (compared (first_constant (const_int z)) tail) ws rest = refl
bracketed_starts (compared (first_constant (const_string t)) tail) ws rest = refl
bracketed_starts (compared (first_constant (const_typed literal known)) tail) ws rest =
    ap (λ o. after o (Carets ∷ TypeName known ∷ (spell_tail tail ++ rest)))
    (followed_twice (named_next AfterName TailWant (Typed literal)) (Close ∷ SuchRest ∷ []) ws)
bracketed_starts (compared (first_constant (const_iri t)) tail) ws rest = refl
bracketed_starts (compared (first_constant (const_curie t)) tail) ws rest = refl
bracketed_starts (compared (first_constant (const_local t)) tail) ws rest = refl
bracketed_starts (compared (first_constant const_true) tail) ws rest = refl
bracketed_starts (compared (first_constant const_false) tail) ws rest = refl
bracketed_starts (compared (first_variable v) tail) ws rest = refl
bracketed_starts (compared (first_call f ts) tail) ws rest = refl
bracketed_starts (atom (name_iri t) ts) ws rest = refl
bracketed_starts (atom (name_curie t) ts) ws rest = refl
bracketed_starts (atom (name_local t) ts) ws rest = refl
bracketed_starts (atom (name_typed_iri t known) ts) ws rest = refl
bracketed_starts (atom (name_typed_local t known) ts) ws rest = refl

-- a formula in that list begins as it does elsewhere, or with a bracket
such_starts : StartsWithFormula SuchRest (SuchRest ∷ [])
such_starts (conj fs) ws rest = refl
such_starts (disj fs) ws rest = refl
such_starts (neg spelled_not f) ws rest = refl
such_starts (neg spelled_ineg f) ws rest = refl
such_starts (some vs f) ws rest = refl
such_starts (grouped f) ws rest =
    after_parts (Some (SuchBracket ∷ ws)) (spell_formula f) (CloseLeaf ∷ []) rest
    ∙ (bracketed_starts f ws (CloseLeaf ∷ rest)
    ∙ sym (after_parts (Some (Formula ∷ Close ∷ SuchRest ∷ ws)) (spell_formula f) (CloseLeaf ∷ []) rest))
such_starts (holds p ts) ws rest = refl
such_starts (compared (first_constant (const_int z)) tail) ws rest = refl
such_starts (compared (first_constant (const_string t)) tail) ws rest = refl
such_starts (compared (first_constant (const_typed literal known)) tail) ws rest =
    ap (λ o. after o (Carets ∷ TypeName known ∷ (spell_tail tail ++ rest)))
    (followed_twice (named_next AfterName TailWant (Typed literal)) (SuchRest ∷ []) ws)
such_starts (compared (first_constant (const_iri t)) tail) ws rest = refl
such_starts (compared (first_constant (const_curie t)) tail) ws rest = refl
such_starts (compared (first_constant (const_local t)) tail) ws rest = refl
such_starts (compared (first_constant const_true) tail) ws rest = refl
such_starts (compared (first_constant const_false) tail) ws rest = refl
such_starts (compared (first_variable v) tail) ws rest = refl
such_starts (compared (first_call f ts) tail) ws rest = refl
such_starts (atom (name_iri t) ts) ws rest = refl
such_starts (atom (name_curie t) ts) ws rest = refl
such_starts (atom (name_local t) ts) ws rest = refl
such_starts (atom (name_typed_iri t known) ts) ws rest = refl
such_starts (atom (name_typed_local t known) ts) ws rest = refl

next_formula : (f : FormulaTree) (ls : List Leaf) (ws : List Want) (rest : List Leaf) →
    after (Some (SuchRest ∷ ws)) ((spell_formula f ++ ls) ++ rest)
    ≡ after (Some (Formula ∷ SuchRest ∷ ws)) ((spell_formula f ++ ls) ++ rest)
next_formula f ls ws rest =
    after_parts (Some (SuchRest ∷ ws)) (spell_formula f) ls rest
    ∙ (such_starts f ws (ls ++ rest) ∙ sym (after_parts (Some (Formula ∷ SuchRest ∷ ws)) (spell_formula f) ls rest))

next_such : (fs : SuchTrees) (ws : List Want) (rest : List Leaf) →
    after (Some (SuchRest ∷ ws)) (spell_such fs ++ rest)
    ≡ after (Some (Formula ∷ SuchRest ∷ ws)) (spell_such fs ++ rest)
next_such (last_such f) ws rest = next_formula f (OpenLeaf ∷ []) ws rest
next_such (more_such f fs) ws rest = next_formula f (spell_such fs) ws rest

-- the formulas of `such that`, and the bracket behind them
going_such : (fs : SuchTrees) (ws : List Want) (rest : List Leaf) →
    after (Some (Formula ∷ SuchRest ∷ ws)) (spell_such fs ++ rest) ≡ after (Some (SuchBracket ∷ ws)) rest
going_such (last_such f) ws rest =
    after_parts (Some (Formula ∷ SuchRest ∷ ws)) (spell_formula f) (OpenLeaf ∷ []) rest
    ∙ going_formula f (SuchRest ∷ ws) (OpenLeaf ∷ rest)
going_such (more_such f fs) ws rest =
    after_parts (Some (Formula ∷ SuchRest ∷ ws)) (spell_formula f) (spell_such fs) rest
    ∙ (going_formula f (SuchRest ∷ ws) (spell_such fs ++ rest) ∙ (next_such fs ws rest ∙ going_such fs ws rest))

-- what ends the list of `such that` begins a rule
rule_behind_such : (r : RuleTree) (ws : List Want) (rest : List Leaf) →
    after (Some (SuchBracket ∷ ws)) (spell_rule r ++ rest) ≡ after (Some (Rule ∷ Close ∷ ws)) (spell_rule r ++ rest)
rule_behind_such (for_all vs r) ws rest = refl
rule_behind_such (for_all_such vs fs r) ws rest = refl
rule_behind_such (if_then f b) ws rest = refl
rule_behind_such (block b) ws rest = refl

-- the variables of `Forall`
going_forall : (vs : Vars) (ls : List Leaf) (ws : List Want) (rest : List Leaf) →
    after (Some (Variable ∷ ForallRest ∷ ws)) ((spell_vars vs ++ ls) ++ rest)
    ≡ after (Some (ForallRest ∷ ws)) (ls ++ rest)
going_forall vs ls ws rest =
    after_parts (Some (Variable ∷ ForallRest ∷ ws)) (spell_vars vs) ls rest
    ∙ going_vars ForallRest (λ v. refl) vs ws (ls ++ rest)

-- the formula of `If`
going_if : (f : FormulaTree) (ls : List Leaf) (ws : List Want) (rest : List Leaf) →
    after (Some (Formula ∷ Then ∷ Do ∷ Open ∷ ws))
    ((spell_formula f ++ Key ThenKey ∷ Key DoKey ∷ OpenLeaf ∷ ls) ++ rest)
    ≡ after (Some ws) (ls ++ rest)
going_if f ls ws rest =
    after_parts (Some (Formula ∷ Then ∷ Do ∷ Open ∷ ws)) (spell_formula f)
    (Key ThenKey ∷ Key DoKey ∷ OpenLeaf ∷ ls) rest
    ∙ going_formula f (Then ∷ Do ∷ Open ∷ ws) (Key ThenKey ∷ Key DoKey ∷ OpenLeaf ∷ (ls ++ rest))

pub going_rule : (r : RuleTree) (ws : List Want) (rest : List Leaf) →
    after (Some (Rule ∷ ws)) (spell_rule r ++ rest) ≡ after (Some ws) rest
going_rule (for_all vs r) ws rest =
    going_forall vs (OpenLeaf ∷ (spell_rule r ++ CloseLeaf ∷ [])) ws rest
    ∙ (after_parts (Some (Rule ∷ Close ∷ ws)) (spell_rule r) (CloseLeaf ∷ []) rest
    ∙ going_rule r (Close ∷ ws) (CloseLeaf ∷ rest))
going_rule (for_all_such vs fs r) ws rest =
    going_forall vs (Key Such ∷ Key ThatKey ∷ (spell_such fs ++ (spell_rule r ++ CloseLeaf ∷ []))) ws rest
    ∙ (after_parts (Some (Formula ∷ SuchRest ∷ ws)) (spell_such fs) (spell_rule r ++ CloseLeaf ∷ []) rest
    ∙ (going_such fs ws ((spell_rule r ++ CloseLeaf ∷ []) ++ rest)
    ∙ (after_parts (Some (SuchBracket ∷ ws)) (spell_rule r) (CloseLeaf ∷ []) rest
    ∙ (rule_behind_such r ws (CloseLeaf ∷ rest) ∙ going_rule r (Close ∷ ws) (CloseLeaf ∷ rest)))))
going_rule (if_then f b) ws rest = going_if f (spell_block b) (Block ∷ ws) rest ∙ going_block b ws rest
going_rule (block b) ws rest = going_block b ws rest
