-- What each leaf begins where a rule or the rest of one has to come.
use Rattle.std.proofs.Common.{◌≡◌, ℕ, List, [], ◌∷◌, refl, ap}
use Rattle.prd_grammar.specs.declared.leaf.Keyword.TheVariants.{Forall, Such, That as ThatKey, If, Do as DoKey}
use Rattle.prd_grammar.specs.declared.leaf.Leaf.{Leaf}
use Rattle.prd_grammar.specs.declared.leaf.Leaf.TheVariants.{Key, Var, Open as OpenLeaf}
use Rattle.prd_recognition.specs.declared.want.Want.TheVariants.{Rule, ForallRest, SuchRest, SuchBracket, Formula}
use Rattle.prd_recognition.specs.declared.want.Want.TheVariants.{Close}
use Rattle.prd_recognition.specs.Following.{next, followed, formula_next, rule_next, such_next}
use Rattle.prd_grammar.specs.Trees.{FormulaTree, grouped, last_such, more_such, RuleTree, for_all, for_all_such}
use Rattle.prd_grammar.specs.Trees.{if_then, block}
use Rattle.prd_grammar.proofs.CallerLemmas.{put_formula, put_rule}
use Rattle.prd_recognition.proofs.ComingPieces.{no_vars, some_vars, SuchLeft, inner_left, such_left, put_such_left}
use Rattle.prd_recognition.proofs.ComingPieces.{BracketLeft, rule_in_bracket, formula_in_bracket, put_bracket_left}
use Rattle.prd_recognition.proofs.ComingPieces.{ForallLeft, forall_left, forall_such_left, put_forall_left, Builds}
use Rattle.prd_recognition.proofs.ComingPieces.{Joins}
use Rattle.prd_recognition.proofs.ComingPieces.{with_others}
use Rattle.prd_recognition.proofs.ComingFormulaLemmas.{formula_begins, all_vars, put_all_vars}

-- the formulas of `such that`

abbrev one_more_such : FormulaTree → SuchLeft → SuchLeft
one_more_such f (inner_left r) = such_left (last_such f) r
one_more_such f (such_left fs r) = such_left (more_such f fs) r

put_one_more_such : (f : FormulaTree) (x : SuchLeft) (ls : List Leaf) →
    put_such_left (one_more_such f x) ls ≡ put_formula f (put_such_left x ls)
put_one_more_such f (inner_left r) ls = refl
put_one_more_such f (such_left fs r) ls = refl

abbrev such_of_bracket : BracketLeft → SuchLeft
such_of_bracket (rule_in_bracket r) = inner_left r
such_of_bracket (formula_in_bracket f x) = one_more_such (grouped f) x

put_such_of_bracket : (x : BracketLeft) (ls : List Leaf) →
    put_such_left (such_of_bracket x) ls ≡ OpenLeaf ∷ put_bracket_left x ls
put_such_of_bracket (rule_in_bracket r) ls = refl
put_such_of_bracket (formula_in_bracket f x) ls = put_one_more_such (grouped f) x ls

join_such : Joins Formula (SuchRest ∷ []) SuchRest
join_such f ws xs = (one_more_such f xs.0, xs.1, put_one_more_such f xs.0 _)

pub such_begins : (l : Leaf) → Builds (next SuchRest l) SuchRest l
such_begins OpenLeaf = λ ws xs. (such_of_bracket xs.0, xs.1, put_such_of_bracket xs.0 _)
such_begins l = with_others (formula_next l) (SuchRest ∷ []) Formula SuchRest l (formula_begins l) join_such

-- rules

-- the rest of `Forall`, with its formulas
abbrev forall_such_of : FormulaTree → SuchLeft → ForallLeft
forall_such_of f (inner_left r) = forall_such_left no_vars (last_such f) r
forall_such_of f (such_left fs r) = forall_such_left no_vars (more_such f fs) r

put_forall_such_of : (f : FormulaTree) (x : SuchLeft) (ls : List Leaf) →
    put_forall_left (forall_such_of f x) ls ≡ Key Such ∷ Key ThatKey ∷ put_formula f (put_such_left x ls)
put_forall_such_of f (inner_left r) ls = refl
put_forall_such_of f (such_left fs r) ls = refl

abbrev one_more_forall : List ℕ → ForallLeft → ForallLeft
one_more_forall v (forall_left vs r) = forall_left (some_vars (all_vars v vs)) r
one_more_forall v (forall_such_left vs fs r) = forall_such_left (some_vars (all_vars v vs)) fs r

put_one_more_forall : (v : List ℕ) (x : ForallLeft) (ls : List Leaf) →
    put_forall_left (one_more_forall v x) ls ≡ Var v ∷ put_forall_left x ls
put_one_more_forall v (forall_left vs r) ls = put_all_vars v vs _
put_one_more_forall v (forall_such_left vs fs r) ls = put_all_vars v vs _

pub forall_begins : (l : Leaf) → Builds (next ForallRest l) ForallRest l
forall_begins (Var v) = λ ws xs. (one_more_forall v xs.0, xs.1, put_one_more_forall v xs.0 _)
forall_begins OpenLeaf = λ ws xs. (forall_left no_vars xs.0, xs.1.1, refl)
forall_begins (Key Such) = λ ws xs.
    let formula = xs.1 in let behind = formula.1 in
    (forall_such_of formula.0 behind.0, behind.1, put_forall_such_of formula.0 behind.0 _)
forall_begins _ = tt

abbrev forall_rule : List ℕ → ForallLeft → RuleTree
forall_rule v (forall_left vs r) = for_all (all_vars v vs) r
forall_rule v (forall_such_left vs fs r) = for_all_such (all_vars v vs) fs r

put_forall_rule : (v : List ℕ) (x : ForallLeft) (ls : List Leaf) →
    put_rule (forall_rule v x) ls ≡ Key Forall ∷ Var v ∷ put_forall_left x ls
put_forall_rule v (forall_left vs r) ls = ap (λ x. Key Forall ∷ x) (put_all_vars v vs _)
put_forall_rule v (forall_such_left vs fs r) ls = ap (λ x. Key Forall ∷ x) (put_all_vars v vs _)

pub rule_begins : (l : Leaf) → Builds (rule_next l) Rule l
rule_begins (Key Forall) = λ ws xs. (forall_rule xs.0 xs.1.0, xs.1.1, put_forall_rule xs.0 xs.1.0 _)
rule_begins (Key If) = λ ws xs. let behind = xs.1.1.1.1 in (if_then xs.0 behind.0, behind.1, refl)
rule_begins (Key DoKey) = λ ws xs. (block xs.1.0, xs.1.1, refl)
rule_begins _ = tt

-- behind a bracket

join_inner : Joins Rule (Close ∷ []) SuchBracket
join_inner r ws xs = (rule_in_bracket r, xs.1, refl)

join_grouped : Joins Formula (Close ∷ SuchRest ∷ []) SuchBracket
join_grouped f ws xs = (formula_in_bracket f xs.1.0, xs.1.1, refl)

inner_begins : (l : Leaf) → Builds (followed (rule_next l) (Close ∷ [])) SuchBracket l
inner_begins l = with_others (rule_next l) (Close ∷ []) Rule SuchBracket l (rule_begins l) join_inner

pub bracket_begins : (l : Leaf) → Builds (such_next l) SuchBracket l
bracket_begins (Key Forall) = inner_begins (Key Forall)
bracket_begins (Key If) = inner_begins (Key If)
bracket_begins (Key DoKey) = inner_begins (Key DoKey)
bracket_begins l =
    with_others (formula_next l) (Close ∷ SuchRest ∷ []) Formula SuchBracket l (formula_begins l) join_grouped
