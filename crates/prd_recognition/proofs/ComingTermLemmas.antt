-- What each leaf begins where one leaf, a term or a list of terms has to come.
use Rattle.std.proofs.Common.{◌≡◌, ℕ, Bool, true, false, cond, List, [], ◌∷◌, Some, None, refl, ap, sym, bytes_eq}
use Rattle.std.proofs.lemmas.Slice.Eq.{bytes_eq-Decides}
use Rattle.prd_grammar.specs.declared.leaf.Keyword.TheVariants.{External, True, False, That as ThatKey}
use Rattle.prd_grammar.specs.declared.leaf.Keyword.TheVariants.{Then as ThenKey, Do as DoKey}
use Rattle.prd_grammar.specs.declared.leaf.Builtin.TheVariants.{Func as FuncBuiltin}
use Rattle.prd_grammar.specs.declared.leaf.BuiltinName.TheVariants.{Known, Unknown, Undeclared}
use Rattle.prd_grammar.specs.declared.leaf.Literal.TheVariants.{Iri as IriLiteral, Local as LocalLiteral}
use Rattle.prd_grammar.specs.declared.leaf.Leaf.{Leaf}
use Rattle.prd_grammar.specs.declared.leaf.Leaf.TheVariants.{Key, Word, Int, Str, Typed, TypeName as TypeLeaf, Iri}
use Rattle.prd_grammar.specs.declared.leaf.Leaf.TheVariants.{Curie, Builtin, Local, Var, Open as OpenLeaf}
use Rattle.prd_grammar.specs.declared.leaf.Leaf.TheVariants.{Close as CloseLeaf, OpenSquare as OpenSquareLeaf}
use Rattle.prd_grammar.specs.declared.leaf.Leaf.TheVariants.{CloseSquare as CloseSquareLeaf, Arrow as ArrowLeaf}
use Rattle.prd_grammar.specs.declared.leaf.Leaf.TheVariants.{Carets as CaretsLeaf}
use Rattle.prd_recognition.specs.declared.want.Want.{Want}
use Rattle.prd_recognition.specs.declared.want.Want.TheVariants.{PrefixName, PrefixIri, Variable, SameVariable, Term}
use Rattle.prd_recognition.specs.declared.want.Want.TheVariants.{Terms, FuncName, Pairs, TypeName, Open, Close}
use Rattle.prd_recognition.specs.declared.want.Want.TheVariants.{OpenSquare}
use Rattle.prd_recognition.specs.declared.want.Want.TheVariants.{CloseSquare, Arrow, Carets, That, Then, Do}
use Rattle.prd_recognition.specs.Following.{next, term_next, named_next, func_next, same_next}
use Rattle.prd_grammar.specs.Trees.{const_int, const_string, const_typed, const_iri, const_curie, const_local}
use Rattle.prd_grammar.specs.Trees.{const_true, const_false, name_iri, name_curie, name_local, name_typed_iri}
use Rattle.prd_grammar.specs.Trees.{name_typed_local, func_known, func_unknown, func_undeclared, TermTree, constant}
use Rattle.prd_grammar.specs.Trees.{variable, call, no_terms, terms, PairTrees, last_pair, pairs}
use Rattle.prd_grammar.proofs.CallerLemmas.{put_term, put_pairs}
use Rattle.prd_recognition.proofs.ComingPieces.{PairsLeft, no_pairs, some_pairs, put_pairs_left, put_all, Builds}
use Rattle.prd_recognition.proofs.ComingPieces.{Joins}
use Rattle.prd_recognition.proofs.ComingPieces.{JoinsName, with_others}

-- one leaf

pub open_begins : (l : Leaf) → Builds (next Open l) Open l
open_begins OpenLeaf = λ ws xs. (tt, xs, refl)
open_begins _ = tt

pub close_begins : (l : Leaf) → Builds (next Close l) Close l
close_begins CloseLeaf = λ ws xs. (tt, xs, refl)
close_begins _ = tt

pub open_square_begins : (l : Leaf) → Builds (next OpenSquare l) OpenSquare l
open_square_begins OpenSquareLeaf = λ ws xs. (tt, xs, refl)
open_square_begins _ = tt

pub close_square_begins : (l : Leaf) → Builds (next CloseSquare l) CloseSquare l
close_square_begins CloseSquareLeaf = λ ws xs. (tt, xs, refl)
close_square_begins _ = tt

pub arrow_begins : (l : Leaf) → Builds (next Arrow l) Arrow l
arrow_begins ArrowLeaf = λ ws xs. (tt, xs, refl)
arrow_begins _ = tt

pub carets_begin : (l : Leaf) → Builds (next Carets l) Carets l
carets_begin CaretsLeaf = λ ws xs. (tt, xs, refl)
carets_begin _ = tt

pub that_begins : (l : Leaf) → Builds (next That l) That l
that_begins (Key ThatKey) = λ ws xs. (tt, xs, refl)
that_begins _ = tt

pub then_begins : (l : Leaf) → Builds (next Then l) Then l
then_begins (Key ThenKey) = λ ws xs. (tt, xs, refl)
then_begins _ = tt

pub do_begins : (l : Leaf) → Builds (next Do l) Do l
do_begins (Key DoKey) = λ ws xs. (tt, xs, refl)
do_begins _ = tt

pub type_begins : (l : Leaf) → Builds (next TypeName l) TypeName l
type_begins (TypeLeaf known) = λ ws xs. (known, xs, refl)
type_begins _ = tt

pub prefix_name_begins : (l : Leaf) → Builds (next PrefixName l) PrefixName l
prefix_name_begins (Word t) = λ ws xs. (t, xs, refl)
prefix_name_begins _ = tt

pub prefix_iri_begins : (l : Leaf) → Builds (next PrefixIri l) PrefixIri l
prefix_iri_begins (Iri t) = λ ws xs. (t, xs, refl)
prefix_iri_begins _ = tt

pub variable_begins : (l : Leaf) → Builds (next Variable l) Variable l
variable_begins (Var v) = λ ws xs. (v, xs, refl)
variable_begins _ = tt

-- a variable, where it is the one that has to come
found_same : (v u : List ℕ) (same : Bool) → bytes_eq u v ≡ same →
    Builds (cond same (Some []) None) (SameVariable v) (Var u)
found_same v u true is = λ ws xs. (tt, xs, ap (λ t. Var t ∷ put_all ws xs) (sym ((bytes_eq-Decides u v).0 is)))
found_same v u false is = tt

pub same_begins : (v : List ℕ) (l : Leaf) → Builds (same_next v l) (SameVariable v) l
same_begins v (Var u) = found_same v u (bytes_eq u v) refl
same_begins v _ = tt

-- terms

pub func_begins : (l : Leaf) → Builds (func_next l) FuncName l
func_begins (Builtin (Known (FuncBuiltin f))) = λ ws xs. (func_known f, xs, refl)
func_begins (Builtin Unknown) = λ ws xs. (func_unknown, xs, refl)
func_begins (Builtin Undeclared) = λ ws xs. (func_undeclared, xs, refl)
func_begins _ = tt

pub term_begins : (l : Leaf) → Builds (term_next l) Term l
term_begins (Key True) = λ ws xs. (constant const_true, xs, refl)
term_begins (Key False) = λ ws xs. (constant const_false, xs, refl)
term_begins (Key External) = λ ws xs.
    let name = xs.1 in let args = name.1.1 in (call name.0 args.0, args.1.1, refl)
term_begins (Int z) = λ ws xs. (constant (const_int z), xs, refl)
term_begins (Str t) = λ ws xs. (constant (const_string t), xs, refl)
term_begins (Typed literal) = λ ws xs. (constant (const_typed literal xs.1.0), xs.1.1, refl)
term_begins (Iri t) = λ ws xs. (constant (const_iri t), xs, refl)
term_begins (Curie t) = λ ws xs. (constant (const_curie t), xs, refl)
term_begins (Local t) = λ ws xs. (constant (const_local t), xs, refl)
term_begins (Var v) = λ ws xs. (variable v, xs, refl)
term_begins _ = tt

join_terms : Joins Term (Terms ∷ []) Terms
join_terms t ws xs = (terms t xs.0, xs.1, refl)

pub terms_begin : (l : Leaf) → Builds (next Terms l) Terms l
terms_begin CloseLeaf = λ ws xs. (no_terms, xs, refl)
terms_begin l = with_others (term_next l) (Terms ∷ []) Term Terms l (term_begins l) join_terms

-- pairs

abbrev pub one_more_pair : TermTree → TermTree → PairsLeft → PairTrees
one_more_pair s v no_pairs = last_pair s v
one_more_pair s v (some_pairs ps) = pairs s v ps

pub put_one_more_pair : (s v : TermTree) (ps : PairsLeft) (ls : List Leaf) →
    put_pairs (one_more_pair s v ps) ls ≡ put_term s (ArrowLeaf ∷ put_term v (put_pairs_left ps ls))
put_one_more_pair s v no_pairs ls = refl
put_one_more_pair s v (some_pairs ps) ls = refl

join_pairs : Joins Term (Arrow ∷ Term ∷ Pairs ∷ []) Pairs
join_pairs s ws xs =
    let value = xs.1 in let left = value.1 in
    (some_pairs (one_more_pair s value.0 left.0), left.1, put_one_more_pair s value.0 left.0 _)

pub pairs_begin : (l : Leaf) → Builds (next Pairs l) Pairs l
pairs_begin CloseSquareLeaf = λ ws xs. (no_pairs, xs, refl)
pairs_begin l = with_others (term_next l) (Arrow ∷ Term ∷ Pairs ∷ []) Term Pairs l (term_begins l) join_pairs

-- a term or a name, and what comes behind it
pub named_begins : (name other w : Want) (l : Leaf) → JoinsName name w → Joins Term (other ∷ []) w →
    Builds (named_next name other l) w l
named_begins name other w (Iri t) by_name by_term = λ ws xs. by_name (name_iri t) ws xs
named_begins name other w (Curie t) by_name by_term = λ ws xs. by_name (name_curie t) ws xs
named_begins name other w (Local t) by_name by_term = λ ws xs. by_name (name_local t) ws xs
named_begins name other w (Typed (IriLiteral t)) by_name by_term = λ ws xs.
    by_name (name_typed_iri t xs.1.0) ws xs.1.1
named_begins name other w (Typed (LocalLiteral t)) by_name by_term = λ ws xs.
    by_name (name_typed_local t xs.1.0) ws xs.1.1
named_begins name other w l by_name by_term =
    with_others (term_next l) (other ∷ []) Term w l (term_begins l) by_term
