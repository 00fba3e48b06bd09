-- The leaves that constants and built-ins' names of the canonical spelling lead to.
use Rattle.std.proofs.Common.{◌≡◌, ℕ, ℤ, Bool, true, false, if◌then◌else◌, Some, List, [], ◌∷◌, map, refl, ap, ◌∙◌}
use Rattle.std.proofs.Common.{true≢false}
use Rattle.std.specs.Fmt.{signed_decimal}
use Rattle.rif_tree.specs.declared.builtin.Func.{Func}
use Rattle.rif_tree.specs.declared.builtin.Func.TheVariants.{NumericAdd, NumericSubtract, NumericMultiply}
use Rattle.rif_tree.specs.declared.builtin.Func.TheVariants.{NumericIntegerDivide, NumericIntegerMod, Not as NotFunc}
use Rattle.rif_tree.specs.declared.builtin.Func.TheVariants.{Concat, StringLength}
use Rattle.rif_tree.specs.declared.builtin.Pred.{Pred}
use Rattle.rif_tree.specs.declared.builtin.Pred.TheVariants.{NumericEqual, NumericNotEqual, NumericLessThan}
use Rattle.rif_tree.specs.declared.builtin.Pred.TheVariants.{NumericLessThanOrEqual, NumericGreaterThan}
use Rattle.rif_tree.specs.declared.builtin.Pred.TheVariants.{NumericGreaterThanOrEqual, BooleanEqual}
use Rattle.rif_tree.specs.declared.builtin.Pred.TheVariants.{BooleanLessThan}
use Rattle.rif_tree.specs.declared.builtin.Pred.TheVariants.{BooleanGreaterThan, StartsWith, EndsWith, Contains}
use Rattle.rif_tree.specs.declared.builtin.Pred.TheVariants.{IsLiteralInteger, IsLiteralString, IsLiteralBoolean}
use Rattle.rif_values.specs.declared.constant.Const.{Const}
use Rattle.rif_values.specs.declared.constant.Const.TheVariants.{Int, Bool as BoolConst, Str, Iri, Local, Fresh}
use Rattle.rif_values.specs.Writing.{const_text}
use Rattle.rif_lex.specs.declared.token.Kind.{Kind}
use Rattle.rif_lex.specs.declared.token.Kind.TheVariants.{Int as IntKind, Str as StrKind, Iri as IriKind}
use Rattle.rif_lex.specs.declared.token.Kind.TheVariants.{Local as LocalKind, Carets}
use Rattle.rif_lex.specs.Spelling.{Written, Gap, Spelled}
use Rattle.prd_grammar.specs.declared.leaf.Keyword.TheVariants.{True, False}
use Rattle.prd_grammar.specs.declared.leaf.Builtin.TheVariants.{Func as FuncBuiltin, Pred as PredBuiltin}
use Rattle.prd_grammar.specs.declared.leaf.BuiltinName.TheVariants.{Known}
use Rattle.prd_grammar.specs.declared.leaf.Leaf.{Leaf}
use Rattle.prd_grammar.specs.declared.leaf.Leaf.TheVariants.{Int as IntLeaf, Str as StrLeaf, TypeName as TypeLeaf}
use Rattle.prd_grammar.specs.declared.leaf.Leaf.TheVariants.{Iri as IriLeaf, Builtin as BuiltinLeaf}
use Rattle.prd_grammar.specs.declared.leaf.Leaf.TheVariants.{Local as LocalLeaf}
use Rattle.prd_writing.specs.Canonical.{const_spelling, func_text, pred_text}
use Rattle.prd_canonical.specs.CanonicalTrees.{const_tree, canonical_name}
use Rattle.prd_leaves.specs.Leaves.{inner, curie_iri, builtin_of, is_type_name, named_leaf, string_leaf}
use Rattle.prd_leaves.specs.Leaves.{is_behind_external}
use Rattle.prd_leaves.specs.Literals.{unescaped}
use Rattle.prd_grammar.specs.Trees.{NameTree, name_iri, name_curie, name_local, name_typed_iri, name_typed_local}
use Rattle.prd_grammar.specs.Values.{name_value, text_or}
use Rattle.prd_canonical.specs.Writable.{IsWritableConst, IsWritableInt, IsWritableName}
use Rattle.prd_canonical.proofs.CanonicalTextLemmas.{string_is, iri_is}
use Rattle.prd_grammar.proofs.CallerLemmas.{put_const, put_name}
use Rattle.prd_canonical.proofs.ConstantTextLemmas.{is_low_text, const_utf8}
use Rattle.prd_canonical.proofs.CanonicalLeavesLemmas.{token_of, IsPlain, is_carets, begins_carets, Lead}
use Rattle.prd_canonical.proofs.CanonicalLeavesLemmas.{lead_settled}
use Rattle.prd_canonical.proofs.LeadingTokenLemmas.{lead_word}

-- a string behind which no `^^` stands is one by itself
string_by : (kind : Kind) (text t : List ℕ) (rest : List Written) → is_carets kind ≡ false →
    string_leaf [] t (record { kind = kind; text = text } ∷ rest) ≡ StrLeaf t
string_by Carets text t rest h = absurd (true≢false h)
string_by kind text t [] h = refl
string_by kind text t (w ∷ rest) h = refl

string_alone : (t : List ℕ) (rest : List Spelled) → begins_carets rest ≡ false →
    string_leaf [] t (map token_of rest) ≡ StrLeaf t
string_alone t [] h = refl
string_alone t (s ∷ ss) h = string_by s.token.kind s.token.text t (map token_of ss) h

iri_alone : (t : List ℕ) (front : List Leaf) → IsPlain front → named_leaf front (Some t) (IriLeaf t) ≡ IriLeaf t
iri_alone t front plain =
    ap (λ (b : Bool). if b then TypeLeaf (is_type_name (Some t))
    else (if is_behind_external front then BuiltinLeaf (builtin_of (Some t)) else IriLeaf t)) plain.no_carets
    ∙ ap (λ (b : Bool). if b then BuiltinLeaf (builtin_of (Some t)) else IriLeaf t) plain.no_external

pub lead_integer : {rest : List Spelled} {ls : List Leaf} (z : ℤ) (gap : Gap) → IsWritableInt z → Lead rest ls →
    Lead (const_spelling (Int z) gap rest) (IntLeaf (Some z) ∷ ls)
lead_integer z gap w more =
    lead_settled IntKind (signed_decimal z) gap (IntLeaf (Some z)) (const_utf8 (Int z) w) refl
    (λ front plain. ap IntLeaf w.read_back) refl more

pub lead_const : {rest : List Spelled} {ls : List Leaf} (c : Const) (gap : Gap) → IsWritableConst c → Lead rest ls →
    Lead (const_spelling c gap rest) (put_const (const_tree c) ls)
lead_const (Int z) gap w more = lead_integer z gap w more
lead_const (BoolConst true) gap w more = lead_word True (const_text (BoolConst true)) gap refl refl refl more
lead_const (BoolConst false) gap w more = lead_word False (const_text (BoolConst false)) gap refl refl refl more
lead_const {rest} (Str t) gap w more =
    lead_settled StrKind (const_text (Str t)) gap (StrLeaf t) (const_utf8 (Str t) w) refl
    (λ front plain. string_alone (unescaped (inner (const_text (Str t)))) rest more.no_type
    ∙ ap StrLeaf (string_is t))
    refl more
lead_const (Iri t) gap w more =
    lead_settled IriKind (const_text (Iri t)) gap (IriLeaf t) (const_utf8 (Iri t) w) refl
    (λ front plain. iri_alone (inner (const_text (Iri t))) front plain ∙ ap IriLeaf (iri_is t)) refl more
lead_const (Local t) gap w more =
    lead_settled LocalKind (const_text (Local t)) gap (LocalLeaf t) (const_utf8 (Local t) w) refl
    (λ front plain. refl)
    refl more
lead_const (Fresh k) gap w more = absurd w

pub lead_name : {rest : List Spelled} {ls : List Leaf} (n : NameTree) (gap : Gap) → IsWritableName n → Lead rest ls →
    Lead (const_spelling (name_value n) gap rest) (put_name (canonical_name n) ls)
lead_name (name_iri t) gap w more = lead_const (Iri t) gap w more
lead_name (name_curie t) gap w more = lead_const (Iri (text_or [] t)) gap w more
lead_name (name_local t) gap w more = lead_const (Local t) gap w more
lead_name (name_typed_iri t known) gap w more = lead_const (Iri t) gap w more
lead_name (name_typed_local t known) gap w more = lead_const (Local t) gap w more

-- the names of built-ins are known without a declaration

pub func_ascii : (f : Func) → is_low_text (func_text f) ≡ true
func_ascii NumericAdd = refl
func_ascii NumericSubtract = refl
func_ascii NumericMultiply = refl
func_ascii NumericIntegerDivide = refl
func_ascii NumericIntegerMod = refl
func_ascii NotFunc = refl
func_ascii Concat = refl
func_ascii StringLength = refl

pub func_known_by : (f : Func) → builtin_of (curie_iri [] (func_text f)) ≡ Known (FuncBuiltin f)
func_known_by NumericAdd = refl
func_known_by NumericSubtract = refl
func_known_by NumericMultiply = refl
func_known_by NumericIntegerDivide = refl
func_known_by NumericIntegerMod = refl
func_known_by NotFunc = refl
func_known_by Concat = refl
func_known_by StringLength = refl

pub pred_ascii : (p : Pred) → is_low_text (pred_text p) ≡ true
pred_ascii NumericEqual = refl
pred_ascii NumericNotEqual = refl
pred_ascii NumericLessThan = refl
pred_ascii NumericLessThanOrEqual = refl
pred_ascii NumericGreaterThan = refl
pred_ascii NumericGreaterThanOrEqual = refl
pred_ascii BooleanEqual = refl
pred_ascii BooleanLessThan = refl
pred_ascii BooleanGreaterThan = refl
pred_ascii StartsWith = refl
pred_ascii EndsWith = refl
pred_ascii Contains = refl
pred_ascii IsLiteralInteger = refl
pred_ascii IsLiteralString = refl
pred_ascii IsLiteralBoolean = refl

pub pred_known_by : (p : Pred) → builtin_of (curie_iri [] (pred_text p)) ≡ Known (PredBuiltin p)
pred_known_by NumericEqual = refl
pred_known_by NumericNotEqual = refl
pred_known_by NumericLessThan = refl
pred_known_by NumericLessThanOrEqual = refl
pred_known_by NumericGreaterThan = refl
pred_known_by NumericGreaterThanOrEqual = refl
pred_known_by BooleanEqual = refl
pred_known_by BooleanLessThan = refl
pred_known_by BooleanGreaterThan = refl
pred_known_by StartsWith = refl
pred_known_by EndsWith = refl
pred_known_by Contains = refl
pred_known_by IsLiteralInteger = refl
pred_known_by IsLiteralString = refl
pred_known_by IsLiteralBoolean = refl
