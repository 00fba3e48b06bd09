-- The literal of a text of UTF-8 can be written.
use Rattle.std.proofs.Common.{◌≡◌, ◌||◌, ℕ, Bool, true, false, cond, List, ◌++◌, refl, Some, None, bytes_eq, IsUtf8}
use Rattle.std.specs.Prelude.{Option, codes}
use Rattle.std.proofs.lemmas.Str.{IsUtf8-nil}
use Rattle.prd_grammar.specs.declared.leaf.Literal.{Literal}
use Rattle.prd_grammar.specs.declared.leaf.Literal.TheVariants.{Integer, Boolean, String, Iri, Local, OfNoType}
use Rattle.prd_leaves.specs.Literals.{integer_of, is_integer_text, is_iri_text, is_name_text, boolean_of, literal_of}
use Rattle.prd_grammar.specs.Prefixes.{xs_namespace, rif_namespace}
use Rattle.prd_leaves.specs.Leaves.{spelling_leaf, literal_leaf}
use Rattle.prd_grammar.specs.Values.{literal_value}
use Rattle.prd_canonical.specs.Writable.{IsWritableConst}
use Rattle.prd_canonical.specs.WritableLeaves.{IsWritableLeaf}
use Rattle.prd_canonical.proofs.WritableIntegerLemmas.{writable_integer}
use Rattle.prd_canonical.proofs.WritableTextLemmas.{iri_tested, name_tested}

record MayBeLiteral (l : Option Literal) : Type 0 where
  fit : IsWritableLeaf (spelling_leaf l)

either_literal : (test : Bool) (x y : Option Literal) → (test ≡ true → MayBeLiteral x) → MayBeLiteral y →
    MayBeLiteral (cond test x y)
either_literal true x y first second = first refl
either_literal false x y first second = second

this : (l : Literal) → IsWritableConst (literal_value l) → MayBeLiteral (Some l)
this l fit = record { fit = fit }

none : MayBeLiteral None
none = record { fit = tt }

boolean : (text : List ℕ) → MayBeLiteral (boolean_of text)
boolean text =
    either_literal (bytes_eq text (codes "true") || bytes_eq text (codes "1")) (Some (Boolean true)) _
    (λ _. this (Boolean true) tt)
    (either_literal (bytes_eq text (codes "false") || bytes_eq text (codes "0")) (Some (Boolean false)) None
    (λ _. this (Boolean false) tt) none)

integer : (test : Bool) (text : List ℕ) → MayBeLiteral (cond test (Some (Integer (integer_of text))) None)
integer true text = this (Integer (integer_of text)) (writable_integer text)
integer false text = none

iri_literal : (text : List ℕ) → IsUtf8 text → MayBeLiteral (cond (is_iri_text text) (Some (Iri text)) None)
iri_literal text utf8 =
    either_literal (is_iri_text text) (Some (Iri text)) None (λ is. this (Iri text) (iri_tested text is utf8)) none

name_literal : (text : List ℕ) → IsUtf8 text → MayBeLiteral (cond (is_name_text text) (Some (Local text)) None)
name_literal text utf8 =
    either_literal (is_name_text text) (Some (Local text)) None
    (λ is. this (Local text) (name_tested text is utf8)) none

literal : (iri text : List ℕ) → IsUtf8 text → MayBeLiteral (literal_of iri text)
literal iri text utf8 =
    either_literal (bytes_eq iri (xs_namespace ++ codes "integer"))
    (cond (is_integer_text text) (Some (Integer (integer_of text))) None) _ (λ _. integer (is_integer_text text) text)
    (either_literal (bytes_eq iri (xs_namespace ++ codes "boolean")) (boolean_of text) _ (λ _. boolean text)
    (either_literal (bytes_eq iri (xs_namespace ++ codes "string")) (Some (String text)) _
    (λ _. this (String text) utf8)
    (either_literal (bytes_eq iri (rif_namespace ++ codes "iri")) (cond (is_iri_text text) (Some (Iri text)) None) _
    (λ _. iri_literal text utf8)
    (either_literal (bytes_eq iri (rif_namespace ++ codes "local"))
    (cond (is_name_text text) (Some (Local text)) None) (Some OfNoType) (λ _. name_literal text utf8)
    (this OfNoType IsUtf8-nil)))))

-- a string whose type has this IRI, or none
pub writable_literal : (text : List ℕ) (iri : Option (List ℕ)) → IsUtf8 text → IsWritableLeaf (literal_leaf text iri)
writable_literal text None utf8 = IsUtf8-nil
writable_literal text (Some iri) utf8 = (literal iri text utf8).fit
