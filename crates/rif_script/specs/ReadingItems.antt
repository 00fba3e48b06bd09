-- Reading what a client sends as functions on leaves: what is given, or nothing. No public clause cites this module.
--     const_from ls       the constant at the front, and the leaves behind it
--     fact_from ls        the fact that all the leaves are
--     item_from text ls   the item of a word, with the leaves behind it
--     sent_from           a client's name and its item, which all tokens of a line are
use Rattle.std.specs.Prelude.{ℕ, ℤ, pos, negsuc, zero, suc, ◌&&◌, Bool, true, false, if◌then◌else◌, List, [], ◌∷◌}
use Rattle.std.specs.Prelude.{◌++◌, Option, Some, None, codes, bytes_eq, drop, length}
use Rattle.rif_values.specs.declared.constant.Const.{Const}
use Rattle.rif_values.specs.declared.constant.Const.TheVariants.{Int as IntConst, Bool as BoolConst, Str as StrConst}
use Rattle.rif_values.specs.declared.constant.Const.TheVariants.{Iri as IriConst, Local as LocalConst, Fresh}
use Rattle.rif_values.specs.declared.change.Change.{Change}
use Rattle.rif_values.specs.declared.change.Change.TheVariants.{Assert, Retract, RetractSlot, RetractObject, Modify}
use Rattle.rif_values.specs.declared.fact.Fact.{Fact}
use Rattle.rif_values.specs.declared.fact.Fact.TheVariants.{Atom, Frame, Member}
use Rattle.rif_lex.specs.declared.token.Kind.{Kind}
use Rattle.rif_lex.specs.declared.token.Kind.TheVariants.{Word}
use Rattle.rif_lex.specs.Spelling.{Written}
use Rattle.prd_grammar.specs.declared.leaf.Keyword.{Keyword}
use Rattle.prd_grammar.specs.declared.leaf.Keyword.TheVariants.{True, False}
use Rattle.prd_grammar.specs.declared.leaf.Literal.{Literal}
use Rattle.prd_grammar.specs.declared.leaf.Literal.TheVariants.{Integer, Boolean, String, Iri as IriLiteral}
use Rattle.prd_grammar.specs.declared.leaf.Literal.TheVariants.{Local as LocalLiteral, OfNoType}
use Rattle.prd_grammar.specs.declared.leaf.Leaf.{Leaf}
use Rattle.prd_grammar.specs.declared.leaf.Leaf.TheVariants.{Key, Int, Str, Typed, TypeName, Iri, Curie, Local, Open}
use Rattle.prd_grammar.specs.declared.leaf.Leaf.TheVariants.{Close, OpenSquare, CloseSquare, Hash, Arrow, Carets}
use Rattle.prd_grammar.specs.Prefixes.{Prefixes}
use Rattle.session_states.specs.declared.item.Item.{Item}
use Rattle.session_states.specs.declared.item.Item.TheVariants.{Change as Changing, Fire, Until, Halt, Dispose}
use Rattle.rif_script.specs.Jobs.{is_client_name, sent_leaves}

infixl 10 ◌>>=◌
abbrev pub ◌>>=◌ : {A B : Type 0} → Option A → (A → Option B) → Option B
None >>= f = None
(Some x) >>= f = f x

-- what was found, where no leaf is left
abbrev pub whole : {A : Type 0} → List Leaf → A → Option A
whole [] x = Some x
whole (l ∷ ls) x = None

abbrev pub int_const : Option ℤ → Option Const
int_const None = None
int_const (Some z) = Some (IntConst z)

abbrev pub iri_const : Option (List ℕ) → Option Const
iri_const None = None
iri_const (Some t) = Some (IriConst t)

abbrev pub truth_const : Keyword → Option Const
truth_const True = Some (BoolConst true)
truth_const False = Some (BoolConst false)
truth_const _ = None

abbrev pub literal_const : Literal → Option Const
literal_const (Integer z) = int_const z
literal_const (Boolean b) = Some (BoolConst b)
literal_const (String t) = Some (StrConst t)
literal_const (IriLiteral t) = Some (IriConst t)
literal_const (LocalLiteral t) = Some (LocalConst t)
literal_const OfNoType = None

-- the constant that one leaf is
abbrev pub const_of : Leaf → Option Const
const_of (Key k) = truth_const k
const_of (Int z) = int_const z
const_of (Str t) = Some (StrConst t)
const_of (Iri t) = Some (IriConst t)
const_of (Curie t) = iri_const t
const_of (Local t) = Some (LocalConst t)
const_of _ = None

abbrev pub is_carets : Leaf → Bool
is_carets Carets = true
is_carets _ = false

abbrev pub is_known_type : Leaf → Bool
is_known_type (TypeName known) = known
is_known_type _ = false

-- the leaves behind `^^` and one of the types
abbrev pub past_name : List Leaf → Option (List Leaf)
past_name [] = None
past_name (l ∷ ls) = if is_known_type l then Some ls else None

abbrev pub past_type : List Leaf → Option (List Leaf)
past_type [] = None
past_type (l ∷ ls) = if is_carets l then past_name ls else None

-- the constant that begins with a leaf
abbrev pub const_behind : List Leaf → Leaf → Option (Const × List Leaf)
const_behind ls (Typed literal) = past_type ls >>= λ rest. literal_const literal >>= λ c. Some (c, rest)
const_behind ls l = const_of l >>= λ c. Some (c, ls)

unfoldable pub const_from : List Leaf → Option (Const × List Leaf)
const_from [] = None
const_from (l ∷ ls) = const_behind ls l

abbrev pub begins_close : List Leaf → Bool
begins_close (Close ∷ ls) = true
begins_close _ = false

-- constants up to a bracket and what stands behind it, where there are fewer than so many
unfoldable pub consts_from : ℕ → List Leaf → Option (List Const × List Leaf)
consts_from zero ls = None
consts_from (suc n) ls =
    if begins_close ls then Some ([], drop 1 ls)
    else (const_from ls >>= λ c. consts_from n c.1 >>= λ more. Some (c.0 ∷ more.0, more.1))

-- the same behind constants that were read before
abbrev pub consts_after : List Const → Option (List Const × List Leaf) → Option (List Const × List Leaf)
consts_after before None = None
consts_after before (Some more) = Some (before ++ more.0, more.1)

-- whether a constant may be a name
abbrev pub is_name : Const → Bool
is_name (IntConst z) = false
is_name (BoolConst b) = false
is_name (StrConst t) = false
is_name (IriConst t) = true
is_name (LocalConst t) = true
is_name (Fresh k) = false

abbrev pub past_arrow : List Leaf → Option (List Leaf)
past_arrow (Arrow ∷ ls) = Some ls
past_arrow _ = None

abbrev pub past_close_square : List Leaf → Option (List Leaf)
past_close_square (CloseSquare ∷ ls) = Some ls
past_close_square _ = None

unfoldable pub member_from : Const → List Leaf → Option Fact
member_from o ls = const_from ls >>= λ c. whole c.1 (Member o c.0)

unfoldable pub frame_from : Const → List Leaf → Option Fact
frame_from o ls = do
  s ← const_from ls
  behind ← past_arrow s.1
  v ← const_from behind
  rest ← past_close_square v.1
  whole rest (Frame o s.0 v.0)

unfoldable pub atom_from : Const → List Leaf → Option Fact
atom_from p ls =
    if is_name p then (consts_from (length ls) ls >>= λ cs. whole cs.1 (Atom p cs.0)) else None

-- the fact that begins with a constant, and goes on with the leaf
abbrev pub fact_behind : Const → List Leaf → Leaf → Option Fact
fact_behind o ls Hash = member_from o ls
fact_behind o ls OpenSquare = frame_from o ls
fact_behind o ls Open = atom_from o ls
fact_behind o ls _ = None

abbrev pub fact_with : Const → List Leaf → Option Fact
fact_with o [] = None
fact_with o (l ∷ ls) = fact_behind o ls l

unfoldable pub fact_from : List Leaf → Option Fact
fact_from ls = const_from ls >>= λ o. fact_with o.0 o.1

-- whether a fact goes on with the leaf
abbrev pub is_fact_sign : Leaf → Bool
is_fact_sign Hash = true
is_fact_sign OpenSquare = true
is_fact_sign Open = true
is_fact_sign _ = false

abbrev pub begins_fact_sign : List Leaf → Bool
begins_fact_sign [] = false
begins_fact_sign (l ∷ ls) = is_fact_sign l

-- what may be retracted, where it begins with a constant
unfoldable pub slot_with : Const → List Leaf → Option Change
slot_with o ls = const_from ls >>= λ s. whole s.1 (RetractSlot o s.0)

-- the same, where the slot begins with a leaf
abbrev pub slot_behind : Const → List Leaf → Leaf → Option Change
slot_behind o ls l = const_behind ls l >>= λ s. whole s.1 (RetractSlot o s.0)

abbrev pub fact_retracted : Const → List Leaf → Leaf → Option Change
fact_retracted o ls l = fact_behind o ls l >>= λ fact. Some (Retract fact)

abbrev pub retracted_with : Const → List Leaf → Option Change
retracted_with o [] = Some (RetractObject o)
retracted_with o (l ∷ ls) =
    if is_fact_sign l then fact_retracted o ls l else slot_with o (l ∷ ls)

unfoldable pub retracted_from : List Leaf → Option Change
retracted_from ls = const_from ls >>= λ o. retracted_with o.0 o.1

abbrev pub modify_of : Fact → Option Change
modify_of (Atom p cs) = None
modify_of (Frame o s v) = Some (Modify o s v)
modify_of (Member o c) = None

unfoldable pub modified_from : List Leaf → Option Change
modified_from ls = fact_from ls >>= λ fact. modify_of fact

unfoldable pub asserted_from : List Leaf → Option Change
asserted_from ls = fact_from ls >>= λ fact. Some (Assert fact)

abbrev pub natural_of : ℤ → Option ℕ
natural_of (pos n) = Some n
natural_of (negsuc n) = None

abbrev pub number_of : Leaf → Option ℕ
number_of (Int z) = z >>= λ number. natural_of number
number_of _ = None

unfoldable pub number_from : List Leaf → Option ℕ
number_from [] = None
number_from (l ∷ ls) = number_of l >>= λ n. whole ls n

-- the item of a word, with the leaves behind it
unfoldable pub item_from : List ℕ → List Leaf → Option Item
item_from text ls =
    if bytes_eq text (codes "assert") then (asserted_from ls >>= λ c. Some (Changing c))
    else (if bytes_eq text (codes "retract") then (retracted_from ls >>= λ c. Some (Changing c))
    else (if bytes_eq text (codes "modify") then (modified_from ls >>= λ c. Some (Changing c))
    else (if bytes_eq text (codes "fire") then (number_from ls >>= λ n. Some (Fire n))
    else (if bytes_eq text (codes "until") then (number_from ls >>= λ n. Some (Until n))
    else (if bytes_eq text (codes "halt") then whole ls Halt
    else (if bytes_eq text (codes "dispose") then whole ls Dispose
    else None))))))

abbrev pub is_word_kind : Kind → Bool
is_word_kind Word = true
is_word_kind _ = false

-- the text of a word
abbrev pub word_text : Written → Option (List ℕ)
word_text w = if is_word_kind w.kind then Some w.text else None

unfoldable pub name_of : Written → Option (List ℕ)
name_of w = if is_word_kind w.kind && is_client_name w.text then Some w.text else None

-- what all tokens of a line are
unfoldable pub sent_from : Prefixes → List Written → Option (List ℕ × Item)
sent_from prefixes [] = None
sent_from prefixes (n ∷ []) = None
sent_from prefixes (n ∷ w ∷ ws) = do
  name ← name_of n
  text ← word_text w
  item ← item_from text (sent_leaves prefixes ws)
  Some (name, item)

-- what the tokens of a line give, of which there may be none
abbrev pub given_from : Prefixes → List Written → Option (Option (List ℕ × Item))
given_from prefixes [] = Some None
given_from prefixes (w ∷ ws) = sent_from prefixes (w ∷ ws) >>= λ sent. Some (Some sent)
