-- The leaves that are left to read of a line, one by one. No public clause cites this module.
--     seen t              the leaves of the tokens that are left
--     leaves_past ls t    the same, straight behind these leaves, of which the newest stands first
--     Gives               what a call answers, as a view shows it, or that it answers nothing
use Rattle.std.specs.Prelude.{◌≡◌, Bool, true, false, List, ◌∷◌, drop, map, Option, Some, None, Ok, Err}
use Rattle.std.specs.declared.result.Result.{Result}
use Rattle.rif_lex.specs.Spelling.{Written, written}
use Rattle.prd_grammar.specs.declared.leaf.Keyword.{Keyword}
use Rattle.prd_grammar.specs.declared.leaf.Keyword.TheVariants.{True, False}
use Rattle.prd_grammar.specs.declared.leaf.Leaf.{Leaf}
use Rattle.prd_grammar.specs.declared.leaf.Leaf.TheVariants.{Key, LeftOut, Word, Carets}
use Rattle.prd_leaves.specs.Leaves.{leaves_from, prefixes_with}
use Rattle.rif_script.specs.declared.sent_tokens.SentTokens.{SentTokens}
use Rattle.rif_script.specs.declared.line_fault.LineFault.{LineFault}
use Rattle.rif_script.specs.declared.line_fault.LineFault.TheVariants.{Bad, OutOfMemory}
use Rattle.rif_script.specs.Jobs.{sent_leaves}

-- what a call answered, as a view shows it, is what is given; and it answers nothing where nothing is given, or where
-- memory ran out
abbrev pub Gives : {X Y : Type 0} → (X → Y) → Result X LineFault → Option Y → Type 0
Gives view (Ok x) given = given ≡ Some (view x)
Gives view (Err Bad) given = given ≡ None
Gives view (Err OutOfMemory) given = Unit {0}

abbrev pub texts_left : SentTokens → List Written
texts_left t = map (written t.bytes.now) (drop t.at t.tokens.now)

abbrev pub seen : SentTokens → List Leaf
seen t = sent_leaves t.prefixes.now (texts_left t)

abbrev pub leaves_past : List Leaf → SentTokens → List Leaf
leaves_past front t = leaves_from t.prefixes.now front (texts_left t)

-- what was read straight behind a front: a leaf, and what is left behind it
abbrev pub IsNext : SentTokens → List Leaf → Leaf × SentTokens → Type 0
IsNext t front read =
    (leaves_past front t ≡
    read.0 ∷ leaves_from (prefixes_with t.prefixes.now front read.0) (read.0 ∷ front) (texts_left read.1))
    × (read.1.prefixes.now ≡ t.prefixes.now)

abbrev pub with_seen : {X : Type 0} → X × SentTokens → X × List Leaf
with_seen found = (found.0, seen found.1)

-- a leaf after which the leaves are as at the front of a line: it isn't a word but a truth value, nor `^^`
abbrev pub is_truth : Keyword → Bool
is_truth True = true
is_truth False = true
is_truth _ = false

abbrev pub is_calm : Leaf → Bool
is_calm (Key k) = is_truth k
is_calm (Word t) = false
is_calm LeftOut = false
is_calm Carets = false
is_calm _ = true
