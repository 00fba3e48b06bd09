-- How the code goes about the leaf of a token: by what stands straight before it.
--     behind front    what stands straight before a token
--     front_of b      the shortest front of that kind
use Rattle.std.specs.Prelude.{ℕ, List, [], ◌∷◌, IsUtf8}
use Rattle.rif_lex.specs.declared.token.Token.{Token}
use Rattle.rif_lex.specs.Spelling.{Written, written, IsToken}
use Rattle.prd_grammar.specs.declared.leaf.Keyword.TheVariants.{Prefix as PrefixKey, External as ExternalKey}
use Rattle.prd_grammar.specs.declared.leaf.Literal.TheVariants.{OfNoType}
use Rattle.prd_grammar.specs.declared.leaf.Leaf.{Leaf}
use Rattle.prd_grammar.specs.declared.leaf.Leaf.TheVariants.{Key, Typed, Open, Carets as CaretsLeaf}
use Rattle.prd_leaves.specs.declared.behind.Behind.{Behind}
use Rattle.prd_leaves.specs.declared.behind.Behind.TheVariants.{Prefix, External, Carets, Other}
use Rattle.prd_grammar.specs.Prefixes.{Prefixes}
use Rattle.prd_leaves.specs.Leaves.{typed_leaf}

-- the newest leaf stands first
abbrev pub behind : List Leaf → Behind
behind (Open ∷ Key PrefixKey ∷ front) = Prefix
behind (Open ∷ Key ExternalKey ∷ front) = External
behind (CaretsLeaf ∷ front) = Carets
behind _ = Other

abbrev pub front_of : Behind → List Leaf
front_of Prefix = Open ∷ Key PrefixKey ∷ []
front_of External = Open ∷ Key ExternalKey ∷ []
front_of Carets = CaretsLeaf ∷ []
front_of Other = []

-- the slice of the token's span is UTF-8, and alone one token of its kind
pub record IsTokenOf (bytes : List ℕ) (t : Token) : Type 0 where
  pub utf8 : IsUtf8 (written bytes t).text
  pub form : IsToken (written bytes t)

-- a string by what stands behind its `^^`
abbrev pub literal_by : Prefixes → List ℕ → List Written → Leaf
literal_by prefixes t [] = Typed OfNoType
literal_by prefixes t (w ∷ rest) = typed_leaf prefixes t w

-- a front behind which some leaves stand, the newest first
abbrev pub front_from : List Leaf → List Leaf → List Leaf
front_from front [] = front
front_from front (l ∷ ls) = front_from (l ∷ front) ls
