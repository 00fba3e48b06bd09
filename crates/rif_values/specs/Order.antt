-- The orders of constants, facts and bindings.
--     const_cmp        by kind, and within a kind by value or bytes
--     fact_cmp         by kind, and within a kind field by field
--     binding_cmp      as lists of pairs of a variable and its value
-- Source: the project's own (docs/PROFILE.md, "Order").
use Rattle.std.specs.Prelude.{ℕ, List}
use Rattle.std.specs.declared.cmp.Ordering.{Ordering}
use Rattle.std.specs.Ordering.{ordering_then, nat_cmp, int_cmp, bool_cmp}
use Rattle.std.specs.Cmp.Lexicographic.{slice_cmp}
use Rattle.rif_values.specs.declared.constant.Const.{Const}
use Rattle.rif_values.specs.declared.constant.Const.TheVariants.{Int, Bool, Str, Iri, Local, Fresh}
use Rattle.rif_values.specs.declared.fact.Fact.{Fact}
use Rattle.rif_values.specs.declared.fact.Fact.TheVariants.{Atom, Frame, Member}
use Rattle.rif_values.specs.Bindings.{Row}

-- texts are compared by bytes
abbrev pub text_cmp : List ℕ → List ℕ → Ordering
text_cmp = slice_cmp nat_cmp

-- the place of a constant's kind: Int, Bool, Str, Iri, Local, Fresh
abbrev pub const_kind : Const → ℕ
const_kind (Int n) = 0
const_kind (Bool b) = 1
const_kind (Str t) = 2
const_kind (Iri t) = 3
const_kind (Local t) = 4
const_kind (Fresh k) = 5

abbrev pub const_cmp : Const → Const → Ordering
const_cmp (Int a) (Int b) = int_cmp a b
const_cmp (Bool a) (Bool b) = bool_cmp a b
const_cmp (Str a) (Str b) = text_cmp a b
const_cmp (Iri a) (Iri b) = text_cmp a b
const_cmp (Local a) (Local b) = text_cmp a b
const_cmp (Fresh a) (Fresh b) = nat_cmp a b
const_cmp a b = nat_cmp (const_kind a) (const_kind b)

-- the place of a fact's kind: Atom, Frame, Member
abbrev pub fact_kind : Fact → ℕ
fact_kind (Atom p cs) = 0
fact_kind (Frame o s v) = 1
fact_kind (Member o c) = 2

abbrev pub fact_cmp : Fact → Fact → Ordering
fact_cmp (Atom p cs) (Atom q ds) = ordering_then (const_cmp p q) (slice_cmp const_cmp cs ds)
fact_cmp (Frame o s v) (Frame p t w) = ordering_then (const_cmp o p) (ordering_then (const_cmp s t) (const_cmp v w))
fact_cmp (Member o c) (Member p d) = ordering_then (const_cmp o p) (const_cmp c d)
fact_cmp f g = nat_cmp (fact_kind f) (fact_kind g)

-- variables first, and where these are the same the values
abbrev pub pair_cmp : ℕ × Const → ℕ × Const → Ordering
pair_cmp p q = ordering_then (nat_cmp p.0 q.0) (const_cmp p.1 q.1)

abbrev pub binding_cmp : Row → Row → Ordering
binding_cmp = slice_cmp pair_cmp
