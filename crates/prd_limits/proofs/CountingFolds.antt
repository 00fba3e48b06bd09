-- Two small folds that each tell one side of what is counted along a rule's leaves.
--     course ls d a      where leaves lead: to a `Do`, or to a bracket that closes what was open before them
--     signs s m n ls     the patterns among leaves up to a `Do`, and those before
use Rattle.std.proofs.Common.{ℕ, suc, zero, Bool, false, not, List, [], ◌∷◌}
use Rattle.std.specs.Prelude.{if◌then◌else◌}
use Rattle.prd_grammar.specs.declared.leaf.Keyword.TheVariants.{Do, Assert, Retract, Modify}
use Rattle.prd_grammar.specs.declared.leaf.Literal.TheVariants.{Iri as IriLiteral, Local as LocalLiteral}
use Rattle.prd_grammar.specs.declared.leaf.Leaf.{Leaf}
use Rattle.prd_grammar.specs.declared.leaf.Leaf.TheVariants.{Key, Typed, TypeName as TypeLeaf, Iri, Curie, Local}
use Rattle.prd_grammar.specs.declared.leaf.Leaf.TheVariants.{Open}
use Rattle.prd_grammar.specs.declared.leaf.Leaf.TheVariants.{Close, OpenSquare, CloseSquare, Carets}
use Rattle.prd_grammar.specs.Progress.{takes_term, is_sign_of_pattern}

pub data Course : Type 0 where
  -- neither
  lasts : Course
  -- a `Do` at this depth, the actions before it, and what follows it
  meets : ℕ → ℕ → List Leaf → Course
  -- the bracket that closes what was open before, likewise
  falls : ℕ → List Leaf → Course

-- by the brackets that are open since the beginning, and the actions so far
abbrev pub course : List Leaf → ℕ → ℕ → Course
course [] d a = lasts
course (Open ∷ ls) d a = course ls (suc d) a
course (OpenSquare ∷ ls) d a = course ls (suc d) a
course (Close ∷ ls) zero a = falls a ls
course (Close ∷ ls) (suc d) a = course ls d a
course (CloseSquare ∷ ls) zero a = lasts
course (CloseSquare ∷ ls) (suc d) a = course ls d a
course (Key Do ∷ ls) d a = meets d a ls
course (Key Assert ∷ ls) d a = course ls d (suc a)
course (Key Retract ∷ ls) d a = course ls d (suc a)
course (Key Modify ∷ ls) d a = course ls d (suc a)
course (l ∷ ls) d a = course ls d a

-- whether a name that may be a predicate has come last: after a sign that takes a term none has
abbrev pub named_by : Bool → Bool → Leaf → Bool
named_by after_sign named (Iri t) = not after_sign
named_by after_sign named (Curie t) = not after_sign
named_by after_sign named (Local t) = not after_sign
named_by after_sign named (Typed (IriLiteral t)) = not after_sign
named_by after_sign named (Typed (LocalLiteral t)) = not after_sign
named_by after_sign named Carets = named
named_by after_sign named (TypeLeaf known) = named
named_by after_sign named _ = false

abbrev pub signs : Bool → Bool → ℕ → List Leaf → ℕ
signs after_sign named n [] = n
signs after_sign named n (Key Do ∷ ls) = n
signs after_sign named n (l ∷ ls) =
    signs (takes_term l) (named_by after_sign named l) (if is_sign_of_pattern named l then suc n else n) ls
