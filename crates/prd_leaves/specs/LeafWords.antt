-- How the code goes about literals. No public clause cites this module.
use Rattle.std.specs.Prelude.{ℕ, if◌then◌else◌, List, Option, Some, None}
use Rattle.prd_leaves.specs.Literals.{integer_of, is_integer_text}
use Rattle.prd_grammar.specs.declared.leaf.Literal.{Literal}
use Rattle.prd_grammar.specs.declared.leaf.Literal.TheVariants.{Integer}

abbrev pub integer_literal : List ℕ → Option Literal
integer_literal text = if is_integer_text text then Some (Integer (integer_of text)) else None
