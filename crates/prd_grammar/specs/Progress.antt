-- What has been read of a document so far, as far as refusals depend on it.
--     Progress           the open brackets, the rule that is being read, and its counts
--     progress_of ls     what the leaves lead to from the beginning
-- Source: the project's own (docs/FORMATS.md, "Refusals").
use Rattle.std.specs.Prelude.{ℕ, ◌==◌, ◌&&◌, ◌||◌, not, Bool, true, false, if◌then◌else◌, List, [], ◌∷◌, ◌++◌, length}
use Rattle.std.specs.Prelude.{Option, Some, None, suc}
use Rattle.prd_grammar.specs.declared.leaf.Keyword.TheVariants.{Group, Forall, If, Do, Assert, Retract, Modify}
use Rattle.prd_grammar.specs.declared.leaf.Keyword.TheVariants.{External, True, False}
use Rattle.prd_grammar.specs.declared.leaf.BuiltinName.TheVariants.{Known}
use Rattle.prd_grammar.specs.declared.leaf.Literal.TheVariants.{Iri as IriLiteral, Local as LocalLiteral}
use Rattle.prd_grammar.specs.declared.leaf.Leaf.{Leaf}
use Rattle.prd_grammar.specs.declared.leaf.Leaf.TheVariants.{Key, Int, Str, Typed, TypeName as TypeLeaf, Iri, Curie}
use Rattle.prd_grammar.specs.declared.leaf.Leaf.TheVariants.{Builtin as BuiltinLeaf, Local, Var, Open, Close}
use Rattle.prd_grammar.specs.declared.leaf.Leaf.TheVariants.{OpenSquare, CloseSquare, Equal, Hash, Arrow, Carets}
use Rattle.prd_grammar.specs.declared.bracket.Bracket.{Bracket}
use Rattle.prd_grammar.specs.declared.bracket.Bracket.TheVariants.{Plain, Arguments}
use Rattle.prd_grammar.specs.Values.{names_with}

-- what a rule has so far
pub record Counts : Type 0 where
  -- how many brackets were open where it began
  pub around : ℕ
  -- whether its `Do` has come
  pub in_block : Bool
  -- its variables, in first-seen order
  pub names : List (List ℕ)
  -- the patterns of its conditions
  pub patterns : ℕ
  pub actions : ℕ

pub record Progress : Type 0 where
  -- the open brackets, the innermost first
  pub brackets : List Bracket
  -- the newest leaf
  pub last : Leaf
  -- between `Group` and its bracket
  pub in_head : Bool
  -- a name has come last that may be an atom's predicate
  pub named : Bool
  -- how many rules have begun
  pub rules : ℕ
  -- the rule that has begun and hasn't ended
  pub rule : Option Counts

abbrev pub at_start : Progress
at_start = record { brackets = []; last = Close; in_head = false; named = false; rules = 0; rule = None }

abbrev pub no_counts : ℕ → Counts
no_counts around = record { around = around; in_block = false; names = []; patterns = 0; actions = 0 }

-- `Forall`, `If` and `Do` begin a rule
abbrev pub begins_rule : Leaf → Bool
begins_rule (Key Forall) = true
begins_rule (Key If) = true
begins_rule (Key Do) = true
begins_rule _ = false

abbrev pub is_term : Leaf → Bool
is_term (Int z) = true
is_term (Str t) = true
is_term (Typed literal) = true
is_term (Iri t) = true
is_term (Curie t) = true
is_term (Local t) = true
is_term (Var v) = true
is_term (Key True) = true
is_term (Key False) = true
is_term (Key External) = true
is_term _ = false

-- one argument more, where the innermost bracket is that of a built-in's arguments
abbrev pub with_argument : List Bracket → List Bracket
with_argument (Arguments b n ∷ brackets) = Arguments b (suc n) ∷ brackets
with_argument brackets = brackets

-- the bracket that opens behind a leaf
abbrev pub opened : Leaf → Bracket
opened (BuiltinLeaf (Known b)) = Arguments b 0
opened _ = Plain

abbrev pub closed : List Bracket → List Bracket
closed [] = []
closed (b ∷ brackets) = brackets

abbrev pub brackets_with : List Bracket → Leaf → Leaf → List Bracket
brackets_with brackets last Open = opened last ∷ brackets
brackets_with brackets last OpenSquare = Plain ∷ brackets
brackets_with brackets last Close = closed brackets
brackets_with brackets last CloseSquare = closed brackets
brackets_with brackets last l = if is_term l then with_argument brackets else brackets

abbrev pub head_with : Bool → Leaf → Bool
head_with in_head (Key Group) = true
head_with in_head Open = false
head_with in_head _ = in_head

-- `=` and `#` have a term on their right, so a name there is no predicate
abbrev pub takes_term : Leaf → Bool
takes_term Equal = true
takes_term Hash = true
takes_term _ = false

abbrev pub named_with : Progress → Leaf → Bool
named_with p (Iri t) = not (takes_term p.last)
named_with p (Curie t) = not (takes_term p.last)
named_with p (Local t) = not (takes_term p.last)
named_with p (Typed (IriLiteral t)) = not (takes_term p.last)
named_with p (Typed (LocalLiteral t)) = not (takes_term p.last)
named_with p Carets = p.named
named_with p (TypeLeaf known) = p.named
named_with p _ = false

-- the `(` of an atom, the `#` of a membership and the `->` of a slot pair
abbrev pub is_sign_of_pattern : Bool → Leaf → Bool
is_sign_of_pattern named Open = named
is_sign_of_pattern named Hash = true
is_sign_of_pattern named Arrow = true
is_sign_of_pattern named _ = false

-- a pattern in the rule's conditions
abbrev pub is_pattern : Bool → Counts → Leaf → Bool
is_pattern named c l = not c.in_block && is_sign_of_pattern named l

abbrev pub is_action : Leaf → Bool
is_action (Key Assert) = true
is_action (Key Retract) = true
is_action (Key Modify) = true
is_action _ = false

abbrev pub is_do : Leaf → Bool
is_do (Key Do) = true
is_do _ = false

abbrev pub is_close : Leaf → Bool
is_close Close = true
is_close _ = false

-- the rule to which a leaf belongs: the one that is being read, or one that begins
abbrev pub rule_at : Progress → Leaf → Option Counts
rule_at p l = elim p.rule [
  | Some c ↦ Some c
  | None ↦ if begins_rule l then Some (no_counts (length p.brackets)) else None
]

abbrev pub counts_with : Bool → Counts → Leaf → Counts
counts_with named c l = record {
  around = c.around;
  in_block = c.in_block || is_do l;
  names = names_with c.names l;
  patterns = if is_pattern named c l then suc c.patterns else c.patterns;
  actions = if is_action l then suc c.actions else c.actions;
}

-- in its block a rule ends at the bracket that closes the outermost one that it has opened
abbrev pub ends_rule : List Bracket → Counts → Leaf → Bool
ends_rule brackets c l = is_close l && (c.in_block && length (closed brackets) == c.around)

abbrev pub rule_with : Progress → Leaf → Option Counts
rule_with p l = elim (rule_at p l) [
  | None ↦ None
  | Some c ↦ if ends_rule p.brackets c l then None else Some (counts_with p.named c l)
]

abbrev pub is_new_rule : Progress → Leaf → Bool
is_new_rule p l = elim p.rule [ Some c ↦ false | None ↦ begins_rule l ]

abbrev pub progress_with : Progress → Leaf → Progress
progress_with p l = record {
  brackets = brackets_with p.brackets p.last l;
  last = l;
  in_head = head_with p.in_head l;
  named = named_with p l;
  rules = if is_new_rule p l then suc p.rules else p.rules;
  rule = rule_with p l;
}

abbrev pub progress_from : Progress → List Leaf → Progress
progress_from p [] = p
progress_from p (l ∷ ls) = progress_from (progress_with p l) ls

abbrev pub progress_of : List Leaf → Progress
progress_of ls = progress_from at_start ls

-- the names of the rule that ends at a leaf
abbrev pub names_ended : Progress → Leaf → List (List (List ℕ))
names_ended p l = elim (rule_at p l) [
  | None ↦ []
  | Some c ↦ if ends_rule p.brackets c l then c.names ∷ [] else []
]

-- the names of the rules that end among leaves, rule by rule
abbrev pub names_read : Progress → List Leaf → List (List (List ℕ))
names_read p [] = []
names_read p (l ∷ ls) = names_ended p l ++ names_read (progress_with p l) ls
