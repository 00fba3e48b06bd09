-- The code's progress. No public clause cites this module.
use Rattle.std.specs.Prelude.{◌≡◌, ◌==◌, if◌then◌else◌, ◌&&◌, ◌<◌, ◌+◌, ◌^◌, ℕ, Bool, not, false, List, [], ◌∷◌}
use Rattle.std.specs.Prelude.{Option, Some, None}
use Rattle.prd_grammar.specs.declared.leaf.Literal.TheVariants.{Iri as IriLiteral, Local as LocalLiteral}
use Rattle.prd_grammar.specs.declared.leaf.Leaf.{Leaf}
use Rattle.prd_grammar.specs.declared.leaf.Leaf.TheVariants.{Typed, TypeName, Iri, Curie, Local, Carets}
use Rattle.prd_grammar.specs.declared.bracket.Bracket.{Bracket}
use Rattle.prd_grammar.specs.declared.bracket.Bracket.TheVariants.{Arguments}
use Rattle.prd_recognition.specs.declared.counting.RuleReading.{RuleReading}
use Rattle.prd_recognition.specs.declared.progress.Reading.{Reading}
use Rattle.prd_grammar.specs.Progress.{Progress, Counts, begins_rule, counts_with, is_close, names_ended, no_counts}
use Rattle.prd_grammar.specs.Progress.{progress_with, takes_term}

-- one argument more can be counted
abbrev pub HasRoom : List Bracket → Type 0
HasRoom (Arguments b n ∷ brackets) = n + 1 < 2 ^ 64
HasRoom _ = Unit {0}

-- `named_with`, by the parts of the progress that it goes by
abbrev pub name_with : Bool → Leaf → Leaf → Bool
name_with named last (Iri t) = not (takes_term last)
name_with named last (Curie t) = not (takes_term last)
name_with named last (Local t) = not (takes_term last)
name_with named last (Typed (IriLiteral t)) = not (takes_term last)
name_with named last (Typed (LocalLiteral t)) = not (takes_term last)
name_with named last Carets = named
name_with named last (TypeName known) = named
name_with named last _ = false

-- the progress of the code
abbrev pub counts_seen : RuleReading → Counts
counts_seen c = record {
  around = c.around;
  in_block = c.in_block;
  names = c.names;
  patterns = c.patterns;
  actions =
      c.actions;
}

abbrev pub rule_seen : Option RuleReading → Option Counts
rule_seen None = None
rule_seen (Some c) = Some (counts_seen c)

abbrev pub progress_seen : Reading → Progress
progress_seen p = record {
  brackets = p.brackets.items;
  last = p.last.now;
  in_head = p.in_head;
  named = p.named;
  rules = p.rules;
  rule = rule_seen p.rule;
}

-- `ends_rule`, by how many brackets are open behind the leaf if it closes one
abbrev pub ends_at : ℕ → Counts → Leaf → Bool
ends_at behind c l = is_close l && (c.in_block && behind == c.around)

-- one pattern and one action more can be counted
abbrev pub RuleHasRoom : Option Counts → Type 0
RuleHasRoom None = Unit {0}
RuleHasRoom (Some c) = (c.patterns + 1 < 2 ^ 64) × (c.actions + 1 < 2 ^ 64)

-- `rule_at`, by the parts of the progress that it goes by
abbrev pub rule_from : Option Counts → ℕ → Leaf → Option Counts
rule_from (Some c) depth l = Some c
rule_from None depth l = if begins_rule l then Some (no_counts depth) else None

-- `rule_with`, by the rule to which the leaf belongs
abbrev pub rule_kept : ℕ → Bool → Option Counts → Leaf → Option Counts
rule_kept behind named None l = None
rule_kept behind named (Some c) l = if ends_at behind c l then None else Some (counts_with named c l)

-- the rule with one more leaf counted, if one is being read
abbrev pub rule_counted : Bool → Option Counts → Leaf → Option Counts
rule_counted named None l = None
rule_counted named (Some c) l = Some (counts_with named c l)

-- `names_ended`, in the same way
abbrev pub names_given : ℕ → Option Counts → Leaf → List (List (List ℕ))
names_given behind None l = []
names_given behind (Some c) l = if ends_at behind c l then c.names ∷ [] else []

abbrev pub names_seen : Option (List (List ℕ)) → List (List (List ℕ))
names_seen None = []
names_seen (Some names) = names ∷ []

-- the rule behind a leaf, and the names of one that ends at it, from the rule to which the leaf belongs
abbrev pub RuleGoes : ℕ → Bool → Option Counts → Leaf → Option RuleReading → Option (List (List ℕ)) → Type 0
RuleGoes behind named o l rule ended =
    (rule_seen rule ≡ rule_kept behind named o l) × (names_seen ended ≡ names_given behind o l)

-- the progress behind a leaf, and the names of a rule that ends at it
abbrev pub ReadingGoes : Progress → Leaf → Reading → Option (List (List ℕ)) → Type 0
ReadingGoes p l reading ended = (progress_seen reading ≡ progress_with p l) × (names_seen ended ≡ names_ended p l)
