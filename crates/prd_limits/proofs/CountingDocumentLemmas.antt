-- What the fold over a document's leaves tells of its value.
use Rattle.std.proofs.Common.{◌≡◌, ℕ, suc, Bool, true, false, List, [], ◌∷◌, ◌++◌, refl, ap, ◌∙◌, sym, subst, arith}
use Rattle.std.proofs.Common.{length, map, Some, None, if◌then◌else◌}
use Rattle.std.proofs.lemmas.List.{map-append}
use Rattle.std.specs.declared.option.Option.{Option}
use Rattle.rif_tree.specs.declared.rule.Rule.{Rule}
use Rattle.prd_grammar.specs.declared.leaf.Leaf.{Leaf}
use Rattle.prd_grammar.specs.declared.bracket.Bracket.{Bracket}
use Rattle.prd_limits.specs.Limits.{CountsAreOfTrees, KeepsLimits, KeepRuleLimits}
use Rattle.prd_grammar.specs.Progress.{progress_from, Counts, Progress, at_start, progress_with, rule_at, ends_rule}
use Rattle.prd_grammar.specs.Progress.{names_read}
use Rattle.prd_grammar.specs.Refusals.{IsClear}
use Rattle.prd_grammar.specs.Trees.{DocumentTree, spell_document}
use Rattle.prd_grammar.specs.Values.{document_value}
use Rattle.prd_limits.proofs.CountingFoldLemmas.{Tally, tally_of, tally_ended, tallies}
use Rattle.prd_limits.proofs.CountingGroupLemmas.{rule_tally, document_leads}
use Rattle.prd_limits.proofs.CountingLimitLemmas.{Keeps, KeepTallies, clear_from, tallies_keep, keeps_from}
use Rattle.prd_limits.proofs.CountingLimitLemmas.{open_rules, rules_counted}
use Rattle.prd_limits.proofs.CountingPriorityLemmas.{AreInRange, document_in_range}

abbrev names_of : Tally → List (List ℕ)
names_of t = t.names

-- where a rule is read or none
ended_names : (now : Option Counts) (bs : List Bracket) (l : Leaf) →
    elim now [ None ↦ [] | Some c ↦ if ends_rule bs c l then c.names ∷ [] else [] ]
    ≡ map names_of (elim now [ None ↦ [] | Some c ↦ if ends_rule bs c l then tally_of c ∷ [] else [] ])
ended_names None bs l = refl
ended_names (Some c) bs l = one (ends_rule bs c l) c
  where
    one : (b : Bool) (c : Counts) →
        (if b then c.names ∷ [] else []) ≡ map names_of (if b then tally_of c ∷ [] else [])
    one true c = refl
    one false c = refl

names_tallied : (ls : List Leaf) (p : Progress) → names_read p ls ≡ map names_of (tallies p ls)
names_tallied [] p = refl
names_tallied (l ∷ ls) p =
    let next = progress_with p l in
    ap (λ (first : List (List (List ℕ))). first ++ names_read next ls) (ended_names (rule_at p l) p.brackets l)
    ∙ (ap (λ (more : List (List (List ℕ))). map names_of (tally_ended p l) ++ more) (names_tallied ls next)
    ∙ sym (map-append names_of (tally_ended p l) (tallies next ls)))

names_of_rules : (rs : List Rule) → map names_of (map rule_tally rs) ≡ map (λ (r : Rule). r.names) rs
names_of_rules [] = refl
names_of_rules (r ∷ rs) = ap (λ (more : List (List (List ℕ))). r.names ∷ more) (names_of_rules rs)

document_names : (t : DocumentTree) →
    names_read at_start (spell_document t) ≡ map (λ (r : Rule). r.names) (document_value t).rules
document_names t = names_tallied (spell_document t) at_start
    ∙ (ap (map names_of) (document_leads t at_start refl).reads ∙ names_of_rules (document_value t).rules)

-- at the start nothing is counted
start_keeps : Keeps at_start
start_keeps = record { rules = omega arith; rule = tt }

pub length_tallies : (rs : List Rule) → length (map rule_tally rs) ≡ length rs
length_tallies [] = refl
length_tallies (r ∷ rs) = ap (λ (n : ℕ). suc n) (length_tallies rs)

rules_keep : (rs : List Rule) → KeepTallies (map rule_tally rs) → AreInRange rs → KeepRuleLimits rs
rules_keep [] keep ranges = tt
rules_keep (r ∷ rs) keep ranges = (
  record {
    low = ranges.0.low;
    high = ranges.0.high;
    names = keep.0.names;
    patterns = keep.0.patterns;
    actions = keep.0.actions;
  },
  rules_keep rs keep.1 ranges.1,
)

document_limits : (t : DocumentTree) → IsClear (spell_document t) (length (spell_document t)) →
    KeepsLimits (document_value t)
document_limits t whole =
    let ls = spell_document t in
    let rs = (document_value t).rules in
    let clear = clear_from ls whole in
    let led = document_leads t at_start refl in
    let keep = subst KeepTallies led.reads (tallies_keep ls at_start clear start_keeps) in
    let most = (keeps_from ls at_start clear start_keeps).rules in
    let begun = rules_counted ls at_start in
    let ended : open_rules (progress_from at_start ls).rule ≡ 0 = ap open_rules led.none in
    let read : length (tallies at_start ls) ≡ length rs =
    ap (λ (ts : List Tally). length ts) led.reads ∙ length_tallies rs in
    record { rules = omega (arith, most, begun, ended, read); each = rules_keep rs keep (document_in_range t clear) }

pub counts : CountsAreOfTrees
counts = record { names = document_names; limits = document_limits }
