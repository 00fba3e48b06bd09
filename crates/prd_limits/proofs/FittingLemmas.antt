-- Where each rule keeps the limits where it ends, nothing was too many at a leaf before.
--     AreFitting p ls      at none of these leaves there is one rule, name, pattern or action too many
use Rattle.std.proofs.Common.{◌≡◌, ◌≤◌, ◌&&◌, ℕ, suc, Bool, true, false, not, nat_le, List, [], ◌∷◌, ◌++◌, refl, sym}
use Rattle.std.proofs.Common.{subst, arith, length, length-append, Some, None, if◌then◌else◌}
use Rattle.std.proofs.lemmas.Bool.{and_left, and_right, lt-leb}
use Rattle.std.specs.declared.option.Option.{Option}
use Rattle.rif_refusals.specs.Limits.{most_rules, most_variables, most_patterns, most_actions}
use Rattle.prd_grammar.specs.declared.cause.Cause.{Cause}
use Rattle.prd_grammar.specs.declared.leaf.Leaf.{Leaf}
use Rattle.prd_grammar.specs.declared.leaf.Leaf.TheVariants.{Var, Close}
use Rattle.prd_grammar.specs.declared.bracket.Bracket.{Bracket}
use Rattle.prd_grammar.specs.Progress.{Counts, Progress, progress_with, progress_from, rule_at, begins_rule}
use Rattle.prd_grammar.specs.Progress.{no_counts}
use Rattle.prd_grammar.specs.Progress.{ends_rule, counts_with, is_new_rule, is_pattern, is_action}
use Rattle.prd_grammar.specs.Refusals.{cause_in_rule, is_name_too_many, is_pattern_too_many, is_action_too_many}
use Rattle.prd_grammar.specs.Values.{has_name, names_with}
use Rattle.prd_limits.proofs.CountingFoldLemmas.{Tally, tally_of, tally_ended, tallies}
use Rattle.prd_limits.proofs.CountingLimitLemmas.{KeepsTally, KeepsNow, KeepTallies}

abbrev pub AreFitting : Progress → List Leaf → Type 0
AreFitting p [] = Unit {0}
AreFitting p (l ∷ ls) = ((is_new_rule p l && nat_le most_rules p.rules) ≡ false)
    × ((cause_in_rule p.named (rule_at p l) l ≡ None) × AreFitting (progress_with p l) ls)

-- a test that lets pass
pub let_pass : (b : Bool) (x : Cause) (rest : Option Cause) → b ≡ false → rest ≡ None →
    (if b then Some x else rest) ≡ None
let_pass true x rest e none = cc
let_pass false x rest e none = none

-- what is within a limit when one more has come was below it
was_below : (more : Bool) (n limit : ℕ) → (if more then suc n else n) ≤ limit → (more && nat_le limit n) ≡ false
was_below true n limit most = lt-leb limit n (omega arith)
was_below false n limit most = refl

was_at_most : (more : Bool) (n limit : ℕ) → (if more then suc n else n) ≤ limit → n ≤ limit
was_at_most true n limit most = omega arith
was_at_most false n limit most = most

name_was_below : (names : List (List ℕ)) (v : List ℕ) (known : Bool) →
    length (if known then names else (names ++ v ∷ [])) ≤ most_variables →
    (not known && nat_le most_variables (length names)) ≡ false
name_was_below names v true most = refl
name_was_below names v false most =
    lt-leb most_variables (length names) (omega (arith, length-append names (v ∷ [])))

names_were_at_most : (names : List (List ℕ)) (v : List ℕ) (known : Bool) →
    length (if known then names else (names ++ v ∷ [])) ≤ most_variables → length names ≤ most_variables
names_were_at_most names v true most = most
names_were_at_most names v false most = omega (arith, length-append names (v ∷ []))

names_fit : (c : Counts) (l : Leaf) → length (names_with c.names l) ≤ most_variables → is_name_too_many c l ≡ false
names_fit c (Var v) most = name_was_below c.names v (has_name c.names v) most
names_fit c l most = refl

names_before : (names : List (List ℕ)) (l : Leaf) → length (names_with names l) ≤ most_variables →
    length names ≤ most_variables
names_before names (Var v) most = names_were_at_most names v (has_name names v) most
names_before names l most = most

-- what keeps the limits behind a leaf kept them before it, and nothing was too many
kept_before : (named : Bool) (c : Counts) (l : Leaf) → KeepsTally (tally_of (counts_with named c l)) →
    KeepsTally (tally_of c)
kept_before named c l keeps = record {
  names = names_before c.names l keeps.names;
  patterns = was_at_most (is_pattern named c l) c.patterns most_patterns keeps.patterns;
  actions = was_at_most (is_action l) c.actions most_actions keeps.actions;
}

fits_going_on : (named : Bool) (c : Counts) (l : Leaf) → KeepsTally (tally_of (counts_with named c l)) →
    cause_in_rule named (Some c) l ≡ None
fits_going_on named c l keeps =
    let_pass (is_name_too_many c l) _ _ (names_fit c l keeps.names)
    (let_pass (is_pattern_too_many named c l) _ _
    (was_below (is_pattern named c l) c.patterns most_patterns keeps.patterns)
    (let_pass (is_action_too_many c l) _ _ (was_below (is_action l) c.actions most_actions keeps.actions) refl))

-- the bracket at which a rule ends adds nothing
fits_at_end : (bs : List Bracket) (named : Bool) (c : Counts) (l : Leaf) → ends_rule bs c l ≡ true →
    cause_in_rule named (Some c) l ≡ None
fits_at_end bs named c Close ends =
    let_pass (is_pattern_too_many named c Close) _ _
    (and_left (is_pattern named c Close) (nat_le most_patterns c.patterns)
    (and_right (not c.in_block) false refl)) refl
fits_at_end bs named c l ends = cc

-- by whether the rule ends at the leaf
fits_by : (ends : Bool) (bs : List Bracket) (named : Bool) (c : Counts) (l : Leaf) → ends_rule bs c l ≡ ends →
    KeepsNow (if ends then None else Some (counts_with named c l)) → cause_in_rule named (Some c) l ≡ None
fits_by true bs named c l is keeps = fits_at_end bs named c l is
fits_by false bs named c l is keeps = fits_going_on named c l keeps

fits_here : (now : Option Counts) (bs : List Bracket) (named : Bool) (l : Leaf) →
    KeepsNow (elim now [ None ↦ None | Some c ↦ if ends_rule bs c l then None else Some (counts_with named c l) ]) →
    cause_in_rule named now l ≡ None
fits_here None bs named l keeps = refl
fits_here (Some c) bs named l keeps = fits_by (ends_rule bs c l) bs named c l refl keeps

kept_by : (ends : Bool) (named : Bool) (c : Counts) (l : Leaf) → KeepTallies (if ends then tally_of c ∷ [] else []) →
    KeepsNow (if ends then None else Some (counts_with named c l)) → KeepsTally (tally_of c)
kept_by true named c l ended keeps = ended.0
kept_by false named c l ended keeps = kept_before named c l keeps

kept_here : (now : Option Counts) (bs : List Bracket) (named : Bool) (l : Leaf) →
    KeepTallies (elim now [ None ↦ [] | Some c ↦ if ends_rule bs c l then tally_of c ∷ [] else [] ]) →
    KeepsNow (elim now [ None ↦ None | Some c ↦ if ends_rule bs c l then None else Some (counts_with named c l) ]) →
    KeepsNow now
kept_here None bs named l ended keeps = tt
kept_here (Some c) bs named l ended keeps = kept_by (ends_rule bs c l) named c l ended keeps

-- a rule that began at the leaf had nothing before it
was_kept : (now : Option Counts) (begins : Bool) (k : ℕ) →
    KeepsNow (elim now [ Some c ↦ Some c | None ↦ if begins then Some (no_counts k) else None ]) → KeepsNow now
was_kept (Some c) begins k keeps = keeps
was_kept None begins k keeps = tt

first_keep : (ts us : List Tally) → KeepTallies (ts ++ us) → KeepTallies ts
first_keep [] us keep = tt
first_keep (t ∷ ts) us keep = (keep.0, first_keep ts us keep.1)

rest_keep : (ts us : List Tally) → KeepTallies (ts ++ us) → KeepTallies us
rest_keep [] us keep = keep
rest_keep (t ∷ ts) us keep = rest_keep ts us keep.1

-- the rule that is being read keeps the limits, where it does at its end
kept_now : (ls : List Leaf) (p : Progress) → KeepTallies (tallies p ls) → (progress_from p ls).rule ≡ None →
    KeepsNow p.rule
kept_now [] p keep none = subst KeepsNow (sym none) tt
kept_now (l ∷ ls) p keep none =
    let next = progress_with p l in
    was_kept p.rule (begins_rule l) (length p.brackets)
    (kept_here (rule_at p l) p.brackets p.named l (first_keep (tally_ended p l) (tallies next ls) keep)
    (kept_now ls next (rest_keep (tally_ended p l) (tallies next ls) keep) none))

rules_grow : (ls : List Leaf) (p : Progress) → (progress_from p ls).rules ≤ most_rules → p.rules ≤ most_rules
rules_grow [] p most = most
rules_grow (l ∷ ls) p most =
    was_at_most (is_new_rule p l) p.rules most_rules (rules_grow ls (progress_with p l) most)

pub all_fit : (ls : List Leaf) (p : Progress) → KeepTallies (tallies p ls) → (progress_from p ls).rule ≡ None →
    (progress_from p ls).rules ≤ most_rules → AreFitting p ls
all_fit [] p keep none most = tt
all_fit (l ∷ ls) p keep none most =
    let next = progress_with p l in
    let rest = rest_keep (tally_ended p l) (tallies next ls) keep in (
      was_below (is_new_rule p l) p.rules most_rules (rules_grow ls next most),
      (fits_here (rule_at p l) p.brackets p.named l (kept_now ls next rest none), all_fit ls next rest none most),
    )
