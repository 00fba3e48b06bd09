-- Where no refusal stands, each rule that is read keeps the limits.
use Rattle.std.proofs.Common.{◌≡◌, ◌≤◌, ◌<◌, ◌+◌, ◌&&◌, ℕ, suc, Bool, true, false, not, nat_le, List, [], ◌∷◌, ◌++◌}
use Rattle.std.proofs.Common.{refl, arith, length, take, get_or, length-append, Some, None, if◌then◌else◌, leb-false}
use Rattle.std.specs.declared.option.Option.{Option}
use Rattle.rif_refusals.specs.Limits.{most_rules, most_variables, most_patterns, most_actions}
use Rattle.prd_grammar.specs.declared.cause.Cause.{Cause}
use Rattle.prd_grammar.specs.declared.leaf.Leaf.{Leaf}
use Rattle.prd_grammar.specs.declared.leaf.Leaf.TheVariants.{Var}
use Rattle.prd_grammar.specs.declared.bracket.Bracket.{Bracket}
use Rattle.prd_grammar.specs.Progress.{Counts, Progress, at_start, progress_with, progress_from, rule_at, begins_rule}
use Rattle.prd_grammar.specs.Progress.{no_counts, ends_rule, counts_with, is_new_rule, is_pattern, is_action}
use Rattle.prd_grammar.specs.Refusals.{cause_at, cause_in_rule, is_refused_type, is_too_deep, is_wide, is_undeclared}
use Rattle.prd_grammar.specs.Refusals.{is_unknown, is_wrong_arity, is_bad_strategy, is_bad_priority, is_name_too_many}
use Rattle.prd_grammar.specs.Refusals.{is_pattern_too_many, is_action_too_many, IsClear}
use Rattle.prd_grammar.specs.Values.{has_name, names_with}
use Rattle.prd_limits.proofs.CountingFoldLemmas.{within, Tally, tally_of, tally_ended, tallies}

-- no refusal stands among leaves behind a progress, but for the grammar's
abbrev pub Clear : Progress → List Leaf → Type 0
Clear p [] = Unit {0}
Clear p (l ∷ ls) = (cause_at p l ≡ None) × Clear (progress_with p l) ls

clear_behind : (ls : List Leaf) (p : Progress) →
    ((i : ℕ) (d : Leaf) → i < length ls → cause_at (progress_from p (take i ls)) (get_or ls i d) ≡ None) → Clear p ls
clear_behind [] p h = tt
clear_behind (l ∷ ls) p h =
    (h 0 l (omega arith), clear_behind ls (progress_with p l) (λ i d below. h (suc i) d (omega arith)))

pub clear_from : (ls : List Leaf) → IsClear ls (length ls) → Clear at_start ls
clear_from ls h = clear_behind ls at_start h

-- so much a rule may have
pub record KeepsTally (t : Tally) : Type 0 where
  pub names : length t.names ≤ most_variables
  pub patterns : t.patterns ≤ most_patterns
  pub actions : t.actions ≤ most_actions

abbrev pub KeepsNow : Option Counts → Type 0
KeepsNow None = Unit {0}
KeepsNow (Some c) = KeepsTally (tally_of c)

abbrev pub KeepTallies : List Tally → Type 0
KeepTallies [] = Unit {0}
KeepTallies (t ∷ ts) = KeepsTally t × KeepTallies ts

pub record Keeps (p : Progress) : Type 0 where
  pub rules : p.rules ≤ most_rules
  pub rule : KeepsNow p.rule

-- the tests that a leaf without a refusal has passed
pub tail_of_if : (b : Bool) (x : Cause) (rest : Option Cause) → (if b then Some x else rest) ≡ None → rest ≡ None
tail_of_if true x rest h = cc
tail_of_if false x rest h = h

pub test_of_if : (b : Bool) (x : Cause) (rest : Option Cause) → (if b then Some x else rest) ≡ None → b ≡ false
test_of_if true x rest h = cc
test_of_if false x rest h = refl

pub record Passed (p : Progress) (l : Leaf) : Type 0 where
  pub priority : is_bad_priority p.in_head l ≡ false
  pub rules : (is_new_rule p l && nat_le most_rules p.rules) ≡ false
  pub rule : cause_in_rule p.named (rule_at p l) l ≡ None

pub passed : (p : Progress) (l : Leaf) → cause_at p l ≡ None → Passed p l
passed p l h =
    let h1 = tail_of_if (is_refused_type l) _ _ h in
    let h2 = tail_of_if (is_too_deep p.brackets l) _ _ h1 in
    let h3 = tail_of_if (is_wide l) _ _ h2 in
    let h4 = tail_of_if (is_undeclared l) _ _ h3 in
    let h5 = tail_of_if (is_unknown l) _ _ h4 in
    let h6 = tail_of_if (is_wrong_arity p.brackets l) _ _ h5 in
    let h7 = tail_of_if (is_bad_strategy p.in_head l) _ _ h6 in
    let h8 = tail_of_if (is_bad_priority p.in_head l) _ _ h7 in
    record {
      priority = test_of_if (is_bad_priority p.in_head l) _ _ h7;
      rules = test_of_if (is_new_rule p l && nat_le most_rules p.rules) _ _ h8;
      rule = tail_of_if (is_new_rule p l && nat_le most_rules p.rules) _ _ h8;
    }

-- one more of each, where the test has let it pass
name_more : (names : List (List ℕ)) (v : List ℕ) (known : Bool) →
    (not known && nat_le most_variables (length names)) ≡ false → length names ≤ most_variables →
    length (if known then names else (names ++ v ∷ [])) ≤ most_variables
name_more names v true h most = most
name_more names v false h most =
    omega (arith, length-append names (v ∷ []), leb-false most_variables (length names) h)

names_more : (c : Counts) (l : Leaf) → is_name_too_many c l ≡ false → length c.names ≤ most_variables →
    length (names_with c.names l) ≤ most_variables
names_more c (Var v) h most = name_more c.names v (has_name c.names v) h most
names_more c l h most = most

one_more : (more : Bool) (n limit : ℕ) → (more && nat_le limit n) ≡ false → n ≤ limit →
    (if more then suc n else n) ≤ limit
one_more true n limit h most = omega (arith, leb-false limit n h)
one_more false n limit h most = most

counts_keep : (named : Bool) (c : Counts) (l : Leaf) → cause_in_rule named (Some c) l ≡ None →
    KeepsTally (tally_of c) → KeepsTally (tally_of (counts_with named c l))
counts_keep named c l h keeps =
    let h1 = tail_of_if (is_name_too_many c l) _ _ h in
    let h2 = tail_of_if (is_pattern_too_many named c l) _ _ h1 in
    record {
      names = names_more c l (test_of_if (is_name_too_many c l) _ _ h) keeps.names;
      patterns = one_more (is_pattern named c l) c.patterns most_patterns
          (test_of_if (is_pattern_too_many named c l) _ _ h1) keeps.patterns;
      actions = one_more (is_action l) c.actions most_actions
          (test_of_if (is_action_too_many c l) _ _ h2) keeps.actions;
    }

-- the rule that a leaf belongs to, the one behind it, and the one that ends at it
begun_keeps : (begins : Bool) (k : ℕ) → KeepsNow (if begins then Some (no_counts k) else None)
begun_keeps true k = record { names = omega arith; patterns = omega arith; actions = omega arith }
begun_keeps false k = tt

here_keeps : (now : Option Counts) (begins : Bool) (k : ℕ) → KeepsNow now →
    KeepsNow (elim now [ Some c ↦ Some c | None ↦ if begins then Some (no_counts k) else None ])
here_keeps (Some c) begins k keeps = keeps
here_keeps None begins k keeps = begun_keeps begins k

behind_keeps : (ends : Bool) (c : Counts) → KeepsTally (tally_of c) → KeepsNow (if ends then None else Some c)
behind_keeps true c keeps = tt
behind_keeps false c keeps = keeps

next_keeps : (now : Option Counts) (bs : List Bracket) (named : Bool) (l : Leaf) → cause_in_rule named now l ≡ None →
    KeepsNow now →
    KeepsNow (elim now [ None ↦ None | Some c ↦ if ends_rule bs c l then None else Some (counts_with named c l) ])
next_keeps None bs named l h keeps = tt
next_keeps (Some c) bs named l h keeps =
    behind_keeps (ends_rule bs c l) (counts_with named c l) (counts_keep named c l h keeps)

end_keeps : (ends : Bool) (t : Tally) → KeepsTally t → KeepTallies (if ends then t ∷ [] else [])
end_keeps true t keeps = (keeps, tt)
end_keeps false t keeps = tt

ended_keep : (now : Option Counts) (bs : List Bracket) (l : Leaf) → KeepsNow now →
    KeepTallies (elim now [ None ↦ [] | Some c ↦ if ends_rule bs c l then tally_of c ∷ [] else [] ])
ended_keep None bs l keeps = tt
ended_keep (Some c) bs l keeps = end_keeps (ends_rule bs c l) (tally_of c) keeps

keeps_here : (p : Progress) (l : Leaf) → Keeps p → KeepsNow (rule_at p l)
keeps_here p l keeps = here_keeps p.rule (begins_rule l) (length p.brackets) keeps.rule

keeps_next : (p : Progress) (l : Leaf) → cause_at p l ≡ None → Keeps p → Keeps (progress_with p l)
keeps_next p l clear keeps =
    let tests = passed p l clear in
    record {
      rules = one_more (is_new_rule p l) p.rules most_rules tests.rules keeps.rules;
      rule = next_keeps (rule_at p l) p.brackets p.named l tests.rule (keeps_here p l keeps);
    }

keep_both : (ts us : List Tally) → KeepTallies ts → KeepTallies us → KeepTallies (ts ++ us)
keep_both [] us first more = more
keep_both (t ∷ ts) us first more = (first.0, keep_both ts us first.1 more)

pub tallies_keep : (ls : List Leaf) (p : Progress) → Clear p ls → Keeps p → KeepTallies (tallies p ls)
tallies_keep [] p clear keeps = tt
tallies_keep (l ∷ ls) p clear keeps = keep_both (tally_ended p l) (tallies (progress_with p l) ls)
    (ended_keep (rule_at p l) p.brackets l (keeps_here p l keeps))
    (tallies_keep ls (progress_with p l) clear.1 (keeps_next p l clear.0 keeps))

pub keeps_from : (ls : List Leaf) (p : Progress) → Clear p ls → Keeps p → Keeps (progress_from p ls)
keeps_from [] p clear keeps = keeps
keeps_from (l ∷ ls) p clear keeps = keeps_from ls (progress_with p l) clear.1 (keeps_next p l clear.0 keeps)

-- as many rules have begun as have ended, and the one that is being read
abbrev pub open_rules : Option Counts → ℕ
open_rules None = 0
open_rules (Some c) = 1

ended_or_open : (ends : Bool) (c next : Counts) →
    length (if ends then tally_of c ∷ [] else []) + open_rules (if ends then None else Some next) ≡ 1
ended_or_open true c next = refl
ended_or_open false c next = refl

rules_begun : (begins : Bool) (r k : ℕ) (bs : List Bracket) (named : Bool) (l : Leaf) →
    (let now : Option Counts = if begins then Some (no_counts k) else None in
    (if begins then suc r else r) ≡ r
    + (length {A = Tally} (elim now [ None ↦ [] | Some c ↦ if ends_rule bs c l then tally_of c ∷ [] else [] ])
    + open_rules (elim now [
      | None ↦ None
      | Some c ↦ if ends_rule bs c l then None else Some
          (counts_with named c l)
    ])))
rules_begun true r k bs named l =
    omega (arith, ended_or_open (ends_rule bs (no_counts k) l) (no_counts k) (counts_with named (no_counts k) l))
rules_begun false r k bs named l = omega arith

rules_next : (now : Option Counts) (last : Leaf) (bs : List Bracket) (h named : Bool) (r : ℕ) (l : Leaf) →
    (let p = within bs last h named r now in
    (progress_with p l).rules + open_rules now ≡ r + (length (tally_ended p l) + open_rules (progress_with p l).rule))
rules_next None last bs h named r l = omega (arith, rules_begun (begins_rule l) r (length bs) bs named l)
rules_next (Some c) last bs h named r l = omega (arith, ended_or_open (ends_rule bs c l) c (counts_with named c l))

pub rules_counted : (ls : List Leaf) (p : Progress) →
    (progress_from p ls).rules + open_rules p.rule
    ≡ p.rules + (length (tallies p ls) + open_rules (progress_from p ls).rule)
rules_counted [] p = omega arith
rules_counted (l ∷ ls) p = omega (
  arith,
  rules_next p.rule p.last p.brackets p.in_head p.named p.rules l,
  rules_counted ls (progress_with p l),
  length-append (tally_ended p l) (tallies (progress_with p l) ls),
)
