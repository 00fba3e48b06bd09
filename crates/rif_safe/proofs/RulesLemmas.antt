-- Rules made safe one behind the other.
use Rattle.std.proofs.Common.{◌≡◌, ◌∙◌, ℕ, suc, ◌<◌, ◌≤◌, List, [], ◌∷◌, ◌++◌, Ok, Err, refl, sym, ap, append_assoc}
use Rattle.std.proofs.Common.{add-one, drop, drop-cons, get_or, length, subst, arith}
use Rattle.std.specs.List.{All}
use Rattle.std.proofs.lemmas.List.{length-append}
use Rattle.std.proofs.lemmas.List.Elements.{All-append, All-cons}
use Rattle.std.proofs.Math.ListN.{drop_of_length-le}
use Rattle.std.specs.declared.result.Result.{Result}
use Rattle.rif_refusals.specs.declared.refusal.Refusal.{Refusal}
use Rattle.rif_tree.specs.declared.rule.Rule.{Rule}
use Rattle.safe_rules.specs.declared.safe_rule.SafeRule.{SafeRule}
use Rattle.rif_refusals.specs.declared.fault.Fault.{Fault}
use Rattle.rif_refusals.specs.declared.fault.Fault.TheVariants.{Refused, OutOfMemory}
use Rattle.rif_tree.specs.declared.rule.Doc.{Doc}
use Rattle.safe_rules.specs.SafeRules.{IsSafe}
use Rattle.rif_safe.specs.Safeness.{IsMade, RefusesRules, safe_rule, safe_rules_from, safe_rules_of, with_rule}

-- rules that are safe, in front of what is made of the others
abbrev pub behind : List SafeRule → Result (List SafeRule) Refusal → Result (List SafeRule) Refusal
behind rules (Err refusal) = Err refusal
behind rules (Ok more) = Ok (rules ++ more)

behind_one : (rules : List SafeRule) (rule : SafeRule) (later : Result (List SafeRule) Refusal)
    → behind rules (with_rule (Ok rule) later) ≡ behind (rules ++ rule ∷ []) later
behind_one rules rule (Err refusal) = refl
behind_one rules rule (Ok more) = ap (λ all. Ok all) (sym (append_assoc rules (rule ∷ []) more))

-- one more safe rule
pub behind_safe : (so_far : List SafeRule) (number : ℕ) (rule : Rule) (rules : List Rule) (made : SafeRule)
    → safe_rule number rule ≡ Ok made
    → behind so_far (safe_rules_from number (rule ∷ rules))
    ≡ behind (so_far ++ made ∷ []) (safe_rules_from (suc number) rules)
behind_safe so_far number rule rules made is =
    ap (λ one. behind so_far (with_rule one (safe_rules_from (suc number) rules))) is
    ∙ behind_one so_far made (safe_rules_from (suc number) rules)

-- the first refusal is that of all
pub behind_refused : (so_far : List SafeRule) (number : ℕ) (rule : Rule) (rules : List Rule) (refusal : Refusal)
    → safe_rule number rule ≡ Err refusal
    → behind so_far (safe_rules_from number (rule ∷ rules)) ≡ Err refusal
behind_refused so_far number rule rules refusal is =
    ap (λ one. behind so_far (with_rule one (safe_rules_from (suc number) rules))) is

rules_at : (rules : List Rule) (place : ℕ) (rule : Rule) → place < length rules → rule ≡ get_or rules place rule
    → drop place rules ≡ rule ∷ drop (suc place) rules
rules_at rules place rule within is =
    drop-cons rules place rule within ∙ ap (λ (one : Rule). one ∷ drop (suc place) rules) (sym is)

-- what stands behind so many rules that are safe
pub record IsSafeSoFar (doc : Doc) (so_far : List SafeRule) (place : ℕ) : Type 0 where
  pub comes : behind so_far (safe_rules_from (suc place) (drop place doc.rules)) ≡ safe_rules_of doc
  pub safe : All IsSafe so_far
  pub count : length so_far ≡ place

pub none_yet : (doc : Doc) (so_far : List SafeRule) → so_far ≡ [] → IsSafeSoFar doc so_far 0
none_yet doc so_far none =
    let at_first = one_behind (safe_rules_of doc) in
    subst (λ (rules : List SafeRule). IsSafeSoFar doc rules 0) (sym none)
    (record { comes = at_first; safe = λ k d within. absurd (omega arith); count = refl })
  where
    one_behind : (made : Result (List SafeRule) Refusal) → behind [] made ≡ made
    one_behind (Ok rules) = refl
    one_behind (Err refusal) = refl

pub one_more_safe : (doc : Doc) (so_far next : List SafeRule) (place : ℕ) (rule : Rule) (made : SafeRule)
    → IsSafeSoFar doc so_far place → place < length doc.rules → rule ≡ get_or doc.rules place rule
    → safe_rule (suc place) rule ≡ Ok made → IsSafe made → next ≡ so_far ++ made ∷ []
    → IsSafeSoFar doc next (suc place)
one_more_safe doc so_far next place rule made before within is here safe after =
    subst (λ (rules : List SafeRule). IsSafeSoFar doc rules (suc place)) (sym after) (record {
      comes = sym (behind_safe so_far (suc place) rule (drop (suc place) doc.rules) made here)
          ∙ ap (λ rules. behind so_far (safe_rules_from (suc place) rules))
          (sym (rules_at doc.rules place rule within is))
          ∙ before.comes;
      safe = All-append IsSafe so_far (made ∷ []) before.safe (All-cons IsSafe made [] safe (λ k d within. absurd
          (omega arith)));
      count = length-append so_far (made ∷ []) ∙ add-one (length so_far) ∙ ap (λ n. suc n) before.count;
    })

pub refused_here : (doc : Doc) (so_far : List SafeRule) (place : ℕ) (rule : Rule) (fault : Fault)
    → IsSafeSoFar doc so_far place → place < length doc.rules → rule ≡ get_or doc.rules place rule
    → IsMade (safe_rule (suc place) rule) (Err fault) → RefusesRules doc fault
refused_here doc so_far place rule OutOfMemory before within is made = tt
refused_here doc so_far place rule (Refused refusal) before within is made =
    sym before.comes
    ∙ ap (λ rules. behind so_far (safe_rules_from (suc place) rules)) (rules_at doc.rules place rule within is)
    ∙ behind_refused so_far (suc place) rule (drop (suc place) doc.rules) refusal made

append_nothing : (rules : List SafeRule) → rules ++ [] ≡ rules
append_nothing [] = refl
append_nothing (rule ∷ rules) = ap (λ more. rule ∷ more) (append_nothing rules)

pub all_safe : (doc : Doc) (so_far : List SafeRule) (place : ℕ) → IsSafeSoFar doc so_far place
    → length doc.rules ≤ place → safe_rules_of doc ≡ Ok so_far
all_safe doc so_far place before over =
    sym before.comes
    ∙ ap (λ rules. behind so_far (safe_rules_from (suc place) rules)) (drop_of_length-le doc.rules over)
    ∙ ap (λ rules. Ok rules) (append_nothing so_far)
