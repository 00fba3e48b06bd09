-- The rules that end along a group or a document are those of its value, one behind the other.
use Rattle.std.proofs.Common.{◌≡◌, ◌+◌, ℕ, ℤ, pos, suc, Bool, false, List, [], ◌∷◌, ◌++◌, refl, ap, ◌∙◌, sym, subst}
use Rattle.std.proofs.Common.{arith, length, map, Some, None, if◌then◌else◌, append-nil, append_assoc}
use Rattle.std.proofs.lemmas.List.{map-append}
use Rattle.std.specs.declared.option.Option.{Option}
use Rattle.rif_tree.specs.declared.rule.Rule.{Rule}
use Rattle.prd_grammar.specs.declared.leaf.Keyword.TheVariants.{Document, Prefix, Group}
use Rattle.prd_grammar.specs.declared.leaf.Leaf.{Leaf}
use Rattle.prd_grammar.specs.declared.leaf.Leaf.TheVariants.{Key, Word, Int, Iri, Curie, Open, Close}
use Rattle.prd_grammar.specs.declared.bracket.Bracket.{Bracket}
use Rattle.prd_limits.specs.Limits.{level_patterns, condition_patterns}
use Rattle.prd_grammar.specs.Progress.{Counts, Progress, progress_with, progress_from, rule_at, ends_rule}
use Rattle.prd_grammar.specs.Progress.{counts_with}
use Rattle.prd_grammar.specs.Progress.{begins_rule, no_counts}
use Rattle.prd_grammar.specs.Trees.{RuleTree, for_all, for_all_such, if_then, block, spell_rule, spell_block}
use Rattle.prd_grammar.specs.Trees.{StrategyTree, no_strategy, strategy_iri, strategy_curie, spell_strategy}
use Rattle.prd_grammar.specs.Trees.{PriorityTree, no_priority, priority, spell_priority, GroupTree, group}
use Rattle.prd_grammar.specs.Trees.{MemberTrees}
use Rattle.prd_grammar.specs.Trees.{no_members, rule_member, group_member, spell_group, spell_members, PrefixTrees}
use Rattle.prd_grammar.specs.Trees.{no_group, one_group, prefix, spell_prefixes, DocumentTree, document}
use Rattle.prd_grammar.specs.Trees.{spell_document}
use Rattle.prd_grammar.specs.Values.{rule_names, rule_value, rule_block, priority_in, group_rules, member_rules}
use Rattle.prd_grammar.specs.Values.{rules_behind, document_value}
use Rattle.prd_limits.proofs.CountingFolds.{course, meets, signs}
use Rattle.prd_limits.proofs.CountingFoldLemmas.{Tally, tally, tally_of, tally_ended, tallies, counted, within, Ends}
use Rattle.prd_limits.proofs.CountingFoldLemmas.{rule_ends}
use Rattle.prd_limits.proofs.CountingActionLemmas.{block_adds}
use Rattle.prd_limits.proofs.CountingRuleLemmas.{rule_meets, rule_falls, rule_signs, behind, depth_in}
use Rattle.prd_limits.proofs.CountingValueLemmas.{rule_count, block_count}

abbrev pub rule_tally : Rule → Tally
rule_tally r = tally r.names (level_patterns r.levels + condition_patterns r.condition) (length r.actions)

-- between rules, these leaves have the rules of these tallies whole
pub record Reads (p : Progress) (ls : List Leaf) (ts : List Tally) : Type 0 where
  pub reads : tallies p ls ≡ ts
  pub none : (progress_from p ls).rule ≡ None

abbrev pub Lead : List Leaf → List Tally → Type 0
Lead ls ts = (p : Progress) → p.rule ≡ None → Reads p ls ts

rule_begins : (r : RuleTree) (bs : List Bracket) (last : Leaf) (h m : Bool) (rules : ℕ) (t : Tally) →
    Ends (within bs Close h false (suc rules) (Some (counted (length bs) false [] 0 0))) (spell_rule r) t →
    Reads (within bs last h m rules None) (spell_rule r) (t ∷ [])
rule_begins (for_all vs r) bs last h m rules t g = record { reads = g.reads; none = g.none }
rule_begins (for_all_such vs fs r) bs last h m rules t g = record { reads = g.reads; none = g.none }
rule_begins (if_then f b) bs last h m rules t g = record { reads = g.reads; none = g.none }
rule_begins (block b) bs last h m rules t g = record { reads = g.reads; none = g.none }

-- what the fold counts of a rule
abbrev spelled_tally : RuleTree → Tally
spelled_tally r = tally (rule_names r) (signs false false 0 (spell_rule r)) (block_adds (rule_block r) 0)

rule_counted : (z : ℤ) (r : RuleTree) → spelled_tally r ≡ rule_tally (rule_value z r)
rule_counted z r =
    let whole : spell_rule r ++ [] ≡ spell_rule r = append-nil (spell_rule r) in
    let patterns : signs false false 0 (spell_rule r) ≡ (rule_tally (rule_value z r)).patterns =
    ap (signs false false 0) (sym whole) ∙ (rule_signs r 0 [] ∙ (rule_count (rule_names r) r 0 ∙ omega arith)) in
    let actions : block_adds (rule_block r) 0 ≡ (rule_tally (rule_value z r)).actions =
    block_count (rule_names r) (rule_block r) 0 ∙ omega arith in
    ap (λ (n : ℕ). tally (rule_names r) n (block_adds (rule_block r) 0)) patterns
    ∙ ap (λ (a : ℕ). tally (rule_names r) (rule_tally (rule_value z r)).patterns a) actions

-- the leaves of a rule behind its `Do` and the bracket that opens its block
abbrev block_leaves : RuleTree → List Leaf
block_leaves r = spell_block (rule_block r) ++ behind r []

rule_reads : (r : RuleTree) (bs : List Bracket) (last : Leaf) (h m : Bool) (rules : ℕ) →
    Reads (within bs last h m rules None) (spell_rule r) (spelled_tally r ∷ [])
rule_reads r bs last h m rules =
    let met : course (spell_rule r) 0 0 ≡ meets (depth_in r 0) 0 (Open ∷ block_leaves r) =
    ap (λ (ls : List Leaf). course ls 0 0) (sym (append-nil (spell_rule r))) ∙ rule_meets r [] 0 0 in
    rule_begins r bs last h m rules (spelled_tally r)
    (rule_ends (spell_rule r) (block_leaves r) bs Close h false (suc rules) (length bs) 0 0 0
    (block_adds (rule_block r) 0) (depth_in r 0) 0 [] (omega arith) met (rule_falls r [] 0 0))

rule_leads : (z : ℤ) (r : RuleTree) → Lead (spell_rule r) (rule_tally (rule_value z r) ∷ [])
rule_leads z r p none =
    let at_none = rule_reads r p.brackets p.last p.in_head p.named p.rules in
    let here = subst (λ (now : Option Counts).
    Reads (within p.brackets p.last p.in_head p.named p.rules now) (spell_rule r) (spelled_tally r ∷ []))
    (sym none) at_none in
    subst (λ (t : Tally). Reads p (spell_rule r) (t ∷ [])) (rule_counted z r) here

nothing_leads : Lead [] []
nothing_leads p none = record { reads = refl; none = none }

-- a leaf between rules
no_rule_at : (p : Progress) (l : Leaf) → begins_rule l ≡ false → p.rule ≡ None → rule_at p l ≡ None
no_rule_at p l quiet none =
    let new = no_counts (length p.brackets) in
    ap (λ (now : Option Counts). elim now [ Some c ↦ Some c | None ↦ if begins_rule l then Some new else None ]) none
    ∙ ap (λ (b : Bool). if b then Some new else None) quiet

no_rule_behind : (p : Progress) (l : Leaf) → rule_at p l ≡ None → (progress_with p l).rule ≡ None
no_rule_behind p l = ap (λ (now : Option Counts). elim now [
  | None ↦ None
  | Some c ↦ if ends_rule p.brackets c l then None else Some (counts_with p.named c l)
])

no_rule_ends : (p : Progress) (l : Leaf) → rule_at p l ≡ None → tally_ended p l ≡ []
no_rule_ends p l = ap (λ (now : Option Counts). elim now [
  | None ↦ []
  | Some c ↦ if ends_rule p.brackets c l then tally_of c ∷ [] else []
])

skip : (l : Leaf) (ls : List Leaf) (ts : List Tally) → begins_rule l ≡ false → Lead ls ts → Lead (l ∷ ls) ts
skip l ls ts quiet more p none =
    let next = progress_with p l in
    let here = no_rule_at p l quiet none in
    let g = more next (no_rule_behind p l here) in
    record {
      reads = ap (λ (first : List Tally). first ++ tallies next ls) (no_rule_ends p l here) ∙ g.reads;
      none = g.none;
    }

tallies_apart : (xs ys : List Leaf) (p : Progress) →
    tallies p (xs ++ ys) ≡ tallies p xs ++ tallies (progress_from p xs) ys
tallies_apart [] ys p = refl
tallies_apart (x ∷ xs) ys p =
    let next = progress_with p x in
    ap (λ (ts : List Tally). tally_ended p x ++ ts) (tallies_apart xs ys next)
    ∙ sym (append_assoc (tally_ended p x) (tallies next xs) (tallies (progress_from next xs) ys))

progress_apart : (xs ys : List Leaf) (p : Progress) →
    progress_from p (xs ++ ys) ≡ progress_from (progress_from p xs) ys
progress_apart [] ys p = refl
progress_apart (x ∷ xs) ys p = progress_apart xs ys (progress_with p x)

chain : (xs ys : List Leaf) (ts us : List Tally) → Lead xs ts → Lead ys us → Lead (xs ++ ys) (ts ++ us)
chain xs ys ts us first more p none =
    let f = first p none in
    let g = more (progress_from p xs) f.none in
    record {
      reads = tallies_apart xs ys p ∙ (ap (λ (now : List Tally). now ++ tallies (progress_from p xs) ys) f.reads
          ∙ ap (λ (now : List Tally). ts ++ now) g.reads);
      none = ap (λ (q : Progress). q.rule) (progress_apart xs ys p) ∙ g.none;
    }

behind_strategy : (s : StrategyTree) (ls : List Leaf) (ts : List Tally) → Lead ls ts →
    Lead (spell_strategy s ++ ls) ts
behind_strategy no_strategy ls ts more = more
behind_strategy (strategy_iri t) ls ts more = skip (Iri t) ls ts refl more
behind_strategy (strategy_curie t) ls ts more = skip (Curie t) ls ts refl more

behind_priority : (q : PriorityTree) (ls : List Leaf) (ts : List Tally) → Lead ls ts →
    Lead (spell_priority q ++ ls) ts
behind_priority no_priority ls ts more = more
behind_priority (priority z) ls ts more = skip (Int z) ls ts refl more

mutual
  group_leads : (z : ℤ) (g : GroupTree) → Lead (spell_group g) (map rule_tally (group_rules z g))
  group_leads z (group s q ms) = skip (Key Group) _ _ refl
      (behind_strategy s _ _ (behind_priority q _ _ (skip Open _ _ refl (members_lead (priority_in z q) ms))))

  members_lead : (z : ℤ) (ms : MemberTrees) → Lead (spell_members ms) (map rule_tally (member_rules z ms))
  members_lead z no_members = skip Close [] [] refl nothing_leads
  members_lead z (rule_member r ms) = chain _ _ _ _ (rule_leads z r) (members_lead z ms)
  members_lead z (group_member g ms) =
      subst (λ (ts : List Tally). Lead (spell_group g ++ spell_members ms) ts)
      (sym (map-append rule_tally (group_rules z g) (member_rules z ms)))
      (chain _ _ _ _ (group_leads z g) (members_lead z ms))

prefixes_lead : (ps : PrefixTrees) → Lead (spell_prefixes ps) (map rule_tally (rules_behind ps))
prefixes_lead no_group = skip Close [] [] refl nothing_leads
prefixes_lead (one_group g) = subst (λ (ts : List Tally). Lead (spell_group g ++ Close ∷ []) ts) (append-nil _)
    (chain _ _ _ _ (group_leads (pos 0) g) (skip Close [] [] refl nothing_leads))
prefixes_lead (prefix name iri ps) = skip (Key Prefix) _ _ refl (skip Open _ _ refl
    (skip (Word name) _ _ refl (skip (Iri iri) _ _ refl (skip Close _ _ refl (prefixes_lead ps)))))

pub document_leads : (t : DocumentTree) → Lead (spell_document t) (map rule_tally (document_value t).rules)
document_leads (document ps) = skip (Key Document) _ _ refl (skip Open _ _ refl (prefixes_lead ps))
