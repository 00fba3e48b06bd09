-- Each variable of a rule's value is a place in the rule's names.
use Rattle.std.proofs.Common.{◌≤◌, ℕ, ℤ, pos, List, [], ◌∷◌, ◌++◌, arith, length}
use Rattle.rif_tree.specs.declared.rule.Rule.{Rule}
use Rattle.prd_grammar.specs.declared.leaf.Leaf.TheVariants.{Var, Open, Close, OpenSquare, CloseSquare, Hash, Arrow}
use Rattle.prd_limits.specs.Limits.{levels_need, condition_needs, decls_need, target_needs, action_needs}
use Rattle.prd_limits.specs.Limits.{actions_need, KeepsRulePlaces, KeepRulePlaces, KeepsPlaces}
use Rattle.prd_grammar.specs.Trees.{const_of_name, spell_const, spell_term, spell_terms, spell_pairs, Vars}
use Rattle.prd_grammar.specs.Trees.{spell_vars}
use Rattle.prd_grammar.specs.Trees.{spell_formula, SuchTrees, spell_such, TargetTree, target_member, target_frame}
use Rattle.prd_grammar.specs.Trees.{target_atom, spell_target, ActionTree, assert, retract, retract_slot}
use Rattle.prd_grammar.specs.Trees.{retract_object, modify, spell_action, ActionTrees, last_action, actions}
use Rattle.prd_grammar.specs.Trees.{spell_actions, BlockTree, acts, new_object, slot_value, spell_block, RuleTree}
use Rattle.prd_grammar.specs.Trees.{for_all, for_all_such, if_then, block, spell_rule, GroupTree, group, MemberTrees}
use Rattle.prd_grammar.specs.Trees.{no_members, rule_member, group_member, PrefixTrees, no_group, one_group, prefix}
use Rattle.prd_grammar.specs.Trees.{DocumentTree, document}
use Rattle.prd_grammar.specs.Values.{target_value, action_value, actions_value, block_decls, block_actions}
use Rattle.prd_grammar.specs.Values.{rule_levels, rule_condition, rule_block, rule_names, rule_value, priority_in}
use Rattle.prd_grammar.specs.Values.{group_rules, member_rules, rules_behind, document_value}
use Rattle.prd_grammar.proofs.CallerLemmas.{Known, known_front, known_back, place_below, all_known}
use Rattle.prd_limits.proofs.PlacingTermLemmas.{term_place, terms_place, pairs_place, vars_place}
use Rattle.prd_limits.proofs.PlacingFormulaLemmas.{formula_place, such_place}

target_place : (names : List (List ℕ)) (t : TargetTree) → Known names (spell_target t) →
    target_needs (target_value names t) ≤ length names
target_place names (target_member o c) known = omega (
  arith,
  term_place names o (known_front names (spell_term o) (Hash ∷ spell_term c) known),
  term_place names c (known_back names (spell_term o) (Hash ∷ spell_term c) known).1,
)
target_place names (target_frame o ps) known = omega (
  arith,
  term_place names o (known_front names (spell_term o) (OpenSquare ∷ spell_pairs ps) known),
  pairs_place names ps (known_back names (spell_term o) (OpenSquare ∷ spell_pairs ps) known).1,
)
target_place names (target_atom n ts) known =
    terms_place names ts (known_back names (spell_const (const_of_name n)) (Open ∷ spell_terms ts) known).1

action_place : (names : List (List ℕ)) (x : ActionTree) → Known names (spell_action x) →
    action_needs (action_value names x) ≤ length names
action_place names (assert t) known = target_place names t (known_front names (spell_target t) (Close ∷ []) known.1.1)
action_place names (retract t) known =
    target_place names t (known_front names (spell_target t) (Close ∷ []) known.1.1)
action_place names (retract_slot o s) known =
    let more = known_back names (spell_term o) (spell_term s ++ Close ∷ []) known.1.1 in
    omega (
      arith,
      term_place names o (known_front names (spell_term o) _ known.1.1),
      term_place names s (known_front names (spell_term s) (Close ∷ []) more),
    )
action_place names (retract_object o) known =
    term_place names o (known_front names (spell_term o) (Close ∷ []) known.1.1)
action_place names (modify o ps) known =
    let more = (known_back names (spell_term o) (OpenSquare ∷ (spell_pairs ps ++ Close ∷ [])) known.1.1).1 in
    omega (
      arith,
      term_place names o (known_front names (spell_term o) _ known.1.1),
      pairs_place names ps (known_front names (spell_pairs ps) (Close ∷ []) more),
    )

actions_place : (names : List (List ℕ)) (xs : ActionTrees) → Known names (spell_actions xs) →
    actions_need (actions_value names xs) ≤ length names
actions_place names (last_action x) known =
    omega (arith, action_place names x (known_front names (spell_action x) (Close ∷ []) known))
actions_place names (actions x more) known = omega (
  arith,
  action_place names x (known_front names (spell_action x) (spell_actions more) known),
  actions_place names more (known_back names (spell_action x) (spell_actions more) known),
)

decls_place : (names : List (List ℕ)) (b : BlockTree) → Known names (spell_block b) →
    decls_need (block_decls names b) ≤ length names
decls_place names (acts xs) known = omega arith
decls_place names (new_object v b) known =
    omega (arith, place_below names v known.1.0, decls_place names b known.1.1.1.1.1.1)
decls_place names (slot_value v o s b) known =
    let slot = (known_back names (spell_term o) _ known.1.1).1 in
    let more = known_back names (spell_term s) (Arrow ∷ Var v ∷ CloseSquare ∷ Close ∷ spell_block b) slot in
    omega (
      arith,
      place_below names v known.1.0,
      term_place names o (known_front names (spell_term o) _ known.1.1),
      term_place names s (known_front names (spell_term s) _ slot),
      decls_place names b more.1.1.1.1,
    )

block_place : (names : List (List ℕ)) (b : BlockTree) → Known names (spell_block b) →
    actions_need (block_actions names b) ≤ length names
block_place names (acts xs) known = actions_place names xs known
block_place names (new_object v b) known = block_place names b known.1.1.1.1.1.1
block_place names (slot_value v o s b) known =
    let slot = (known_back names (spell_term o) _ known.1.1).1 in
    let more = known_back names (spell_term s) (Arrow ∷ Var v ∷ CloseSquare ∷ Close ∷ spell_block b) slot in
    block_place names b more.1.1.1.1

-- what is known of a rule is known of the rule inside its `Forall`
inside_forall : (names : List (List ℕ)) (vs : Vars) (r : RuleTree) → Known names (spell_rule (for_all vs r)) →
    Known names (spell_rule r)
inside_forall names vs r known =
    let more = (known_back names (spell_vars vs) (Open ∷ (spell_rule r ++ Close ∷ [])) known.1).1 in
    known_front names (spell_rule r) (Close ∷ []) more

such_known : (names : List (List ℕ)) (vs : Vars) (fs : SuchTrees) (r : RuleTree) →
    Known names (spell_rule (for_all_such vs fs r)) → Known names (spell_such fs ++ (spell_rule r ++ Close ∷ []))
such_known names vs fs r known = (known_back names (spell_vars vs) _ known.1).1.1

inside_such : (names : List (List ℕ)) (vs : Vars) (fs : SuchTrees) (r : RuleTree) →
    Known names (spell_rule (for_all_such vs fs r)) → Known names (spell_rule r)
inside_such names vs fs r known =
    let more = known_back names (spell_such fs) (spell_rule r ++ Close ∷ []) (such_known names vs fs r known) in
    known_front names (spell_rule r) (Close ∷ []) more

levels_place : (names : List (List ℕ)) (r : RuleTree) → Known names (spell_rule r) →
    levels_need (rule_levels names r) ≤ length names
levels_place names (for_all vs r) known = omega (
  arith,
  vars_place names vs (known_front names (spell_vars vs) _ known.1),
  levels_place names r (inside_forall names vs r known),
)
levels_place names (for_all_such vs fs r) known = omega (
  arith,
  vars_place names vs (known_front names (spell_vars vs) _ known.1),
  such_place names fs (known_front names (spell_such fs) _ (such_known names vs fs r known)),
  levels_place names r (inside_such names vs fs r known),
)
levels_place names (if_then f b) known = omega arith
levels_place names (block b) known = omega arith

condition_place : (names : List (List ℕ)) (r : RuleTree) → Known names (spell_rule r) →
    condition_needs (rule_condition names r) ≤ length names
condition_place names (for_all vs r) known = condition_place names r (inside_forall names vs r known)
condition_place names (for_all_such vs fs r) known = condition_place names r (inside_such names vs fs r known)
condition_place names (if_then f b) known = formula_place names f (known_front names (spell_formula f) _ known.1)
condition_place names (block b) known = omega arith

block_known : (names : List (List ℕ)) (r : RuleTree) → Known names (spell_rule r) →
    Known names (spell_block (rule_block r))
block_known names (for_all vs r) known = block_known names r (inside_forall names vs r known)
block_known names (for_all_such vs fs r) known = block_known names r (inside_such names vs fs r known)
block_known names (if_then f b) known = (known_back names (spell_formula f) _ known.1).1.1.1
block_known names (block b) known = known.1.1

rule_places : (z : ℤ) (r : RuleTree) → KeepsRulePlaces (rule_value z r)
rule_places z r =
    let known = all_known (spell_rule r) [] in
    record {
      levels = levels_place (rule_names r) r known;
      condition = condition_place (rule_names r) r known;
      decls = decls_place (rule_names r) (rule_block r) (block_known (rule_names r) r known);
      actions = block_place (rule_names r) (rule_block r) (block_known (rule_names r) r known);
    }

both_keep : (rs more : List Rule) → KeepRulePlaces rs → KeepRulePlaces more → KeepRulePlaces (rs ++ more)
both_keep [] more first rest = rest
both_keep (r ∷ rs) more first rest = (first.0, both_keep rs more first.1 rest)

mutual
  group_places : (z : ℤ) (g : GroupTree) → KeepRulePlaces (group_rules z g)
  group_places z (group s q ms) = members_places (priority_in z q) ms

  members_places : (z : ℤ) (ms : MemberTrees) → KeepRulePlaces (member_rules z ms)
  members_places z no_members = tt
  members_places z (rule_member r ms) = (rule_places z r, members_places z ms)
  members_places z (group_member g ms) =
      both_keep (group_rules z g) (member_rules z ms) (group_places z g) (members_places z ms)

prefixes_places : (ps : PrefixTrees) → KeepRulePlaces (rules_behind ps)
prefixes_places no_group = tt
prefixes_places (one_group g) = group_places (pos 0) g
prefixes_places (prefix name iri ps) = prefixes_places ps

pub places : (t : DocumentTree) → KeepsPlaces (document_value t)
places (document ps) = record { each = prefixes_places ps }
