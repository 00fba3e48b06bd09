-- The canonical spelling of rules and documents is tokens of which each ends before the next.
use Rattle.std.proofs.Common.{◌≡◌, ℕ, ℤ, pos, ◌<◌, ◌^◌, List, [], ◌∷◌, ◌++◌, map, refl, sym, subst, ap, codes}
use lib.Signed.{mag}
use Rattle.rif_tree.specs.declared.tree.Level.{Level}
use Rattle.rif_tree.specs.declared.rule.Rule.{Rule}
use Rattle.rif_lex.specs.Spelling.{Gap, joined, space, line_feed, Spelled, AreSeparate}
use Rattle.rif_lex.proofs.CallerLemmas.{constants_are_tokens}
use Rattle.prd_writing.specs.Canonical.{word, opening, closing, open_square, close_square, arrow, gap_before, listed}
use Rattle.prd_writing.specs.Canonical.{spaced, var_spelling, term_spelling, formula_spelling, target_spelling}
use Rattle.prd_writing.specs.Canonical.{acted_spelling, action_spelling, slot_spelling, new_spelling, decl_spelling}
use Rattle.prd_writing.specs.Canonical.{block_spelling, such_spelling, levels_spelling, rule_spelling, group_spelling}
use Rattle.prd_writing.specs.Canonical.{groups_spelling, rules_spelling, canonical_spelling}
use Rattle.prd_grammar.specs.Trees.{TermTree, TargetTree, target_member, target_frame, target_atom, ActionTree}
use Rattle.prd_grammar.specs.Trees.{assert}
use Rattle.prd_grammar.specs.Trees.{retract, retract_slot, retract_object, modify, ActionTrees, last_action, actions}
use Rattle.prd_grammar.specs.Trees.{BlockTree, acts, new_object, slot_value, SuchTrees, last_such, more_such}
use Rattle.prd_grammar.specs.Trees.{RuleTree}
use Rattle.prd_grammar.specs.Trees.{for_all, for_all_such, if_then, block, GroupTree, group, MemberTrees, no_members}
use Rattle.prd_grammar.specs.Trees.{rule_member, group_member, PrefixTrees, no_group, one_group, prefix, DocumentTree}
use Rattle.prd_grammar.specs.Trees.{document}
use Rattle.prd_grammar.specs.Values.{term_value, target_value, action_value, actions_value, block_decls}
use Rattle.prd_grammar.specs.Values.{block_actions}
use Rattle.prd_grammar.specs.Values.{such_value, rule_levels, rule_condition, rule_block, rule_names, rule_value}
use Rattle.prd_grammar.specs.Values.{priority_in, group_rules, member_rules, rules_behind, document_value, place_of}
use Rattle.prd_canonical.specs.Writable.{Ends, IsWritableVar, IsWritableTerm, IsWritableTarget, IsWritableAction}
use Rattle.prd_canonical.specs.Writable.{AreWritableActions, IsWritableBlock, AreWritableSuch, IsWritableRule}
use Rattle.prd_canonical.specs.Writable.{IsWritableGroup, AreWritableMembers, IsWritableDocument, AreWritablePrefixes}
use Rattle.prd_canonical.proofs.SeparateLemmas.{separate_opening, separate_var, separate_term}
use Rattle.prd_canonical.proofs.SeparateFormulaLemmas.{separate_frame, separate_member, separate_atom, separate_vars}
use Rattle.prd_canonical.proofs.SeparateFormulaLemmas.{separate_formula}

separate_target : (names : List (List ℕ)) (t : TargetTree) (gap : Gap) (rest : List Spelled) →
    IsWritableTarget names t → AreSeparate rest → Ends gap rest →
    AreSeparate (target_spelling names (target_value names t) gap rest)
separate_target names (target_member o c) gap rest w h e = separate_member names o c gap rest w.0 w.1 h e
separate_target names (target_frame o ps) gap rest w h e = separate_frame names o ps gap rest w.0 w.1 h
separate_target names (target_atom n ts) gap rest w h e = separate_atom names n ts gap rest w.0 w.1 h

separate_acted : (names : List (List ℕ)) (a : ActionTree) (rest : List Spelled) →
    IsWritableAction names a → AreSeparate rest → Ends joined rest →
    AreSeparate (acted_spelling names (action_value names a) rest)
separate_acted names (assert t) rest w h e = separate_target names t joined rest w h e
separate_acted names (retract t) rest w h e = separate_target names t joined rest w h e
separate_acted names (retract_slot o s) rest w h e =
    separate_term names o space (term_spelling names (term_value names s) joined rest) w.0
    (separate_term names s joined rest w.1 h e) refl
separate_acted names (retract_object o) rest w h e = separate_term names o joined rest w h e
separate_acted names (modify o ps) rest w h e = separate_frame names o ps joined rest w.0 w.1 h

separate_action : (names : List (List ℕ)) (a : ActionTree) (gap : Gap) (rest : List Spelled) →
    IsWritableAction names a → AreSeparate rest →
    AreSeparate (opening ∷ acted_spelling names (action_value names a) (closing gap ∷ rest))
separate_action names a gap rest w h =
    separate_opening (acted_spelling names (action_value names a) (closing gap ∷ rest))
    (separate_acted names a (closing gap ∷ rest) w (refl, refl, h) refl)

separate_verb : (names : List (List ℕ)) (a : ActionTree) (gap : Gap) (rest : List Spelled) →
    IsWritableAction names a → AreSeparate rest →
    AreSeparate (action_spelling names (action_value names a) gap rest)
separate_verb names (assert t) gap rest w h = (refl, refl, separate_action names (assert t) gap rest w h)
separate_verb names (retract t) gap rest w h = (refl, refl, separate_action names (retract t) gap rest w h)
separate_verb names (retract_slot o s) gap rest w h =
    (refl, refl, separate_action names (retract_slot o s) gap rest w h)
separate_verb names (retract_object o) gap rest w h =
    (refl, refl, separate_action names (retract_object o) gap rest w h)
separate_verb names (modify o ps) gap rest w h = (refl, refl, separate_action names (modify o ps) gap rest w h)

separate_actions : (names : List (List ℕ)) (all : ActionTrees) (rest : List Spelled) →
    AreWritableActions names all → AreSeparate rest → Ends joined rest →
    AreSeparate (listed (map (action_spelling names) (actions_value names all)) rest)
separate_actions names (last_action a) rest w h e = separate_verb names a joined rest w h
separate_actions names (actions a more) rest w h e =
    let others = map (action_spelling names) (actions_value names more) in
    separate_verb names a (gap_before others) (listed others rest) w.0 (separate_actions names more rest w.1 h e)

separate_slot : (names : List (List ℕ)) (v : List ℕ) (o s : TermTree) (gap : Gap) (rest : List Spelled) →
    IsWritableVar names v → IsWritableTerm names o → IsWritableTerm names s → AreSeparate rest →
    AreSeparate (slot_spelling names (place_of names v) (term_value names o) (term_value names s) gap rest)
separate_slot names v o s gap rest wv wo ws h =
    let last = close_square joined ∷ closing gap ∷ rest in
    let value = arrow ∷ var_spelling names (place_of names v) joined last in
    let slot = open_square ∷ term_spelling names (term_value names s) joined value in
    let object = term_spelling names (term_value names o) joined slot in
    separate_opening (var_spelling names (place_of names v) space object)
    (separate_var names (place_of names v) space object wv
    (separate_term names o joined slot wo (
      refl,
      refl,
      separate_term names s joined value ws (
        refl,
        refl,
        separate_var names (place_of names v) joined last wv (refl, refl, (refl, refl, h)) refl,
      ) refl,
    ) refl) refl)

separate_new : (names : List (List ℕ)) (v : List ℕ) (gap : Gap) (rest : List Spelled) →
    IsWritableVar names v → AreSeparate rest → AreSeparate (new_spelling names (place_of names v) gap rest)
separate_new names v gap rest wv h =
    let new = word (codes "New") joined ∷ opening ∷ closing joined ∷ closing gap ∷ rest in
    separate_opening (var_spelling names (place_of names v) space new)
    (separate_var names (place_of names v) space new wv (
      refl,
      refl,
      (refl, refl, (refl, refl, (refl, refl, h))),
    ) refl)

separate_inside : (names : List (List ℕ)) (b : BlockTree) (rest : List Spelled) →
    IsWritableBlock names b → AreSeparate rest → Ends joined rest →
    AreSeparate (spaced (map (decl_spelling names) (block_decls names b))
    (listed (map (action_spelling names) (block_actions names b)) rest))
separate_inside names (acts a) rest w h e = separate_actions names a rest w h e
separate_inside names (new_object v b) rest w h e =
    separate_new names v space (spaced (map (decl_spelling names) (block_decls names b))
    (listed (map (action_spelling names) (block_actions names b)) rest)) w.0 (separate_inside names b rest w.1 h e)
separate_inside names (slot_value v o s b) rest w h e =
    separate_slot names v o s space (spaced (map (decl_spelling names) (block_decls names b))
    (listed (map (action_spelling names) (block_actions names b)) rest)) w.0 w.1.0 w.1.1.0
    (separate_inside names b rest w.1.1.1 h e)

separate_such : (names : List (List ℕ)) (fs : SuchTrees) (rest : List Spelled) → AreWritableSuch names fs →
    AreSeparate rest → AreSeparate (spaced (map (formula_spelling names) (such_value names fs)) rest)
separate_such names (last_such f) rest w h = separate_formula names f space rest w h refl
separate_such names (more_such f fs) rest w h =
    separate_formula names f space (spaced (map (formula_spelling names) (such_value names fs)) rest) w.0
    (separate_such names fs rest w.1 h) refl

separate_such_that : (names : List (List ℕ)) (fs : SuchTrees) (rest : List Spelled) → AreWritableSuch names fs →
    AreSeparate rest → AreSeparate (such_spelling names (such_value names fs) rest)
separate_such_that names (last_such f) rest w h =
    (refl, refl, (refl, refl, separate_such names (last_such f) rest w h))
separate_such_that names (more_such f fs) rest w h =
    (refl, refl, (refl, refl, separate_such names (more_such f fs) rest w h))

-- a rule with these names and levels, which has the condition and block of a tree
abbrev pub rule_of : ℤ → List (List ℕ) → List Level → RuleTree → Rule
rule_of p names levels r = record {
  priority = p;
  names = names;
  levels = levels;
  condition = rule_condition names r;
  decls = block_decls names (rule_block r);
  actions = block_actions names (rule_block r);
}

separate_block : (p : ℤ) (names : List (List ℕ)) (levels : List Level) (b : BlockTree) (r : RuleTree)
    (rest : List Spelled) → rule_block r ≡ b → IsWritableBlock names b → AreSeparate rest →
    AreSeparate (block_spelling (rule_of p names levels r) rest)
separate_block p names levels b r rest is w h =
    subst (λ (x : BlockTree). AreSeparate (word (codes "Do") joined ∷ opening
    ∷ spaced (map (decl_spelling names) (block_decls names x))
    (listed (map (action_spelling names) (block_actions names x)) (closing joined ∷ rest)))) (sym is) (
      refl,
      refl,
      separate_opening (spaced (map (decl_spelling names) (block_decls names b))
          (listed (map (action_spelling names) (block_actions names b)) (closing joined ∷ rest)))
          (separate_inside names b (closing joined ∷ rest) w (refl, refl, h) refl),
    )

separate_levels : (p : ℤ) (names : List (List ℕ)) (levels : List Level) (r : RuleTree) (rest : List Spelled) →
    IsWritableRule names r → AreSeparate rest →
    AreSeparate (levels_spelling (rule_of p names levels r) (rule_levels names r) rest)
separate_levels p names levels (for_all vs r) rest w h =
    let inner = levels_spelling (rule_of p names levels r) (rule_levels names r) (closing joined ∷ rest) in (
      refl,
      refl,
      separate_vars names vs (opening ∷ inner) w.0
          (separate_opening inner (separate_levels p names levels r (closing joined ∷ rest) w.1 (refl, refl, h))),
    )
separate_levels p names levels (for_all_such vs fs r) rest w h =
    let inner = levels_spelling (rule_of p names levels r) (rule_levels names r) (closing joined ∷ rest) in (
      refl,
      refl,
      separate_vars names vs (such_spelling names (such_value names fs) (opening ∷ inner)) w.0
          (separate_such_that names fs (opening ∷ inner) w.1.0
          (separate_opening inner (separate_levels p names levels r (closing joined ∷ rest) w.1.1 (refl, refl, h)))),
    )
separate_levels p names levels (if_then f b) rest w h =
    let behind = block_spelling (rule_of p names levels (if_then f b)) rest in (
      refl,
      refl,
      separate_formula names f space (word (codes "Then") space ∷ behind) w.0
          (refl, refl, separate_block p names levels b (if_then f b) rest refl w.1 h) refl,
    )
separate_levels p names levels (block b) rest w h = separate_block p names levels b (block b) rest refl w h

separate_group : (p : ℤ) (r : RuleTree) (rest : List Spelled) → mag p < 2 ^ 127 →
    IsWritableRule (rule_names r) r → AreSeparate rest → AreSeparate (group_spelling (rule_value p r) rest)
separate_group p r rest small w h =
    let inner = rule_spelling (rule_value p r) (closing line_feed ∷ rest) in (
      refl,
      refl,
      (
        constants_are_tokens.integers p small,
        refl,
        separate_opening inner
            (separate_levels p (rule_names r) (rule_levels (rule_names r) r) r (closing line_feed ∷ rest) w
            (refl, refl, h)),
      ),
    )

pub groups_both : (rs ss : List Rule) (rest : List Spelled) →
    groups_spelling (rs ++ ss) rest ≡ groups_spelling rs (groups_spelling ss rest)
groups_both [] ss rest = refl
groups_both (r ∷ rs) ss rest = ap (group_spelling r) (groups_both rs ss rest)

mutual
  separate_group_rules : (p : ℤ) (g : GroupTree) (rest : List Spelled) → IsWritableGroup p g → AreSeparate rest →
      AreSeparate (groups_spelling (group_rules p g) rest)
  separate_group_rules p (group s q ms) rest w h = separate_members (priority_in p q) ms rest w h

  separate_members : (p : ℤ) (ms : MemberTrees) (rest : List Spelled) → AreWritableMembers p ms → AreSeparate rest →
      AreSeparate (groups_spelling (member_rules p ms) rest)
  separate_members p no_members rest w h = h
  separate_members p (rule_member r ms) rest w h =
      separate_group p r (groups_spelling (member_rules p ms) rest) w.0.small w.1.0
      (separate_members p ms rest w.1.1 h)
  separate_members p (group_member g ms) rest w h =
      subst AreSeparate (sym (groups_both (group_rules p g) (member_rules p ms) rest))
      (separate_group_rules p g (groups_spelling (member_rules p ms) rest) w.0 (separate_members p ms rest w.1 h))

separate_rules : (rs : List Rule) →
    ((rest : List Spelled) → AreSeparate rest → AreSeparate (groups_spelling rs rest)) →
    AreSeparate (rules_spelling rs)
separate_rules [] all = (refl, refl, (refl, refl, (refl, refl, tt)))
separate_rules (r ∷ rs) all = (
  refl,
  refl,
  (
    refl,
    refl,
    (
      refl,
      refl,
      (
        refl,
        refl,
        all (closing joined ∷ closing line_feed ∷ []) (refl, refl, (refl, refl, tt)),
      ),
    ),
  ),
)

separate_prefixes : (ps : PrefixTrees) → AreWritablePrefixes ps → AreSeparate (rules_spelling (rules_behind ps))
separate_prefixes no_group w = (refl, refl, (refl, refl, (refl, refl, tt)))
separate_prefixes (one_group g) w =
    separate_rules (group_rules (pos 0) g) (λ rest h. separate_group_rules (pos 0) g rest w h)
separate_prefixes (prefix name iri ps) w = separate_prefixes ps w

-- the canonical spelling of what a tree stands for is lexed to its tokens
pub separate_document : (t : DocumentTree) → IsWritableDocument t →
    AreSeparate (canonical_spelling (document_value t))
separate_document (document ps) w = separate_prefixes ps w
