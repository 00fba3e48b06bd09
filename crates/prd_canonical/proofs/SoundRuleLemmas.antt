-- Where a rule is sound, its canonical tree is.
use Rattle.std.proofs.Common.{◌∷◌, refl}
use Rattle.prd_grammar.specs.declared.leaf.Keyword.TheVariants.{Forall, Such, That, If, Then, Do, New, Assert}
use Rattle.prd_grammar.specs.declared.leaf.Keyword.TheVariants.{Retract}
use Rattle.prd_grammar.specs.declared.leaf.Keyword.TheVariants.{Modify}
use Rattle.prd_grammar.specs.declared.leaf.Leaf.TheVariants.{Key, Var, Open, Hash, Arrow}
use Rattle.prd_grammar.specs.Trees.{TargetTree, target_member, target_frame, target_atom, spell_target, ActionTree}
use Rattle.prd_grammar.specs.Trees.{assert, retract, retract_slot, retract_object, modify, spell_action, ActionTrees}
use Rattle.prd_grammar.specs.Trees.{last_action, actions, spell_actions, BlockTree, acts, new_object, slot_value}
use Rattle.prd_grammar.specs.Trees.{spell_block, SuchTrees, last_such, more_such, spell_such, RuleTree, for_all}
use Rattle.prd_grammar.specs.Trees.{for_all_such, if_then, block, spell_rule}
use Rattle.prd_canonical.specs.CanonicalTrees.{canonical_target, canonical_action, canonical_actions, canonical_block}
use Rattle.prd_canonical.specs.CanonicalTrees.{canonical_such, canonical_rule}
use Rattle.prd_canonical.proofs.SoundLeaves.{StaySound, plain, as_they_are, both, inside, leaf, opens, opens_square}
use Rattle.prd_canonical.proofs.SoundLeaves.{closes, closes_square, in_brackets}
use Rattle.prd_canonical.proofs.SoundTermLemmas.{plain_term, terms_sound, pairs_sound}
use Rattle.prd_canonical.proofs.SoundFormulaLemmas.{InPlain, name_sound, vars_sound, formula_sound}

target_sound : (t : TargetTree) → InPlain (spell_target t) (spell_target (canonical_target t))
target_sound (target_member o c) = both (plain_term o) (both (leaf Hash refl) (plain_term c))
target_sound (target_frame o ps) =
    both (plain_term o) (both (inside plain opens_square) (inside plain (pairs_sound ps)))
target_sound (target_atom n ts) = both (name_sound n) (both (inside plain opens) (inside plain (terms_sound ts)))

action_sound : (a : ActionTree) → InPlain (spell_action a) (spell_action (canonical_action a))
action_sound (assert t) = both (leaf (Key Assert) refl) (in_brackets (target_sound t))
action_sound (retract t) = both (leaf (Key Retract) refl) (in_brackets (target_sound t))
action_sound (retract_slot o s) = both (leaf (Key Retract) refl) (both (inside plain opens)
    (both (inside plain (plain_term o)) (both (inside plain (plain_term s)) (inside plain closes))))
action_sound (retract_object o) = both (leaf (Key Retract) refl) (in_brackets (plain_term o))
action_sound (modify o ps) = both (leaf (Key Modify) refl) (both (inside plain opens)
    (both (inside plain (plain_term o)) (both (inside plain (inside plain opens_square))
    (both (inside plain (inside plain (pairs_sound ps))) (inside plain closes)))))

-- with the bracket behind them
actions_sound : (all : ActionTrees) →
    StaySound plain as_they_are (spell_actions all) (spell_actions (canonical_actions all))
actions_sound (last_action a) = both (action_sound a) closes
actions_sound (actions a more) = both (action_sound a) (actions_sound more)

-- with the bracket behind it
block_sound : (b : BlockTree) → StaySound plain as_they_are (spell_block b) (spell_block (canonical_block b))
block_sound (acts all) = actions_sound all
block_sound (new_object v b) = both (inside plain opens) (both (inside plain (leaf (Var v) refl))
    (both (inside plain (leaf (Key New) refl)) (both (inside plain (inside plain opens))
    (both (inside plain (inside plain closes)) (both (inside plain closes) (block_sound b))))))
block_sound (slot_value v o s b) = both (inside plain opens) (both (inside plain (leaf (Var v) refl))
    (both (inside plain (plain_term o)) (both (inside plain (inside plain opens_square))
    (both (inside plain (inside plain (plain_term s))) (both (inside plain (inside plain (leaf Arrow refl)))
    (both (inside plain (inside plain (leaf (Var v) refl))) (both (inside plain (inside plain closes_square))
    (both (inside plain closes) (block_sound b)))))))))

-- with the bracket behind them
such_sound : (fs : SuchTrees) →
    StaySound plain (λ bs. plain (plain bs)) (spell_such fs) (spell_such (canonical_such fs))
such_sound (last_such f) = both (formula_sound f) (inside plain opens)
such_sound (more_such f fs) = both (formula_sound f) (such_sound fs)

block_opens : (b : BlockTree) → InPlain (Open ∷ spell_block b) (Open ∷ spell_block (canonical_block b))
block_opens b = both (inside plain opens) (inside plain (block_sound b))

pub rule_sound : (r : RuleTree) → InPlain (spell_rule r) (spell_rule (canonical_rule r))
rule_sound (for_all vs r) = both (leaf (Key Forall) refl) (both (vars_sound vs) (in_brackets (rule_sound r)))
rule_sound (for_all_such vs fs r) = both (leaf (Key Forall) refl) (both (vars_sound vs) (both (leaf (Key Such) refl)
    (both (leaf (Key That) refl) (both (such_sound fs) (both (inside plain (rule_sound r)) (inside plain closes))))))
rule_sound (if_then f b) = both (leaf (Key If) refl) (both (formula_sound f) (both (leaf (Key Then) refl)
    (both (leaf (Key Do) refl) (block_opens b))))
rule_sound (block b) = both (leaf (Key Do) refl) (block_opens b)
