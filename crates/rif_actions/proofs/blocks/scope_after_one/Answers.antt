use Rattle.std.proofs.Common.{◌≡◌, ◌∙◌, List, Result, Ok, Err, IfOk, sym}
use Rattle.rif_values.specs.declared.fact.Fact.{Fact}
use Rattle.rif_tree.specs.declared.rule.Decl.TheVariants.{New}
use Rattle.rif_actions.specs.Blocks.{after_decl}
use Rattle.rif_actions.proofs.SlotScopeLemmas.{no_scope, slot_scope}
use Rattle.rif_actions.proofs.blocks.scope_after_one.Goals as goal

-- what holds of all facts holds of some
at_facts : {A E : Type 0} (f : List Fact → A) (r : Result A E) (w : List Fact)
    → IfOk r (λ found. (v : List Fact) → found ≡ f v)
    → IfOk r (λ found. found ≡ f w)
at_facts f (Ok found) w all = all w
at_facts f (Err error) w all = all

pub returns-in-New-clause-scope : goal.returns-in-New-clause-scope
returns-in-New-clause-scope c =
    rw c.in-New.is (at_facts (λ w. after_decl w (New c.in-New.var) c.args.scope.now) c.scope_with_object.result
    c.args.facts.now.list
    c.scope_with_object.ensures.scope)

pub returns-in_ok-pairs_with-in-Some-clause-scope : goal.returns-in_ok-pairs_with-in-Some-clause-scope
returns-in_ok-pairs_with-in-Some-clause-scope c =
    slot_scope c.args.facts.now.list c.args.decl.now c.in-Slot.var c.in-Slot.object c.in-Slot.slot c.args.scope.now
    c.in-Some.constant c.as_slice.result.now c.as_slice-in-Some.result.now c.in_ok-pairs_with-in-Some.field-0
    c.in-Slot.is c.as_slice.ensures c.as_slice-in-Some.ensures
    (sym c.in-Some.is ∙ c.in_ok-constant-in-Slot.ensures) c.in_ok-pairs_with-in-Some.ensures

pub returns-in-None-clause-scope : goal.returns-in-None-clause-scope
returns-in-None-clause-scope c =
    no_scope c.args.facts.now.list c.args.decl.now c.in-Slot.var c.in-Slot.object c.in-Slot.slot c.args.scope.now
    c.as_slice.result.now c.in-Slot.is c.as_slice.ensures (sym c.in-None.is ∙ c.in_ok-constant-in-Slot.ensures)
