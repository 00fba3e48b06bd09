use Rattle.std.proofs.Common.{◌∙◌}
use Rattle.prd_writing.specs.Canonical.{action_spelling}
use Rattle.prd_writing.proofs.WritingLemmas.{item_written, items_written}
use Rattle.prd_writing.proofs.action.push_actions.Goals as goal

pub loop-action-preserved : goal.loop-action-preserved
loop-action-preserved c = λ rest.
    item_written (action_spelling c.args.names.now) c.args.actions.now c.loop-action.action-index c.action-item.result
    c.loop-action.is_first
    c.loop-action.out.items c.push_space.new.out.items c.push_action.new.out.items c.loop-action-test.true
    c.action-item.is
    c.in_ok-push_space.ensures c.in_ok-push_action.ensures rest
    ∙ c.loop-action.invariant rest

pub returns : goal.returns
returns c = λ rest.
    items_written (action_spelling c.args.names.now) c.args.actions.now c.loop-action.action-index
    c.loop-action.is_first
    c.args.out.now.items c.loop-action.out.items c.loop-action-test.false rest (c.loop-action.invariant rest)
