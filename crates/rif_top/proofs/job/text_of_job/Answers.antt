use Rattle.std.proofs.Common.{◌≡◌, ◌∙◌, ◌++◌, ap, length, refl, subst, List, ℕ}
use Rattle.safe_rules.specs.declared.safe_rule.SafeRule.{SafeRule}
use Rattle.session_states.specs.declared.item.Entry.{Entry}
use Rattle.session_states.specs.declared.turn.Turn.{Turn}
use Rattle.rif_values.specs.declared.fact.Fact.{Fact}
use Rattle.prd_relation.specs.RuleSystem.{system_of}
use Rattle.prd_relation.specs.Runs.{IsReplay, run_of}
use Rattle.rif_script.specs.Trace.{run_text}
use Rattle.rif_top.proofs.RunLemmas.{engine_ran, run_is}
use Rattle.rif_top.proofs.job.text_of_job.Goals as goal

pub returns : goal.returns
returns c =
    let job = c.args.job.now in
    let replay = c.in_ok-engine.ensures in
    let all = replay.0 in
    let ran = engine_ran c.turns_tell_their_facts.ensures job c.in_ok-copy.field-0 c.in_ok-engine.engine all
    c.in_ok-copy.ensures replay.2 in
    run_is job c.write_run.new.out.items c.in_ok-batches.batches.items all (run_of (system_of job.doc) all)
    c.in_ok-batches.left.items c.len.result c.cut_is_lawful.ensures c.replays_are_lawful.ensures
    c.in_ok-batches.ensures.batches c.in_ok-batches.ensures.left
    (subst (λ (doc : List SafeRule). IsReplay (system_of doc) c.in_ok-batches.batches.items all) c.in_ok-copy.ensures
    replay.1)
    refl
    (c.len.ensures ∙ ap (λ (fs : List Fact). length fs) c.facts.ensures ∙ ran.1)
    (c.in_ok-write_run.ensures.ok
    ∙ ap (λ (before : List ℕ). before ++ run_text job c.turns.result.now c.as_slice.result.now c.len.result)
    c.new-text.ensures.items
    ∙ ap (λ (turns : List Turn). run_text job turns c.as_slice.result.now c.len.result) (c.turns.ensures ∙ ran.0)
    ∙ ap (λ (left : List Entry). run_text job (run_of (system_of job.doc) all) left c.len.result)
    c.as_slice.ensures.value)
