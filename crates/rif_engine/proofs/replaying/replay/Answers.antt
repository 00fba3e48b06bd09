use Rattle.std.proofs.Common.{◌≡◌, ◌∙◌, List, [], ◌∷◌, Option, subst, ap, length, drop, refl, arith}
use Rattle.safe_rules.specs.declared.safe_rule.SafeRule.{SafeRule}
use Rattle.session_states.specs.declared.item.Entry.{Entry}
use Rattle.prd_relation.specs.RuleSystem.{system_of}
use Rattle.prd_relation.specs.Runs.{IsReplay}
use Rattle.rif_engine.proofs.ReplayLemmas.{all_replayed}
use Rattle.rif_engine.proofs.replaying.replay.Goals as goal

none_left : (left : List (List Entry)) → left ≡ drop 1 left → left ≡ []
none_left [] is = refl
none_left (batch ∷ batches) is = let same : length (batch ∷ batches) ≡ length batches = ap length is in
    absurd (omega arith)

pub returns : goal.returns
returns c =
    let run = c.loop-batch.engine in
    let none : c.loop-batch.left.items ≡ [] =
    none_left c.loop-batch.left.items (c.in_default.ensures.items ∙ c.in_default.ensures.rest) in
    let replayed = c.loop-batch.invariant.1 in (
      run.done,
      subst (λ (doc : List SafeRule). IsReplay (system_of doc) c.args.batches.items run.done) c.loop-batch.invariant.0
          (all_replayed c.args.batches.items c.loop-batch.left.items run none replayed),
      ap (λ (doc : List SafeRule). record { doc = doc; done = run.done; owed = run.owed }) c.loop-batch.invariant.0
          ∙ ap (λ (o : Option (List Entry)). record { doc = c.args.doc; done = run.done; owed = o }) replayed.settled,
    )
