-- The text of a job's run.
use Rattle.std.proofs.Common.{◌≡◌, ◌∙◌, ℕ, List, None, ap, append-nil, length, subst, sym}
use Rattle.safe_rules.specs.declared.safe_rule.SafeRule.{SafeRule}
use Rattle.session_states.specs.declared.item.Entry.{Entry}
use Rattle.session_states.specs.declared.turn.Turn.{Turn}
use Rattle.prd_relation.specs.FactsOfTurns.{fact_count_of}
use Rattle.prd_relation.specs.History.{newest_facts}
use Rattle.prd_relation.specs.Laws.{AreReplaysLawful, TellTheirFacts}
use Rattle.prd_relation.specs.RuleSystem.{system_of}
use Rattle.prd_relation.specs.Runs.{IsReplay, run_of}
use Rattle.rif_engine.specs.SoFar.{RunSoFar, session_now, turns_of}
use Rattle.rif_script.specs.declared.job.Job.{Job}
use Rattle.rif_script.specs.Cutting.{batches_of_entries, left_of_entries, script_entries}
use Rattle.rif_script.specs.CuttingLaws.{CutIsLawful}
use Rattle.rif_script.specs.Trace.{run_text}
use Rattle.rif_top.specs.Runs.{IsRunOf}

pub run_is : (job : Job) (text : List ℕ) (given all : List (List Entry)) (turns : List Turn) (left : List Entry)
    (facts : ℕ) → CutIsLawful → AreReplaysLawful →
    given ≡ batches_of_entries (script_entries job) → left ≡ left_of_entries (script_entries job) →
    IsReplay (system_of job.doc) given all → turns ≡ run_of (system_of job.doc) all → facts ≡ fact_count_of turns →
    text ≡ run_text job turns left facts → IsRunOf job text
run_is job text given all turns left facts cut lawful batches rest replay turns_are facts_are written =
    let system = system_of job.doc in
    let replayed = subst (λ (bs : List (List Entry)). IsReplay system bs all) batches replay in
    record {
      batches = all;
      replayed = replayed;
      lawful = lawful system (batches_of_entries (script_entries job)) all (cut (script_entries job)) replayed;
      text_is = written
          ∙ ap (λ (n : ℕ). run_text job turns left n) facts_are
          ∙ ap (λ (ts : List Turn). run_text job ts left (fact_count_of ts)) turns_are
          ∙ ap (λ (es : List Entry). run_text job (run_of system all) es (fact_count_of (run_of system all))) rest;
    }

-- an engine that has run a job's batches has the turns of their run, and as many facts as these leave
pub engine_ran : TellTheirFacts → (job : Job) (doc : List SafeRule) (engine : RunSoFar) (all : List (List Entry))
    → doc ≡ job.doc → engine ≡ record { doc = doc; done = all; owed = None }
    → (turns_of engine ≡ run_of (system_of job.doc) all)
    × (length (newest_facts (session_now engine).history) ≡ fact_count_of (run_of (system_of job.doc) all))
engine_ran tell job doc engine all copied is =
    let same : engine ≡ record { doc = job.doc; done = all; owed = None } =
    is ∙ ap (λ (d : List SafeRule). record { doc = d; done = all; owed = None }) copied in (
      ap turns_of same ∙ append-nil (run_of (system_of job.doc) all),
      ap (λ (r : RunSoFar). length (newest_facts (session_now r).history)) same
          ∙ ap length (sym (tell (system_of job.doc) all)),
    )
