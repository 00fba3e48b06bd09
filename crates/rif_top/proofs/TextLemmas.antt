-- The text of a run fixes its batches: each turn is a function of the batches up to it.
use Rattle.std.proofs.Common.{◌≡◌, ◌∙◌, List, [], ◌∷◌, ◌++◌, refl, ap, sym}
use Rattle.session_states.specs.declared.item.Entry.{Entry}
use Rattle.session_states.specs.declared.turn.Turn.{Turn}
use Rattle.prd_relation.specs.FactsOfTurns.{fact_count_of}
use Rattle.prd_relation.specs.RuleSystem.{RuleSystem, system_of}
use Rattle.prd_relation.specs.Runs.{run_of, session_at_end, turns_from}
use Rattle.prd_relation.specs.Turns.{Session, first_session, session_after, turn_of}
use Rattle.rif_script.specs.declared.job.Job.{Job}
use Rattle.rif_script.specs.JobClients.{JobsHaveClients}
use Rattle.rif_script.specs.Trace.{run_text}
use Rattle.rif_script.specs.TraceLaws.{AreTurns, SameTextSameRun, turns_behind}
use Rattle.rif_top.specs.Runs.{text_of_run}
use Rattle.rif_top.specs.TextLaws.{TextFixesRun}

-- the turn of a batch behind others
abbrev turn_behind : RuleSystem → List (List Entry) → List Entry → Turn
turn_behind system before batch = turn_of system (session_at_end system first_session before) batch

-- the session after one more batch
session_at_end-snoc : (system : RuleSystem) (session : Session) (before : List (List Entry)) (batch : List Entry) →
    session_after system (session_at_end system session before) batch
    ≡ session_at_end system session (before ++ batch ∷ [])
session_at_end-snoc system session [] batch = refl
session_at_end-snoc system session (first ∷ before) batch =
    session_at_end-snoc system (session_after system session first) before batch

turns_from-behind : (system : RuleSystem) (before batches : List (List Entry)) →
    turns_from system (session_at_end system first_session before) batches
    ≡ turns_behind (turn_behind system) before batches
turns_from-behind system before [] = refl
turns_from-behind system before (batch ∷ batches) =
    ap (λ (turns : List Turn). turn_behind system before batch ∷ turns)
    (ap (λ (session : Session). turns_from system session batches)
    (session_at_end-snoc system first_session before batch)
    ∙ turns_from-behind system (before ++ batch ∷ []) batches)

are_turns : (system : RuleSystem) → AreTurns (turn_behind system)
are_turns system = record { takes = λ before batch. refl; settled = λ before batch. refl }

-- the text of a run, where its turns are each a function of the batches up to it
text_behind : (job : Job) (batches : List (List Entry)) (left : List Entry) →
    text_of_run job batches left
    ≡ run_text job (turns_behind (turn_behind (system_of job.doc)) [] batches) left
    (fact_count_of (run_of (system_of job.doc) batches))
text_behind job batches left =
    ap (λ (turns : List Turn). run_text job turns left (fact_count_of (run_of (system_of job.doc) batches)))
    (turns_from-behind (system_of job.doc) [] batches)

pub text_fixes_run : JobsHaveClients → SameTextSameRun → TextFixesRun
text_fixes_run clients same_run input job bs cs left right read follows others same =
    same_run job (turn_behind (system_of job.doc)) bs cs left right
    (fact_count_of (run_of (system_of job.doc) bs)) (fact_count_of (run_of (system_of job.doc) cs))
    (clients input job read).0 (are_turns (system_of job.doc)) follows others
    (sym (text_behind job bs left) ∙ same ∙ text_behind job cs right)
