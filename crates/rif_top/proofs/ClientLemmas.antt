-- The batches of a replay have the entries of the given batches, in their order.
use Rattle.std.proofs.Common.{◌≡◌, ◌∙◌, ◌<◌, ℕ, Bool, true, false, List, [], ◌∷◌, ◌++◌, length, refl, ap}
use Rattle.std.proofs.Common.{sym, subst}
use Rattle.std.specs.List.{All}
use Rattle.std.proofs.lemmas.List.Elements.{All-head, All-tail}
use Rattle.session_states.specs.declared.item.Entry.{Entry}
use Rattle.session_states.specs.declared.item.Item.{Item}
use Rattle.session_states.specs.Batches.{ends_in, is_dispose, joined}
use Rattle.session_states.specs.Clients.{CountUp, items_of, ranks_of, script_of}
use Rattle.prd_relation.specs.RuleSystem.{RuleSystem, system_of}
use Rattle.prd_relation.specs.Runs.{IsReplayFrom, fires}
use Rattle.prd_relation.specs.Turns.{Session, first_session, session_after}
use Rattle.rif_script.specs.declared.job.Job.{Job}
use Rattle.rif_script.specs.Cutting.{batches_of_entries, entries_after, left_of_entries, script_entries}
use Rattle.rif_script.specs.CuttingLaws.{CutKeepsAll, CutLeavesBehindDispose, EntriesFollowScripts}
use Rattle.rif_script.specs.JobClients.{JobsHaveClients}
use Rattle.rif_script.specs.TraceLaws.{AreKnown}
use Rattle.rif_top.specs.ClientLaws.{RunsKeepScripts}

joined_replay : (system : RuleSystem) (session : Session) (fired : Bool) (given all : List (List Entry))
    (more : List Entry) → IsReplayFrom system session fired given all → joined all more ≡ joined given more
joined_replay system session true given [] more is = absurd is
joined_replay system session true given (batch ∷ all) more is =
    ap (λ (entries : List Entry). entries ++ joined all more) is.0
    ∙ joined_replay system (session_after system session batch) (fires system session batch) given all more is.1
joined_replay system session false [] [] more is = refl
joined_replay system session false [] (batch ∷ all) more is = absurd is
joined_replay system session false (next ∷ given) [] more is = absurd is
joined_replay system session false (next ∷ given) (batch ∷ all) more is =
    ap (λ (entries : List Entry). entries ++ joined all more) is.0
    ∙ ap (λ (entries : List Entry). next ++ entries)
    (joined_replay system (session_after system session batch) (fires system session batch) given all more is.1)

-- the entries of a job's items are of its clients
known_after : (job : Job) (before items : List (ℕ × Item)) →
    All (λ (sent : ℕ × Item). sent.0 < length job.names) items → AreKnown job (entries_after before items)
known_after job before [] are = tt
known_after job before (sent ∷ items) are = (
  All-head (λ (one : ℕ × Item). one.0 < length job.names) sent items are,
  known_after job (before ++ sent ∷ []) items
      (All-tail (λ (one : ℕ × Item). one.0 < length job.names) sent items are),
)

with_nothing : {X : Type 0} (xs : List X) → xs ++ [] ≡ xs
with_nothing [] = refl
with_nothing (x ∷ xs) = ap (λ ys. x ∷ ys) (with_nothing xs)

pub runs_keep_scripts : CutKeepsAll → EntriesFollowScripts → CutLeavesBehindDispose → JobsHaveClients
    → RunsKeepScripts
runs_keep_scripts keeps follow behind clients input job batches read replay =
    let left : List Entry = left_of_entries (script_entries job) in
    let same : (more : List Entry) → joined batches more ≡ joined (batches_of_entries (script_entries job)) more =
    λ more. joined_replay (system_of job.doc) first_session false (batches_of_entries (script_entries job)) batches
    more replay in
    let whole : joined batches left ≡ script_entries job = same left ∙ keeps (script_entries job) in
    let items : (client : ℕ) → items_of client (joined batches left) ≡ script_of client job.items =
    λ client. ap (items_of client) whole ∙ (follow job.items client).0 in (
      record {
        known = subst (AreKnown job) (sym whole) (known_after job [] job.items (clients input job read).1);
        items = λ client. ([], with_nothing (items_of client (joined batches left)) ∙ items client);
        ranks = λ client. subst (λ (entries : List Entry). CountUp 0 (ranks_of client entries)) (sym whole)
            (follow job.items client).1;
      },
      items,
      λ some. ap (ends_in is_dispose) (same []) ∙ behind (script_entries job) some,
    )
