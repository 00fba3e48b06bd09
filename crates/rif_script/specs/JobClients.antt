-- The clients of a job.
--     HasClientNames job    the clients' names have the form of one, and differ
--     HasItsClients job     each item's client is one of them
--     JobsHaveClients       law: each job that an input is has both
-- Source: the project's own (docs/FORMATS.md, "Jobs").
use Rattle.std.specs.Prelude.{◌≡◌, ◌<◌, ℕ, true, List, All, length}
use Rattle.rif_tree.specs.Rules.{name_of}
use Rattle.session_states.specs.declared.item.Item.{Item}
use Rattle.rif_script.specs.declared.job.Job.{Job}
use Rattle.rif_script.specs.Jobs.{IsJob, is_client_name}

pub record HasClientNames (job : Job) : Type 0 where
  pub formed : (i : ℕ) → i < length job.names → is_client_name (name_of job.names i) ≡ true
  pub distinct : (i j : ℕ) → i < length job.names → j < length job.names → name_of job.names i ≡ name_of job.names j →
      i ≡ j

-- each item is of one of the clients with these names
abbrev pub AreOfClients : List (List ℕ) → List (ℕ × Item) → Type 0
AreOfClients names items = All (λ sent. sent.0 < length names) items

abbrev pub HasItsClients : Job → Type 0
HasItsClients job = AreOfClients job.names job.items

abbrev pub JobsHaveClients : Type 0
JobsHaveClients = (bytes : List ℕ) (job : Job) → IsJob bytes job → HasClientNames job × HasItsClients job
