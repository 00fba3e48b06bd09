-- What the canonical text of an input's document is, as an input of its own.
--     document_job rules               the job of a document of these rules alone, without a script
--     IsTooLongOrDeep refusal          the refusal of an input for its length, or at a bracket that is too deep
--     IsCheckedText text doc rules     the text is the job of the document, which has these safe rules, or too long
--                                      or deep, and nothing else
--     CheckedTextIsAJob                law
-- Source: the project's own (docs/FORMATS.md, "Canonical text").
use Rattle.std.specs.Prelude.{◌≡◌, ◌⊎◌, ℕ, List, []}
use Rattle.rif_refusals.specs.declared.refusal.Refusal.{Refusal}
use Rattle.rif_refusals.specs.declared.refusal.Refusal.TheVariants.{InputTooLong, TooDeep}
use Rattle.rif_tree.specs.declared.rule.Doc.{Doc}
use Rattle.safe_rules.specs.declared.safe_rule.SafeRule.{SafeRule}
use Rattle.prd_writing.specs.Canonical.{canonical_text}
use Rattle.rif_script.specs.declared.job.Job.{Job}
use Rattle.rif_script.specs.Jobs.{IsJobOf, IsRefused}

abbrev pub document_job : List SafeRule → Job
document_job rules = record { doc = rules; names = []; items = [] }

abbrev pub IsTooLongOrDeep : Refusal → Type 0
IsTooLongOrDeep InputTooLong = Unit {0}
IsTooLongOrDeep (TooDeep line col) = Unit {0}
IsTooLongOrDeep _ = ⊥

pub record IsCheckedText (text : List ℕ) (doc : Doc) (rules : List SafeRule) : Type 0 where
  pub outcome : IsJobOf text doc (document_job rules)
      ⊎ ((refusal : Refusal) × IsTooLongOrDeep refusal × IsRefused text refusal)
  pub same_job : (again : Doc) (job : Job) → IsJobOf text again job → (again ≡ doc) × (job ≡ document_job rules)
  pub same_text : (again : Doc) (job : Job) → IsJobOf text again job → canonical_text again ≡ text
  pub refused : (refusal : Refusal) → IsRefused text refusal → IsTooLongOrDeep refusal

-- Law: the canonical text of the document that was read of an input is the job of that document, without clients and
-- items, so that its own canonical text is the same; or it is refused for its length, or at a bracket that is too
-- deep.
abbrev pub CheckedTextIsAJob : Type 0
CheckedTextIsAJob =
    (bytes : List ℕ) (doc : Doc) (job : Job) → IsJobOf bytes doc job →
    IsCheckedText (canonical_text doc) doc job.doc
