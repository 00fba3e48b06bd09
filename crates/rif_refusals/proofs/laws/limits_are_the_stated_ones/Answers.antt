use Rattle.std.proofs.Common.{refl}
use Rattle.rif_refusals.proofs.laws.limits_are_the_stated_ones.Goals as goal

pub returns : goal.returns
returns c = record {
  input_bytes = refl;
  open_brackets = refl;
  rules_of_a_document = refl;
  variables = refl;
  patterns = refl;
  actions = refl;
  branches = refl;
  priority = refl;
  budgets = refl;
  items = refl;
  clients = refl;
  name_characters = refl;
  batch_items = refl;
}
