use Rattle.std.proofs.Common.{◌∙◌, sym}
use Rattle.rif_script.proofs.ClientNameLemmas.{client_text}
use Rattle.rif_script.proofs.script_line.name_of.Goals as goal

pub returns-clause-text : goal.returns-clause-text
returns-clause-text c =
    client_text c.in_ok-text.text.now (sym c.is_client_name.ensures ∙ c.if-not-is_client_name.false)
