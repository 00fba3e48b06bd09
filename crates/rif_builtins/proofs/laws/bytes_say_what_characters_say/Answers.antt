use Rattle.rif_builtins.proofs.StringLawLemmas.{by_characters}
use Rattle.rif_builtins.proofs.laws.bytes_say_what_characters_say.Goals as goal

pub returns : goal.returns
returns c = by_characters
