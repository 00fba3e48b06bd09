use Rattle.std.proofs.Common.{ℕ, List, ap, ◌∙◌, sym, Some}
use Rattle.std.specs.Option.{option_map}
use Rattle.rif_builtins.specs.Builtins.{has_part}
use Rattle.rif_builtins.proofs.StringLemmas.{found_part}
use Rattle.rif_builtins.proofs.strings.contains.Goals as goal

pub returns : goal.returns
returns c =
    let found = found_part c.in_ok-text.text.now c.in_ok-text.part.now c.find.result c.find.ensures in
    ap Some (c.is_some.ensures ∙ found)
    ∙ ap (option_map (λ (two : List ℕ × List ℕ). has_part two.0 two.1)) (sym c.in_ok-text.ensures)
