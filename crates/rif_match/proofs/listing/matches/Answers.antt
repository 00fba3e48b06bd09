use Rattle.std.proofs.Common.{◌≡◌, ◌∙◌, List, [], ◌∷◌, ◌++◌, ap}
use Rattle.rif_values.specs.Bindings.{Row}
use Rattle.rif_builtins.specs.Extensions.{base_of, through}
use Rattle.rif_match.proofs.ListingLemmas.{ordered_rows}
use Rattle.rif_match.proofs.listing.matches.Goals as goal

pub returns : goal.returns
returns c =
    let formula = c.args.formula.now in
    let one : c.push.new.self.items ≡ c.args.row.now ∷ [] =
    c.in_ok-push.ensures.items ∙ ap (λ (rows : List Row). rows ++ c.in_ok-copy.field-0 ∷ []) c.new-one.ensures.items
    ∙ ap (λ (row : Row). row ∷ []) c.in_ok-copy.ensures in
    ordered_rows c.sorted_set.result c.in_ok-found.found.items
    (through (base_of c.args.facts.now.list) formula (c.args.row.now ∷ []))
    (c.in_ok-found.ensures ∙ ap (through (base_of c.args.facts.now.list) formula) one)
    c.sorted_set.ensures
