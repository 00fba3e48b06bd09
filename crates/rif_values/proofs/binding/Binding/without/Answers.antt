use Rattle.std.proofs.Common.{subst, sym, ap, ◌∙◌, not, ◌==◌}
use Rattle.std.specs.List.{list_any}
use Rattle.rif_values.specs.Bindings.{IsBinding}
use Rattle.rif_values.specs.Bindings.{without_variables}
use Rattle.rif_values.proofs.BoundLemmas.{binding_filter}
use Rattle.rif_values.proofs.binding.Binding.without.Goals as goal

pub from_pairs-requires : goal.from_pairs-requires
from_pairs-requires c =
    let is = c.in_ok-shared.ensures ∙ c.in_ok-pairs.ensures
    ∙ ap (without_variables c.args.vars.now) c.pairs.ensures.pairs in
    subst IsBinding (sym is)
    (binding_filter (λ pair. not (list_any (λ v. v == pair.0) c.args.vars.now)) c.args.self.now
    c.pairs.ensures.rising)
