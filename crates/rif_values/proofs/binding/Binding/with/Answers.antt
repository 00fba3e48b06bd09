use Rattle.std.proofs.Common.{subst, sym, ap, ◌∙◌}
use Rattle.rif_values.specs.Bindings.{IsBinding, Row}
use Rattle.rif_values.specs.Bindings.{bound}
use Rattle.rif_values.proofs.BoundLemmas.{binding_bound}
use Rattle.rif_values.proofs.binding.Binding.with.Goals as goal

pub from_pairs-requires : goal.from_pairs-requires
from_pairs-requires c =
    let longer = λ (row : Row). bound row c.args.var c.args.constant.now in
    let is = c.in_ok-shared.ensures ∙ c.into_vec.ensures ∙ c.in_ok-pairs.ensures ∙ ap longer c.pairs.ensures.pairs in
    subst IsBinding (sym is)
    (binding_bound c.args.self.now c.args.var c.args.constant.now c.pairs.ensures.rising c.requires)
