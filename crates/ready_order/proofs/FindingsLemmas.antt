-- The places that a formula takes, at each form that has a list of formulas inside it.
use Rattle.std.proofs.Common.{◌≡◌, ℕ, suc, List, map, ap, ◌∙◌, sym}
use Rattle.std.specs.Prelude.{sum}
use Rattle.rif_tree.specs.declared.tree.Formula.{Formula}
use Rattle.rif_tree.specs.declared.tree.Formula.TheOpen.{And as AndLayer, Or as OrLayer}
use Rattle.rif_tree.specs.declared.tree.Formula.TheVariants.{And, Or, rolls-And, rolls-Or}
use Rattle.rif_tree.specs.declared.tree.Formula.TheFolds.{fold-roll-Formula}
use Rattle.ready_order.specs.Findings.{places_of, places_step}

pub places_and : (fs : List Formula) → places_of (And fs) ≡ suc (sum (map places_of fs))
places_and fs = ap places_of (sym (rolls-And fs)) ∙ fold-roll-Formula ℕ places_step (AndLayer fs)

pub places_or : (fs : List Formula) → places_of (Or fs) ≡ suc (sum (map places_of fs))
places_or fs = ap places_of (sym (rolls-Or fs)) ∙ fold-roll-Formula ℕ places_step (OrLayer fs)
