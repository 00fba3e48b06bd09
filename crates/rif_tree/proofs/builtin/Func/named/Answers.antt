use Rattle.std.proofs.Common.{◌∙◌, ap, sym}
use Rattle.std.specs.Prelude.{bytes_eq}
use Rattle.rif_tree.specs.declared.builtin.Func.TheVariants.{NumericAdd}
use Rattle.rif_tree.specs.BuiltinNames.{func_name, funcs}
use Rattle.rif_tree.proofs.NamesLemmas.{find_next}
use Rattle.rif_tree.proofs.builtin.Func.named.Goals as goal

pub loop-func-preserved : goal.loop-func-preserved
loop-func-preserved c =
    find_next (λ func. bytes_eq c.args.name.now (func_name func)) funcs c.loop-func.func-index NumericAdd
    c.loop-func-test.true (ap (bytes_eq c.args.name.now) (sym c.name.ensures) ∙ sym c.eq.ensures ∙ c.if-eq.false)
    ∙ c.loop-func.invariant
