use Rattle.std.proofs.Common.{◌∙◌, ap, sym}
use Rattle.std.specs.Prelude.{bytes_eq}
use Rattle.rif_tree.specs.declared.keyword.Keyword.TheVariants.{Document}
use Rattle.rif_tree.specs.Keywords.{keyword_text, keywords}
use Rattle.rif_tree.proofs.NamesLemmas.{find_next}
use Rattle.rif_tree.proofs.keyword.Keyword.named.Goals as goal

pub loop-keyword-preserved : goal.loop-keyword-preserved
loop-keyword-preserved c =
    find_next (λ keyword. bytes_eq c.args.text.now (keyword_text keyword)) keywords c.loop-keyword.keyword-index
    Document c.loop-keyword-test.true
    (ap (bytes_eq c.args.text.now) (sym c.text.ensures) ∙ sym c.eq.ensures ∙ c.if-eq.false)
    ∙ c.loop-keyword.invariant
