use Rattle.std.proofs.Common.{ap, sym, ◌∙◌}
use Rattle.rif_facts.specs.Readiness.{counts}
use Rattle.rif_facts.proofs.MarksLemmas.{counted_set, counts_has}
use Rattle.rif_facts.proofs.facts.Facts.has.Goals as goal

pub returns-in-Some-clause-has : goal.returns-in-Some-clause-has
returns-in-Some-clause-has c =
    ap counts (sym c.in-Some.is ∙ c.mark.ensures.mark)
    ∙ counts_has c.self.inside.indexed c.args.self.now.list c.args.fact.now (ap (λ v. v.list) c.self.view_is)
    c.self.invariant.marked.sorted

pub returns-in-Some-clause-ordered : goal.returns-in-Some-clause-ordered
returns-in-Some-clause-ordered c =
    counted_set c.self.inside.indexed c.args.self.now.list (ap (λ v. v.list) c.self.view_is)
    c.self.invariant.marked.sorted

pub returns-in-None-clause-has : goal.returns-in-None-clause-has
returns-in-None-clause-has c =
    ap counts (sym c.in-None.is ∙ c.mark.ensures.mark)
    ∙ counts_has c.self.inside.indexed c.args.self.now.list c.args.fact.now (ap (λ v. v.list) c.self.view_is)
    c.self.invariant.marked.sorted

pub returns-in-None-clause-ordered : goal.returns-in-None-clause-ordered
returns-in-None-clause-ordered c =
    counted_set c.self.inside.indexed c.args.self.now.list (ap (λ v. v.list) c.self.view_is)
    c.self.invariant.marked.sorted
