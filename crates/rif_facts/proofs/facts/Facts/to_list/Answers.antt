use Rattle.std.proofs.Common.{ap}
use Rattle.rif_facts.proofs.MarksLemmas.{counted_set}
use Rattle.rif_facts.proofs.facts.Facts.to_list.Goals as goal

pub returns-in_err-all-clause-ordered : goal.returns-in_err-all-clause-ordered
returns-in_err-all-clause-ordered c =
    counted_set c.self.inside.indexed c.args.self.now.list (ap (λ v. v.list) c.self.view_is)
    c.self.invariant.marked.sorted

pub returns-clause-ordered : goal.returns-clause-ordered
returns-clause-ordered c =
    counted_set c.self.inside.indexed c.args.self.now.list (ap (λ v. v.list) c.self.view_is)
    c.self.invariant.marked.sorted
