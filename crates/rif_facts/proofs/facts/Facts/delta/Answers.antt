use Rattle.std.proofs.Common.{ap}
use Rattle.rif_facts.proofs.MarksLemmas.{counted_set}
use Rattle.rif_facts.proofs.NetChangeLemmas.{net_is_possible, net_leads}
use Rattle.rif_facts.proofs.facts.Facts.delta.Goals as goal

pub net_change_of-requires : goal.net_change_of-requires
net_change_of-requires c =
    counted_set c.self.inside.indexed c.args.self.now.list (ap (λ v. v.list) c.self.view_is)
    c.self.invariant.marked.sorted

pub returns-clause-possible : goal.returns-clause-possible
returns-clause-possible c =
    net_is_possible c.args.self.now.list c.args.changes.now c.in_ok-net_change_of.field-0
    (counted_set c.self.inside.indexed c.args.self.now.list (ap (λ v. v.list) c.self.view_is)
    c.self.invariant.marked.sorted) c.in_ok-net_change_of.ensures

pub returns-clause-leads : goal.returns-clause-leads
returns-clause-leads c =
    net_leads c.args.self.now.list c.args.changes.now c.in_ok-net_change_of.field-0
    (counted_set c.self.inside.indexed c.args.self.now.list (ap (λ v. v.list) c.self.view_is)
    c.self.invariant.marked.sorted) c.in_ok-net_change_of.ensures
