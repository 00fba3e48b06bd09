use Rattle.std.proofs.Common.{None, ◌∙◌}
use Rattle.rif_facts.proofs.ReadyLemmas.{copied}
use Rattle.rif_facts.proofs.facts.Facts.copy.Goals as goal

pub returns : goal.returns
returns c =
    let all = c.in_ok-all.ensures ∙ c.as_slice-2.ensures ∙ c.in_ok-to_list.ensures.facts in
    let list =
    copied c.as_slice-3.result.now c.as_slice-4.result.now c.args.self.now.list c.new-indexed.result
    c.put_all.new.self c.count_all.new.self (c.as_slice-3.ensures ∙ all) (c.as_slice-4.ensures ∙ all)
    c.in_ok-to_list.ensures.ordered c.new-indexed.ensures.empty c.count_all.ensures.marked
    c.in_ok-put_all.ensures.ok c.count_all.ensures.marks in
    λ i. record { list = list i; room = None }
