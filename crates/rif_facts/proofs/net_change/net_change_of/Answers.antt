use Rattle.std.proofs.Common.{List, ◌++◌, ap, ap₂, ◌∙◌, Ordering}
use Rattle.rif_values.specs.declared.fact.Fact.{Fact}
use Rattle.rif_values.specs.Sets.{ordered}
use Rattle.rif_values.proofs.CallerLemmas.{fact_order_is}
use Rattle.rif_facts.specs.Marks.{kept_by}
use Rattle.rif_facts.specs.NetChange.{is_gone}
use Rattle.rif_facts.proofs.NetChangeLemmas.{added_is, removed_is}
use Rattle.rif_facts.proofs.net_change.net_change_of.Goals as goal

pub returns : goal.returns
returns c =
    let facts = c.args.facts.now.list in
    let own = c.in_ok-own.field-0.own.entries in
    let rs = c.in_ok-own.field-0.retracted.keys in
    let sorted = c.in_ok-added.ensures.sorted in
    let added =
    c.from_vec.ensures ∙ c.in_ok-added.ensures.added
    ∙ added_is facts c.requires c.args.changes.now own sorted rs c.in_ok-own.ensures in
    let removed =
    c.in_ok-sorted_set.ensures
    ∙ ap₂ (λ (R : Fact → Fact → Ordering) (fs : List Fact). ordered R fs) fact_order_is
    (c.in_ok-added.ensures.removed
    ∙ ap (λ (fs : List Fact). fs ++ kept_by (is_gone facts) own) c.in_ok-taken.ensures)
    ∙ removed_is facts c.requires c.args.changes.now own sorted rs c.in_ok-own.ensures in
    λ i. record { added = added i; removed = removed i }
