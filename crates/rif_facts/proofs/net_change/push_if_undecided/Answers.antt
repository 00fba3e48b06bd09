use Rattle.std.proofs.Common.{is_some, ap, sym, ◌∙◌}
use Rattle.rif_values.proofs.CallerLemmas.{fact_order_is}
use Rattle.rif_facts.specs.Marks.{mark_at}
use Rattle.rif_facts.proofs.KeyedLemmas.{looked_up}
use Rattle.rif_facts.proofs.NetChangeLemmas.{not_pushed, is_pushed}
use Rattle.rif_facts.proofs.net_change.push_if_undecided.Goals as goal

pub returns-then-contains_key : goal.returns-then-contains_key
returns-then-contains_key c =
    not_pushed (mark_at c.args.own.now.entries c.args.fact) c.args.fact c.args.removed.now.items
    (ap is_some (sym (looked_up _ fact_order_is c.args.own.now.entries c.args.fact))
    ∙ sym c.contains_key.ensures ∙ c.if-contains_key.true)

pub returns : goal.returns
returns c =
    c.in_ok-push.ensures.items
    ∙ is_pushed (mark_at c.args.own.now.entries c.args.fact) c.args.fact c.args.removed.now.items
    (ap is_some (sym (looked_up _ fact_order_is c.args.own.now.entries c.args.fact))
    ∙ sym c.contains_key.ensures ∙ c.if-contains_key.false)
