use Rattle.std.proofs.Common.{is_some, ap, sym, ◌∙◌}
use Rattle.rif_values.proofs.CallerLemmas.{fact_order_is}
use Rattle.rif_facts.proofs.FatesLemmas.{own_is_some, taken_is_some}
use Rattle.rif_facts.proofs.KeyedLemmas.{looked_up}
use Rattle.rif_facts.proofs.fates.Fates.is_decided.Goals as goal

pub returns-then-contains_key : goal.returns-then-contains_key
returns-then-contains_key c =
    own_is_some c.args.self.now.own.entries c.args.self.now.retracted.keys c.args.fact.now
    (ap is_some (sym (looked_up _ fact_order_is c.args.self.now.own.entries c.args.fact.now))
    ∙ sym c.if-contains_key.ensures)

pub returns : goal.returns
returns c =
    c.in_ok-is_taken.ensures
    ∙ taken_is_some c.args.self.now.own.entries c.args.self.now.retracted.keys c.args.fact.now
    (ap is_some (sym (looked_up _ fact_order_is c.args.self.now.own.entries c.args.fact.now))
    ∙ sym c.contains_key.ensures ∙ c.if-contains_key.false)
