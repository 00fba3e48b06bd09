use Rattle.std.proofs.Common.{Some, sym, subst, ◌∙◌, ◌≡◌, cond}
use Rattle.rif_values.specs.declared.fact.Fact.{Fact}
use Rattle.rif_values.specs.Facts.{same_fact}
use Rattle.rif_values.proofs.CallerLemmas.{fact_order_is}
use Rattle.rif_facts.specs.Marks.{mark_at}
use Rattle.rif_facts.proofs.FatesLemmas.{decided_now, decided_before}
use Rattle.rif_facts.proofs.KeyedLemmas.{updated}
use Rattle.rif_facts.proofs.fates.Fates.decide.Goals as goal

pub returns-in_ok-insert : goal.returns-in_ok-insert
returns-in_ok-insert c =
    let P : Fact → Type 0 = λ f. (q : Fact) → mark_at c.insert.new.self.entries q
    ≡ cond (same_fact f q) (Some c.args.stands) (mark_at c.args.self.now.own.entries q) in
    decided_now c.args.self.now.own.entries c.args.self.now.retracted.keys c.insert.new.self.entries c.args.fact.now
    c.args.stands (sym c.in_ok-is_decided.ensures ∙ c.if-not-branch.true)
    (subst P c.in_ok-copy.ensures
    (updated _ fact_order_is c.args.self.now.own.entries c.insert.new.self.entries c.in_ok-copy.field-0
    (Some c.args.stands) c.in_ok-insert.ensures.updates.0))

pub returns-else-not-branch : goal.returns-else-not-branch
returns-else-not-branch c =
    decided_before c.args.self.now.own.entries c.args.self.now.retracted.keys c.args.fact.now c.args.stands
    (sym c.in_ok-is_decided.ensures ∙ c.if-not-branch.false)
