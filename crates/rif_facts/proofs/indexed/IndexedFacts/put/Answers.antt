use Rattle.std.proofs.Common.{List, Bool, ◌∙◌, ap, sym, rules}
use Rattle.rif_values.specs.declared.fact.Fact.{Fact}
use Rattle.rif_facts.specs.Marks.{mark_at}
use Rattle.rif_facts.proofs.TurnedLemmas.{put_back}
use Rattle.rif_facts.proofs.indexed.IndexedFacts.put.Goals as goal

pub invariant_of-self-in-Err : goal.invariant_of-self-in-Err
invariant_of-self-in-Err c =
    let turned = put_back c.self.inside.facts c.put.new.self c.self.inside.turned c.put_turned.new.facts
    c.take_turned.new.facts
    c.fact.inside.fact c.fact.inside.turned c.fact.invariant c.self.invariant.turned
    (ap (mark_at c.self.inside.facts) c.fact.view_is ∙ ap (λ (es : List (Fact × Bool)). mark_at es c.args.fact.now)
    c.self.view_is
    ∙ c.requires) (sym c.in-Err.ensures.err) c.in_ok-put_turned.ensures.ok
    c.take_turned.ensures in record { marked = c.in-Err.ensures.marked; turned = turned }

pub invariant_of-self-in-Ok : goal.invariant_of-self-in-Ok
invariant_of-self-in-Ok c = record { marked = c.put.ensures.marked; turned = search rules }
