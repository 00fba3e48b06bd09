use Rattle.std.proofs.Common.{◌∙◌, ◌++◌, List, filter_map, ap, take_all}
use Rattle.rif_values.specs.declared.fact.Fact.{Fact}
use Rattle.rif_values.specs.Bindings.{Row}
use Rattle.rif_values.proofs.CallerLemmas.{found_step}
use Rattle.rif_builtins.specs.Extensions.{match_fact}
use Rattle.rif_facts.specs.Keys.{is_candidate}
use Rattle.rif_match.proofs.NarrowingLemmas.{filter_gives}
use Rattle.rif_match.proofs.extending.push_matching.Goals as goal

pub loop-fact-preserved : goal.loop-fact-preserved
loop-fact-preserved c =
    found_step (match_fact c.args.pattern.now c.args.row.now) c.as_slice-candidates.result.now
    c.loop-fact.fact-index c.fact-item.result c.in_ok-found.found
    c.args.all.now.items c.loop-fact.all.items c.push_found.new.all.items c.loop-fact-test.true c.fact-item.is
    c.in_ok-found.ensures
    c.loop-fact.invariant c.in_ok-push_found.ensures

pub returns : goal.returns
returns c =
    let given = match_fact c.args.pattern.now c.args.row.now in
    let before = c.args.all.now.items in
    c.loop-fact.invariant
    ∙ ap (λ (facts : List Fact). before ++ filter_map given facts)
    (take_all c.loop-fact.fact-index c.as_slice-candidates.result.now c.loop-fact-test.false
    ∙ c.as_slice-candidates.ensures ∙ c.in_ok-candidates.ensures)
    ∙ ap (λ (rows : List Row). before ++ rows)
    (filter_gives (is_candidate c.in_ok-key.key) given c.args.facts.now.list c.in_ok-key.ensures)
