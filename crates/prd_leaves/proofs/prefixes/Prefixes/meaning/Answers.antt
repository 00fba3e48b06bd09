use Rattle.std.proofs.Common.{◌∙◌, ap, sym, Some}
use Rattle.prd_grammar.specs.Prefixes.{Prefixes, meaning_in}
use Rattle.prd_leaves.proofs.PrefixMapLemmas.{meaning_found, meaning_missed}
use Rattle.prd_leaves.proofs.prefixes.Prefixes.meaning.Goals as goal

pub returns-in-Some-clause-is : goal.returns-in-Some-clause-is
returns-in-Some-clause-is c =
    let found = meaning_found c.self.inside.declared.entries c.args.name.now c.in-Some.iri.now
    (sym c.in-Some.ensures.value) in
    let bytes = c.as_bytes.ensures.value ∙ c.as_str.ensures in
    ap Some bytes ∙ (sym found ∙ ap (λ (p : Prefixes). meaning_in p c.args.name.now) c.self.view_is)

pub returns-in-None-clause-is : goal.returns-in-None-clause-is
returns-in-None-clause-is c =
    let missed = meaning_missed c.self.inside.declared.entries c.args.name.now (sym c.in-None.ensures.value) in
    c.meaning_beforehand.ensures.is
    ∙ (sym missed ∙ ap (λ (p : Prefixes). meaning_in p c.args.name.now) c.self.view_is)
