use Rattle.std.proofs.Common.{◌∙◌, ap, List}
use Rattle.prd_grammar.specs.declared.leaf.Leaf.{Leaf}
use Rattle.rif_script.specs.ReadingItems.{whole}
use Rattle.rif_script.specs.SentLeaves.{seen}
use Rattle.rif_script.proofs.FirstLeafLemmas.{first_seen, number_first, whole_none}
use Rattle.rif_script.proofs.items.read_number.Goals as goal

pub returns-then-not-is_empty : goal.returns-then-not-is_empty
returns-then-not-is_empty c =
    let rest = c.in-Some.rest in
    let leaf = c.in-Some.leaf in
    let n = c.in_ok-number.number in
    let front = first_seen c.args.at rest leaf c.in_ok-leaf.field-0 c.in-Some.is c.in_ok-leaf.ensures in
    let other = c.if-not-is_empty.true in
    number_first c.args.at rest leaf n front c.in_ok-number.ensures
    ∙ whole_none (seen rest) n (λ none. (let is = c.is_empty.ensures.1 none in cc))

pub returns : goal.returns
returns c =
    let rest = c.in-Some.rest in
    let leaf = c.in-Some.leaf in
    let n = c.in_ok-number.number in
    let front = first_seen c.args.at rest leaf c.in_ok-leaf.field-0 c.in-Some.is c.in_ok-leaf.ensures in
    let none = c.is_empty.ensures.0 c.if-not-is_empty.false in
    number_first c.args.at rest leaf n front c.in_ok-number.ensures ∙ ap (λ (ls : List Leaf). whole ls n) none
