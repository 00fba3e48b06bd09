use Rattle.std.proofs.Common.{◌≡◌, ◌∙◌, ◌+◌, ◌-◌, ◌++◌, ap, sym, List, [], drop, get_or, length, map, take}
use Rattle.rif_lex.specs.declared.token.Kind.TheVariants.{Word}
use Rattle.rif_lex.specs.declared.token.Token.{Token}
use Rattle.rif_lex.specs.Spelling.{written}
use Rattle.prd_grammar.specs.declared.leaf.Leaf.{Leaf}
use Rattle.prd_leaves.specs.Leaves.{leaf_of, leaves_from, leaves_of, prefixes_from}
use Rattle.prd_leaves.specs.LeafSteps.{front_from, front_of}
use Rattle.prd_leaves.proofs.LeafLemmas.{token_at, leaf_given, declared_given, declared_more, leaves_next}
use Rattle.prd_leaves.proofs.document_leaves.leaves.Goals as goal

pub leaf_at-requires : goal.leaf_at-requires
leaf_at-requires c = token_at c.args.bytes.now c.args.tokens.now c.loop-at.at _ c.requires c.loop-at-test.true

pub loop-at-preserved : goal.loop-at-preserved
loop-at-preserved c =
    let bytes = c.args.bytes.now in
    let ts = c.args.tokens.now in
    let at = c.loop-at.at in
    let found = c.loop-at.found.items in
    let prefixes = c.loop-at.prefixes in
    let next = c.declare_by.new.prefixes in
    let l = c.in_ok-leaf.leaf in
    let d : Token = record { kind = Word; start = 0; end = 0; line = 0; col = 0 } in
    let given : l ≡ leaf_of prefixes (front_of c.behind_of-behind.result) (written bytes (get_or ts at d))
    (map (written bytes) (take (length ts - (at + 1)) (drop (at + 1) ts))) = c.in_ok-leaf.ensures in
    let is =
    leaf_given prefixes c.behind_of-behind.result c.as_slice.result.now found (written bytes
    (get_or ts at d)) bytes ts (at + 1) l
    given c.behind_of-behind.ensures c.as_slice.ensures.value in
    let declared =
    declared_given prefixes next c.as_slice-in-loop-at.result.now found l c.in_ok-declare_by.ensures
    c.as_slice-in-loop-at.ensures.value in
    let pushed = c.in_ok-push.ensures.items in
    let more = leaves_next found
    (leaves_of bytes ts) prefixes next l bytes ts at d c.loop-at-test.true c.loop-at.invariant.so_far is declared in
    record {
      so_far = ap (λ (ls : List Leaf). ls ++ leaves_from next (front_from [] ls) (map (written bytes) (drop
          (at + 1) ts))) pushed ∙ more;
      declared = declared_more found prefixes next l c.loop-at.invariant.declared declared
          ∙ ap (prefixes_from [] []) (sym pushed);
    }
