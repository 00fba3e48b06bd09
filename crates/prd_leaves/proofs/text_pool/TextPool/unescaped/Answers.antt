use Rattle.std.proofs.Common.{◌≡◌, ◌∙◌, sym, subst, IfOk, List, ℕ}
use Rattle.prd_leaves.proofs.EscapeLemmas.{plain_is, unescaped_utf8}
use Rattle.prd_leaves.proofs.text_pool.TextPool.unescaped.Goals as goal

pub returns-then-not-has_escape : goal.returns-then-not-has_escape
returns-then-not-has_escape c =
    let none = sym c.has_escape.ensures ∙ c.if-not-has_escape.true in
    let plain = plain_is c.args.text.now none in
    subst (λ (t : List ℕ). IfOk c.text.result (λ made. made ≡ t)) (sym plain) c.text.ensures

pub text_among-requires : goal.text_among-requires
text_among-requires c =
    rw (c.as_slice.ensures.value, c.in_ok-unescape.ensures) (unescaped_utf8 c.args.text.now c.requires)
