use Rattle.std.proofs.Common.{◌-◌, ◌∙◌, sym, arith}
use Rattle.std.proofs.lemmas.Result.{err_from_is_err_and}
use Rattle.rif_script.specs.SentLeaves.{seen, with_seen}
use Rattle.rif_script.proofs.ConstListLemmas.{close_seen, consts_closed, consts_more, consts_out, consts_refused}
use Rattle.rif_script.proofs.ConstListLemmas.{gives_less, nothing_from, open_seen}
use Rattle.rif_script.proofs.FirstLeafLemmas.{const_first, first_seen, none_seen}
use Rattle.rif_script.proofs.constants.read_consts.Goals as goal

pub returns-in_default : goal.returns-in_default
returns-in_default c =
    let s = c.loop-left in
    let low = c.loop-left-test.true in
    let none = nothing_from (seen s.rest)
    (none_seen s.rest c.in_ok-leaf.field-0 c.in_default.not-Some c.in_ok-leaf.ensures) in
    consts_refused s.found s.left (s.left - 1) (seen s.rest) _ s.invariant (omega (arith, low)) none.0 none.1

pub returns-then-is_close : goal.returns-then-is_close
returns-then-is_close c =
    let s = c.loop-left in
    let low = c.loop-left-test.true in
    let front = first_seen s.rest c.in-Some.behind c.in-Some.leaf c.in_ok-leaf.field-0 c.in-Some.is
    c.in_ok-leaf.ensures in
    let closed = close_seen s.rest c.in-Some.behind c.in-Some.leaf front
    (sym c.is_close.ensures ∙ c.if-is_close.true) in
    consts_closed s.found s.left (s.left - 1) (seen s.rest) _ s.invariant (omega (arith, low))
    (seen c.in-Some.behind) closed

pub returns-in_err-constant : goal.returns-in_err-constant
returns-in_err-constant c =
    let s = c.loop-left in
    let low = c.loop-left-test.true in
    let front = first_seen s.rest c.in-Some.behind c.in-Some.leaf c.in_ok-leaf.field-0 c.in-Some.is
    c.in_ok-leaf.ensures in
    let open_ = open_seen s.rest c.in-Some.behind c.in-Some.leaf front
    (sym c.is_close.ensures ∙ c.if-is_close.false) in
    let p = err_from_is_err_and c.from_residual-in_err-constant.result c.from_residual-in_err-constant.ensures.1 in
    rw (p.1, p.2) (gives_less with_seen with_seen c.in_err-constant.field-0.0 _ _ (λ none.
    consts_refused s.found s.left (s.left - 1) (seen s.rest) _ s.invariant (omega (arith, low)) open_
    (const_first s.rest c.in-Some.behind c.in-Some.leaf front ∙ none)) c.in_err-constant.ensures)

pub loop-left-preserved : goal.loop-left-preserved
loop-left-preserved c =
    let s = c.loop-left in
    let low = c.loop-left-test.true in
    let front = first_seen s.rest c.in-Some.behind c.in-Some.leaf c.in_ok-leaf.field-0 c.in-Some.is
    c.in_ok-leaf.ensures in
    let open_ = open_seen s.rest c.in-Some.behind c.in-Some.leaf front
    (sym c.is_close.ensures ∙ c.if-is_close.false) in
    rw c.in_ok-push.ensures.ok
    (consts_more s.found s.left (s.left - 1) (seen s.rest) _ s.invariant (omega (arith, low)) open_
    c.in_ok-constant.constant (seen c.in_ok-constant.next)
    (const_first s.rest c.in-Some.behind c.in-Some.leaf front ∙ c.in_ok-constant.ensures))

pub returns : goal.returns
returns c =
    let s = c.loop-left in
    let low = c.loop-left-test.false in
    consts_out s.found s.left 0 (seen s.rest) _ s.invariant (omega (arith, low))
