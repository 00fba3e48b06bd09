use Rattle.std.proofs.Common.{◌≡◌, ◌+◌, length, ap, subst, ◌∙◌, arith}
use Rattle.rif_facts.specs.Readiness.{IsReady}
use Rattle.rif_facts.proofs.ReadyLemmas.{counted_length, length_without}
use Rattle.rif_facts.proofs.facts.Facts.len.Goals as goal

all_of : (c : goal.After-len-in-Some) → length c.args.self.now.list + c.len-in-Some.result ≡ c.len.result
all_of c =
    let all =
    counted_length c.self.inside.indexed c.self.inside.ready c.in-Some.ready c.ready.inside.added
    c.args.self.now.list c.self.invariant c.in-Some.is (ap (λ d. d.added) c.ready.view_is)
    (ap (λ v. v.list) c.self.view_is) in
    let len = c.len.ensures.len in
    let added = c.len-in-Some.ensures in omega arith

pub overflow_sub-result : goal.overflow_sub-result
overflow_sub-result c = let all = all_of c in omega arith

pub returns-in-Some : goal.returns-in-Some
returns-in-Some c = let all = all_of c in omega arith

pub returns-in-None : goal.returns-in-None
returns-in-None c =
    c.len-in-None.ensures.len
    ∙ length_without c.self.inside.indexed (subst (IsReady c.self.inside.indexed) c.in-None.is c.self.invariant)
    ∙ ap (λ v. length v.list) c.self.view_is
