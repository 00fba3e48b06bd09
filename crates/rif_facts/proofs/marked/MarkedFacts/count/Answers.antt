use Rattle.std.proofs.Common.{◌≡◌, ◌&&◌, Bool, List, true, Some, cond, is_some, ap, sym, subst, ◌∙◌}
use Rattle.std.specs.Option.{option_copied_mut}
use Rattle.rif_values.specs.declared.fact.Fact.{Fact}
use Rattle.rif_values.specs.Facts.{same_fact}
use Rattle.rif_values.proofs.CallerLemmas.{fact_order_is}
use Rattle.rif_facts.specs.Marks.{mark_at, IsMarked}
use Rattle.rif_facts.proofs.KeyedLemmas.{looked_up, updated, marked_after_write, written_some, written_none}
use Rattle.rif_facts.proofs.KeyedLemmas.{is_some_of}
use Rattle.rif_facts.proofs.marked.MarkedFacts.count.Goals as goal
use Rattle.rif_facts.proofs.marked.MarkedFacts.count.Goals.{in-Some, in_default}

marked_then : (c : goal.Joined-get_mut) → IsMarked c.match-get_mut.self-inside.entries.entries
marked_then c =
    let P : List (Fact × Bool) → Type 0 = λ es. IsMarked es in
    elim c.match-get_mut.branch [
      | in-Some w ↦
          subst P (sym (ap (λ i. i.entries.entries) w.self-inside-is))
          (marked_after_write _ fact_order_is c.self.inside.entries.entries (c.get_mut.follows.lender true).entries
          (c.get_mut.follows.holds true).1 c.self.invariant)
      | in_default w ↦
          subst P (sym (ap (λ i. i.entries.entries) w.self-inside-is ∙ ap (λ m. m.entries)
          c.get_mut.follows.holds-at-none))
          c.self.invariant
    ]

marks_then : (c : goal.Joined-get_mut) (q : Fact) → mark_at c.match-get_mut.self-inside.entries.entries q
    ≡ cond (same_fact c.args.fact.now q && is_some (mark_at c.self.inside.entries.entries q)) (Some true)
    (mark_at c.self.inside.entries.entries q)
marks_then c q =
    let es = c.self.inside.entries.entries in
    let f = c.args.fact.now in
    let P : List (Fact × Bool) → Type 0 = λ fs. mark_at fs q
    ≡ cond (same_fact f q && is_some (mark_at es q)) (Some true) (mark_at es q) in
    let at = looked_up _ fact_order_is es f in
    elim c.match-get_mut.branch [
      | in-Some w ↦
          let value = ap option_copied_mut (sym w.in-Some.is) ∙ c.get_mut.ensures.value in
          subst P (sym (ap (λ i. i.entries.entries) w.self-inside-is))
          (written_some es (c.get_mut.follows.lender true).entries f w.in-Some.mark.now (sym at ∙ sym value)
          (updated _ fact_order_is es (c.get_mut.follows.lender true).entries f (Some true)
          ((c.get_mut.follows.holds true).3 (is_some_of _ _ (sym value))).0) q)
      | in_default w ↦
          let value = ap option_copied_mut (sym w.in_default.is) ∙ c.get_mut.ensures.value in
          subst P (sym (ap (λ i. i.entries.entries) w.self-inside-is ∙ ap (λ m. m.entries)
          c.get_mut.follows.holds-at-none))
          (written_none es f (sym at ∙ sym value) q)
    ]

pub invariant_of-self : goal.invariant_of-self
invariant_of-self c = marked_then c

pub returns-clause-marks : goal.returns-clause-marks
returns-clause-marks c =
    let P : List (Fact × Bool) → Type 0 = λ es. (q : Fact) → mark_at c.match-get_mut.self-inside.entries.entries q
    ≡ cond (same_fact c.args.fact.now q && is_some (mark_at es q)) (Some true) (mark_at es q) in
    subst P c.self.view_is (marks_then c)

pub returns-clause-marked : goal.returns-clause-marked
returns-clause-marked c = marked_then c
