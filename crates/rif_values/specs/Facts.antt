-- States of facts, and changes of them. A state of facts is a list of facts in order without repeats.
--     IsFacts facts              the list is a state of facts
--     has_fact facts fact        whether the state has the fact
--     after_change facts c       the state that a change leads to
--     facts_after facts cs       the state that some changes lead to, done in order
--     net_change old new         what the new state has and the old hasn't, and the other way round
-- Source: RIF-PRD, "Condition satisfaction" and "Operational semantics of atomic actions"; that a
-- membership is retracted, and `Modify` with no old value, are the project's own (docs/PROFILE.md, "Actions").
use Rattle.std.specs.Prelude.{Bool, false, not, ◌&&◌, List, [], ◌∷◌, filter}
use Rattle.std.specs.Ordering.{eq_by_cmp}
use Rattle.std.specs.BTreeSet.{insert_key}
use Rattle.rif_values.specs.declared.constant.Const.{Const}
use Rattle.rif_values.specs.declared.fact.Fact.{Fact}
use Rattle.rif_values.specs.declared.fact.Fact.TheVariants.{Atom, Frame, Member}
use Rattle.rif_values.specs.declared.change.Change.{Change}
use Rattle.rif_values.specs.declared.change.Change.TheVariants.{Assert, Retract, RetractSlot, RetractObject, Modify}
use Rattle.rif_values.specs.declared.change.Delta.{Delta}
use Rattle.rif_values.specs.Order.{const_cmp, fact_cmp}
use Rattle.rif_values.specs.Sets.{has, beyond, IsSet}

abbrev pub IsFacts : List Fact → Type 0
IsFacts = IsSet fact_cmp

abbrev pub has_fact : List Fact → Fact → Bool
has_fact = has fact_cmp

-- whether two constants are the same
abbrev pub same_const : Const → Const → Bool
same_const = eq_by_cmp const_cmp

-- whether two facts are the same
abbrev pub same_fact : Fact → Fact → Bool
same_fact = eq_by_cmp fact_cmp

-- whether a fact is a frame of the object and slot
abbrev pub is_slot_value : Const → Const → Fact → Bool
is_slot_value o s (Atom p cs) = false
is_slot_value o s (Frame p t v) = same_const o p && same_const s t
is_slot_value o s (Member p c) = false

-- whether a fact is a frame or a membership of the object
abbrev pub is_about : Const → Fact → Bool
is_about o (Atom p cs) = false
is_about o (Frame p t v) = same_const o p
is_about o (Member p c) = same_const o p

-- the facts with one more
abbrev pub with_fact : List Fact → Fact → List Fact
with_fact facts fact = insert_key fact_cmp facts fact

-- the facts without those that pass a test
abbrev pub without : (Fact → Bool) → List Fact → List Fact
without test facts = filter (λ fact. not (test fact)) facts

abbrev pub after_change : List Fact → Change → List Fact
after_change facts (Assert fact) = with_fact facts fact
after_change facts (Retract fact) = without (same_fact fact) facts
after_change facts (RetractSlot o s) = without (is_slot_value o s) facts
after_change facts (RetractObject o) = without (is_about o) facts
after_change facts (Modify o s v) = with_fact (without (is_slot_value o s) facts) (Frame o s v)

abbrev pub facts_after : List Fact → List Change → List Fact
facts_after facts [] = facts
facts_after facts (change ∷ changes) = facts_after (after_change facts change) changes

abbrev pub net_change : List Fact → List Fact → Delta
net_change old new = record { added = beyond fact_cmp old new; removed = beyond fact_cmp new old }
