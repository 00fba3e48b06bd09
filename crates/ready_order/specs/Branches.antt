-- The branches of a formula: the ways through its disjunctions, and whether there are too many.
--     branching_of f             how a formula branches: the number of its branches, and those that are counted apart
--                                in it, of each formula inside a `Not` or an `Exists`
--     product_of, sum_of         of some numbers
--     has_too_many_branches f    whether the formula, or a formula inside some `Not` or `Exists` of it, has more
--                                branches than the limit
-- A pattern, an equality, a predicate and a `Not` have one branch, an `And` the product of its members' and so 1
-- where it has none, an `Or` the sum of its branches' and so 0 where it has none, an `Exists` those of its formula.
-- Source: our own (docs/FORMATS.md, "Limits" and "Refusals").
use Rattle.std.specs.Prelude.{ℕ, Bool, ◌+◌, ◌*◌, List, [], ◌∷◌, nat_lt, map}
use Rattle.std.specs.List.{list_any, flat_map}
use Rattle.rif_refusals.specs.Limits.{most_branches}
use Rattle.rif_tree.specs.declared.tree.Formula.{Formula}
use Rattle.rif_tree.specs.declared.tree.Formula.TheOpen.{Formula-F, And as AndLayer, Or as OrLayer, Not as NotLayer}
use Rattle.rif_tree.specs.declared.tree.Formula.TheOpen.{Exists as ExistsLayer, Equal as EqualLayer}
use Rattle.rif_tree.specs.declared.tree.Formula.TheOpen.{Member as MemberLayer, Frame as FrameLayer}
use Rattle.rif_tree.specs.declared.tree.Formula.TheOpen.{Atom as AtomLayer, Holds as HoldsLayer}
use Rattle.rif_tree.specs.declared.tree.Formula.TheFolds.{fold-Formula}

abbrev pub product_of : List ℕ → ℕ
product_of [] = 1
product_of (n ∷ ns) = n * product_of ns

abbrev pub sum_of : List ℕ → ℕ
sum_of [] = 0
sum_of (n ∷ ns) = n + sum_of ns

pub record Branching : Type 0 where
  pub branches : ℕ
  pub apart : List ℕ

-- what is counted apart in some formulas
abbrev pub apart_in : List Branching → List ℕ
apart_in all = flat_map Branching.apart all

abbrev pub one_branch : Branching
one_branch = record { branches = 1; apart = [] }

abbrev pub branching_step : Formula-F Branching → Branching
branching_step (AndLayer members) =
    record { branches = product_of (map Branching.branches members); apart = apart_in members }
branching_step (OrLayer branches) =
    record { branches = sum_of (map Branching.branches branches); apart = apart_in branches }
branching_step (NotLayer inner) = record { branches = 1; apart = inner.branches ∷ inner.apart }
branching_step (ExistsLayer vs inner) = record { branches = inner.branches; apart = inner.branches ∷ inner.apart }
branching_step (EqualLayer a b) = one_branch
branching_step (MemberLayer o c) = one_branch
branching_step (FrameLayer o pairs) = one_branch
branching_step (AtomLayer p ts) = one_branch
branching_step (HoldsLayer pred ts) = one_branch

abbrev pub branching_of : Formula → Branching
branching_of = fold-Formula Branching branching_step

abbrev pub has_too_many_branches : Formula → Bool
has_too_many_branches f = list_any (nat_lt most_branches) ((branching_of f).branches ∷ (branching_of f).apart)
