-- The shape that arranged conditions have.
--     shape_of f        whether a formula is a conjunct that stands alone, and whether it is an `And` of such
--                       conjuncts
--     has_one pairs     whether a frame has one slot
--     is_shaped f       an `And` of conjuncts, as a condition is and each formula inside `Or`, `Not` and `Exists`,
--                       with no `And` anywhere else, and frames of one slot
-- Source: our own (docs/PROFILE.md, "Ready order").
use Rattle.std.specs.Prelude.{Bool, true, false, List, [], ◌∷◌}
use Rattle.std.specs.List.{list_all}
use Rattle.rif_tree.specs.declared.tree.Term.{Term}
use Rattle.rif_tree.specs.declared.tree.Formula.{Formula}
use Rattle.rif_tree.specs.declared.tree.Formula.TheOpen.{Formula-F, And as AndLayer, Or as OrLayer, Not as NotLayer}
use Rattle.rif_tree.specs.declared.tree.Formula.TheOpen.{Exists as ExistsLayer, Equal as EqualLayer}
use Rattle.rif_tree.specs.declared.tree.Formula.TheOpen.{Member as MemberLayer, Frame as FrameLayer}
use Rattle.rif_tree.specs.declared.tree.Formula.TheOpen.{Atom as AtomLayer, Holds as HoldsLayer}
use Rattle.rif_tree.specs.declared.tree.Formula.TheFolds.{fold-Formula}

pub record Shape : Type 0 where
  pub alone : Bool
  pub together : Bool

abbrev pub has_one : List (Term × Term) → Bool
has_one [] = false
has_one (pair ∷ []) = true
has_one (pair ∷ second ∷ pairs) = false

-- a conjunct, where this is so
abbrev pub conjunct_where : Bool → Shape
conjunct_where alone = record { alone = alone; together = false }

abbrev pub shape_step : Formula-F Shape → Shape
shape_step (AndLayer members) = record { alone = false; together = list_all Shape.alone members }
shape_step (OrLayer branches) = conjunct_where (list_all Shape.together branches)
shape_step (NotLayer inner) = conjunct_where inner.together
shape_step (ExistsLayer vs inner) = conjunct_where inner.together
shape_step (EqualLayer a b) = conjunct_where true
shape_step (MemberLayer o c) = conjunct_where true
shape_step (FrameLayer o pairs) = conjunct_where (has_one pairs)
shape_step (AtomLayer p ts) = conjunct_where true
shape_step (HoldsLayer pred ts) = conjunct_where true

abbrev pub shape_of : Formula → Shape
shape_of = fold-Formula Shape shape_step

abbrev pub is_shaped : Formula → Bool
is_shaped f = (shape_of f).together
