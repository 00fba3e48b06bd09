-- What a formula declares.
--     declared_of f      the variables that the `Exists` in a formula declare, in the order of the text
-- Source: RIF-PRD, "Formulas".
use Rattle.std.specs.Prelude.{ℕ, List, [], ◌++◌}
use Rattle.rif_tree.specs.declared.tree.Formula.{Formula}
use Rattle.rif_tree.specs.declared.tree.Formula.TheOpen.{Formula-F, And as AndLayer, Or as OrLayer, Not as NotLayer}
use Rattle.rif_tree.specs.declared.tree.Formula.TheOpen.{Exists as ExistsLayer, Equal as EqualLayer}
use Rattle.rif_tree.specs.declared.tree.Formula.TheOpen.{Member as MemberLayer, Frame as FrameLayer}
use Rattle.rif_tree.specs.declared.tree.Formula.TheOpen.{Atom as AtomLayer, Holds as HoldsLayer}
use Rattle.rif_tree.specs.declared.tree.Formula.TheFolds.{fold-Formula}
use Rattle.rif_tree.specs.Variables.{together}

abbrev pub declared_step : Formula-F (List ℕ) → List ℕ
declared_step (AndLayer members) = together members
declared_step (OrLayer branches) = together branches
declared_step (NotLayer inner) = inner
declared_step (ExistsLayer vs inner) = vs ++ inner
declared_step (EqualLayer a b) = []
declared_step (MemberLayer o c) = []
declared_step (FrameLayer o pairs) = []
declared_step (AtomLayer p ts) = []
declared_step (HoldsLayer pred ts) = []

abbrev pub declared_of : Formula → List ℕ
declared_of = fold-Formula (List ℕ) declared_step
