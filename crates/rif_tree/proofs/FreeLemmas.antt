-- What a formula has free as a part of another is what it has free.
use Rattle.std.proofs.Common.{◌≡◌, ℕ, List, [], ◌∷◌, ◌++◌, map, ap, ap₂, ◌∙◌, sym, refl, subst}
use Rattle.rif_tree.specs.declared.tree.Formula.{Formula, map-Formula, roll-Formula}
use Rattle.rif_tree.specs.declared.tree.Formula.TheOpen.{Formula-F, And as AndLayer, Or as OrLayer, Not as NotLayer}
use Rattle.rif_tree.specs.declared.tree.Formula.TheOpen.{Exists as ExistsLayer, Equal as EqualLayer}
use Rattle.rif_tree.specs.declared.tree.Formula.TheOpen.{Member as MemberLayer, Frame as FrameLayer}
use Rattle.rif_tree.specs.declared.tree.Formula.TheOpen.{Atom as AtomLayer, Holds as HoldsLayer}
use Rattle.rif_tree.specs.declared.tree.Formula.TheFolds.{fold-roll-Formula, ind-Formula}
use Rattle.rif_tree.specs.Laws.{ArePartsFree}
use Rattle.rif_tree.specs.Ready.{Part, part_of, part_step, free_in}
use Rattle.rif_tree.specs.Variables.{free_of, free_step, together, without}

abbrev FreeAlike : Formula → Type 0
FreeAlike f = (part_of f).free ≡ free_of f

-- a formula of which it is known
abbrev Known : Type 0
Known = (f : Formula) × FreeAlike f

abbrev formula_in : Known → Formula
formula_in e = e.0

abbrev formulas_in : Formula-F Known → Formula-F Formula
formulas_in y = map-Formula Known Formula formula_in y

each_free : (es : List Known) → free_in (map part_of (map formula_in es)) ≡ together (map free_of (map formula_in es))
each_free [] = refl
each_free (e ∷ es) = ap₂ (λ us vs. us ++ vs) e.1 (each_free es)

inside : (y : Formula-F Known)
    → (part_step (map-Formula Formula Part part_of (formulas_in y))).free
    ≡ free_step (map-Formula Formula (List ℕ) free_of (formulas_in y))
inside (AndLayer es) = each_free es
inside (OrLayer es) = each_free es
inside (NotLayer e) = e.1
inside (ExistsLayer vs e) = ap (without vs) e.1
inside (EqualLayer a b) = refl
inside (MemberLayer o c) = refl
inside (FrameLayer o pairs) = refl
inside (AtomLayer p ts) = refl
inside (HoldsLayer pred ts) = refl

layer : (y : Formula-F Known) → FreeAlike (roll-Formula (formulas_in y))
layer y =
    ap (λ (p : Part). p.free) (fold-roll-Formula Part part_step (formulas_in y)) ∙ inside y
    ∙ sym (fold-roll-Formula (List ℕ) free_step (formulas_in y))

pub part_free : ArePartsFree
part_free = ind-Formula FreeAlike (λ x y is. subst (λ z. FreeAlike (roll-Formula z)) is (layer y))
