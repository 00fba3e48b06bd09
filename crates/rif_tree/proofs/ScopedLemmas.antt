-- Scope goes by which variables hold.
use Rattle.std.proofs.Common.{◌≡◌, ℕ, Bool, not, ◌&&◌, List, [], ◌∷◌, ◌++◌, map, ap, ap₂, ◌∙◌, sym, refl, subst}
use Rattle.std.specs.List.{list_all, flat_map}
use Rattle.rif_tree.specs.declared.tree.Formula.{Formula, map-Formula, roll-Formula}
use Rattle.rif_tree.specs.declared.tree.Formula.TheOpen.{Formula-F, And as AndLayer, Or as OrLayer, Not as NotLayer}
use Rattle.rif_tree.specs.declared.tree.Formula.TheOpen.{Exists as ExistsLayer, Equal as EqualLayer}
use Rattle.rif_tree.specs.declared.tree.Formula.TheOpen.{Member as MemberLayer, Frame as FrameLayer}
use Rattle.rif_tree.specs.declared.tree.Formula.TheOpen.{Atom as AtomLayer, Holds as HoldsLayer}
use Rattle.rif_tree.specs.declared.tree.Formula.TheFolds.{fold-Formula, fold-roll-Formula, ind-Formula}
use Rattle.rif_tree.specs.Laws.{AreSame, IsScopeOfMembers}
use Rattle.rif_tree.specs.Scoped.{has_none, is_scoped, scoped_step}
use Rattle.rif_tree.specs.Variables.{variables_of, slots_free}
use Rattle.rif_tree.proofs.CallerLemmas.{has_all_same, same_more}

none_same : (us vs ws : List ℕ) → AreSame us vs → has_none us ws ≡ has_none vs ws
none_same us vs [] same = refl
none_same us vs (w ∷ ws) same = ap₂ (λ a b. a && b) (ap not (same w)) (none_same us vs ws same)

abbrev ScopedAlike : Formula → Type 0
ScopedAlike f = (us vs : List ℕ) → AreSame us vs → is_scoped us f ≡ is_scoped vs f

-- a formula of which it is known
abbrev Known : Type 0
Known = (f : Formula) × ScopedAlike f

abbrev formula_in : Known → Formula
formula_in e = e.0

abbrev formulas_in : Formula-F Known → Formula-F Formula
formulas_in y = map-Formula Known Formula formula_in y

abbrev scope_of : Formula → List ℕ → Bool
scope_of = fold-Formula (List ℕ → Bool) scoped_step

each_same : (es : List Known) (us vs : List ℕ) → AreSame us vs
    → list_all (λ member. member us) (map scope_of (map formula_in es))
    ≡ list_all (λ member. member vs) (map scope_of (map formula_in es))
each_same [] us vs same = refl
each_same (e ∷ es) us vs same = ap₂ (λ a b. a && b) (e.1 us vs same) (each_same es us vs same)

abbrev layer_scope : Formula-F Known → List ℕ → Bool
layer_scope y = scoped_step (map-Formula Formula (List ℕ → Bool) scope_of (formulas_in y))

inside : (y : Formula-F Known) (us vs : List ℕ) → AreSame us vs → layer_scope y us ≡ layer_scope y vs
inside (AndLayer es) us vs same = each_same es us vs same
inside (OrLayer es) us vs same = each_same es us vs same
inside (NotLayer e) us vs same = e.1 us vs same
inside (ExistsLayer ws e) us vs same =
    ap₂ (λ a b. a && b) (none_same us vs ws same) (e.1 (us ++ ws) (vs ++ ws) (same_more us vs ws same))
inside (EqualLayer a b) us vs same = has_all_same us vs (variables_of a ++ variables_of b) same
inside (MemberLayer o c) us vs same = has_all_same us vs (variables_of o ++ variables_of c) same
inside (FrameLayer o pairs) us vs same = has_all_same us vs (slots_free o pairs) same
inside (AtomLayer p ts) us vs same = has_all_same us vs (flat_map variables_of ts) same
inside (HoldsLayer pred ts) us vs same = has_all_same us vs (flat_map variables_of ts) same

layer : (y : Formula-F Known) → ScopedAlike (roll-Formula (formulas_in y))
layer y us vs same =
    let at = fold-roll-Formula (List ℕ → Bool) scoped_step (formulas_in y) in
    ap (λ (scope : List ℕ → Bool). scope us) at ∙ inside y us vs same
    ∙ sym (ap (λ (scope : List ℕ → Bool). scope vs) at)

pub scope_same : IsScopeOfMembers
scope_same = ind-Formula ScopedAlike (λ x y is. subst (λ z. ScopedAlike (roll-Formula z)) is (layer y))
