-- The places of a fact, which a pattern's terms stand against.
--     places_of fact     the constants at the fact's places: an atom's arguments, a frame's object, slot and value,
--                        a membership's object and class
-- Source: RIF-PRD, "Atomic formulas"; that they are counted is the project's own.
use Rattle.std.specs.Prelude.{List, [], ◌∷◌}
use Rattle.rif_values.specs.declared.constant.Const.{Const}
use Rattle.rif_values.specs.declared.fact.Fact.{Fact}
use Rattle.rif_values.specs.declared.fact.Fact.TheVariants.{Atom, Frame, Member}

abbrev pub places_of : Fact → List Const
places_of (Atom p cs) = cs
places_of (Frame o s v) = o ∷ s ∷ v ∷ []
places_of (Member o c) = o ∷ c ∷ []
