-- What a listing says of a history. No public clause cites this module.
--     moments_seen system listing facts    the moments that are listed, and before them that of the newest state where
--                                          it isn't listed yet
use Rattle.std.specs.Prelude.{List, ◌∷◌, Some, None}
use Rattle.std.specs.declared.option.Option.{Option}
use Rattle.rif_values.specs.declared.fact.Fact.{Fact}
use Rattle.prd_relation.specs.declared.moment.Moment.{Moment}
use Rattle.prd_relation.specs.RuleSystem.{RuleSystem}
use Rattle.rif_engine.specs.declared.listing.Listing.{Listing}
use Rattle.rif_engine.specs.declared.listing.Unlisted.{Unlisted}

abbrev pub moments_with : RuleSystem → List Moment → Option Unlisted → List Fact → List Moment
moments_with system listed None facts = listed
moments_with system listed (Some state) facts =
    record { conflict_set = system.instances facts; pick = state.pick } ∷ listed

abbrev pub moments_seen : RuleSystem → Listing → List Fact → List Moment
moments_seen system listing facts = moments_with system listing.listed listing.unlisted facts
