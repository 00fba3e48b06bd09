use Rattle.std.proofs.Common.{◌∷◌, [], pos, length, ap, sym, ◌∙◌, Some, None}
use Rattle.prd_building.specs.Building.{with_rest, members_at, doc_of}
use Rattle.prd_building.proofs.BuildingDocumentLemmas.{builds}
use Rattle.prd_building.proofs.document.build.Goals as goal

pub returns-in-None : goal.returns-in-None
returns-in-None c =
    builds c.args.leaves.now c.args.names.now None (ap doc_of (ap (with_rest c.args.leaves.now) (sym c.in-None.is)
    ∙ (c.in_ok-members.ensures
    ∙ ap (members_at (length c.args.leaves.now) (pos 0 ∷ []) c.args.names.now
    (length c.args.leaves.now)) c.past.ensures)))

pub returns-in-Some : goal.returns-in-Some
returns-in-Some c =
    builds c.args.leaves.now c.args.names.now (Some (record { rules = c.in-Some.rules }))
    (ap doc_of (ap (with_rest c.args.leaves.now) (sym c.in-Some.is)
    ∙ (c.in_ok-members.ensures
    ∙ ap (members_at (length c.args.leaves.now) (pos 0 ∷ []) c.args.names.now
    (length c.args.leaves.now)) c.past.ensures)))
