use Rattle.rif_builtins.proofs.matching.fact_match.Goals as goal

pub returns-in-Some : goal.returns-in-Some
returns-in-Some c = rw (c.in-Slot.is, c.in-Frame.is, ← c.in_ok-row-in-Frame.ensures, c.in-Some.is) c.two_match.ensures
