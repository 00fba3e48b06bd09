-- What a net change is put together from. No public clause cites this module.
--     taken_of own facts rs     the facts that some retractions take away and that have no fate of their own
--     is_new facts e            whether the fact of an entry stands now and didn't before
--     is_gone facts e           whether it doesn't and did
use Rattle.std.specs.Prelude.{Bool, not, ◌&&◌, List, [], ◌∷◌, ◌++◌, filter, is_none}
use Rattle.rif_values.specs.declared.fact.Fact.{Fact}
use Rattle.rif_values.specs.Facts.{has_fact}
use Rattle.rif_facts.specs.declared.fates.Retraction.{Retraction}
use Rattle.rif_facts.specs.Fates.{is_taken_by}
use Rattle.rif_facts.specs.Marks.{mark_at}

abbrev pub taken_of : List (Fact × Bool) → List Fact → List Retraction → List Fact
taken_of own facts [] = []
taken_of own facts (r ∷ rs) =
    filter (λ f. is_none (mark_at own f)) (filter (is_taken_by r) facts) ++ taken_of own facts rs

abbrev pub is_new : List Fact → Fact × Bool → Bool
is_new facts e = e.1 && not (has_fact facts e.0)

abbrev pub is_gone : List Fact → Fact × Bool → Bool
is_gone facts e = not e.1 && has_fact facts e.0
