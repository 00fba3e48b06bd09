-- A batch to which an entry is added.
use Rattle.std.proofs.Common.{◌≡◌, ◌∙◌, ◌-◌, ◌&&◌, suc, Bool, true, false, not, nat_lt, List, [], ◌∷◌, ◌++◌, refl}
use Rattle.std.proofs.Common.{ap, sym, length, slice_get, arith, ◌≤◌, ◌<◌}
use Rattle.std.proofs.lemmas.Bool.Decides.{nat_tests}
use Rattle.std.proofs.lemmas.List.{length-append}
use Rattle.std.specs.Option.{option_map_or}
use Rattle.rif_refusals.specs.Limits.{most_batch_items}
use Rattle.session_states.specs.declared.item.Entry.{Entry}
use Rattle.session_states.specs.Batches.{ends_batch, ends_in, EndsLast, IsLawful}
use Rattle.session_states.specs.OpenBatches.{takes_more}

both : (a b : Bool) → (a && b) ≡ true → (a ≡ true) × (b ≡ true)
both true true is = (refl, refl)
both true false is = absurd (cc is)
both false b is = absurd (cc is)

denied : (b : Bool) → not b ≡ true → b ≡ false
denied true is = absurd (cc is)
denied false is = refl

ends_more : (entries : List Entry) (entry : Entry) → EndsLast entries → ends_in ends_batch entries ≡ false
    → EndsLast (entries ++ entry ∷ [])
ends_more [] entry ends mild = tt
ends_more (e ∷ []) entry ends mild = (mild, tt)
ends_more (e ∷ next ∷ entries) entry ends mild =
    let place : length (e ∷ next ∷ entries) - 1 ≡ suc (length (next ∷ entries) - 1) = omega arith in (
      ends.0,
      ends_more (next ∷ entries) entry ends.1
          (sym (ap (λ n. option_map_or (λ (x : Entry). ends_batch x.item) (slice_get (e ∷ next ∷ entries) n) false) place)
          ∙ mild),
    )

longer : (entries : List Entry) (entry : Entry) → nat_lt (length entries) most_batch_items ≡ true
    → length (entries ++ entry ∷ []) ≤ most_batch_items
longer entries entry few =
    let more = length-append entries (entry ∷ []) in
    let less : length entries < most_batch_items = grind (arith, nat_tests) in omega (arith, more, less)

pub lawful_more : (entries : List Entry) (entry : Entry) → IsLawful entries → true ≡ takes_more entries
    → IsLawful (entries ++ entry ∷ [])
lawful_more entries entry lawful takes =
    let parts = both _ _ (sym takes) in record {
      few = longer entries entry parts.0;
      ends_last = ends_more entries entry lawful.ends_last (denied _ parts.1);
    }
