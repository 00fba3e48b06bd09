-- Ages and refraction are what their sentences say.
use Rattle.std.proofs.Common.{◌≡◌, ◌∙◌, ℕ, suc, Bool, true, false, ◌&&◌, ◌||◌, ◌⊎◌, if◌then◌else◌, List, [], ◌∷◌}
use Rattle.std.proofs.Common.{◌++◌, length, refl, ap, inl, inr, arith}
use Rattle.std.specs.List.{AllByRecursion}
use Rattle.rif_values.specs.declared.instance.Instance.{Instance}
use Rattle.rif_values.specs.InstanceOrder.{instance_cmp}
use Rattle.rif_values.specs.Sets.{has}
use Rattle.prd_relation.specs.declared.moment.Moment.{Moment}
use Rattle.prd_relation.specs.History.{newest_conflict_set, has_instance, is_pick, age_of, is_refracted, Interrupts}
use Rattle.prd_relation.specs.History.{IsAge, IsRefracted}
use Rattle.prd_relation.specs.Laws.{AreAgesSaid, IsRefractionSaid, AreOthersUnaged}

-- ---- refraction

split : (a b c d : Bool) → (a && ((b && c) || d)) ≡ true → (a ≡ true) × (((b ≡ true) × (c ≡ true)) ⊎ (d ≡ true))
split true true true d h = (refl, inl (refl, refl))
split true true false d h = (refl, inr h)
split true false c d h = (refl, inr h)
split false b c d h = absurd (cc h)

by_firing : (a b c d : Bool) → a ≡ true → b ≡ true → c ≡ true → (a && ((b && c) || d)) ≡ true
by_firing a b c d p q r = grind arith

from_before : (a b c d : Bool) → a ≡ true → d ≡ true → (a && ((b && c) || d)) ≡ true
from_before a b c d p q = grind arith

refracted_here : (newest : Moment) (earlier : List Moment) (i : Instance) → has_instance newest i ≡ true
    → has instance_cmp (newest_conflict_set earlier) i ≡ true → is_pick newest.pick i ≡ true
    → IsRefracted (newest ∷ earlier) i
refracted_here newest [] i there before picked = absurd (cc before)
refracted_here newest (fired_at ∷ earlier) i there before picked = record {
  later = [];
  reached = newest;
  fired_at = fired_at;
  earlier = earlier;
  all = refl;
  picked = picked;
  there = (there, (before, tt));
}

refracted_on : (newest : Moment) (earlier : List Moment) (i : Instance) → has_instance newest i ≡ true
    → IsRefracted earlier i
    → IsRefracted (newest ∷ earlier) i
refracted_on newest earlier i there said = record {
  later = newest ∷ said.later;
  reached = said.reached;
  fired_at = said.fired_at;
  earlier = said.earlier;
  all = ap (λ (ms : List Moment). newest ∷ ms) said.all;
  picked = said.picked;
  there = (there, said.there);
}

refraction_says : (moments : List Moment) (i : Instance) → is_refracted moments i ≡ true → IsRefracted moments i
refraction_says [] i is = absurd (cc is)
refraction_says (newest ∷ earlier) i is =
    let parts = split (has_instance newest i) (has instance_cmp (newest_conflict_set earlier) i)
    (is_pick newest.pick i) (is_refracted earlier i) is in
    elim parts.1 [
      | inl fired ↦ refracted_here newest earlier i parts.0 fired.0 fired.1
      | inr before ↦ refracted_on newest earlier i parts.0 (refraction_says earlier i before)
    ]

refracted_at : (later : List Moment) (reached fired_at : Moment) (earlier : List Moment) (i : Instance)
    → is_pick reached.pick i ≡ true
    → AllByRecursion (λ moment. has_instance moment i ≡ true) (later ++ reached ∷ fired_at ∷ [])
    → is_refracted (later ++ reached ∷ fired_at ∷ earlier) i ≡ true
refracted_at [] reached fired_at earlier i picked all =
    by_firing (has_instance reached i) (has_instance fired_at i) (is_pick reached.pick i)
    (is_refracted (fired_at ∷ earlier) i) all.0 (all.1).0 picked
refracted_at (m ∷ later) reached fired_at earlier i picked all =
    from_before (has_instance m i) (has instance_cmp (newest_conflict_set (later ++ reached ∷ fired_at ∷ earlier)) i)
    (is_pick m.pick i)
    (is_refracted (later ++ reached ∷ fired_at ∷ earlier) i) all.0
    (refracted_at later reached fired_at earlier i picked all.1)

refraction_said : (moments : List Moment) (i : Instance) → IsRefracted moments i → is_refracted moments i ≡ true
refraction_said moments i said =
    ap (λ (ms : List Moment). is_refracted ms i) said.all
    ∙ refracted_at said.later said.reached said.fired_at said.earlier i said.picked said.there

-- an instance is refracted exactly where the sentence says so
pub refraction_is : IsRefractionSaid
refraction_is moments i = (refraction_says moments i, refraction_said moments i)

-- ---- ages

age_step : (newest : Moment) (earlier : List Moment) (i : Instance) (b : Bool) → has_instance newest i ≡ b
    → IsAge earlier i (age_of earlier i) → IsAge (newest ∷ earlier) i (if b then suc (age_of earlier i) else 0)
age_step newest earlier i true there said = record {
  recent = newest ∷ said.recent;
  earlier = said.earlier;
  all = ap (λ (ms : List Moment). newest ∷ ms) said.all;
  count = ap suc said.count;
  there = (there, said.there);
  ends = said.ends;
}
age_step newest earlier i false there said = record {
  recent = [];
  earlier = newest ∷ earlier;
  all = refl;
  count = refl;
  there = tt;
  ends = there;
}

age_says : (moments : List Moment) (i : Instance) → IsAge moments i (age_of moments i)
age_says [] i = record { recent = []; earlier = []; all = refl; count = refl; there = tt; ends = tt }
age_says (newest ∷ earlier) i = age_step newest earlier i (has_instance newest i) refl (age_says earlier i)

ended : (earlier : List Moment) (i : Instance) → Interrupts earlier i → age_of earlier i ≡ 0
ended [] i ends = refl
ended (m ∷ ms) i ends = ap (λ (b : Bool). if b then suc (age_of ms i) else 0) ends

age_at : (recent earlier : List Moment) (i : Instance)
    → AllByRecursion (λ moment. has_instance moment i ≡ true) recent
    → Interrupts earlier i → age_of (recent ++ earlier) i ≡ length recent
age_at [] earlier i all ends = ended earlier i ends
age_at (m ∷ recent) earlier i all ends =
    ap (λ (b : Bool). if b then suc (age_of (recent ++ earlier) i) else 0) all.0
    ∙ ap suc (age_at recent earlier i all.1 ends)

age_said : (moments : List Moment) (i : Instance) (n : ℕ) → IsAge moments i n → age_of moments i ≡ n
age_said moments i n said =
    ap (λ (ms : List Moment). age_of ms i) said.all ∙ age_at said.recent said.earlier i said.there said.ends
    ∙ said.count

-- the age is the one number that the sentence says
pub ages_are : AreAgesSaid
ages_are moments i = (age_says moments i, age_said moments i)

-- what isn't in the newest conflict set has age 0
pub others_unaged : AreOthersUnaged
others_unaged [] i none = refl
others_unaged (m ∷ ms) i none = ended (m ∷ ms) i none
