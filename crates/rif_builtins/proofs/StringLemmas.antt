-- Strings joined, their length so far, and where one stands in another.
use Rattle.std.proofs.Common.{◌≡◌, ℕ, zero, suc, ◌+◌, ◌≤◌, ◌<◌, nat_le, Bool, true, false, ◌||◌, ◌==◌, List, [], ◌∷◌}
use Rattle.std.proofs.Common.{◌++◌, length, drop, get_or, Option, None, Some, refl, sym, ap, ◌∙◌, arith, cond}
use Rattle.std.proofs.Common.{drop-cons, add_assoc, length-append, zero-add, if◌then◌else◌}
use Rattle.std.proofs.lemmas.Bool.Decides.{Decides-eqb, nat_tests}
use Rattle.std.proofs.lemmas.List.Prefix.{front_from_reads, front_fits, front_reads}
use Rattle.std.proofs.lemmas.Slice.Eq.{starts_is}
use Rattle.std.specs.List.{starts_with}
use Rattle.std.specs.Option.{option_map, option_and_then, is_some}
use Rattle.memchr.specs.Find.{OccursAt, FindsNeedle}
use Rattle.rif_values.specs.declared.constant.Const.{Const}
use Rattle.rif_values.specs.declared.constant.Const.TheVariants.{Str}
use Rattle.rif_builtins.specs.declared.strings.TheConstants.{MOST_CONCAT_BYTES}
use Rattle.rif_builtins.specs.Builtins.{concatenated, within_limit, concat_of, has_part}

-- a number of bytes, where it isn't too great
abbrev pub bytes_within : ℕ → Option ℕ
bytes_within n = if nat_le n MOST_CONCAT_BYTES then Some n else None

-- how many bytes so many and those of the strings are together, where they aren't too many
abbrev pub length_behind : ℕ → List Const → Option ℕ
length_behind total cs = option_and_then (λ rest. bytes_within (total + length rest)) (concatenated cs)

over_still : (total more : ℕ) → bytes_within total ≡ None → bytes_within (total + more) ≡ None
over_still total more over =
    elim (nat_le total MOST_CONCAT_BYTES) as (λ v. nat_le total MOST_CONCAT_BYTES ≡ v
    → cond v (Some total) None ≡ None
    → bytes_within (total + more) ≡ None) [
      | true ↦ λ _ some. cc
      | false ↦ λ above _.
          let still : nat_le (total + more) MOST_CONCAT_BYTES ≡ false = grind (arith, nat_tests) in
          rw still refl
    ] refl over

begins : (text part : List ℕ) → OccursAt text part 0 → starts_with ◌==◌ text part ≡ true
begins text part occurs =
    let reads : (i : ℕ) → i < length part → get_or text i 0 ≡ get_or part i 0 =
    λ i below. ap (λ k. get_or text k 0) (sym (zero-add i)) ∙ occurs.reads i below in
    (starts_is Decides-eqb text part _ refl).1 (drop (length part) text)
    (front_from_reads 0 text part (omega (arith, occurs.fits)) reads)

at_start : (text part : List ℕ) → starts_with ◌==◌ text part ≡ true → OccursAt text part 0
at_start text part starts =
    let front = (starts_is Decides-eqb text part _ refl).0 starts in
    let fits = front_fits text part (drop (length part) text) front in record {
      fits = omega (arith, fits);
      reads = λ j below. ap (λ k. get_or text k 0) (zero-add j)
          ∙ front_reads 0 text part (drop (length part) text) front j below;
    }

suc-add : (k j : ℕ) → suc k + j ≡ suc (k + j)
suc-add k j = omega arith

moved_up : (b : ℕ) (text part : List ℕ) (k : ℕ) → OccursAt text part k → OccursAt (b ∷ text) part (suc k)
moved_up b text part k occurs = record {
  fits = let fits = occurs.fits in omega arith;
  reads = λ j below. ap (λ n. get_or (b ∷ text) n 0) (suc-add k j) ∙ occurs.reads j below;
}

moved_down : (b : ℕ) (text part : List ℕ) (k : ℕ) → OccursAt (b ∷ text) part (suc k) → OccursAt text part k
moved_down b text part k occurs = record {
  fits = let fits = occurs.fits in omega arith;
  reads = λ j below. ap (λ n. get_or (b ∷ text) n 0) (sym (suc-add k j)) ∙ occurs.reads j below;
}

too_far : (k n : ℕ) → suc k + n ≤ 0 → ⊥
too_far k n fits = omega arith

pub or_of_right : (b c : Bool) → c ≡ true → (b || c) ≡ true
or_of_right true c is = refl
or_of_right false c is = is

pub length_is : (cs : List Const) → length_behind 0 cs ≡ option_map length (concat_of cs)
length_is cs =
    elim (concatenated cs) as (λ j. option_and_then (λ rest. bytes_within (0 + length rest)) j
    ≡ option_map length (option_and_then within_limit j)) [
      | None ↦ refl
      | Some t ↦ rw (zero-add (length t)) (elim (nat_le (length t) MOST_CONCAT_BYTES) as (λ v.
          cond v (Some (length t)) None ≡ option_map length (cond v (Some t) None)) [ true ↦ refl | false ↦ refl ])
    ]

-- a string more
pub length_longer : (total : ℕ) (t : List ℕ) (cs : List Const)
    → length_behind total (Str t ∷ cs) ≡ length_behind (total + length t) cs
length_longer total t cs =
    elim (concatenated cs) as (λ j. option_and_then (λ rest. bytes_within (total + length rest))
    (option_map (λ rest. t ++ rest) j)
    ≡ option_and_then (λ rest. bytes_within ((total + length t) + length rest)) j) [
      | None ↦ refl
      | Some r ↦ ap bytes_within (ap (λ n. total + n) (length-append t r)
          ∙ sym (add_assoc total (length t) (length r)))
    ]

-- too many already
pub length_over : (total : ℕ) (cs : List Const) → bytes_within total ≡ None → length_behind total cs ≡ None
length_over total cs over =
    elim (concatenated cs) as (λ j. option_and_then (λ rest. bytes_within (total + length rest)) j ≡ None) [
      | None ↦ refl
      | Some r ↦ over_still total (length r) over
    ]

-- what the item at a place does to what stands from there on
from_item : (cs : List Const) (place total : ℕ) (c : Const) → place < length cs → c ≡ get_or cs place c
    → length_behind total (drop place cs) ≡ length_behind 0 cs
    → length_behind total (c ∷ drop (suc place) cs) ≡ option_map length (concat_of cs)
from_item cs place total c below at same =
    ap (λ (d : Const). length_behind total (d ∷ drop (suc place) cs)) at
    ∙ ap (length_behind total) (sym (drop-cons cs place c below)) ∙ same ∙ length_is cs

pub stops_at_string : (cs : List Const) (place total : ℕ) (c : Const) (t : List ℕ) → place < length cs
    → c ≡ get_or cs place c → c ≡ Str t → length_behind total (drop place cs) ≡ length_behind 0 cs
    → None ≡ bytes_within (total + length t) → None ≡ option_map length (concat_of cs)
stops_at_string cs place total c t below at is same over =
    let rest = drop (suc place) cs in
    sym (length_over (total + length t) rest (sym over)) ∙ sym (length_longer total t rest)
    ∙ ap (λ (d : Const). length_behind total (d ∷ rest)) (sym is) ∙ from_item cs place total c below at same

-- a part stands in a text where it stands at some place
pub part_at : (text part : List ℕ) (k : ℕ) → OccursAt text part k → has_part text part ≡ true
part_at [] part zero occurs = begins [] part occurs
part_at [] part (suc k) occurs = absurd (too_far k (length part) occurs.fits)
part_at (b ∷ text) part zero occurs =
    rw (begins (b ∷ text) part occurs) refl
part_at (b ∷ text) part (suc k) occurs =
    or_of_right (starts_with ◌==◌ (b ∷ text) part) (has_part text part)
    (part_at text part k (moved_down b text part k occurs))

pub place_of : (text part : List ℕ) → has_part text part ≡ true → (k : ℕ) × (k ≤ length text) × OccursAt text part k
place_of [] part has = (0, omega arith, at_start [] part has)
place_of (b ∷ text) part has =
    elim (starts_with ◌==◌ (b ∷ text) part) as (λ v. starts_with ◌==◌ (b ∷ text) part ≡ v
    → (v || has_part text part) ≡ true
    → (k : ℕ) × (k ≤ length (b ∷ text)) × OccursAt (b ∷ text) part k) [
      | true ↦ λ starts _. (0, omega arith, at_start (b ∷ text) part starts)
      | false ↦ λ _ later.
          let found = place_of text part later in
          (suc found.0, omega (arith, found.1), moved_up b text part found.0 found.2)
    ] refl has

pub found_part : (text part : List ℕ) (found : Option ℕ) → FindsNeedle text part 0 found
    → is_some found ≡ has_part text part
found_part text part None nowhere =
    elim (has_part text part) as (λ v. has_part text part ≡ v → false ≡ v) [
      | true ↦ λ has.
          let place = place_of text part has in
          absurd (nowhere place.0 (omega arith) (omega (arith, place.1)) place.2)
      | false ↦ λ _. refl
    ] refl
found_part text part (Some k) found = sym (part_at text part k found.1)
