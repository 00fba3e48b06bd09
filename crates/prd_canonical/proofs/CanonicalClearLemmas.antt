-- No refusal stands in the canonical tree of a document at which none stood, or a bracket that is too deep decides.
use Rattle.std.proofs.Common.{◌≡◌, ◌<◌, ◌+◌, ◌&&◌, ◌⊎◌, inl, inr, ⊎_elim, ℕ, suc, zero, Bool, true, false, nat_le}
use Rattle.std.proofs.Common.{List, [], ◌∷◌, refl, ap, ◌∙◌, sym, subst, arith, length, map, take, get_or, Some, None}
use Rattle.std.proofs.Common.{if◌then◌else◌}
use Rattle.std.proofs.lemmas.Bool.{or_from, or_parts}
use Rattle.std.specs.declared.option.Option.{Option}
use Rattle.rif_refusals.specs.Limits.{most_rules}
use Rattle.rif_tree.specs.declared.rule.Rule.{Rule}
use Rattle.prd_grammar.specs.declared.cause.Cause.{Cause}
use Rattle.prd_grammar.specs.declared.cause.Cause.TheVariants.{TooDeep}
use Rattle.prd_grammar.specs.declared.leaf.Leaf.{Leaf}
use Rattle.prd_grammar.specs.declared.leaf.Leaf.TheVariants.{TypeName}
use Rattle.prd_grammar.specs.declared.bracket.Bracket.{Bracket}
use Rattle.prd_limits.specs.Limits.{KeepsLimits, KeepRuleLimits}
use Rattle.prd_grammar.specs.Progress.{Progress, at_start, progress_with, progress_from, rule_at, opened, is_new_rule}
use Rattle.prd_grammar.specs.Refusals.{cause_at, cause_in_rule, is_refused_type, is_too_deep, is_wide, is_undeclared}
use Rattle.prd_grammar.specs.Refusals.{is_unknown, is_wrong_arity, is_bad_strategy, is_bad_priority, IsClear}
use Rattle.prd_grammar.specs.Refusals.{IsRefusedAt}
use Rattle.prd_grammar.specs.Trees.{DocumentTree, spell_document}
use Rattle.prd_grammar.specs.Values.{document_value}
use Rattle.prd_canonical.specs.CanonicalTrees.{canonical_document}
use Rattle.prd_limits.proofs.CallerLemmas.{counts, length_tallies, Tally, tallies, rule_tally, document_leads}
use Rattle.prd_limits.proofs.CallerLemmas.{Clear, clear_from, KeepTallies, tail_of_if, test_of_if, open_rules}
use Rattle.prd_limits.proofs.CallerLemmas.{rules_counted, document_in_range}
use Rattle.prd_canonical.proofs.CanonicalDocumentLemmas.{same_document}
use Rattle.prd_limits.proofs.CallerLemmas.{AreFitting, let_pass, all_fit}
use Rattle.prd_leaves.proofs.CallerLemmas.{front_of_document}
use Rattle.prd_canonical.proofs.SoundLeaves.{AreSound, is_amiss, same_brackets}
use Rattle.prd_canonical.proofs.SoundDocumentLemmas.{document_sound}

-- a leaf without a refusal is sound
nothing_amiss : (p : Progress) (l : Leaf) → cause_at p l ≡ None → is_amiss p.brackets p.in_head l ≡ false
nothing_amiss p l h =
    let h1 = tail_of_if (is_refused_type l) _ _ h in
    let h2 = tail_of_if (is_too_deep p.brackets l) _ _ h1 in
    let h3 = tail_of_if (is_wide l) _ _ h2 in
    let h4 = tail_of_if (is_undeclared l) _ _ h3 in
    let h5 = tail_of_if (is_unknown l) _ _ h4 in
    let h6 = tail_of_if (is_wrong_arity p.brackets l) _ _ h5 in
    let h7 = tail_of_if (is_bad_strategy p.in_head l) _ _ h6 in
    or_from (is_refused_type l) _ (test_of_if (is_refused_type l) _ _ h)
    (or_from (is_wide l) _ (test_of_if (is_wide l) _ _ h2)
    (or_from (is_undeclared l) _ (test_of_if (is_undeclared l) _ _ h3)
    (or_from (is_unknown l) _ (test_of_if (is_unknown l) _ _ h4)
    (or_from (is_wrong_arity p.brackets l) _ (test_of_if (is_wrong_arity p.brackets l) _ _ h5)
    (or_from (is_bad_strategy p.in_head l) _ (test_of_if (is_bad_strategy p.in_head l) _ _ h6)
    (test_of_if (is_bad_priority p.in_head l) _ _ h7))))))

-- a sound leaf that is neither too deep nor one too many has no refusal
no_cause : (p : Progress) (l : Leaf) → is_amiss p.brackets p.in_head l ≡ false → is_too_deep p.brackets l ≡ false →
    (is_new_rule p l && nat_le most_rules p.rules) ≡ false → cause_in_rule p.named (rule_at p l) l ≡ None →
    cause_at p l ≡ None
no_cause p l sound shallow rules none =
    let h1 = or_parts (is_refused_type l) _ sound in
    let h2 = or_parts (is_wide l) _ h1.1 in
    let h3 = or_parts (is_undeclared l) _ h2.1 in
    let h4 = or_parts (is_unknown l) _ h3.1 in
    let h5 = or_parts (is_wrong_arity p.brackets l) _ h4.1 in
    let h6 = or_parts (is_bad_strategy p.in_head l) _ h5.1 in
    let_pass (is_refused_type l) _ _ h1.0
    (let_pass (is_too_deep p.brackets l) _ _ shallow
    (let_pass (is_wide l) _ _ h2.0
    (let_pass (is_undeclared l) _ _ h3.0
    (let_pass (is_unknown l) _ _ h4.0
    (let_pass (is_wrong_arity p.brackets l) _ _ h5.0
    (let_pass (is_bad_strategy p.in_head l) _ _ h6.0
    (let_pass (is_bad_priority p.in_head l) _ _ h6.1
    (let_pass (is_new_rule p l && nat_le most_rules p.rules) _ _ rules none))))))))

-- leaves behind a progress, as the walk by the brackets alone sees them
abbrev AreSoundBehind : Progress → List Leaf → Type 0
AreSoundBehind p ls = AreSound p.brackets (opened p.last) p.in_head ls

clear_sound : (ls : List Leaf) (p : Progress) → Clear p ls → AreSoundBehind p ls
clear_sound [] p clear = tt
clear_sound (l ∷ ls) p clear = (
  nothing_amiss p l clear.0,
  subst (λ (bs : List Bracket). AreSound bs (opened l) (progress_with p l).in_head ls)
      (same_brackets p.brackets p.last l) (clear_sound ls (progress_with p l) clear.1),
)

-- a bracket that is too deep is no type, so this is what decides at it
no_type : (bs : List Bracket) (l : Leaf) → is_too_deep bs l ≡ true → is_refused_type l ≡ false
no_type bs (TypeName known) deep = cc
no_type bs l deep = refl

let_stop : (b : Bool) (x : Cause) (rest : Option Cause) → b ≡ true → (if b then Some x else rest) ≡ Some x
let_stop true x rest e = refl
let_stop false x rest e = cc

go_past : (b : Bool) (x : Cause) (rest found : Option Cause) → b ≡ false → rest ≡ found →
    (if b then Some x else rest) ≡ found
go_past true x rest found e is = cc
go_past false x rest found e is = is

deep_cause : (p : Progress) (l : Leaf) → is_too_deep p.brackets l ≡ true → cause_at p l ≡ Some TooDeep
deep_cause p l deep =
    go_past (is_refused_type l) _ _ _ (no_type p.brackets l deep) (let_stop (is_too_deep p.brackets l) _ _ deep)

-- the first of the leaves behind a progress at which a refusal stands is a bracket that is too deep
record IsFirstDeep (p : Progress) (ls : List Leaf) : Type 0 where
  place : ℕ
  within : place < length ls
  clear : (i : ℕ) (d : Leaf) → i < place → cause_at (progress_from p (take i ls)) (get_or ls i d) ≡ None
  deep : (d : Leaf) → cause_at (progress_from p (take place ls)) (get_or ls place d) ≡ Some TooDeep

clear_before : (p : Progress) (l : Leaf) (ls : List Leaf) (place : ℕ) → cause_at p l ≡ None →
    ((i : ℕ) (d : Leaf) → i < place →
    cause_at (progress_from (progress_with p l) (take i ls)) (get_or ls i d) ≡ None) →
    (i : ℕ) (d : Leaf) → i < suc place →
    cause_at (progress_from p (take i (l ∷ ls))) (get_or (l ∷ ls) i d) ≡ None
clear_before p l ls place none clear zero d below = none
clear_before p l ls place none clear (suc i) d below = clear i d (omega arith)

one_behind : (p : Progress) (l : Leaf) (ls : List Leaf) → cause_at p l ≡ None →
    Clear (progress_with p l) ls ⊎ IsFirstDeep (progress_with p l) ls → Clear p (l ∷ ls) ⊎ IsFirstDeep p (l ∷ ls)
one_behind p l ls none (inl clear) = inl (none, clear)
one_behind p l ls none (inr first) =
    let within = first.within in
    inr (record {
      place = suc first.place;
      within = omega arith;
      clear = clear_before p l ls first.place none first.clear;
      deep = first.deep;
    })

clear_or_deep : (ls : List Leaf) (p : Progress) → AreSoundBehind p ls → AreFitting p ls →
    Clear p ls ⊎ IsFirstDeep p ls
clear_or_deep [] p sound fits = inl tt
clear_or_deep (l ∷ ls) p sound fits =
    let rest = clear_or_deep ls (progress_with p l)
    (subst (λ (bs : List Bracket). AreSound bs (opened l) (progress_with p l).in_head ls)
    (sym (same_brackets p.brackets p.last l)) sound.1) fits.1.1 in
    elim (is_too_deep p.brackets l) as
    (λ v. is_too_deep p.brackets l ≡ v → Clear p (l ∷ ls) ⊎ IsFirstDeep p (l ∷ ls)) [
      | true ↦ λ is. inr (record {
        place = 0;
        within = omega arith;
        clear = λ i d below. absurd (omega arith);
        deep = λ d. deep_cause p l is;
      })
      | false ↦ λ is. one_behind p l ls (no_cause p l sound.0 is fits.0 fits.1.0) rest
    ] refl

-- the walk's places are those of the leaves
clear_at : (ls : List Leaf) (p : Progress) → Clear p ls → (i : ℕ) (d : Leaf) → i < length ls →
    cause_at (progress_from p (take i ls)) (get_or ls i d) ≡ None
clear_at [] p clear i d below = absurd (omega arith)
clear_at (l ∷ ls) p clear zero d below = clear.0
clear_at (l ∷ ls) p clear (suc i) d below = clear_at ls (progress_with p l) clear.1 i d (omega arith)

rules_tallied : (rs : List Rule) → KeepRuleLimits rs → KeepTallies (map rule_tally rs)
rules_tallied [] keep = tt
rules_tallied (r ∷ rs) keep = (
  record { names = keep.0.names; patterns = keep.0.patterns; actions = keep.0.actions },
  rules_tallied rs keep.1,
)

-- a document that keeps the limits has nothing too many anywhere
document_fits : (t : DocumentTree) → KeepsLimits (document_value t) → AreFitting at_start (spell_document t)
document_fits t limits =
    let ls = spell_document t in
    let rs = (document_value t).rules in
    let led = document_leads t at_start refl in
    let begun = rules_counted ls at_start in
    let ended : open_rules (progress_from at_start ls).rule ≡ 0 = ap open_rules led.none in
    let read : length (tallies at_start ls) ≡ length rs =
    ap (λ (ts : List Tally). length ts) led.reads ∙ length_tallies rs in
    all_fit ls at_start (subst KeepTallies (sym led.reads) (rules_tallied rs limits.each)) led.none
    (omega (arith, limits.rules, begun, ended, read))

-- a document is refused at a bracket that is too deep, where no refusal stands before it
deep_decides : (t : DocumentTree) (first : IsFirstDeep at_start (spell_document t)) →
    IsRefusedAt (spell_document t) first.place TooDeep
deep_decides t first =
    let ls = spell_document t in
    let within = first.within in record {
      within = omega arith;
      front = front_of_document ls first.place (t, refl);
      clear = first.clear;
      here = λ d low. inr (front_of_document ls (first.place + 1) (t, refl), first.deep d);
      end = λ all. absurd (omega arith);
    }

-- the leaves are clear, or refused at a bracket that is too deep
abbrev pub IsClearOrDeep : List Leaf → Type 0
IsClearOrDeep ls = IsClear ls (length ls) ⊎ ((place : ℕ) × IsRefusedAt ls place TooDeep)

pub canonical_is_clear : (t : DocumentTree) → IsClear (spell_document t) (length (spell_document t)) →
    IsClearOrDeep (spell_document (canonical_document t))
canonical_is_clear t whole =
    let c = canonical_document t in
    let ls = spell_document c in
    let clear = clear_from (spell_document t) whole in
    let sound = document_sound t (clear_sound (spell_document t) at_start clear) (document_in_range t clear) in
    let limits = subst KeepsLimits (sym (same_document t)) (counts.limits t whole) in
    ⊎_elim (λ (none : Clear at_start ls). inl (clear_at ls at_start none))
    (λ (first : IsFirstDeep at_start ls). inr (first.place, deep_decides c first))
    (clear_or_deep ls at_start sound (document_fits c limits))
