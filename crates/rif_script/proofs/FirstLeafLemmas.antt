-- What is given by the leaves that are left, where the first of them is known.
use Rattle.std.proofs.Common.{ℕ, ◌≡◌, ◌∙◌, ap, refl, true, false, List, [], ◌∷◌, Option, Some, None}
use Rattle.std.specs.Option.{MatchOption}
use Rattle.rif_values.specs.declared.constant.Const.{Const}
use Rattle.rif_values.specs.declared.change.Change.TheVariants.{Retract, RetractSlot}
use Rattle.rif_values.specs.declared.fact.Fact.{Fact}
use Rattle.rif_lex.specs.Spelling.{Written}
use Rattle.prd_grammar.specs.declared.leaf.Leaf.{Leaf}
use Rattle.prd_grammar.specs.declared.leaf.Leaf.TheVariants.{Int}
use Rattle.prd_leaves.specs.Leaves.{leaves_from}
use Rattle.prd_grammar.specs.Prefixes.{Prefixes}
use Rattle.rif_script.specs.declared.sent_tokens.SentTokens.{SentTokens}
use Rattle.rif_script.specs.ReadingItems.{◌>>=◌, const_behind, const_from, fact_behind, fact_retracted, fact_with}
use Rattle.rif_script.specs.ReadingItems.{is_fact_sign, number_from, number_of, past_arrow, past_close_square}
use Rattle.rif_script.specs.ReadingItems.{retracted_with, slot_behind, slot_with, whole}
use Rattle.rif_script.specs.SentLeaves.{leaves_past, seen, texts_left}
use Rattle.rif_script.proofs.SentLeafLemmas.{arrow_calm, calm_leaves, close_square_calm, const_calm, fact_calm}

-- what was read of the first leaf
pub first_seen : (at rest : SentTokens) (l : Leaf) (found : Option (Leaf × SentTokens)) → found ≡ Some (l, rest) →
    MatchOption found (seen at ≡ [])
    (λ (first : Leaf × SentTokens). seen at ≡ first.0 ∷ leaves_past (first.0 ∷ []) first.1) →
    seen at ≡ l ∷ leaves_past (l ∷ []) rest
first_seen at rest l None is read = absurd (cc)
first_seen at rest l (Some first) is read =
    let same : first ≡ (l, rest) = cc in
    read ∙ ap (λ (f : Leaf × SentTokens). f.0 ∷ leaves_past (f.0 ∷ []) f.1) same

pub const_first : (at rest : SentTokens) (l : Leaf) → seen at ≡ l ∷ leaves_past (l ∷ []) rest →
    const_from (seen at) ≡ const_behind (seen rest) l
unfolding const_from
const_first at rest l is = ap const_from is ∙ const_calm rest.prefixes.now l (texts_left rest)

pub fact_first : (o : Const) (at rest : SentTokens) (l : Leaf) → seen at ≡ l ∷ leaves_past (l ∷ []) rest →
    fact_with o (seen at) ≡ fact_behind o (seen rest) l
fact_first o at rest l is = ap (fact_with o) is ∙ fact_calm o rest.prefixes.now l (texts_left rest)

pub arrow_first : (at rest : SentTokens) (l : Leaf) → seen at ≡ l ∷ leaves_past (l ∷ []) rest →
    past_arrow (seen at) ≡ past_arrow (l ∷ seen rest)
arrow_first at rest l is = ap past_arrow is ∙ arrow_calm rest.prefixes.now l (texts_left rest)

pub close_square_first : (at rest : SentTokens) (l : Leaf) → seen at ≡ l ∷ leaves_past (l ∷ []) rest →
    past_close_square (seen at) ≡ past_close_square (l ∷ seen rest)
close_square_first at rest l is = ap past_close_square is ∙ close_square_calm rest.prefixes.now l (texts_left rest)

-- nothing was read
pub none_seen : (at : SentTokens) (found : Option (Leaf × SentTokens)) →
    ((first : Leaf × SentTokens) → found ≡ Some first → ⊥) →
    MatchOption found (seen at ≡ [])
    (λ (first : Leaf × SentTokens). seen at ≡ first.0 ∷ leaves_past (first.0 ∷ []) first.1) →
    seen at ≡ []
none_seen at None never none = none
none_seen at (Some first) never read = absurd (never first refl)

-- what may be retracted, by the leaf behind its first constant
pub sign_first : (o : Const) (at rest : SentTokens) (l : Leaf) → seen at ≡ l ∷ leaves_past (l ∷ []) rest →
    is_fact_sign l ≡ true → retracted_with o (seen at) ≡ fact_retracted o (seen rest) l
sign_first o at rest l is sign =
    let step : retracted_with o (l ∷ leaves_past (l ∷ []) rest) ≡ fact_retracted o (leaves_past (l ∷ []) rest) l =
    rw sign refl in
    ap (retracted_with o) is
    ∙ (step ∙ ap (λ (f : Option Fact). f >>= λ fact. Some (Retract fact))
    (fact_calm o rest.prefixes.now l (texts_left rest)))

pub slot_first : (o : Const) (at rest : SentTokens) (l : Leaf) → seen at ≡ l ∷ leaves_past (l ∷ []) rest →
    is_fact_sign l ≡ false → retracted_with o (seen at) ≡ slot_behind o (seen rest) l
unfolding slot_with const_from
slot_first o at rest l is sign =
    let step : retracted_with o (l ∷ leaves_past (l ∷ []) rest) ≡ slot_behind o (leaves_past (l ∷ []) rest) l =
    rw sign refl in
    ap (retracted_with o) is
    ∙ (step ∙ ap (λ (f : Option (Const × List Leaf)). f >>= λ s. whole s.1 (RetractSlot o s.0))
    (const_calm rest.prefixes.now l (texts_left rest)))

-- a number, by its leaf
number_calm : (p : Prefixes) (l : Leaf) (ws : List Written) (n : ℕ) → number_of l ≡ Some n →
    leaves_from p (l ∷ []) ws ≡ leaves_from p [] ws
number_calm p (Int z) ws n is = calm_leaves p (Int z) ws refl
number_calm p _ ws n is = absurd (cc)

pub number_first : (at rest : SentTokens) (l : Leaf) (n : ℕ) → seen at ≡ l ∷ leaves_past (l ∷ []) rest →
    number_of l ≡ Some n → number_from (seen at) ≡ whole (seen rest) n
unfolding number_from
number_first at rest l n is given =
    let step : number_from (l ∷ leaves_past (l ∷ []) rest) ≡ whole (leaves_past (l ∷ []) rest) n = rw given refl in
    ap number_from is
    ∙ (step ∙ ap (λ (xs : List Leaf). whole xs n) (number_calm rest.prefixes.now l (texts_left rest) n given))

pub number_none : (at rest : SentTokens) (l : Leaf) → seen at ≡ l ∷ leaves_past (l ∷ []) rest →
    number_of l ≡ None → number_from (seen at) ≡ None
unfolding number_from
number_none at rest l is none =
    let step : number_from (l ∷ leaves_past (l ∷ []) rest) ≡ None = rw none refl in
    ap number_from is ∙ step

pub whole_none : {A : Type 0} (ls : List Leaf) (x : A) → (ls ≡ [] → ⊥) → whole ls x ≡ None
whole_none [] x some_ = absurd (some_ refl)
whole_none (l ∷ ls) x some_ = refl
