-- Constants that are read one after another, up to a bracket.
use Rattle.std.proofs.Common.{◌≡◌, ◌∙◌, sym, ap, refl, ℕ, suc, true, false, List, [], ◌∷◌, ◌++◌, append_assoc}
use Rattle.std.proofs.Common.{append-nil, Option, Some, None}
use Rattle.std.specs.Prelude.{Err}
use Rattle.rif_values.specs.declared.constant.Const.{Const}
use Rattle.prd_grammar.specs.declared.leaf.Leaf.{Leaf}
use Rattle.prd_grammar.specs.declared.leaf.Leaf.TheVariants.{Close}
use Rattle.rif_script.specs.declared.sent_tokens.SentTokens.{SentTokens}
use Rattle.rif_script.specs.declared.line_fault.LineFault.{LineFault}
use Rattle.rif_script.specs.declared.line_fault.LineFault.TheVariants.{Bad, OutOfMemory}
use Rattle.rif_script.specs.ReadingItems.{◌>>=◌, begins_close, const_from, consts_after, consts_from}
use Rattle.rif_script.specs.SentLeaves.{Gives, leaves_past, seen, texts_left}
use Rattle.rif_script.proofs.ConstLemmas.{IsFound}
use Rattle.rif_script.proofs.SentLeafLemmas.{calm_leaves}

-- a call that answers nothing answers so of what gives nothing where this does
pub gives_less : {X Y Z W : Type 0} (view : X → Y) (other : Z → W) (fault : LineFault) (o : Option Y) (p : Option W) →
    (o ≡ None → p ≡ None) → Gives view (Err fault) o → Gives other (Err fault) p
gives_less view other Bad o p less given = less given
gives_less view other OutOfMemory o p less given = tt

with_more : (front : List Const) (x : Const) (found : Option (List Const × List Leaf)) →
    consts_after front (found >>= λ more. Some (x ∷ more.0, more.1)) ≡ consts_after (front ++ x ∷ []) found
with_more front x None = refl
with_more front x (Some r) = ap (λ (xs : List Const). Some (xs, r.1)) (sym (append_assoc front (x ∷ []) r.0))

module _ (front : List Const) (left m : ℕ) (ls : List Leaf) (all : Option (List Const × List Leaf))
    (before : consts_after front (consts_from left ls) ≡ all) where
  same : left ≡ suc m → consts_after front (consts_from (suc m) ls) ≡ all
  same is = ap (λ (k : ℕ). consts_after front (consts_from k ls)) (sym is) ∙ before

  pub consts_closed : left ≡ suc m → (rest : List Leaf) → ls ≡ Close ∷ rest → IsFound all front rest
  unfolding consts_from
  consts_closed is rest closed =
      sym (same is)
      ∙ (ap (λ (xs : List Leaf). consts_after front (consts_from (suc m) xs)) closed
      ∙ ap (λ (xs : List Const). Some (xs, rest)) (append-nil front))

  pub consts_refused : left ≡ suc m → begins_close ls ≡ false → const_from ls ≡ None → all ≡ None
  unfolding consts_from
  consts_refused is open_ none =
      let step : consts_from (suc m) ls ≡ None = rw (open_, none) refl in
      sym (same is) ∙ ap (consts_after front) step

  pub consts_more : left ≡ suc m → begins_close ls ≡ false → (c : Const) (rest : List Leaf) →
      IsFound (const_from ls) c rest →
      consts_after (front ++ c ∷ []) (consts_from m rest) ≡ all
  unfolding consts_from
  consts_more is open_ c rest found =
      let step : consts_from (suc m) ls ≡ (consts_from m rest >>= λ more. Some (c ∷ more.0, more.1)) =
      rw (open_, found) refl in
      sym (with_more front c (consts_from m rest)) ∙ (ap (consts_after front) (sym step) ∙ same is)

  pub consts_out : left ≡ 0 → all ≡ None
  unfolding consts_from
  consts_out is = sym before ∙ ap (λ (k : ℕ). consts_after front (consts_from k ls)) is

-- what stands behind a bracket
pub close_seen : (at rest : SentTokens) (l : Leaf) → seen at ≡ l ∷ leaves_past (l ∷ []) rest →
    begins_close (l ∷ []) ≡ true → seen at ≡ Close ∷ seen rest
close_seen at rest Close is closed =
    is ∙ ap (λ (xs : List Leaf). Close ∷ xs) (calm_leaves rest.prefixes.now Close (texts_left rest) refl)
close_seen at rest _ is closed = absurd (cc)

open_tail : (l : Leaf) (ls : List Leaf) → begins_close (l ∷ []) ≡ false → begins_close (l ∷ ls) ≡ false
open_tail Close ls open_ = open_
open_tail _ ls open_ = refl

pub open_seen : (at rest : SentTokens) (l : Leaf) → seen at ≡ l ∷ leaves_past (l ∷ []) rest →
    begins_close (l ∷ []) ≡ false → begins_close (seen at) ≡ false
open_seen at rest l is open_ = ap begins_close is ∙ open_tail l (leaves_past (l ∷ []) rest) open_

pub nothing_from : (ls : List Leaf) → ls ≡ [] → (begins_close ls ≡ false) × (const_from ls ≡ None)
unfolding const_from
nothing_from ls none = (ap begins_close none, ap const_from none)
