-- What is counted among leaves is never more than they are.
use Rattle.std.proofs.Common.{◌≡◌, ◌≤◌, ◌<◌, ◌+◌, ◌^◌, sym, subst, ℕ, Bool, true, false, List, [], ◌∷◌, length, Some}
use Rattle.std.proofs.Common.{None, suc, pred, arith, take, length-take-le}
use Rattle.std.specs.Prelude.{if◌then◌else◌}
use Rattle.std.specs.declared.option.Option.{Option}
use Rattle.prd_grammar.specs.declared.leaf.BuiltinName.TheVariants.{Known, Unknown, Undeclared}
use Rattle.prd_grammar.specs.declared.leaf.Leaf.{Leaf}
use Rattle.prd_grammar.specs.declared.leaf.Leaf.TheVariants.{Builtin, Open, Close, OpenSquare, CloseSquare}
use Rattle.prd_grammar.specs.declared.bracket.Bracket.{Bracket}
use Rattle.prd_grammar.specs.declared.bracket.Bracket.TheVariants.{Plain, Arguments}
use Rattle.prd_grammar.specs.Progress.{Progress, Counts, at_start, begins_rule, brackets_with, counts_with, is_action}
use Rattle.prd_grammar.specs.Progress.{is_new_rule, is_pattern, is_term, no_counts, opened, progress_from}
use Rattle.prd_grammar.specs.Progress.{progress_of}
use Rattle.prd_grammar.specs.Progress.{progress_with, with_argument}
use Rattle.prd_recognition.specs.Reached.{HasRoom, RuleHasRoom, ends_at, rule_from, rule_kept}
use Rattle.prd_recognition.proofs.ProgressLemmas.{rule_with_is}

abbrev pub FewArguments : ℕ → List Bracket → Type 0
FewArguments n [] = Unit {0}
FewArguments n (Plain ∷ bs) = FewArguments n bs
FewArguments n (Arguments b k ∷ bs) = (k ≤ n) × FewArguments n bs

abbrev pub FewCounted : ℕ → Option Counts → Type 0
FewCounted n None = Unit {0}
FewCounted n (Some c) = (c.patterns ≤ n) × (c.actions ≤ n)

pub record AreFew (n : ℕ) (p : Progress) : Type 0 where
  pub arguments : FewArguments n p.brackets
  pub rules : p.rules ≤ n
  pub rule : FewCounted n p.rule

more_arguments : (n : ℕ) (bs : List Bracket) → FewArguments n bs → FewArguments (suc n) bs
more_arguments n [] few = tt
more_arguments n (Plain ∷ bs) few = more_arguments n bs few
more_arguments n (Arguments b k ∷ bs) few = let low = few.0 in (omega arith, more_arguments n bs few.1)

argument_few : (n : ℕ) (bs : List Bracket) → FewArguments n bs → FewArguments (suc n) (with_argument bs)
argument_few n [] few = tt
argument_few n (Plain ∷ bs) few = more_arguments n bs few
argument_few n (Arguments b k ∷ bs) few = let low = few.0 in (omega arith, more_arguments n bs few.1)

opened_few : (n : ℕ) (bs : List Bracket) (last : Leaf) → FewArguments n bs → FewArguments n (opened last ∷ bs)
opened_few n bs (Builtin (Known b)) few = (omega arith, few)
opened_few n bs (Builtin Unknown) few = few
opened_few n bs (Builtin Undeclared) few = few
opened_few n bs _ few = few

closed_few : (n : ℕ) (bs : List Bracket) (last : Leaf) → FewArguments n bs →
    FewArguments (suc n) (brackets_with bs last Close)
closed_few n [] last few = tt
closed_few n (Plain ∷ bs) last few = more_arguments n bs few
closed_few n (Arguments b k ∷ bs) last few = more_arguments n bs few.1

brackets_few : (n : ℕ) (bs : List Bracket) (last l : Leaf) → FewArguments n bs →
    FewArguments (suc n) (brackets_with bs last l)
brackets_few n bs last Open few = opened_few (suc n) bs last (more_arguments n bs few)
brackets_few n bs last OpenSquare few = more_arguments n bs few
brackets_few n bs last Close few = closed_few n bs last few
brackets_few n bs last CloseSquare few = closed_few n bs last few
brackets_few n bs last l few = elim (is_term l) as (λ b. FewArguments (suc n) (if b then with_argument bs else bs)) [
  | true ↦ argument_few n bs few
  | false ↦ more_arguments n bs few
]

one_more : (n k : ℕ) (b : Bool) → k ≤ n → (if b then suc k else k) ≤ suc n
one_more n k true low = omega arith
one_more n k false low = omega arith

from_few : (n : ℕ) (o : Option Counts) (depth : ℕ) (l : Leaf) → FewCounted n o → FewCounted n (rule_from o depth l)
from_few n (Some c) depth l few = few
from_few n None depth l few =
    elim (begins_rule l) as (λ b. FewCounted n (if b then Some (no_counts depth) else None)) [
      | true ↦ (omega arith, omega arith)
      | false ↦ tt
    ]

kept_few : (n behind : ℕ) (named : Bool) (o : Option Counts) (l : Leaf) → FewCounted n o →
    FewCounted (suc n) (rule_kept behind named o l)
kept_few n behind named None l few = tt
kept_few n behind named (Some c) l few =
    elim (ends_at behind c l) as (λ b. FewCounted (suc n) (if b then None else Some (counts_with named c l))) [
      | true ↦ tt
      | false ↦ (one_more n c.patterns (is_pattern named c l) few.0, one_more n c.actions (is_action l) few.1)
    ]

few_with : (n : ℕ) (p : Progress) (l : Leaf) → AreFew n p → AreFew (suc n) (progress_with p l)
few_with n p l few = record {
  arguments = brackets_few n p.brackets p.last l few.arguments;
  rules = one_more n p.rules (is_new_rule p l) few.rules;
  rule = subst (FewCounted (suc n)) (rule_with_is p l)
      (kept_few n (pred (length p.brackets)) p.named (rule_from p.rule (length p.brackets) l) l
      (from_few n p.rule (length p.brackets) l few.rule));
}

few_from : (n m : ℕ) (p : Progress) (ls : List Leaf) → n + length ls ≡ m → AreFew n p → AreFew m (progress_from p ls)
few_from n m p [] is few = let e : n ≡ m = omega (arith, is) in subst (λ (k : ℕ). AreFew k p) e few
few_from n m p (l ∷ ls) is few = few_from (suc n) m (progress_with p l) ls (omega (arith, is)) (few_with n p l few)

pub are_few : (ls : List Leaf) → AreFew (length ls) (progress_of ls)
are_few ls = few_from 0 (length ls) at_start ls (omega arith)
    (record { arguments = tt; rules = omega arith; rule = tt })

-- what the code counts still fits
pub record HasRooms (p : Progress) : Type 0 where
  pub arguments : HasRoom p.brackets
  pub rules : p.rules + 1 < 2 ^ 64
  pub rule : RuleHasRoom p.rule

brackets_room : (n : ℕ) (bs : List Bracket) → n + 1 < 2 ^ 64 → FewArguments n bs → HasRoom bs
brackets_room n [] fits few = tt
brackets_room n (Plain ∷ bs) fits few = tt
brackets_room n (Arguments b k ∷ bs) fits few = let low = few.0 in omega arith

rule_room : (n : ℕ) (o : Option Counts) → n + 1 < 2 ^ 64 → FewCounted n o → RuleHasRoom o
rule_room n None fits few = tt
rule_room n (Some c) fits few = let low = few.0 in let high = few.1 in (omega arith, omega arith)

pub has_rooms : (ls : List Leaf) (i : ℕ) (p : Progress) → i ≤ length ls → i + 1 < 2 ^ 64 →
    p ≡ progress_of (take i ls) → HasRooms p
has_rooms ls i p inside fits seen =
    let size : length (take i ls) ≡ i = length-take-le i ls inside in
    let few : AreFew i p =
    subst (λ (n : ℕ). AreFew n p) size (subst (AreFew (length (take i ls))) (sym seen) (are_few (take i ls))) in
    record {
      arguments = brackets_room i p.brackets fits few.arguments;
      rules = let low = few.rules in omega arith;
      rule = rule_room i p.rule fits few.rule;
    }
