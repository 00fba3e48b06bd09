-- The progress of the code is that of the leaves.
use Rattle.std.proofs.Common.{◌≡◌, ◌∙◌, refl, ap, ℕ, Bool, List, [], ◌∷◌, length, Some, None, suc, pred}
use Rattle.std.specs.Prelude.{if◌then◌else◌}
use Rattle.std.specs.declared.option.Option.{Option}
use Rattle.prd_grammar.specs.declared.leaf.Literal.TheVariants.{Integer, Boolean, String, Iri as IriLiteral}
use Rattle.prd_grammar.specs.declared.leaf.Literal.TheVariants.{Local as LocalLiteral, OfNoType}
use Rattle.prd_grammar.specs.declared.leaf.Leaf.{Leaf}
use Rattle.prd_grammar.specs.declared.leaf.Leaf.TheVariants.{Key, LeftOut, Word, Int, Str, Typed, Misspelled}
use Rattle.prd_grammar.specs.declared.leaf.Leaf.TheVariants.{TypeName}
use Rattle.prd_grammar.specs.declared.leaf.Leaf.TheVariants.{Iri, Curie, Builtin, Local, Var, Open, Close, OpenSquare}
use Rattle.prd_grammar.specs.declared.leaf.Leaf.TheVariants.{CloseSquare, Equal, Hash, Arrow, Carets}
use Rattle.prd_grammar.specs.declared.bracket.Bracket.{Bracket}
use Rattle.prd_grammar.specs.Progress.{Progress, Counts, brackets_with, closed, counts_with, ends_rule, head_with}
use Rattle.prd_grammar.specs.Progress.{is_new_rule, named_with, names_ended, progress_with, rule_at, rule_with}
use Rattle.prd_recognition.specs.Reached.{ends_at, name_with, names_given, rule_from, rule_kept}

abbrev progress_made : List Bracket → Leaf → Bool → Bool → ℕ → Option Counts → Progress
progress_made b l h n k o = record { brackets = b; last = l; in_head = h; named = n; rules = k; rule = o }

name_is : (p : Progress) (l : Leaf) → name_with p.named p.last l ≡ named_with p l
name_is p (Key k) = refl
name_is p LeftOut = refl
name_is p (Word t) = refl
name_is p (Int z) = refl
name_is p (Str t) = refl
name_is p (Typed (Integer z)) = refl
name_is p (Typed (Boolean b)) = refl
name_is p (Typed (String t)) = refl
name_is p (Typed (IriLiteral t)) = refl
name_is p (Typed (LocalLiteral t)) = refl
name_is p (Typed OfNoType) = refl
name_is p Misspelled = refl
name_is p (TypeName known) = refl
name_is p (Iri t) = refl
name_is p (Curie t) = refl
name_is p (Builtin b) = refl
name_is p (Local t) = refl
name_is p (Var t) = refl
name_is p Open = refl
name_is p Close = refl
name_is p OpenSquare = refl
name_is p CloseSquare = refl
name_is p Equal = refl
name_is p Hash = refl
name_is p Arrow = refl
name_is p Carets = refl

behind_is : (bs : List Bracket) → pred (length bs) ≡ length (closed bs)
behind_is [] = refl
behind_is (b ∷ bs) = refl

ends_is : (bs : List Bracket) (c : Counts) (l : Leaf) → ends_at (pred (length bs)) c l ≡ ends_rule bs c l
ends_is bs c l = ap (λ (n : ℕ). ends_at n c l) (behind_is bs)

rule_is : (bs : List Bracket) (named : Bool) (o : Option Counts) (l : Leaf) → rule_kept (pred (length bs)) named o l
    ≡ elim o [ None ↦ None | Some c ↦ if ends_rule bs c l then None else Some (counts_with named c l) ]
rule_is bs named None l = refl
rule_is bs named (Some c) l = ap (λ (b : Bool). if b then None else Some (counts_with named c l)) (ends_is bs c l)

names_are : (bs : List Bracket) (o : Option Counts) (l : Leaf) → names_given (pred (length bs)) o l
    ≡ elim o [ None ↦ [] | Some c ↦ if ends_rule bs c l then c.names ∷ [] else [] ]
names_are bs None l = refl
names_are bs (Some c) l = ap (λ (b : Bool). if b then c.names ∷ [] else []) (ends_is bs c l)

at_is : (p : Progress) (l : Leaf) → rule_from p.rule (length p.brackets) l ≡ rule_at p l
at_is p l = elim p.rule as (λ o. rule_from o (length p.brackets) l
    ≡ rule_at (record p { rule = o }) l) [ Some c ↦ refl | None ↦ refl ]

pub names_ended_is : (p : Progress) (l : Leaf) →
    names_given (pred (length p.brackets)) (rule_from p.rule (length p.brackets) l) l ≡ names_ended p l
names_ended_is p l = ap (λ (o : Option Counts). names_given (pred (length p.brackets)) o l) (at_is p l)
    ∙ names_are p.brackets (rule_at p l) l

pub rule_with_is : (p : Progress) (l : Leaf) →
    rule_kept (pred (length p.brackets)) p.named (rule_from p.rule (length p.brackets) l) l ≡ rule_with p l
rule_with_is p l = ap (λ (o : Option Counts). rule_kept (pred (length p.brackets)) p.named o l) (at_is p l)
    ∙ rule_is p.brackets p.named (rule_at p l) l

-- the parts that the code makes are those of the progress behind the leaf
pub made_is : (p : Progress) (l : Leaf) (b : List Bracket) (h n : Bool) (k : ℕ) (o : Option Counts) →
    b ≡ brackets_with p.brackets p.last l → h ≡ head_with p.in_head l → n ≡ name_with p.named p.last l →
    k ≡ (if is_new_rule p l then suc p.rules else p.rules) →
    o ≡ rule_kept (pred (length p.brackets)) p.named (rule_from p.rule (length p.brackets) l) l →
    progress_made b l h n k o ≡ progress_with p l
made_is p l b h n k o eb eh en ek eo =
    let fn = en ∙ name_is p l in
    let fo = eo ∙ rule_with_is p l in
    ap (λ (x : List Bracket). progress_made x l h n k o) eb
    ∙ (ap (λ (x : Bool). progress_made (brackets_with p.brackets p.last l) l x n k o) eh
    ∙ (ap (λ (x : Bool). progress_made (brackets_with p.brackets p.last l) l (head_with p.in_head l) x k o) fn
    ∙ (ap (λ (x : ℕ). progress_made (brackets_with p.brackets p.last l) l (head_with p.in_head l)
    (named_with p l) x o) ek
    ∙ ap (λ (x : Option Counts). progress_made (brackets_with p.brackets p.last l) l (head_with p.in_head l)
    (named_with p l)
    (if is_new_rule p l then suc p.rules else p.rules) x) fo)))
