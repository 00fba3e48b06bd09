-- What has still to come behind two parts, and behind a leaf that can't come.
use Rattle.std.proofs.Common.{◌≡◌, refl, ap, List, [], ◌∷◌, ◌++◌, None, append_assoc}
use Rattle.std.specs.declared.option.Option.{Option}
use Rattle.prd_grammar.specs.declared.leaf.Leaf.{Leaf}
use Rattle.prd_recognition.specs.declared.want.Want.{Want}
use Rattle.prd_recognition.specs.Following.{after, step}

pub after_append : (s : Option (List Want)) (xs ys : List Leaf) → after s (xs ++ ys) ≡ after (after s xs) ys
after_append s [] ys = refl
after_append s (x ∷ xs) ys = after_append (step s x) xs ys

pub after_none : (ls : List Leaf) → after None ls ≡ None
after_none [] = refl
after_none (l ∷ ls) = after_none ls

-- a spelling of two parts, and what stands behind it
pub after_parts : (s : Option (List Want)) (xs ys rest : List Leaf) →
    after s ((xs ++ ys) ++ rest) ≡ after s (xs ++ (ys ++ rest))
after_parts s xs ys rest = ap (after s) (append_assoc xs ys rest)
