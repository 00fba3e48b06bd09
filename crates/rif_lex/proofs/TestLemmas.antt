-- Choices by a test, and lengths that may be missing.
use Rattle.std.proofs.Common.{◌≡◌, ℕ, ◌+◌, suc, refl, ap, arith, true, false, cond, Bool, ◌==◌, ◌&&◌, ◌||◌, not, Some}
use Rattle.std.proofs.Common.{None}
use Rattle.std.proofs.lemmas.Bool.{eqb-true, not-true}
use Rattle.std.specs.declared.option.Option.{Option}
use Rattle.rif_lex.specs.declared.token.Kind.{Kind}
use Rattle.rif_lex.specs.declared.piece.Piece.TheVariants.{Lexeme}
use Rattle.rif_lex.specs.Pieces.{longer, blank_to}

-- a choice by a test, taken apart
pub by_test : {A P : Type 0} (test : Bool) (x y z : A) → cond test x y ≡ z → (test ≡ true → x ≡ z → P) →
    (test ≡ false → y ≡ z → P) → P
by_test true x y z e holds fails = holds refl e
by_test false x y z e holds fails = fails refl e

pub both : (s t : Bool) → s && t ≡ true → (s ≡ true) × (t ≡ true)
both true t e = (refl, e)
both false t e = cc

pub neither : (s t : Bool) → s || t ≡ false → (s ≡ false) × (t ≡ false)
neither true t e = cc
neither false t e = (refl, e)

pub both_not : (s t : Bool) → not s && not t ≡ true → (s ≡ false) × (t ≡ false)
both_not true t e = cc
both_not false t e = (refl, not-true t e)

-- a byte for which a test says what it doesn't say for another
pub differs : (p : ℕ → Bool) (b c : ℕ) → p b ≡ true → p c ≡ false → (b == c) ≡ false
differs p b c holds never = elim (b == c) as (λ v. (b == c) ≡ v → v ≡ false) [
  | true ↦ λ same. (let e : b ≡ c = eqb-true b c same in let f = ap p e in cc)
  | false ↦ λ _. refl
] refl

-- a length that is one more than another
pub longer_one : (o : Option ℕ) (n : ℕ) → longer 1 o ≡ Some n → (m : ℕ) × (o ≡ Some m) × (n ≡ suc m)
longer_one None n e = cc
longer_one (Some m) n e = (m, refl, (let k : 1 + m ≡ n = cc in omega arith))

-- what is passed over is no token
pub no_lexeme : {P : Type 0} (k : Kind) (n : ℕ) (end : Option ℕ) → blank_to end ≡ Lexeme k n → P
no_lexeme k n None e = cc
no_lexeme k n (Some m) e = cc
