-- Strings and IRIs as they are written are read back.
use Rattle.std.proofs.Common.{◌≡◌, ℕ, ◌-◌, ◌==◌, Bool, true, false, List, [], ◌∷◌, ◌++◌, length, take, refl, ap, ◌∙◌}
use Rattle.std.proofs.Common.{sym, arith, length-append}
use Rattle.std.proofs.lemmas.Bool.{eqb-true}
use Rattle.std.proofs.lemmas.List.{take_at}
use Rattle.std.specs.List.{flat_map}
use Rattle.rif_values.specs.Writing.{escaped, const_text}
use Rattle.rif_values.specs.declared.constant.Const.TheVariants.{Str, Iri}
use Rattle.prd_leaves.specs.Leaves.{inner}
use Rattle.prd_leaves.specs.Literals.{unescaped, unescaped_from}

-- what stands between the first and the last byte
pub inner_is : (b c : ℕ) (t : List ℕ) → inner (b ∷ (t ++ c ∷ [])) ≡ t
inner_is b c t =
    let long : length (b ∷ (t ++ c ∷ [])) - 2 ≡ length t = omega (arith, length-append t (c ∷ [])) in
    ap (λ (n : ℕ). take n (t ++ c ∷ [])) long ∙ take_at t (c ∷ []) (length t) refl

unescaped_by : (b : ℕ) (rest : List ℕ) (quote backslash feed tab return : Bool) → (b == 34) ≡ quote →
    (b == 92) ≡ backslash → (b == 10) ≡ feed → (b == 9) ≡ tab → (b == 13) ≡ return →
    unescaped_from false (escaped b ++ rest) ≡ b ∷ unescaped_from false rest
unescaped_by b rest true k f t r d e g h i =
    rw d (ap (λ (x : ℕ). x ∷ unescaped_from false rest) (sym (eqb-true b 34 d)))
unescaped_by b rest false true f t r d e g h i =
    rw (d, e) (ap (λ (x : ℕ). x ∷ unescaped_from false rest) (sym (eqb-true b 92 e)))
unescaped_by b rest false false true t r d e g h i =
    rw (d, e, g) (ap (λ (x : ℕ). x ∷ unescaped_from false rest) (sym (eqb-true b 10 g)))
unescaped_by b rest false false false true r d e g h i =
    rw (d, e, g, h) (ap (λ (x : ℕ). x ∷ unescaped_from false rest) (sym (eqb-true b 9 h)))
unescaped_by b rest false false false false true d e g h i =
    rw (d, e, g, h, i) (ap (λ (x : ℕ). x ∷ unescaped_from false rest) (sym (eqb-true b 13 i)))
unescaped_by b rest false false false false false d e g h i = rw (d, e, g, h, i, e) refl

pub unescaped_is : (t : List ℕ) → unescaped (flat_map escaped t) ≡ t
unescaped_is [] = refl
unescaped_is (b ∷ bs) =
    unescaped_by b (flat_map escaped bs) (b == 34) (b == 92) (b == 10) (b == 9) (b == 13) refl refl refl refl refl
    ∙ ap (λ (x : List ℕ). b ∷ x) (unescaped_is bs)

pub string_is : (t : List ℕ) → unescaped (inner (const_text (Str t))) ≡ t
string_is t = ap unescaped (inner_is 34 34 (flat_map escaped t)) ∙ unescaped_is t

pub iri_is : (t : List ℕ) → inner (const_text (Iri t)) ≡ t
iri_is t = inner_is 60 62 t
