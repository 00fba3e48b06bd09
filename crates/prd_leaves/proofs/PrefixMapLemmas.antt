-- A map's entries as prefixes: what is found in them and put into them.
use Rattle.std.proofs.Common.{◌≡◌, ◌∙◌, ap, refl, ℕ, true, false, cond, List, [], ◌∷◌, Some, None}
use Rattle.std.specs.Prelude.{bytes_eq}
use Rattle.std.specs.Cmp.Lexicographic.{nat_list_eq_equiv}
use Rattle.std.specs.Map.{lookup}
use Rattle.std.specs.declared.option.Option.{Option}
use Rattle.indexmap.specs.IndexMap.{insert_entry}
use Rattle.prd_grammar.specs.Prefixes.{Prefixes, meaning_beforehand, meaning_in, with_prefix}

-- what was found, or what stands for the name beforehand
abbrev or_beforehand : List ℕ → Option (List ℕ) → Option (List ℕ)
or_beforehand name None = meaning_beforehand name
or_beforehand name (Some iri) = Some iri

turned : (a b : List ℕ) → bytes_eq a b ≡ bytes_eq b a
turned a b = nat_list_eq_equiv.symm a b

pub meaning_is : (entries : Prefixes) (name : List ℕ) →
    meaning_in entries name ≡ or_beforehand name (lookup (bytes_eq name) entries)
meaning_is [] name = refl
meaning_is (entry ∷ more) name =
    rw (turned entry.0 name, meaning_is more name)
    (elim (bytes_eq name entry.0) as (λ v. cond v (Some entry.1) (or_beforehand name (lookup (bytes_eq name) more))
    ≡ or_beforehand name (cond v (Some entry.1) (lookup (bytes_eq name) more))) [ true ↦ refl | false ↦ refl ])

pub declared_is : (entries : Prefixes) (name iri : List ℕ) → insert_entry bytes_eq entries name iri
    ≡ with_prefix entries name iri
declared_is [] name iri = refl
declared_is (entry ∷ more) name iri =
    rw (turned name entry.0)
    (ap (λ (es : Prefixes). cond (bytes_eq entry.0 name) ((entry.0, iri) ∷ more) (entry ∷ es))
    (declared_is more name iri))

pub meaning_found : (entries : Prefixes) (name iri : List ℕ) → lookup (bytes_eq name) entries ≡ Some iri →
    meaning_in entries name ≡ Some iri
meaning_found entries name iri found = meaning_is entries name ∙ ap (or_beforehand name) found

pub meaning_missed : (entries : Prefixes) (name : List ℕ) → lookup (bytes_eq name) entries ≡ None →
    meaning_in entries name ≡ meaning_beforehand name
meaning_missed entries name missed = meaning_is entries name ∙ ap (or_beforehand name) missed
