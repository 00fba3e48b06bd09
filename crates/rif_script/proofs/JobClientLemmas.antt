-- The clients' names of a job have their form and differ.
use Rattle.std.proofs.Common.{◌≡◌, ◌<◌, ℕ, zero, suc, Bool, true, false, cond, List, [], ◌∷◌, Some, None, Option}
use Rattle.std.proofs.Common.{length, refl, sym, ap, subst, arith}
use Rattle.std.specs.Prelude.{bytes_eq}
use Rattle.std.proofs.lemmas.Slice.Eq.{bytes_eq-Decides}
use Rattle.prd_grammar.specs.Prefixes.{Prefixes}
use Rattle.rif_tree.specs.Rules.{name_of}
use Rattle.session_states.specs.declared.item.Item.{Item}
use Rattle.rif_script.specs.JobClients.{JobsHaveClients}
use Rattle.rif_script.specs.Jobs.{AreLines, is_client_name, names_of, names_without, script_lines, sent_by}
use Rattle.rif_script.proofs.ScriptReadingLemmas.{script_clients}

-- the name is none of these
abbrev IsApart : List ℕ → List (List ℕ) → Type 0
IsApart name [] = Unit {0}
IsApart name (other ∷ names) = (bytes_eq name other ≡ false) × IsApart name names

-- the names differ
abbrev AreApart : List (List ℕ) → Type 0
AreApart [] = Unit {0}
AreApart (name ∷ names) = IsApart name names × AreApart names

-- the names have the form of a client's name
abbrev AreFormed : List (List ℕ) → Type 0
AreFormed [] = Unit {0}
AreFormed (name ∷ names) = (is_client_name name ≡ true) × AreFormed names

apart_where : (name other : List ℕ) (kept : List (List ℕ)) (b : Bool) → IsApart name kept →
    (b ≡ false → bytes_eq name other ≡ false) → IsApart name (cond b kept (other ∷ kept))
apart_where name other kept true apart differs = apart
apart_where name other kept false apart differs = (differs refl, apart)

apart_without : (name left_out : List ℕ) (names : List (List ℕ)) → IsApart name names →
    IsApart name (names_without left_out names)
apart_without name left_out [] apart = tt
apart_without name left_out (other ∷ names) apart =
    apart_where name other (names_without left_out names) (bytes_eq left_out other)
    (apart_without name left_out names apart.1) (λ is. apart.0)

apart_from_rest : (name : List ℕ) (names : List (List ℕ)) → IsApart name (names_without name names)
apart_from_rest name [] = tt
apart_from_rest name (other ∷ names) =
    apart_where name other (names_without name names) (bytes_eq name other) (apart_from_rest name names) (λ is. is)

all_where : (other : List ℕ) (kept : List (List ℕ)) (b : Bool) → AreApart kept → IsApart other kept →
    AreApart (cond b kept (other ∷ kept))
all_where other kept true apart new = apart
all_where other kept false apart new = (new, apart)

all_without : (name : List ℕ) (names : List (List ℕ)) → AreApart names → AreApart (names_without name names)
all_without name [] apart = tt
all_without name (other ∷ names) apart =
    all_where other (names_without name names) (bytes_eq name other) (all_without name names apart.1)
    (apart_without other name names apart.0)

names_apart : (sent : List (List ℕ × Item)) → AreApart (names_of sent)
names_apart [] = tt
names_apart (one ∷ more) =
    (apart_from_rest one.0 (names_of more), all_without one.0 (names_of more) (names_apart more))

formed_where : (other : List ℕ) (kept : List (List ℕ)) (b : Bool) → is_client_name other ≡ true → AreFormed kept →
    AreFormed (cond b kept (other ∷ kept))
formed_where other kept true is formed = formed
formed_where other kept false is formed = (is, formed)

formed_without : (name : List ℕ) (names : List (List ℕ)) → AreFormed names → AreFormed (names_without name names)
formed_without name [] formed = tt
formed_without name (other ∷ names) formed =
    formed_where other (names_without name names) (bytes_eq name other) formed.0 (formed_without name names formed.1)

names_formed : (prefixes : Prefixes) (lines : List (List ℕ)) (given : List (Option (List ℕ × Item))) →
    AreLines prefixes lines given → AreFormed (names_of (sent_by given))
names_formed prefixes [] [] are = tt
names_formed prefixes (line ∷ lines) (None ∷ more) are = names_formed prefixes lines more are.1
names_formed prefixes (line ∷ lines) (Some one ∷ more) are =
    (are.0.1.form.name, formed_without one.0 (names_of (sent_by more)) (names_formed prefixes lines more are.1))
names_formed prefixes [] (given ∷ more) are = absurd are
names_formed prefixes (line ∷ lines) [] are = absurd are

formed_at : (names : List (List ℕ)) (i : ℕ) → AreFormed names → i < length names →
    is_client_name (name_of names i) ≡ true
formed_at [] i formed lt = absurd (omega arith)
formed_at (name ∷ names) zero formed lt = formed.0
formed_at (name ∷ names) (suc i) formed lt = formed_at names i formed.1 (omega arith)

apart_at : (name : List ℕ) (names : List (List ℕ)) (i : ℕ) → IsApart name names → i < length names →
    name ≡ name_of names i → ⊥
apart_at name [] i apart lt same = absurd (omega arith)
apart_at name (other ∷ names) zero apart lt same =
    let equal = (bytes_eq-Decides name other).1 same in
    let differ = apart.0 in
    absurd (cc)
apart_at name (other ∷ names) (suc i) apart lt same = apart_at name names i apart.1 (omega arith) same

distinct_at : (names : List (List ℕ)) (i j : ℕ) → AreApart names → i < length names → j < length names →
    name_of names i ≡ name_of names j → i ≡ j
distinct_at [] i j apart lt lt' same = absurd (omega arith)
distinct_at (name ∷ names) zero zero apart lt lt' same = refl
distinct_at (name ∷ names) zero (suc j) apart lt lt' same =
    absurd (apart_at name names j apart.0 (omega arith) same)
distinct_at (name ∷ names) (suc i) zero apart lt lt' same =
    absurd (apart_at name names i apart.0 (omega arith) (sym same))
distinct_at (name ∷ names) (suc i) (suc j) apart lt lt' same =
    ap suc (distinct_at names i j apart.1 (omega arith) (omega arith) same)

pub jobs_have_clients : JobsHaveClients
jobs_have_clients bytes job is =
    let same = sym is.1.script.clients in
    let formed = subst AreFormed same
    (names_formed is.1.prefixes (script_lines bytes) is.1.script.given is.1.script.lines_are) in
    let apart = subst AreApart same (names_apart (sent_by is.1.script.given)) in (
      record {
        formed = λ i lt. formed_at job.names i formed lt;
        distinct = λ i j lt lt' same_name. distinct_at job.names i j apart lt lt' same_name;
      },
      script_clients is.1.prefixes (script_lines bytes) job.names job.items is.1.script,
    )
