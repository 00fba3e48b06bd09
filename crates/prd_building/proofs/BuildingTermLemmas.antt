-- Terms, pairs and variables that are spelled are built to their values.
use Rattle.std.proofs.Common.{◌≡◌, ℕ, ◌<◌, ◌≤◌, zero, suc, Bool, true, false, List, [], ◌∷◌, ◌++◌, length}
use Rattle.std.proofs.Common.{length-append, Some, refl, ap, ◌∙◌, append_assoc, arith, drop}
use Rattle.prd_grammar.specs.declared.leaf.Leaf.{Leaf}
use Rattle.prd_grammar.specs.declared.leaf.Leaf.TheVariants.{Close, CloseSquare, Arrow}
use Rattle.prd_grammar.specs.Trees.{ConstTree, const_int, const_string, const_typed, const_iri, const_curie}
use Rattle.prd_grammar.specs.Trees.{const_local, const_true, const_false, spell_const, FuncTree, func_known}
use Rattle.prd_grammar.specs.Trees.{func_unknown, func_undeclared, TermTree, constant, variable, call, TermTrees}
use Rattle.prd_grammar.specs.Trees.{no_terms, terms, spell_term, spell_terms, PairTrees, last_pair, pairs}
use Rattle.prd_grammar.specs.Trees.{spell_pairs}
use Rattle.prd_grammar.specs.Trees.{Vars, one_var, more_vars, spell_vars}
use Rattle.prd_grammar.specs.Values.{place_of, func_value, term_value, terms_value, pairs_value, vars_value}
use Rattle.prd_building.specs.Signs.{closes, closes_square, ends_vars}
use Rattle.prd_building.specs.Building.{Read, Names, after, with_front, items_at, called, term_at, terms_at, pair_at}
use Rattle.prd_building.specs.Building.{var_at}
use Rattle.prd_building.proofs.BuildingLists.{items_on}

-- an item, and then more
pub items_more : {X : Type 0} (ends : List Leaf → Bool) (item : List Leaf →
    Read X) (n : ℕ) (ss mid rest : List Leaf) (x : X) (xs : List X) → ends ss ≡ false →
    item ss ≡ Some (x, mid) → items_at ends item n mid ≡ Some (xs, rest) →
    items_at ends item (suc n) ss ≡ Some (x ∷ xs, rest)
items_more ends item n ss mid rest x xs un one more =
    items_on ends item n (suc n) ss refl un
    ∙ (ap (λ r. after r (λ y left. with_front (y ∷ []) (items_at ends item n left))) one
    ∙ ap (with_front (x ∷ [])) more)

-- a term begins with no bracket that closes, and with some leaf
pub term_begins : (t : TermTree) (rest : List Leaf) → closes (spell_term t ++ rest) ≡ false
term_begins (constant (const_int z)) rest = refl
term_begins (constant (const_string s)) rest = refl
term_begins (constant (const_typed l known)) rest = refl
term_begins (constant (const_iri s)) rest = refl
term_begins (constant (const_curie s)) rest = refl
term_begins (constant (const_local s)) rest = refl
term_begins (constant const_true) rest = refl
term_begins (constant const_false) rest = refl
term_begins (variable v) rest = refl
term_begins (call f ts) rest = refl

pub term_opens : (t : TermTree) (rest : List Leaf) → closes_square (spell_term t ++ rest) ≡ false
term_opens (constant (const_int z)) rest = refl
term_opens (constant (const_string s)) rest = refl
term_opens (constant (const_typed l known)) rest = refl
term_opens (constant (const_iri s)) rest = refl
term_opens (constant (const_curie s)) rest = refl
term_opens (constant (const_local s)) rest = refl
term_opens (constant const_true) rest = refl
term_opens (constant const_false) rest = refl
term_opens (variable v) rest = refl
term_opens (call f ts) rest = refl

pub const_some : (c : ConstTree) → 1 ≤ length (spell_const c)
const_some (const_int z) = omega arith
const_some (const_string s) = omega arith
const_some (const_typed l known) = omega arith
const_some (const_iri s) = omega arith
const_some (const_curie s) = omega arith
const_some (const_local s) = omega arith
const_some const_true = omega arith
const_some const_false = omega arith

pub term_some : (t : TermTree) → 1 ≤ length (spell_term t)
term_some (constant c) = const_some c
term_some (variable v) = omega arith
term_some (call f ts) = omega arith

pub const_built : (names : Names) (n : ℕ) (c : ConstTree) (rest : List Leaf) →
    term_at names (suc n) (spell_const c ++ rest) ≡ Some (term_value names (constant c), rest)
const_built names n (const_int z) rest = refl
const_built names n (const_string s) rest = refl
const_built names n (const_typed l known) rest = refl
const_built names n (const_iri s) rest = refl
const_built names n (const_curie s) rest = refl
const_built names n (const_local s) rest = refl
const_built names n const_true rest = refl
const_built names n const_false rest = refl

-- the leaves of a call with what follows
call_step : (names : Names) (n : ℕ) (f : FuncTree) (ts : TermTrees) (rest : List Leaf) →
    term_at names (suc n) (spell_term (call f ts) ++ rest)
    ≡ after (terms_at names n ((spell_terms ts ++ Close ∷ []) ++ rest)) (called (func_value f))
call_step names n (func_known f) ts rest = refl
call_step names n func_unknown ts rest = refl
call_step names n func_undeclared ts rest = refl

-- with so many steps for the list, and so many for each of its terms
mutual
  pub term_built : (names : Names) (t : TermTree) (n : ℕ) (rest : List Leaf) → length (spell_term t) ≤ n →
      term_at names n (spell_term t ++ rest) ≡ Some (term_value names t, rest)
  term_built names (constant c) zero rest h = absurd (omega (arith, const_some c))
  term_built names (constant c) (suc n) rest h = const_built names n c rest
  term_built names (variable v) zero rest h = absurd (omega arith)
  term_built names (variable v) (suc n) rest h = refl
  term_built names (call f ts) zero rest h = absurd (omega arith)
  term_built names (call f ts) (suc n) rest h =
      let k = length-append (spell_terms ts) (Close ∷ []) in
      call_step names n f ts rest ∙ ap (λ r. after r (called (func_value f)))
      (ap (terms_at names n) (append_assoc (spell_terms ts) (Close ∷ []) rest)
      ∙ terms_built names ts n n (Close ∷ rest) (omega arith) (omega arith))

  -- before the bracket that closes them
  pub terms_built : (names : Names) (ts : TermTrees) (n most : ℕ) (rest : List Leaf) → length (spell_terms ts) ≤ n →
      length (spell_terms ts) ≤ most →
      items_at closes (term_at names most) n (spell_terms ts ++ rest) ≡ Some (terms_value names ts, Close ∷ rest)
  terms_built names no_terms zero most rest h i = absurd (omega arith)
  terms_built names no_terms (suc n) most rest h i = refl
  terms_built names (terms t ts) zero most rest h i =
      absurd (let k = length-append (spell_term t) (spell_terms ts) in let s = term_some t in omega arith)
  terms_built names (terms t ts) (suc n) most rest h i =
      let k = length-append (spell_term t) (spell_terms ts) in
      let s = term_some t in
      ap (items_at closes (term_at names most) (suc n)) (append_assoc (spell_term t) (spell_terms ts) rest)
      ∙ items_more closes (term_at names most) n (spell_term t ++ (spell_terms ts ++ rest)) (spell_terms ts ++ rest)
      (Close ∷ rest) (term_value names t) (terms_value names ts)
      (term_begins t (spell_terms ts ++ rest)) (term_built names t most (spell_terms ts ++ rest) (omega arith))
      (terms_built names ts n most rest (omega arith) (omega arith))

pub pair_built : (names : Names) (s v : TermTree) (most : ℕ) (rest : List Leaf) → length (spell_term s) ≤ most →
    length (spell_term v) ≤ most →
    pair_at names most (spell_term s ++ Arrow ∷ (spell_term v ++ rest))
    ≡ Some ((term_value names s, term_value names v), rest)
pair_built names s v most rest h i =
    ap (λ r. after r (λ x left. after (term_at names most (drop 1 left)) (λ y more. Some ((x, y), more))))
    (term_built names s most (Arrow ∷ (spell_term v ++ rest)) h)
    ∙ ap (λ r. after r (λ y more. Some ((term_value names s, y), more))) (term_built names v most rest i)

-- before the square bracket that closes them
pub pairs_built : (names : Names) (ps : PairTrees) (n most : ℕ) (rest : List Leaf) → length (spell_pairs ps) ≤ n →
    length (spell_pairs ps) ≤ most →
    items_at closes_square (pair_at names most) n (spell_pairs ps ++ rest)
    ≡ Some (pairs_value names ps, CloseSquare ∷ rest)
pairs_built names (last_pair s v) zero most rest h i =
    absurd (let k = length-append (spell_term s) (Arrow ∷ (spell_term v ++ CloseSquare ∷ [])) in omega arith)
pairs_built names (last_pair s v) (suc zero) most rest h i =
    absurd (let k = length-append (spell_term s) (Arrow ∷ (spell_term v ++ CloseSquare ∷ [])) in let l =
    term_some s in omega arith)
pairs_built names (last_pair s v) (suc (suc n)) most rest h i =
    let k = length-append (spell_term s) (Arrow ∷ (spell_term v ++ CloseSquare ∷ [])) in
    let l = length-append (spell_term v) (CloseSquare ∷ []) in
    ap (items_at closes_square (pair_at names most) (suc (suc n)))
    (append_assoc (spell_term s) (Arrow ∷ (spell_term v ++ CloseSquare ∷ [])) rest
    ∙ ap (λ more. spell_term s ++ Arrow ∷ more) (append_assoc (spell_term v) (CloseSquare ∷ []) rest))
    ∙ items_more closes_square (pair_at names most) (suc n)
    (spell_term s ++ Arrow ∷ (spell_term v ++ CloseSquare ∷ rest)) (CloseSquare ∷ rest) (CloseSquare ∷ rest)
    (term_value names s, term_value names v) []
    (term_opens s (Arrow ∷ (spell_term v ++ CloseSquare ∷ rest)))
    (pair_built names s v most (CloseSquare ∷ rest) (omega arith) (omega arith)) refl
pairs_built names (pairs s v ps) zero most rest h i =
    absurd (let k = length-append (spell_term s) (Arrow ∷ (spell_term v ++ spell_pairs ps)) in omega arith)
pairs_built names (pairs s v ps) (suc n) most rest h i =
    let k = length-append (spell_term s) (Arrow ∷ (spell_term v ++ spell_pairs ps)) in
    let l = length-append (spell_term v) (spell_pairs ps) in
    ap (items_at closes_square (pair_at names most) (suc n))
    (append_assoc (spell_term s) (Arrow ∷ (spell_term v ++ spell_pairs ps)) rest
    ∙ ap (λ more. spell_term s ++ Arrow ∷ more) (append_assoc (spell_term v) (spell_pairs ps) rest))
    ∙ items_more closes_square (pair_at names most) n
    (spell_term s ++ Arrow ∷ (spell_term v ++ (spell_pairs ps ++ rest))) (spell_pairs ps ++ rest)
    (CloseSquare ∷ rest)
    (term_value names s, term_value names v) (pairs_value names ps)
    (term_opens s (Arrow ∷ (spell_term v ++ (spell_pairs ps ++ rest))))
    (pair_built names s v most (spell_pairs ps ++ rest) (omega arith) (omega arith))
    (pairs_built names ps n most rest (omega arith) (omega arith))

-- before a leaf that is no variable
pub vars_built : (names : Names) (vs : Vars) (n : ℕ) (rest : List Leaf) → length (spell_vars vs) < n →
    ends_vars rest ≡ true →
    items_at ends_vars (var_at names) n (spell_vars vs ++ rest) ≡ Some (vars_value names vs, rest)
vars_built names (one_var v) zero rest h e = absurd (omega arith)
vars_built names (one_var v) (suc zero) rest h e = absurd (omega arith)
vars_built names (one_var v) (suc (suc n)) rest h e = rw e refl
vars_built names (more_vars v vs) zero rest h e = absurd (omega arith)
vars_built names (more_vars v vs) (suc n) rest h e =
    ap (with_front (place_of names v ∷ [])) (vars_built names vs n rest (omega arith) e)
