-- Levels and rules that are spelled are built to their values.
use Rattle.std.proofs.Common.{◌≡◌, ℕ, ◌+◌, ◌<◌, ◌≤◌, zero, suc, ℤ, true, false, List, [], ◌∷◌, ◌++◌, length}
use Rattle.std.proofs.Common.{length-append, Some, None, refl, ap, ◌∙◌, sym, append_assoc, add-one, arith, drop}
use Rattle.std.proofs.lemmas.List.{drop-drop}
use Rattle.prd_grammar.specs.declared.leaf.Keyword.TheVariants.{Forall, Such, That, Then, Do}
use Rattle.prd_grammar.specs.declared.leaf.Leaf.{Leaf}
use Rattle.prd_grammar.specs.declared.leaf.Leaf.TheVariants.{Key, Open, Close}
use Rattle.prd_grammar.specs.Trees.{const_int, const_string, const_typed, const_iri, const_curie, const_local}
use Rattle.prd_grammar.specs.Trees.{const_true, const_false, name_iri, name_curie, name_local, name_typed_iri}
use Rattle.prd_grammar.specs.Trees.{name_typed_local, Vars, spell_vars, spelled_not, spelled_ineg, first_constant}
use Rattle.prd_grammar.specs.Trees.{first_variable, first_call, FormulaTree, conj, disj, neg, some, grouped, holds}
use Rattle.prd_grammar.specs.Trees.{compared, atom, spell_formula, BlockTree, spell_block, SuchTrees, last_such}
use Rattle.prd_grammar.specs.Trees.{more_such, spell_such, RuleTree, for_all, for_all_such, if_then, block}
use Rattle.prd_grammar.specs.Trees.{spell_rule}
use Rattle.prd_grammar.specs.Values.{vars_value, formula_value, block_decls, block_actions, such_value, level_of}
use Rattle.prd_grammar.specs.Values.{rule_levels, rule_condition, rule_block, rule_names, rule_value}
use Rattle.prd_building.specs.Signs.{ends_such, ends_levels, begins_rule}
use Rattle.prd_building.specs.Building.{Names, after, items_at, formula_at, block_at, body_of, conditional_at}
use Rattle.prd_building.specs.Building.{unconditional_at, body_at, level_behind, level_at, parts_at, rule_of, rule_at}
use Rattle.prd_building.proofs.BuildingTermLemmas.{items_more, vars_built}
use Rattle.prd_building.proofs.BuildingFormulaLemmas.{formula_built, formula_some}
use Rattle.prd_building.proofs.BuildingActionLemmas.{block_built}

-- a formula begins with no word that begins a rule
no_rule : (f : FormulaTree) (rest : List Leaf) → begins_rule (spell_formula f ++ rest) ≡ false
no_rule (conj fs) rest = refl
no_rule (disj fs) rest = refl
no_rule (neg spelled_not f) rest = refl
no_rule (neg spelled_ineg f) rest = refl
no_rule (some vs f) rest = refl
no_rule (grouped f) rest = refl
no_rule (holds p ts) rest = refl
no_rule (compared (first_constant (const_int z)) tail) rest = refl
no_rule (compared (first_constant (const_string s)) tail) rest = refl
no_rule (compared (first_constant (const_typed l known)) tail) rest = refl
no_rule (compared (first_constant (const_iri s)) tail) rest = refl
no_rule (compared (first_constant (const_curie s)) tail) rest = refl
no_rule (compared (first_constant (const_local s)) tail) rest = refl
no_rule (compared (first_constant const_true) tail) rest = refl
no_rule (compared (first_constant const_false) tail) rest = refl
no_rule (compared (first_variable v) tail) rest = refl
no_rule (compared (first_call f ts) tail) rest = refl
no_rule (atom (name_iri s) ts) rest = refl
no_rule (atom (name_curie s) ts) rest = refl
no_rule (atom (name_local s) ts) rest = refl
no_rule (atom (name_typed_iri s known) ts) rest = refl
no_rule (atom (name_typed_local s known) ts) rest = refl

no_inner : (f : FormulaTree) (rest : List Leaf) → ends_such (spell_formula f ++ rest) ≡ false
no_inner (conj fs) rest = refl
no_inner (disj fs) rest = refl
no_inner (neg spelled_not f) rest = refl
no_inner (neg spelled_ineg f) rest = refl
no_inner (some vs f) rest = refl
no_inner (grouped f) rest = ap begins_rule (append_assoc (spell_formula f) (Close ∷ []) rest)
    ∙ no_rule f (Close ∷ rest)
no_inner (holds p ts) rest = refl
no_inner (compared (first_constant (const_int z)) tail) rest = refl
no_inner (compared (first_constant (const_string s)) tail) rest = refl
no_inner (compared (first_constant (const_typed l known)) tail) rest = refl
no_inner (compared (first_constant (const_iri s)) tail) rest = refl
no_inner (compared (first_constant (const_curie s)) tail) rest = refl
no_inner (compared (first_constant (const_local s)) tail) rest = refl
no_inner (compared (first_constant const_true) tail) rest = refl
no_inner (compared (first_constant const_false) tail) rest = refl
no_inner (compared (first_variable v) tail) rest = refl
no_inner (compared (first_call f ts) tail) rest = refl
no_inner (atom (name_iri s) ts) rest = refl
no_inner (atom (name_curie s) ts) rest = refl
no_inner (atom (name_local s) ts) rest = refl
no_inner (atom (name_typed_iri s known) ts) rest = refl
no_inner (atom (name_typed_local s known) ts) rest = refl

-- before the inner rule's bracket
such_built : (names : Names) (fs : SuchTrees) (n most : ℕ) (tail : List Leaf) → length (spell_such fs) ≤ n →
    length (spell_such fs) ≤ most → begins_rule tail ≡ true →
    items_at ends_such (formula_at names most) n (spell_such fs ++ tail) ≡ Some (such_value names fs, Open ∷ tail)
such_built names (last_such f) zero most tail h i e =
    absurd (let k = length-append (spell_formula f) (Open ∷ []) in omega arith)
such_built names (last_such f) (suc zero) most tail h i e =
    absurd (let k = length-append (spell_formula f) (Open ∷ []) in let s = formula_some f in omega arith)
such_built names (last_such f) (suc (suc n)) most tail h i e =
    let k = length-append (spell_formula f) (Open ∷ []) in
    ap (items_at ends_such (formula_at names most) (suc (suc n))) (append_assoc (spell_formula f) (Open ∷ []) tail)
    ∙ items_more ends_such (formula_at names most) (suc n) (spell_formula f ++ Open ∷ tail) (Open ∷ tail)
    (Open ∷ tail) (formula_value names f) []
    (no_inner f (Open ∷ tail)) (formula_built names f most (Open ∷ tail) (omega arith)) (rw e refl)
such_built names (more_such f fs) zero most tail h i e =
    absurd (let k = length-append (spell_formula f) (spell_such fs) in let s = formula_some f in omega arith)
such_built names (more_such f fs) (suc n) most tail h i e =
    let k = length-append (spell_formula f) (spell_such fs) in
    let s = formula_some f in
    ap (items_at ends_such (formula_at names most) (suc n)) (append_assoc (spell_formula f) (spell_such fs) tail)
    ∙ items_more ends_such (formula_at names most) n (spell_formula f ++ (spell_such fs ++ tail))
    (spell_such fs ++ tail) (Open ∷ tail) (formula_value names f) (such_value names fs)
    (no_inner f (spell_such fs ++ tail)) (formula_built names f most (spell_such fs ++ tail) (omega arith))
    (such_built names fs n most tail (omega arith) (omega arith) e)

level_built : (names : Names) (vs : Vars) (most : ℕ) (tail : List Leaf) → length (spell_vars vs) < most →
    level_at names most (Key Forall ∷ (spell_vars vs ++ Open ∷ tail)) ≡ Some (level_of (vars_value names vs) [], tail)
level_built names vs most tail h =
    ap (λ r. after r (level_behind names most)) (vars_built names vs most (Open ∷ tail) h refl)

such_level_built : (names : Names) (vs : Vars) (fs : SuchTrees) (most : ℕ) (tail : List Leaf) →
    length (spell_vars vs) < most → length (spell_such fs) ≤ most → begins_rule tail ≡ true →
    level_at names most (Key Forall ∷ (spell_vars vs ++ Key Such ∷ Key That ∷ (spell_such fs ++ tail)))
    ≡ Some (level_of (vars_value names vs) (such_value names fs), tail)
such_level_built names vs fs most tail h i e =
    ap (λ r. after r (level_behind names most))
    (vars_built names vs most (Key Such ∷ Key That ∷ (spell_such fs ++ tail)) h refl)
    ∙ ap (λ r. after r (λ gs more. Some (level_of (vars_value names vs) gs, drop 1 more)))
    (such_built names fs most most tail i i e)

rule_begins : (r : RuleTree) (rest : List Leaf) → begins_rule (spell_rule r ++ rest) ≡ true
rule_begins (for_all vs r) rest = refl
rule_begins (for_all_such vs fs r) rest = refl
rule_begins (if_then f b) rest = refl
rule_begins (block b) rest = refl

-- what the levels are around, and the brackets that close them
abbrev inner_leaves : RuleTree → List Leaf
inner_leaves (for_all vs r) = inner_leaves r
inner_leaves (for_all_such vs fs r) = inner_leaves r
inner_leaves (if_then f b) = spell_rule (if_then f b)
inner_leaves (block b) = spell_rule (block b)

abbrev closing : RuleTree → List Leaf → List Leaf
closing (for_all vs r) rest = closing r (Close ∷ rest)
closing (for_all_such vs fs r) rest = closing r (Close ∷ rest)
closing (if_then f b) rest = rest
closing (block b) rest = rest

plain_length : (vs : Vars) (r : RuleTree) →
    length (spell_rule (for_all vs r)) ≡ length (spell_vars vs) + length (spell_rule r) + 3
plain_length vs r =
    let k = length-append (spell_vars vs) (Open ∷ (spell_rule r ++ Close ∷ [])) in
    let l = length-append (spell_rule r) (Close ∷ []) in
    omega arith

such_length : (vs : Vars) (fs : SuchTrees) (r : RuleTree) →
    length (spell_rule (for_all_such vs fs r))
    ≡ length (spell_vars vs) + length (spell_such fs) + length (spell_rule r) + 4
such_length vs fs r =
    let k = length-append (spell_vars vs) (Key Such ∷ Key That ∷ (spell_such fs ++ (spell_rule r ++ Close ∷ []))) in
    let l = length-append (spell_such fs) (spell_rule r ++ Close ∷ []) in
    let m = length-append (spell_rule r) (Close ∷ []) in
    omega arith

plain_spelled : (vs : Vars) (r : RuleTree) (rest : List Leaf) →
    spell_rule (for_all vs r) ++ rest ≡ Key Forall ∷ (spell_vars vs ++ Open ∷ (spell_rule r ++ Close ∷ rest))
plain_spelled vs r rest = ap (λ more. Key Forall ∷ more)
    (append_assoc (spell_vars vs) (Open ∷ (spell_rule r ++ Close ∷ [])) rest
    ∙ ap (λ more. spell_vars vs ++ Open ∷ more) (append_assoc (spell_rule r) (Close ∷ []) rest))

such_spelled : (vs : Vars) (fs : SuchTrees) (r : RuleTree) (rest : List Leaf) →
    spell_rule (for_all_such vs fs r) ++ rest
    ≡ Key Forall ∷ (spell_vars vs ++ Key Such ∷ Key That ∷ (spell_such fs ++ (spell_rule r ++ Close ∷ rest)))
such_spelled vs fs r rest = ap (λ more. Key Forall ∷ more)
    (append_assoc (spell_vars vs) (Key Such ∷ Key That ∷ (spell_such fs ++ (spell_rule r ++ Close ∷ []))) rest
    ∙ ap (λ more. spell_vars vs ++ Key Such ∷ Key That ∷ more)
    (append_assoc (spell_such fs) (spell_rule r ++ Close ∷ []) rest
    ∙ ap (λ more. spell_such fs ++ more) (append_assoc (spell_rule r) (Close ∷ []) rest)))

levels_built : (names : Names) (r : RuleTree) (n most : ℕ) (rest : List Leaf) → length (spell_rule r) ≤ n →
    length (spell_rule r) ≤ most →
    items_at ends_levels (level_at names most) n (spell_rule r ++ rest)
    ≡ Some (rule_levels names r, inner_leaves r ++ closing r rest)
levels_built names (for_all vs r) zero most rest h i = absurd (omega arith)
levels_built names (for_all vs r) (suc n) most rest h i =
    let k = plain_length vs r in
    ap (items_at ends_levels (level_at names most) (suc n)) (plain_spelled vs r rest)
    ∙ items_more ends_levels (level_at names most) n
    (Key Forall ∷ (spell_vars vs ++ Open ∷ (spell_rule r ++ Close ∷ rest))) (spell_rule r ++ Close ∷ rest)
    (inner_leaves r ++ closing r (Close ∷ rest))
    (level_of (vars_value names vs) []) (rule_levels names r) refl
    (level_built names vs most (spell_rule r ++ Close ∷ rest) (omega arith))
    (levels_built names r n most (Close ∷ rest) (omega arith) (omega arith))
levels_built names (for_all_such vs fs r) zero most rest h i = absurd (omega arith)
levels_built names (for_all_such vs fs r) (suc n) most rest h i =
    let k = such_length vs fs r in
    ap (items_at ends_levels (level_at names most) (suc n)) (such_spelled vs fs r rest)
    ∙ items_more ends_levels (level_at names most) n
    (Key Forall ∷ (spell_vars vs ++ Key Such ∷ Key That ∷ (spell_such fs ++ (spell_rule r ++ Close ∷ rest))))
    (spell_rule r ++ Close ∷ rest)
    (inner_leaves r ++ closing r (Close ∷ rest)) (level_of (vars_value names vs) (such_value names fs))
    (rule_levels names r) refl
    (such_level_built names vs fs most (spell_rule r ++ Close ∷ rest) (omega arith) (omega arith)
    (rule_begins r (Close ∷ rest))) (levels_built names r n most (Close ∷ rest) (omega arith) (omega arith))
levels_built names (if_then f b) zero most rest h i = absurd (omega arith)
levels_built names (if_then f b) (suc n) most rest h i = refl
levels_built names (block b) zero most rest h i = absurd (omega arith)
levels_built names (block b) (suc n) most rest h i = refl

unconditional_built : (names : Names) (b : BlockTree) (n : ℕ) (rest : List Leaf) → length (spell_block b) ≤ n →
    unconditional_at names n (spell_block b ++ rest)
    ≡ Some (body_of None (block_decls names b) (block_actions names b), rest)
unconditional_built names b n rest h =
    ap (λ r. after r (λ x more. Some (body_of None x.0 x.1, more))) (block_built names b n rest h)

conditional_built : (names : Names) (f : FormulaTree) (b : BlockTree) (n : ℕ) (rest : List Leaf) →
    length (spell_formula f) ≤ n → length (spell_block b) ≤ n →
    conditional_at names n (spell_formula f ++ Key Then ∷ Key Do ∷ Open ∷ (spell_block b ++ rest))
    ≡ Some (body_of (Some (formula_value names f)) (block_decls names b) (block_actions names b), rest)
conditional_built names f b n rest h i =
    ap (λ r. after r (λ g left. after (block_at names n (drop 3 left))
    (λ x more. Some (body_of (Some g) x.0 x.1, more))))
    (formula_built names f n (Key Then ∷ Key Do ∷ Open ∷ (spell_block b ++ rest)) h)
    ∙ ap (λ r. after r (λ x more. Some (body_of (Some (formula_value names f)) x.0 x.1, more)))
    (block_built names b n rest i)

body_built : (names : Names) (r : RuleTree) (n : ℕ) (rest : List Leaf) → length (spell_rule r) ≤ n →
    body_at names n (inner_leaves r ++ rest)
    ≡ Some (
      body_of (rule_condition names r) (block_decls names (rule_block r))
          (block_actions names (rule_block r)),
      rest,
    )
body_built names (for_all vs r) n rest h = let k = plain_length vs r in body_built names r n rest (omega arith)
body_built names (for_all_such vs fs r) n rest h = let k = such_length vs fs r in
    body_built names r n rest (omega arith)
body_built names (if_then f b) n rest h =
    let k = length-append (spell_formula f) (Key Then ∷ Key Do ∷ Open ∷ spell_block b) in
    ap (conditional_at names n) (append_assoc (spell_formula f) (Key Then ∷ Key Do ∷ Open ∷ spell_block b) rest)
    ∙ conditional_built names f b n rest (omega arith) (omega arith)
body_built names (block b) n rest h = unconditional_built names b n rest (omega arith)

one_less : (k : ℕ) (ss rest : List Leaf) → drop k ss ≡ Close ∷ rest → drop (suc k) ss ≡ rest
one_less k ss rest e = ap (λ m. drop m ss) (sym (add-one k)) ∙ (sym (drop-drop 1 k ss) ∙ ap (drop 1) e)

closed : (names : Names) (r : RuleTree) (rest : List Leaf) →
    drop (length (rule_levels names r)) (closing r rest) ≡ rest
closed names (for_all vs r) rest =
    one_less (length (rule_levels names r)) (closing r (Close ∷ rest)) rest (closed names r (Close ∷ rest))
closed names (for_all_such vs fs r) rest =
    one_less (length (rule_levels names r)) (closing r (Close ∷ rest)) rest (closed names r (Close ∷ rest))
closed names (if_then f b) rest = refl
closed names (block b) rest = refl

parts_built : (names : Names) (r : RuleTree) (n : ℕ) (rest : List Leaf) → length (spell_rule r) ≤ n →
    parts_at names n (spell_rule r ++ rest)
    ≡ Some (
      (
        rule_levels names r,
        body_of (rule_condition names r) (block_decls names (rule_block r)) (block_actions names (rule_block r)),
      ),
      rest,
    )
parts_built names r n rest h =
    ap (λ x. after x (λ levels left. after (body_at names n left)
    (λ body more. Some ((levels, body), drop (length levels) more)))) (levels_built names r n n rest h h)
    ∙ (ap (λ x. after x (λ body more. Some ((rule_levels names r, body), drop (length (rule_levels names r)) more)))
    (body_built names r n (closing r rest) h)
    ∙ ap (λ more. Some (
      (
        rule_levels names r,
        body_of (rule_condition names r) (block_decls names (rule_block r)) (block_actions names (rule_block r)),
      ),
      more,
    )) (closed names r rest))

-- whatever the names are, the leaves behind are the same
pub rule_read : (p : ℤ) (names : Names) (r : RuleTree) (n : ℕ) (rest : List Leaf) → length (spell_rule r) ≤ n →
    rule_at p names n (spell_rule r ++ rest)
    ≡ Some (
      rule_of p names (rule_levels names r)
          (body_of (rule_condition names r) (block_decls names (rule_block r)) (block_actions names (rule_block r))),
      rest,
    )
rule_read p names r n rest h =
    ap (λ x. after x (λ parts more. Some (rule_of p names parts.0 parts.1, more))) (parts_built names r n rest h)

pub rule_built : (p : ℤ) (r : RuleTree) (n : ℕ) (rest : List Leaf) → length (spell_rule r) ≤ n →
    rule_at p (rule_names r) n (spell_rule r ++ rest) ≡ Some (rule_value p r, rest)
rule_built p r n rest h =
    ap (λ x. after x (λ parts more. Some (rule_of p (rule_names r) parts.0 parts.1, more)))
    (parts_built (rule_names r) r n rest h)
