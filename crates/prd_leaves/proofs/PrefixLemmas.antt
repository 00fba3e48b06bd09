-- The prefixes that are declared in the leaves of a document are those of its tree: a word stands in a declaration
-- alone.
use Rattle.std.proofs.Common.{◌≡◌, ◌∙◌, sym, ap, refl, Bool, true, false, cond, List, [], ◌∷◌, ◌++◌}
use Rattle.prd_grammar.specs.declared.leaf.Leaf.{Leaf}
use Rattle.prd_grammar.specs.declared.leaf.Leaf.TheVariants.{Key, Word, Iri, Var, Open, Close, OpenSquare}
use Rattle.prd_grammar.specs.declared.leaf.Leaf.TheVariants.{CloseSquare}
use Rattle.prd_grammar.specs.declared.leaf.Leaf.TheVariants.{Hash, Arrow}
use Rattle.prd_grammar.specs.declared.leaf.Keyword.TheVariants.{Document, Prefix, Such, That, Then, Do}
use Rattle.prd_grammar.specs.Prefixes.{Prefixes, with_prefix}
use Rattle.prd_leaves.specs.Leaves.{prefixes_from, prefixes_with}
use Rattle.prd_grammar.specs.Trees.{ConstTree, const_int, const_string, const_typed, const_iri, const_curie}
use Rattle.prd_grammar.specs.Trees.{const_local, const_true, const_false, spell_const, const_of_name, spell_name}
use Rattle.prd_grammar.specs.Trees.{func_known, func_unknown, func_undeclared, TermTree, constant, variable, call}
use Rattle.prd_grammar.specs.Trees.{TermTrees, no_terms, terms, spell_term, spell_terms, PairTrees, last_pair, pairs}
use Rattle.prd_grammar.specs.Trees.{spell_pairs, Tail, equals, member_of, with_pairs, spell_tail, Vars, one_var}
use Rattle.prd_grammar.specs.Trees.{more_vars, spell_vars, spelled_not, spelled_ineg, term_of_first, pred_known}
use Rattle.prd_grammar.specs.Trees.{pred_unknown, pred_undeclared, FormulaTree, conj, disj, neg, some, grouped, holds}
use Rattle.prd_grammar.specs.Trees.{compared, atom, FormulaTrees, no_formulas, formulas, spell_formula}
use Rattle.prd_grammar.specs.Trees.{spell_formulas}
use Rattle.prd_grammar.specs.Trees.{TargetTree, target_member, target_frame, target_atom, spell_target, ActionTree}
use Rattle.prd_grammar.specs.Trees.{assert, retract, retract_slot, retract_object, modify, spell_action, ActionTrees}
use Rattle.prd_grammar.specs.Trees.{last_action, actions, spell_actions, BlockTree, acts, new_object, slot_value}
use Rattle.prd_grammar.specs.Trees.{spell_block, SuchTrees, last_such, more_such, spell_such, RuleTree, for_all}
use Rattle.prd_grammar.specs.Trees.{for_all_such, if_then, block, spell_rule, StrategyTree, no_strategy, strategy_iri}
use Rattle.prd_grammar.specs.Trees.{strategy_curie, spell_strategy, PriorityTree, no_priority, priority}
use Rattle.prd_grammar.specs.Trees.{spell_priority, GroupTree, group, MemberTrees, no_members, rule_member}
use Rattle.prd_grammar.specs.Trees.{group_member, spell_group, spell_members, PrefixTrees, no_group, one_group}
use Rattle.prd_grammar.specs.Trees.{prefix}
use Rattle.prd_grammar.specs.Trees.{spell_prefixes, DocumentTree, document, spell_document}
use Rattle.prd_grammar.specs.Values.{prefixes_behind, document_prefixes}

abbrev is_word : Leaf → Bool
is_word (Word t) = true
is_word l = false

-- no word is among the leaves
abbrev wordless : List Leaf → Bool
wordless [] = true
wordless (l ∷ ls) = cond (is_word l) false (wordless ls)

join : (xs ys : List Leaf) → wordless xs ≡ true → wordless ys ≡ true → wordless (xs ++ ys) ≡ true
join [] ys first second = second
join (l ∷ xs) ys first second = elim (is_word l) as (λ v. cond v false (wordless xs) ≡ true → cond v false (wordless
    (xs ++ ys)) ≡ true) [
      | true ↦ λ never. never
      | false ↦ λ rest. join xs ys rest second
    ] first

consts : (c : ConstTree) → wordless (spell_const c) ≡ true
consts (const_int z) = refl
consts (const_string t) = refl
consts (const_typed literal known) = refl
consts (const_iri t) = refl
consts (const_curie t) = refl
consts (const_local t) = refl
consts const_true = refl
consts const_false = refl

mutual
  in_term : (t : TermTree) → wordless (spell_term t) ≡ true
  in_term (constant c) = consts c
  in_term (variable v) = refl
  in_term (call (func_known f) ts) = join (spell_terms ts) (Close ∷ []) (in_terms ts) refl
  in_term (call func_unknown ts) = join (spell_terms ts) (Close ∷ []) (in_terms ts) refl
  in_term (call func_undeclared ts) = join (spell_terms ts) (Close ∷ []) (in_terms ts) refl

  in_terms : (ts : TermTrees) → wordless (spell_terms ts) ≡ true
  in_terms no_terms = refl
  in_terms (terms t ts) = join (spell_term t) (spell_terms ts) (in_term t) (in_terms ts)

-- terms, then a closing sign
term_then : (t : TermTree) (ls : List Leaf) → wordless ls ≡ true → wordless (spell_term t ++ ls) ≡ true
term_then t ls rest = join (spell_term t) ls (in_term t) rest

in_pairs : (ps : PairTrees) → wordless (spell_pairs ps) ≡ true
in_pairs (last_pair s v) = term_then s (Arrow ∷ (spell_term v ++ CloseSquare ∷ [])) (term_then v
    (CloseSquare ∷ []) refl)
in_pairs (pairs s v ps) = term_then s (Arrow ∷ (spell_term v ++ spell_pairs ps)) (term_then v (spell_pairs ps)
    (in_pairs ps))

in_tail : (t : Tail) → wordless (spell_tail t) ≡ true
in_tail (equals t) = in_term t
in_tail (member_of t) = in_term t
in_tail (with_pairs ps) = in_pairs ps

in_vars : (vs : Vars) → wordless (spell_vars vs) ≡ true
in_vars (one_var v) = refl
in_vars (more_vars v vs) = in_vars vs

mutual
  in_formula : (f : FormulaTree) → wordless (spell_formula f) ≡ true
  in_formula (conj fs) = in_formulas fs
  in_formula (disj fs) = in_formulas fs
  in_formula (neg spelled_not f) = join (spell_formula f) (Close ∷ []) (in_formula f) refl
  in_formula (neg spelled_ineg f) = join (spell_formula f) (Close ∷ []) (in_formula f) refl
  in_formula (some vs f) =
      join (spell_vars vs) (Open ∷ (spell_formula f ++ Close ∷ [])) (in_vars vs) (join (spell_formula f)
      (Close ∷ []) (in_formula f) refl)
  in_formula (grouped f) = join (spell_formula f) (Close ∷ []) (in_formula f) refl
  in_formula (holds (pred_known p) ts) = join (spell_terms ts) (Close ∷ []) (in_terms ts) refl
  in_formula (holds pred_unknown ts) = join (spell_terms ts) (Close ∷ []) (in_terms ts) refl
  in_formula (holds pred_undeclared ts) = join (spell_terms ts) (Close ∷ []) (in_terms ts) refl
  in_formula (compared t tail) = term_then (term_of_first t) (spell_tail tail) (in_tail tail)
  in_formula (atom n ts) = join (spell_name n) (Open ∷ spell_terms ts) (consts (const_of_name n)) (in_terms ts)

  in_formulas : (fs : FormulaTrees) → wordless (spell_formulas fs) ≡ true
  in_formulas no_formulas = refl
  in_formulas (formulas f fs) = join (spell_formula f) (spell_formulas fs) (in_formula f) (in_formulas fs)

in_target : (t : TargetTree) → wordless (spell_target t) ≡ true
in_target (target_member o c) = term_then o (Hash ∷ spell_term c) (in_term c)
in_target (target_frame o ps) = term_then o (OpenSquare ∷ spell_pairs ps) (in_pairs ps)
in_target (target_atom n ts) = join (spell_name n) (Open ∷ spell_terms ts) (consts (const_of_name n)) (in_terms ts)

in_action : (a : ActionTree) → wordless (spell_action a) ≡ true
in_action (assert t) = join (spell_target t) (Close ∷ []) (in_target t) refl
in_action (retract t) = join (spell_target t) (Close ∷ []) (in_target t) refl
in_action (retract_slot o s) = term_then o (spell_term s ++ Close ∷ []) (term_then s (Close ∷ []) refl)
in_action (retract_object o) = term_then o (Close ∷ []) refl
in_action (modify o ps) =
    term_then o (OpenSquare ∷ (spell_pairs ps ++ Close ∷ [])) (join (spell_pairs ps) (Close ∷ []) (in_pairs ps) refl)

in_actions : (a : ActionTrees) → wordless (spell_actions a) ≡ true
in_actions (last_action a) = join (spell_action a) (Close ∷ []) (in_action a) refl
in_actions (actions a more) = join (spell_action a) (spell_actions more) (in_action a) (in_actions more)

in_block : (b : BlockTree) → wordless (spell_block b) ≡ true
in_block (acts a) = in_actions a
in_block (new_object v b) = in_block b
in_block (slot_value v o s b) =
    term_then o (OpenSquare ∷ (spell_term s ++ Arrow ∷ Var v ∷ CloseSquare ∷ Close ∷ spell_block b))
    (term_then s (Arrow ∷ Var v ∷ CloseSquare ∷ Close ∷ spell_block b) (in_block b))

in_such : (fs : SuchTrees) → wordless (spell_such fs) ≡ true
in_such (last_such f) = join (spell_formula f) (Open ∷ []) (in_formula f) refl
in_such (more_such f fs) = join (spell_formula f) (spell_such fs) (in_formula f) (in_such fs)

in_rule : (r : RuleTree) → wordless (spell_rule r) ≡ true
in_rule (for_all vs r) =
    join (spell_vars vs) (Open ∷ (spell_rule r ++ Close ∷ [])) (in_vars vs) (join (spell_rule r) (Close ∷ [])
    (in_rule r) refl)
in_rule (for_all_such vs fs r) =
    join (spell_vars vs) (Key Such ∷ Key That ∷ (spell_such fs ++ (spell_rule r ++ Close ∷ []))) (in_vars vs)
    (join (spell_such fs) (spell_rule r ++ Close ∷ []) (in_such fs)
    (join (spell_rule r) (Close ∷ []) (in_rule r) refl))
in_rule (if_then f b) = join (spell_formula f) (Key Then ∷ Key Do ∷ Open ∷ spell_block b) (in_formula f) (in_block b)
in_rule (block b) = in_block b

in_strategy : (s : StrategyTree) → wordless (spell_strategy s) ≡ true
in_strategy no_strategy = refl
in_strategy (strategy_iri t) = refl
in_strategy (strategy_curie t) = refl

in_priority : (p : PriorityTree) → wordless (spell_priority p) ≡ true
in_priority no_priority = refl
in_priority (priority z) = refl

mutual
  in_group : (g : GroupTree) → wordless (spell_group g) ≡ true
  in_group (group s p ms) =
      join (spell_strategy s) (spell_priority p ++ Open ∷ spell_members ms) (in_strategy s)
      (join (spell_priority p) (Open ∷ spell_members ms) (in_priority p) (in_members ms))

  in_members : (ms : MemberTrees) → wordless (spell_members ms) ≡ true
  in_members no_members = refl
  in_members (rule_member r ms) = join (spell_rule r) (spell_members ms) (in_rule r) (in_members ms)
  in_members (group_member g ms) = join (spell_group g) (spell_members ms) (in_group g) (in_members ms)

-- the newest leaf is a word
abbrev is_behind_word : List Leaf → Bool
is_behind_word [] = false
is_behind_word (l ∷ front) = is_word l

none_declared : (prefixes : Prefixes) (front : List Leaf) (l : Leaf) → is_behind_word front ≡ false →
    prefixes_with prefixes front l ≡ prefixes
none_declared prefixes [] l behind = refl
none_declared prefixes (Word name ∷ front) l behind = cc
none_declared prefixes (x ∷ front) l behind = refl

-- nothing is declared where there is no word
stays : (ls front : List Leaf) (prefixes : Prefixes) → is_behind_word front ≡ false → wordless ls ≡ true →
    prefixes_from prefixes front ls ≡ prefixes
stays [] front prefixes behind none = refl
stays (l ∷ ls) front prefixes behind none =
    ap (λ (p : Prefixes). prefixes_from p (l ∷ front) ls) (none_declared prefixes front l behind)
    ∙ (elim (is_word l) as (λ v. v ≡ is_word l → cond v false (wordless ls) ≡ true → prefixes_from prefixes
    (l ∷ front) ls ≡ prefixes) [
      | true ↦ λ _ never. cc
      | false ↦ λ is rest. stays ls (l ∷ front) prefixes (sym is) rest
    ] refl none)

declared_behind : (ps : PrefixTrees) (front : List Leaf) (prefixes : Prefixes) → is_behind_word front ≡ false →
    prefixes_from prefixes front (spell_prefixes ps) ≡ prefixes_behind prefixes ps
declared_behind no_group front prefixes behind = stays (Close ∷ []) front prefixes behind refl
declared_behind (one_group g) front prefixes behind =
    stays (spell_group g ++ Close ∷ []) front prefixes behind (join (spell_group g) (Close ∷ []) (in_group g) refl)
declared_behind (prefix name iri ps) front prefixes behind =
    let inner = Open ∷ Key Prefix ∷ front in
    let first = none_declared prefixes front (Key Prefix) behind in
    let behind_it = Close ∷ Iri iri ∷ Word name ∷ inner in
    ap (λ (p : Prefixes). prefixes_from (with_prefix p name iri) behind_it (spell_prefixes ps)) first
    ∙ declared_behind ps behind_it (with_prefix prefixes name iri) refl

pub declared : (t : DocumentTree) → prefixes_from [] [] (spell_document t) ≡ document_prefixes t
declared (document ps) = declared_behind ps (Open ∷ Key Document ∷ []) [] refl
