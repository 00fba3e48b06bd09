-- The canonical tree of a rule stands for the same rule.
use Rattle.std.proofs.Common.{◌≡◌, ℕ, List, [], ◌∷◌, ◌++◌, refl, ap, ◌∙◌, sym}
use Rattle.prd_grammar.specs.declared.leaf.Keyword.TheVariants.{Such, That, Then, Do}
use Rattle.prd_grammar.specs.declared.leaf.Leaf.{Leaf}
use Rattle.prd_grammar.specs.declared.leaf.Leaf.TheVariants.{Key, Var, Close, Open, Arrow, OpenSquare, CloseSquare}
use Rattle.prd_grammar.specs.declared.leaf.Leaf.TheVariants.{Hash}
use Rattle.prd_grammar.specs.Trees.{NameTree, name_iri, name_curie, name_local, name_typed_iri, name_typed_local}
use Rattle.prd_grammar.specs.Trees.{spell_name, TermTree, spell_term, spell_terms, spell_pairs, Tail, equals}
use Rattle.prd_grammar.specs.Trees.{member_of, with_pairs, spell_tail, spell_vars, NotWord, spelled_not, spelled_ineg}
use Rattle.prd_grammar.specs.Trees.{not_leaf, FirstTerm, first_constant, first_variable, first_call, term_of_first}
use Rattle.prd_grammar.specs.Trees.{PredTree, pred_known, pred_unknown, pred_undeclared, pred_leaf, FormulaTree, conj}
use Rattle.prd_grammar.specs.Trees.{disj, neg, some, grouped, holds, compared, atom, FormulaTrees, no_formulas}
use Rattle.prd_grammar.specs.Trees.{formulas, spell_formula, spell_formulas, TargetTree, target_member, target_frame}
use Rattle.prd_grammar.specs.Trees.{target_atom, spell_target, ActionTree, assert, retract, retract_slot}
use Rattle.prd_grammar.specs.Trees.{retract_object, modify, spell_action, ActionTrees, last_action, actions}
use Rattle.prd_grammar.specs.Trees.{spell_actions, BlockTree, acts, new_object, slot_value, spell_block, SuchTrees}
use Rattle.prd_grammar.specs.Trees.{last_such, more_such, spell_such, RuleTree, for_all, for_all_such, if_then, block}
use Rattle.prd_grammar.specs.Trees.{spell_rule}
use Rattle.prd_grammar.specs.Values.{names_with, names_from, rule_names}
use Rattle.prd_canonical.specs.CanonicalTrees.{canonical_name, canonical_first, canonical_term, canonical_terms}
use Rattle.prd_canonical.specs.CanonicalTrees.{canonical_pairs, canonical_tail, canonical_formula, canonical_formulas}
use Rattle.prd_canonical.specs.CanonicalTrees.{canonical_target, canonical_action, canonical_actions, canonical_block}
use Rattle.prd_canonical.specs.CanonicalTrees.{canonical_such, canonical_rule}
use Rattle.prd_canonical.proofs.CanonicalNameLemmas.{names_both, names_on, names_of_term, names_of_terms}
use Rattle.prd_canonical.proofs.CanonicalNameLemmas.{names_of_pairs}

-- the same text on both sides, and more behind it
names_behind : (ns : List (List ℕ)) (ls ms os : List Leaf) →
    ((ps : List (List ℕ)) → names_from ps ms ≡ names_from ps os) → names_from ns (ls ++ ms) ≡ names_from ns (ls ++ os)
names_behind ns ls ms os more = names_on ns ls ls ms os refl more

no_name : (ns : List (List ℕ)) (n : NameTree) → names_from ns (spell_name n) ≡ ns
no_name ns (name_iri t) = refl
no_name ns (name_curie t) = refl
no_name ns (name_local t) = refl
no_name ns (name_typed_iri t known) = refl
no_name ns (name_typed_local t known) = refl

names_of_name : (ns : List (List ℕ)) (n : NameTree) →
    names_from ns (spell_name (canonical_name n)) ≡ names_from ns (spell_name n)
names_of_name ns n = no_name ns (canonical_name n) ∙ sym (no_name ns n)

no_pred_name : (ns : List (List ℕ)) (p : PredTree) → names_with ns (pred_leaf p) ≡ ns
no_pred_name ns (pred_known p) = refl
no_pred_name ns pred_unknown = refl
no_pred_name ns pred_undeclared = refl

no_not_name : (ns : List (List ℕ)) (w : NotWord) → names_with ns (not_leaf w) ≡ ns
no_not_name ns spelled_not = refl
no_not_name ns spelled_ineg = refl

first_term : (t : FirstTerm) → term_of_first (canonical_first t) ≡ canonical_term (term_of_first t)
first_term (first_constant c) = refl
first_term (first_variable v) = refl
first_term (first_call f ts) = refl

names_of_first : (ns : List (List ℕ)) (t : FirstTerm) →
    names_from ns (spell_term (term_of_first (canonical_first t))) ≡ names_from ns (spell_term (term_of_first t))
names_of_first ns t =
    ap (λ (x : TermTree). names_from ns (spell_term x)) (first_term t) ∙ names_of_term ns (term_of_first t)

names_of_tail : (ns : List (List ℕ)) (tail : Tail) →
    names_from ns (spell_tail (canonical_tail tail)) ≡ names_from ns (spell_tail tail)
names_of_tail ns (equals t) = names_of_term ns t
names_of_tail ns (member_of t) = names_of_term ns t
names_of_tail ns (with_pairs ps) = names_of_pairs ns ps

mutual
  names_of_formula : (ns : List (List ℕ)) (f : FormulaTree) →
      names_from ns (spell_formula (canonical_formula f)) ≡ names_from ns (spell_formula f)
  names_of_formula ns (conj fs) = names_of_formulas ns fs
  names_of_formula ns (disj fs) = names_of_formulas ns fs
  names_of_formula ns (neg w f) =
      names_on ns (spell_formula (canonical_formula f)) (spell_formula f) (Close ∷ []) (Close ∷ [])
      (names_of_formula ns f)
      (λ ps. refl)
      ∙ ap (λ (x : List (List ℕ)). names_from x (spell_formula f ++ Close ∷ [])) (sym (no_not_name ns w))
  names_of_formula ns (some vs f) =
      names_behind ns (spell_vars vs) (Open ∷ (spell_formula (canonical_formula f) ++ Close ∷ []))
      (Open ∷ (spell_formula f ++ Close ∷ []))
      (λ ms. names_on ms (spell_formula (canonical_formula f)) (spell_formula f) (Close ∷ []) (Close ∷ [])
      (names_of_formula ms f) (λ ps. refl))
  names_of_formula ns (grouped f) =
      names_of_formula ns f ∙ sym (names_both ns (spell_formula f) (Close ∷ []))
  names_of_formula ns (holds p ts) =
      names_on ns (spell_terms (canonical_terms ts)) (spell_terms ts) (Close ∷ []) (Close ∷ []) (names_of_terms ns ts)
      (λ ps. refl)
      ∙ ap (λ (x : List (List ℕ)). names_from x (spell_terms ts ++ Close ∷ [])) (sym (no_pred_name ns p))
  names_of_formula ns (compared t tail) =
      names_on ns (spell_term (term_of_first (canonical_first t))) (spell_term (term_of_first t))
      (spell_tail (canonical_tail tail)) (spell_tail tail) (names_of_first ns t) (λ ps. names_of_tail ps tail)
  names_of_formula ns (atom n ts) =
      names_on ns (spell_name (canonical_name n)) (spell_name n) (Open ∷ spell_terms (canonical_terms ts))
      (Open ∷ spell_terms ts) (names_of_name ns n) (λ ps. names_of_terms ps ts)

  names_of_formulas : (ns : List (List ℕ)) (fs : FormulaTrees) →
      names_from ns (spell_formulas (canonical_formulas fs)) ≡ names_from ns (spell_formulas fs)
  names_of_formulas ns no_formulas = refl
  names_of_formulas ns (formulas f fs) =
      names_on ns (spell_formula (canonical_formula f)) (spell_formula f) (spell_formulas (canonical_formulas fs))
      (spell_formulas fs) (names_of_formula ns f) (λ ps. names_of_formulas ps fs)

names_of_target : (ns : List (List ℕ)) (t : TargetTree) →
    names_from ns (spell_target (canonical_target t)) ≡ names_from ns (spell_target t)
names_of_target ns (target_member o c) =
    names_on ns (spell_term (canonical_term o)) (spell_term o) (Hash ∷ spell_term (canonical_term c))
    (Hash ∷ spell_term c) (names_of_term ns o) (λ ps. names_of_term ps c)
names_of_target ns (target_frame o ps) =
    names_on ns (spell_term (canonical_term o)) (spell_term o) (OpenSquare ∷ spell_pairs (canonical_pairs ps))
    (OpenSquare ∷ spell_pairs ps) (names_of_term ns o) (λ ms. names_of_pairs ms ps)
names_of_target ns (target_atom n ts) =
    names_on ns (spell_name (canonical_name n)) (spell_name n) (Open ∷ spell_terms (canonical_terms ts))
    (Open ∷ spell_terms ts) (names_of_name ns n) (λ ps. names_of_terms ps ts)

-- the same with a closing bracket behind it
closed_on : (ns : List (List ℕ)) (ls ks : List Leaf) → names_from ns ls ≡ names_from ns ks →
    names_from ns (ls ++ Close ∷ []) ≡ names_from ns (ks ++ Close ∷ [])
closed_on ns ls ks same = names_on ns ls ks (Close ∷ []) (Close ∷ []) same (λ ps. refl)

names_of_action : (ns : List (List ℕ)) (a : ActionTree) →
    names_from ns (spell_action (canonical_action a)) ≡ names_from ns (spell_action a)
names_of_action ns (assert t) =
    closed_on ns (spell_target (canonical_target t)) (spell_target t) (names_of_target ns t)
names_of_action ns (retract t) =
    closed_on ns (spell_target (canonical_target t)) (spell_target t) (names_of_target ns t)
names_of_action ns (retract_slot o s) =
    names_on ns (spell_term (canonical_term o)) (spell_term o) (spell_term (canonical_term s) ++ Close ∷ [])
    (spell_term s ++ Close ∷ []) (names_of_term ns o)
    (λ ps. closed_on ps (spell_term (canonical_term s)) (spell_term s) (names_of_term ps s))
names_of_action ns (retract_object o) =
    closed_on ns (spell_term (canonical_term o)) (spell_term o) (names_of_term ns o)
names_of_action ns (modify o ps) =
    names_on ns (spell_term (canonical_term o)) (spell_term o)
    (OpenSquare ∷ (spell_pairs (canonical_pairs ps) ++ Close ∷ []))
    (OpenSquare ∷ (spell_pairs ps ++ Close ∷ [])) (names_of_term ns o)
    (λ ms. closed_on ms (spell_pairs (canonical_pairs ps)) (spell_pairs ps) (names_of_pairs ms ps))

names_of_actions : (ns : List (List ℕ)) (all : ActionTrees) →
    names_from ns (spell_actions (canonical_actions all)) ≡ names_from ns (spell_actions all)
names_of_actions ns (last_action a) =
    closed_on ns (spell_action (canonical_action a)) (spell_action a) (names_of_action ns a)
names_of_actions ns (actions a more) =
    names_on ns (spell_action (canonical_action a)) (spell_action a) (spell_actions (canonical_actions more))
    (spell_actions more) (names_of_action ns a) (λ ps. names_of_actions ps more)

names_of_block : (ns : List (List ℕ)) (b : BlockTree) →
    names_from ns (spell_block (canonical_block b)) ≡ names_from ns (spell_block b)
names_of_block ns (acts a) = names_of_actions ns a
names_of_block ns (new_object v b) = names_of_block (names_with ns (Var v)) b
names_of_block ns (slot_value v o s b) =
    names_on (names_with ns (Var v)) (spell_term (canonical_term o)) (spell_term o)
    (OpenSquare ∷ (spell_term (canonical_term s) ++ Arrow ∷ Var v ∷ CloseSquare ∷ Close
    ∷ spell_block (canonical_block b)))
    (OpenSquare ∷ (spell_term s ++ Arrow ∷ Var v ∷ CloseSquare ∷ Close ∷ spell_block b))
    (names_of_term (names_with ns (Var v)) o)
    (λ ms. names_on ms (spell_term (canonical_term s)) (spell_term s)
    (Arrow ∷ Var v ∷ CloseSquare ∷ Close ∷ spell_block (canonical_block b))
    (Arrow ∷ Var v ∷ CloseSquare ∷ Close ∷ spell_block b) (names_of_term ms s)
    (λ ps. names_of_block (names_with ps (Var v)) b))

names_of_such : (ns : List (List ℕ)) (fs : SuchTrees) →
    names_from ns (spell_such (canonical_such fs)) ≡ names_from ns (spell_such fs)
names_of_such ns (last_such f) =
    names_on ns (spell_formula (canonical_formula f)) (spell_formula f) (Open ∷ []) (Open ∷ [])
    (names_of_formula ns f)
    (λ ps. refl)
names_of_such ns (more_such f fs) =
    names_on ns (spell_formula (canonical_formula f)) (spell_formula f) (spell_such (canonical_such fs))
    (spell_such fs)
    (names_of_formula ns f) (λ ps. names_of_such ps fs)

names_of_rule : (ns : List (List ℕ)) (r : RuleTree) →
    names_from ns (spell_rule (canonical_rule r)) ≡ names_from ns (spell_rule r)
names_of_rule ns (for_all vs r) =
    names_behind ns (spell_vars vs) (Open ∷ (spell_rule (canonical_rule r) ++ Close ∷ []))
    (Open ∷ (spell_rule r ++ Close ∷ []))
    (λ ms. closed_on ms (spell_rule (canonical_rule r)) (spell_rule r) (names_of_rule ms r))
names_of_rule ns (for_all_such vs fs r) =
    names_behind ns (spell_vars vs)
    (Key Such ∷ Key That ∷ (spell_such (canonical_such fs) ++ (spell_rule (canonical_rule r) ++ Close ∷ [])))
    (Key Such ∷ Key That ∷ (spell_such fs ++ (spell_rule r ++ Close ∷ [])))
    (λ ms. names_on ms (spell_such (canonical_such fs)) (spell_such fs) (spell_rule (canonical_rule r) ++ Close ∷ [])
    (spell_rule r ++ Close ∷ []) (names_of_such ms fs)
    (λ ps. closed_on ps (spell_rule (canonical_rule r)) (spell_rule r) (names_of_rule ps r)))
names_of_rule ns (if_then f b) =
    names_on ns (spell_formula (canonical_formula f)) (spell_formula f)
    (Key Then ∷ Key Do ∷ Open ∷ spell_block (canonical_block b)) (Key Then ∷ Key Do ∷ Open ∷ spell_block b)
    (names_of_formula ns f) (λ ps. names_of_block ps b)
names_of_rule ns (block b) = names_of_block ns b

pub same_names : (r : RuleTree) → rule_names (canonical_rule r) ≡ rule_names r
same_names r = names_of_rule [] r
