-- What holds of every document that is read: it keeps the limits, and each variable is a place in its rule's names.
-- Source: the project's own (docs/FORMATS.md, "Limits").
use Rattle.std.specs.Prelude.{pos, max, suc, ◌≡◌, ◌≤◌, ◌≤ℤ◌, ℕ, ◌+◌, neg_ℤ, List, [], ◌∷◌, length, map, Option, Some}
use Rattle.std.specs.Prelude.{None}
use Rattle.rif_refusals.specs.Limits.{most_rules, most_variables, most_patterns, most_actions}
use Rattle.rif_refusals.specs.Limits.{most_priority}
use Rattle.rif_tree.specs.declared.tree.Term.{Term}
use Rattle.rif_tree.specs.declared.tree.Term.TheOpen.{Term-F, Const as ConstTerm, Var as VarTerm, Call as CallTerm}
use Rattle.rif_tree.specs.declared.tree.Term.TheFolds.{fold-Term}
use Rattle.rif_tree.specs.declared.tree.Formula.{Formula}
use Rattle.rif_tree.specs.declared.tree.Formula.TheOpen.{Formula-F, And, Or, Not, Exists, Equal, Member, Frame, Atom}
use Rattle.rif_tree.specs.declared.tree.Formula.TheOpen.{Holds}
use Rattle.rif_tree.specs.declared.tree.Formula.TheFolds.{fold-Formula}
use Rattle.rif_tree.specs.declared.tree.Level.{Level}
use Rattle.rif_tree.specs.declared.rule.Target.{Target}
use Rattle.rif_tree.specs.declared.rule.Target.TheVariants.{Atom as AtomTarget, Frame as FrameTarget}
use Rattle.rif_tree.specs.declared.rule.Target.TheVariants.{Member as MemberTarget}
use Rattle.rif_tree.specs.declared.rule.Action.{Action}
use Rattle.rif_tree.specs.declared.rule.Action.TheVariants.{Assert, Retract, RetractSlot, RetractObject, Modify}
use Rattle.rif_tree.specs.declared.rule.Decl.{Decl}
use Rattle.rif_tree.specs.declared.rule.Decl.TheVariants.{Slot, New}
use Rattle.rif_tree.specs.declared.rule.Rule.{Rule}
use Rattle.rif_tree.specs.declared.rule.Doc.{Doc}
use Rattle.prd_grammar.specs.Progress.{at_start, names_read}
use Rattle.prd_grammar.specs.Refusals.{IsClear}
use Rattle.prd_grammar.specs.Trees.{DocumentTree, spell_document}
use Rattle.prd_grammar.specs.Values.{document_value}

abbrev pub sum_of : List ℕ → ℕ
sum_of [] = 0
sum_of (n ∷ ns) = n + sum_of ns

-- the patterns of a formula, also those inside `Not` and `Exists`: a frame has one for each pair
abbrev pub patterns_in : Formula-F ℕ → ℕ
patterns_in (And counts) = sum_of counts
patterns_in (Or counts) = sum_of counts
patterns_in (Not count) = count
patterns_in (Exists vars count) = count
patterns_in (Equal t u) = 0
patterns_in (Member o c) = 1
patterns_in (Frame o ps) = length ps
patterns_in (Atom p ts) = 1
patterns_in (Holds p ts) = 0

abbrev pub pattern_count : Formula → ℕ
pattern_count = fold-Formula ℕ patterns_in

abbrev pub patterns_of : List Formula → ℕ
patterns_of [] = 0
patterns_of (f ∷ fs) = pattern_count f + patterns_of fs

abbrev pub level_patterns : List Level → ℕ
level_patterns [] = 0
level_patterns (l ∷ ls) = patterns_of l.such_that + level_patterns ls

abbrev pub condition_patterns : Option Formula → ℕ
condition_patterns None = 0
condition_patterns (Some f) = pattern_count f

pub record KeepsRuleLimits (r : Rule) : Type 0 where
  pub low : neg_ℤ (pos most_priority) ≤ℤ r.priority
  pub high : r.priority ≤ℤ (pos most_priority)
  pub names : length r.names ≤ most_variables
  pub patterns : level_patterns r.levels + condition_patterns r.condition ≤ most_patterns
  pub actions : length r.actions ≤ most_actions

abbrev pub KeepRuleLimits : List Rule → Type 0
KeepRuleLimits [] = Unit {0}
KeepRuleLimits (r ∷ rs) = KeepsRuleLimits r × KeepRuleLimits rs

pub record KeepsLimits (doc : Doc) : Type 0 where
  pub rules : length doc.rules ≤ most_rules
  pub each : KeepRuleLimits doc.rules

-- how many names a part of a rule needs: one more than the greatest place in it
abbrev pub most_of : List ℕ → ℕ
most_of [] = 0
most_of (n ∷ ns) = max n (most_of ns)

abbrev pub needed_in : Term-F ℕ → ℕ
needed_in (ConstTerm c) = 0
needed_in (VarTerm v) = suc v
needed_in (CallTerm f needs) = most_of needs

abbrev pub term_needs : Term → ℕ
term_needs = fold-Term ℕ needed_in

abbrev pub terms_need : List Term → ℕ
terms_need [] = 0
terms_need (t ∷ ts) = max (term_needs t) (terms_need ts)

abbrev pub pairs_need : List (Term × Term) → ℕ
pairs_need [] = 0
pairs_need (p ∷ ps) = max (max (term_needs p.0) (term_needs p.1)) (pairs_need ps)

abbrev pub vars_need : List ℕ → ℕ
vars_need [] = 0
vars_need (v ∷ vs) = max (suc v) (vars_need vs)

abbrev pub needs_in : Formula-F ℕ → ℕ
needs_in (And needs) = most_of needs
needs_in (Or needs) = most_of needs
needs_in (Not need) = need
needs_in (Exists vars need) = max (vars_need vars) need
needs_in (Equal t u) = max (term_needs t) (term_needs u)
needs_in (Member o c) = max (term_needs o) (term_needs c)
needs_in (Frame o ps) = max (term_needs o) (pairs_need ps)
needs_in (Atom p ts) = terms_need ts
needs_in (Holds p ts) = terms_need ts

abbrev pub formula_needs : Formula → ℕ
formula_needs = fold-Formula ℕ needs_in

abbrev pub formulas_need : List Formula → ℕ
formulas_need [] = 0
formulas_need (f ∷ fs) = max (formula_needs f) (formulas_need fs)

abbrev pub levels_need : List Level → ℕ
levels_need [] = 0
levels_need (l ∷ ls) = max (max (vars_need l.vars) (formulas_need l.such_that)) (levels_need ls)

abbrev pub condition_needs : Option Formula → ℕ
condition_needs None = 0
condition_needs (Some f) = formula_needs f

abbrev pub decl_needs : Decl → ℕ
decl_needs (Slot v o s) = max (suc v) (max (term_needs o) (term_needs s))
decl_needs (New v) = suc v

abbrev pub decls_need : List Decl → ℕ
decls_need [] = 0
decls_need (d ∷ ds) = max (decl_needs d) (decls_need ds)

abbrev pub target_needs : Target → ℕ
target_needs (AtomTarget p ts) = terms_need ts
target_needs (FrameTarget o ps) = max (term_needs o) (pairs_need ps)
target_needs (MemberTarget o c) = max (term_needs o) (term_needs c)

abbrev pub action_needs : Action → ℕ
action_needs (Assert t) = target_needs t
action_needs (Retract t) = target_needs t
action_needs (RetractSlot o s) = max (term_needs o) (term_needs s)
action_needs (RetractObject o) = term_needs o
action_needs (Modify o ps) = max (term_needs o) (pairs_need ps)

abbrev pub actions_need : List Action → ℕ
actions_need [] = 0
actions_need (a ∷ more) = max (action_needs a) (actions_need more)

-- each variable of a rule is a place in its names
pub record KeepsRulePlaces (r : Rule) : Type 0 where
  pub levels : levels_need r.levels ≤ length r.names
  pub condition : condition_needs r.condition ≤ length r.names
  pub decls : decls_need r.decls ≤ length r.names
  pub actions : actions_need r.actions ≤ length r.names

abbrev pub KeepRulePlaces : List Rule → Type 0
KeepRulePlaces [] = Unit {0}
KeepRulePlaces (r ∷ rs) = KeepsRulePlaces r × KeepRulePlaces rs

pub record KeepsPlaces (doc : Doc) : Type 0 where
  pub each : KeepRulePlaces doc.rules

-- Law: what the fold over leaves tells of a tree.
pub record CountsAreOfTrees : Type 0 where
  pub names : (t : DocumentTree) →
      names_read at_start (spell_document t) ≡ map (λ (r : Rule). r.names) (document_value t).rules
  pub limits : (t : DocumentTree) → IsClear (spell_document t) (length (spell_document t)) →
      KeepsLimits (document_value t)

-- Law: each variable of a document is a place in its rule's names.
abbrev pub VariablesArePlaces : Type 0
VariablesArePlaces = (t : DocumentTree) → KeepsPlaces (document_value t)
