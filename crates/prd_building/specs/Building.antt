-- Building a document as a function on the leaves that are left, within a number of steps. Each word answers what
-- stands at the front and what is left behind it.
--     Builds leaves names o   where the leaves are spelled by a tree, this is the document that it stands for
use Rattle.std.specs.Prelude.{◌≡◌, map, ℕ, zero, suc, ℤ, pos, Bool, if◌then◌else◌, List, [], ◌∷◌, ◌++◌, Option, Some}
use Rattle.std.specs.Prelude.{None, drop, length}
use Rattle.rif_tree.specs.declared.builtin.Func.{Func}
use Rattle.rif_tree.specs.declared.builtin.Pred.{Pred}
use Rattle.rif_tree.specs.declared.tree.Term.{Term}
use Rattle.rif_tree.specs.declared.tree.Term.TheVariants.{Const as ConstTerm, Var as VarTerm, Call as CallTerm}
use Rattle.rif_tree.specs.declared.tree.Formula.{Formula}
use Rattle.rif_tree.specs.declared.tree.Formula.TheVariants.{And, Or, Not, Exists, Equal, Member, Frame, Atom, Holds}
use Rattle.rif_tree.specs.declared.tree.Level.{Level}
use Rattle.rif_tree.specs.declared.rule.Target.{Target}
use Rattle.rif_tree.specs.declared.rule.Target.TheVariants.{Atom as AtomTarget, Frame as FrameTarget}
use Rattle.rif_tree.specs.declared.rule.Target.TheVariants.{Member as MemberTarget}
use Rattle.rif_tree.specs.declared.rule.Action.{Action}
use Rattle.rif_tree.specs.declared.rule.Action.TheVariants.{Assert, Retract, RetractSlot, RetractObject, Modify}
use Rattle.rif_tree.specs.declared.rule.Decl.{Decl}
use Rattle.rif_tree.specs.declared.rule.Decl.TheVariants.{Slot, New}
use Rattle.rif_tree.specs.declared.rule.Rule.{Rule}
use Rattle.rif_tree.specs.declared.rule.Doc.{Doc}
use Rattle.prd_grammar.specs.declared.leaf.Leaf.{Leaf}
use Rattle.prd_building.specs.declared.signs.TermSign.TheVariants.{Variable, Call, Constant}
use Rattle.prd_building.specs.declared.signs.FormulaSign.TheVariants.{And as AndSign, Or as OrSign}
use Rattle.prd_building.specs.declared.signs.FormulaSign.TheVariants.{Not as NotSign, Exists as ExistsSign}
use Rattle.prd_building.specs.declared.signs.FormulaSign.TheVariants.{Grouped as GroupedSign}
use Rattle.prd_building.specs.declared.signs.FormulaSign.TheVariants.{Holds as HoldsSign, Atom as AtomSign}
use Rattle.prd_building.specs.declared.signs.FormulaSign.TheVariants.{Term as FirstSign}
use Rattle.prd_building.specs.declared.signs.TailSign.TheVariants.{Equal as EqualSign, Member as MemberOf}
use Rattle.prd_building.specs.declared.signs.TailSign.TheVariants.{Pairs as PairsSign, Close as CloseSign}
use Rattle.prd_building.specs.declared.signs.TailSign.TheVariants.{Other as OtherSign}
use Rattle.prd_building.specs.declared.signs.ActionSign.TheVariants.{Assert as AssertSign}
use Rattle.prd_building.specs.declared.signs.ActionSign.TheVariants.{Retract as RetractSign}
use Rattle.prd_building.specs.declared.signs.ActionSign.TheVariants.{Modify as ModifySign}
use Rattle.prd_building.specs.declared.signs.MemberSign.{MemberSign}
use Rattle.prd_building.specs.declared.signs.MemberSign.TheVariants.{Close as MembersEnd}
use Rattle.prd_building.specs.declared.signs.MemberSign.TheVariants.{Prefix as PrefixMember}
use Rattle.prd_building.specs.declared.signs.MemberSign.TheVariants.{Group as GroupMember, Rule as RuleMember}
use Rattle.prd_building.specs.declared.rules.Body.{Body}
use Rattle.prd_grammar.specs.Trees.{DocumentTree, spell_document}
use Rattle.prd_grammar.specs.Values.{place_of, level_of, document_value}
use Rattle.prd_building.specs.Signs.{first, closes, closes_square, ends_vars, ends_decls, ends_such, ends_levels}
use Rattle.prd_building.specs.Signs.{begins_such, begins_if, begins_new, member_sign, action_sign, tail_sign}
use Rattle.prd_building.specs.Signs.{formula_sign, is_atom, leaf_name, leaf_priority, leaf_const, const_width}
use Rattle.prd_building.specs.Signs.{term_sign, strategy_width, priority_width}

-- what was read, and the leaves behind it
abbrev pub Read : Type 0 → Type 0
Read X = Option (X × List Leaf)

-- a place, as what is left from there
abbrev pub with_rest : {X : Type 0} → List Leaf → Option (X × ℕ) → Read X
with_rest leaves None = None
with_rest leaves (Some r) = Some (r.0, drop r.1 leaves)

abbrev pub after : {X Y : Type 0} → Read X → (X → List Leaf → Read Y) → Read Y
after None next = None
after (Some r) next = next r.0 r.1

abbrev pub with_front : {X : Type 0} → List X → Read (List X) → Read (List X)
with_front front None = None
with_front front (Some r) = Some (front ++ r.0, r.1)

-- items, up to where their list ends
abbrev pub items_at : {X : Type 0} → (List Leaf → Bool) → (List Leaf → Read X) → ℕ → List Leaf → Read (List X)
items_at ends item zero ss = None
items_at ends item (suc n) ss =
    if ends ss then Some ([], ss) else after (item ss) (λ x rest. with_front (x ∷ []) (items_at ends item n rest))

abbrev pub Names : Type 0
Names = List (List ℕ)

abbrev pub called : Func → List Term → List Leaf → Read Term
called f ts rest = Some (CallTerm f ts, drop 2 rest)

abbrev pub term_at : Names → ℕ → List Leaf → Read Term
term_at names zero ss = None
term_at names (suc n) ss = elim (term_sign ss) [
  | Variable ↦ Some (VarTerm (place_of names (leaf_name (first ss))), drop 1 ss)
  | Call f ↦ after (items_at closes (term_at names n) n (drop 4 ss)) (called f)
  | Constant ↦ Some (ConstTerm (leaf_const (first ss)), drop (const_width (first ss)) ss)
]

-- the terms up to a bracket that closes
abbrev pub terms_at : Names → ℕ → List Leaf → Read (List Term)
terms_at names n ss = items_at closes (term_at names n) n ss

abbrev pub pair_at : Names → ℕ → List Leaf → Read (Term × Term)
pair_at names n ss =
    after (term_at names n ss) (λ s rest. after (term_at names n (drop 1 rest)) (λ v more. Some ((s, v), more)))

-- the pairs up to a square bracket that closes
abbrev pub pairs_at : Names → ℕ → List Leaf → Read (List (Term × Term))
pairs_at names n ss = items_at closes_square (pair_at names n) n ss

abbrev pub var_at : Names → List Leaf → Read ℕ
var_at names ss = Some (place_of names (leaf_name (first ss)), drop 1 ss)

abbrev pub vars_at : Names → ℕ → List Leaf → Read (List ℕ)
vars_at names n ss = items_at ends_vars (var_at names) n ss

-- what goes on behind the first term of a formula
abbrev pub compared_at : Names → ℕ → Term → List Leaf → Read Formula
compared_at names n t ss = elim (tail_sign ss) [
  | EqualSign ↦ after (term_at names n (drop 1 ss)) (λ u rest. Some (Equal t u, rest))
  | MemberOf ↦ after (term_at names n (drop 1 ss)) (λ u rest. Some (Member t u, rest))
  | PairsSign ↦ after (pairs_at names n (drop 1 ss)) (λ ps rest. Some (Frame t ps, drop 1 rest))
  | _ ↦ None
]

-- the bracket of a name's arguments stands behind the leaves of the name
abbrev pub arguments : List Leaf → List Leaf
arguments ss = drop 1 (drop (const_width (first ss)) ss)

abbrev pub compared_from : Names → ℕ → List Leaf → Read Formula
compared_from names n ss = after (term_at names n ss) (λ t rest. compared_at names n t rest)

-- a built-in's arguments are in two brackets
abbrev pub holds_at : Names → ℕ → Pred → List Leaf → Read Formula
holds_at names n p ss = after (terms_at names n ss) (λ ts rest. Some (Holds p ts, drop 2 rest))

abbrev pub named_at : Names → ℕ → List Leaf → Read Formula
named_at names n ss =
    after (terms_at names n (arguments ss)) (λ ts rest. Some (Atom (leaf_const (first ss)) ts, drop 1 rest))

-- a formula that is read behind variables and a bracket
abbrev pub existing : (List Leaf → Read Formula) → Read (List ℕ) → Read Formula
existing inner vars = after vars (λ vs rest. after (inner (drop 1 rest)) (λ f more. Some (Exists vs f, drop 1 more)))

abbrev pub formula_at : Names → ℕ → List Leaf → Read Formula
formula_at names zero ss = None
formula_at names (suc n) ss = elim (formula_sign ss) [
  | AndSign ↦ after (items_at closes (formula_at names n) n (drop 2 ss)) (λ fs rest. Some (And fs, drop 1 rest))
  | OrSign ↦ after (items_at closes (formula_at names n) n (drop 2 ss)) (λ fs rest. Some (Or fs, drop 1 rest))
  | NotSign ↦ after (formula_at names n (drop 2 ss)) (λ f rest. Some (Not f, drop 1 rest))
  | ExistsSign ↦ existing (formula_at names n) (vars_at names n (drop 1 ss))
  | GroupedSign ↦ after (formula_at names n (drop 1 ss)) (λ f rest. Some (f, drop 1 rest))
  | HoldsSign p ↦ holds_at names n p (drop 4 ss)
  | AtomSign ↦ named_at names n ss
  | FirstSign ↦ compared_from names n ss
]

-- the formulas up to a bracket that closes
abbrev pub formulas_at : Names → ℕ → List Leaf → Read (List Formula)
formulas_at names n ss = items_at closes (formula_at names n) n ss

-- what goes on behind the first term of a target
abbrev pub targeted_at : Names → ℕ → Term → List Leaf → Read Target
targeted_at names n o ss = elim (tail_sign ss) [
  | MemberOf ↦ after (term_at names n (drop 1 ss)) (λ c rest. Some (MemberTarget o c, rest))
  | PairsSign ↦ after (pairs_at names n (drop 1 ss)) (λ ps rest. Some (FrameTarget o ps, drop 1 rest))
  | _ ↦ None
]

abbrev pub atom_at : Names → ℕ → List Leaf → Read Target
atom_at names n ss =
    after (terms_at names n (arguments ss)) (λ ts rest. Some (AtomTarget (leaf_const (first ss)) ts, drop 1 rest))

abbrev pub target_at : Names → ℕ → List Leaf → Read Target
target_at names n ss =
    if is_atom ss then atom_at names n ss else after (term_at names n ss) (λ o rest. targeted_at names n o rest)

abbrev pub retracted : Target → List Leaf → Read Action
retracted t rest = Some (Retract t, drop 1 rest)

-- what goes on behind the first term in the brackets of `Retract`
abbrev pub retracted_at : Names → ℕ → Term → List Leaf → Read Action
retracted_at names n o ss = elim (tail_sign ss) [
  | CloseSign ↦ Some (RetractObject o, drop 1 ss)
  | OtherSign ↦ after (term_at names n ss) (λ s rest. Some (RetractSlot o s, drop 1 rest))
  | _ ↦ after (targeted_at names n o ss) retracted
]

-- what stands in the brackets of `Retract`
abbrev pub retract_at : Names → ℕ → List Leaf → Read Action
retract_at names n ss =
    if is_atom ss then after (atom_at names n ss) retracted
    else after (term_at names n ss) (λ o rest. retracted_at names n o rest)

abbrev pub assert_at : Names → ℕ → List Leaf → Read Action
assert_at names n ss = after (target_at names n ss) (λ t rest. Some (Assert t, drop 1 rest))

abbrev pub modify_at : Names → ℕ → List Leaf → Read Action
modify_at names n ss = after (term_at names n ss) (λ o rest.
    after (pairs_at names n (drop 1 rest)) (λ ps more. Some (Modify o ps, drop 2 more)))

abbrev pub action_at : Names → ℕ → List Leaf → Read Action
action_at names n ss = elim (action_sign ss) [
  | AssertSign ↦ assert_at names n (drop 2 ss)
  | RetractSign ↦ retract_at names n (drop 2 ss)
  | ModifySign ↦ modify_at names n (drop 2 ss)
]

abbrev pub actions_at : Names → ℕ → List Leaf → Read (List Action)
actions_at names n ss = items_at closes (action_at names n) n ss

abbrev pub slot_at : Names → ℕ → ℕ → List Leaf → Read Decl
slot_at names n v ss = after (term_at names n ss) (λ o rest.
    after (term_at names n (drop 1 rest)) (λ s more. Some (Slot v o s, drop 4 more)))

abbrev pub decl_at : Names → ℕ → List Leaf → Read Decl
decl_at names n ss =
    if begins_new (drop 2 ss) then Some (New (place_of names (leaf_name (first (drop 1 ss)))), drop 6 ss)
    else slot_at names n (place_of names (leaf_name (first (drop 1 ss)))) (drop 2 ss)

abbrev pub decls_at : Names → ℕ → List Leaf → Read (List Decl)
decls_at names n ss = items_at ends_decls (decl_at names n) n ss

abbrev pub body_of : Option Formula → List Decl → List Action → Body
body_of condition decls actions = record { condition = condition; decls = decls; actions = actions }

-- what stands behind `Do` `(`
abbrev pub block_at : Names → ℕ → List Leaf → Read (List Decl × List Action)
block_at names n ss = after (decls_at names n ss) (λ ds rest.
    after (actions_at names n rest) (λ more end. Some ((ds, more), drop 1 end)))

abbrev pub unconditional_at : Names → ℕ → List Leaf → Read Body
unconditional_at names n ss = after (block_at names n ss) (λ b more. Some (body_of None b.0 b.1, more))

abbrev pub conditional_at : Names → ℕ → List Leaf → Read Body
conditional_at names n ss = after (formula_at names n ss) (λ f rest.
    after (block_at names n (drop 3 rest)) (λ b more. Some (body_of (Some f) b.0 b.1, more)))

abbrev pub body_at : Names → ℕ → List Leaf → Read Body
body_at names n ss =
    if begins_if ss then conditional_at names n (drop 1 ss) else unconditional_at names n (drop 2 ss)

-- the formulas behind `such that`
abbrev pub such_at : Names → ℕ → List Leaf → Read (List Formula)
such_at names n ss = items_at ends_such (formula_at names n) n ss

-- a `Forall`, and the bracket of the inner rule
abbrev pub level_behind : Names → ℕ → List ℕ → List Leaf → Read Level
level_behind names n vs ss =
    if begins_such ss then after (such_at names n (drop 2 ss)) (λ fs more. Some (level_of vs fs, drop 1 more))
    else Some (level_of vs [], drop 1 ss)

abbrev pub level_at : Names → ℕ → List Leaf → Read Level
level_at names n ss = after (vars_at names n (drop 1 ss)) (λ vs rest. level_behind names n vs rest)

abbrev pub levels_at : Names → ℕ → List Leaf → Read (List Level)
levels_at names n ss = items_at ends_levels (level_at names n) n ss

abbrev pub rule_of : ℤ → Names → List Level → Body → Rule
rule_of p names levels body = record {
  priority = p;
  names = names;
  levels = levels;
  condition = body.condition;
  decls = body.decls;
  actions = body.actions;
}

-- the levels, and what they are around
abbrev pub parts_at : Names → ℕ → List Leaf → Read (List Level × Body)
parts_at names n ss = after (levels_at names n ss) (λ levels rest.
    after (body_at names n rest) (λ body more. Some ((levels, body), drop (length levels) more)))

abbrev pub rule_at : ℤ → Names → ℕ → List Leaf → Read Rule
rule_at p names n ss = after (parts_at names n ss) (λ parts rest. Some (rule_of p names parts.0 parts.1, rest))

-- behind a strategy
abbrev pub behind_strategy : List Leaf → List Leaf
behind_strategy ss = drop (strategy_width (first ss)) ss

-- behind a priority and the bracket of the members
abbrev pub behind_priority : List Leaf → List Leaf
behind_priority ss = drop 1 (drop (priority_width (first ss)) ss)

-- the groups that are open behind the leaves of a member that is no rule, where one with the priority is around it;
-- and what is left behind these leaves
abbrev pub opened_by : MemberSign → ℤ → List Leaf → List ℤ
opened_by MembersEnd p ss = []
opened_by PrefixMember p ss = p ∷ []
opened_by GroupMember p ss = leaf_priority p (first (behind_strategy (drop 1 ss))) ∷ p ∷ []
opened_by RuleMember p ss = p ∷ []

abbrev pub behind_member : MemberSign → List Leaf → List Leaf
behind_member MembersEnd ss = drop 1 ss
behind_member PrefixMember ss = drop 5 ss
behind_member GroupMember ss = behind_priority (behind_strategy (drop 1 ss))
behind_member RuleMember ss = ss

-- the rule at the front, which has the first of these names
abbrev pub next_rule_at : ℤ → List Names → ℕ → List Leaf → Read Rule
next_rule_at p [] n ss = None
next_rule_at p (names ∷ more) n ss = rule_at p names n ss

-- the rules up to where these groups end, which are open, each with its priority, the innermost first; with the names
-- of each rule, and the number of steps for each rule
abbrev pub members_at : ℕ → List ℤ → List Names → ℕ → List Leaf → Read (List Rule)
members_at most ps all zero ss = None
members_at most [] all (suc n) ss = Some ([], ss)
members_at most (p ∷ ps) all (suc n) ss = elim (member_sign ss) [
  | RuleMember ↦ after (next_rule_at p all most ss)
      (λ r rest. with_front (r ∷ []) (members_at most (p ∷ ps) (drop 1 all) n rest))
  | MembersEnd ↦ members_at most (opened_by MembersEnd p ss ++ ps) all n (behind_member MembersEnd ss)
  | PrefixMember ↦ members_at most (opened_by PrefixMember p ss ++ ps) all n (behind_member PrefixMember ss)
  | GroupMember ↦ members_at most (opened_by GroupMember p ss ++ ps) all n (behind_member GroupMember ss)
]

abbrev pub doc_of : Read (List Rule) → Option Doc
doc_of None = None
doc_of (Some r) = Some (record { rules = r.0 })

-- the document of all leaves, with the names of each rule
abbrev pub doc_at : List Names → List Leaf → Option Doc
doc_at all ss = doc_of (members_at (length ss) (pos 0 ∷ []) all (length ss) (drop 2 ss))

-- what is built of the leaves of a tree, with the names of its rules, is the tree's value
abbrev pub Builds : List Leaf → List Names → Option Doc → Type 0
Builds leaves all o =
    (t : DocumentTree) → spell_document t ≡ leaves → all ≡ map (λ r. r.names) (document_value t).rules →
    o ≡ Some (document_value t)
