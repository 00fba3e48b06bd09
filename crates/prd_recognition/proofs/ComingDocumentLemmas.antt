-- What came whole is spelled by a document.
use Rattle.std.proofs.Common.{◌≡◌, List, [], ◌∷◌, Some, None, refl, ap, ◌∙◌, sym}
use Rattle.std.specs.declared.option.Option.{Option}
use Rattle.prd_grammar.specs.declared.leaf.Keyword.TheVariants.{Document as DocumentKey, Prefix, Group}
use Rattle.prd_grammar.specs.declared.leaf.Leaf.{Leaf}
use Rattle.prd_grammar.specs.declared.leaf.Leaf.TheVariants.{Key, Int, Iri, Curie, Open as OpenLeaf}
use Rattle.prd_grammar.specs.declared.leaf.Leaf.TheVariants.{Close as CloseLeaf}
use Rattle.prd_recognition.specs.declared.want.Want.{Want}
use Rattle.prd_recognition.specs.declared.want.Want.TheVariants.{Document, Prefixes, PrefixName, PrefixIri, GroupHead}
use Rattle.prd_recognition.specs.declared.want.Want.TheVariants.{GroupPriority, Members, Rule, Variable, ForallRest}
use Rattle.prd_recognition.specs.declared.want.Want.TheVariants.{SuchRest, SuchBracket, Block, Actions, DeclVariable}
use Rattle.prd_recognition.specs.declared.want.Want.TheVariants.{DeclRest, SameVariable, Target, TargetTail}
use Rattle.prd_recognition.specs.declared.want.Want.TheVariants.{TargetAfterName, Retracted, RetractedTail}
use Rattle.prd_recognition.specs.declared.want.Want.TheVariants.{RetractedAfterName, Formula, Formulas, ExistsRest}
use Rattle.prd_recognition.specs.declared.want.Want.TheVariants.{BuiltinOfFormula, Tail, AfterName, Term, Terms}
use Rattle.prd_recognition.specs.declared.want.Want.TheVariants.{FuncName}
use Rattle.prd_recognition.specs.declared.want.Want.TheVariants.{Pairs, TypeName, Open, Close, OpenSquare}
use Rattle.prd_recognition.specs.declared.want.Want.TheVariants.{CloseSquare}
use Rattle.prd_recognition.specs.declared.want.Want.TheVariants.{Arrow, Carets, That, Then, Do}
use Rattle.prd_recognition.specs.Following.{next, followed, rule_next, after, at_first}
use Rattle.prd_grammar.specs.Refusals.{IsDocument}
use Rattle.prd_grammar.specs.Trees.{StrategyTree, strategy_iri, strategy_curie, no_strategy, no_priority, priority}
use Rattle.prd_grammar.specs.Trees.{GroupTree, group, no_members, rule_member, group_member, no_group, one_group}
use Rattle.prd_grammar.specs.Trees.{prefix, document}
use Rattle.prd_grammar.proofs.CallerLemmas.{put_strategy, put_group, put_document_alone}
use Rattle.prd_recognition.proofs.ComingPieces.{PriorityLeft, priority_left, put_priority_left, Pieces, put_all}
use Rattle.prd_recognition.proofs.ComingPieces.{Builds}
use Rattle.prd_recognition.proofs.ComingPieces.{Joins, with_others}
use Rattle.prd_recognition.proofs.ComingTermLemmas.{open_begins, close_begins, open_square_begins}
use Rattle.prd_recognition.proofs.ComingTermLemmas.{close_square_begins}
use Rattle.prd_recognition.proofs.ComingTermLemmas.{arrow_begins, carets_begin, that_begins, then_begins, do_begins}
use Rattle.prd_recognition.proofs.ComingTermLemmas.{type_begins, prefix_name_begins, prefix_iri_begins}
use Rattle.prd_recognition.proofs.ComingTermLemmas.{variable_begins}
use Rattle.prd_recognition.proofs.ComingTermLemmas.{same_begins, func_begins, term_begins, terms_begin, pairs_begin}
use Rattle.prd_recognition.proofs.ComingFormulaLemmas.{tail_begins, after_name_begins, builtin_begins, exists_begins}
use Rattle.prd_recognition.proofs.ComingFormulaLemmas.{formula_begins, formulas_begin}
use Rattle.prd_recognition.proofs.ComingActionLemmas.{target_tail_begins, target_after_name_begins, target_begins}
use Rattle.prd_recognition.proofs.ComingActionLemmas.{retracted_tail_begins, retracted_after_name_begins}
use Rattle.prd_recognition.proofs.ComingActionLemmas.{retracted_begins}
use Rattle.prd_recognition.proofs.ComingActionLemmas.{actions_begin, decl_rest_begins, decl_begins, block_begins}
use Rattle.prd_recognition.proofs.ComingRuleLemmas.{such_begins, forall_begins, rule_begins, bracket_begins}

-- groups

abbrev strategy_group : StrategyTree → PriorityLeft → GroupTree
strategy_group s (priority_left p ms) = group s p ms

put_strategy_group : (s : StrategyTree) (x : PriorityLeft) (ls : List Leaf) →
    put_group (strategy_group s x) ls ≡ put_strategy s (put_priority_left x ls)
put_strategy_group s (priority_left p ms) ls = refl

head_begins : (l : Leaf) → Builds (next GroupHead l) GroupHead l
head_begins (Iri t) = λ ws xs.
    (strategy_group (strategy_iri t) xs.0, xs.1, put_strategy_group (strategy_iri t) xs.0 _)
head_begins (Curie t) = λ ws xs.
    (strategy_group (strategy_curie t) xs.0, xs.1, put_strategy_group (strategy_curie t) xs.0 _)
head_begins (Int z) = λ ws xs. (group no_strategy (priority z) xs.1.0, xs.1.1, refl)
head_begins OpenLeaf = λ ws xs. (group no_strategy no_priority xs.0, xs.1, refl)
head_begins _ = tt

priority_begins : (l : Leaf) → Builds (next GroupPriority l) GroupPriority l
priority_begins (Int z) = λ ws xs. (priority_left (priority z) xs.1.0, xs.1.1, refl)
priority_begins OpenLeaf = λ ws xs. (priority_left no_priority xs.0, xs.1, refl)
priority_begins _ = tt

join_members : Joins Rule (Members ∷ []) Members
join_members r ws xs = (rule_member r xs.0, xs.1, refl)

members_begin : (l : Leaf) → Builds (next Members l) Members l
members_begin CloseLeaf = λ ws xs. (no_members, xs, refl)
members_begin (Key Group) = λ ws xs. (group_member xs.0 xs.1.0, xs.1.1, refl)
members_begin l = with_others (rule_next l) (Members ∷ []) Rule Members l (rule_begins l) join_members

-- documents

prefixes_begin : (l : Leaf) → Builds (next Prefixes l) Prefixes l
prefixes_begin CloseLeaf = λ ws xs. (no_group, xs, refl)
prefixes_begin (Key Prefix) = λ ws xs.
    let name = xs.1 in let iri = name.1 in let behind = iri.1.1 in
    (prefix name.0 iri.0 behind.0, behind.1, refl)
prefixes_begin (Key Group) = λ ws xs. (one_group xs.0, xs.1.1, refl)
prefixes_begin _ = tt

document_begins : (l : Leaf) → Builds (next Document l) Document l
document_begins (Key DocumentKey) = λ ws xs. (document xs.1.0, xs.1.1, refl)
document_begins _ = tt

-- each want

begins : (w : Want) (l : Leaf) → Builds (next w l) w l
begins Document l = document_begins l
begins Prefixes l = prefixes_begin l
begins PrefixName l = prefix_name_begins l
begins PrefixIri l = prefix_iri_begins l
begins GroupHead l = head_begins l
begins GroupPriority l = priority_begins l
begins Members l = members_begin l
begins Rule l = rule_begins l
begins Variable l = variable_begins l
begins ForallRest l = forall_begins l
begins SuchRest l = such_begins l
begins SuchBracket l = bracket_begins l
begins Block l = block_begins l
begins Actions l = actions_begin l
begins DeclVariable l = decl_begins l
begins (DeclRest v) l = decl_rest_begins v l
begins (SameVariable v) l = same_begins v l
begins Target l = target_begins l
begins TargetTail l = target_tail_begins l
begins TargetAfterName l = target_after_name_begins l
begins Retracted l = retracted_begins l
begins RetractedTail l = retracted_tail_begins l
begins RetractedAfterName l = retracted_after_name_begins l
begins Formula l = formula_begins l
begins Formulas l = formulas_begin l
begins ExistsRest l = exists_begins l
begins BuiltinOfFormula l = builtin_begins l
begins Tail l = tail_begins l
begins AfterName l = after_name_begins l
begins Term l = term_begins l
begins Terms l = terms_begin l
begins FuncName l = func_begins l
begins Pairs l = pairs_begin l
begins TypeName l = type_begins l
begins Open l = open_begins l
begins Close l = close_begins l
begins OpenSquare l = open_square_begins l
begins CloseSquare l = close_square_begins l
begins Arrow l = arrow_begins l
begins Carets l = carets_begin l
begins That l = that_begins l
begins Then l = then_begins l
begins Do l = do_begins l

-- what came

-- the leaves are a piece for each want
abbrev Spells : Option (List Want) → List Leaf → Type 0
Spells None ls = ⊥
Spells (Some ws) ls = (xs : Pieces ws) × (put_all ws xs ≡ ls)

-- pieces for what a leaf leads to are, behind the leaf, pieces for what it stands in the place of
spelled_step : (m : Option (List Want)) (w : Want) (ws : List Want) (l : Leaf) (ls : List Leaf) →
    Builds m w l → Spells (followed m ws) ls → Spells (Some (w ∷ ws)) (l ∷ ls)
spelled_step None w ws l ls builds behind = absurd behind
spelled_step (Some more) w ws l ls builds behind =
    let first = builds ws behind.0 in ((first.0, first.1), first.2 ∙ ap (λ r. l ∷ r) behind.1)

-- nothing comes behind a leaf that can't come
none_stays : (ls : List Leaf) → after None ls ≡ None
none_stays [] = refl
none_stays (l ∷ ls) = none_stays ls

-- leaves behind which nothing has to come are pieces of what had to
spelled : (ls : List Leaf) (state : Option (List Want)) → after state ls ≡ Some [] → Spells state ls
spelled [] None e = absurd (cc)
spelled [] (Some []) e = (tt, refl)
spelled [] (Some (w ∷ ws)) e = absurd (cc)
spelled (l ∷ ls) None e = absurd (let none = none_stays ls in cc)
spelled (l ∷ ls) (Some []) e = absurd (let none = none_stays ls in cc)
spelled (l ∷ ls) (Some (w ∷ ws)) e =
    spelled_step (next w l) w ws l ls (begins w l) (spelled ls (followed (next w l) ws) e)

pub comes : (ls : List Leaf) → after at_first ls ≡ Some [] → IsDocument ls
comes ls whole =
    let found = spelled ls at_first whole in (found.0.0, sym (put_document_alone found.0.0) ∙ found.1)
