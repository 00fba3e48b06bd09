-- Each stack of wants has an ending.
use Rattle.std.proofs.Common.{◌≡◌, ℕ, Bool, true, cond, List, [], ◌∷◌, Some, None, refl, ap, ◌∙◌}
use Rattle.std.proofs.lemmas.Slice.Eq.{bytes_eq-Decides}
use Rattle.prd_grammar.specs.declared.leaf.Keyword.TheVariants.{Document as DocumentKey, That as ThatKey}
use Rattle.prd_grammar.specs.declared.leaf.Keyword.TheVariants.{Then as ThenKey, Do as DoKey, New, Retract, True}
use Rattle.prd_grammar.specs.declared.leaf.BuiltinName.TheVariants.{Unknown}
use Rattle.prd_grammar.specs.declared.leaf.Leaf.{Leaf}
use Rattle.prd_grammar.specs.declared.leaf.Leaf.TheVariants.{Key, Word, TypeName as TypeLeaf, Iri, Builtin, Local}
use Rattle.prd_grammar.specs.declared.leaf.Leaf.TheVariants.{Var}
use Rattle.prd_grammar.specs.declared.leaf.Leaf.TheVariants.{Open as OpenLeaf, Close as CloseLeaf}
use Rattle.prd_grammar.specs.declared.leaf.Leaf.TheVariants.{OpenSquare as OpenSquareLeaf}
use Rattle.prd_grammar.specs.declared.leaf.Leaf.TheVariants.{CloseSquare as CloseSquareLeaf, Equal, Hash}
use Rattle.prd_grammar.specs.declared.leaf.Leaf.TheVariants.{Arrow as ArrowLeaf, Carets as CaretsLeaf}
use Rattle.prd_recognition.specs.declared.want.Want.{Want}
use Rattle.prd_recognition.specs.declared.want.Want.TheVariants.{Document, Prefixes, PrefixName, PrefixIri, GroupHead}
use Rattle.prd_recognition.specs.declared.want.Want.TheVariants.{GroupPriority, Members, Rule, Variable, ForallRest}
use Rattle.prd_recognition.specs.declared.want.Want.TheVariants.{SuchRest, SuchBracket, Block, Actions, DeclVariable}
use Rattle.prd_recognition.specs.declared.want.Want.TheVariants.{DeclRest, SameVariable, Target, TargetTail}
use Rattle.prd_recognition.specs.declared.want.Want.TheVariants.{TargetAfterName, Retracted, RetractedTail}
use Rattle.prd_recognition.specs.declared.want.Want.TheVariants.{RetractedAfterName, Formula, Formulas, ExistsRest}
use Rattle.prd_recognition.specs.declared.want.Want.TheVariants.{BuiltinOfFormula, Tail, AfterName, Term, Terms}
use Rattle.prd_recognition.specs.declared.want.Want.TheVariants.{FuncName}
use Rattle.prd_recognition.specs.declared.want.Want.TheVariants.{Pairs, TypeName, Open, Close, OpenSquare}
use Rattle.prd_recognition.specs.declared.want.Want.TheVariants.{CloseSquare}
use Rattle.prd_recognition.specs.declared.want.Want.TheVariants.{Arrow, Carets, That, Then, Do}
use Rattle.prd_recognition.specs.Following.{followed, after}

-- a block of one action, with its bracket, and other leaves behind it
abbrev short_block : List Leaf → List Leaf
short_block ls = Key Retract ∷ OpenLeaf ∷ Key True ∷ CloseLeaf ∷ CloseLeaf ∷ ls

-- few leaves that end a want, and others behind them
abbrev ending_of : Want → List Leaf → List Leaf
ending_of Document ls = Key DocumentKey ∷ OpenLeaf ∷ CloseLeaf ∷ ls
ending_of Prefixes ls = CloseLeaf ∷ ls
ending_of PrefixName ls = Word [] ∷ ls
ending_of PrefixIri ls = Iri [] ∷ ls
ending_of GroupHead ls = OpenLeaf ∷ CloseLeaf ∷ ls
ending_of GroupPriority ls = OpenLeaf ∷ CloseLeaf ∷ ls
ending_of Members ls = CloseLeaf ∷ ls
ending_of Rule ls = Key DoKey ∷ OpenLeaf ∷ short_block ls
ending_of Variable ls = Var [] ∷ ls
ending_of ForallRest ls = OpenLeaf ∷ Key DoKey ∷ OpenLeaf ∷ short_block (CloseLeaf ∷ ls)
ending_of SuchRest ls = OpenLeaf ∷ Key DoKey ∷ OpenLeaf ∷ short_block (CloseLeaf ∷ ls)
ending_of SuchBracket ls = Key DoKey ∷ OpenLeaf ∷ short_block (CloseLeaf ∷ ls)
ending_of Block ls = short_block ls
ending_of Actions ls = CloseLeaf ∷ ls
ending_of DeclVariable ls = Var [] ∷ Key New ∷ OpenLeaf ∷ CloseLeaf ∷ CloseLeaf ∷ ls
ending_of (DeclRest v) ls = Key New ∷ OpenLeaf ∷ CloseLeaf ∷ CloseLeaf ∷ ls
ending_of (SameVariable v) ls = Var v ∷ ls
ending_of Target ls = Local [] ∷ OpenLeaf ∷ CloseLeaf ∷ ls
ending_of TargetTail ls = Hash ∷ Key True ∷ ls
ending_of TargetAfterName ls = OpenLeaf ∷ CloseLeaf ∷ ls
ending_of Retracted ls = Key True ∷ CloseLeaf ∷ ls
ending_of RetractedTail ls = CloseLeaf ∷ ls
ending_of RetractedAfterName ls = CloseLeaf ∷ ls
ending_of Formula ls = Local [] ∷ OpenLeaf ∷ CloseLeaf ∷ ls
ending_of Formulas ls = CloseLeaf ∷ ls
ending_of ExistsRest ls = OpenLeaf ∷ Local [] ∷ OpenLeaf ∷ CloseLeaf ∷ CloseLeaf ∷ ls
ending_of BuiltinOfFormula ls = Builtin Unknown ∷ OpenLeaf ∷ CloseLeaf ∷ CloseLeaf ∷ ls
ending_of Tail ls = Equal ∷ Key True ∷ ls
ending_of AfterName ls = OpenLeaf ∷ CloseLeaf ∷ ls
ending_of Term ls = Key True ∷ ls
ending_of Terms ls = CloseLeaf ∷ ls
ending_of FuncName ls = Builtin Unknown ∷ ls
ending_of Pairs ls = CloseSquareLeaf ∷ ls
ending_of TypeName ls = TypeLeaf true ∷ ls
ending_of Open ls = OpenLeaf ∷ ls
ending_of Close ls = CloseLeaf ∷ ls
ending_of OpenSquare ls = OpenSquareLeaf ∷ ls
ending_of CloseSquare ls = CloseSquareLeaf ∷ ls
ending_of Arrow ls = ArrowLeaf ∷ ls
ending_of Carets ls = CaretsLeaf ∷ ls
ending_of That ls = Key ThatKey ∷ ls
ending_of Then ls = Key ThenKey ∷ ls
ending_of Do ls = Key DoKey ∷ ls

same_ends : (v : List ℕ) (ws : List Want) (ls : List Leaf) →
    after (Some (SameVariable v ∷ ws)) (Var v ∷ ls) ≡ after (Some ws) ls
same_ends v ws ls =
    ap (λ (same : Bool). after (followed (cond same (Some []) None) ws) ls) ((bytes_eq-Decides v v).1 refl)

one_ends : (w : Want) (ws : List Want) (ls : List Leaf) →
    after (Some (w ∷ ws)) (ending_of w ls) ≡ after (Some ws) ls
one_ends Document ws ls = refl
one_ends Prefixes ws ls = refl
one_ends PrefixName ws ls = refl
one_ends PrefixIri ws ls = refl
one_ends GroupHead ws ls = refl
one_ends GroupPriority ws ls = refl
one_ends Members ws ls = refl
one_ends Rule ws ls = refl
one_ends Variable ws ls = refl
one_ends ForallRest ws ls = refl
one_ends SuchRest ws ls = refl
one_ends SuchBracket ws ls = refl
one_ends Block ws ls = refl
one_ends Actions ws ls = refl
one_ends DeclVariable ws ls = refl
one_ends (DeclRest v) ws ls = refl
one_ends (SameVariable v) ws ls = same_ends v ws ls
one_ends Target ws ls = refl
one_ends TargetTail ws ls = refl
one_ends TargetAfterName ws ls = refl
one_ends Retracted ws ls = refl
one_ends RetractedTail ws ls = refl
one_ends RetractedAfterName ws ls = refl
one_ends Formula ws ls = refl
one_ends Formulas ws ls = refl
one_ends ExistsRest ws ls = refl
one_ends BuiltinOfFormula ws ls = refl
one_ends Tail ws ls = refl
one_ends AfterName ws ls = refl
one_ends Term ws ls = refl
one_ends Terms ws ls = refl
one_ends FuncName ws ls = refl
one_ends Pairs ws ls = refl
one_ends TypeName ws ls = refl
one_ends Open ws ls = refl
one_ends Close ws ls = refl
one_ends OpenSquare ws ls = refl
one_ends CloseSquare ws ls = refl
one_ends Arrow ws ls = refl
one_ends Carets ws ls = refl
one_ends That ws ls = refl
one_ends Then ws ls = refl
one_ends Do ws ls = refl

abbrev ending : List Want → List Leaf
ending [] = []
ending (w ∷ ws) = ending_of w (ending ws)

ending_ends : (ws : List Want) → after (Some ws) (ending ws) ≡ Some []
ending_ends [] = refl
ending_ends (w ∷ ws) = one_ends w ws (ending ws) ∙ ending_ends ws

pub ends : (ws : List Want) → (rest : List Leaf) × (after (Some ws) rest ≡ Some [])
ends ws = (ending ws, ending_ends ws)
