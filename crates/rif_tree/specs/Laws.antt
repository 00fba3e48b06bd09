-- What the words for variables and names promise.
--     AreSame us vs            two lists have the same variables
--     AreAmong us vs           each variable of the one is among the other
--     ArePartsFree             what a formula has free as a part is what it has free
--     IsReadinessGrowing       what is ready is ready where more variables are bound
--     IsReadinessOfMembers     readiness goes by which variables are bound, whatever their order and however often
--     IsScopeOfMembers         and scope by which variables hold
--     AreFuncsNamed, ArePredsNamed, AreBuiltinsNamed, AreKeywordsNamed
--                              a text is found as what it is the name of, and as nothing else
-- Source: our own (docs/PROFILE.md, "Ready order"; docs/FORMATS.md, "Grammar" and "Built-ins").
use Rattle.std.specs.Prelude.{◌≡◌, ◌↔◌, ℕ, true, List, Some}
use Rattle.rif_tree.specs.declared.builtin.Builtin.{Builtin}
use Rattle.rif_tree.specs.declared.builtin.Func.{Func}
use Rattle.rif_tree.specs.declared.builtin.Pred.{Pred}
use Rattle.rif_tree.specs.declared.keyword.Keyword.{Keyword}
use Rattle.rif_tree.specs.declared.tree.Formula.{Formula}
use Rattle.rif_tree.specs.BuiltinNames.{func_name, func_named, pred_name, pred_named, builtin_iri, builtin_named}
use Rattle.rif_tree.specs.Keywords.{keyword_text, keyword_named}
use Rattle.rif_tree.specs.Ready.{part_of, is_ready}
use Rattle.rif_tree.specs.Scoped.{is_scoped}
use Rattle.rif_tree.specs.Variables.{has_variable, free_of}

abbrev pub AreSame : List ℕ → List ℕ → Type 0
AreSame us vs = (v : ℕ) → has_variable us v ≡ has_variable vs v

abbrev pub AreAmong : List ℕ → List ℕ → Type 0
AreAmong us vs = (v : ℕ) → has_variable us v ≡ true → has_variable vs v ≡ true

abbrev pub ArePartsFree : Type 0
ArePartsFree = (f : Formula) → (part_of f).free ≡ free_of f

abbrev pub IsReadinessGrowing : Type 0
IsReadinessGrowing = (f : Formula) (fewer more : List ℕ) → AreAmong fewer more → is_ready fewer f ≡ true
    → is_ready more f ≡ true

abbrev pub IsReadinessOfMembers : Type 0
IsReadinessOfMembers = (f : Formula) (us vs : List ℕ) → AreSame us vs → is_ready us f ≡ is_ready vs f

abbrev pub IsScopeOfMembers : Type 0
IsScopeOfMembers = (f : Formula) (us vs : List ℕ) → AreSame us vs → is_scoped us f ≡ is_scoped vs f

abbrev pub AreFuncsNamed : Type 0
AreFuncsNamed = (f : Func) (name : List ℕ) → (func_named name ≡ Some f) ↔ (name ≡ func_name f)

abbrev pub ArePredsNamed : Type 0
ArePredsNamed = (p : Pred) (name : List ℕ) → (pred_named name ≡ Some p) ↔ (name ≡ pred_name p)

abbrev pub AreBuiltinsNamed : Type 0
AreBuiltinsNamed = (b : Builtin) (iri : List ℕ) → (builtin_named iri ≡ Some b) ↔ (iri ≡ builtin_iri b)

abbrev pub AreKeywordsNamed : Type 0
AreKeywordsNamed = (k : Keyword) (text : List ℕ) → (keyword_named text ≡ Some k) ↔ (text ≡ keyword_text k)
