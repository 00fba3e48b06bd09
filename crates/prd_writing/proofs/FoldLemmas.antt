-- The equations of spelling at terms and formulas with others inside them.
use Rattle.std.proofs.Common.{◌≡◌, ℕ, List, ap, ◌∙◌, sym, map, ◌++◌, codes}
use Rattle.rif_tree.specs.declared.builtin.Func.{Func}
use Rattle.rif_tree.specs.declared.builtin.Pred.{Pred}
use Rattle.rif_values.specs.declared.constant.Const.{Const}
use Rattle.rif_tree.specs.declared.tree.Term.{Term}
use Rattle.rif_tree.specs.declared.tree.Term.TheOpen.{Const as ConstLayer, Var as VarLayer, Call as CallLayer}
use Rattle.rif_tree.specs.declared.tree.Term.TheVariants.{Const as ConstTerm, Var as VarTerm, Call, rolls-Const}
use Rattle.rif_tree.specs.declared.tree.Term.TheVariants.{rolls-Var, rolls-Call}
use Rattle.rif_tree.specs.declared.tree.Term.TheFolds.{fold-roll-Term}
use Rattle.rif_tree.specs.declared.tree.Formula.{Formula}
use Rattle.rif_tree.specs.declared.tree.Formula.TheOpen.{And as AndLayer, Or as OrLayer, Not as NotLayer}
use Rattle.rif_tree.specs.declared.tree.Formula.TheOpen.{Exists as ExistsLayer, Equal as EqualLayer}
use Rattle.rif_tree.specs.declared.tree.Formula.TheOpen.{Member as MemberLayer, Frame as FrameLayer}
use Rattle.rif_tree.specs.declared.tree.Formula.TheOpen.{Atom as AtomLayer, Holds as HoldsLayer}
use Rattle.rif_tree.specs.declared.tree.Formula.TheVariants.{And, Or, Not, Exists, Equal, Member, Frame, Atom, Holds}
use Rattle.rif_tree.specs.declared.tree.Formula.TheVariants.{rolls-And, rolls-Or, rolls-Not, rolls-Exists}
use Rattle.rif_tree.specs.declared.tree.Formula.TheVariants.{rolls-Equal, rolls-Member, rolls-Frame, rolls-Atom}
use Rattle.rif_tree.specs.declared.tree.Formula.TheVariants.{rolls-Holds}
use Rattle.rif_tree.specs.declared.tree.Formula.TheFolds.{fold-roll-Formula}
use Rattle.rif_lex.specs.Spelling.{Gap, Spelled, spelled_text}
use Rattle.prd_writing.specs.Canonical.{Writing, func_text, pred_text, external_spelling, term_step, term_spelling}
use Rattle.prd_writing.specs.Canonical.{const_spelling, var_spelling, bracket_spelling, not_spelling, exists_spelling}
use Rattle.prd_writing.specs.Canonical.{equal_spelling, member_spelling, frame_spelling, atom_spelling, formula_step}
use Rattle.prd_writing.specs.Canonical.{formula_spelling}
use Rattle.prd_writing.proofs.WritingLemmas.{IsAppended}

pub spelled_call : (names : List (List ℕ)) (f : Func) (ts : List Term) (gap : Gap) (rest : List Spelled) →
    term_spelling names (Call f ts) gap rest ≡ external_spelling (func_text f) (map (term_spelling names) ts) gap rest
spelled_call names f ts gap rest =
    ap (λ (t : Term). term_spelling names t gap rest) (sym (rolls-Call f ts))
    ∙ ap (λ (k : Writing). k gap rest) (fold-roll-Term Writing (term_step names) (CallLayer f ts))

pub call_written : (names : List (List ℕ)) (t : Term) (f : Func) (ts arguments : List Term) (old new : List ℕ) →
    t ≡ Call f ts → arguments ≡ ts →
    IsAppended old new (external_spelling (func_text f) (map (term_spelling names) arguments)) →
    IsAppended old new (term_spelling names t)
call_written names t f ts arguments old new is same appended gap rest =
    appended gap rest
    ∙ (ap (λ (x : List Term). old
    ++ spelled_text (external_spelling (func_text f) (map (term_spelling names) x) gap rest)) same
    ∙ (ap (λ ss. old ++ spelled_text ss) (sym (spelled_call names f ts gap rest))
    ∙ ap (λ (x : Term). old ++ spelled_text (term_spelling names x gap rest)) (sym is)))

pub spelled_and : (names : List (List ℕ)) (fs : List Formula) (gap : Gap) (rest : List Spelled) →
    formula_spelling names (And fs) gap rest
    ≡ bracket_spelling (codes "And") (map (formula_spelling names) fs) gap rest
spelled_and names fs gap rest =
    ap (λ (f : Formula). formula_spelling names f gap rest) (sym (rolls-And fs))
    ∙ ap (λ (k : Writing). k gap rest) (fold-roll-Formula Writing (formula_step names) (AndLayer fs))

pub spelled_or : (names : List (List ℕ)) (fs : List Formula) (gap : Gap) (rest : List Spelled) →
    formula_spelling names (Or fs) gap rest ≡ bracket_spelling (codes "Or") (map (formula_spelling names) fs) gap rest
spelled_or names fs gap rest =
    ap (λ (f : Formula). formula_spelling names f gap rest) (sym (rolls-Or fs))
    ∙ ap (λ (k : Writing). k gap rest) (fold-roll-Formula Writing (formula_step names) (OrLayer fs))

pub spelled_not : (names : List (List ℕ)) (f : Formula) (gap : Gap) (rest : List Spelled) →
    formula_spelling names (Not f) gap rest ≡ not_spelling (formula_spelling names f) gap rest
spelled_not names f gap rest =
    ap (λ (f : Formula). formula_spelling names f gap rest) (sym (rolls-Not f))
    ∙ ap (λ (k : Writing). k gap rest) (fold-roll-Formula Writing (formula_step names) (NotLayer f))

pub spelled_exists : (names : List (List ℕ)) (vs : List ℕ) (f : Formula) (gap : Gap) (rest : List Spelled) →
    formula_spelling names (Exists vs f) gap rest
    ≡ exists_spelling (map (var_spelling names) vs) (formula_spelling names f) gap rest
spelled_exists names vs f gap rest =
    ap (λ (f : Formula). formula_spelling names f gap rest) (sym (rolls-Exists vs f))
    ∙ ap (λ (k : Writing). k gap rest) (fold-roll-Formula Writing (formula_step names) (ExistsLayer vs f))

pub spelled_const : (names : List (List ℕ)) (c : Const) (gap : Gap) (rest : List Spelled) →
    term_spelling names (ConstTerm c) gap rest ≡ const_spelling c gap rest
spelled_const names c gap rest =
    ap (λ (t : Term). term_spelling names t gap rest) (sym (rolls-Const c))
    ∙ ap (λ (k : Writing). k gap rest) (fold-roll-Term Writing (term_step names) (ConstLayer c))

pub spelled_var : (names : List (List ℕ)) (v : ℕ) (gap : Gap) (rest : List Spelled) →
    term_spelling names (VarTerm v) gap rest ≡ var_spelling names v gap rest
spelled_var names v gap rest =
    ap (λ (t : Term). term_spelling names t gap rest) (sym (rolls-Var v))
    ∙ ap (λ (k : Writing). k gap rest) (fold-roll-Term Writing (term_step names) (VarLayer v))

pub spelled_equal : (names : List (List ℕ)) (t u : Term) (gap : Gap) (rest : List Spelled) →
    formula_spelling names (Equal t u) gap rest ≡ equal_spelling names t u gap rest
spelled_equal names t u gap rest =
    ap (λ (f : Formula). formula_spelling names f gap rest) (sym (rolls-Equal t u))
    ∙ ap (λ (k : Writing). k gap rest) (fold-roll-Formula Writing (formula_step names) (EqualLayer t u))

pub spelled_member : (names : List (List ℕ)) (o c : Term) (gap : Gap) (rest : List Spelled) →
    formula_spelling names (Member o c) gap rest ≡ member_spelling names o c gap rest
spelled_member names o c gap rest =
    ap (λ (f : Formula). formula_spelling names f gap rest) (sym (rolls-Member o c))
    ∙ ap (λ (k : Writing). k gap rest) (fold-roll-Formula Writing (formula_step names) (MemberLayer o c))

pub spelled_frame : (names : List (List ℕ)) (o : Term) (ps : List (Term × Term)) (gap : Gap) (rest : List Spelled) →
    formula_spelling names (Frame o ps) gap rest ≡ frame_spelling names o ps gap rest
spelled_frame names o ps gap rest =
    ap (λ (f : Formula). formula_spelling names f gap rest) (sym (rolls-Frame o ps))
    ∙ ap (λ (k : Writing). k gap rest) (fold-roll-Formula Writing (formula_step names) (FrameLayer o ps))

pub spelled_atom : (names : List (List ℕ)) (p : Const) (ts : List Term) (gap : Gap) (rest : List Spelled) →
    formula_spelling names (Atom p ts) gap rest ≡ atom_spelling names p ts gap rest
spelled_atom names p ts gap rest =
    ap (λ (f : Formula). formula_spelling names f gap rest) (sym (rolls-Atom p ts))
    ∙ ap (λ (k : Writing). k gap rest) (fold-roll-Formula Writing (formula_step names) (AtomLayer p ts))

pub spelled_holds : (names : List (List ℕ)) (p : Pred) (ts : List Term) (gap : Gap) (rest : List Spelled) →
    formula_spelling names (Holds p ts) gap rest
    ≡ external_spelling (pred_text p) (map (term_spelling names) ts) gap rest
spelled_holds names p ts gap rest =
    ap (λ (f : Formula). formula_spelling names f gap rest) (sym (rolls-Holds p ts))
    ∙ ap (λ (k : Writing). k gap rest) (fold-roll-Formula Writing (formula_step names) (HoldsLayer p ts))
