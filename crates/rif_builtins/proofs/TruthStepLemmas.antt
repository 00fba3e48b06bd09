-- Readiness at a row, rows that stay, and rows on the way to others.
use Rattle.std.proofs.Common.{◌≡◌, ◌↔◌, ◌⊎◌, ℕ, Bool, true, false, cond, not, ◌&&◌, ◌||◌, List, [], ◌∷◌, ◌++◌}
use Rattle.std.proofs.Common.{Some, None, ap, ap₂, ◌∙◌, sym, refl, subst, append_assoc, inl, inr}
use Rattle.std.specs.List.{Contains}
use Rattle.std.specs.declared.option.Option.{Option}
use Rattle.std.proofs.lemmas.List.Elements.{Contains-push, Contains-append_cases, Contains-append_left}
use Rattle.std.proofs.lemmas.List.Elements.{Contains-append_right, All-contains, All-from_recursion}
use Rattle.rif_values.specs.declared.constant.Const.{Const}
use Rattle.rif_values.specs.Bindings.{Row, IsBinding, value_at}
use Rattle.rif_tree.specs.declared.tree.Term.{Term}
use Rattle.rif_tree.specs.Laws.{AreSame}
use Rattle.rif_tree.specs.Ready.{pattern_ready, equal_ready, is_unbound_in}
use Rattle.rif_tree.specs.Variables.{has_variable, has_all, variable_of, variables_of}
use Rattle.rif_tree.specs.Variables.{called_variables_of}
use Rattle.rif_tree.proofs.CallerLemmas.{has_all_same}
use Rattle.rif_tree.proofs.CallerLemmas.{among_front, among_back}
use Rattle.rif_builtins.specs.ExtensionLaws.{variables_in, IsExtension}
use Rattle.rif_builtins.specs.Truth.{AgreeOn, IsSome}
use Rattle.rif_builtins.proofs.FilledLemmas.{filled, value_filled, order_filled, agree_kept}
use Rattle.rif_builtins.proofs.MemberLemmas.{is_row, row_same, row_in}
use Rattle.rif_builtins.proofs.RowLemmas.{is_there, has_is_there, value_has, extends_itself}
use Rattle.rif_builtins.proofs.RowLemmas.{extends_same, extends_on, same_within, same_extension}

pub iff_then : {A B C : Type 0} → A ↔ B → B ↔ C → A ↔ C
iff_then first later = (λ a. later.0 (first.0 a), λ c. first.1 (later.1 c))

-- ---- readiness goes by which variables are bound

pub pattern_same : (us vs : List ℕ) (ts : List Term) → AreSame us vs → pattern_ready us ts ≡ pattern_ready vs ts
pattern_same us vs [] same = refl
pattern_same us vs (t ∷ ts) same =
    ap₂ (λ a b. a && b) (has_all_same us vs (called_variables_of t) same) (pattern_same us vs ts same)

unbound_same : (us vs : List ℕ) (o : Option ℕ) → AreSame us vs → is_unbound_in us o ≡ is_unbound_in vs o
unbound_same us vs None same = refl
unbound_same us vs (Some v) same = ap not (same v)

pub equal_same : (us vs : List ℕ) (a b : Term) → AreSame us vs → equal_ready us a b ≡ equal_ready vs a b
equal_same us vs a b same =
    let left = has_all_same us vs (variables_of a) same in
    let right = has_all_same us vs (variables_of b) same in
    let first = unbound_same us vs (variable_of a) same in
    let second = unbound_same us vs (variable_of b) same in
    λ i. (left i && right i) || ((first i && right i) || (second i && left i))

-- ---- one row

pub alone_to : (row next : Row) → Contains (row ∷ []) next → next ≡ row
alone_to row next there = row_same next row (or_false (is_row next row) ((row_in (row ∷ []) next).1 there))
  where
    or_false : (a : Bool) → (a || false) ≡ true → a ≡ true
    or_false true is = refl
    or_false false is = is

pub alone_from : (row : Row) → Contains (row ∷ []) row
alone_from row = Contains-push [] row

-- where all variables are bound, a row is extended by itself alone
module _ (row next : Row) (vs us : List ℕ) (in_order : IsBinding row) (same : AreSame (variables_in row) vs)
    (all : has_all vs us ≡ true) where
  pub stays : IsExtension row (vs ++ us) next → next ≡ row
  stays e =
      sym (same_extension row row next vs (extends_itself row vs in_order same)
      (extends_same row next (vs ++ us) vs (λ v. sym (same_within vs us all v)) e) e.values)

  pub test_exact : (P : Row → Type 0)
      → (Contains (row ∷ []) next × P next) ↔ (IsExtension row (vs ++ us) next × P next)
  test_exact P = (
    λ both. (
      subst (λ r. IsExtension row (vs ++ us) r) (sym (alone_to row next both.0))
          (extends_same row row vs (vs ++ us) (same_within vs us all) (extends_itself row vs in_order same)),
      both.1,
    ),
    λ both. (subst (λ r. Contains (row ∷ []) r) (sym (stays both.0)) (alone_from row), both.1),
  )

-- ---- a row on the way to another

module _ (row next : Row) (vs us ws : List ℕ) (same : AreSame (variables_in row) vs)
    (e : IsExtension row (vs ++ (us ++ ws)) next) where
  -- what next has of the first variables
  abbrev pub cut : Row
  cut = filled (vs ++ us) next []

  value_cut : (v : ℕ) (b : Bool) → has_variable (vs ++ us) v ≡ b → value_at cut v ≡ cond b (value_at next v) None
  value_cut v b is = value_filled (vs ++ us) next [] v ∙ ap (λ c. cond c (value_at next v) None) is

  is_in_next : (v : ℕ) → has_variable (vs ++ us) v ≡ true → is_there (value_at next v) ≡ true
  is_in_next v has =
      sym (has_is_there next v) ∙ e.variables v
      ∙ ap (λ (xs : List ℕ). has_variable xs v) (sym (append_assoc vs us ws)) ∙ among_front (vs ++ us) ws v has

  cut_has : (v : ℕ) (b : Bool) → has_variable (vs ++ us) v ≡ b
      → has_variable (variables_in cut) v ≡ has_variable (vs ++ us) v
  cut_has v true is =
      has_is_there cut v ∙ ap is_there (value_cut v true is) ∙ is_in_next v is ∙ sym is
  cut_has v false is = has_is_there cut v ∙ ap is_there (value_cut v false is) ∙ sym is

  pub cut_first : IsExtension row (vs ++ us) cut
  cut_first = record {
    in_order = order_filled (vs ++ us) next [] tt;
    values = λ v c is. value_cut v true (among_front vs us v (sym (same v) ∙ value_has row v c is)) ∙ e.values v c is;
    variables = λ v. cut_has v (has_variable (vs ++ us) v) refl;
  }

  cut_keeps : (v : ℕ) (c : Const) (b : Bool) → cond b (value_at next v) None ≡ Some c → value_at next v ≡ Some c
  cut_keeps v c true is = is
  cut_keeps v c false is = absurd (cc is)

  pub cut_rest : IsExtension cut ((vs ++ us) ++ ws) next
  cut_rest = record {
    in_order = e.in_order;
    values = λ v c is. cut_keeps v c (has_variable (vs ++ us) v)
        (sym (value_cut v (has_variable (vs ++ us) v) refl) ∙ is);
    variables = λ v. e.variables v ∙ ap (λ (xs : List ℕ). has_variable xs v) (sym (append_assoc vs us ws));
  }

  pub cut_agrees : AgreeOn us next cut
  cut_agrees v has = sym (value_cut v true (among_back vs us v has))

-- a first step and the rest, of which the first goes by its variables
pub chain : (row next : Row) (vs us ws : List ℕ) (P Q F L : Row → Type 0) → AreSame (variables_in row) vs
    → ((one other : Row) → AgreeOn us one other → P one → P other)
    → ((mid : Row) → F mid ↔ (IsExtension row (vs ++ us) mid × P mid))
    → ((mid : Row) → IsExtension row (vs ++ us) mid → L mid ↔ (IsExtension mid ((vs ++ us) ++ ws) next × Q next))
    → ((mid : Row) × F mid × L mid) ↔ (IsExtension row (vs ++ (us ++ ws)) next × (P next × Q next))
chain row next vs us ws P Q F L same goes first later = (there, back)
  where
    there : ((mid : Row) × F mid × L mid) → IsExtension row (vs ++ (us ++ ws)) next × (P next × Q next)
    there (mid, f, l) =
        let one = (first mid).0 f in
        let two = (later mid one.0).0 l in (
          subst (λ (xs : List ℕ). IsExtension row xs next) (append_assoc vs us ws)
              (extends_on row mid next (vs ++ us) ((vs ++ us) ++ ws) one.0 two.0),
          (
            goes mid next
                (agree_kept mid next us two.0.values (λ v has. one.0.variables v ∙ among_back vs us v has)) one.1,
            two.1,
          ),
        )

    back : IsExtension row (vs ++ (us ++ ws)) next × (P next × Q next) → (mid : Row) × F mid × L mid
    back (e, (p, q)) =
        let mid = cut row next vs us ws same e in
        let one = cut_first row next vs us ws same e in (
          mid,
          (first mid).1 (one, goes next mid (cut_agrees row next vs us ws same e) p),
          (later mid one).1 (cut_rest row next vs us ws same e, q),
        )

-- ---- what is true of some of a list

pub some_contains : {X : Type 0} (P : X → Type 0) (xs : List X) → ((x : X) × Contains xs x × P x) ↔ IsSome P xs
some_contains P [] = (
  λ found. absurd (All-contains (λ x. ⊥) [] found.0 (All-from_recursion (λ x. ⊥) [] tt) found.1),
  λ none. absurd none,
)
some_contains P (x ∷ xs) = (
  λ found. there found.0 found.2 (Contains-append_cases (x ∷ []) xs found.0 found.1) (some_contains P xs).0,
  back (some_contains P xs).1,
)
  where
    there : (y : _) → P y → Contains (x ∷ []) y ⊎ Contains xs y → (((z : _) × Contains xs z × P z) → IsSome P xs)
        → IsSome P (x ∷ xs)
    there y is (inl one) rest =
        inl (subst P (sym (All-contains (λ z. x ≡ z) (x ∷ []) y
        (All-from_recursion (λ z. x ≡ z) (x ∷ []) (refl, tt)) one)) is)
    there y is (inr more) rest = inr (rest (y, more, is))

    back : (IsSome P xs → (z : _) × Contains xs z × P z) → IsSome P (x ∷ xs) → (z : _) × Contains (x ∷ xs) z × P z
    back rest (inl is) = (x, Contains-append_left (x ∷ []) xs x (Contains-push [] x), is)
    back rest (inr is) =
        let found = rest is in (found.0, Contains-append_right (x ∷ []) xs found.0 found.1, found.2)
