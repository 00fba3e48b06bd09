-- The scope behind a declared slot.
use Rattle.std.proofs.Common.{◌≡◌, ◌∙◌, ℕ, List, Some, None, ap, sym}
use Rattle.std.specs.Option.{option_map}
use Rattle.std.specs.declared.option.Option.{Option}
use Rattle.rif_values.specs.declared.constant.Const.{Const}
use Rattle.rif_values.specs.declared.fact.Fact.{Fact}
use Rattle.rif_values.specs.Bindings.{Row, bound}
use Rattle.rif_tree.specs.declared.tree.Term.{Term}
use Rattle.rif_tree.specs.declared.rule.Decl.{Decl}
use Rattle.rif_tree.specs.declared.rule.Decl.TheVariants.{Slot}
use Rattle.rif_builtins.specs.Values.{value_of}
use Rattle.rif_actions.specs.declared.scope.Scope.{Scope}
use Rattle.rif_actions.specs.Blocks.{after_decl, least_value, of_both}

-- a value that was looked up where the row stands for the scope's
looked_up : (w : List Fact) (object slot : Term) (scope : Scope) (seen : Row) (found : Option Const)
    → seen ≡ scope.row → found ≡ of_both (value_of seen object) (value_of seen slot) (least_value w)
    → found ≡ of_both (value_of scope.row object) (value_of scope.row slot) (least_value w)
looked_up w object slot scope seen found same is =
    is ∙ ap (λ (r : Row). of_both (value_of r object) (value_of r slot) (least_value w)) same

pub slot_scope : (w : List Fact) (decl : Decl) (var : ℕ) (object slot : Term) (scope : Scope) (c : Const)
    (seen given row : Row) → decl ≡ Slot var object slot → seen ≡ scope.row → given ≡ scope.row
    → Some c ≡ of_both (value_of seen object) (value_of seen slot) (least_value w)
    → row ≡ bound given var c → Some (record { row = row; made = scope.made }) ≡ after_decl w decl scope
slot_scope w decl var object slot scope c seen given row is same other found longer =
    ap (λ (r : Row). Some (record { row = r; made = scope.made }))
    (longer ∙ ap (λ (r : Row). bound r var c) other)
    ∙ ap (option_map (λ (k : Const). record { row = bound scope.row var k; made = scope.made }))
    (looked_up w object slot scope seen (Some c) same found)
    ∙ ap (λ (d : Decl). after_decl w d scope) (sym is)

pub no_scope : (w : List Fact) (decl : Decl) (var : ℕ) (object slot : Term) (scope : Scope) (seen : Row)
    → decl ≡ Slot var object slot → seen ≡ scope.row
    → None ≡ of_both (value_of seen object) (value_of seen slot) (least_value w)
    → None ≡ after_decl w decl scope
no_scope w decl var object slot scope seen is same found =
    ap (option_map (λ (k : Const). record { row = bound scope.row var k; made = scope.made }))
    (looked_up w object slot scope seen None same found)
    ∙ ap (λ (d : Decl). after_decl w d scope) (sym is)
