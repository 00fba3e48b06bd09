-- The derived orders are the stated ones, and these are total and tell all elements apart.
use Rattle.std.proofs.Common.{◌≡◌, ℕ, refl, ap, subst}
use Rattle.std.specs.declared.cmp.Ordering.{Ordering}
use Rattle.std.specs.Ordering.{ordering_then, nat_cmp}
use Rattle.std.specs.Cmp.{IsTotalOrder}
use Rattle.std.specs.Cmp.Lexicographic.{slice_cmp}
use Rattle.std.proofs.lemmas.Map.Lookups.{exact_unsigned, exact_signed, exact_bytes, exact_pairs}
use Rattle.rif_values.specs.declared.constant.Const.{Const}
use Rattle.rif_values.specs.declared.constant.Const.TheVariants.{Int, Bool, Str, Iri, Local, Fresh}
use Rattle.rif_values.specs.declared.fact.Fact.{Fact}
use Rattle.rif_values.specs.declared.fact.Fact.TheVariants.{Atom, Frame, Member}
use Rattle.rif_values.specs.declared.instance.Instance.{Instance}
use Rattle.rif_values.specs.Bindings.{Row}
use Rattle.rif_values.specs.contracts.constant.ConstOrd.TheImpl as const_order
use Rattle.rif_values.specs.contracts.fact.FactOrd.TheImpl as fact_order
use Rattle.rif_values.specs.contracts.binding.BindingOrd.TheImpl as binding_order
use Rattle.rif_values.specs.contracts.instance.InstanceOrd.TheImpl as instance_order
use Rattle.rif_values.specs.contracts.constant.ConstOrd.TheImpl.Laws as const_laws
use Rattle.rif_values.specs.contracts.fact.FactOrd.TheImpl.Laws as fact_laws
use Rattle.rif_values.specs.contracts.binding.BindingOrd.TheImpl.Laws as binding_laws
use Rattle.rif_values.specs.contracts.instance.InstanceOrd.TheImpl.Laws as instance_laws
use Rattle.rif_values.specs.OrderLaws.{AreTotal, TellAllApart}
use Rattle.rif_values.specs.Sets.{IsExact}
use Rattle.rif_values.proofs.ExactLemmas.{exact_bools, exact_then, exact_lists}
use Rattle.rif_values.specs.Order.{const_cmp, fact_cmp, binding_cmp}
use Rattle.rif_values.specs.InstanceOrder.{instance_cmp}

derived_const : (a b : Const) → const_order.ghosts.cmp a b ≡ const_cmp a b
derived_const (Int a) (Int b) = refl
derived_const (Bool a) (Bool b) = refl
derived_const (Str a) (Str b) = refl
derived_const (Iri a) (Iri b) = refl
derived_const (Local a) (Local b) = refl
derived_const (Fresh a) (Fresh b) = refl
derived_const _ _ = refl

-- the derived order of constants is the stated one
pub const_order_is : const_order.ghosts.cmp ≡ const_cmp
const_order_is = λ i a b. derived_const a b i

derived_fact : (a b : Fact) → fact_order.ghosts.cmp a b ≡ fact_cmp a b
derived_fact (Atom p cs) (Atom q ds) =
    ap (λ (R : Const → Const → Ordering). ordering_then (R p q) (slice_cmp R cs ds)) const_order_is
derived_fact (Frame o s v) (Frame p t w) =
    ap (λ (R : Const → Const → Ordering). ordering_then (R o p) (ordering_then (R s t) (R v w))) const_order_is
derived_fact (Member o c) (Member p d) =
    ap (λ (R : Const → Const → Ordering). ordering_then (R o p) (R c d)) const_order_is
derived_fact _ _ = refl

-- the derived order of facts is the stated one
pub fact_order_is : fact_order.ghosts.cmp ≡ fact_cmp
fact_order_is = λ i a b. derived_fact a b i

-- the derived order of bindings is the stated one
pub binding_order_is : binding_order.ghosts.cmp ≡ binding_cmp
binding_order_is =
    ap (λ (R : Const → Const → Ordering).
    slice_cmp (λ (p q : ℕ × Const). ordering_then (nat_cmp p.0 q.0) (R p.1 q.1))) const_order_is

-- the derived order of instances is the stated one
pub instance_order_is : instance_order.ghosts.cmp ≡ instance_cmp
instance_order_is =
    ap (λ (R : Row → Row → Ordering).
    λ (a b : Instance). ordering_then (nat_cmp a.rule b.rule) (R a.row b.row)) binding_order_is

pub total_consts : IsTotalOrder const_cmp
total_consts =
    let P : (Const → Const → Ordering) → Type 0 = λ R. IsTotalOrder R in
    subst P const_order_is (const_laws.lawful).total

pub total_facts : IsTotalOrder fact_cmp
total_facts =
    let P : (Fact → Fact → Ordering) → Type 0 = λ R. IsTotalOrder R in subst P fact_order_is (fact_laws.lawful).total

pub total_bindings : IsTotalOrder binding_cmp
total_bindings =
    let P : (Row → Row → Ordering) → Type 0 = λ R. IsTotalOrder R in
    subst P binding_order_is (binding_laws.lawful).total

pub total_instances : IsTotalOrder instance_cmp
total_instances =
    let P : (Instance → Instance → Ordering) → Type 0 = λ R. IsTotalOrder R in
    subst P instance_order_is (instance_laws.lawful).total

pub are_total : AreTotal
are_total =
    record { constants = total_consts; facts = total_facts; bindings = total_bindings; instances = total_instances }

-- constants that compare alike are one
pub exact_consts : IsExact const_cmp
exact_consts (Int a) (Int b) alike = ap Int (exact_signed a b alike)
exact_consts (Bool a) (Bool b) alike = ap Bool (exact_bools a b alike)
exact_consts (Str a) (Str b) alike = ap Str (exact_bytes a b alike)
exact_consts (Iri a) (Iri b) alike = ap Iri (exact_bytes a b alike)
exact_consts (Local a) (Local b) alike = ap Local (exact_bytes a b alike)
exact_consts (Fresh a) (Fresh b) alike = ap Fresh (exact_unsigned a b alike)
exact_consts _ _ alike = cc

-- facts that compare alike are one
pub exact_facts : IsExact fact_cmp
exact_facts (Atom p cs) (Atom q ds) alike =
    let first = exact_then exact_consts p q _ alike in
    λ i. Atom (first.0 i) (exact_lists exact_consts cs ds first.1 i)
exact_facts (Frame o s v) (Frame p t w) alike =
    let first = exact_then exact_consts o p _ alike in
    let second = exact_then exact_consts s t _ first.1 in
    λ i. Frame (first.0 i) (second.0 i) (exact_consts v w second.1 i)
exact_facts (Member o c) (Member p d) alike =
    let first = exact_then exact_consts o p _ alike in λ i. Member (first.0 i) (exact_consts c d first.1 i)
exact_facts _ _ alike = cc

-- bindings that compare alike are one
pub exact_bindings : IsExact binding_cmp
exact_bindings = exact_lists (exact_pairs nat_cmp const_cmp exact_unsigned exact_consts)

-- instances that compare alike are one
pub exact_instances : IsExact instance_cmp
exact_instances a b alike =
    let first = exact_then exact_unsigned a.rule b.rule _ alike in
    λ i. record { rule = first.0 i; row = exact_bindings a.row b.row first.1 i }

pub tell_all_apart : TellAllApart
tell_all_apart =
    record { constants = exact_consts; facts = exact_facts; bindings = exact_bindings; instances = exact_instances }
