-- The net change that some changes make of a state, by the fates of the facts.
use Rattle.std.proofs.Common.{◌≡◌, Bool, true, false, not, cond, ◌||◌, ◌&&◌, List, [], ◌∷◌, ◌++◌, filter, refl, sym}
use Rattle.std.proofs.Common.{ap}
use Rattle.std.proofs.Common.{ap₂, ◌∙◌, subst, None, Some, is_none, is_some, unwrap_or, true≢false}
use Rattle.std.specs.declared.option.Option.{Option}
use Rattle.std.specs.Option.{option_or}
use Rattle.std.specs.Map.{keys_of}
use Rattle.std.specs.List.Sorted.{IsStrictlySortedBy}
use Rattle.std.proofs.lemmas.Cmp.{eq_by_cmp_equiv}
use Rattle.std.proofs.lemmas.List.{append-nil}
use Rattle.rif_values.specs.declared.fact.Fact.{Fact}
use Rattle.rif_values.specs.declared.fact.Fact.TheVariants.{Frame}
use Rattle.rif_values.specs.declared.change.Change.{Change}
use Rattle.rif_values.specs.declared.change.Change.TheVariants.{Assert, Retract, RetractSlot, RetractObject, Modify}
use Rattle.rif_values.specs.Facts.{IsFacts, has_fact, same_fact, is_slot_value, is_about, without, after_change}
use Rattle.rif_values.specs.Facts.{facts_after, net_change}
use Rattle.rif_values.specs.declared.change.Delta.{Delta}
use Rattle.rif_values.specs.Order.{fact_cmp}
use Rattle.rif_values.specs.Sets.{beyond, ordered, patched, IsChangeOf}
use Rattle.rif_values.proofs.CallerLemmas.{total_facts, exact_facts}
use Rattle.rif_sets.proofs.CallerLemmas.{same_set, has_append, has_filter, has_insert, has_ordered, has_beyond}
use Rattle.rif_sets.proofs.CallerLemmas.{set_ordered, set_beyond, gives_of_net}
use Rattle.rif_facts.specs.declared.fates.Retraction.{Retraction}
use Rattle.rif_facts.specs.Fates.{decided, fate_in, fate_of, is_taken_by, is_taken}
use Rattle.rif_facts.specs.Marks.{mark_at, kept_by}
use Rattle.rif_facts.specs.NetChange.{taken_of, is_new, is_gone}
use Rattle.rif_facts.proofs.FactsLemmas.{facts_kept}
use Rattle.rif_facts.proofs.MarksLemmas.{passes, has_kept, set_kept}

-- ---- which facts some changes lead to

swapped : (f g : Fact) → same_fact f g ≡ same_fact g f
swapped = (eq_by_cmp_equiv total_facts).symm

made_true : (b h : Bool) → (b || h) ≡ unwrap_or (decided b true) h
made_true true h = refl
made_true false h = refl

made_false : (b h : Bool) → (not b && h) ≡ unwrap_or (decided b false) h
made_false true h = refl
made_false false h = refl

made_both : (a b h : Bool) → (a || (not b && h)) ≡ unwrap_or (option_or (decided a true) (decided b false)) h
made_both true b h = refl
made_both false b h = made_false b h

has_without : (test : Fact → Bool) (facts : List Fact) (q : Fact)
    → has_fact (without test facts) q ≡ (not (test q) && has_fact facts q)
has_without test facts q = has_filter total_facts exact_facts (λ f. not (test f)) facts q

has_changed : (facts : List Fact) (change : Change) (q : Fact)
    → has_fact (after_change facts change) q ≡ unwrap_or (fate_in change q) (has_fact facts q)
has_changed facts (Assert f) q =
    has_insert total_facts exact_facts facts f q ∙ ap (λ b. b || has_fact facts q) (swapped q f)
    ∙ made_true (same_fact f q) (has_fact facts q)
has_changed facts (Retract f) q =
    has_without (same_fact f) facts q ∙ made_false (same_fact f q) (has_fact facts q)
has_changed facts (RetractSlot o s) q =
    has_without (is_slot_value o s) facts q ∙ made_false (is_slot_value o s q) (has_fact facts q)
has_changed facts (RetractObject o) q =
    has_without (is_about o) facts q ∙ made_false (is_about o q) (has_fact facts q)
has_changed facts (Modify o s v) q =
    has_insert total_facts exact_facts (without (is_slot_value o s) facts) (Frame o s v) q
    ∙ ap₂ (λ a b. a || b) (swapped q (Frame o s v)) (has_without (is_slot_value o s) facts q)
    ∙ made_both (same_fact (Frame o s v) q) (is_slot_value o s q) (has_fact facts q)

then_or : (a b : Option Bool) (h : Bool) → unwrap_or a (unwrap_or b h) ≡ unwrap_or (option_or a b) h
then_or None b h = refl
then_or (Some x) b h = refl

pub has_after : (facts : List Fact) (changes : List Change) (q : Fact)
    → has_fact (facts_after facts changes) q ≡ unwrap_or (fate_of changes q) (has_fact facts q)
has_after facts [] q = refl
has_after facts (change ∷ changes) q =
    has_after (after_change facts change) changes q
    ∙ ap (unwrap_or (fate_of changes q)) (has_changed facts change q)
    ∙ then_or (fate_of changes q) (fate_in change q) (has_fact facts q)

-- ---- which facts retractions take away

taken_bit : (n p h t : Bool) → ((n && (p && h)) || (h && (t && n))) ≡ (h && ((p || t) && n))
taken_bit true true true t = refl
taken_bit true true false t = refl
taken_bit true false h t = refl
taken_bit false p true true = and_false (p || true)
  where
    and_false : (b : Bool) → false ≡ (b && false)
    and_false true = refl
    and_false false = refl
taken_bit false p true false = and_false (p || false)
  where
    and_false : (b : Bool) → false ≡ (b && false)
    and_false true = refl
    and_false false = refl
taken_bit false p false t = refl

pub has_taken : (own : List (Fact × Bool)) (facts : List Fact) (rs : List Retraction) (q : Fact)
    → has_fact (taken_of own facts rs) q ≡ (has_fact facts q && (is_taken rs q && is_none (mark_at own q)))
has_taken own facts [] q = and_false (has_fact facts q)
  where
    and_false : (b : Bool) → false ≡ (b && false)
    and_false true = refl
    and_false false = refl
has_taken own facts (r ∷ rs) q =
    let first = filter (λ f. is_none (mark_at own f)) (filter (is_taken_by r) facts) in
    has_append total_facts exact_facts first (taken_of own facts rs) q
    ∙ ap₂ (λ a b. a || b)
    (has_filter total_facts exact_facts (λ f. is_none (mark_at own f)) (filter (is_taken_by r) facts) q
    ∙ ap (λ b. is_none (mark_at own q) && b) (has_filter total_facts exact_facts (is_taken_by r) facts q))
    (has_taken own facts rs q)
    ∙ taken_bit (is_none (mark_at own q)) (is_taken_by r q) (has_fact facts q) (is_taken rs q)

-- ---- the two lists of the net change

new_bit : (m : Option Bool) (t h : Bool) (facts : List Fact) (q : Fact) → has_fact facts q ≡ h
    → passes (is_new facts) q m ≡ (not h && unwrap_or (option_or m (decided t false)) h)
new_bit None true true facts q is = refl
new_bit None true false facts q is = refl
new_bit None false true facts q is = refl
new_bit None false false facts q is = refl
new_bit (Some b) t h facts q is = ap (λ c. b && not c) is ∙ and_swap b (not h)
  where
    and_swap : (a b : Bool) → (a && b) ≡ (b && a)
    and_swap true true = refl
    and_swap true false = refl
    and_swap false true = refl
    and_swap false false = refl

gone_bit : (m : Option Bool) (t h : Bool) (facts : List Fact) (q : Fact) → has_fact facts q ≡ h
    → ((h && (t && is_none m)) || passes (is_gone facts) q m)
    ≡ (not (unwrap_or (option_or m (decided t false)) h) && h)
gone_bit None true true facts q is = refl
gone_bit None true false facts q is = refl
gone_bit None false true facts q is = refl
gone_bit None false false facts q is = refl
gone_bit (Some b) t h facts q is = none_left h t (not b && has_fact facts q) ∙ ap (λ c. not b && c) is
  where
    none_left : (h t c : Bool) → ((h && (t && false)) || c) ≡ c
    none_left true true c = refl
    none_left true false c = refl
    none_left false t c = refl

module _ (facts : List Fact) (set : IsFacts facts) (changes : List Change) (own : List (Fact × Bool))
    (sorted : IsStrictlySortedBy fact_cmp (keys_of own)) (rs : List Retraction)
    (fates : (q : Fact) → option_or (mark_at own q) (decided (is_taken rs q) false) ≡ fate_of changes q) where
  after : (q : Fact) → has_fact (facts_after facts changes) q
      ≡ unwrap_or (option_or (mark_at own q) (decided (is_taken rs q) false)) (has_fact facts q)
  after q = has_after facts changes q ∙ ap (λ o. unwrap_or o (has_fact facts q)) (sym (fates q))

  -- what is added
  pub added_is : kept_by (is_new facts) own ≡ beyond fact_cmp facts (facts_after facts changes)
  added_is =
      let new = facts_after facts changes in
      same_set total_facts exact_facts (kept_by (is_new facts) own) (beyond fact_cmp facts new)
      (set_kept (is_new facts) own sorted)
      (set_beyond total_facts exact_facts facts new (facts_kept facts changes set)) (λ q.
      has_kept (is_new facts) own q sorted
      ∙ new_bit (mark_at own q) (is_taken rs q) (has_fact facts q) facts q refl
      ∙ ap (λ b. not (has_fact facts q) && b) (sym (after q))
      ∙ sym (has_beyond total_facts exact_facts facts new q))

  -- what is removed
  pub removed_is : ordered fact_cmp (taken_of own facts rs ++ kept_by (is_gone facts) own)
      ≡ beyond fact_cmp (facts_after facts changes) facts
  removed_is =
      let new = facts_after facts changes in
      let found = taken_of own facts rs ++ kept_by (is_gone facts) own in
      same_set total_facts exact_facts (ordered fact_cmp found) (beyond fact_cmp new facts)
      (set_ordered total_facts exact_facts found) (set_beyond total_facts exact_facts new facts set) (λ q.
      has_ordered total_facts exact_facts found q
      ∙ has_append total_facts exact_facts (taken_of own facts rs) (kept_by (is_gone facts) own) q
      ∙ ap₂ (λ a b. a || b) (has_taken own facts rs q) (has_kept (is_gone facts) own q sorted)
      ∙ gone_bit (mark_at own q) (is_taken rs q) (has_fact facts q) facts q refl
      ∙ ap (λ b. not b && has_fact facts q) (sym (after q))
      ∙ sym (has_beyond total_facts exact_facts new facts q))

-- ---- a fact put at the end where it has no fate of its own

pub not_pushed : (m : Option Bool) (f : Fact) (fs : List Fact) → is_some m ≡ true
    → fs ≡ fs ++ cond (is_none m) (f ∷ []) []
not_pushed None f fs some = absurd (true≢false (sym some))
not_pushed (Some b) f fs some = sym (append-nil fs)

pub is_pushed : (m : Option Bool) (f : Fact) (fs : List Fact) → is_some m ≡ false
    → fs ++ f ∷ [] ≡ fs ++ cond (is_none m) (f ∷ []) []
is_pushed None f fs none = refl
is_pushed (Some b) f fs none = absurd (true≢false none)

-- ---- the net change of some changes can be done, and leads to the state that they lead to

step_possible : (o n : Bool) → ((not o && n) && o) ≡ false
step_possible true n = refl
step_possible false true = refl
step_possible false false = refl

step_gone : (n o : Bool) → ((not n && o) && not o) ≡ false
step_gone true o = refl
step_gone false true = refl
step_gone false false = refl

pub net_is_possible : (facts : List Fact) (changes : List Change) (delta : Delta) → IsFacts facts
    → delta ≡ net_change facts (facts_after facts changes) → IsChangeOf fact_cmp facts delta.added delta.removed
net_is_possible facts changes delta set is =
    let new = facts_after facts changes in
    let new_set = facts_kept facts changes set in
    let P : Delta → Type 0 = λ d. IsChangeOf fact_cmp facts d.added d.removed in
    subst P (sym is) (record {
      added_set = set_beyond total_facts exact_facts facts new new_set;
      removed_set = set_beyond total_facts exact_facts new facts set;
      added_new = λ q.
          ap (λ b. b && has_fact facts q) (has_beyond total_facts exact_facts facts new q)
          ∙ step_possible (has_fact facts q) (has_fact new q);
      removed_old = λ q.
          ap (λ b. b && not (has_fact facts q)) (has_beyond total_facts exact_facts new facts q)
          ∙ step_gone (has_fact new q) (has_fact facts q);
    })

pub net_leads : (facts : List Fact) (changes : List Change) (delta : Delta) → IsFacts facts
    → delta ≡ net_change facts (facts_after facts changes)
    → patched fact_cmp facts delta.added delta.removed ≡ facts_after facts changes
net_leads facts changes delta set is =
    gives_of_net total_facts exact_facts facts (facts_after facts changes) delta.added delta.removed set
    (facts_kept facts changes set) (record { added = ap (λ d. d.added) is; removed = ap (λ d. d.removed) is })
