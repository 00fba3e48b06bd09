-- What making room, giving it back and doing a change leave.
use Rattle.std.proofs.Common.{◌≡◌, Bool, true, false, not, cond, ◌||◌, ◌&&◌, List, [], ◌+◌, length}
use Rattle.std.proofs.Common.{refl, sym, ap, ap₂, ◌∙◌, subst, None, Some, is_some, true≢false, arith}
use Rattle.std.specs.declared.option.Option.{Option}
use Rattle.rif_values.specs.declared.fact.Fact.{Fact}
use Rattle.rif_values.specs.declared.change.Delta.{Delta}
use Rattle.rif_values.specs.Facts.{IsFacts, has_fact}
use Rattle.rif_values.specs.Order.{fact_cmp}
use Rattle.rif_values.specs.Sets.{IsChangeOf, patched}
use Rattle.rif_values.proofs.CallerLemmas.{total_facts, exact_facts}
use Rattle.rif_sets.proofs.CallerLemmas.{set_empty, has_patched, set_patched}
use Rattle.rif_facts.specs.Marks.{mark_at, counted, IsMarked}
use Rattle.rif_facts.specs.Readiness.{counts, waits, IsReady}
use Rattle.rif_facts.proofs.MarksLemmas.{has_counted, counted_is, waiting_is, length_parts, set_kept}

-- ---- one mark

-- a fact that waits, taken out
drop_counts : (m : Option Bool) (b : Bool) → waits m ≡ b → counts (cond b None m) ≡ counts m
drop_counts None true is = refl
drop_counts None false is = refl
drop_counts (Some true) true is = absurd (true≢false (sym is))
drop_counts (Some true) false is = refl
drop_counts (Some false) true is = refl
drop_counts (Some false) false is = refl

drop_waits : (m : Option Bool) (b : Bool) → waits m ≡ b → waits (cond b None m) ≡ false
drop_waits m true is = refl
drop_waits m false is = is

-- a fact that neither counts nor waits
absent_is : (m : Option Bool) → counts m ≡ false → waits m ≡ false → m ≡ None
absent_is None no_count no_wait = refl
absent_is (Some true) no_count no_wait = absurd (true≢false no_count)
absent_is (Some false) no_count no_wait = absurd (true≢false no_wait)

-- a new fact, put in
put_counts : (m : Option Bool) (b : Bool) → (b && counts m) ≡ false → counts (cond b (Some false) m) ≡ counts m
put_counts m true new = sym new
put_counts m false new = refl

put_waits : (m : Option Bool) (b : Bool) → waits m ≡ false → waits (cond b (Some false) m) ≡ b
put_waits m true none = refl
put_waits m false none = none

-- and taken out again
back_counts : (m : Option Bool) (b : Bool) → (b && counts m) ≡ false → counts (cond b None m) ≡ counts m
back_counts m true new = sym new
back_counts m false new = refl

back_waits : (m : Option Bool) (b : Bool) → waits m ≡ false → waits (cond b None m) ≡ false
back_waits m true none = refl
back_waits m false none = none

-- a change that is done
done_counts : (m : Option Bool) (a r : Bool) → waits m ≡ a → (r && not (counts m)) ≡ false
    → counts (cond r None (cond (a && is_some m) (Some true) m)) ≡ (a || (not r && counts m))
done_counts m true true is there = done_none m is there
  where
    done_none : (m : Option Bool) → waits m ≡ true → not (counts m) ≡ false → false ≡ true
    done_none None is there = is
    done_none (Some true) is there = is
    done_none (Some false) is there = sym there
done_counts None true false is there = absurd (true≢false (sym is))
done_counts (Some mark) true false is there = refl
done_counts None false r is there = by r
  where
    by : (r : Bool) → counts (cond r None None) ≡ (not r && false)
    by true = refl
    by false = refl
done_counts (Some true) false true is there = refl
done_counts (Some true) false false is there = refl
done_counts (Some false) false r is there = absurd (true≢false is)

done_waits : (m : Option Bool) (a r : Bool) → waits m ≡ a
    → waits (cond r None (cond (a && is_some m) (Some true) m)) ≡ false
done_waits m a true is = refl
done_waits None true false is = refl
done_waits None false false is = refl
done_waits (Some mark) true false is = refl
done_waits (Some mark) false false is = is

-- ---- all marks

module _ (es : List (Fact × Bool)) (d : Delta) (ready : IsReady es (Some d)) (fs : List (Fact × Bool))
    (marked : IsMarked fs) where
  -- room that is given back
  module _ (taken : (q : Fact) → mark_at fs q ≡ cond (has_fact d.added q) None (mark_at es q)) where
    pub dropped_list : counted fs ≡ counted es
    dropped_list =
        counted_is fs (counted es) marked.sorted (set_kept (λ e. e.1) es ready.marked.sorted) (λ q.
        ap counts (taken q) ∙ drop_counts (mark_at es q) (has_fact d.added q) (ready.waiting q)
        ∙ sym (has_counted es q ready.marked.sorted))

    pub dropped_ready : IsReady fs None
    dropped_ready = record {
      marked = marked;
      waiting = λ q. ap waits (taken q) ∙ drop_waits (mark_at es q) (has_fact d.added q) (ready.waiting q);
      change = tt;
    }

  -- the change that is done
  module _ (gs : List (Fact × Bool))
      (put : (q : Fact) → mark_at gs q ≡ cond (has_fact d.added q && is_some (mark_at es q)) (Some true)
      (mark_at es q))
      (taken : (q : Fact) → mark_at fs q ≡ cond (has_fact d.removed q) None (mark_at gs q)) where
    done_mark : (q : Fact) → mark_at fs q ≡ cond (has_fact d.removed q) None
        (cond (has_fact d.added q && is_some (mark_at es q)) (Some true) (mark_at es q))
    done_mark q = taken q ∙ ap (cond (has_fact d.removed q) None) (put q)

    pub done_list : counted fs ≡ patched fact_cmp (counted es) d.added d.removed
    done_list =
        let set = set_kept (λ e. e.1) es ready.marked.sorted in
        counted_is fs (patched fact_cmp (counted es) d.added d.removed) marked.sorted
        (set_patched total_facts exact_facts (counted es) d.added d.removed set) (λ q.
        let counts_is = has_counted es q ready.marked.sorted in
        ap counts (done_mark q)
        ∙ done_counts (mark_at es q) (has_fact d.added q) (has_fact d.removed q) (ready.waiting q)
        (ap (λ b. has_fact d.removed q && not b) (sym counts_is) ∙ ready.change.removed_old q)
        ∙ ap (λ b. has_fact d.added q || (not (has_fact d.removed q) && b)) (sym counts_is)
        ∙ sym (has_patched total_facts exact_facts (counted es) d.added d.removed q))

    pub done_ready : IsReady fs None
    done_ready = record {
      marked = marked;
      waiting = λ q.
          ap waits (done_mark q)
          ∙ done_waits (mark_at es q) (has_fact d.added q) (has_fact d.removed q) (ready.waiting q);
      change = tt;
    }

module _ (es : List (Fact × Bool)) (ready : IsReady es None) (d : Delta)
    (change : IsChangeOf fact_cmp (counted es) d.added d.removed) where
  new_fact : (q : Fact) → (has_fact d.added q && counts (mark_at es q)) ≡ false
  new_fact q =
      ap (λ b. has_fact d.added q && b) (sym (has_counted es q ready.marked.sorted)) ∙ change.added_new q

  -- the facts to be added aren't there
  pub new_absent : (q : Fact) → has_fact d.added q ≡ true → mark_at es q ≡ None
  new_absent q added =
      absent_is (mark_at es q) (ap (λ b. b && counts (mark_at es q)) (sym added) ∙ new_fact q) (ready.waiting q)

  module _ (fs : List (Fact × Bool)) (marked : IsMarked fs) where
    -- room that is made
    module _ (put : (q : Fact) → mark_at fs q ≡ cond (has_fact d.added q) (Some false) (mark_at es q)) where
      pub made_list : counted fs ≡ counted es
      made_list =
          counted_is fs (counted es) marked.sorted (set_kept (λ e. e.1) es ready.marked.sorted) (λ q.
          ap counts (put q) ∙ put_counts (mark_at es q) (has_fact d.added q) (new_fact q)
          ∙ sym (has_counted es q ready.marked.sorted))

      pub made_ready : IsReady fs (Some d)
      made_ready = record {
        marked = marked;
        waiting = λ q. ap waits (put q) ∙ put_waits (mark_at es q) (has_fact d.added q) (ready.waiting q);
        change =
            subst (λ (list : List Fact). IsChangeOf fact_cmp list d.added d.removed) (sym made_list) change;
      }

    -- room that was refused
    module _ (gs : List (Fact × Bool))
        (put : (q : Fact) → has_fact d.added q ≡ false → mark_at gs q ≡ mark_at es q)
        (taken : (q : Fact) → mark_at fs q ≡ cond (has_fact d.added q) None (mark_at gs q)) where
      back_mark : (q : Fact) → mark_at fs q ≡ cond (has_fact d.added q) None (mark_at es q)
      back_mark q = taken q ∙ only_else (has_fact d.added q) (put q)
        where
          only_else : (b : Bool) → (b ≡ false → mark_at gs q ≡ mark_at es q)
              → cond b None (mark_at gs q) ≡ cond b None (mark_at es q)
          only_else true is = refl
          only_else false is = is refl

      pub back_list : counted fs ≡ counted es
      back_list =
          counted_is fs (counted es) marked.sorted (set_kept (λ e. e.1) es ready.marked.sorted) (λ q.
          ap counts (back_mark q) ∙ back_counts (mark_at es q) (has_fact d.added q) (new_fact q)
          ∙ sym (has_counted es q ready.marked.sorted))

      pub back_ready : IsReady fs None
      back_ready = record {
        marked = marked;
        waiting = λ q. ap waits (back_mark q) ∙ back_waits (mark_at es q) (has_fact d.added q) (ready.waiting q);
        change = tt;
      }

-- ---- how many facts count

pub length_ready : (es : List (Fact × Bool)) (d : Delta) → IsReady es (Some d)
    → length (counted es) + length d.added ≡ length es
length_ready es d ready =
    ap (λ (fs : List Fact). length (counted es) + length fs)
    (sym (waiting_is es d.added ready.marked.sorted ready.change.added_set ready.waiting)) ∙ length_parts es

pub length_without : (es : List (Fact × Bool)) → IsReady es None → length es ≡ length (counted es)
length_without es ready =
    let none = ap length (waiting_is es [] ready.marked.sorted (set_empty total_facts exact_facts) ready.waiting) in
    let parts = length_parts es in omega arith

-- ---- facts put in and counted where there were none

fresh_counts : (b : Bool) → counts (cond (b && is_some (cond b (Some false) None)) (Some true)
    (cond b (Some false) None))
    ≡ b
fresh_counts true = refl
fresh_counts false = refl

fresh_waits : (b : Bool) → waits (cond (b && is_some (cond b (Some false) None)) (Some true)
    (cond b (Some false) None))
    ≡ false
fresh_waits true = refl
fresh_waits false = refl

module _ (facts : List Fact) (set : IsFacts facts) (gs fs : List (Fact × Bool)) (marked : IsMarked fs)
    (put : (q : Fact) → mark_at gs q ≡ cond (has_fact facts q) (Some false) None)
    (counted_all : (q : Fact)
    → mark_at fs q ≡ cond (has_fact facts q && is_some (mark_at gs q)) (Some true) (mark_at gs q)) where
  fresh_mark : (q : Fact) → mark_at fs q
      ≡ cond (has_fact facts q && is_some (cond (has_fact facts q) (Some false) None)) (Some true)
      (cond (has_fact facts q) (Some false) None)
  fresh_mark q = counted_all q ∙ ap (λ m. cond (has_fact facts q && is_some m) (Some true) m) (put q)

  pub fresh_list : counted fs ≡ facts
  fresh_list =
      counted_is fs facts marked.sorted set (λ q. ap counts (fresh_mark q) ∙ fresh_counts (has_fact facts q))

  pub fresh_ready : IsReady fs None
  fresh_ready = record {
    marked = marked;
    waiting = λ q. ap waits (fresh_mark q) ∙ fresh_waits (has_fact facts q);
    change = tt;
  }

-- ---- the same, where lists and changes are known by equations

pub dropped : (es fs : List (Fact × Bool)) (room : Option Delta) (d : Delta) (added list : List Fact)
    → IsReady es room → room ≡ Some d → added ≡ d.added → counted es ≡ list → IsMarked fs
    → ((q : Fact) → mark_at fs q ≡ cond (has_fact added q) None (mark_at es q)) → counted fs ≡ list
dropped es fs room d added list ready room_is added_is list_is marked taken =
    dropped_list es d (subst (IsReady es) room_is ready) fs marked (λ q.
    taken q ∙ ap (λ (gs : List Fact). cond (has_fact gs q) None (mark_at es q)) added_is) ∙ list_is

pub done : (es gs fs : List (Fact × Bool)) (room : Option Delta) (d : Delta) (added removed list : List Fact)
    → IsReady es room → room ≡ Some d → added ≡ d.added → removed ≡ d.removed → counted es ≡ list → IsMarked fs
    → ((q : Fact) → mark_at gs q ≡ cond (has_fact added q && is_some (mark_at es q)) (Some true) (mark_at es q))
    → ((q : Fact) → mark_at fs q ≡ cond (has_fact removed q) None (mark_at gs q))
    → counted fs ≡ patched fact_cmp list d.added d.removed
done es gs fs room d added removed list ready room_is added_is removed_is list_is marked put taken =
    done_list es d (subst (IsReady es) room_is ready) fs marked gs
    (λ q.
    put q
    ∙ ap (λ (ks : List Fact). cond (has_fact ks q && is_some (mark_at es q)) (Some true) (mark_at es q)) added_is)
    (λ q. taken q ∙ ap (λ (ks : List Fact). cond (has_fact ks q) None (mark_at gs q)) removed_is)
    ∙ ap (λ (ks : List Fact). patched fact_cmp ks d.added d.removed) list_is

module _ (es : List (Fact × Bool)) (room : Option Delta) (d : Delta) (added list : List Fact)
    (ready : IsReady es room)
    (none : room ≡ None) (added_is : added ≡ d.added) (list_is : counted es ≡ list)
    (change : IsChangeOf fact_cmp list d.added d.removed) where
  without_room : IsReady es None
  without_room = subst (IsReady es) none ready

  change_of : IsChangeOf fact_cmp (counted es) d.added d.removed
  change_of = subst (λ (fs : List Fact). IsChangeOf fact_cmp fs d.added d.removed) (sym list_is) change

  pub absent_before : (q : Fact) → has_fact added q ≡ true → mark_at es q ≡ None
  absent_before q there =
      new_absent es without_room d change_of q (ap (λ (fs : List Fact). has_fact fs q) (sym added_is) ∙ there)

  module _ (fs : List (Fact × Bool)) (marked : IsMarked fs) where
    module _ (put : (q : Fact) → mark_at fs q ≡ cond (has_fact added q) (Some false) (mark_at es q)) where
      put_added : (q : Fact) → mark_at fs q ≡ cond (has_fact d.added q) (Some false) (mark_at es q)
      put_added q = put q ∙ ap (λ (ks : List Fact). cond (has_fact ks q) (Some false) (mark_at es q)) added_is

      pub list_made : counted fs ≡ list
      list_made = made_list es without_room d change_of fs marked put_added ∙ list_is

      pub ready_made : IsReady fs (Some d)
      ready_made = made_ready es without_room d change_of fs marked put_added

    pub list_back : (gs : List (Fact × Bool)) (again : List Fact) → again ≡ d.added
        → ((q : Fact) → has_fact added q ≡ false → mark_at gs q ≡ mark_at es q)
        → ((q : Fact) → mark_at fs q ≡ cond (has_fact again q) None (mark_at gs q)) → counted fs ≡ list
    list_back gs again again_is put taken =
        back_list es without_room d change_of fs marked gs
        (λ q absent. put q (ap (λ (ks : List Fact). has_fact ks q) added_is ∙ absent))
        (λ q. taken q ∙ ap (λ (ks : List Fact). cond (has_fact ks q) None (mark_at gs q)) again_is)
        ∙ list_is

pub copied : (facts again list : List Fact) (es gs fs : List (Fact × Bool)) → facts ≡ list → again ≡ list → IsFacts
    list
    → es ≡ [] → IsMarked fs
    → ((q : Fact) → mark_at gs q ≡ cond (has_fact facts q) (Some false) (mark_at es q))
    → ((q : Fact) → mark_at fs q ≡ cond (has_fact again q && is_some (mark_at gs q)) (Some true) (mark_at gs q))
    → counted fs ≡ list
copied facts again list es gs fs facts_are again_is set none marked put counted_all =
    fresh_list list set gs fs marked
    (λ q.
    put q ∙ ap (λ (ks : List Fact). cond (has_fact ks q) (Some false) (mark_at es q)) facts_are
    ∙ ap (λ (ks : List (Fact × Bool)). cond (has_fact list q) (Some false) (mark_at ks q)) none)
    (λ q.
    counted_all q
    ∙ ap (λ (ks : List Fact). cond (has_fact ks q && is_some (mark_at gs q)) (Some true) (mark_at gs q)) again_is)

pub counted_length : (es : List (Fact × Bool)) (room : Option Delta) (d : Delta) (added list : List Fact)
    → IsReady es room → room ≡ Some d → added ≡ d.added → counted es ≡ list
    → length list + length added ≡ length es
counted_length es room d added list ready room_is added_is list_is =
    ap₂ (λ (fs gs : List Fact). length fs + length gs) (sym list_is) added_is
    ∙ length_ready es d (subst (IsReady es) room_is ready)
