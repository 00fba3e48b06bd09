-- How facts are kept: each with a mark, which says whether it counts, and the frames and memberships a second time
-- with their first two places exchanged. No public clause cites this module.
--     mark_at es q         the mark of the fact q
--     kept_by P es         the facts of the entries that pass a test
--     counted es           the facts that count
--     waiting es           the facts that don't count yet
--     turned f             f with its first two places exchanged
--     is_the f q           whether q is the fact f, where there is one
--     IsMarked es          the entries are in order, and their first constants in range
--     AreTurned es fs      fs has the frames and memberships of es, turned
--     IsIndexed es fs      both
use Rattle.std.specs.Prelude.{◌≡◌, Bool, true, false, not, List, filter, if◌then◌else◌, None, Some}
use Rattle.std.specs.List.{AllByRecursion}
use Rattle.std.specs.List.Sorted.{IsStrictlySortedBy}
use Rattle.std.specs.Map.{keys_of, lookup}
use Rattle.std.specs.BTreeMap.{is_at}
use Rattle.std.specs.Ordering.{is_le}
use Rattle.std.specs.declared.option.Option.{Option}
use Rattle.rif_values.specs.declared.constant.Const.{Const}
use Rattle.rif_values.specs.declared.constant.Const.TheVariants.{Int}
use Rattle.rif_values.specs.declared.fact.Fact.{Fact}
use Rattle.rif_values.specs.declared.fact.Fact.TheVariants.{Atom, Frame, Member}
use Rattle.rif_values.specs.Facts.{same_fact}
use Rattle.rif_values.specs.Order.{const_cmp, fact_cmp}
use Rattle.rif_values.specs.declared.integer.TheConstants.{LEAST_INTEGER}

abbrev pub mark_at : List (Fact × Bool) → Fact → Option Bool
mark_at es q = lookup (is_at (fact_cmp q)) es

abbrev pub kept_by : (Fact × Bool → Bool) → List (Fact × Bool) → List Fact
kept_by test es = keys_of (filter test es)

abbrev pub counted : List (Fact × Bool) → List Fact
counted = kept_by (λ e. e.1)

abbrev pub waiting : List (Fact × Bool) → List Fact
waiting = kept_by (λ e. not e.1)

abbrev pub turned : Fact → Fact
turned (Atom p cs) = Atom p cs
turned (Frame o s v) = Frame s o v
turned (Member o c) = Member c o

abbrev pub is_turnable : Fact → Bool
is_turnable (Atom p cs) = false
is_turnable (Frame o s v) = true
is_turnable (Member o c) = true

-- a fact turned, where it can be
abbrev pub turned_if_any : Fact → Option Fact
turned_if_any f = if is_turnable f then Some (turned f) else None

-- whether q is the fact, where there is one
abbrev pub is_the : Option Fact → Fact → Bool
is_the None q = false
is_the (Some f) q = same_fact f q

-- no constant is below the least integer, which is the least of all
abbrev pub IsAboveLeast : Const → Type 0
IsAboveLeast c = is_le (const_cmp (Int LEAST_INTEGER) c) ≡ true

abbrev pub IsInRange : Fact → Type 0
IsInRange (Atom p cs) = IsAboveLeast p
IsInRange (Frame o s v) = IsAboveLeast o × IsAboveLeast s × IsAboveLeast v
IsInRange (Member o c) = IsAboveLeast o × IsAboveLeast c

pub record IsMarked (es : List (Fact × Bool)) : Type 0 where
  pub sorted : IsStrictlySortedBy fact_cmp (keys_of es)
  pub in_range : AllByRecursion IsInRange (keys_of es)

abbrev pub AreTurned : List (Fact × Bool) → List (Fact × Bool) → Type 0
AreTurned es fs = (q : Fact) → mark_at fs q ≡ (if is_turnable q then mark_at es (turned q) else None)

pub record IsIndexed (es fs : List (Fact × Bool)) : Type 0 where
  pub marked : IsMarked es
  pub turned : AreTurned es fs
