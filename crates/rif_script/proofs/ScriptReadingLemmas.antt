-- The lines of a script one after another: what is read of them is their script, and what refuses them is its
-- refusal.
use Rattle.std.proofs.Common.{◌≡◌, ◌∙◌, sym, subst, ap, refl, ℕ, ◌+◌, ◌<◌, suc, List, [], ◌∷◌, ◌++◌, append_assoc}
use Rattle.std.proofs.Common.{append-nil, Option, Some, None, length, length-append, arith, All, ◌⊎◌, inl, inr}
use Rattle.std.specs.Prelude.{Ok, Err}
use Rattle.std.specs.declared.result.Result.{Result}
use Rattle.rif_refusals.specs.Limits.{most_clients, most_items, most_budgets}
use Rattle.rif_refusals.specs.declared.refusal.Refusal.{Refusal}
use Rattle.rif_refusals.specs.declared.refusal.Refusal.TheVariants.{BadLine, BudgetTooLarge, TooManyItems}
use Rattle.rif_refusals.specs.declared.refusal.Refusal.TheVariants.{TooManyClients}
use Rattle.prd_grammar.specs.Prefixes.{Prefixes}
use Rattle.session_states.specs.declared.item.Item.{Item}
use Rattle.rif_script.specs.declared.script.Script.{Script}
use Rattle.rif_script.specs.JobClients.{AreOfClients}
use Rattle.rif_script.specs.Jobs.{AreLines, IsFaulty, IsLine, IsScript, IsScriptRefusal, IsWithinLimits, budget_sum}
use Rattle.rif_script.specs.Jobs.{names_of, numbered_items, sent_by}
use Rattle.rif_script.specs.ReadingLines.{and_then, line_at, no_lines, with_given, with_line, with_lines}
use Rattle.rif_script.proofs.LineFormLemmas.{line_again, line_read, no_line}
use Rattle.rif_script.proofs.NumberingLemmas.{all_of_clients, more_names, names_after}
use Rattle.rif_script.proofs.ScriptFormLemmas.{above_is, above_isnt, after_joined, final_items, final_names}
use Rattle.rif_script.proofs.ScriptFormLemmas.{limits_err, limits_keep, limits_of, limits_ok, names_are, script_of}
use Rattle.rif_script.proofs.ScriptFormLemmas.{with_sent_is}

-- what one line sends
abbrev sent_one : Option (List ℕ × Item) → List (List ℕ × Item)
sent_one None = []
sent_one (Some one) = one ∷ []

sent_joined : (sent : List (List ℕ × Item)) (given : Option (List ℕ × Item)) (more : List (Option (List ℕ × Item))) →
    (sent ++ sent_one given) ++ sent_by more ≡ sent ++ sent_by (given ∷ more)
sent_joined sent None more = append_assoc sent [] (sent_by more)
sent_joined sent (Some one) more = append_assoc sent (one ∷ []) (sent_by more)

-- what a line gives where it leads to a script
record IsLineOf (prefixes : Prefixes) (sent : List (List ℕ × Item)) (line : List ℕ) (next : Script) : Type 0 where
  given : Option (List ℕ × Item)
  is : IsLine prefixes line given
  within : IsWithinLimits (sent ++ sent_one given)
  after : script_of (sent ++ sent_one given) ≡ next

same_limits : (xs ys : List (List ℕ × Item)) → xs ≡ ys → IsWithinLimits xs → IsWithinLimits ys
same_limits xs ys same within = subst IsWithinLimits same within

module _ (prefixes : Prefixes) (at : ℕ) (sent : List (List ℕ × Item)) (line : List ℕ)
    (within : IsWithinLimits sent) where
  found_ok : (found : Option (Option (List ℕ × Item))) (next : Script) → line_at prefixes line ≡ found →
      with_given at (script_of sent) found ≡ Ok next → IsLineOf prefixes sent line next
  found_ok None next is given = absurd (cc)
  found_ok (Some None) next is given =
      let same : script_of sent ≡ next = cc in
      record {
        given = None;
        is = line_read prefixes line None is;
        within = same_limits sent (sent ++ []) (sym (append-nil sent)) within;
        after = ap script_of (append-nil sent) ∙ same;
      }
  found_ok (Some (Some one)) next is given =
      let all = limits_ok at (sent ++ one ∷ []) (script_of (sent ++ one ∷ [])) next
      (sym (with_sent_is at sent one within) ∙ given) in
      record { given = Some one; is = line_read prefixes line (Some one) is; within = all.0; after = all.1 }

  line_ok : (next : Script) → with_line prefixes at (script_of sent) line ≡ Ok next → IsLineOf prefixes sent line next
  unfolding with_line
  line_ok next given = found_ok (line_at prefixes line) next refl given

  found_err : (found : Option (Option (List ℕ × Item))) (refusal : Refusal) → line_at prefixes line ≡ found →
      with_given at (script_of sent) found ≡ Err refusal → IsFaulty prefixes sent line at refusal
  found_err None refusal is given =
      let same : BadLine at ≡ refusal = cc in
      subst (IsFaulty prefixes sent line at) same (refl, no_line prefixes line is)
  found_err (Some None) refusal is given = absurd (cc)
  found_err (Some (Some one)) refusal is given =
      limits_err prefixes at sent one line (script_of (sent ++ one ∷ [])) refusal
      (line_read prefixes line (Some one) is)
      (sym (with_sent_is at sent one within) ∙ given)

  line_err : (refusal : Refusal) → with_line prefixes at (script_of sent) line ≡ Err refusal →
      IsFaulty prefixes sent line at refusal
  unfolding with_line
  line_err refusal given = found_err (line_at prefixes line) refusal refl given

  line_keep : (given : Option (List ℕ × Item)) → IsLine prefixes line given →
      IsWithinLimits (sent ++ sent_one given) →
      with_line prefixes at (script_of sent) line ≡ Ok (script_of (sent ++ sent_one given))
  unfolding with_line
  line_keep None is few =
      ap (with_given at (script_of sent)) (line_again prefixes line None is)
      ∙ ap (λ (xs : List (List ℕ × Item)). Ok (script_of xs)) (sym (append-nil sent))
  line_keep (Some one) is few =
      ap (with_given at (script_of sent)) (line_again prefixes line (Some one) is)
      ∙ (with_sent_is at sent one within ∙ limits_keep at (sent ++ one ∷ []) (script_of (sent ++ one ∷ [])) few)

  bad_found : (found : Option (Option (List ℕ × Item))) → line_at prefixes line ≡ found →
      ((given : Option (List ℕ × Item)) → IsLine prefixes line given → ⊥) →
      with_given at (script_of sent) found ≡ Err (BadLine at)
  bad_found None is never = refl
  bad_found (Some given) is never = absurd (never given (line_read prefixes line given is))

  item_found : (one : List ℕ × Item) → IsLine prefixes line (Some one) →
      with_given at (script_of sent) (line_at prefixes line) ≡
      limits_of at (sent ++ one ∷ []) (Ok (script_of (sent ++ one ∷ [])))
  item_found one is =
      ap (with_given at (script_of sent)) (line_again prefixes line (Some one) is) ∙ with_sent_is at sent one within

  line_faulty : (refusal : Refusal) → IsFaulty prefixes sent line at refusal →
      with_line prefixes at (script_of sent) line ≡ Err refusal
  unfolding with_line
  line_faulty (BadLine number) (is, never) =
      bad_found (line_at prefixes line) refl never ∙ ap (λ (n : ℕ). Err (BadLine n)) (sym is)
  line_faulty (BudgetTooLarge number) (is, one, here, high) =
      item_found one here
      ∙ (rw (above_is most_budgets (budget_sum (sent ++ one ∷ [])) high) refl
      ∙ ap (λ (n : ℕ). Err (BudgetTooLarge n)) (sym is))
  line_faulty (TooManyItems number) (is, one, here, low, high) =
      item_found one here
      ∙ (rw (
        above_isnt most_budgets (budget_sum (sent ++ one ∷ [])) low,
        above_is most_items (length (sent ++ one ∷ [])) high,
      ) refl
      ∙ ap (λ (n : ℕ). Err (TooManyItems n)) (sym is))
  line_faulty (TooManyClients number) (is, one, here, low, few, high) =
      item_found one here
      ∙ (rw (
        above_isnt most_budgets (budget_sum (sent ++ one ∷ [])) low,
        above_isnt most_items (length (sent ++ one ∷ [])) few,
        above_is most_clients (length (names_of (sent ++ one ∷ []))) high,
      ) refl
      ∙ ap (λ (n : ℕ). Err (TooManyClients n)) (sym is))
  line_faulty _ faulty = absurd faulty

-- what of lines leads to a script
record AreLinesOf (prefixes : Prefixes) (sent : List (List ℕ × Item)) (lines : List (List ℕ))
    (end : Script) : Type 0 where
  given : List (Option (List ℕ × Item))
  are : AreLines prefixes lines given
  within : IsWithinLimits (sent ++ sent_by given)
  after : script_of (sent ++ sent_by given) ≡ end

then_ok : (r : Result Script Refusal) (f : Script → Result Script Refusal) (end : Script) → and_then r f ≡ Ok end →
    (next : Script) × (r ≡ Ok next) × (f next ≡ Ok end)
then_ok (Ok next) f end given = (next, refl, given)
then_ok (Err refusal) f end given = absurd (cc)

lines_ok : (prefixes : Prefixes) (at : ℕ) (sent : List (List ℕ × Item)) (lines : List (List ℕ)) (end : Script) →
    IsWithinLimits sent → with_lines prefixes at (script_of sent) lines ≡ Ok end → AreLinesOf prefixes sent lines end
lines_ok prefixes at sent [] end within given =
    let same : script_of sent ≡ end = cc in
    record {
      given = [];
      are = tt;
      within = same_limits sent (sent ++ []) (sym (append-nil sent)) within;
      after = ap script_of (append-nil sent) ∙ same;
    }
lines_ok prefixes at sent (line ∷ lines) end within given =
    let next = then_ok (with_line prefixes at (script_of sent) line) _ end given in
    let here = line_ok prefixes at sent line within next.0 next.1 in
    let all = sent ++ sent_one here.given in
    let go : with_lines prefixes (suc at) (script_of all) lines ≡ Ok end =
    ap (λ (s : Script). with_lines prefixes (suc at) s lines) here.after ∙ next.2 in
    let more = lines_ok prefixes (suc at) all lines end here.within go in
    let same = sent_joined sent here.given more.given in
    record {
      given = here.given ∷ more.given;
      are = (here.is, more.are);
      within = same_limits (all ++ sent_by more.given) (sent ++ sent_by (here.given ∷ more.given)) same more.within;
      after = ap script_of (sym same) ∙ more.after;
    }

-- where lines are refused
record AreRefusedAt (prefixes : Prefixes) (at : ℕ) (sent : List (List ℕ × Item)) (lines : List (List ℕ))
    (refusal : Refusal) : Type 0 where
  before : List (List ℕ)
  line : List ℕ
  behind : List (List ℕ)
  cut : lines ≡ before ++ line ∷ behind
  given : List (Option (List ℕ × Item))
  are : AreLines prefixes before given
  within : IsWithinLimits (sent ++ sent_by given)
  faulty : IsFaulty prefixes (sent ++ sent_by given) line (at + length before) refusal

then_err : (r : Result Script Refusal) (f : Script → Result Script Refusal) (refusal : Refusal) →
    and_then r f ≡ Err refusal →
    (r ≡ Err refusal) ⊎ ((next : Script) × (r ≡ Ok next) × (f next ≡ Err refusal))
then_err (Ok next) f refusal given = inr (next, refl, given)
then_err (Err other) f refusal given = inl given

lines_err : (prefixes : Prefixes) (at : ℕ) (sent : List (List ℕ × Item)) (lines : List (List ℕ)) (refusal : Refusal) →
    IsWithinLimits sent → with_lines prefixes at (script_of sent) lines ≡ Err refusal →
    AreRefusedAt prefixes at sent lines refusal
lines_err prefixes at sent [] refusal within given = absurd (cc)
lines_err prefixes at sent (line ∷ lines) refusal within given =
    elim (then_err (with_line prefixes at (script_of sent) line) _ refusal given) [
      | inl here ↦
          let faulty = line_err prefixes at sent line within refusal here in
          let here_at : at ≡ at + 0 = omega arith in
          record {
            before = [];
            line = line;
            behind = lines;
            cut = refl;
            given = [];
            are = tt;
            within = same_limits sent (sent ++ []) (sym (append-nil sent)) within;
            faulty = subst (λ (xs : List (List ℕ × Item)). IsFaulty prefixes xs line (at + 0) refusal)
                (sym (append-nil sent))
                (subst (λ (n : ℕ). IsFaulty prefixes sent line n refusal) here_at faulty);
          }
      | inr next ↦
          let here = line_ok prefixes at sent line within next.0 next.1 in
          let all = sent ++ sent_one here.given in
          let go : with_lines prefixes (suc at) (script_of all) lines ≡ Err refusal =
          ap (λ (s : Script). with_lines prefixes (suc at) s lines) here.after ∙ next.2 in
          let more = lines_err prefixes (suc at) all lines refusal here.within go in
          let same = sent_joined sent here.given more.given in
          let number : suc at + length more.before ≡ at + suc (length more.before) = omega arith in
          record {
            before = line ∷ more.before;
            line = more.line;
            behind = more.behind;
            cut = ap (λ (ls : List (List ℕ)). line ∷ ls) more.cut;
            given = here.given ∷ more.given;
            are = (here.is, more.are);
            within = same_limits (all ++ sent_by more.given) (sent ++ sent_by (here.given ∷ more.given))
                same more.within;
            faulty = subst
                (λ (xs : List (List ℕ × Item)).
                IsFaulty prefixes xs more.line (at + suc (length more.before)) refusal)
                same
                (subst (λ (n : ℕ). IsFaulty prefixes (all ++ sent_by more.given) more.line n refusal)
                number more.faulty);
          }
    ]

-- what is sent first is within the limits, where all is
budget_joined : (xs ys : List (List ℕ × Item)) → budget_sum (xs ++ ys) ≡ budget_sum xs + budget_sum ys
budget_joined [] ys = omega arith
budget_joined (x ∷ xs) ys = let more = budget_joined xs ys in omega (arith, more)

names_joined : (xs ys : List (List ℕ × Item)) → names_of (xs ++ ys) ≡ names_after (names_of xs) ys
names_joined xs ys =
    sym (final_names (xs ++ ys))
    ∙ (ap (λ (s : Script). s.names) (after_joined no_lines xs ys)
    ∙ (names_are (script_of xs) ys ∙ ap (λ (ns : List (List ℕ)). names_after ns ys) (final_names xs)))

front_within : (xs ys : List (List ℕ × Item)) → IsWithinLimits (xs ++ ys) → IsWithinLimits xs
front_within xs ys within =
    let budgets = budget_joined xs ys in
    let size = length-append xs ys in
    let names = ap length (names_joined xs ys) in
    let grow = more_names (names_of xs) ys in
    let b = within.few_budgets in
    let i = within.few_items in
    let c = within.few_clients in
    record {
      few_budgets = omega (arith, budgets, b);
      few_items = omega (arith, size, i);
      few_clients = omega (arith, names, grow, c);
    }

lines_keep : (prefixes : Prefixes) (at : ℕ) (sent : List (List ℕ × Item)) (lines : List (List ℕ))
    (given : List (Option (List ℕ × Item))) → AreLines prefixes lines given → IsWithinLimits (sent ++ sent_by given) →
    with_lines prefixes at (script_of sent) lines ≡ Ok (script_of (sent ++ sent_by given))
lines_keep prefixes at sent [] [] are within =
    ap (λ (xs : List (List ℕ × Item)). Ok (script_of xs)) (sym (append-nil sent))
lines_keep prefixes at sent [] (one ∷ given) are within = absurd are
lines_keep prefixes at sent (line ∷ lines) [] are within = absurd are
lines_keep prefixes at sent (line ∷ lines) (one ∷ given) are within =
    let all = sent ++ sent_one one in
    let same = sent_joined sent one given in
    let few = same_limits (sent ++ sent_by (one ∷ given)) (all ++ sent_by given) (sym same) within in
    let here = front_within all (sent_by given) few in
    let first = line_keep prefixes at sent line (front_within sent (sent_one one) here) one are.0 here in
    ap (λ (r : Result Script Refusal). and_then r (λ next. with_lines prefixes (suc at) next lines)) first
    ∙ (lines_keep prefixes (suc at) all lines given are.1 few
    ∙ ap (λ (xs : List (List ℕ × Item)). Ok (script_of xs)) same)

lines_joined : (prefixes : Prefixes) (at : ℕ) (s next : Script) (before more : List (List ℕ)) →
    with_lines prefixes at s before ≡ Ok next →
    with_lines prefixes at s (before ++ more) ≡ with_lines prefixes (at + length before) next more
lines_joined prefixes at s next [] more given =
    let same : s ≡ next = cc in
    ap (λ (x : Script). with_lines prefixes at x more) same
    ∙ ap (λ (n : ℕ). with_lines prefixes n next more) (omega arith)
lines_joined prefixes at s next (line ∷ before) more given =
    let step = then_ok (with_line prefixes at s line) _ next given in
    let number : suc at + length before ≡ at + suc (length before) = omega arith in
    ap (λ (r : Result Script Refusal). and_then r (λ x. with_lines prefixes (suc at) x (before ++ more))) step.1
    ∙ (lines_joined prefixes (suc at) step.0 next before more step.2
    ∙ ap (λ (n : ℕ). with_lines prefixes n next more) number)

nothing_within : IsWithinLimits []
nothing_within = record { few_budgets = omega arith; few_items = omega arith; few_clients = omega arith }

-- what is read of lines is their script
pub script_read : (prefixes : Prefixes) (at : ℕ) (lines : List (List ℕ)) (s : Script) →
    with_lines prefixes at no_lines lines ≡ Ok s → IsScript prefixes lines s.names s.items
script_read prefixes at lines s given =
    let all = lines_ok prefixes at [] lines s nothing_within given in
    let sent = sent_by all.given in
    let names : s.names ≡ names_of sent = ap (λ (x : Script). x.names) (sym all.after) ∙ final_names sent in
    let items : s.items ≡ numbered_items (names_of sent) sent =
    ap (λ (x : Script). x.items) (sym all.after) ∙ final_items sent in
    record {
      given = all.given;
      lines_are = all.are;
      clients = names;
      sent = items ∙ ap (λ (ns : List (List ℕ)). numbered_items ns sent) (sym names);
      within = all.within;
    }

-- what is a script of lines is read
pub script_again : (prefixes : Prefixes) (at : ℕ) (lines : List (List ℕ)) (names : List (List ℕ))
    (items : List (ℕ × Item)) →
    IsScript prefixes lines names items →
    (s : Script) × (with_lines prefixes at no_lines lines ≡ Ok s) × (s.names ≡ names) × (s.items ≡ items)
script_again prefixes at lines names items is =
    let sent = sent_by is.given in
    let same : (script_of sent).names ≡ names = final_names sent ∙ sym is.clients in
    let all : (script_of sent).items ≡ items =
    final_items sent ∙ (ap (λ (ns : List (List ℕ)). numbered_items ns sent) (sym is.clients) ∙ sym is.sent) in
    (script_of sent, lines_keep prefixes at [] lines is.given is.lines_are is.within, same, all)

-- what refuses lines is their refusal
pub script_refused : (prefixes : Prefixes) (at : ℕ) (lines : List (List ℕ)) (refusal : Refusal) →
    with_lines prefixes at no_lines lines ≡ Err refusal → IsScriptRefusal prefixes lines at refusal
script_refused prefixes at lines refusal given =
    let all = lines_err prefixes at [] lines refusal nothing_within given in
    record {
      before = all.before;
      line = all.line;
      behind = all.behind;
      cut = all.cut;
      given = all.given;
      lines_are = all.are;
      within = all.within;
      faulty = all.faulty;
    }

-- what is a refusal of lines refuses them
pub refused_again : (prefixes : Prefixes) (at : ℕ) (lines : List (List ℕ)) (refusal : Refusal) →
    IsScriptRefusal prefixes lines at refusal → with_lines prefixes at no_lines lines ≡ Err refusal
refused_again prefixes at lines refusal is =
    let sent = sent_by is.given in
    let before = lines_keep prefixes at [] is.before is.given is.lines_are is.within in
    let here = line_faulty prefixes (at + length is.before) sent is.line is.within refusal is.faulty in
    ap (with_lines prefixes at no_lines) is.cut
    ∙ (lines_joined prefixes at no_lines (script_of sent) is.before (is.line ∷ is.behind) before
    ∙ ap (λ (r : Result Script Refusal). and_then r
    (λ next. with_lines prefixes (suc (at + length is.before)) next is.behind)) here)

-- a script's items are of its clients
pub script_clients : (prefixes : Prefixes) (lines : List (List ℕ)) (names : List (List ℕ)) (items : List (ℕ × Item)) →
    IsScript prefixes lines names items → AreOfClients names items
script_clients prefixes lines names items is =
    let sent = sent_by is.given in
    let all : All (λ (one : ℕ × Item). one.0 < length names) (numbered_items names sent) =
    subst (λ (ns : List (List ℕ)). All (λ (one : ℕ × Item). one.0 < length ns) (numbered_items ns sent))
    (sym is.clients) (all_of_clients sent) in
    subst (λ (xs : List (ℕ × Item)). All (λ (one : ℕ × Item). one.0 < length names) xs) (sym is.sent) all
