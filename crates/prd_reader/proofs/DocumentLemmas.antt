-- What reading the leaves of a document gives.
use Rattle.std.proofs.Common.{◌≡◌, ◌∙◌, ℕ, List, [], length, Option, Some, None, ap, sym, subst}
use Rattle.rif_tree.specs.declared.rule.Doc.{Doc}
use Rattle.rif_lex.specs.declared.token.Token.{Token}
use Rattle.prd_grammar.specs.declared.cause.Cause.{Cause}
use Rattle.prd_grammar.specs.declared.leaf.Leaf.{Leaf}
use Rattle.prd_recognition.specs.declared.recognizing.Outcome.{Outcome}
use Rattle.prd_recognition.specs.declared.recognizing.Outcome.TheVariants.{Document}
use Rattle.prd_building.specs.Building.{Builds}
use Rattle.prd_leaves.specs.Documents.{IsRead, IsRefused, column_of, line_of}
use Rattle.prd_leaves.specs.Leaves.{leaves_of, prefixes_from}
use Rattle.prd_limits.specs.Limits.{KeepsLimits, KeepsPlaces}
use Rattle.prd_grammar.specs.Prefixes.{Prefixes}
use Rattle.prd_grammar.specs.Progress.{at_start, names_read}
use Rattle.prd_recognition.specs.Recognizing.{LeadsTo}
use Rattle.prd_grammar.specs.Refusals.{IsClear, IsRefusedAt, refusal_at}
use Rattle.prd_grammar.specs.Trees.{DocumentTree, spell_document}
use Rattle.prd_grammar.specs.Values.{document_value}
use Rattle.prd_limits.proofs.CallerLemmas.{counts}
use Rattle.prd_leaves.proofs.CallerLemmas.{count_of_leaves}
use Rattle.prd_limits.proofs.CallerLemmas.{places}
use Rattle.prd_leaves.proofs.CallerLemmas.{declared}

-- what is built of leaves that are recognised is the value of a tree that they spell
pub built_of : (ls : List Leaf) (names : List (List (List ℕ))) (built : Option Doc) → LeadsTo ls (Document names)
    → Builds ls names built → (t : DocumentTree) × (spell_document t ≡ ls) × (built ≡ Some (document_value t))
built_of ls names built leads builds =
    let t = leads.0.0 in
    let spelled = leads.0.1 in
    (t, spelled, builds t spelled (leads.2 ∙ (ap (names_read at_start) (sym spelled) ∙ counts.names t)))

same_doc : (a b : Doc) → Some a ≡ Some b → a ≡ b
same_doc a b same = cc

pub is_read : (tokens : List Token) (bytes : List ℕ) (ls : List Leaf) (prefixes : Prefixes)
    (names : List (List (List ℕ)))
    (built : Option Doc) (doc : Doc) → ls ≡ leaves_of bytes tokens →
    prefixes ≡ prefixes_from [] [] (leaves_of bytes tokens)
    → LeadsTo ls (Document names) → Builds ls names built → built ≡ Some doc → IsRead tokens bytes doc prefixes
is_read tokens bytes ls prefixes names built doc are found leads builds some =
    let tree = built_of ls names built leads builds in
    record {
      tree = tree.0;
      spelled = tree.1 ∙ are;
      clear = subst (IsClear (leaves_of bytes tokens)) (count_of_leaves bytes tokens)
          (subst (λ (all : List Leaf). IsClear all (length all)) are leads.1);
      value = same_doc _ _ (sym tree.2 ∙ some);
      declared = sym (declared tree.0) ∙ (ap (prefixes_from [] []) (tree.1 ∙ are) ∙ sym found);
    }

pub always_built : (ls : List Leaf) (names : List (List (List ℕ))) (built : Option Doc) → LeadsTo ls (Document names)
    → Builds ls names built → built ≡ None → ⊥
always_built ls names built leads builds none =
    let is = (built_of ls names built leads builds).2 in absurd (cc)

clear_of : (tokens : List Token) (bytes : List ℕ) (doc : Doc) (prefixes : Prefixes)
    (read : IsRead tokens bytes doc prefixes)
    → IsClear (spell_document read.tree) (length (spell_document read.tree))
clear_of tokens bytes doc prefixes read =
    subst (λ (all : List Leaf). IsClear all (length all)) (sym read.spelled)
    (subst (IsClear (leaves_of bytes tokens)) (sym (count_of_leaves bytes tokens)) read.clear)

pub keeps_limits : (tokens : List Token) (bytes : List ℕ) (doc : Doc) (prefixes : Prefixes) →
    IsRead tokens bytes doc prefixes
    → KeepsLimits doc
keeps_limits tokens bytes doc prefixes read =
    subst KeepsLimits read.value (counts.limits read.tree (clear_of tokens bytes doc prefixes read))

pub keeps_places : (tokens : List Token) (bytes : List ℕ) (doc : Doc) (prefixes : Prefixes) →
    IsRead tokens bytes doc prefixes
    → KeepsPlaces doc
keeps_places tokens bytes doc prefixes read = subst KeepsPlaces read.value (places read.tree)

pub is_refused : (tokens : List Token) (bytes : List ℕ) (ls : List Leaf) (place : ℕ) (cause : Cause) (line col : ℕ)
    → ls ≡ leaves_of bytes tokens → IsRefusedAt ls place cause → line ≡ line_of bytes tokens place →
    col ≡ column_of bytes tokens place
    → IsRefused tokens bytes (refusal_at cause line col)
is_refused tokens bytes ls place cause line col are refused on_line in_column = record {
  place = place;
  cause = cause;
  decides = subst (λ (all : List Leaf). IsRefusedAt all place cause) are refused;
  is = ap (λ (l : ℕ). refusal_at cause l col) on_line ∙ ap (refusal_at cause (line_of bytes tokens place)) in_column;
}

-- The same of what the steps of reading give: leaves, what they lead to, and what is built.
module _ (tokens told : List Token) (bytes : List ℕ) (ls seen shown : List Leaf) (prefixes : Prefixes)
    (outcome : Outcome) (names given : List (List (List ℕ))) (built : Option Doc)
    (tokens_are : told ≡ tokens)
    (found : (ls ≡ leaves_of bytes told) × (prefixes ≡ prefixes_from [] [] (leaves_of bytes told)))
    (seen_is : seen ≡ ls) (shown_is : shown ≡ ls) (given_is : given ≡ names)
    (leads : LeadsTo seen outcome) (outcome_is : outcome ≡ Document names) (builds : Builds shown given built) where
  leads_so : LeadsTo ls (Document names)
  leads_so = subst (LeadsTo ls) outcome_is (subst (λ (all : List Leaf). LeadsTo all outcome) seen_is leads)

  builds_so : Builds ls names built
  builds_so =
      subst (λ (all : List Leaf). Builds all names built) shown_is
      (subst (λ (all : List (List (List ℕ))). Builds shown all built) given_is builds)

  pub read_by : (doc : Doc) → built ≡ Some doc → IsRead tokens bytes doc prefixes
  read_by doc some =
      subst (λ (ts : List Token). IsRead ts bytes doc prefixes) tokens_are
      (is_read told bytes ls prefixes names built doc found.0 found.1 leads_so builds_so some)

  pub built_always : built ≡ None → ⊥
  built_always none = always_built ls names built leads_so builds_so none
