-- Where the code stops is where a refusal decides, as far as the grammar is followed.
use Rattle.std.proofs.Common.{◌≡◌, ◌∙◌, ◌+◌, inl, inr, ⊎_elim, sym, ap, ℕ, List, [], ◌++◌, length, take, Some, None}
use Rattle.std.proofs.Common.{arith}
use Rattle.std.proofs.lemmas.List.{take_all}
use Rattle.std.specs.declared.option.Option.{Option}
use Rattle.prd_grammar.specs.declared.cause.Cause.{Cause}
use Rattle.prd_grammar.specs.declared.leaf.Leaf.{Leaf}
use Rattle.prd_recognition.specs.declared.recognizing.Outcome.{Outcome}
use Rattle.prd_recognition.specs.declared.recognizing.Outcome.TheVariants.{Document, Refused}
use Rattle.prd_recognition.specs.declared.want.Want.{Want}
use Rattle.prd_recognition.specs.Following.{GrammarIsFollowed, after, at_first}
use Rattle.prd_grammar.specs.Progress.{at_start, names_read}
use Rattle.prd_recognition.specs.Recognizing.{Halts, LeadsTo, Passes, Recognizes}
use Rattle.prd_grammar.specs.Refusals.{IsClear, IsDocument, IsFront, IsRefusedAt}
use Rattle.prd_recognition.proofs.HaltingLemmas.{after_append, after_none}

document_to : GrammarIsFollowed → (ls : List Leaf) → IsDocument ls → after at_first ls ≡ Some []
document_to laws ls doc = ap (after at_first) (sym doc.1) ∙ laws.goes doc.0

front_from : GrammarIsFollowed → (ls : List Leaf) (stack : List Want) → after at_first ls ≡ Some stack → IsFront ls
front_from laws ls stack goes =
    let end = laws.ends stack in (
      end.0,
      laws.comes (ls ++ end.0)
          (after_append at_first ls end.0 ∙ (ap (λ (s : Option (List Want)). after s end.0) goes ∙ end.1)),
    )

none_or_some : (state : Option (List Want)) → state ≡ None → state ≡ Some [] → ⊥
none_or_some state none some = absurd (cc)

no_front : GrammarIsFollowed → (ls : List Leaf) → after at_first ls ≡ None → IsFront ls → ⊥
no_front laws ls none front =
    none_or_some (after at_first (ls ++ front.0))
    (after_append at_first ls front.0 ∙ (ap (λ (s : Option (List Want)). after s front.0) none ∙ after_none front.0))
    (document_to laws (ls ++ front.0) front.1)

ends_at_none : (state : Option (List Want)) (stack : List Want) → state ≡ Some stack → state ≡ Some [] → stack ≡ []
ends_at_none state stack is none = cc

pub refused : GrammarIsFollowed → (ls : List Leaf) (place : ℕ) (cause : Cause) → Halts ls place cause →
    IsRefusedAt ls place cause
refused laws ls place cause halts = record {
  within = halts.within;
  front = front_from laws (take place ls) halts.front.0 halts.front.1;
  clear = halts.clear;
  here = λ d inside. ⊎_elim (λ none. inl (no_front laws (take (place + 1) ls) none.0, none.1))
      (λ some. inr (front_from laws (take (place + 1) ls) some.0.0 some.0.1, some.1)) (halts.here d inside);
  end = λ all. (
    (λ doc. halts.front.2 all (ends_at_none (after at_first ls) halts.front.0
        (sym (ap (after at_first) (take_all place ls (omega (arith, all))))
        ∙ halts.front.1) (document_to laws ls doc))),
    halts.end all,
  );
}

-- what the code reads is a document without a refusal, with its rules' names
read : GrammarIsFollowed → (ls : List Leaf) (names : List (List (List ℕ))) → Passes ls names →
    IsDocument ls × IsClear ls (length ls) × (names ≡ names_read at_start ls)
read laws ls names passes = (laws.comes ls passes.whole, passes.clear, passes.read)

pub leads_to : GrammarIsFollowed → (ls : List Leaf) (outcome : Outcome) → Recognizes ls outcome → LeadsTo ls outcome
leads_to laws ls (Document names) passes = read laws ls names passes
leads_to laws ls (Refused place cause) halts = refused laws ls place cause halts
