-- How the code goes through leaves, and what they lead to.
--     Goes, Steps       one leaf, by what has still to come
--     LeadsTo           all of them: a document with the names of its rules, or a refusal at its place
use Rattle.std.specs.Prelude.{◌≡◌, ◌≤◌, ◌<◌, ◌+◌, ◌⊎◌, ℕ, Bool, List, [], length, take, get_or, Option, Some, None}
use Rattle.std.specs.Prelude.{MatchBool}
use Rattle.prd_grammar.specs.declared.leaf.Leaf.{Leaf}
use Rattle.prd_recognition.specs.declared.want.Want.{Want}
use Rattle.prd_recognition.specs.declared.want.Want.TheVariants.{PrefixName, PrefixIri, Variable, TypeName, Open}
use Rattle.prd_recognition.specs.declared.want.Want.TheVariants.{Close}
use Rattle.prd_recognition.specs.declared.want.Want.TheVariants.{OpenSquare, CloseSquare, Arrow, Carets, That, Then}
use Rattle.prd_recognition.specs.declared.want.Want.TheVariants.{Do}
use Rattle.prd_grammar.specs.declared.cause.Cause.{Cause}
use Rattle.prd_grammar.specs.declared.cause.Cause.TheVariants.{Expected}
use Rattle.prd_recognition.specs.declared.recognizing.Outcome.{Outcome}
use Rattle.prd_recognition.specs.declared.recognizing.Outcome.TheVariants.{Document as DocumentOutcome, Refused}
use Rattle.prd_recognition.specs.Following.{after, at_first, followed, step}
use Rattle.prd_grammar.specs.Progress.{at_start, names_read, progress_of}
use Rattle.prd_grammar.specs.Refusals.{IsClear, IsDocument, IsRefusedAt, cause_at, unexpected}

-- where the leaf can come, more has come before what had to come
abbrev pub Goes : Bool → Option (List Want) → List Want → List Want → Type 0
Goes can more old new = MatchBool can (followed more old ≡ Some new) (more ≡ None)

abbrev pub Steps : Bool → Leaf → List Want → List Want → Type 0
Steps can l old new = MatchBool can (step (Some old) l ≡ Some new) (step (Some old) l ≡ None)

-- wants of a single leaf
abbrev pub IsFixed : Want → Type 0
IsFixed PrefixName = Unit {0}
IsFixed PrefixIri = Unit {0}
IsFixed Variable = Unit {0}
IsFixed TypeName = Unit {0}
IsFixed Open = Unit {0}
IsFixed Close = Unit {0}
IsFixed OpenSquare = Unit {0}
IsFixed CloseSquare = Unit {0}
IsFixed Arrow = Unit {0}
IsFixed Carets = Unit {0}
IsFixed That = Unit {0}
IsFixed Then = Unit {0}
IsFixed Do = Unit {0}
IsFixed _ = ⊥

-- How the code stops at a place: what stands before it is followed, and this decides.
pub record Halts (ls : List Leaf) (place : ℕ) (cause : Cause) : Type 0 where
  pub within : place ≤ length ls
  pub front : (stack : List Want) × (after at_first (take place ls) ≡ Some stack)
      × (place ≡ length ls → stack ≡ [] → ⊥)
  pub clear : IsClear ls place
  pub here : (d : Leaf) → place < length ls →
      ((after at_first (take (place + 1) ls) ≡ None) × (cause ≡ unexpected (get_or ls place d)))
      ⊎ (((stack : List Want) × (after at_first (take (place + 1) ls) ≡ Some stack))
      × (cause_at (progress_of (take place ls)) (get_or ls place d) ≡ Some cause))
  pub end : place ≡ length ls → cause ≡ Expected

-- How it goes through, with the names of the rules.
pub record Passes (ls : List Leaf) (names : List (List (List ℕ))) : Type 0 where
  pub whole : after at_first ls ≡ Some []
  pub clear : IsClear ls (length ls)
  pub read : names ≡ names_read at_start ls

abbrev pub Recognizes : List Leaf → Outcome → Type 0
Recognizes ls (DocumentOutcome names) = Passes ls names
Recognizes ls (Refused place cause) = Halts ls place cause

-- What leaves lead to: a document at which no refusal stands, with the names of its rules, or the refusal that
-- decides.
abbrev pub LeadsTo : List Leaf → Outcome → Type 0
LeadsTo ls (DocumentOutcome names) = IsDocument ls × IsClear ls (length ls) × (names ≡ names_read at_start ls)
LeadsTo ls (Refused place cause) = IsRefusedAt ls place cause
