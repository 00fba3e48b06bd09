-- The words that the grammar spells.
--     keyword_text k        the text of a keyword
--     keyword_named text    the keyword of a text, where it is one
-- Source: our own (docs/FORMATS.md, "Grammar").
use Rattle.std.specs.Prelude.{ℕ, List, [], ◌∷◌, codes, bytes_eq}
use Rattle.std.specs.List.{find}
use Rattle.std.specs.declared.option.Option.{Option}
use Rattle.rif_tree.specs.declared.keyword.Keyword.{Keyword}
use Rattle.rif_tree.specs.declared.keyword.Keyword.TheVariants.{Document, Prefix, Group, Forall, Such, That, If, Then}
use Rattle.rif_tree.specs.declared.keyword.Keyword.TheVariants.{Do, New, Assert, Retract, Modify, And, Or, Not, INeg}
use Rattle.rif_tree.specs.declared.keyword.Keyword.TheVariants.{Exists, External, True, False}

abbrev pub keyword_text : Keyword → List ℕ
keyword_text Document = codes "Document"
keyword_text Prefix = codes "Prefix"
keyword_text Group = codes "Group"
keyword_text Forall = codes "Forall"
keyword_text Such = codes "such"
keyword_text That = codes "that"
keyword_text If = codes "If"
keyword_text Then = codes "Then"
keyword_text Do = codes "Do"
keyword_text New = codes "New"
keyword_text Assert = codes "Assert"
keyword_text Retract = codes "Retract"
keyword_text Modify = codes "Modify"
keyword_text And = codes "And"
keyword_text Or = codes "Or"
keyword_text Not = codes "Not"
keyword_text INeg = codes "INeg"
keyword_text Exists = codes "Exists"
keyword_text External = codes "External"
keyword_text True = codes "true"
keyword_text False = codes "false"

abbrev pub keywords : List Keyword
keywords =
    Document ∷ Prefix ∷ Group ∷ Forall ∷ Such ∷ That ∷ If ∷ Then ∷ Do ∷ New ∷ Assert ∷ Retract ∷ Modify ∷ And ∷ Or
    ∷ Not ∷ INeg ∷ Exists ∷ External ∷ True ∷ False ∷ []

abbrev pub keyword_named : List ℕ → Option Keyword
keyword_named text = find (λ k. bytes_eq text (keyword_text k)) keywords
