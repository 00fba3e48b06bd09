use Rattle.std.proofs.Common.{◌≡◌, drop}
use Rattle.std.specs.List.{find}
use Rattle.std.specs.Prelude.{bytes_eq}
use Rattle.rif_tree.specs.Keywords.{keyword_text, keyword_named, keywords}
use Rattle.rif_tree.proofs.keyword.Keyword.named.Given as goal

abbrev pub invariant-loop-keyword : goal.invariant-loop-keyword
invariant-loop-keyword l =
    find (λ keyword. bytes_eq l.text (keyword_text keyword)) (drop l.keyword-index keywords) ≡ keyword_named l.text
