use Rattle.std.proofs.Common.{◌≡◌, drop}
use Rattle.rif_builtins.specs.Extensions.{match_terms}
use Rattle.rif_builtins.proofs.matching.terms_match.Given as goal

abbrev pub invariant-loop-place : goal.invariant-loop-place
invariant-loop-place l =
    match_terms (drop l.place l.terms) l.longer (drop l.place l.constants) ≡ match_terms l.terms l.fn.row l.constants
