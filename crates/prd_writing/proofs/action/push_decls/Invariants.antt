use Rattle.std.proofs.Common.{◌≡◌, ◌++◌, List, map, drop}
use Rattle.rif_lex.specs.Spelling.{Spelled, spelled_text}
use Rattle.prd_writing.specs.Canonical.{spaced, decl_spelling}
use Rattle.prd_writing.proofs.action.push_decls.Given as goal

abbrev pub invariant-loop-decl : goal.invariant-loop-decl
invariant-loop-decl l =
    (rest : List Spelled) →
    l.out.items ++ spelled_text (spaced (map (decl_spelling l.names) (drop l.decl-index l.decls)) rest)
    ≡ l.fn.out.items ++ spelled_text (spaced (map (decl_spelling l.names) l.decls) rest)
