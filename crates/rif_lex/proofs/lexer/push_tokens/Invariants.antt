use Rattle.std.proofs.Common.{◌≡◌, ◌≤◌, ◌-◌, drop, length}
use Rattle.rif_lex.specs.Lexing.{tokens_from, tokens_of, with_front}
use Rattle.rif_lex.specs.Scanning.{IsCounted}
use Rattle.rif_lex.proofs.lexer.push_tokens.Given as goal

abbrev pub invariant-loop-place : goal.invariant-loop-place
invariant-loop-place l = record {
  within : l.place.offset ≤ length l.text;
  counted : IsCounted l.place;
  so_far : with_front l.found.items (tokens_from 0 l.place (drop l.place.offset l.text))
      ≡ with_front l.initial.found.items (tokens_of l.text);
}

abbrev pub decreases-loop-place : goal.decreases-loop-place
decreases-loop-place l = length l.text - l.place.offset
