use Rattle.std.proofs.Common.{ℕ, sym, subst, ◌≤◌, length}
use Rattle.rif_script.proofs.TextLineLemmas.{line_within}
use Rattle.rif_script.proofs.document_part.first_line.Goals as goal

pub split_at-requires : goal.split_at-requires
split_at-requires c =
    subst (λ (n : ℕ). n ≤ length c.args.text.now) (sym c.line_length.ensures) (line_within c.args.text.now)
